-- Marks agree where the 48 bytes before them agree; where nothing is a mark.
use Prim.Native.Nat.{ℕ, ◌+◌, ◌-◌, ◌≤◌, ◌<◌}
use mathlib.Core.Path.{◌≡◌, sym, ap, ◌∙◌}
use mathlib.Core.List.{List}
use mathlib.Core.Bool.{true, false}
use native.Mathlib.Omega.{arith}
use lib.Dec.{leb}
use lib.ListN.{length, get_or, drop, length-drop}
use lib.Seq.{length-take-le, get_or-take, get_or-drop, ext_get_or}
use borrow.Author.Tests.{le-leb, lt-leb}
use Rattle.laws.proofs.Cases.{by_test}
use Rattle.terms.specs.declared.Settings.{Settings}
use Rattle.terms.specs.Settings.{in_range}
use Rattle.terms.proofs.Ranges.{ranges}
use Rattle.rule.proofs.Chain.{Rising}
use Rattle.rule.proofs.Next.{rising}
use Rattle.signature.specs.Signatures.{signature_of, window}
use Rattle.cutting.specs.Marks.{matches, mark, next_cut}

-- inside a log an offset is a mark when its signature matches
pub mark_within : (s : Settings) (log : List ℕ) (p : ℕ) → 48 ≤ p → p ≤ length log
    → mark s log p ≡ matches s (signature_of (window log (p - 48)))
unfolding mark
mark_within s log p h k = rw (le-leb 48 p h, le-leb p (length log) k)

-- below the window's length nothing is a mark, and past the log nothing
pub mark_low : (s : Settings) (log : List ℕ) (p : ℕ) → p < 48 → mark s log p ≡ false
unfolding mark
mark_low s log p h = rw (lt-leb 48 p h)

pub mark_past : (s : Settings) (log : List ℕ) (p : ℕ) → length log < p → mark s log p ≡ false
unfolding mark
mark_past s log p h = by_test (leb 48 p) (λ e. rw (e, lt-leb p (length log) h)) (λ e. rw e)

pub marks_agree : (s : Settings) (log log' : List ℕ) (p p' : ℕ) → 48 ≤ p → p ≤ length log → 48 ≤ p' → p' ≤ length log'
    → window log (p - 48) ≡ window log' (p' - 48) → mark s log p ≡ mark s log' p'
marks_agree s log log' p p' h k h' k' e =
    mark_within s log p h k ∙ ap (λ w. matches s (signature_of w)) e ∙ sym (mark_within s log' p' h' k')

-- the same, byte by byte
pub marks_by_bytes : (s : Settings) (log log' : List ℕ) (p p' : ℕ) → 48 ≤ p → p ≤ length log → 48 ≤ p' → p' ≤ length log'
    → ((i : ℕ) → i < 48 → get_or log (p - 48 + i) 0 ≡ get_or log' (p' - 48 + i) 0) → mark s log p ≡ mark s log' p'
marks_by_bytes s log log' p p' h k h' k' same =
    let size : length (window log (p - 48)) ≡ 48 = length-take-le 48 (drop (p - 48) log) (rw length-drop (omega arith)) in
    let size' : length (window log' (p' - 48)) ≡ 48 = length-take-le 48 (drop (p' - 48) log') (rw length-drop (omega arith)) in
    marks_agree s log log' p p' h k h' k'
    (ext_get_or 0 (window log (p - 48)) (window log' (p' - 48)) (omega arith)
    (λ i b. let low : i < 48 = omega arith in rw (get_or-take, get_or-drop, get_or-take, get_or-drop) (same i low)))

-- the next cut rises and stays within the log
pub log_rising : (s : Settings) (log : List ℕ) → in_range s ≡ true → Rising (next_cut s log) (length log)
log_rising s log ok =
    let in-range = ranges s ok in
    rising (mark s log) s.minimum s.maximum (length log) (omega (arith, in-range.window-fits)) in-range.ordered
