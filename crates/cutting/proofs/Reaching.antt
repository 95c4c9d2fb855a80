-- The cuts of a log are a well-formed list that ends at its length.
use Prim.Native.Nat.{ℕ, ◌≤◌, ◌<◌}
use mathlib.Core.Path.{◌≡◌}
use mathlib.Core.Bool.{Bool, true}
use mathlib.Core.List.{List}
use native.Mathlib.Omega.{arith}
use lib.ListN.{length}
use Rattle.terms.specs.declared.Settings.{Settings}
use Rattle.terms.specs.Settings.{in_range}
use Rattle.terms.specs.Answers.{longest}
use Rattle.terms.proofs.Ranges.{ranges}
use Rattle.lists.specs.WellFormed.{well_formed, length_of}
use Rattle.lists.proofs.Reaching.{Reaches, there, step, fits, reaches_last}
use Rattle.rule.specs.Rule.{next, cuts_from}
use Rattle.rule.proofs.Chain.{Run, stay, onward, whole}
use Rattle.rule.proofs.Next.{next_step, rising}
use Rattle.cutting.specs.Marks.{mark, cut_list}

-- under the rule over any marks: the cuts after c reach the log's end
pub cuts_reach : (mark : ℕ → Bool) (lo hi n : ℕ) → 0 < lo → lo ≤ hi → (c : ℕ) → c ≤ n → Reaches lo hi n c (cuts_from mark lo hi n c)
unfolding cuts_from
cuts_reach mark lo hi n positive order c h = along (whole (next mark lo hi n) n (rising mark lo hi n positive order) c h)
  where
    along : {c : ℕ} {l : List ℕ} → Run (next mark lo hi n) n c l n → Reaches lo hi n c l
    along stay = there
    along (onward {c = c} h r) =
        let s = next_step mark lo hi n c order in
        step (s.onward positive h) s.at_most s.at_least (along r)

pub true_list : (settings : Settings) (log : List ℕ) → in_range settings ≡ true → length log ≤ longest
    → (well_formed settings.minimum settings.maximum (cut_list settings log) ≡ true) × (length_of (cut_list settings log) ≡ length log)
unfolding well_formed length_of
true_list settings log ok short =
    let in-range = ranges settings ok in
    let all = cuts_reach (mark settings log) settings.minimum settings.maximum (length log) (omega (arith, in-range.window-fits)) in-range.ordered 0 (omega arith) in
    (fits settings.minimum settings.maximum short all, reaches_last all)
