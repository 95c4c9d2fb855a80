-- "This is the carry of that prefix": what a fresh carry starts, and a block keeps.
use Prim.Native.Nat.{ℕ, suc, ◌+◌, ◌-◌, ◌≤◌, ◌<◌}
use mathlib.Core.Path.{◌≡◌, refl, sym, ap, ◌∙◌, subst}
use mathlib.Core.List.{List, [], ◌++◌, append_assoc}
use native.Mathlib.Nat.{zero-add}
use native.Mathlib.Omega.{arith}
use lib.ListN.{length, take, drop, replicate, length-append}
use lib.Seq.{drop-append-le, drop-append-add, drop-drop}
use Rattle.terms.specs.declared.Settings.{Settings}
use Rattle.terms.proofs.Ranges.{Ranges}
use Rattle.rule.specs.Rule.{hop}
use Rattle.rule.proofs.Hops.{UpTo, past, up_to_joined, last_is, stands, hop_rises}
use Rattle.signature.specs.Polynomials.{fold_digits, rem}
use Rattle.signature.specs.Signatures.{number, signature, signature_of}
use Rattle.cutting.specs.Marks.{mark, matches}
use Rattle.cutting.proofs.Marked.{mark_within}
use Rattle.pass_carry.specs.declared.Carry.{Carry}
use Rattle.pass_carry.specs.Carries.{fresh_carry, block_taken, cuts_in}
use Rattle.pass_carry.proofs.Sees.{Sees, sees_first}
use Rattle.pass_carry.proofs.Bytes.{Continues, Hopped, block_hops}
use Rattle.pass_carry.proofs.Parts.{length_slid_by, Parts, parts, since_last}

-- the log with the zeros that a window shows before its start
abbrev pub padded : List ℕ → List ℕ
padded log = replicate 48 0 ++ log

abbrev pub onward : Settings → List ℕ → ℕ → ℕ
onward s log = hop (mark s log) s.minimum s.maximum

-- c is the carry of the log as far as rest, and these are the cuts written so far
pub record CarryOf (s : Settings) (log rest written : List ℕ) (c : Carry) : Type 0 where
  pub same : c.settings ≡ s
  pub open_still : c.closed ≡ 0
  pub here : c.taken + length rest ≡ length log
  pub whole : length c.window ≡ 48
  pub ahead : c.window ++ rest ≡ drop c.taken (padded log)
  pub signed : c.signature ≡ signature_of c.window
  pub last : ℕ
  pub tied : last + c.since ≡ c.taken
  pub cuts : UpTo (onward s log) c.taken 0 written last

pub rises : (s : Settings) (log : List ℕ) → Ranges s → (m : ℕ) → m < onward s log m
rises s log ok = hop_rises (mark s log) s.minimum s.maximum ok.positive ok.ordered

pub fresh_prefix : (s : Settings) (log : List ℕ) → Ranges s → CarryOf s log log [] (fresh_carry s)
unfolding fresh_carry
fresh_prefix s log ok =
    record {
      same = refl;
      open_still = refl;
      here = zero-add (length log);
      whole = refl;
      ahead = refl;
      signed = unfold signature_of signature rem number fold_digits in refl;
      last = 0;
      tied = refl;
      cuts = past (rises s log ok 0);
    }

-- the 48 bytes before an offset past 48 are the log's own
padded_drop : (log : List ℕ) (p : ℕ) → 48 ≤ p → drop p (padded log) ≡ drop (p - 48) log
padded_drop log p h =
    let e : p ≡ 48 + (p - 48) = omega arith in
    ap (λ n. drop n (padded log)) e ∙ drop-append-add (replicate 48 0) log (p - 48)

module _ (s : Settings) (log rest written : List ℕ) (c : Carry) (ok : Ranges s) (is : CarryOf s log rest written c) where
  -- what comes next is seen by the log's marks
  sees_rest : Sees (mark s log) c rest
  sees_rest =
      record {
        far = rw is.same ok.window-fits;
        order = rw is.same ok.ordered;
        whole = is.whole;
        marks = λ i h p.
            mark_within s log (c.taken + suc i) p (omega (arith, is.here))
            ∙ ap (λ l. matches s (signature_of (take 48 l)))
            (sym (padded_drop log (c.taken + suc i) p) ∙ sym (drop-drop (suc i) c.taken (padded log)) ∙ ap (drop (suc i)) (sym is.ahead))
            ∙ ap (λ t. matches t (signature_of (take 48 (drop (suc i) (c.window ++ rest))))) (sym is.same);
      }

  pub continues_there : Continues (mark s log) c is.last
  continues_there = record { tied = is.tied; ahead = rw is.same (stands (onward s log) c.taken (rises s log ok) is.cuts).ahead }

-- a block keeps it: the cuts that it makes are those of the log up to its end
module _ (s : Settings) (log block after written : List ℕ) (c : Carry) (ok : Ranges s) (is : CarryOf s log (block ++ after) written c) where
  hopped : Hopped (mark s log) c block is.last
  hopped =
      block_hops (mark s log) block c is.last
      (sees_first (mark s log) c block after (sees_rest s log (block ++ after) written c ok is)) (continues_there s log (block ++ after) written c ok is)

  left : Parts c block (block_taken c block)
  left = parts block c is.whole is.signed

  ahead_still : (block_taken c block).window ++ after ≡ drop (block_taken c block).taken (padded log)
  ahead_still =
      let inside : length block ≤ length (c.window ++ block) = simp length-append (omega arith) in
      ap (λ w. w ++ after) left.window_slid
      ∙ sym (drop-append-le (length block) (c.window ++ block) after inside)
      ∙ ap (drop (length block)) (append_assoc c.window block after ∙ is.ahead)
      ∙ drop-drop (length block) c.taken (padded log)
      ∙ ap (λ n. drop n (padded log)) (sym left.taken_grown)

  cuts_here : UpTo (onward s log) (c.taken + length block) is.last (cuts_in c block) hopped.last
  cuts_here = subst (λ t. UpTo (hop (mark s log) t.minimum t.maximum) (c.taken + length block) is.last (cuts_in c block) hopped.last) is.same hopped.cuts

  pub block_prefix : CarryOf s log after (written ++ cuts_in c block) (block_taken c block)
  block_prefix =
      record {
        same = left.settings_kept ∙ is.same;
        open_still = left.closed_kept ∙ is.open_still;
        here = omega (arith, left.taken_grown, is.here, length-append block after);
        whole = ap length left.window_slid ∙ length_slid_by c.window block is.whole;
        ahead = ahead_still;
        signed = left.signature_true;
        last = hopped.last;
        tied = omega (arith, since_last block c is.last is.tied, last_is hopped.cuts, left.taken_grown);
        cuts = rw left.taken_grown (up_to_joined (omega arith) is.cuts cuts_here);
      }
