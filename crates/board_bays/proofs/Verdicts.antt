-- What a table in which no row holds says of its rows.
use Rattle.std.specs.Prelude.{Ok}
use Prim.Native.Nat.{ℕ, zero, suc, ◌+◌, ◌-◌, ◌≤◌, ◌<◌}
use mathlib.Core.Path.{◌≡◌, refl, sym, ap, ◌∙◌, subst}
use mathlib.Core.Bool.{Bool, true}
use mathlib.Core.List.{List}
use native.Mathlib.Nat.{zero-add}
use native.Mathlib.Omega.{arith}
use lib.ListN.{length}
use borrow.Author.Tests.{leb-true, ltb-false, not-false}
use Rattle.laws.proofs.Cases.{both_true}
use Rattle.terms.specs.declared.Settings.{Settings}
use Rattle.terms.specs.declared.Refusal.TheVariants.{RecordTooLong, ListFull}
use Rattle.terms.specs.Rows.{Verdict}
use Rattle.terms.specs.Rows.{verdict, lacks}
use Rattle.terms.proofs.Verdicts.{clear, both_clear}
use Rattle.terms.specs.Settings.{in_range}
use Rattle.terms.specs.Answers.{longest}
use Rattle.board_bays.specs.Segments.{segments, segment_start, segment_end}
use Rattle.board_bays.specs.Bays.{bay_of, is_done, offset_count, record_in, rises_within, marker_fits, is_sound}
use Rattle.board_bays.specs.Judging.{call_rows, bay_rows, bays_rows}

-- rows 1, 2 and 7
pub passed : (s : Settings) (n : ℕ) (fits : Bool) → verdict (call_rows s n fits) ≡ Ok tt → (in_range s ≡ true) × (n ≤ longest) × (fits ≡ true)
unfolding call_rows
passed s n fits v =
    let a = clear _ _ _ v in
    let b = clear _ _ _ a.1 in
    (not-false _ a.0, ltb-false _ _ b.0, not-false _ (clear _ _ _ b.1).0)

pub plain_call : (s : Settings) (n : ℕ) (fits : Bool) → (lacks RecordTooLong (call_rows s n fits) ≡ true) × (lacks ListFull (call_rows s n fits) ≡ true)
unfolding lacks call_rows
plain_call s n fits = (refl, refl)

-- the rows as a call judged them, the last by a test that it asked
pub came : (s : Settings) (n : ℕ) {v w : Verdict} {asked fits : Bool} → v ≡ verdict (call_rows s n asked) → asked ≡ fits → v ≡ w → verdict (call_rows s n fits) ≡ w
came s n told fit e = sym (told ∙ ap (λ t. verdict (call_rows s n t)) fit) ∙ e

-- rows 8 and 9 of a bay
pub record Judged (s : Settings) (n size i : ℕ) (bay : List ℕ) : Type 0 where
  pub done : is_done bay ≡ true
  pub few : offset_count bay ≤ length bay - 2
  pub rises : rises_within (segment_start size i) (segment_end n size i) (record_in bay).offsets ≡ true
  pub fits : marker_fits s.minimum s.maximum i (record_in bay) ≡ true

sound_bay : (s : Settings) (n size i : ℕ) (bay : List ℕ) → is_done bay ≡ true → is_sound s n size i bay ≡ true → Judged s n size i bay
unfolding is_sound
sound_bay s n size i bay d t =
    let a = both_true t in
    let b = both_true a.1 in
    record { done = d; few = leb-true _ _ a.0; rises = b.0; fits = b.1 }

pub done_bay : (s : Settings) (n size i : ℕ) (bay : List ℕ) → verdict (bay_rows s n size i bay) ≡ Ok tt → Judged s n size i bay
unfolding bay_rows
done_bay s n size i bay v =
    let a = clear _ _ _ v in
    sound_bay s n size i bay (not-false _ a.0) (not-false _ (clear _ _ _ a.1).0)

-- of each bay among those from bay i on
module _ (s : Settings) (n size width : ℕ) (board : List ℕ) where
  pub plain_bays : (k i : ℕ) → lacks ListFull (bays_rows s n size width board k i) ≡ true
  unfolding lacks bays_rows bay_rows
  plain_bays zero i = refl
  plain_bays (suc k) i = plain_bays k (suc i)

  pub each_done : (k i j : ℕ) → j < k → verdict (bays_rows s n size width board k i) ≡ Ok tt → Judged s n size (i + j) (bay_of width (i + j) board)
  unfolding bays_rows
  each_done zero i j h v = absurd (omega arith)
  each_done (suc k) i zero h v =
      let here : i + 0 ≡ i = omega arith in
      rw here (done_bay s n size i (bay_of width i board) (both_clear (bay_rows s n size i (bay_of width i board)) (bays_rows s n size width board k (suc i)) v).0)
  each_done (suc k) i (suc j) h v =
      let there : i + suc j ≡ suc i + j = omega arith in
      rw there (each_done k (suc i) j (omega arith) (both_clear (bay_rows s n size i (bay_of width i board)) (bays_rows s n size width board k (suc i)) v).1)

  -- of all bays, judged from bay 0 on
  pub judged_bay : verdict (bays_rows s n size width board (segments n size) 0) ≡ Ok tt → (i : ℕ) → i < segments n size → Judged s n size i (bay_of width i board)
  judged_bay fine i h = subst (λ j. Judged s n size j (bay_of width j board)) (zero-add i) (each_done (segments n size) 0 i h fine)
