-- The single pass: its rows, a carry in order, what its calls hand back and leave, and demand 2 for it.
use Rattle.std.specs.Prelude.{Ok, Err}
use Prim.Native.Nat.{ℕ, zero, suc, ◌+◌, ◌-◌, ◌≤◌, ◌<◌}
use mathlib.Core.Path.{◌≡◌, refl, sym, ap, ◌∙◌}
use mathlib.Core.Bool.{true}
use mathlib.Core.Logic.{◌↔◌}
use mathlib.Core.List.{List, [], ◌∷◌, ◌++◌, append-nil}
use native.Mathlib.Nat.{add-zero}
use native.Mathlib.Omega.{arith}
use lib.Dec.{leb, ltb, eqb}
use lib.ListN.{length, take, drop, get_or, replicate}
use borrow.Author.Tests.{leb-true, ltb-true, ltb-false, eqb-true, le-leb, lt-ltb, eq-eqb}
use Rattle.laws.proofs.Cases.{both_true}
use Rattle.terms.specs.declared.Settings.{Settings}
use Rattle.terms.specs.Answers.{Answer}
use Rattle.terms.specs.declared.Refusal.TheVariants.{ListFull}
use Rattle.terms.specs.Rows.{Verdict}
use Rattle.terms.specs.Settings.{in_range}
use Rattle.terms.specs.Answers.{answer_number, answer_count, longest}
use Rattle.terms.specs.Rows.{verdict, ruled, first_row, Leaves}
use Rattle.terms.proofs.Ranges.{ranges}
use Rattle.terms.proofs.Verdicts.{through, clear, both_clear, refused_leaves, refused_keeps}
use Rattle.rule.specs.Rule.{cuts_up_to}
use Rattle.rule.proofs.Hops.{listed, last_is}
use Rattle.signature.specs.Signatures.{signature_of}
use Rattle.cutting.specs.Marks.{cut_list}
use Rattle.lists.specs.Written.{written_list}
use Rattle.pass_carry.specs.declared.Carry.{Carry}
use Rattle.pass_carry.specs.declared.Outcome.{Outcome}
use Rattle.pass_carry.specs.Carries.{all_zero, in_order, fresh_carry, cuts_in, block_taken}
use Rattle.pass_carry.specs.Outcomes.{refused, wrote, carry_rows}
use Rattle.pass.specs.Calls.{no_carry, fresh_rows, fresh_outcome, block_rows, block_outcome, block_leaves, closing_cut, closed_carry, close_rows, close_outcome, close_leaves}
use Rattle.pass.specs.SinglePass.{Lent, joined, carry_after, blocks_written, written_by, Unrefused, NoneRefused, Roomy}
use Rattle.lists.proofs.Written.{written_whole}
use Rattle.pass.proofs.Prefix.{onward, rises}
use Rattle.pass.proofs.Closing.{left, fits}
use Rattle.pass.proofs.SinglePass as pass
use Rattle.promises.specs.OneList.{Lists}
use Rattle.promises.specs.SinglePass.{InOrder, zero_carry, HandsBack, last_bytes, CarryOf}
use Rattle.promises.proofs.Successes.{succeeds, wrote_all}

zeros_told : (k : ℕ) (bytes : List ℕ) → all_zero (take k bytes) ≡ true → (i : ℕ) → i < k → get_or bytes i 0 ≡ 0
unfolding all_zero
zeros_told zero bytes e i h = absurd (omega arith)
zeros_told (suc k) [] e i h = refl
zeros_told (suc k) (b ∷ bytes) e zero h = eqb-true _ _ (both_true e).0
zeros_told (suc k) (b ∷ bytes) e (suc i) h = zeros_told k bytes (both_true {a = eqb b 0} e).1 i (omega arith)

zeros_as_told : (k : ℕ) (bytes : List ℕ) → ((i : ℕ) → i < k → get_or bytes i 0 ≡ 0) → all_zero (take k bytes) ≡ true
unfolding all_zero
zeros_as_told zero bytes told = refl
zeros_as_told (suc k) [] told = refl
zeros_as_told (suc k) (b ∷ bytes) told = rw (eq-eqb b 0 (told 0 (omega arith))) (zeros_as_told k bytes (λ i h. told (suc i) (omega arith)))

-- a carry is in order as document 01 says, and no other is
pub in_order_lem : (c : Carry) → in_order c ≡ true ↔ InOrder c
unfolding in_order
in_order_lem c = (
  λ order.
      let a = both_true {a = leb c.since c.taken} order in
      let b = both_true {a = ltb c.since c.settings.maximum} a.1 in
      let d = both_true {a = eqb c.signature (signature_of c.window)} b.1 in
      let e = both_true {a = all_zero (take (48 - c.taken) c.window)} d.1 in
      let f = both_true {a = leb c.taken longest} e.1 in
      record {
        begun = leb-true _ _ a.0;
        below = ltb-true _ _ b.0;
        signed = eqb-true _ _ d.0;
        zeros = λ i h. zeros_told (48 - c.taken) c.window e.0 i (omega arith);
        short = leb-true _ _ f.0;
        told = leb-true _ _ f.1;
      },
  λ is.
      rw (
        le-leb _ _ is.begun,
        lt-ltb _ _ is.below,
        eq-eqb _ _ is.signed,
        zeros_as_told (48 - c.taken) c.window (λ i h. is.zeros i (omega arith)),
        le-leb c.taken longest is.short,
        le-leb _ _ is.told,
      ),
)

-- the number that a call of the single pass answers
abbrev pass_number : Outcome → ℕ
pass_number outcome = answer_number outcome.answer

abbrev answer_of : Outcome → Answer
answer_of outcome = outcome.answer

pub fresh-rows : (s : Settings) → answer_number (fresh_outcome s).answer ≡ first_row (fresh_rows s)
unfolding fresh_outcome answer_number
fresh-rows s = through pass_number (verdict (fresh_rows s)) (refused no_carry) (wrote (fresh_carry s) 0)

pub block_rows_lem : (c : Carry) (block : List ℕ) (room : ℕ) → answer_number (block_outcome c block room).answer ≡ first_row (block_rows c block room)
unfolding block_outcome answer_number
block_rows_lem c block room = through pass_number (verdict (block_rows c block room)) (refused c) (wrote (block_taken c block) _)

pub close_rows_lem : (c : Carry) (room : ℕ) → answer_number (close_outcome c room).answer ≡ first_row (close_rows c room)
unfolding close_outcome answer_number
close_rows_lem c room = through pass_number (verdict (close_rows c room)) (refused c) (wrote (closed_carry c) _)

hands_back : (c : Carry) (v : Verdict) (after : Carry) (n : ℕ) → HandsBack c (ruled v (refused c) (wrote after n))
unfolding answer_number answer_count
hands_back c (Ok tt) after n = record { uncounted = λ refusal. absurd (refusal refl); unaltered = λ refusal. absurd (refusal refl) }
hands_back c (Err why) after n = record { uncounted = λ _. refl; unaltered = λ _. refl }

-- a refused fresh hands out a carry with every part 0, a refused block or close its own
pub fresh_leaves : (s : Settings) → HandsBack zero_carry (fresh_outcome s)
unfolding fresh_outcome fresh_carry
fresh_leaves s = hands_back no_carry (verdict (fresh_rows s)) (fresh_carry s) 0

pub block_hands_back : (c : Carry) (block : List ℕ) (room : ℕ) → HandsBack c (block_outcome c block room)
unfolding block_outcome
block_hands_back c block room = hands_back c (verdict (block_rows c block room)) (block_taken c block) (length (cuts_in c block))

pub close_hands_back : (c : Carry) (room : ℕ) → HandsBack c (close_outcome c room)
unfolding close_outcome
close_hands_back c room = hands_back c (verdict (close_rows c room)) (closed_carry c) (length (closing_cut c))

-- a refusal leaves the list, but 17 keeps the cuts written
pub block_leaves_lem : (c : Carry) (block list : List ℕ)
    → Leaves (answer_number (block_outcome c block (length list)).answer) 17 list (written_list (cuts_in c block) list) (block_leaves c block list)
unfolding block_leaves
block_leaves_lem c block list = rw (block_rows_lem c block (length list)) (refused_leaves (verdict (block_rows c block (length list))) ListFull)

pub close_leaves_lem : (c : Carry) (list : List ℕ) → (answer_number (close_outcome c (length list)).answer ≡ 0 → ⊥) → close_leaves c list ≡ list
unfolding close_leaves
close_leaves_lem c list refusal = refused_keeps (verdict (close_rows c (length list))) list _ (rw (close_rows_lem c (length list)) at refusal)

-- a success counts the cuts written, the entries past them stay, and the carry is that of the bytes taken one by one
module _ (c : Carry) (block list : List ℕ) {k : ℕ} (e : (block_outcome c block (length list)).answer ≡ Ok k) where
  block_fine : verdict (block_rows c block (length list)) ≡ Ok tt
  block_fine = unfold block_outcome in pass.succeeds (verdict (block_rows c block (length list))) c (block_taken c block) (length (cuts_in c block)) e

  pub block_written : Lists list (block_leaves c block list) (cuts_in c block) k
  unfolding block_outcome block_leaves block_rows
  block_written =
      wrote_all (verdict (block_rows c block (length list))) (cuts_in c block) list
      (sym (through answer_of (verdict (block_rows c block (length list))) (refused c) (wrote (block_taken c block) _)) ∙ e)
      (λ v. ltb-false _ _ (clear _ _ _ (clear _ _ _ (clear _ _ _ (both_clear (carry_rows c) _ v).1).1).1).0)

  pub block_carries : (block_outcome c block (length list)).carry ≡ block_taken c block
  unfolding block_outcome
  block_carries = rw block_fine

-- closing marks the carry closed, its other parts kept, and writes the log's end where bytes have come since the last cut
module _ (c : Carry) (list : List ℕ) {k : ℕ} (e : (close_outcome c (length list)).answer ≡ Ok k) where
  close_fine : verdict (close_rows c (length list)) ≡ Ok tt
  close_fine = unfold close_outcome in pass.succeeds (verdict (close_rows c (length list))) c (closed_carry c) (length (closing_cut c)) e

  pub closing_closes : (close_outcome c (length list)).carry
      ≡ record { settings = c.settings; taken = c.taken; since = c.since; window = c.window; signature = c.signature; closed = 1 }
  unfolding close_outcome
  closing_closes = rw close_fine

  pub close_written_lem : Lists list (close_leaves c list) (closing_cut c) k
  unfolding close_outcome
  close_written_lem =
      let v = verdict (close_rows c (length list)) in
      record {
        counted = sym (succeeds v (length (closing_cut c)) (sym (through answer_of v (refused c) (wrote (closed_carry c) _)) ∙ e)).1;
        written = left c list close_fine ∙ written_whole (closing_cut c) list (fits c list close_fine);
      }

-- the carry once blocks of any lengths are taken is that of their bytes, part by part, and the cuts written are those known by then
pub carry_of_blocks : (s : Settings) (calls : List Lent) → (fresh_outcome s).answer ≡ Ok 0 → Unrefused (fresh_outcome s).carry calls
    → CarryOf s (joined calls) (blocks_written (fresh_outcome s).carry calls) (carry_after (fresh_outcome s).carry calls)
unfolding cuts_up_to
carry_of_blocks s calls e all =
    let ok = ranges s (pass.fresh_succeeds s e).0 in
    let is = pass.prefix s calls e all in
    let c = carry_after (fresh_outcome s).carry calls in
    let whole : c.taken ≡ length (joined calls) = sym (add-zero c.taken) ∙ is.here in
    let window : c.window ≡ last_bytes (joined calls) = sym (append-nil c.window) ∙ is.ahead ∙ ap (λ n. drop n (replicate 48 0 ++ joined calls)) whole in
    record {
      under = is.same;
      taken = whole;
      cuts = sym (rw whole at (listed (onward s (joined calls)) c.taken (rises s (joined calls) ok) is.cuts));
      since = ap (λ m. m + c.since) (last_is is.cuts) ∙ is.tied ∙ whole;
      window = window;
      signature = is.signed ∙ ap signature_of window;
      open_still = is.open_still;
    }

-- demand 2's words: where none is refused, fresh, the blocks in turn and close write, joined, the cuts of the joined log, for any blocks
pub none_refused : (s : Settings) (calls : List Lent) (last : List ℕ) → NoneRefused s calls last → written_by s calls last ≡ cut_list s (joined calls)
none_refused = pass.none_refused

-- and none is refused where the settings are in range, the log has at most 2^40 bytes and the lists have the rooms asked for
pub room_suffices : (s : Settings) (calls : List Lent) (last : List ℕ) → in_range s ≡ true → length (joined calls) ≤ longest
    → Roomy s.minimum calls → 1 ≤ length last → NoneRefused s calls last
room_suffices = pass.room_suffices

-- so the list is the log's for any blocks
pub single_pass : (s : Settings) (calls : List Lent) (last : List ℕ) → in_range s ≡ true → length (joined calls) ≤ longest
    → Roomy s.minimum calls → 1 ≤ length last → written_by s calls last ≡ cut_list s (joined calls)
single_pass s calls last fine fits roomy lent = none_refused s calls last (room_suffices s calls last fine fits roomy lent)
