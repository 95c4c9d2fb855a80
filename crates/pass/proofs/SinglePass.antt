-- The single pass: whatever the blocks, fresh, a call a block and close write the cuts of the joined log where none is refused, and none is where the
-- lists have the rooms asked for.
use Rattle.std.specs.Prelude.{Ok, Err}
use Prim.Native.Nat.{ℕ, ◌≤◌, ◌<◌}
use mathlib.Core.Path.{◌≡◌, refl, sym, ap, ◌∙◌, subst}
use mathlib.Core.Bool.{true}
use mathlib.Core.List.{List, [], ◌∷◌, ◌++◌, append_assoc, append-nil}
use native.Mathlib.Nat.{add-zero}
use native.Mathlib.Omega.{arith}
use lib.ListN.{length, length-append}
use borrow.Author.Tests.{not-false}
use Rattle.laws.proofs.Cases.{by_lt, impossible}
use Rattle.terms.specs.declared.Settings.{Settings}
use Rattle.terms.specs.Rows.{Verdict}
use Rattle.terms.specs.Settings.{in_range}
use Rattle.terms.specs.Answers.{longest, room_for}
use Rattle.terms.specs.Rows.{verdict, ruled}
use Rattle.terms.proofs.Ranges.{Ranges, ranges}
use Rattle.terms.proofs.Verdicts.{clear}
use Rattle.rule.specs.Rule.{closing}
use Rattle.rule.proofs.Hops.{UpTo, cuts_by_hops, still_open, already}
use Rattle.cutting.specs.Marks.{mark, cut_list}
use Rattle.pass_carry.specs.declared.Carry.{Carry}
use Rattle.pass_carry.specs.declared.Outcome.{Outcome}
use Rattle.pass_carry.specs.Carries.{fresh_carry, block_taken, cuts_in}
use Rattle.pass_carry.specs.Outcomes.{refused, wrote, carry_rows}
use Rattle.pass_carry.proofs.Rows.{admitted}
use Rattle.pass.specs.Calls.{no_carry, fresh_rows, fresh_outcome, block_rows, block_outcome, closing_cut, close_rows, close_outcome}
use Rattle.pass.specs.SinglePass.{Lent, taking, joined, carry_after, blocks_written, close_written, written_by, Unrefused, none, takes, NoneRefused, Roomy, more}
use Rattle.pass.proofs.Blocks.{block_fine, block_answers, block_writes}
use Rattle.pass.proofs.Closing.{closing_open, closing_shut, close_fine, answered, closing_written}
use Rattle.pass.proofs.Prefix.{onward, CarryOf, fresh_prefix, block_prefix}
use Rattle.pass.proofs.Ordered.{in_order_lem}

-- a call that wrote was refused by no row
pub succeeds : (v : Verdict) (c after : Carry) (n : ℕ) {k : ℕ} → (ruled v (refused c) (wrote after n)).answer ≡ Ok k → v ≡ Ok tt
succeeds (Ok tt) c after n e = refl
succeeds (Err why) c after n e = impossible (cc)

pub fresh_succeeds : (s : Settings) {k : ℕ} → (fresh_outcome s).answer ≡ Ok k → (in_range s ≡ true) × ((fresh_outcome s).carry ≡ fresh_carry s)
unfolding fresh_outcome fresh_rows
fresh_succeeds s e =
    let v = succeeds (verdict (fresh_rows s)) no_carry (fresh_carry s) 0 e in
    (not-false _ (clear _ _ _ v).0, rw v)

block_succeeds : (c : Carry) (k : Lent) {n : ℕ} → (taking c k).answer ≡ Ok n → verdict (block_rows c k.block (length k.list)) ≡ Ok tt
unfolding block_outcome
block_succeeds c k e = succeeds _ c (block_taken c k.block) (length (cuts_in c k.block)) e

module _ (s : Settings) (log : List ℕ) (ok : Ranges s) where
  -- blocks that are not refused leave the carry of what has come, and wrote its cuts
  pub blocks_prefix : (calls : List Lent) (written : List ℕ) (c : Carry) → CarryOf s log (joined calls) written c → Unrefused c calls
      → CarryOf s log [] (written ++ blocks_written c calls) (carry_after c calls)
  unfolding joined carry_after blocks_written
  blocks_prefix [] written c is none = subst (λ l. CarryOf s log [] l c) (sym (append-nil written)) is
  blocks_prefix (k ∷ ks) written c is (takes e more_of) =
      let fine = block_succeeds c k e in
      let after = ap (λ (o : Outcome). o.carry) (block_answers c k.block k.list fine) in
      let rest = blocks_prefix ks (written ++ cuts_in c k.block) (taking c k).carry
      (subst (CarryOf s log (joined ks) (written ++ cuts_in c k.block)) (sym after) (block_prefix s log k.block (joined ks) written c ok is)) more_of in
      let wrote-them = append_assoc written (cuts_in c k.block) _ ∙ ap (λ l. written ++ (l ++ blocks_written (taking c k).carry ks)) (sym (block_writes c k.block k.list fine)) in
      subst (λ l. CarryOf s log [] l (carry_after (taking c k).carry ks)) wrote-them rest

  module _ (written : List ℕ) (c : Carry) (is : CarryOf s log [] written c) where
    whole : c.taken ≡ length log
    whole = sym (add-zero c.taken) ∙ is.here

    closing_is : closing_cut c ≡ closing (length log) is.last
    closing_is =
        by_lt 0 c.since
        (λ h. closing_open c h ∙ ap (λ n. n ∷ []) whole ∙ sym (still_open (length log) is.last (omega (arith, is.tied, whole))))
        (λ h. closing_shut c h ∙ sym (already (length log) is.last (omega (arith, is.tied, whole))))

    -- the cuts written and the closing one are the log's
    all-cuts : written ++ closing_cut c ≡ cut_list s log
    all-cuts =
        ap (λ l. written ++ l) closing_is
        ∙ sym (cuts_by_hops (mark s log) s.minimum s.maximum ok.positive ok.ordered (length log)
        (subst (λ n. UpTo (onward s log) n 0 written is.last) whole is.cuts))

-- where fresh and the blocks are not refused, the carry is that of the joined log
pub prefix : (s : Settings) (calls : List Lent) {k : ℕ} → (fresh_outcome s).answer ≡ Ok k → Unrefused (fresh_outcome s).carry calls
    → CarryOf s (joined calls) [] (blocks_written (fresh_outcome s).carry calls) (carry_after (fresh_outcome s).carry calls)
prefix s calls e all =
    let fine = fresh_succeeds s e in
    let ok = ranges s fine.0 in
    blocks_prefix s (joined calls) ok calls [] (fresh_outcome s).carry
    (subst (CarryOf s (joined calls) (joined calls) []) (sym fine.1) (fresh_prefix s (joined calls) ok)) all

-- where no call is refused, fresh, the blocks in turn and close write, joined, the cuts of the joined log
pub none_refused : (s : Settings) (calls : List Lent) (last : List ℕ) → NoneRefused s calls last → written_by s calls last ≡ cut_list s (joined calls)
unfolding written_by close_written
none_refused s calls last all =
    let c = carry_after (fresh_outcome s).carry calls in
    ap (λ l. blocks_written (fresh_outcome s).carry calls ++ l) (closing_written c last (closes c all.close))
    ∙ all-cuts s (joined calls) (ranges s (fresh_succeeds s all.fresh).0) _ c (prefix s calls all.fresh all.blocks)
  where
    closes : (c : Carry) {k : ℕ} → (close_outcome c (length last)).answer ≡ Ok k → verdict (close_rows c (length last)) ≡ Ok tt
    closes c e = unfold close_outcome in succeeds (verdict (close_rows c (length last))) c _ (length (closing_cut c)) e

module _ (s : Settings) (log : List ℕ) (fine : in_range s ≡ true) (fits : length log ≤ longest) where
  -- a carry of a prefix is refused by none of the rows that judge a carry
  passes : (rest written : List ℕ) (c : Carry) → CarryOf s log rest written c → verdict (carry_rows c) ≡ Ok tt
  passes rest written c is = admitted c (ap in_range is.same ∙ fine) (in_order_lem s log rest written c (ranges s fine) is fits) is.open_still

  block_passes : (block after written : List ℕ) (c : Carry) → CarryOf s log (block ++ after) written c → (list : List ℕ) → room_for s.minimum (length block) ≤ length list
      → verdict (block_rows c block (length list)) ≡ Ok tt
  block_passes block after written c is list roomy =
      let lent : room_for c.settings.minimum (length block) ≤ length list = rw is.same roomy in
      let positive : 0 < c.settings.minimum = rw is.same (ranges s fine).positive in
      block_fine c block (length list) (passes (block ++ after) written c is) (omega (arith, is.here, length-append block after)) lent positive

  goes : (calls : List Lent) (written : List ℕ) (c : Carry) → CarryOf s log (joined calls) written c → Roomy s.minimum calls → Unrefused c calls
  unfolding joined
  goes [] written c is none = none
  goes (k ∷ ks) written c is (more h hs) =
      let told = block_answers c k.block k.list (block_passes k.block (joined ks) written c is k.list h) in
      takes (ap (λ (o : Outcome). o.answer) told)
      (subst (λ (o : Outcome). Unrefused o.carry ks) (sym told)
      (goes ks (written ++ cuts_in c k.block) (block_taken c k.block) (block_prefix s log k.block (joined ks) written c (ranges s fine) is) hs))

-- where the lists have the rooms asked for, none is refused
pub room_suffices : (s : Settings) (calls : List Lent) (last : List ℕ) → in_range s ≡ true → length (joined calls) ≤ longest
    → Roomy s.minimum calls → 1 ≤ length last → NoneRefused s calls last
room_suffices s calls last fine fits roomy lent =
    let log = joined calls in
    let started = begins in
    let all = subst (λ (o : Outcome). Unrefused o.carry calls) (sym started) (goes s log fine fits calls [] (fresh_carry s) (fresh_prefix s log (ranges s fine)) roomy) in
    let fresh-wrote = ap (λ (o : Outcome). o.answer) started in
    let c = carry_after (fresh_outcome s).carry calls in
    record {
      fresh = fresh-wrote;
      blocks = all;
      count = length (closing_cut c);
      close = ap (λ (o : Outcome). o.answer) (answered c last (close_fine c (length last) (passes s log fine fits [] _ c (prefix s calls fresh-wrote all)) lent));
    }
  where
    begins : fresh_outcome s ≡ wrote (fresh_carry s) 0
    begins = unfold fresh_outcome fresh_rows verdict in rw fine
