-- The head holds the window and the block's first bytes, and how many cuts were made decides each `return`.
use Rattle.std.proofs.Common.{◌≡◌, ℕ, ◌∙◌, sym, ap, List, ◌++◌, length, take, rules}
use lib.Seq.{take_at}
use Rattle.signature.specs.Signatures.{signature_of}
use Rattle.pass_carry.specs.declared.Carry.{Carry}
use Rattle.pass_carry.specs.Carries.{slid_by}
use Rattle.pass_carry.proofs.Usable.{usable}
use Rattle.pass_block.specs.Taking.{head_of, first_cut}
use Rattle.pass_block.proofs.Taken.{cut_inside, list_is, ran_full, all_written}
use Rattle.pass_block.proofs.take_block.Goals as goal

-- the head begins with the window; so the first cut and the window slid on are those of the window and the block
module _ (carry : Carry) (block : List ℕ) (whole : length carry.window ≡ 48) {head : List ℕ} (is-head : head ≡ head_of carry.window block) where
  window-is : take 48 head ≡ carry.window
  window-is = ap (take 48) is-head ∙ take_at carry.window _ 48 whole

  head-is : length head ≡ 96 → (length head ≡ 96) × (head ≡ head_of (take 48 head) block)
  head-is room = (room, is-head ∙ ap (λ w. head_of w block) (sym window-is))

  first-is : {r : ℕ} → r ≡ first_cut carry.settings carry.since (take 48 head ++ block) (length block)
      → r ≡ first_cut carry.settings carry.since (carry.window ++ block) (length block)
  first-is e = e ∙ ap (λ w. first_cut carry.settings carry.since (w ++ block) (length block)) window-is

  slid-is : {slid : List ℕ} → slid ≡ slid_by (take 48 head) block → slid ≡ slid_by carry.window block
  slid-is e = e ∙ ap (λ w. slid_by w block) window-is

pub first_cut-first-requires-clause-since_below : goal.first_cut-first-requires-clause-since_below
first_cut-first-requires-clause-since_below c =
    rw c.new-cutter.ensures (usable c.args.carry c.requires.settings_value.0 c.requires.settings_value.1 (search rules)).below

pub first_cut-first-requires-clause-head_len : goal.first_cut-first-requires-clause-head_len
first_cut-first-requires-clause-head_len c = head-is c.args.carry c.args.block.now (search rules) c.joined-head.ensures (search rules)

pub slide-window-requires : goal.slide-window-requires
slide-window-requires c = head-is c.args.carry c.args.block.now (search rules) c.joined-head.ensures (search rules)

pub fill-made-requires-clause-first_value : goal.fill-made-requires-clause-first_value
fill-made-requires-clause-first_value c =
    first-is c.args.carry c.args.block.now (search rules) c.joined-head.ensures (rw c.new-cutter.ensures at c.first_cut-first.ensures)

pub fill-made-requires-clause-signature_value : goal.fill-made-requires-clause-signature_value
fill-made-requires-clause-signature_value c =
    c.of_window-signature.ensures ∙ ap signature_of (slid-is c.args.carry c.args.block.now (search rules) c.joined-head.ensures c.slide-window.ensures)

pub returns-then-made-list : goal.returns-then-made-list
returns-then-made-list c =
    let sound = usable c.args.carry c.requires.settings_value.0 c.requires.settings_value.1 (search rules) in
    record {
      answer = c.refused.ensures ∙ ran_full _ _ _ _ _ sound c.fill-made.ensures c.if-made-list.true;
      list = list_is _ _ _ _ _ sound c.fill-made.ensures;
    }

pub overflow_sub-after : goal.overflow_sub-after
overflow_sub-after c =
    cut_inside _ _ _ _ _ (usable c.args.carry c.requires.settings_value.0 c.requires.settings_value.1 (search rules)) c.fill-made.ensures

pub returns : goal.returns
returns c =
    let sound = usable c.args.carry c.requires.settings_value.0 c.requires.settings_value.1 (search rules) in
    let slid = slid-is c.args.carry c.args.block.now (search rules) c.joined-head.ensures c.slide-window.ensures in
    record {
      answer = c.wrote.ensures ∙ all_written _ _ _ _ _ sound c.fill-made.ensures c.if-made-list.false _ _ slid (c.of_window-signature.ensures ∙ ap signature_of slid);
      list = list_is _ _ _ _ _ sound c.fill-made.ensures;
    }
