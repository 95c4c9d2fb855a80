-- What is copied stands side by side.
use Rattle.std.proofs.Common.{◌≡◌, ℕ, ◌-◌, ◌∙◌, min, ap, List, ◌++◌, length, take, replicate, rules, arith}
use Rattle.std.proofs.Math.Nat.{min_comm}
use Rattle.std.proofs.lemmas.List.{drop-replicate, take_min}
use borrow.Rule.Slice.PartMut.{put_mid}
use lib.Seq.{take_at, drop_at}
use Rattle.pass_block.specs.Taking.{head_of}
use Rattle.pass_block.proofs.window.joined.Goals as goal

-- the window, and over the zeros after it as many bytes as there are of the first 48
both_is : (w block part : List ℕ) (n k : ℕ) → length w ≡ 48 → n ≡ min (length block) 48 → k ≡ n → part ≡ take n block
    → put_mid 48 k (w ++ replicate 48 0) part ≡ head_of w block
both_is w block part n k whole is same e =
    let left : 48 - k ≡ 48 - length block = omega arith in
    let first : take n block ≡ take 48 block = ap (λ m. take m block) (is ∙ min_comm (length block) 48) ∙ take_min 48 block in
    rw (take_at w (replicate 48 0) 48 whole, drop_at w (replicate 48 0) 48 whole, drop-replicate, left, e, first)

pub returns : goal.returns
returns c =
    rw c.copy_from_slice.ensures.after
    (both_is c.args.window.now c.args.block.now c.copy_from_slice-2.new.self c.min-count.result _ (search rules) c.min-count.ensures (omega arith) c.copy_from_slice-2.ensures.after)
