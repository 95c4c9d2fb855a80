-- The last 48 bytes lie in the block, or in the head where the block is short.
use Rattle.std.proofs.Common.{◌≡◌, ℕ, ◌+◌, ◌-◌, ◌<◌, ◌≤◌, ◌∙◌, sym, ap, List, ◌++◌, length, take, drop, arith}
use lib.ListN.{length-take}
use lib.Seq.{take_all, drop-append-add, length-take-le}
use Rattle.std.proofs.lemmas.List.{drop-take}
use Rattle.signature.specs.Signatures.{window}
use Rattle.pass_carry.specs.Carries.{slid_by}
use Rattle.pass_carry.proofs.Parts.{length_slid_by}
use Rattle.pass_block.specs.Taking.{head_of}
use Rattle.pass_block.proofs.Seen.{head_windows}
use Rattle.pass_block.proofs.window.slide.Goals as goal

begins : (head : List ℕ) → length head ≡ 96 → length (take 48 head) ≡ 48
begins head room = length-take-le 48 head (omega arith)

from_block : (w block : List ℕ) → length w ≡ 48 → 48 ≤ length block → drop (length block - 48) block ≡ slid_by w block
from_block w block whole h =
    let past : length w + (length block - 48) ≡ length block = omega arith in
    sym (drop-append-add w block (length block - 48)) ∙ ap (λ n. drop n (w ++ block)) past

from_head : (head w block : List ℕ) → length head ≡ 96 → length w ≡ 48 → head ≡ head_of w block → length block < 48
    → let shown = take (48 + length block) head in drop (length shown - 48) shown ≡ slid_by w block
from_head head w block room whole heads short =
    let turned : 48 + length block ≡ length block + 48 = omega arith in
    let from : length (take (48 + length block) head) - 48 ≡ length block = rw length-take (omega arith) in
    rw (from, turned, drop-take)
    (ap (λ l. window l (length block)) heads ∙ head_windows w block (length block) whole (omega arith) (omega arith)
    ∙ take_all 48 (slid_by w block) (omega (arith, length_slid_by w block whole)))

pub returns-in-Some : goal.returns-in-Some
returns-in-Some c =
    c.in-Some.ensures.cases.1.same ∙ from_block (take 48 c.args.head.now) c.args.block.now (begins _ c.requires.0) c.in-Some.ensures.cases.0

pub returns-in-None : goal.returns-in-None
returns-in-None c =
    let part = rw c.unwrap.ensures at c.last_chunk-in-None.ensures.cases in
    part.1.same ∙ from_head c.args.head.now (take 48 c.args.head.now) c.args.block.now c.requires.0 (begins _ c.requires.0) c.requires.1 c.in-None.ensures.cases
