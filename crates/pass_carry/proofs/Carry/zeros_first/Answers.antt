-- The bytes are tested as the definition's recursion tests them.
use Rattle.std.proofs.Common.{◌≡◌, ◌==◌, ◌-◌, ◌∙◌, ◌&&◌, ℕ, List, [], ◌∷◌, take, refl, ap, rules}
use Rattle.std.proofs.lemmas.Iterator.{YieldsList-from_slice}
use Rattle.std.proofs.lemmas.Iterator.Search.{all_from_yields_List}
use borrow.Author.Tests.{tests}
use Rattle.std.specs.List.{list_all}
use Rattle.pass_carry.specs.Carries.{all_zero}
use Rattle.pass_carry.proofs.Carry.zeros_first.Goals as goal

are_zero : (bytes : List ℕ) → list_all (λ b. b == 0) bytes ≡ all_zero bytes
unfolding all_zero
are_zero [] = refl
are_zero (b ∷ bs) = ap (λ r. b == 0 && r) (are_zero bs)

pub returns : goal.returns
returns c =
    let places = take (48 - c.args.self.now.taken) c.args.self.now.window in
    all_from_yields_List (λ b. b == 0) _ _ c.all.result c.all.ensures.ran (YieldsList-from_slice places cc) (λ x b q k. search (rules, tests)) ∙ are_zero places
