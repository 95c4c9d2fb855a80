-- `amending::parts::last_of` meets its contract.
use Rattle.std.proofs.Common.{◌∙◌, ◌-◌, length, ap}
use Rattle.std.specs.Prelude.{unwrap_or}
use Rattle.std.proofs.lemmas.Option.{unwrap_or-slice_get}
use Rattle.amending.proofs.Places.{last_told}
use Rattle.amending.proofs.parts.last_of.Goals as goal

pub returns : goal.returns
returns c =
    let list = c.args.list.now in
    c.unwrap_or.ensures ∙ ap (λ last. unwrap_or last 0) (c.copied.ensures ∙ c.last.ensures.value) ∙ unwrap_or-slice_get list (length list - 1) 0 ∙ last_told 0 list
