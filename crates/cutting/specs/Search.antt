-- Where a search for a mark stops.
use Rattle.std.specs.Prelude.{ℕ, ◌-◌, ◌≤◌, ◌≡◌, Bool, false, List}
use Rattle.rule.specs.Rule.{Unmarked}
use Rattle.signature.specs.Signatures.{signature_of, window}
use Rattle.terms.specs.declared.Settings.{Settings}
use Rattle.cutting.specs.declared.search.Spot.{Spot}
use Rattle.cutting.specs.Marks.{mark}

-- r is where a search from one offset to another stops, on a mark that it found or at its end
pub record Seek (s : Settings) (log : List ℕ) (first last : ℕ) (r : Spot) (found : Bool) : Type 0 where
  pub begun : first ≤ r.at
  pub inside : r.at ≤ last
  pub clear : Unmarked (mark s log) first r.at
  pub told : mark s log r.at ≡ found
  pub here : r.signature ≡ signature_of (window log (r.at - 48))
  pub ended : found ≡ false → r.at ≡ last
