-- The cuts of a chain put into a lent list one after the other: what is known after each, and at the end.
use Prim.Native.Nat.{ℕ, ◌-◌, ◌≤◌, ◌<◌}
use mathlib.Core.Path.{◌≡◌}
use mathlib.Core.List.{List, [], ◌∷◌}
use Rattle.laws.specs.Last.{last_or}
use Rattle.rule.specs.Rule.{chain}
use Rattle.rule.proofs.Chain.{Rising, opened, at-end}
use Rattle.lists.specs.declared.Made.{Made}
use Rattle.lists.specs.Puts.{Puts, none_after}
use Rattle.lists.proofs.Putting.{Underway, rest-is, more, ended}

module _ (next : ℕ → ℕ) (n : ℕ) (list₀ : List ℕ) where
  -- the cuts up to the last one made are put, and those after it are left
  abbrev pub Putting : Made → List ℕ → Type 0
  Putting made list = Underway (chain next n (n - 0) 0) (chain next n (n - made.cut) made.cut) (none_after 0) made list₀ list

module _ {next : ℕ → ℕ} {n : ℕ} (ok : Rising next n) {list₀ list : List ℕ} {made : Made} (u : Putting next n list₀ made list) where
  pub turn : made.cut < n → {r : ℕ} → r ≡ next made.cut → {after : Made} {list' : List ℕ} → Puts (r ∷ []) made after list list' → Putting next n list₀ after list'
  unfolding last_or
  turn below {r} e {after} p =
      more (r ∷ []) (rest-is (r ∷ chain next n (n - after.cut) after.cut) (rw (p.last, e) (opened next n ok made.cut below)) u) p

  pub done : n ≤ made.cut → Puts (chain next n (n - 0) 0) (none_after 0) made list₀ list
  done past = ended (rest-is _ (at-end next n (n - made.cut) made.cut past) u)
