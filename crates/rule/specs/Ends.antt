-- What is recorded of the cuts: document 01, "without n when n is a cut only because the log ends there".
use Rattle.std.specs.Prelude.{ℕ, suc, ◌+◌, ◌≤◌, ◌<◌, ◌≡◌, Bool, List, [], ◌∷◌}
use Rattle.rule.specs.Rule.{next, Unmarked}

-- n is the cut after c only because the log ends there
pub record OnlyTheEnd (mark : ℕ → Bool) (minimum maximum n c : ℕ) : Type 0 where
  pub is_end : next mark minimum maximum n c ≡ n
  pub not_forced : n < c + maximum
  pub no-mark : Unmarked mark (c + minimum) (suc n)

-- the one-pass cuts that follow the cut c up to e, without n where it is one only because the log ends there
pub data UpToEnd (mark : ℕ → Bool) (minimum maximum n e : ℕ) : ℕ → List ℕ → Type 0 where
  passed : {c : ℕ} → e < next mark minimum maximum n c → UpToEnd mark minimum maximum n e c []
  left_out : {c : ℕ} → c < n → OnlyTheEnd mark minimum maximum n c → UpToEnd mark minimum maximum n e c []
  ended : {c : ℕ} → n ≤ c → UpToEnd mark minimum maximum n e c []
  cut : {c : ℕ} {offsets : List ℕ} → c < n → next mark minimum maximum n c ≤ e → (OnlyTheEnd mark minimum maximum n c → ⊥)
      → UpToEnd mark minimum maximum n e (next mark minimum maximum n c) offsets
      → UpToEnd mark minimum maximum n e c (next mark minimum maximum n c ∷ offsets)
