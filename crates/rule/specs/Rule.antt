-- The one-pass rule over any marks: document 01, "The one-pass rule". A log of n bytes is seen here only through its marks.
use Rattle.std.specs.Prelude.{ℕ, zero, suc, ◌+◌, ◌-◌, ◌≤◌, ◌<◌, min, Bool, true, false, List, [], ◌∷◌, ◌≡◌, leb, ltb}
unfoldable pub use Rattle.laws.specs.Last.{last_or}

-- the first of the k offsets from p on that is a mark; other where none is
unfoldable pub first_mark : (mark : ℕ → Bool) (k p other : ℕ) → ℕ
first_mark mark zero p other = other
first_mark mark (suc k) p other = elim (mark p) [ true ↦ p | false ↦ first_mark mark k (suc p) other ]

-- after a cut c below n: the first mark from c + minimum to c + maximum, both included and none past n;
-- where there is none, c + maximum if that is at most n, else n
unfoldable pub next : (mark : ℕ → Bool) (minimum maximum n c : ℕ) → ℕ
next mark minimum maximum n c =
    let last = min (c + maximum) n in
    first_mark mark (suc last - (c + minimum)) (c + minimum) last

-- no offset from a up to, not including, b is a mark
abbrev pub Unmarked : (mark : ℕ → Bool) (a b : ℕ) → Type 0
Unmarked mark a b = (q : ℕ) → a ≤ q → q < b → mark q ≡ false

-- the same sentence as a statement of r: proofs/Next.antt shows that it holds of `next` and of nothing else
pub data NextCut (mark : ℕ → Bool) (minimum maximum n c : ℕ) : ℕ → Type 0 where
  first-mark : (r : ℕ) → c + minimum ≤ r → r ≤ c + maximum → r ≤ n → mark r ≡ true → Unmarked mark (c + minimum) r
      → NextCut mark minimum maximum n c r
  forced : c + maximum ≤ n → Unmarked mark (c + minimum) (suc (c + maximum)) → NextCut mark minimum maximum n c (c + maximum)
  log_ends : n < c + maximum → Unmarked mark (c + minimum) (suc n) → NextCut mark minimum maximum n c n

-- what follows c by steps of next, up to n; fuel bounds the number of steps
unfoldable pub chain : (next : ℕ → ℕ) (n fuel c : ℕ) → List ℕ
chain next n zero c = []
chain next n (suc fuel) c = elim (ltb c n) [ true ↦ next c ∷ chain next n fuel (next c) | false ↦ [] ]

-- the cuts after the cut c, to the log's end
unfoldable pub cuts_from : (mark : ℕ → Bool) (minimum maximum n c : ℕ) → List ℕ
cuts_from mark minimum maximum n c = chain (next mark minimum maximum n) n (n - c) c

-- all cuts of a log: the first piece starts at 0
abbrev pub cuts : (mark : ℕ → Bool) (minimum maximum n : ℕ) → List ℕ
cuts mark minimum maximum n = cuts_from mark minimum maximum n 0

-- document 01's rule as a statement of a list: after a cut c below n comes the next cut; nothing comes after n
pub data OnePass (mark : ℕ → Bool) (minimum maximum n : ℕ) : ℕ → List ℕ → Type 0 where
  at-end : OnePass mark minimum maximum n n []
  piece : {c r : ℕ} {later : List ℕ} → c < n → NextCut mark minimum maximum n c r → OnePass mark minimum maximum n r later
      → OnePass mark minimum maximum n c (r ∷ later)

-- the next cut of a log that goes on for ever: where next stops at n, the hop goes past it
unfoldable pub hop : (mark : ℕ → Bool) (minimum maximum c : ℕ) → ℕ
hop mark minimum maximum c = first_mark mark (suc maximum - minimum) (c + minimum) (c + maximum)

-- what follows c by hops that stay at or below e: the cuts up to e, without n where n is a cut only because the log ends there
unfoldable pub hops : (hop : ℕ → ℕ) (e fuel c : ℕ) → List ℕ
hops hop e zero c = []
hops hop e (suc fuel) c = elim (leb (hop c) e) [ true ↦ hop c ∷ hops hop e fuel (hop c) | false ↦ [] ]

-- the cuts after the cut c up to e
unfoldable pub cuts_up_to : (mark : ℕ → Bool) (minimum maximum e c : ℕ) → List ℕ
cuts_up_to mark minimum maximum e c = hops (hop mark minimum maximum) e (e - c) c

-- the log's end, where the last cut m before it is not the end already
unfoldable pub closing : (n m : ℕ) → List ℕ
closing n m = elim (ltb m n) [ true ↦ n ∷ [] | false ↦ [] ]
