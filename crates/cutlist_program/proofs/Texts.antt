-- Laws of the program's lines: a number's spelling, and the line of one cut more.
use Rattle.std.proofs.Common.{◌≡◌, ℕ, ◌+◌, ◌-◌, ◌^◌, ◌<◌, ◌≤◌, List, [], ◌∷◌, ◌++◌}
use Rattle.std.proofs.Common.{zero, suc, length, get_or, take, add-one, take-suc, sym, ap, append_assoc, append-nil, arith, lit<, le-ltb, lt-ltb}
use native.Mathlib.Nat.{pow-le-pow_right}
use Rattle.io.specs.Digits.{last_digits, IsDigitCount}
use Rattle.laws.specs.Last.{last_or}
use Rattle.laws.proofs.Cases.{by_lt}
use Rattle.laws.proofs.Last.{last_joined}
use Rattle.cutlist_program.specs.Text.{places, spelled, pair, lines}

few_digits : (n k : ℕ) → n < 2 ^ 64 → IsDigitCount 10 1 n k → k ≤ 20
few_digits n k low fewest =
    by_lt 20 k
    (λ many.
    let high : 10 ^ 20 ≤ 10 ^ (k - 1) = pow-le-pow_right {n = 10} (lit< tt) {i = 20} {j = k - 1} (omega arith) in
    let least : 10 ^ (k - 1) ≤ n = fewest.2 (omega arith) in
    absurd (omega arith))
    (λ few. few)

places_found : (spare j n k : ℕ) → j ≤ k → k ≤ j + spare → n < 10 ^ k → (j < k → 10 ^ (k - 1) ≤ n) → places spare j n ≡ k
unfolding places
places_found zero j n k low high fits fewest = omega arith
places_found (suc spare) j n k low high fits fewest =
    by_lt n (10 ^ j)
    (λ small. rw (lt-ltb n (10 ^ j) small)
    (by_lt j k
    (λ less.
    let more : 10 ^ j ≤ 10 ^ (k - 1) = pow-le-pow_right {n = 10} (lit< tt) {i = j} {j = k - 1} (omega arith) in
    let least : 10 ^ (k - 1) ≤ n = fewest less in
    absurd (omega arith))
    (λ same. omega arith)))
    (λ large. rw (le-ltb n (10 ^ j) large)
    (by_lt j k
    (λ less. places_found spare (suc j) n k (omega arith) (omega arith) fits (λ _. fewest less))
    (λ same.
    let equal : j ≡ k = omega arith in
    let clash : n < 10 ^ j = rw equal fits in
    absurd (omega arith))))

-- the fewest digits of a number are its spelling
pub spelled_by : (n k : ℕ) → n < 2 ^ 64 → IsDigitCount 10 1 n k → last_digits 10 k n ≡ spelled n
unfolding spelled
spelled_by n k low fewest =
    ap (λ (j : ℕ). last_digits 10 j n)
    (sym (places_found 19 1 n k fewest.0 (omega (arith, few_digits n k low fewest)) fewest.1 fewest.2))

-- the line of one cut more
pub lines_more : (last : ℕ) (cuts : List ℕ) (cut : ℕ) → lines last (cuts ++ (cut ∷ [])) ≡ lines last cuts ++ pair cut (32 ∷ []) (cut - last_or last cuts)
unfolding lines last_or
lines_more last [] cut = append-nil _
lines_more last (first ∷ cuts) cut = rw (lines_more first cuts cut, append_assoc)

-- the same for the first cuts of a list
module _ (last : ℕ) (cuts : List ℕ) (i : ℕ) (inside : i < length cuts) where
  abbrev cut : ℕ
  cut = get_or cuts i 0

  pub lines_next : lines last (take (i + 1) cuts) ≡ lines last (take i cuts) ++ pair cut (32 ∷ []) (cut - last_or last (take i cuts))
  lines_next = rw (add-one, take-suc cuts i 0 inside) (lines_more last (take i cuts) cut)

  pub last_next : last_or last (take (i + 1) cuts) ≡ cut
  unfolding last_or
  last_next = rw (add-one, take-suc cuts i 0 inside) (last_joined last (take i cuts) (cut ∷ []))
