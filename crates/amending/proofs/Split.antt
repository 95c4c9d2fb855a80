-- A list parted at the first entry that passes a test: what the two parts are, and that nothing else is.
use Prim.Native.Nat.{ℕ, suc, ◌<◌}
use mathlib.Core.Path.{◌≡◌, refl, ap}
use mathlib.Core.Bool.{Bool, true, false}
use mathlib.Core.List.{List, [], ◌∷◌, ◌++◌}
use native.Mathlib.Omega.{arith}
use lib.ListN.{length, get_or, drop}
use Rattle.laws.proofs.Cases.{by_test}
use Rattle.amending.specs.Parts.{until, from}
use Rattle.amending.specs.Told.{Every, none, also}

-- a list, its entries before the first that passes, and those from it on
pub data Split (test : ℕ → Bool) : List ℕ → List ℕ → List ℕ → Type 0 where
  nowhere : Split test [] [] []
  here : {t : ℕ} {r : List ℕ} → test t ≡ true → Split test (t ∷ r) [] (t ∷ r)
  later : {x : ℕ} {l p r : List ℕ} → test x ≡ false → Split test l p r → Split test (x ∷ l) (x ∷ p) r

pub joined : {test : ℕ → Bool} {l p r : List ℕ} → Split test l p r → p ++ r ≡ l
joined nowhere = refl
joined (here e) = refl
joined (later {x = x} e s) = ap (λ k. x ∷ k) (joined s)

-- what is left once the entries before are passed
pub left_over : {test : ℕ → Bool} {l p r : List ℕ} → Split test l p r → drop (length p) l ≡ r
left_over nowhere = refl
left_over (here e) = refl
left_over (later e s) = left_over s

-- the first entry from there on passes, and those before it do not
pub heads : {test : ℕ → Bool} {t : ℕ} {l p r : List ℕ} → Split test l p (t ∷ r) → test t ≡ true
heads (here e) = e
heads (later e s) = heads s

pub each_until : {test : ℕ → Bool} {l p r : List ℕ} → Split test l p r → Every (λ x. test x ≡ false) p
each_until nowhere = none
each_until (here e) = none
each_until (later e s) = also e (each_until s)

module _ (test : ℕ → Bool) where
  pub split : (l : List ℕ) → Split test l (until test l) (from test l)
  unfolding until from
  split [] = nowhere
  split (x ∷ l) = by_test (test x) (λ e. rw (e, until, from) (here e)) (λ e. rw (e, until, from) (later e (split l)))

  pub until_is : {l p r : List ℕ} → Split test l p r → until test l ≡ p
  unfolding until
  until_is nowhere = refl
  until_is (here e) = rw (e, until)
  until_is (later {x = x} e s) = rw (e, until) (ap (λ k. x ∷ k) (until_is s))

  pub from_is : {l p r : List ℕ} → Split test l p r → from test l ≡ r
  unfolding from
  from_is nowhere = refl
  from_is (here e) = rw (e, from)
  from_is (later e s) = rw (e, from) (from_is s)

  -- entries that fail another test, where they fail this one too, are passed by both
  pub from_later : {other : ℕ → Bool} {l p r : List ℕ} → ((x : ℕ) → other x ≡ false → test x ≡ false) → Split other l p r → from test l ≡ from test r
  unfolding from
  from_later so nowhere = refl
  from_later so (here e) = refl
  from_later so (later {x = x} e s) = rw (so x e, from) (from_later so s)

  pub from_none : (l : List ℕ) → ((i : ℕ) → i < length l → test (get_or l i 0) ≡ false) → from test l ≡ []
  unfolding from
  from_none [] fail = refl
  from_none (x ∷ l) fail = rw (fail 0 (omega arith), from) (from_none l (λ i h. fail (suc i) (omega arith)))
