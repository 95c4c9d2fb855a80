-- What a table of rows says of a call's number, its answer and what it leaves, for every call at once.
use Rattle.std.specs.Prelude.{Ok, Err}
use Prim.Native.Nat.{◌<◌}
use mathlib.Core.Path.{◌≡◌, refl, sym, ap, ◌∙◌}
use mathlib.Core.Bool.{Bool, true, false, not}
use mathlib.Core.List.{List, [], ◌∷◌, ◌++◌}
use native.Mathlib.Omega.{arith}
use lib.Dec.{eqb}
use borrow.Author.Tests.{eqb-true, eq-eqb}
use Rattle.laws.proofs.Cases.{by_test, clash, impossible}
use Rattle.terms.specs.declared.Refusal.{Refusal}
use Rattle.terms.specs.Rows.{Verdict}
use Rattle.terms.specs.Refusals.{number_of}
use Rattle.terms.proofs.Numbers.{some_number}
use Rattle.terms.specs.Rows.{Row, row, first, verdict, ruled, first_row, leaves, lacks, Leaves}

pub by_verdict {ℓ} : {C : Type ℓ} (v : Verdict) → (v ≡ Ok tt → C) → ((why : Refusal) → v ≡ Err why → C) → C
by_verdict (Ok tt) f g = f refl
by_verdict (Err why) f g = g why refl

pub not_both : {v : Verdict} {why : Refusal} → v ≡ Err why → v ≡ Ok tt → ⊥
not_both p q = impossible (cc)

-- numbers, counts and parts of an answer: what is asked of the answer is asked of both its ways
pub through {ℓ κ} : {A : Type ℓ} {B : Type κ} (f : A → B) (v : Verdict) (refused : Refusal → A) (fine : A)
    → f (ruled v refused fine) ≡ ruled v (λ why. f (refused why)) (f fine)
through f (Ok tt) refused fine = refl
through f (Err why) refused fine = refl

-- a test t asked by a call that answered r, under the code's `if !r`, either way
pub asked : {r t b : Bool} → r ≡ t → not r ≡ b → not t ≡ b
asked told e = ap not (sym told) ∙ e

-- a table read from the top down to some row: no row above it holds
pub data Reaches : List Row → List Row → Type 0 where
  top : {rows : List Row} → Reaches rows rows
  past : {why : Refusal} {holds : Bool} {rows later : List Row} → holds ≡ false → Reaches rows later → Reaches (row why holds ∷ rows) later

pub reached : {rows later : List Row} → Reaches rows later → verdict rows ≡ verdict later
unfolding verdict
reached top = refl
reached (past e r) = rw e (reached r)

-- a call that writes only where no row holds, and has no exception: where a row refuses, and where none does
module _ {A M : Type 0} (refused : Refusal → A) (fine : A) (before after : M) {v : Verdict} where
  pub kept : {why : Refusal} → v ≡ Err why → (refused why ≡ ruled v refused fine) × (before ≡ ruled v (λ _. before) after)
  kept e = (rw e, rw e)

  pub done : {r : A} {left : M} → v ≡ Ok tt → r ≡ fine → left ≡ after → (r ≡ ruled v refused fine) × (left ≡ ruled v (λ _. before) after)
  done e p q = (rw e p, rw e q)

-- two tables, one after the other
pub joined : (rows later : List Row) → verdict (rows ++ later) ≡ ruled (verdict rows) Err (verdict later)
unfolding verdict
joined [] later = refl
joined (r ∷ rows) later = by_holds r.holds r.why (verdict rows) (joined rows later)
  where
    by_holds : (holds : Bool) (why : Refusal) (w : Verdict) → verdict (rows ++ later) ≡ ruled w Err (verdict later)
        → first holds why (verdict (rows ++ later)) ≡ ruled (first holds why w) Err (verdict later)
    by_holds true why w e = refl
    by_holds false why w e = e

-- where no row holds, none of them does
pub clear : (why : Refusal) (holds : Bool) (rows : List Row) → verdict (row why holds ∷ rows) ≡ Ok tt → (holds ≡ false) × (verdict rows ≡ Ok tt)
unfolding verdict
clear why true rows e = absurd (not_both {why = why} refl e)
clear why false rows e = (refl, e)

pub both_clear : (rows later : List Row) → verdict (rows ++ later) ≡ Ok tt → (verdict rows ≡ Ok tt) × (verdict later ≡ Ok tt)
both_clear rows later e =
    by_verdict (verdict rows)
    (λ v. (v, rw v at (sym (joined rows later) ∙ e)))
    (λ why v. absurd (not_both {why = why} (joined rows later ∙ rw v) e))

-- a refusal is that of some row
pub lacking : (but : Refusal) (rows : List Row) {why : Refusal} → lacks but rows ≡ true → verdict rows ≡ Err why → eqb (number_of why) (number_of but) ≡ false
unfolding verdict lacks
lacking but [] {why} l e = absurd (not_both {why = why} e refl)
lacking but (r ∷ rows) {why} l e =
    by_test (eqb (number_of r.why) (number_of but))
    (λ same. absurd (clash (sym (rw same at l))))
    (λ other. let rest : lacks but rows ≡ true = rw other at l in by_holds r.holds r.why other (lacking but rows rest) e)
  where
    by_holds : (holds : Bool) (w : Refusal) → eqb (number_of w) (number_of but) ≡ false → (verdict rows ≡ Err why → eqb (number_of why) (number_of but) ≡ false)
        → first holds w (verdict rows) ≡ Err why → eqb (number_of why) (number_of but) ≡ false
    by_holds true w other later e = let is : w ≡ why = cc in ap (λ (x : Refusal). eqb (number_of x) (number_of but)) (sym is) ∙ other
    by_holds false w other later e = later e

-- a table's part that was judged before: it is passed as a whole
pub skips : (part : List Row) {later rest : List Row} → verdict part ≡ Ok tt → Reaches later rest → Reaches (part ++ later) rest
unfolding verdict
skips [] e r = r
skips (x ∷ part) e r = let f = clear x.why x.holds part e in past f.0 (skips part f.1 r)

-- a function that judges: a row holds, or none does
pub judged_wrong : {rows later : List Row} {why : Refusal} {holds : Bool} → Reaches rows (row why holds ∷ later) → holds ≡ true → Err why ≡ verdict rows
unfolding verdict
judged_wrong r e = rw (reached r, e)

pub judged_fine : {rows : List Row} → Reaches rows [] → Ok tt ≡ verdict rows
unfolding verdict
judged_fine r = rw (reached r)

refuses : {A M : Type 0} (but : Refusal) (refused : Refusal → A) (fine : A) (before after : M) {v : Verdict} {why : Refusal} → v ≡ Err why
    → eqb (number_of why) (number_of but) ≡ false → (refused why ≡ ruled v refused fine) × (before ≡ leaves v but before after)
refuses but refused fine before after e other = (rw e, rw (e, other))

module _ {A M : Type 0} {rows : List Row} (but : Refusal) (refused : Refusal → A) (fine : A) (before after : M) where
  -- where a row holds: the answer refuses by it, and memory is left as it was
  pub stopped : {why : Refusal} {holds : Bool} {later : List Row} → Reaches rows (row why holds ∷ later) → holds ≡ true → eqb (number_of why) (number_of but) ≡ false
      → (refused why ≡ ruled (verdict rows) refused fine) × (before ≡ leaves (verdict rows) but before after)
  stopped r e other = refuses but refused fine before after (sym (judged_wrong r e)) other

  -- the same for a part of the table that was judged before
  pub stopped_in : (part later : List Row) {why : Refusal} → Reaches rows (part ++ later) → verdict part ≡ Err why → lacks but part ≡ true
      → (refused why ≡ ruled (verdict rows) refused fine) × (before ≡ leaves (verdict rows) but before after)
  stopped_in part later r e l = refuses but refused fine before after (reached r ∙ joined part later ∙ rw e) (lacking but part l e)

  -- where every row but the last passes: the answer is by the last row, and memory is what was written, whether it holds or not
  pub wrote : {holds : Bool} {r : A} {left : M} → Reaches rows (row but holds ∷ []) → r ≡ ruled (verdict (row but holds ∷ [])) refused fine → left ≡ after
      → (r ≡ ruled (verdict rows) refused fine) × (left ≡ leaves (verdict rows) but before after)
  unfolding verdict
  wrote {holds} at p q = (rw (reached at) p, by_holds holds (reached at) q)
    where
      by_holds : (b : Bool) {left : M} {v : Verdict} → v ≡ first b but (Ok tt) → left ≡ after → left ≡ leaves v but before after
      by_holds true e q = rw (e, eq-eqb (number_of but) (number_of but) refl) q
      by_holds false e q = rw e q

-- the same seen from the rows before the last alone
pub left_by : {M : Type 0} (but : Refusal) (rows : List Row) (holds : Bool) (before after : M) → lacks but rows ≡ true
    → leaves (verdict (rows ++ (row but holds ∷ []))) but before after ≡ ruled (verdict rows) (λ _. before) after
unfolding verdict
left_by but rows holds before after l =
    by_verdict (verdict rows)
    (λ v. rw (joined rows (row but holds ∷ []), v) (sym (wrote {rows = row but holds ∷ []} but (λ _. before) after before after top refl refl).1))
    (λ why v. rw (joined rows (row but holds ∷ []), v, lacking but rows l v))

-- a refusal leaves what was lent, but for one number
pub refused_leaves {ℓ} : {A : Type ℓ} (v : Verdict) (but : Refusal) {before after : A}
    → Leaves (ruled v number_of 0) (number_of but) before after (leaves v but before after)
refused_leaves (Ok tt) but = record { untouched = λ refusal other. absurd (refusal refl); excepted = λ same. refl }
refused_leaves (Err why) but = record {
  untouched = λ refusal other. by_test (eqb (number_of why) (number_of but)) (λ t. absurd (other (eqb-true _ _ t))) (λ t. rw t);
  excepted = λ same. rw (eq-eqb _ _ same);
}

pub refused_keeps {ℓ} : {A : Type ℓ} (v : Verdict) (before after : A) → (ruled v number_of 0 ≡ 0 → ⊥) → ruled v (λ _. before) after ≡ before
refused_keeps (Ok tt) before after refusal = absurd (refusal refl)
refused_keeps (Err why) before after refusal = refl

-- a success: no row holds, by the number answered or by the answer
pub none_holds : (v : Verdict) → ruled v number_of 0 ≡ 0 → v ≡ Ok tt
none_holds (Ok tt) success = refl
none_holds (Err why) success = absurd (omega (arith, some_number why))

pub succeeded : {A : Type 0} (v : Verdict) (refused : Refusal → A) (fine : A) {answer : A} → ruled v refused fine ≡ answer
    → ((why : Refusal) → refused why ≡ answer → ⊥) → (v ≡ Ok tt) × (fine ≡ answer)
succeeded (Ok tt) refused fine e never = (refl, e)
succeeded (Err why) refused fine e never = absurd (never why e)

-- a table's last number is answered only where its last row holds, and no row above it
pub last_holds : (but : Refusal) (rows : List Row) (holds : Bool) → lacks but rows ≡ true → 0 < number_of but
    → first_row (rows ++ (row but holds ∷ [])) ≡ number_of but → (verdict rows ≡ Ok tt) × (holds ≡ true)
unfolding verdict
last_holds but rows holds l above e =
    by_verdict (verdict rows)
    (λ v. (v, by_test holds (λ t. t) (λ t. let none : 0 ≡ number_of but = rw (joined rows (row but holds ∷ []), v, t) at e in absurd (omega arith))))
    (λ why v. let same : number_of why ≡ number_of but = rw (joined rows (row but holds ∷ []), v) at e in absurd (clash (sym (eq-eqb _ _ same) ∙ lacking but rows l v)))
