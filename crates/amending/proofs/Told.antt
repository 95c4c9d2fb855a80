-- The parts are what document 01 says: the front of a well-formed list; the recut up to the first new cut that meets, and the back from there,
-- which begins with the old cut it meets.
use Prim.Native.Nat.{ℕ, ◌+◌, ◌≤◌, ◌<◌}
use mathlib.Core.Path.{◌≡◌, refl, sym, ◌∙◌, subst}
use mathlib.Core.Bool.{true, false, not}
use mathlib.Core.List.{List, [], ◌∷◌, append-nil, ◌++◌}
use native.Mathlib.Omega.{arith}
use borrow.Author.Tests.{eqb-false, le-leb, leb-true, eqb-true}
use Rattle.laws.proofs.Cases.{impossible, both_true}
use lib.Dec.{leb}
use Rattle.lists.specs.WellFormed.{is_empty, well_formed, length_of}
use Rattle.lists.proofs.Reaching.{Reaches, there, step, reaches, reaches_long}
use Rattle.amending.specs.declared.edits.Edit.{Edit}
use Rattle.amending.specs.Parts.{front, past_front, restart, until, from, was_at, meets, back_from, first_or}
use Rattle.amending.specs.Told.{Every, none, also, FrontTold, NoMeeting, Recut, meeting, no_meeting}
use Rattle.amending.proofs.Split.{Split, split, joined, heads, each_until, from_is}
use Rattle.amending.proofs.Front.{Front, none_old, old_last, beyond, kept, front_is, front_joined}

every_so : {P Q : ℕ → Type 0} {l : List ℕ} → ((x : ℕ) → P x → Q x) → Every P l → Every Q l
every_so so none = none
every_so so (also {x = x} h r) = also (so x h) (every_so so r)

module _ {lo hi z : ℕ} where
  -- each entry of a list that rises from b is above b
  above : {b : ℕ} {l : List ℕ} → Reaches lo hi z b l → Every (λ x. b < x) l
  above there = none
  above {b} (step {x = x} up near far more) = also up (every_so (λ y (h : x < y). omega arith) (above more))

  front_low : {s b : ℕ} {l f p : List ℕ} → Front s l f p → Reaches lo hi z b l → Every (λ x. (x ≤ s) × (x < z)) f
  front_low none_old r = none
  front_low old_last r = none
  front_low (beyond h) r = none
  front_low (kept {x = x} h f) (step up near far more) =
      let below : x < z = omega (arith, reaches_long more) in also (h, below) (front_low f more)

  past_high : {s b : ℕ} {l f p : List ℕ} → Front s l f p → Reaches lo hi z b l → Every (λ x. (x ≤ s → x ≡ z)) p
  past_high none_old r = none
  past_high old_last (step up near far there) = also (λ h. refl) none
  past_high {s} (beyond {x = x} h) (step up near far more) =
      also (λ (k : x ≤ s). absurd (omega arith)) (every_so (λ y (up : x < y) (k : y ≤ s). absurd (omega arith)) (above more))
  past_high (kept h f) (step up near far more) = past_high f more

pub front_told : (lo hi s : ℕ) (old : List ℕ) → well_formed lo hi old ≡ true → FrontTold s old (front s old) (past_front s old) (restart s old)
unfolding well_formed length_of restart
front_told lo hi s old ok =
    let r = (reaches lo hi 0 old ok).0 in
    record { whole = front_joined (front_is s old); low = front_low (front_is s old) r; high = past_high (front_is s old) r; restarts = refl }

-- the old cut x, with rest after it, stood where t is, which lies at or past the change's end
pub record Placed (edit : Edit) (past : List ℕ) (t x : ℕ) (rest : List ℕ) : Type 0 where
  pub far : edit.at + edit.added ≤ t
  pub place : x + edit.added ≡ t + edit.removed
  pub whole : until (was_at edit t) past ++ (x ∷ rest) ≡ past
  pub onward : from (was_at edit t) past ≡ x ∷ rest

pub placed : (edit : Edit) (past : List ℕ) (t : ℕ) → meets edit past t ≡ true → (x : ℕ) × (rest : List ℕ) × Placed edit past t x rest
placed edit past t h = found (from (was_at edit t) past) (split (was_at edit t) past) (unfold meets in both_true h)
  where
    found : (k : List ℕ) → Split (was_at edit t) past (until (was_at edit t) past) k → (leb (edit.at + edit.added) t ≡ true) × (not (is_empty k) ≡ true)
        → (x : ℕ) × (rest : List ℕ) × Placed edit past t x rest
    found [] parts both = impossible (unfold is_empty in cc)
    found (x ∷ k) parts both =
        (x, k, record { far = leb-true _ _ both.0; place = unfold was_at in eqb-true _ _ (heads parts); whole = joined parts; onward = from_is (was_at edit t) parts })

module _ (edit : Edit) (past : List ℕ) where
  not_at : (t x : ℕ) → was_at edit t x ≡ false → x + edit.added ≡ t + edit.removed → ⊥
  unfolding was_at
  not_at t x h = eqb-false _ _ h

  -- an offset that does not meet
  unmet : (t : ℕ) → meets edit past t ≡ false → NoMeeting edit past t
  unmet t h far = none_placed (from (was_at edit t) past) (split (was_at edit t) past) (unfold meets in rw (le-leb (edit.at + edit.added) t far) at h)
    where
      none_placed : (k : List ℕ) → Split (was_at edit t) past (until (was_at edit t) past) k → not (is_empty k) ≡ false
          → Every (λ x. (x + edit.added ≡ t + edit.removed → ⊥)) past
      none_placed [] parts h =
          let all : until (was_at edit t) past ≡ past = sym (append-nil _) ∙ joined parts in
          every_so (not_at t) (subst (Every (λ x. was_at edit t x ≡ false)) all (each_until parts))
      none_placed (x ∷ k) parts h = impossible (unfold is_empty in cc)

  pub recut_told : (n : ℕ) (news : List ℕ)
      → Recut edit past n news (until (meets edit past) news) (back_from edit past (from (meets edit past) news)) (first_or n (from (meets edit past) news))
  unfolding back_from first_or
  recut_told n news = told (from (meets edit past) news) (split (meets edit past) news)
    where
      told : (r : List ℕ) → Split (meets edit past) news (until (meets edit past) news) r → Recut edit past n news (until (meets edit past) news) (back_from edit past r) (first_or n r)
      told [] parts =
          let all : until (meets edit past) news ≡ news = sym (append-nil _) ∙ joined parts in
          subst (λ l. Recut edit past n news l [] n) (sym all) (no_meeting (subst (Every (NoMeeting edit past)) all (every_so unmet (each_until parts))))
      told (t ∷ after) parts =
          let (x, rest, at) = placed edit past t (heads parts) in
          rw at.onward (meeting t x after (until (was_at edit t) past) rest (sym (joined parts)) (every_so unmet (each_until parts)) at.far (sym at.whole) at.place)
