-- Cuts written into a list one after the other, as far as it goes: what is made of them, what is left to make, and what that comes to.
use Prim.Native.Nat.{ℕ, ◌+◌}
use mathlib.Core.Path.{◌≡◌, refl, sym, ap, ◌∙◌, subst}
use mathlib.Core.List.{List, [], ◌∷◌, ◌++◌, append-nil, append_assoc}
use native.Mathlib.Nat.{add-zero}
use native.Mathlib.Omega.{arith}
use lib.ListN.{length, length-append}
use lib.Seq.{sets, length-sets}
use Rattle.laws.specs.Last.{last_or}
use Rattle.lists.specs.declared.Made.{Made}
use Rattle.lists.specs.Puts.{Puts}
use Rattle.laws.proofs.Last.{last_joined}
use Rattle.laws.proofs.Sets.{sets_joined}

-- some of the cuts are made, and the rest are left to make
pub record Underway (whole rest : List ℕ) (before now : Made) (list₀ list : List ℕ) : Type 0 where
  pub done : List ℕ
  pub joins : whole ≡ done ++ rest
  pub counted : now.count ≡ before.count + length done
  pub last : now.cut ≡ last_or before.cut done
  pub kept : list ≡ sets list₀ before.count done

pub begin : (whole : List ℕ) {before now : Made} (list : List ℕ) → now.count ≡ before.count → now.cut ≡ before.cut → Underway whole whole before now list list
unfolding last_or
begin whole {before} list e f = record { done = []; joins = refl; counted = e ∙ sym (add-zero before.count); last = f; kept = refl }

module _ {whole rest : List ℕ} {before now : Made} {list₀ list : List ℕ} where
  pub same_long : Underway whole rest before now list₀ list → length list ≡ length list₀
  same_long u = ap length u.kept ∙ length-sets list₀ before.count u.done

  pub rest-is : (rest' : List ℕ) → rest ≡ rest' → Underway whole rest before now list₀ list → Underway whole rest' before now list₀ list
  rest-is rest' e u = subst (λ r. Underway whole r before now list₀ list) e u

  -- a step made the next of them
  pub more : (cuts : List ℕ) → Underway whole (cuts ++ rest) before now list₀ list → {after : Made} {list' : List ℕ}
      → Puts cuts now after list list' → Underway whole rest before after list₀ list'
  more cuts u p =
      record {
        done = u.done ++ cuts;
        joins = u.joins ∙ sym (append_assoc u.done cuts rest);
        counted = p.counted ∙ rw length-append (omega (arith, u.counted));
        last = p.last ∙ ap (λ (c : ℕ). last_or c cuts) u.last ∙ sym (last_joined before.cut u.done cuts);
        kept = p.kept
            ∙ ap (λ (k : ℕ). sets list k cuts) u.counted
            ∙ ap (λ (l : List ℕ). sets l (before.count + length u.done) cuts) u.kept
            ∙ sym (sets_joined list₀ before.count u.done cuts);
      }

-- all are made
pub ended : {whole : List ℕ} {before now : Made} {list₀ list : List ℕ} → Underway whole [] before now list₀ list → Puts whole before now list₀ list
ended {whole} {before} {now} {list₀} {list} u =
    let all : u.done ≡ whole = sym (u.joins ∙ append-nil u.done) in
    subst (λ w. Puts w before now list₀ list) all (record { counted = u.counted; last = u.last; kept = u.kept })

-- all that was left is made at once
pub all_made : {whole rest lent : List ℕ} {before after now : Made} {list₀ list list' : List ℕ} → Underway whole rest before now list₀ list → lent ≡ rest
    → Puts lent now after list list' → Puts whole before after list₀ list'
all_made {rest = rest} u e p = ended (more _ (rest-is _ (sym (append-nil rest) ∙ ap (λ (l : List ℕ). l ++ []) (sym e)) u) p)

-- the same cuts, said otherwise
pub puts_are : {cuts cuts' : List ℕ} {before after : Made} {list₀ list : List ℕ} → cuts ≡ cuts' → Puts cuts before after list₀ list → Puts cuts' before after list₀ list
puts_are {before = before} {after} {list₀} {list} e p = subst (λ c. Puts c before after list₀ list) e p

-- a cut that was put is the last
pub put_last : {x : ℕ} {before after : Made} {list₀ list : List ℕ} → Puts (x ∷ []) before after list₀ list → after.cut ≡ x
unfolding last_or
put_last p = p.last

-- two steps, one after the other
pub joined : {cuts more_cuts : List ℕ} {before now after : Made} {list₀ list list' : List ℕ} → Puts cuts before now list₀ list → Puts more_cuts now after list list'
    → Puts (cuts ++ more_cuts) before after list₀ list'
joined {cuts} {more_cuts} {list₀ = list₀} p q = all_made {rest = more_cuts} (more cuts (begin (cuts ++ more_cuts) list₀ refl refl) p) refl q

pub puts_long : {cuts : List ℕ} {before after : Made} {list₀ list : List ℕ} → Puts cuts before after list₀ list → length list ≡ length list₀
puts_long {cuts} {before} {list₀ = list₀} p = ap length p.kept ∙ length-sets list₀ before.count cuts
