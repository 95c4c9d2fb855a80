-- What taking a block answers, by how many cuts were made and which is the last.
use Prim.Native.Nat.{ℕ, ◌+◌, ◌-◌, ◌≤◌, ◌<◌}
use mathlib.Core.Path.{◌≡◌, sym, ap, ap₂, ◌∙◌}
use mathlib.Core.List.{List}
use native.Mathlib.Omega.{arith}
use lib.ListN.{length}
use borrow.Author.Tests.{lt-ltb, le-ltb}
use Rattle.laws.proofs.Sets.{sets_written}
use Rattle.terms.specs.declared.Refusal.TheVariants.{ListFull}
use Rattle.terms.specs.Rows.{verdict}
use Rattle.lists.specs.declared.Made.{Made}
use Rattle.lists.specs.Puts.{Puts}
use Rattle.lists.proofs.Putting.{puts_long}
use Rattle.signature.specs.Signatures.{signature_of}
use Rattle.lists.specs.Written.{written_list}
use Rattle.pass_carry.specs.declared.Carry.{Carry}
use Rattle.pass_carry.specs.Carries.{slid_by, block_taken, cuts_in}
use Rattle.pass_carry.specs.Outcomes.{refused, wrote}
use Rattle.pass_carry.proofs.Usable.{Usable}
use Rattle.pass_carry.proofs.Parts.{parts, since_last}
use Rattle.pass_block.specs.Taking.{taken_outcome, begun, advanced_by}

-- the whole carry, where the bytes since the last cut are known
block_taken_lem : (block : List ℕ) (c : Carry) (since : ℕ) → Usable c → (block_taken c block).since ≡ since
    → block_taken c block ≡ advanced_by c (length block) since (slid_by c.window block) (signature_of (slid_by c.window block))
block_taken_lem block c since ok e =
    let p = parts block c ok.whole ok.signed in
    λ i.
    record {
      settings = p.settings_kept i;
      taken = p.taken_grown i;
      since = e i;
      window = p.window_slid i;
      signature = (p.signature_true ∙ ap signature_of p.window_slid) i;
      closed = p.closed_kept i;
    }

module _ (c : Carry) (block list₀ list : List ℕ) (made : Made) (ok : Usable c) (puts : Puts (cuts_in c block) (begun c) made list₀ list) where
  counted : made.count ≡ length (cuts_in c block)
  counted = omega (arith, puts.counted)

  -- the last cut, and the bytes since
  since_is : made.cut + (block_taken c block).since ≡ c.taken + length block
  since_is = ap (λ m. m + (block_taken c block).since) puts.last ∙ since_last block c (c.taken - c.since) (omega (arith, ok.begun))

  pub cut_inside : made.cut ≤ c.taken + length block
  cut_inside = omega (arith, since_is)

  pub list_is : list ≡ written_list (cuts_in c block) list₀
  unfolding written_list
  list_is = puts.kept ∙ sets_written list₀ (cuts_in c block)

  pub ran_full : length list < made.count → refused c ListFull ≡ taken_outcome c block (length list₀)
  unfolding taken_outcome verdict
  ran_full h = rw (lt-ltb (length list₀) (length (cuts_in c block)) (omega (arith, counted, puts_long puts)))

  pub all_written : made.count ≤ length list → (window : List ℕ) (signature : ℕ) → window ≡ slid_by c.window block → signature ≡ signature_of (slid_by c.window block)
      → wrote (advanced_by c (length block) (c.taken + length block - made.cut) window signature) made.count ≡ taken_outcome c block (length list₀)
  unfolding taken_outcome verdict
  all_written h window signature is-window is-signature =
      let since : (block_taken c block).since ≡ c.taken + length block - made.cut = omega (arith, since_is) in
      rw (le-ltb (length list₀) (length (cuts_in c block)) (omega (arith, counted, puts_long puts)))
      (ap₂ wrote (ap₂ (advanced_by c (length block) (c.taken + length block - made.cut)) is-window is-signature ∙ sym (block_taken_lem block c _ ok since)) counted)
