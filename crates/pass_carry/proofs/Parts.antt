-- What a block leaves in each part of the carry.
use Prim.Native.Nat.{ℕ, ◌+◌}
use mathlib.Core.Path.{◌≡◌, refl, sym, ap, ◌∙◌}
use mathlib.Core.List.{List, [], ◌∷◌, append-nil}
use native.Mathlib.Nat.{add-zero}
use native.Mathlib.Omega.{arith}
use lib.ListN.{length, drop, length-append, length-drop}
use Rattle.laws.specs.Last.{last_or}
use Rattle.laws.proofs.Cases.{by_test}
use Rattle.signature.specs.Signatures.{signature_of}
use Rattle.pass_carry.specs.declared.Carry.{Carry}
use Rattle.pass_carry.specs.Carries.{slid, slid_by, cuts_at, byte_taken, block_taken, cuts_in}
use Rattle.pass_carry.proofs.OneByte.{since_cut, since_on, cuts_cut, cuts_on}
use Rattle.pass_carry.proofs.Sees.{length_slid, slid_on, later_window}

pub length_slid_by : (w block : List ℕ) → length w ≡ 48 → length (slid_by w block) ≡ 48
length_slid_by w block e = simp (length-drop, length-append) (omega arith)

pub record Parts (c : Carry) (block : List ℕ) (d : Carry) : Type 0 where
  pub settings_kept : d.settings ≡ c.settings
  pub taken_grown : d.taken ≡ c.taken + length block
  pub window_slid : d.window ≡ slid_by c.window block
  pub signature_true : d.signature ≡ signature_of d.window
  pub closed_kept : d.closed ≡ c.closed

slid_by_more : (w : List ℕ) (b : ℕ) (bs : List ℕ) → length w ≡ 48 → slid_by (slid w b) bs ≡ slid_by w (b ∷ bs)
slid_by_more w b [] e = ap (drop 0) (slid_on w b e [])
slid_by_more w b (x ∷ xs) e = sym (later_window w b e (x ∷ xs) (length xs))

pub parts : (block : List ℕ) (c : Carry) → length c.window ≡ 48 → c.signature ≡ signature_of c.window → Parts c block (block_taken c block)
unfolding byte_taken block_taken
parts [] c whole sig =
    record {
      settings_kept = refl;
      taken_grown = sym (add-zero c.taken);
      window_slid = sym (append-nil c.window);
      signature_true = sig;
      closed_kept = refl;
    }
parts (b ∷ bs) c whole sig =
    let rest : Parts (byte_taken c b) bs (block_taken (byte_taken c b) bs) = parts bs (byte_taken c b) (length_slid c.window b whole) refl in
    record {
      settings_kept = rest.settings_kept;
      taken_grown = rest.taken_grown ∙ omega arith;
      window_slid = rest.window_slid ∙ slid_by_more c.window b bs whole;
      signature_true = rest.signature_true;
      closed_kept = rest.closed_kept;
    }

-- the bytes since the last cut, which was m before the block
pub since_last : (block : List ℕ) (c : Carry) (m : ℕ) → m + c.since ≡ c.taken → last_or m (cuts_in c block) + (block_taken c block).since ≡ c.taken + length block
unfolding byte_taken block_taken cuts_in last_or
since_last [] c m tied = tied ∙ sym (add-zero c.taken)
since_last (b ∷ bs) c m tied =
    by_test (cuts_at c b)
    (λ e. rw (cuts_cut c b e bs) (since_last bs (byte_taken c b) (c.taken + 1) (omega (arith, since_cut c b e)) ∙ omega arith))
    (λ e. rw (cuts_on c b e bs) (since_last bs (byte_taken c b) m (omega (arith, since_on c b e)) ∙ omega arith))
