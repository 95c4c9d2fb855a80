-- Bytes that read cleanly: every row that judges them passed, and what that says of them.
use Rattle.std.proofs.Common.{◌≡◌, ℕ, ◌+◌, ◌-◌, ◌*◌, Bool, true, not, List, length, sym, refl, ap, ◌∙◌, arith, lit<}
use borrow.Author.Tests.{not-false}
use Rattle.terms.specs.declared.Refusal.TheVariants.{NoSheet, TrailerWrong, CheckWordWrong, ListNotWellFormed}
use Rattle.terms.proofs.Verdicts.{clear, top, past, judged_fine}
use Rattle.lists.specs.WellFormed.{well_formed}
use Rattle.words.specs.Numbers.{numbers_of}
use Rattle.words.proofs.Back.{length-numbers_of}
use Rattle.sheet_format.specs.declared.trailer.Trailer.{Trailer}
use Rattle.sheet_format.specs.Forms.{Form}
use Rattle.sheet_format.specs.Trailer.{trailer_right}
use Rattle.sheet_format.specs.Sheets.{checked}
use Rattle.sheet_format.specs.Clean.{trailer_of, sheet_in, body_in, list_in, has_trailer, has_list, clean_rows, ReadsCleanly}
use Rattle.sheet_format.specs.Inner.{Placed}
use Rattle.sheet_format.proofs.Lent.{right_facts, there, length_sheet_in, length_body}

pub record Clean (form : Form) (bytes : List ℕ) : Type 0 where
  pub present : has_trailer form.mark bytes ≡ true
  pub right : trailer_right (length bytes - 32) (trailer_of bytes) ≡ true
  pub sound : checked form (sheet_in bytes) ≡ true
  pub listed : has_list bytes ≡ true

pub cleanly : {form : Form} {bytes : List ℕ} → Clean form bytes → ReadsCleanly form bytes
unfolding clean_rows
cleanly c = sym (judged_fine (past (ap not c.present) (past (ap not c.right) (past (ap not c.sound) (past (ap not c.listed) top)))))

pub clean : (form : Form) (bytes : List ℕ) → ReadsCleanly form bytes → Clean form bytes
unfolding clean_rows
clean form bytes e =
    let p = clear NoSheet _ _ e in
    let r = clear TrailerWrong _ _ p.1 in
    let s = clear CheckWordWrong _ _ r.1 in
    let l = clear ListNotWellFormed _ _ s.1 in
    record { present = not-false _ p.0; right = not-false _ r.0; sound = not-false _ s.0; listed = not-false _ l.0 }

-- the trailer that was read: where it is right it tells where its sheet stands, and its settings judge the list there
module _ (bytes : List ℕ) {t : Trailer} (e : t ≡ trailer_of bytes) where
  pub placed : (mark : List ℕ) → has_trailer mark bytes ≡ true → trailer_right (length bytes - 32) (trailer_of bytes) ≡ true → Placed t.distance bytes
  placed mark present right =
      let same : t.distance ≡ (trailer_of bytes).distance = ap (λ (x : Trailer). x.distance) e in
      record { told = same; fits = omega (arith, (there bytes mark present).0, (right_facts right).body) }

  pub listed_by : {r : Bool} {body : List ℕ} → body ≡ body_in bytes → r ≡ well_formed t.settings.minimum t.settings.maximum (numbers_of 8 body) → r ≡ has_list bytes
  unfolding has_list list_in
  listed_by b w = w ∙ rw (b, e)

-- a clean sheet has its trailer after its body, and as many entries as the trailer counts
module _ (form : Form) (bytes : List ℕ) (c : Clean form bytes) where
  stands : Placed (trailer_of bytes).distance bytes
  stands = placed bytes refl form.mark c.present c.right

  pub length_sheet : length (sheet_in bytes) ≡ 8 * (trailer_of bytes).count + 32
  length_sheet = length_sheet_in bytes stands ∙ omega (arith, (right_facts c.right).distance)

  pub length_list : length (list_in bytes) ≡ (trailer_of bytes).count
  unfolding list_in
  length_list = length-numbers_of 8 (lit< tt) (trailer_of bytes).count (body_in bytes) (length_body bytes stands ∙ (right_facts c.right).distance)
