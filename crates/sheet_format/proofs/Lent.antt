-- A right trailer's facts by name, and the sheet and its body as code lends them: they are those of the definition, and so long.
use Rattle.std.proofs.Common.{◌≡◌, ℕ, ◌+◌, ◌-◌, ◌*◌, ◌≤◌, true, leb, List, length, take, drop, arith, length-drop, length-take-le, eqb-true, leb-true}
use Rattle.laws.proofs.Slices.{rest_from}
use Rattle.laws.proofs.Cases.{both_true}
use Rattle.terms.specs.Settings.{in_range}
use Rattle.words.specs.Runs.{same}
use Rattle.sheet_format.specs.declared.trailer.Trailer.{Trailer}
use Rattle.sheet_format.specs.Trailer.{most_cuts, is_label, trailer_right}
use Rattle.sheet_format.specs.Clean.{trailer_bytes, trailer_of, sheet_in, body_in, has_trailer}
use Rattle.sheet_format.specs.Inner.{Placed}

pub record Right (before : ℕ) (t : Trailer) : Type 0 where
  pub six : t.six ≡ 0
  pub seven : t.seven ≡ 0
  pub distance : t.distance ≡ 8 * t.count
  pub body : t.distance ≤ before

pub right_facts : {before : ℕ} {t : Trailer} → trailer_right before t ≡ true → Right before t
unfolding trailer_right
right_facts {t = t} ok =
    let a = both_true {a = is_label t.label} ok in
    let b = both_true {a = in_range t.settings} a.1 in
    let c = both_true b.1 in
    let d = both_true c.1 in
    let e = both_true {a = leb t.count most_cuts} d.1 in
    let f = both_true e.1 in
    record { six = eqb-true _ _ c.0; seven = eqb-true _ _ d.0; distance = eqb-true _ _ f.0; body = leb-true _ _ f.1 }

pub there : (bytes mark : List ℕ) → has_trailer mark bytes ≡ true → (32 ≤ length bytes) × (same mark (take 4 (trailer_bytes bytes)) ≡ true)
unfolding has_trailer
there bytes mark present = let halves = both_true present in (leb-true _ _ halves.0, halves.1)

-- the sheet and its body, where the trailer tells of as many bytes as there are
module _ (bytes : List ℕ) {distance : ℕ} (p : Placed distance bytes) where
  pub sheet_lent : take (length bytes - (length bytes - 32 - distance)) (drop (length bytes - 32 - distance) bytes) ≡ sheet_in bytes
  unfolding sheet_in
  sheet_lent = rw p.told (rest_from bytes (length bytes - 32 - (trailer_of bytes).distance))

  pub length_sheet_in : length (sheet_in bytes) ≡ distance + 32
  unfolding sheet_in
  length_sheet_in = rw (← p.told, length-drop) (omega (arith, p.fits))

  pub length_body : length (body_in bytes) ≡ distance
  unfolding body_in
  length_body = rw (← p.told) (length-take-le distance (sheet_in bytes) (omega (arith, length_sheet_in)))
