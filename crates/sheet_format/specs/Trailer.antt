-- The trailer of a sheet, each way, and what is right in one: document 01, "The cut sheet".
use Rattle.std.specs.Prelude.{ℕ, ◌*◌, Bool, ◌&&◌, ◌||◌, List, [], ◌∷◌, ◌++◌, ◌==◌, nat_le, slice_index}
use Rattle.terms.specs.declared.Settings.{Settings}
use Rattle.terms.specs.declared.Label.{Label}
use Rattle.terms.specs.declared.Label.TheVariants.{Practice, Live}
use Rattle.terms.specs.Settings.{in_range}
use Rattle.terms.specs.Labels.{byte_of}
use Rattle.sheet_format.specs.declared.trailer.Trailer.{Trailer}
use Rattle.words.specs.Numbers.{written, number_at}

-- the most cuts that a sheet holds
abbrev pub most_cuts : ℕ
most_cuts = 1_048_576

-- a trailer's bytes before the check word: the mark; the label; K; two bytes; target, minimum, maximum, count and distance, 4 bytes each
unfoldable pub fields : (mark : List ℕ) (t : Trailer) → List ℕ
fields mark t =
    mark
    ++ ((t.label ∷ t.settings.bits ∷ t.six ∷ t.seven ∷ [])
    ++ written 4 (t.settings.target ∷ t.settings.minimum ∷ t.settings.maximum ∷ t.count ∷ t.distance ∷ []))

-- the same fields, where they stand in a trailer's bytes
unfoldable pub trailer_in : (bytes : List ℕ) → Trailer
trailer_in bytes =
    record {
      label = slice_index bytes 4;
      settings =
          record {
            bits = slice_index bytes 5;
            target = number_at 8 4 bytes;
            minimum = number_at 12 4 bytes;
            maximum = number_at 16 4 bytes;
          };
      six = slice_index bytes 6;
      seven = slice_index bytes 7;
      count = number_at 20 4 bytes;
      distance = number_at 24 4 bytes;
    }

-- the trailer of a sheet of count cuts
unfoldable pub trailer_for : (settings : Settings) (label : Label) (count : ℕ) → Trailer
trailer_for settings label count =
    record { label = byte_of label; settings = settings; six = 0; seven = 0; count = count; distance = 8 * count }

unfoldable pub is_label : (byte : ℕ) → Bool
is_label byte = byte == byte_of Practice || byte == byte_of Live

-- a label P or L, settings in range, two zero bytes, a count that a sheet may have, its distance, and a body that fits into what
-- stands before the trailer
unfoldable pub trailer_right : (before : ℕ) (t : Trailer) → Bool
trailer_right before t =
    is_label t.label
    && (in_range t.settings
    && (t.six == 0
    && (t.seven == 0
    && (nat_le t.count most_cuts
    && (t.distance == 8 * t.count
    && nat_le t.distance before)))))
