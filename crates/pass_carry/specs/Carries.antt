-- The carry of the one-pass cutter, and the rule byte by byte: document 01, "The one-pass rule".
use Rattle.std.specs.Prelude.{ℕ, ◌+◌, ◌-◌, Bool, true, false, ◌&&◌, ◌||◌, List, [], ◌∷◌, ◌++◌, leb, ltb, eqb, length, take, drop, replicate}
use Rattle.terms.specs.declared.Settings.{Settings}
use Rattle.terms.specs.Answers.{longest}
use Rattle.signature.specs.Signatures.{signature_of}
use Rattle.cutting.specs.Marks.{matches}
use Rattle.pass_carry.specs.declared.Carry.{Carry}

unfoldable pub all_zero : List ℕ → Bool
all_zero [] = true
all_zero (b ∷ bs) = eqb b 0 && all_zero bs

-- bytes since the last cut are at most the bytes taken and below maximum; the signature is that of the 48;
-- places before the log's start are zero; the bytes taken are at most 2^40; and `closed` says one of two things, open (0) or closed (1)
unfoldable pub in_order : Carry → Bool
in_order c =
    leb c.since c.taken
    && (ltb c.since c.settings.maximum
    && (eqb c.signature (signature_of c.window)
    && (all_zero (take (48 - c.taken) c.window)
    && (leb c.taken longest
    && leb c.closed 1))))

-- nothing taken yet, and open
unfoldable pub fresh_carry : Settings → Carry
fresh_carry s =
    record {
      settings = s;
      taken = 0;
      since = 0;
      window = replicate 48 0;
      signature = 0;
      closed = 0;
    }

-- the last 48 bytes, one byte later
abbrev pub slid : List ℕ → ℕ → List ℕ
slid window b = drop 1 window ++ (b ∷ [])

-- and a whole block later
abbrev pub slid_by : List ℕ → List ℕ → List ℕ
slid_by window block = drop (length block) (window ++ block)

-- whether the byte b, taken next, ends a piece: the piece is then at least minimum long, and its end is a mark or it is maximum long
unfoldable pub cuts_at : Carry → ℕ → Bool
cuts_at c b =
    leb c.settings.minimum (c.since + 1)
    && (matches c.settings (signature_of (slid c.window b)) || eqb (c.since + 1) c.settings.maximum)

-- the carry once the byte b is taken
unfoldable pub byte_taken : Carry → ℕ → Carry
byte_taken c b =
    record {
      settings = c.settings;
      taken = c.taken + 1;
      since = elim (cuts_at c b) [ true ↦ 0 | false ↦ c.since + 1 ];
      window = slid c.window b;
      signature = signature_of (slid c.window b);
      closed = c.closed;
    }

-- the carry once a whole block is taken
unfoldable pub block_taken : Carry → List ℕ → Carry
block_taken c [] = c
block_taken c (b ∷ bs) = block_taken (byte_taken c b) bs

-- the cuts that a block makes
unfoldable pub cuts_in : Carry → List ℕ → List ℕ
cuts_in c [] = []
cuts_in c (b ∷ bs) = elim (cuts_at c b) [ true ↦ (c.taken + 1) ∷ cuts_in (byte_taken c b) bs | false ↦ cuts_in (byte_taken c b) bs ]
