-- The starred figures of document 01 as one table.
use Rattle.std.specs.Prelude.{ℕ, ◌^◌, ◌≡◌, List, [], ◌∷◌, ◌++◌, length, replicate}
use Rattle.terms.specs.declared.Settings.{Settings}
use Rattle.signature.specs.Polynomials.{rem}
use Rattle.signature.specs.Signatures.{degree, low_part}
use Rattle.terms.specs.Answers.{answer_number, answer_count}
use Rattle.cutting.specs.Marks.{cut_list}
use Rattle.board.specs.Recording.{segment_answer, segment_leaves}

-- log A: 60 bytes, all 0 but byte 47, which is 1; K 8
unfoldable pub log_a : List ℕ
log_a = replicate 47 0 ++ (1 ∷ replicate 12 0)

-- log C: 400 bytes, 1 at 99, 199, 299, else 0; K 31, target 1
unfoldable pub log_c : List ℕ
log_c = replicate 99 0 ++ (1 ∷ (replicate 99 0 ++ (1 ∷ (replicate 99 0 ++ (1 ∷ replicate 100 0)))))

abbrev pub for_a : (target minimum maximum : ℕ) → Settings
for_a target minimum maximum = record { bits = 8; target = target; minimum = minimum; maximum = maximum }

abbrev pub for_c : (minimum maximum : ℕ) → Settings
for_c minimum maximum = record { bits = 31; target = 1; minimum = minimum; maximum = maximum }

-- a power of x reduced is a number; a log cut with settings gives a list; recording a segment answers a number and a count, and leaves a board
pub data Figure : Type 0 where
  power : (k value : ℕ) → Figure
  cuts : (settings : Settings) (log list : List ℕ) → Figure
  segment : (settings : Settings) (log : List ℕ) (size width i : ℕ) (board : List ℕ) (number count : ℕ) (after : List ℕ) → Figure

unfoldable pub Holds : Figure → Type 0
Holds (power k value) = rem degree low_part (2 ^ k) ≡ value
Holds (cuts settings log list) = cut_list settings log ≡ list
Holds (segment settings log size width i board number count after) =
    (answer_number (segment_answer settings log size width i (length board)) ≡ number)
    × (answer_count (segment_answer settings log size width i (length board)) ≡ count)
    × (segment_leaves settings log size width i board ≡ after)

-- each figure of a table holds
pub data Each : List Figure → Type 0 where
  none : Each []
  and_each : {f : Figure} {fs : List Figure} → Holds f → Each fs → Each (f ∷ fs)

unfoldable pub starred : List Figure
starred =
    power 384 17_961_248
    ∷ power 64 260
    ∷ cuts (for_a 1 48 96) log_a (48 ∷ 60 ∷ [])
    ∷ cuts (for_a 18 48 96) log_a (52 ∷ 60 ∷ [])
    ∷ cuts (for_a 18 53 96) log_a (59 ∷ 60 ∷ [])
    ∷ cuts (for_a 18 48 51) log_a (51 ∷ 60 ∷ [])
    ∷ cuts (for_a 1 48 96) [] []
    ∷ cuts (for_a 1 48 96) (0 ∷ []) (1 ∷ [])
    ∷ cuts (for_c 48 200) log_c (100 ∷ 200 ∷ 300 ∷ 400 ∷ [])
    ∷ cuts (for_c 101 202) log_c (200 ∷ 400 ∷ [])
    ∷ cuts (for_c 48 99) log_c (99 ∷ 198 ∷ 297 ∷ 396 ∷ 400 ∷ [])
    ∷ segment (for_c 48 200) log_c 150 4 1 (replicate 12 7) 0 4 (replicate 4 7 ++ (3 ∷ 300 ∷ 200 ∷ 300 ∷ replicate 4 7))
    ∷ segment (for_c 100 200) log_c 150 4 1 (replicate 12 7) 0 4 (replicate 4 7 ++ (3 ∷ 300 ∷ 200 ∷ 300 ∷ replicate 4 7))
    ∷ segment (for_c 100 199) log_c 150 4 1 (replicate 12 7) 0 4 (replicate 4 7 ++ (3 ∷ 0 ∷ 200 ∷ 300 ∷ replicate 4 7))
    ∷ segment (for_c 48 200) log_c 150 3 1 (replicate 9 7) 6 0 (replicate 3 7 ++ (0 ∷ 0 ∷ 200 ∷ replicate 3 7))
    ∷ []
