-- The index of a record's cells: three 32-bit words for each of the first 256. The first is the cell's grid point, u in the low half and v in the
-- high half, each in two's complement; the second the bit pattern of the fraction; the third 256 times the offset of the grid, plus the threshold. An
-- unsampled cell has 0 in the second and the third.
use Rattle.std.specs.Prelude.{◌≡◌, true, List, [], ◌∷◌, ℕ, zero, suc, ◌+◌, ◌*◌, ◌/◌, ◌%◌, ◌^◌, ◌<◌, get_or, set, ℤ, Option, Some, None, Float}
use Rattle.std.specs.Int.{w16}
use Rattle.std.proofs.Common.{to_z}
use Rattle.shot_record.specs.Fields.{byte, number, cell_count, bits_of, border_of, grid_size, sampled, Point, point_of, sample_place}
use Rattle.shot_record.specs.Fields.{threshold_from, grid_from}
use Rattle.shot_record.specs.Shots.{setting, cell_of, whole_record}
use Rattle.shot_record.specs.Answers.{of_pattern, border_with, threshold_with}

-- the words of a cell, from its grid point, whether it is sampled (not 0), and the offset of its sample
abbrev pub point_word : Point → ℕ
point_word p = p.u + 65536 * p.v

abbrev pub words_from : Point → ℕ → ℕ → List ℕ → List ℕ
words_from p zero place bytes = point_word p ∷ 0 ∷ 0 ∷ []
words_from p (suc b) place bytes = point_word p ∷ number 4 place bytes ∷ (grid_from place * 256 + byte (threshold_from place) bytes) ∷ []

abbrev pub words_of : List ℕ → ℕ → List ℕ
words_of bytes k = words_from (point_of bytes k) (sampled bytes k) (sample_place bytes k) bytes

-- an index with the words of cell k
abbrev pub with_words : List ℕ → ℕ → List ℕ → List ℕ
with_words index k words = set (set (set index (3 * k) (get_or words 0 0)) (3 * k + 1) (get_or words 1 0)) (3 * k + 2) (get_or words 2 0)

-- the fields of cell k in an index
abbrev pub point_in : List ℕ → ℕ → ℕ
point_in index k = get_or index (3 * k) 0

abbrev pub fraction_in : List ℕ → ℕ → ℕ
fraction_in index k = get_or index (3 * k + 1) 0

abbrev pub grid_in : List ℕ → ℕ → ℕ
grid_in index k = get_or index (3 * k + 2) 0

abbrev pub u_in : List ℕ → ℕ → ℤ
u_in index k = to_z w16 (point_in index k % 65536)

abbrev pub v_in : List ℕ → ℕ → ℤ
v_in index k = to_z w16 (point_in index k / 65536 % 65536)

abbrev pub border_in : List ℕ → ℕ → Option Float
border_in index k = setting (grid_in index k) (Some (of_pattern (fraction_in index k))) None

abbrev pub threshold_in : List ℕ → ℕ → ℕ
threshold_in index k = grid_in index k % 256

abbrev pub place_in : List ℕ → ℕ → ℕ
place_in index k = grid_in index k / 256

-- The entry of cell k is correct: the values of the cell, the grid point in 32 bits, and the offset of the grid.
pub record Entry (bytes index : List ℕ) (k : ℕ) : Type 0 where
  pub word : point_in index k < 2 ^ 32
  pub u : u_in index k ≡ (cell_of bytes k).u
  pub v : v_in index k ≡ (cell_of bytes k).v
  pub border : border_in index k ≡ border_with (cell_of bytes k).sample
  pub threshold : threshold_in index k ≡ threshold_with (cell_of bytes k).sample
  pub unsampled : sampled bytes k ≡ 0 → grid_in index k ≡ 0
  pub place : (sampled bytes k ≡ 0 → ⊥) → place_in index k ≡ grid_from (sample_place bytes k)

abbrev pub Index : List ℕ → List ℕ → Type 0
Index bytes index = (k : ℕ) → k < cell_count bytes → k < 256 → Entry bytes index k

-- cell k of a record with its index, and the length of a grid
pub record HasGrid (bytes : List ℕ) (size : ℕ) (index : List ℕ) (k : ℕ) : Type 0 where
  pub indexed : Index bytes index
  pub whole : whole_record bytes ≡ true
  pub size_is : size ≡ grid_size (bits_of bytes) (border_of bytes)
  pub inside : k < cell_count bytes
  pub early : k < 256
