-- Document 01, Emission: the markers emitted for a placement, and the 18 words of each.
use Rattle.std.specs.Prelude.{ℕ, ◌+◌, ◌*◌, ◌/◌, ◌%◌, ◌^◌, ◌&&◌, cond, List, [], ◌∷◌, get_or, pos, Float, Option, Some, None}
use Rattle.std.proofs.Math.Option.{Option as Maybe, none, some}
use Rattle.std.specs.Float.{nan, binary32}
use Rattle.std.specs.Float.Ieee.{to_bits, of_int, div, lt}
use Rattle.std.specs.Int.{w32}
use Rattle.std.proofs.Common.{of_z}
use Rattle.floats.specs.Units.{nought}
use Rattle.lent_list.specs.Front.{up_to}
use Rattle.matcher.specs.Codes.{differing}
use Rattle.grid_alignment.specs.declared.Coord.{Coord}
use Rattle.grid_alignment.specs.declared.GridAlignment.{GridAlignment}
use Rattle.grid_alignment.specs.Alignment.{corner, rect_corners}
use Rattle.score_matrix.specs.Scores.{Samples, bit_count, score, evidence, read_code}
use Rattle.shot_record.specs.Shots.{Sample, Shot}
use Rattle.shot_record.specs.Answers.{of_pattern, config_of}
use Rattle.hypothesis.specs.Placements.{cell_total, cell, cell_point}
use Rattle.hypothesis.specs.Evidence.{table_of, samples_with, weight_with, expected, code_of}

-- `point` is that of `rotate_gc_top_left`, `code` the one read from the cell, `differing` its Hamming distance from the marker's code, `corners` the
-- four rectified corner points.
pub record Marker : Type 0 where
  pub cell : ℕ
  pub id : ℕ
  pub point : Coord
  pub turn : ℕ
  pub differing : ℕ
  pub code : ℕ
  pub quotient : Float
  pub fraction : Float
  pub corners : List (List Float)

-- The quotient: mean log-likelihood per bit, score / bits², the argument of upstream's sigmoid.
abbrev pub quotient : List Float → Samples → ℕ → Float
quotient table s code = div binary32 (score table s code) (of_int binary32 (pos (bit_count s)))

-- Marker m in cell k, whose sample is x. Both points are those of the cell before rotation.
abbrev pub marker_of : Shot → GridAlignment → ℕ → Sample → ℕ → Marker
marker_of s p k x m =
    record {
      cell = k;
      id = m;
      point = corner p.turn (cell_point s k);
      turn = p.turn % 4;
      differing = differing 64 (read_code (samples_with s (some x))) (code_of s p.turn m);
      code = read_code (samples_with s (some x));
      quotient = quotient (table_of s) (samples_with s (some x)) (code_of s p.turn m);
      fraction = of_pattern x.fraction;
      corners = rect_corners (cell s k).u (cell s k).v (config_of s).px_per_square;
    }

-- "each sampled cell with a marker expected, weight above 0, evidence above 0": what cell k emits, a marker or none
abbrev pub emitted_with : Shot → GridAlignment → ℕ → Maybe Sample → Option ℕ → List Marker
emitted_with s p k none m = []
emitted_with s p k (some x) None = []
emitted_with s p k (some x) (Some m) =
    cond (lt nought (weight_with s (some x)) && lt nought (evidence (table_of s) (samples_with s (some x)) (code_of s p.turn m)))
    (marker_of s p k x m ∷ []) []

unfoldable pub emitted : Shot → GridAlignment → ℕ → List Marker
emitted s p k = emitted_with s p k (cell s k).sample (expected s p k)

-- in cell order
abbrev pub markers : Shot → GridAlignment → List Marker
markers s p = up_to (emitted s p) (cell_total s)

-- The words of a marker: natural numbers as they are, integers in two's complement, the code's low half first, floats as bit patterns; the corner
-- points top left, top right, bottom right, bottom left, each x and y.
abbrev pub pattern : Float → ℕ
pattern x = to_bits binary32 x

abbrev pub corner_word : List (List Float) → ℕ → ℕ → ℕ
corner_word corners k axis = pattern (get_or (get_or corners k []) axis nan)

unfoldable pub marker_words : Marker → List ℕ
marker_words m =
    let at = corner_word m.corners in
    m.cell ∷ m.id ∷ of_z w32 m.point.u ∷ of_z w32 m.point.v ∷ m.turn ∷ m.differing ∷ m.code % 2 ^ 32 ∷ m.code / 2 ^ 32
    ∷ pattern m.quotient ∷ pattern m.fraction ∷ at 0 0 ∷ at 0 1 ∷ at 1 0 ∷ at 1 1 ∷ at 2 0 ∷ at 2 1 ∷ at 3 0 ∷ at 3 1 ∷ []

-- the id in the words of marker i
abbrev pub id_in : List ℕ → ℕ → ℕ
id_in words i = get_or words (18 * i + 1) 0
