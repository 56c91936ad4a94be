-- Document 02, 2.6: the scores of two small shots, as statements about the definitions.
use Rattle.std.specs.Prelude.{◌≡◌, true, false, cond, List, [], ◌∷◌, ◌++◌, ℕ, ltb, pos, replicate, Float}
use Rattle.std.proofs.Math.Option.{none, some}
use Rattle.std.specs.Float.{binary32}
use Rattle.std.specs.Float.Ieee.{of_bits}
use Rattle.refusal.specs.declared.Refusal.TheVariants as refusal
use Rattle.lent_list.specs.Front.{in_front}
use Rattle.shot_record.specs.Shots.{Cell, Shot, list, default_margin, default_threshold, default_px, default_least_weight}
use Rattle.hypothesis.specs.ScoreList.{score_in, score_list}
use Rattle.board_match.specs.Scores.{score_room_answer, refused_with_scores}
use Rattle.worked_examples.specs.Table.{zero_float, minus_six, two_cells}
use Rattle.worked_examples.specs.Requests.{black_border}

-- the first `low` entries of the table, and the others
abbrev pub two_valued : ℕ → ℕ → ℕ → List ℕ
two_valued low first later = list (λ (i : ℕ). cond (ltb i low) first later) 511

-- a board of 2 × 2 squares, which has two markers, with codes of 2 × 2 bits
abbrev pub small_shot : List ℕ → ℕ → List ℕ → List Cell → Shot
small_shot table border codes cells =
    record {
      minimum_margin = default_margin;
      border_threshold = default_threshold;
      px_per_square = default_px;
      table = table;
      least_weight = default_least_weight;
      rows = 2;
      cols = 2;
      bits = 2;
      border = border;
      legacy_pattern = false;
      cell_size = 0x3F800000;
      marker_size_rel = 0x3F000000;
      codes = codes;
      cells = cells;
    }

-- document 01's record of `place`: a bit that differs from the grey adds −1, and the cell reads code 1
abbrev pub place_shot : Shot
place_shot =
    small_shot (two_valued 256 0xBF800000 0) 1 (1 ∷ 15 ∷ [])
    (record {
      u = pos 0;
      v = pos 0;
      sample = black_border 128 (0 ∷ 0 ∷ 0 ∷ 0 ∷ 0 ∷ 0 ∷ 255 ∷ 0 ∷ 0 ∷ 255 ∷ 255 ∷ 0 ∷ 0 ∷ 0 ∷ 0 ∷ 0 ∷ []);
    } ∷ [])

-- An unsampled cell, and one without a border that is black at its upper right bit alone; three codes for the two markers. A bit that agrees adds −1,
-- one that differs −2.
abbrev pub half_sampled : Shot
half_sampled =
    small_shot (two_valued 255 0xC0000000 0xBF800000) 0 (1 ∷ 3 ∷ 7 ∷ [])
    (two_cells 1 none (black_border 100 (200 ∷ 50 ∷ 200 ∷ 200 ∷ [])))

abbrev pub minus_two : Float
minus_two = of_bits binary32 0xC0000000

abbrev pub minus_three : Float
minus_three = of_bits binary32 0xC0400000

abbrev pub minus_four : Float
minus_four = of_bits binary32 0xC0800000

abbrev pub minus_five : Float
minus_five = of_bits binary32 0xC0A00000

abbrev pub minus_seven : Float
minus_seven = of_bits binary32 0xC0E00000

-- Code 1 is read as it is; each rotation of it differs in two bits. Code 15 is its own rotation and differs in three.
abbrev pub eight : List Float
eight = zero_float ∷ minus_two ∷ minus_two ∷ minus_two ∷ minus_three ∷ minus_three ∷ minus_three ∷ minus_three ∷ []

-- eight zeros of the unsampled cell; then code 1, which agrees after one quarter turn; then code 3
abbrev pub sixteen : List Float
sixteen = replicate 8 zero_float ++ (minus_six ∷ minus_four ∷ minus_six ∷ minus_six ∷ minus_five ∷ minus_five ∷ minus_seven ∷ minus_seven ∷ [])

pub record Scores : Type 0 where
  pub of_place : score_list place_shot ≡ eight
  -- question 24: eight elements are enough for it, seven are not
  pub room : (score_room_answer place_shot 7 ≡ false) × (score_room_answer place_shot 8 ≡ true)
  -- 14 is checked before 24, and 24 before 15 to 17
  pub both_short : refused_with_scores place_shot 17 7 ≡ some refusal.ListTooShort
  pub scores_short : refused_with_scores place_shot 18 7 ≡ some refusal.ScoreListTooShort
  pub turns : (score_in half_sampled 1 0 1 ≡ minus_four) × (score_in half_sampled 1 0 3 ≡ minus_six)
  pub of_two : score_list half_sampled ≡ sixteen
  -- two elements after them do not change
  pub later : (x : Float) → in_front (score_list half_sampled) (replicate 18 x) ≡ sixteen ++ (x ∷ x ∷ [])
