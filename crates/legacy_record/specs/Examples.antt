-- Small legacy boards: the codes of the restated shot and the errors by document 02, 2.7, computed by hand.
use Rattle.std.specs.Prelude.{◌≡◌, true, List, [], ◌∷◌, ℕ}
use Rattle.std.proofs.Math.Option.{none, some}
use Rattle.refusal.specs.declared.Refusal.TheVariants as refusal
use Rattle.score_matrix.specs.Table.{patterns}
use Rattle.shot_record.specs.Shots.{Shot, default_margin, default_threshold, default_px, default_least_weight}
use Rattle.legacy_record.specs.Restated.{restated}
use Rattle.legacy_record.specs.Restating.{restate_refused_by}

-- a shot of a legacy board with codes of side 2, without cells
abbrev pub legacy_sheet : ℕ → ℕ → List ℕ → Shot
legacy_sheet rows cols codes =
    record {
      minimum_margin = default_margin;
      border_threshold = default_threshold;
      px_per_square = default_px;
      table = patterns;
      least_weight = default_least_weight;
      rows = rows;
      cols = cols;
      bits = 2;
      border = 1;
      legacy_pattern = true;
      cell_size = 0x3F800000;
      marker_size_rel = 0x3F000000;
      codes = codes;
      cells = [];
    }

pub record Examples : Type 0 where
  -- 2 × 3 has three markers; two later codes keep their places
  pub even_rows : (restated (legacy_sheet 2 3 (1 ∷ 3 ∷ 7 ∷ 0 ∷ 5 ∷ []))).codes ≡ 14 ∷ 12 ∷ 8 ∷ 0 ∷ 5 ∷ []
  -- with three rows every code stays
  pub odd_rows : (restated (legacy_sheet 3 2 (1 ∷ 3 ∷ 7 ∷ 0 ∷ 5 ∷ []))).codes ≡ 1 ∷ 3 ∷ 7 ∷ 0 ∷ 5 ∷ []
  -- 2 is 1 after a quarter turn: 22 is checked before 25, and 25 before 14
  pub alike_first : restate_refused_by (legacy_sheet 2 2 (1 ∷ 2 ∷ [])) 10 10 ≡ some refusal.CodesAlike
  pub even_sides : restate_refused_by (legacy_sheet 2 2 (1 ∷ 3 ∷ [])) 10 9 ≡ some refusal.EvenLegacyBoard
  pub one_byte_short : restate_refused_by (legacy_sheet 2 3 (1 ∷ 3 ∷ 7 ∷ [])) 10 9 ≡ some refusal.ListTooShort
  pub enough_room : restate_refused_by (legacy_sheet 2 3 (1 ∷ 3 ∷ 7 ∷ [])) 10 10 ≡ none
