-- Document 01, "Proved table": its rows P1 to P12, as statements about the definitions.
use Rattle.std.specs.Prelude.{◌≡◌, ℕ, ◌≤◌, false, List, [], ◌∷◌, length, ℤ, pos, Float, Option, Some, None, Err}
use Rattle.std.proofs.Math.Option.{Option as Maybe, none, some}
use Rattle.std.specs.Float.{binary32}
use Rattle.std.specs.Float.Ieee.{of_bits, to_bits}
use Rattle.refusal.specs.declared.Refusal.TheVariants as refusal
use Rattle.refusal.specs.Numbers.{number_of}
use Rattle.matcher.specs.Codes.{turned}
use Rattle.grid_alignment.specs.declared.GridAlignment.{GridAlignment}
use Rattle.grid_alignment.specs.Alignment.{corner_alignment}
use Rattle.board.specs.declared.Board.{Board}
use Rattle.board.specs.Layout.{marker_square, corner_at, surrounding_corners, surrounding}
use Rattle.score_matrix.specs.Scores.{null_score}
use Rattle.score_matrix.specs.declared.BoardMatchConfig.{BoardMatchConfig}
use Rattle.score_matrix.specs.Weights.{weight}
use Rattle.score_matrix.specs.Table.{patterns}
use Rattle.shot_record.specs.Shots.{Sample, Cell, Shot, default_margin, default_threshold, default_px, default_least_weight}
use Rattle.shot_record.specs.Writing.{bytes_of}
use Rattle.ranking.specs.declared.Evidence.TheVariants as evidence
use Rattle.ranking.specs.declared.Hypothesis.{Hypothesis}
use Rattle.ranking.specs.Margin.{margin}
use Rattle.hypothesis.specs.Placements.{placements}
use Rattle.hypothesis.specs.Rules.{count_of}
use Rattle.board_match.specs.Match.{asked_from15, match_answer}
use Rattle.link_check.specs.declared.LinkCheckMode.{LinkCheckMode}
use Rattle.link_check.specs.declared.LinkCheckMode.TheVariants as mode
use Rattle.link_check.specs.declared.LinkViolationKind.{LinkViolationKind}
use Rattle.link_check.specs.declared.LinkViolationKind.TheVariants as kind
use Rattle.link_check.specs.Links.{link_count}
use Rattle.link_check.specs.Violations.{Violation, expectation, violations}
use Rattle.board.specs.Numbering.{position}

abbrev pub align : ℕ → ℤ → ℤ → GridAlignment
align turn tx ty = record { turn = turn; tx = tx; ty = ty }

-- 0, 0.25, 0.5, 0.75, 1, 2, 4 and −6 as bit patterns
abbrev pub zero_float : Float
zero_float = of_bits binary32 0

abbrev pub quarter : Float
quarter = of_bits binary32 0x3E800000

abbrev pub half : Float
half = of_bits binary32 0x3F000000

abbrev pub three_quarters : Float
three_quarters = of_bits binary32 0x3F400000

abbrev pub one_float : Float
one_float = of_bits binary32 0x3F800000

abbrev pub two_float : Float
two_float = of_bits binary32 0x40000000

abbrev pub four : Float
four = of_bits binary32 0x40800000

abbrev pub minus_six : Float
minus_six = of_bits binary32 0xC0C00000

-- settings c with another border threshold, and the least weight 0: document 01 has none
abbrev pub over_threshold : BoardMatchConfig → Float → BoardMatchConfig
over_threshold c threshold =
    record {
      px_per_square = c.px_per_square;
      alignment_min_margin = c.alignment_min_margin;
      cell_weight_border_threshold = threshold;
      least_weight = zero_float;
    }

-- a placement with its evidence, to which n cells contribute
abbrev pub evident : GridAlignment → ℕ → Float → Hypothesis
evident p n x = record { alignment = p; evidence = evidence.Number x; contributing_cells = n }

-- a shot s with P3's board and the cells (0, 0) and (u, 0), sampled or not
abbrev pub two_cells : ℕ → Maybe Sample → Maybe Sample → List Cell
two_cells u first second = record { u = pos 0; v = pos 0; sample = first } ∷ record { u = pos u; v = pos 0; sample = second } ∷ []

abbrev pub showing : Shot → ℕ → Maybe Sample → Maybe Sample → Shot
showing s u first second =
    record {
      minimum_margin = s.minimum_margin;
      border_threshold = s.border_threshold;
      px_per_square = s.px_per_square;
      table = s.table;
      least_weight = s.least_weight;
      rows = 4;
      cols = 5;
      bits = s.bits;
      border = s.border;
      legacy_pattern = s.legacy_pattern;
      cell_size = s.cell_size;
      marker_size_rel = s.marker_size_rel;
      codes = s.codes;
      cells = two_cells u first second;
    }

-- such a shot with the cells (0, 0) and (5, 0): default settings, side 4, border 1, sizes 1.0 and 0.5, codes 0 to 7, 9 and 10 (8 is 1 rotated), no
-- cell sampled
abbrev pub too_wide : Shot
too_wide =
    record {
      minimum_margin = default_margin;
      border_threshold = default_threshold;
      px_per_square = default_px;
      table = patterns;
      least_weight = default_least_weight;
      rows = 4;
      cols = 5;
      bits = 4;
      border = 1;
      legacy_pattern = false;
      cell_size = 0x3F800000;
      marker_size_rel = 0x3F000000;
      codes = 0 ∷ 1 ∷ 2 ∷ 3 ∷ 4 ∷ 5 ∷ 6 ∷ 7 ∷ 9 ∷ 10 ∷ [];
      cells = two_cells 5 none none;
    }

-- a board with so many rows and cols, otherwise as there
abbrev pub board : ℕ → ℕ → Board
board rows cols = record { rows = rows; cols = cols; bits = 4; border_bits = 1; legacy_pattern = false; cell_size = one_float; marker_size_rel = half }

-- P8's links: a marker and a corner each
abbrev pub links : List ℕ
links = 3 ∷ 1 ∷ 3 ∷ 1 ∷ 3 ∷ 9 ∷ []

-- a violation of marker 3, whose corners are P7's
abbrev pub table_entry : LinkViolationKind → Maybe ℕ → List ℕ → Violation
table_entry k reported missing =
    record { marker = 3; kind = k; reported = reported; expected = 1 ∷ 2 ∷ 6 ∷ 5 ∷ []; missing = missing }

abbrev pub violations_in : LinkCheckMode → List Violation
violations_in m = violations links (link_count links) m (expectation (board 4 5))

pub record Table : Type 0 where
  -- 2 by 2 board: marker 0 at (1, 0), 1 at (0, 1)
  pub P1 : (marker_square (board 2 2) 0 ≡ Some (position 1 0)) × (marker_square (board 2 2) 1 ≡ Some (position 0 1))
  -- 3 by 3: (1, 0), (0, 1), (2, 1), (1, 2)
  pub P2 :
      (marker_square (board 3 3) 0 ≡ Some (position 1 0)) × (marker_square (board 3 3) 1 ≡ Some (position 0 1))
      × (marker_square (board 3 3) 2 ≡ Some (position 2 1)) × (marker_square (board 3 3) 3 ≡ Some (position 1 2))
  -- 4 rows, 5 cols: corner (1, 1) is 0, (4, 3) is 11; (5, 3) and (0, 1) have none
  pub P3 :
      (corner_at 4 5 (pos 1) (pos 1) ≡ Some 0) × (corner_at 4 5 (pos 4) (pos 3) ≡ Some 11)
      × (corner_at 4 5 (pos 5) (pos 3) ≡ None) × (corner_at 4 5 (pos 0) (pos 1) ≡ None)
  -- code 1, side 2, turns 0 to 3: 1, 2, 8, 4
  pub P4 : (turned 2 0 1 ≡ 1) × (turned 2 1 1 ≡ 2) × (turned 2 2 1 ≡ 8) × (turned 2 3 1 ≡ 4)
  -- code 2, side 3: 2, 32, 128, 8
  pub P5 : (turned 3 0 2 ≡ 2) × (turned 3 1 2 ≡ 32) × (turned 3 2 2 ≡ 128) × (turned 3 3 2 ≡ 8)
  -- cell translation (5, 7) as corner translation: (5, 7), (5, 8), (6, 8), (6, 7)
  pub P6 :
      (corner_alignment (align 0 (pos 5) (pos 7)) ≡ align 0 (pos 5) (pos 7)) × (corner_alignment (align 1 (pos 5) (pos 7)) ≡ align 1 (pos 5) (pos 8))
      × (corner_alignment (align 2 (pos 5) (pos 7)) ≡ align 2 (pos 6) (pos 8)) × (corner_alignment (align 3 (pos 5) (pos 7)) ≡ align 3 (pos 6) (pos 7))
  -- P3's board: marker 3 has corners 1, 2, 6, 5; marker 2 has no four; 10 is unknown
  pub P7 :
      (surrounding_corners (board 4 5) 3 ≡ Some (surrounding 1 2 6 5))
      × (marker_square (board 4 5) 2 ≡ Some (position 0 1)) × (surrounding_corners (board 4 5) 2 ≡ None)
      × (marker_square (board 4 5) 10 ≡ None)
  -- there, links (3, 1), (3, 1), (3, 9): 9 not in neighbourhood, then 1 repeated; all-four mode adds missing 2, 6, 5
  pub P8 :
      (violations_in mode.SubsetOk ≡ table_entry kind.CornerNotInNeighborhood (some 9) [] ∷ table_entry kind.DuplicateCorner (some 1) [] ∷ [])
      × (violations_in mode.MustMatchAll4 ≡ table_entry kind.CornerNotInNeighborhood (some 9) [] ∷ table_entry kind.DuplicateCorner (some 1) []
      ∷ table_entry kind.MissingCorners none (2 ∷ 6 ∷ 5 ∷ []) ∷ [])
  -- margins: best 0 gives 0; best 2 with runner-up absent gives 1; best 2, runner-up −6, capacity 4 gives 2
  pub P9 :
      ((capacity : Float) (next : Option Hypothesis) → margin (evidence.Number zero_float) capacity next ≡ zero_float)
      × ((capacity : Float) → margin (evidence.Number two_float) capacity None ≡ one_float)
      × ((p : GridAlignment) (n : ℕ) → margin (evidence.Number two_float) four (Some (evident p n minus_six)) ≡ two_float)
  -- null score, side 4: bits C1317218
  pub P10 : to_bits binary32 (null_score 4) ≡ 0xC1317218
  -- P3's board: cells (0, 0), (2, 0) give 44 placements, by the list and by the formula; (0, 0), (4, 0) give 8; (0, 0), (5, 0) is refused 15, as
  -- question 15 and as Match's result for a record
  pub P11 :
      ((s : Shot) (first second : Maybe Sample) → (length (placements (showing s 2 first second)) ≡ 44) × (count_of (showing s 2 first second) ≡ 44))
      × ((s : Shot) (first second : Maybe Sample) → (length (placements (showing s 4 first second)) ≡ 8) × (count_of (showing s 4 first second) ≡ 8))
      × ((s : Shot) (first second : Maybe Sample) → asked_from15 (showing s 5 first second) ≡ some refusal.TranslationWindow)
      × ((lent : List ℕ) → 36 ≤ length lent → match_answer (bytes_of 0 too_wide) lent ≡ Err refusal.TranslationWindow)
      × (number_of refusal.TranslationWindow ≡ 15)
  -- weights: fraction 0.25 over 0.5 is 0.5; 0.75 over 0.5 is 1; threshold 0 gives 1
  pub P12 :
      (c : BoardMatchConfig)
      → (weight (over_threshold c half) (Some quarter) ≡ half)
      × (weight (over_threshold c half) (Some three_quarters) ≡ one_float)
      × ((fraction : Float) → weight (over_threshold c zero_float) (Some fraction) ≡ one_float)
