-- Laws that no other proof cites, at concrete values: a consequence of each, as a statement about the definitions. A field has the name of the law
-- that it follows from.
use Rattle.std.specs.Prelude.{◌≡◌, ℕ, suc, ◌+◌, ◌-◌, ◌*◌, ◌≤◌, ◌<◌, Bool, true, false, not, T, eqb, ℤ, pos, negsuc, ◌-ℤ◌, Float, Some, None, Ok}
use Rattle.std.specs.Prelude.{List, [], ◌∷◌, ◌++◌, length, take, drop, get_or}
use Rattle.std.proofs.Math.Option.{Option, none, some}
use Rattle.std.proofs.Math.ListN.{get_elem?}
use Rattle.std.specs.Float.Ieee.{is_nan}
use Rattle.std.specs.Int.{w16, w32}
use Rattle.std.proofs.Common.{SFits, of_z}
use Rattle.refusal.specs.declared.Refusal.TheVariants as refusal
use Rattle.integers.specs.Distance.{is_within}
use Rattle.integers.specs.Tests.{any_below}
use Rattle.matcher.specs.declared.Place.{Place}
use Rattle.matcher.specs.Codes.{bit, index_of, turned}
use Rattle.alike.specs.Alike.{alike}
use Rattle.grid_alignment.specs.declared.Coord.{Coord}
use Rattle.grid_alignment.specs.declared.GridAlignment.{GridAlignment}
use Rattle.grid_alignment.specs.Alignment.{point, applied, corner, corner_alignment}
use Rattle.board.specs.declared.Board.{Board}
use Rattle.board.specs.Numbering.{number_at, position}
use Rattle.board.specs.Layout.{holds_marker, odd_parity, parity_of, square_of, corner_at, corner_place, corner_count, four_corners, surrounding}
use Rattle.score_matrix.specs.Scores.{score, read_code}
use Rattle.score_matrix.specs.Table.{patterns}
use Rattle.shot_record.specs.Fields.{byte, map_byte, sample_place, threshold_from, grid_from}
use Rattle.shot_record.specs.Shots.{Sample, Cell, Shot, default_margin, default_threshold, default_px, default_least_weight, parse}
use Rattle.shot_record.specs.Answers.{grid_answer, part_answer}
use Rattle.shot_record.specs.Unchanged.{SameBetween}
use Rattle.shot_record.specs.Writing.{joined, cell_fields, bytes_of, Bytes}
use Rattle.hypothesis.specs.Placements.{cell_total, cell, placements}
use Rattle.hypothesis.specs.Evidence.{board_in, table_of, samples_of, expected, reported, exact}
use Rattle.emit.specs.Markers.{id_in}
use Rattle.board_match.specs.declared.Match.{Match}
use Rattle.board_match.specs.Match.{margin_of, refused_by, match_answer, match_list}
use Rattle.marker_sampling.specs.Cells.{Corners, corners_of, point_at, cells}
use Rattle.corner_mapping.specs.Corners.{Input, MappedCorner, id_of, bears, chosen, mapped, corner_words}
use Rattle.corner_mapping.specs.Entry.{alignment_answer, input}
use Rattle.legacy_record.specs.Restated.{restated}
use Rattle.legacy_record.specs.Restating.{restated_bytes}
use Rattle.legacy_record.specs.Rules.{OfBoard}
use Rattle.place_text.specs.Numerals.{hex8, decimal, signed_word}
use Rattle.worked_examples.specs.Table.{one_float, two_float, half, align, showing, board}
use Rattle.worked_examples.specs.Requests.{black_border}

-- the greys of a cell of side 2: four, row-major, in a black border
abbrev pub greys : ℕ → ℕ → ℕ → ℕ → List ℕ
greys a b c d = 0 ∷ 0 ∷ 0 ∷ 0 ∷ 0 ∷ a ∷ b ∷ 0 ∷ 0 ∷ c ∷ d ∷ 0 ∷ 0 ∷ 0 ∷ 0 ∷ 0 ∷ []

-- the codes of the two markers of a 2 × 2 board
abbrev pub two_codes : List ℕ
two_codes = 1 ∷ 3 ∷ []

-- a shot with this board, a minimum margin and cells; the other settings are defaults
abbrev pub two_by_two : ℕ → List Cell → Shot
two_by_two minimum cells =
    record {
      minimum_margin = minimum;
      border_threshold = default_threshold;
      px_per_square = default_px;
      table = patterns;
      least_weight = default_least_weight;
      rows = 2;
      cols = 2;
      bits = 2;
      border = 1;
      legacy_pattern = false;
      cell_size = 0x3F800000;
      marker_size_rel = 0x3F000000;
      codes = two_codes;
      cells = cells;
    }

-- a single unsampled cell
abbrev pub unsampled : ℤ → ℤ → List Cell
unsampled u v = record { u = u; v = v; sample = none } ∷ []

-- the board's two marker squares after one quarter turn, where g is the last grey of the second: at g = 200 they read 10 and 2, which are 3 and 1
-- rotated
abbrev pub two_sampled : ℕ → List Cell
two_sampled g =
    record { u = pos 0; v = pos 0; sample = black_border 100 (greys 200 10 200 10) }
    ∷ record { u = pos 1; v = pos 1; sample = black_border 100 (greys 200 10 200 g) }
    ∷ []

-- Three shots, not unfolded, so that statements about them follow from a law and not by computation. `demanding` has a minimum margin of 100.
unfoldable pub pair : ℕ → Shot
pair g = two_by_two default_margin (two_sampled g)

unfoldable pub demanding : Shot
demanding = two_by_two 0x42C80000 (two_sampled 200)

-- another board and another margin, present in its record; the third cell has the greys of the first one of `pair`
unfoldable pub elsewhere : Shot
elsewhere =
    record {
      minimum_margin = 0x3F000000;
      border_threshold = default_threshold;
      px_per_square = default_px;
      table = patterns;
      least_weight = default_least_weight;
      rows = 3;
      cols = 3;
      bits = 2;
      border = 1;
      legacy_pattern = false;
      cell_size = 0x40000000;
      marker_size_rel = 0x3F000000;
      codes = 0 ∷ 1 ∷ 3 ∷ 7 ∷ [];
      cells =
          record { u = pos 5; v = negsuc 0; sample = none }
          ∷ record { u = pos 2; v = pos 3; sample = black_border 90 (greys 1 2 3 4) }
          ∷ record { u = pos 7; v = pos 3; sample = black_border 100 (greys 200 10 200 10) }
          ∷ [];
    }

abbrev pub pair_record : ℕ → List ℕ
pair_record g = bytes_of 0 (pair g)

-- the placement that puts the two cells on the marker squares
abbrev pub turned_once : GridAlignment
turned_once = align 1 (pos 0) (pos 1)

-- laws of records and matches
pub record OfRecords : Type 0 where
  -- 2.4: two cells with the same greys, in different records and at different offsets, have the same scores and the same code
  pub own_bytes :
      ((r code : ℕ)
      → score (table_of (pair 200)) (samples_of (pair 200) 0) (turned (pair 200).bits r code)
      ≡ score (table_of elsewhere) (samples_of elsewhere 2) (turned elsewhere.bits r code))
      × (read_code (samples_of (pair 200) 0) ≡ read_code (samples_of elsewhere 2))
      -- in every record: a cell with this threshold and these greys reads 10
      × ((b : List ℕ) (t : Shot) (k : ℕ) → parse b ≡ some t → k < cell_total t → ((cell t k).sample ≡ none → ⊥) → t.table ≡ patterns → t.bits ≡ 2
      → t.border ≡ 1 → byte (threshold_from (sample_place b k)) b ≡ 100
      → ((i : ℕ) → i < 16 → byte (grid_from (sample_place b k) + i) b ≡ get_or (greys 200 10 200 10) i 0) → read_code (samples_of t k) ≡ 10)
  -- the first cell has the same byte range and grid in every record with this length, head, cell count and cell map, and these bytes of the cell: for
  -- example if the last grey of the second cell is another one
  pub unchanged :
      ((b : List ℕ) → length b ≡ 84 → SameBetween 0 15 (pair_record 200) b → SameBetween 31 34 (pair_record 200) b → SameBetween 43 59 (pair_record 200) b
      → (part_answer b (parse b) 0 ≡ record { first = 43; end = 59 }) × (grid_answer (parse b) 0 ≡ greys 200 10 200 10))
      × ((g : ℕ) → grid_answer (parse (pair_record g)) 0 ≡ greys 200 10 200 10)
  -- the head of a record, its codes and its cells
  pub sections :
      (take 15 (pair_record 200) ≡ 0 ∷ 2 ∷ 2 ∷ 2 ∷ 1 ∷ 0 ∷ 0 ∷ 128 ∷ 63 ∷ 0 ∷ 0 ∷ 0 ∷ 63 ∷ 2 ∷ 0 ∷ [])
      × (take 16 (drop 15 (pair_record 200)) ≡ 1 ∷ 0 ∷ 0 ∷ 0 ∷ 0 ∷ 0 ∷ 0 ∷ 0 ∷ 3 ∷ 0 ∷ 0 ∷ 0 ∷ 0 ∷ 0 ∷ 0 ∷ 0 ∷ [])
      × (drop 31 (pair_record 200) ≡ joined (cell_fields (two_sampled 200)))
  -- no other bytes with map byte 0 parse to this shot
  pub one_to_one : (a : List ℕ) → Bytes a → parse a ≡ some (pair 200) → map_byte a ≡ 0 → a ≡ pair_record 200
  -- a shot with an unsampled cell is read back, for all 16-bit u and v
  pub read_back :
      (u v : ℤ) → SFits w16 u → SFits w16 v
      → parse (bytes_of 0 (two_by_two default_margin (unsampled u v))) ≡ some (two_by_two default_margin (unsampled u v))
  -- no turn and translation puts (0, 0) and (1, 1) on one square: they are the cells of a shot that passes
  pub one_square_each : (p : GridAlignment) → applied p (point (pos 0) (pos 0)) ≡ applied p (point (pos 1) (pos 1)) → ⊥
  -- the same two cells are refused for their margin if the minimum is 100, and not if it is 0.05
  pub margin_gate :
      (words : ℕ) → 36 ≤ words
      → T (not (is_nan (margin_of demanding)))
      × (refused_by demanding words ≡ some (refusal.Margin (margin_of demanding)))
      × ((m : Float) → refused_by (pair 200) words ≡ some (refusal.Margin m) → ⊥)
  -- the record is placed, and the ids of the two markers differ in every output array that is long enough
  pub different_ids :
      (lent : List ℕ) → 36 ≤ length lent → id_in (match_list (pair_record 200) lent) 0 ≡ id_in (match_list (pair_record 200) lent) 1 → ⊥
  -- its corner alignment passes question 18, maps the lower right corner of a cell to the upper right one of its square, and maps the corner between
  -- the two cells to the id of the board's inner corner
  pub corners_of_match :
      (alignment_answer (corner_alignment turned_once) ≡ true)
      × ((p : Coord) → applied (corner_alignment turned_once) (corner 2 p) ≡ corner 5 (applied turned_once p))
      × (id_of (board 2 2) (corner_alignment turned_once) (pos 1 ∷ pos 1 ∷ pos 1 ∷ []) 0 ≡ Some 0)

-- a legacy board with so many rows and cols, otherwise as `board`
abbrev pub marked : ℕ → ℕ → Board
marked rows cols =
    record { rows = rows; cols = cols; bits = 4; border_bits = 1; legacy_pattern = true; cell_size = one_float; marker_size_rel = half }

-- laws of boards, codes and placements
pub record OfBoards : Type 0 where
  -- equality up to rotation is symmetric for 1 and b; a code is equivalent to 8 if some rotation of it is 8
  pub either_way : (b : ℕ) → alike 2 1 b ≡ alike 2 b 1
  pub as_said : (a : ℕ) → alike 2 a 8 ≡ any_below (λ (turns : ℕ). eqb (turned 2 turns a) 8) 4
  -- on the 2 × 2 board no rotations of the two markers are equal
  pub reads_one : (r t : ℕ) → turned 2 r (get_or two_codes 0 0) ≡ turned 2 t (get_or two_codes 1 0) → ⊥
  pub four_turns : (c : ℕ) → c < 16 → turned 2 1 (turned 2 1 (turned 2 1 (turned 2 1 c))) ≡ c
  -- every bit of a code after three turns is a bit of the code; after one turn bit (0, 0) is the former bit (0, 1)
  pub turns_agree :
      ((c : ℕ) (q : Place) → q.x < 2 → q.y < 2 → (p : Place) × (p.x < 2) × (p.y < 2) × (bit (turned 2 3 c) (index_of 2 q) ≡ bit c (index_of 2 p)))
      × ((c : ℕ) → bit (turned 2 1 c) 0 ≡ bit c 2)
  -- a bit of a code of side at most 8: the side is above 0, the number below 64
  pub here : (bits k : ℕ) → bits ≤ 8 → k < bits * bits → (0 < bits) × (k < 64)
  -- P6's alignments after one turn
  pub top_left_lands : (p : Coord) → applied (align 1 (pos 5) (pos 8)) (corner 1 p) ≡ applied (align 1 (pos 5) (pos 7)) p
  -- P3's board has markers 0 to 9, numbered in row-major order
  pub markers :
      ((i : ℕ) × (j : ℕ) × (number_at (holds_marker odd_parity) 5 4 i j ≡ Some 9))
      × (square_of odd_parity 4 5 10 ≡ None)
      × (number_at (holds_marker odd_parity) 5 4 2 1 ≡ Some 3)
      × ((id next : ℕ) → number_at (holds_marker odd_parity) 5 4 4 1 ≡ Some id → number_at (holds_marker odd_parity) 5 4 1 2 ≡ Some next → id < next)
  -- there marker 2, on the rim, has no four corners, and marker 3 has these
  pub four_off_rim : (a b c d : ℕ) → four_corners odd_parity 4 5 2 ≡ Some (surrounding a b c d) → ⊥
  pub off_rim_four : four_corners odd_parity 4 5 3 ≡ Some (surrounding 1 2 6 5)
  -- with four rows the legacy flag moves a marker to the top left square, with five it changes nothing
  pub white_top_left : (cols : ℕ) → (holds_marker (parity_of (marked 4 cols)) 0 0 ≡ true) × (holds_marker (parity_of (board 4 cols)) 0 0 ≡ false)
  pub odd_rows : (cols : ℕ) → parity_of (marked 5 cols) ≡ parity_of (board 5 cols)
  -- P11's cells (0, 0) and (2, 0): the number of placements; an alignment that is none of them, and one that is; tx is ordered before ty
  pub placements_rule :
      (s : Shot) (first second : Option Sample)
      → (length (placements (showing s 2 first second)) ≡ 44)
      × ((k : ℕ) → get_elem? (placements (showing s 2 first second)) k ≡ some (align 0 (pos 3) (pos 0)) → ⊥)
      × ((k : ℕ) × (get_elem? (placements (showing s 2 first second)) k ≡ some (align 1 (pos 0) (pos 3))))
      × ((i j : ℕ) → i < j → get_elem? (placements (showing s 2 first second)) i ≡ some (align 0 (pos 1) (pos 0))
      → get_elem? (placements (showing s 2 first second)) j ≡ some (align 0 (pos 0) (pos 3)) → ⊥)

-- six corners at (0, 0), (1, 0), (2, 0), (0, 1), (1, 1), (2, 1), all inliers: two complete cells, (0, 0) and (1, 0)
abbrev pub six_corners : Corners
six_corners =
    corners_of 6
    (pos 1 ∷ pos 0 ∷ pos 0 ∷ pos 1 ∷ pos 1 ∷ pos 0 ∷ pos 1 ∷ pos 2 ∷ pos 0 ∷ pos 1 ∷ pos 0 ∷ pos 1 ∷ pos 1 ∷ pos 1 ∷ pos 1 ∷ pos 1 ∷ pos 2 ∷ pos 1 ∷ [])

abbrev pub two_whole : List Coord
two_whole = cells 2 six_corners (0 ∷ 1 ∷ 2 ∷ 3 ∷ 4 ∷ 5 ∷ [])

-- four corners on P3's board: one at (2, 1) and, with scores 1, 2 and 2, three at (1, 1)
abbrev pub four_inputs : Input
four_inputs =
    record {
      board = board 4 5;
      alignment = align 0 (pos 0) (pos 0);
      scores = half ∷ one_float ∷ two_float ∷ two_float ∷ [];
      grid = pos 1 ∷ pos 2 ∷ pos 1 ∷ pos 1 ∷ pos 1 ∷ pos 1 ∷ pos 1 ∷ pos 1 ∷ pos 1 ∷ pos 1 ∷ pos 1 ∷ pos 1 ∷ [];
    }

abbrev pub result : ℕ → ℕ → MappedCorner
result id index = record { id = id; index = index }

-- laws of cells and corners
pub record OfCorners : Type 0 where
  -- every point with u and v from −2 to 2 has one of 25 indices; (1, 0) has index 13 and no other
  pub every_point :
      ((p : Coord) → is_within 2 p.u ≡ true → is_within 2 p.v ≡ true → (r : ℕ) × (r < 25) × (point_at 2 r ≡ p))
      × ((r : ℕ) → r < 25 → point_at 2 r ≡ point (pos 1) (pos 0) → r ≡ 13)
  -- cell (1, 0) is there, (0, 1) is not, and (0, 0) does not come after (1, 0)
  pub cells_in_order :
      ((i : ℕ) × (i < length two_whole) × (get_or two_whole i (point_at 2 0) ≡ point (pos 1) (pos 0)))
      × ((i : ℕ) → i < length two_whole → get_or two_whole i (point_at 2 0) ≡ point (pos 0) (pos 1) → ⊥)
      × ((i j : ℕ) → i < j → j < length two_whole → get_or two_whole i (point_at 2 0) ≡ point (pos 1) (pos 0) → get_or two_whole j (point_at 2 0) ≡ point (pos 0) (pos 0) → ⊥)
  -- of the three at (1, 1) only corner 2 is chosen: the greatest score, the earlier of two; for id 2 there is none
  pub chosen_greatest : (k : ℕ) → chosen four_inputs 0 ≡ some k → k ≡ 2
  pub none_bears : (k : ℕ) → k < 4 → bears four_inputs k 2 ≡ false
  -- id 1 has a result, id 2 has none, and ids are ascending
  pub results_in_order :
      ((i : ℕ) × (i < length (mapped four_inputs)) × (get_or (mapped four_inputs) i (result 0 2) ≡ result 1 0))
      × ((i : ℕ) → i < length (mapped four_inputs) → (get_or (mapped four_inputs) i (result 0 2)).id ≡ 2 → ⊥)
      × ((i j : ℕ) → i < j → j < length (mapped four_inputs) → (get_or (mapped four_inputs) i (result 0 2)).id < (get_or (mapped four_inputs) j (result 0 2)).id)
  -- the result with id 1 is board corner (2, 1)
  pub board_corners_named :
      (corner_at 4 5 (pos 2) (pos 1) ≡ Some 1)
      × (corner_place 4 5 1 ≡ Some (position 2 1))
      × (corner_words (board 4 5) (result 1 0) ≡ 1 ∷ 0 ∷ 2 ∷ 1 ∷ 0x40000000 ∷ 0x3F800000 ∷ [])
  -- cell (0, 0) is mapped to the square of marker 3, which has corners 1, 2, 6, 5, after one turn: the cell's lower right corner gets 2
  pub corners_of_marker : id_of (board 4 5) (corner_alignment (align 1 (pos 2) (pos 1))) (pos 1 ∷ pos 1 ∷ pos 1 ∷ []) 0 ≡ Some 2

-- a shot of a board with two rows and three columns; the cells (0, 0) and (2, 0) read 1 and 3, and the other settings are defaults
abbrev pub two_by_three : Bool → List ℕ → Shot
two_by_three legacy codes =
    record {
      minimum_margin = default_margin;
      border_threshold = default_threshold;
      px_per_square = default_px;
      table = patterns;
      least_weight = default_least_weight;
      rows = 2;
      cols = 3;
      bits = 2;
      border = 1;
      legacy_pattern = legacy;
      cell_size = 0x3F800000;
      marker_size_rel = 0x3F000000;
      codes = codes;
      cells =
          record { u = pos 0; v = pos 0; sample = black_border 100 (greys 10 200 200 200) }
          ∷ record { u = pos 2; v = pos 0; sample = black_border 100 (greys 10 10 200 200) }
          ∷ [];
    }

-- a legacy shot, whose markers 0 and 1 are on (0, 0) and (2, 0), and the shot restated, by hand: codes 1, 3 and 7 in reverse, each rotated by 180°. Not
-- unfolded
unfoldable pub legacy_shot : Shot
legacy_shot = two_by_three true (1 ∷ 3 ∷ 7 ∷ 0 ∷ [])

unfoldable pub current_shot : Shot
current_shot = two_by_three false (14 ∷ 12 ∷ 8 ∷ 0 ∷ [])

abbrev pub current_record : List ℕ
current_record = bytes_of 0 current_shot

-- laws of a legacy shot and the shot restated (2.7)
pub record OfRestated : Type 0 where
  -- every record with a board that passes keeps its length and byte 1; so does the map byte of a record without the flag, and of one restated before
  pub restates_rule :
      (bytes : List ℕ) (s : Shot) → OfBoard bytes s
      → (length (restated_bytes bytes s) ≡ length bytes)
      × (byte 1 (restated_bytes bytes s) ≡ byte 1 bytes)
      × (map_byte (restated_bytes (restated_bytes bytes s) (restated s)) ≡ map_byte (restated_bytes bytes s))
      × (s.legacy_pattern ≡ false → map_byte (restated_bytes bytes s) ≡ map_byte bytes)
  -- the legacy record is placed at turn 0 and (0, 0), so the restated one at turn 2 and (2, 1), with that evidence; its two markers are 2 and 1
  pub answers_rule :
      (lent : List ℕ) → 36 ≤ length lent → (m : Match)
      × (match_answer current_record lent ≡ Ok m)
      × (m.best.alignment ≡ align 2 (pos 2) (pos 1))
      × (m.best.evidence ≡ reported legacy_shot (align 0 (pos 0) (pos 0)))
      × (m.corners ≡ align 2 (pos 3) (pos 2))
      × (id_in (match_list current_record lent) 0 ≡ 2)
      × (id_in (match_list current_record lent) 1 ≡ 1)
  -- for every translation: the exact evidence, and where marker 0 was expected marker 2 is
  pub pair_rule :
      (tx ty : ℤ)
      → (exact current_shot (align 3 (pos 2 -ℤ tx) (pos 1 -ℤ ty)) ≡ exact legacy_shot (align 1 tx ty))
      × ((k : ℕ) → expected legacy_shot (align 1 tx ty) k ≡ Some 0
      → expected current_shot (align 3 (pos 2 -ℤ tx) (pos 1 -ℤ ty)) k ≡ Some 2)
  -- the corners 0 and 1 of P3's board become 11 and 10, whatever the input corners
  pub mapped_rule :
      (s : Shot) (first second : Option Sample) (scores : List Float) (grid : List ℤ)
      → mapped (input (board_in (showing s 2 first second)) (align 0 (pos 0) (pos 0)) scores grid) ≡ result 0 2 ∷ result 1 0 ∷ []
      → mapped (input (board_in (restated (showing s 2 first second))) (align 2 (pos 5) (pos 4)) scores grid) ≡ result 10 0 ∷ result 11 2 ∷ []
  -- the last corner of a board of any size is (cols − 1, rows − 1), as corner 0 is (1, 1)
  pub corner_words_lem :
      (s : Shot) (index : ℕ) → 2 ≤ s.rows → 2 ≤ s.cols
      → take 4 (corner_words (board_in (restated s)) (result (corner_count s.rows s.cols - 1) index))
      ≡ (corner_count s.rows s.cols - 1) ∷ index ∷ (s.cols - 1) ∷ (s.rows - 1) ∷ []

-- laws of texts
pub record OfTexts : Type 0 where
  -- no other number has the digits 44, nor any other word the digits C1317218
  pub decimal_back : (n : ℕ) → decimal n ≡ 52 ∷ 52 ∷ [] → n ≡ 44
  pub hex8_back : (n : ℕ) → n < 4294967296 → hex8 n ≡ 67 ∷ 49 ∷ 51 ∷ 49 ∷ 55 ∷ 50 ∷ 49 ∷ 56 ∷ [] → n ≡ 0xC1317218
  pub hex16_back :
      (high low : ℕ) → high < 4294967296 → low < 4294967296
      → hex8 high ++ hex8 low ≡ 48 ∷ 48 ∷ 48 ∷ 48 ∷ 48 ∷ 48 ∷ 48 ∷ 49 ∷ 48 ∷ 48 ∷ 48 ∷ 48 ∷ 48 ∷ 48 ∷ 48 ∷ 65 ∷ []
      → 4294967296 * high + low ≡ 0x10000000A
  -- a negative number's word has a minus sign and the digits of its absolute value
  pub word_text : (n : ℕ) → n < 2147483648 → signed_word (of_z w32 (negsuc n)) ≡ 45 ∷ decimal (suc n)
