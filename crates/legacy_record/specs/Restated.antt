-- Document 02, 2.7: the shot of a legacy board in the current layout. "A legacy board with even rows and odd cols is a current board turned by half."
use Rattle.std.specs.Prelude.{ℕ, ◌-◌, ◌%◌, Bool, false, cond, ◌&&◌, List, ◌++◌, eqb, get_or, drop}
use Rattle.matcher.specs.Codes.{turned}
use Rattle.board.specs.declared.Board.{Board}
use Rattle.board.specs.Layout.{marker_total}
use Rattle.board.specs.Questions.{board_of}
use Rattle.shot_record.specs.Shots.{Shot, list}
use Rattle.shot_record.specs.Answers.{spec_of}

-- "codes used by markers are listed in reverse, each turned twice; later codes keep their places": the first n codes and the later ones
abbrev pub new_code : ℕ → ℕ → List ℕ → ℕ → ℕ
new_code bits n codes k = turned bits 2 (get_or codes (n - 1 - k) 0)

abbrev pub reversed_codes : ℕ → ℕ → List ℕ → List ℕ
reversed_codes bits n codes = list (new_code bits n codes) n ++ drop n codes

-- n: the number of markers of a legacy board with even rows. On other boards the flag changes no layout, and codes stay: "Legacy sheets with odd rows
-- only lose the bit."
abbrev pub is_even : ℕ → Bool
is_even n = eqb (n % 2) 0

abbrev pub layout_differs : Board → Bool
layout_differs b = b.legacy_pattern && is_even b.rows

abbrev pub reversed_on : Board → ℕ
reversed_on b = cond (layout_differs b) (marker_total b) 0

abbrev pub reversed_count : Shot → ℕ
reversed_count s = reversed_on (board_of (spec_of s))

-- "the bit falls away; all else stays"
abbrev pub restated : Shot → Shot
restated s =
    record {
      minimum_margin = s.minimum_margin;
      border_threshold = s.border_threshold;
      px_per_square = s.px_per_square;
      table = s.table;
      least_weight = s.least_weight;
      rows = s.rows;
      cols = s.cols;
      bits = s.bits;
      border = s.border;
      legacy_pattern = false;
      cell_size = s.cell_size;
      marker_size_rel = s.marker_size_rel;
      codes = reversed_codes s.bits (reversed_count s) s.codes;
      cells = s.cells;
    }
