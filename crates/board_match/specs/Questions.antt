-- Document 01, "The questions asked": the checks of Match before the search, 1 to 14 in order, with document 02's 22 after 8 and 23 after 12.
use Rattle.std.specs.Prelude.{ℕ, ◌*◌, Bool, true, ◌&&◌, map, leb, ltb, eqb, length, Float, Result, Ok, Err}
use Rattle.std.proofs.Math.Option.{Option, none, some}
use Rattle.std.specs.Float.Ieee.{le}
use Rattle.std.specs.Float.Ieee.Scale.{finite}
use Rattle.integers.specs.Distance.{is_within}
use Rattle.floats.specs.Units.{nought, unity}
use Rattle.refusal.specs.declared.Refusal.{Refusal}
use Rattle.refusal.specs.declared.Refusal.TheVariants as refusal
use Rattle.refusal.specs.Questions.{ask}
use Rattle.integers.specs.Tests.{every}
use Rattle.board.specs.Questions.{asked_of_board}
use Rattle.score_matrix.specs.declared.BoardMatchConfig.{BoardMatchConfig}
use Rattle.score_matrix.specs.Table.{is_table}
use Rattle.shot_record.specs.Fields.{grid_size}
use Rattle.shot_record.specs.Shots.{Sample, Cell, Shot}
use Rattle.shot_record.specs.Answers.{of_pattern, config_of, spec_of}
use Rattle.points.specs.Points.{all_apart}
use Rattle.hypothesis.specs.Placements.{cell, cell_point}
use Rattle.hypothesis.specs.Inputs.{inputs_of}
use Rattle.hypothesis.specs.declared.Inputs.{Inputs}

abbrev pub in_unit_interval : Float → Bool
in_unit_interval x = le nought x && le x unity

-- 9: Are minimum margin, border threshold and px_per_square finite? Document 02: "question 9 also asks that the least weight lies from 0 to 1".
abbrev pub settings_answer : BoardMatchConfig → Bool
settings_answer c =
    finite c.alignment_min_margin
    && (finite c.cell_weight_border_threshold && (finite c.px_per_square && in_unit_interval c.least_weight))

-- 10: Has the table 511 entries, each from −8 to 0?
abbrev pub table_answer : Shot → Bool
table_answer s = is_table (map of_pattern s.table)

-- 11: Is there a cell?
abbrev pub some_answer : Shot → Bool
some_answer s = ltb 0 (length s.cells)

-- 12: Are there at most 256, u and v each from −4,096 to 4,096?
abbrev pub placed_answer : Cell → Bool
placed_answer c = is_within 4096 c.u && is_within 4096 c.v

abbrev pub cells_answer : Shot → Bool
cells_answer s = leb (length s.cells) 256 && every (λ (k : ℕ). placed_answer (cell s k)) (length s.cells)

-- 23: Is no grid point repeated? Sampled or not.
abbrev pub points_answer : Shot → Bool
points_answer s = all_apart (cell_point s) (length s.cells)

-- 13: Has every sampled cell a whole grid and a fraction from 0 to 1?
abbrev pub sample_answer : ℕ → Option Sample → Bool
sample_answer size none = true
sample_answer size (some x) = eqb (length x.grid) size && in_unit_interval (of_pattern x.fraction)

abbrev pub samples_answer : Shot → Bool
samples_answer s = every (λ (k : ℕ). sample_answer (grid_size s.bits s.border) (cell s k).sample) (length s.cells)

-- 14: Has the result list a place per cell? A place has 18 words.
abbrev pub room_answer : Shot → ℕ → Bool
room_answer s words = leb (18 * length s.cells) words

-- questions 9 to 14 with 23, then the rest
unfoldable pub asked_from9 : Shot → ℕ → Option Refusal → Option Refusal
asked_from9 s words rest =
    ask (settings_answer (config_of s)) refusal.InvalidSettings
    (ask (table_answer s) refusal.InvalidTable
    (ask (some_answer s) refusal.NoCells
    (ask (cells_answer s) refusal.CellsOutOfRange
    (ask (points_answer s) refusal.RepeatedPoint
    (ask (samples_answer s) refusal.InvalidSample
    (ask (room_answer s words) refusal.ListTooShort
    rest))))))

-- questions 1 to 14, 22 and 23, then the rest: the board's come first
abbrev pub asked_of_shot : Shot → ℕ → Option Refusal → Option Refusal
asked_of_shot s words rest = asked_of_board (spec_of s) s.codes (asked_from9 s words rest)

-- the error of the first question before 15 that fails, if one does
abbrev pub asked_before15 : Shot → ℕ → Option Refusal
asked_before15 s words = asked_of_shot s words none

-- of a record: question 21 comes first
abbrev pub after_record : Option Shot → ℕ → Option Refusal
after_record none words = some refusal.InvalidRecord
after_record (some s) words = asked_before15 s words

-- the result in the program
abbrev pub told_answer : Option Refusal → Result (Unit {0}) Refusal
told_answer none = Ok tt
told_answer (some r) = Err r

abbrev pub asked_with : Option Refusal → Shot → Result Inputs Refusal
asked_with none s = Ok (inputs_of s)
asked_with (some r) s = Err r
