-- Document 02, 2.7: a record restated: its new bytes, the questions, the result and the output array.
use Rattle.std.specs.Prelude.{ℕ, ◌-◌, ◌*◌, Bool, not, ◌&&◌, List, leb, length, Result, Ok, Err}
use Rattle.std.proofs.Math.Option.{Option, none, some}
use Rattle.refusal.specs.declared.Refusal.{Refusal}
use Rattle.refusal.specs.declared.Refusal.TheVariants as refusal
use Rattle.refusal.specs.Questions.{ask}
use Rattle.lent_list.specs.Front.{at_exit}
use Rattle.matcher.specs.Codes.{bit}
use Rattle.board.specs.declared.Board.{Board}
use Rattle.board.specs.Questions.{board_of, asked_of_board}
use Rattle.shot_record.specs.Fields.{map_byte}
use Rattle.shot_record.specs.Shots.{Shot, parse}
use Rattle.shot_record.specs.Answers.{spec_of}
use Rattle.shot_record.specs.Writing.{bytes_of}
use Rattle.legacy_record.specs.Restated.{is_even, layout_differs, restated}

-- the map byte without bit 4, and the new record
abbrev pub without_flag : ℕ → ℕ
without_flag map = map - 16 * bit map 4

unfoldable pub restated_bytes : List ℕ → Shot → List ℕ
restated_bytes bytes s = bytes_of (without_flag (map_byte bytes)) (restated s)

-- 25: Is it no legacy board with rows and cols both even?
abbrev pub sides_answer : Board → Bool
sides_answer b = not (layout_differs b && is_even b.cols)

-- Question 25 is "asked after the board's questions. Then 14, with a place per byte of the sheet."
unfoldable pub asked_from25 : Board → ℕ → ℕ → Option Refusal
asked_from25 b size room =
    ask (sides_answer b) refusal.EvenLegacyBoard
    (ask (leb size room) refusal.ListTooShort
    none)

-- the error of the first question that fails, if one does, for a record of so many bytes and an output array of so many
abbrev pub restate_refused_by : Shot → ℕ → ℕ → Option Refusal
restate_refused_by s size room = asked_of_board (spec_of s) s.codes (asked_from25 (board_of (spec_of s)) size room)

-- The result: the length of the record, which is that of the new one.
abbrev pub converted_by : Option Refusal → ℕ → Result ℕ Refusal
converted_by (some refused) size = Err refused
converted_by none size = Ok size

abbrev pub restated_shot : Option Shot → ℕ → ℕ → Result ℕ Refusal
restated_shot none size room = Err refusal.InvalidRecord
restated_shot (some s) size room = converted_by (restate_refused_by s size room) size

abbrev pub restate_answer : List ℕ → List ℕ → Result ℕ Refusal
restate_answer bytes lent = restated_shot (parse bytes) (length bytes) (length lent)

-- the output array at exit: on error unchanged, else the new record overwrites its first elements
abbrev pub restated_left : List ℕ → Option Shot → List ℕ → List ℕ
restated_left bytes none lent = lent
restated_left bytes (some s) lent = at_exit (restate_refused_by s (length bytes) (length lent)) (restated_bytes bytes s) lent

abbrev pub restate_list : List ℕ → List ℕ → List ℕ
restate_list bytes lent = restated_left bytes (parse bytes) lent
