-- The corner entry point (document 01, "The questions asked"): the board's questions, then 18, then 14 with a place per inner corner.
use Rattle.std.specs.Prelude.{ℕ, ◌*◌, Bool, ◌&&◌, List, leb, ltb, length, ℤ, Float, Result, Ok, Err}
use Rattle.std.proofs.Math.Option.{Option, none, some}
use Rattle.integers.specs.Distance.{is_within}
use Rattle.refusal.specs.declared.Refusal.{Refusal}
use Rattle.refusal.specs.declared.Refusal.TheVariants as refusal
use Rattle.refusal.specs.Questions.{ask}
use Rattle.grid_alignment.specs.declared.GridAlignment.{GridAlignment}
use Rattle.board.specs.declared.Board.{Board}
use Rattle.board.specs.declared.CharucoBoardSpec.{CharucoBoardSpec}
use Rattle.board.specs.Layout.{corner_count}
use Rattle.board.specs.Questions.{board_of, asked_of_board}
use Rattle.marker_sampling.specs.Entry.{corners_answer}
use Rattle.lent_list.specs.Front.{at_exit}
use Rattle.corner_mapping.specs.Corners.{Input, mapped, words_of_corners}

-- 18: turn 0 to 3, corner translation from −8,192 to 8,192?
abbrev pub alignment_answer : GridAlignment → Bool
alignment_answer a = ltb a.turn 4 && (is_within 8192 a.tx && is_within 8192 a.ty)

-- and the corners?
abbrev pub corner_range_answer : List Float → List ℤ → GridAlignment → Bool
corner_range_answer scores grid a = corners_answer scores grid && alignment_answer a

-- The questions after the board's: the one that fails, if any; a place of the output array is six words
unfoldable pub asked_from18 : Input → ℕ → Option Refusal
asked_from18 x words =
    ask (corner_range_answer x.scores x.grid x.alignment) refusal.CornersOutOfRange
    (ask (leb (6 * corner_count x.board.rows x.board.cols) words) refusal.ListTooShort
    none)

abbrev pub input : Board → GridAlignment → List Float → List ℤ → Input
input b a scores grid = record { board = b; alignment = a; scores = scores; grid = grid }

-- The result and the output array at exit, by the question that fails, if any: of those after the board's,
abbrev pub answered_by : Option Refusal → Input → Result ℕ Refusal
answered_by (some r) x = Err r
answered_by none x = Ok (length (mapped x))

abbrev pub mapped_on : Input → List ℕ → Result ℕ Refusal
mapped_on x lent = answered_by (asked_from18 x (length lent)) x

abbrev pub list_on : Input → List ℕ → List ℕ
list_on x lent = at_exit (asked_from18 x (length lent)) (words_of_corners x.board (mapped x)) lent

-- and of all
abbrev pub corners_refused_by : CharucoBoardSpec → List ℕ → Input → ℕ → Option Refusal
corners_refused_by spec codes x words = asked_of_board spec codes (asked_from18 x words)

abbrev pub map_corners : CharucoBoardSpec → List ℕ → List Float → List ℤ → GridAlignment → List ℕ → Result ℕ Refusal
map_corners spec codes scores grid a lent = let x = input (board_of spec) a scores grid in answered_by (corners_refused_by spec codes x (length lent)) x

abbrev pub map_corners_list : CharucoBoardSpec → List ℕ → List Float → List ℤ → GridAlignment → List ℕ → List ℕ
map_corners_list spec codes scores grid a lent =
    let x = input (board_of spec) a scores grid in
    at_exit (corners_refused_by spec codes x (length lent)) (words_of_corners (board_of spec) (mapped x)) lent
