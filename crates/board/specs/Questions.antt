-- Document 01, "The questions asked": the board's questions, 1 to 8 in order, then 22 of document 02. The first that fails is the result.
use Rattle.std.specs.Prelude.{ℕ, ◌*◌, ◌^◌, Bool, true, false, not, ◌&&◌, List, [], ◌∷◌, leb, ltb, length, Float, Result, Ok, Err}
use Rattle.std.proofs.Math.Option.{Option, none, some}
use Rattle.std.specs.Float.{binary32}
use Rattle.std.specs.Float.Ieee.{of_bits, lt, le}
use Rattle.std.specs.Float.Ieee.Scale.{finite}
use Rattle.refusal.specs.declared.Refusal.{Refusal}
use Rattle.refusal.specs.declared.Refusal.TheVariants as refusal
use Rattle.refusal.specs.Questions.{ask}
use Rattle.alike.specs.Alike.{two_alike}
use Rattle.board.specs.declared.CharucoBoardSpec.{CharucoBoardSpec}
use Rattle.board.specs.declared.Board.{Board}
use Rattle.board.specs.Layout.{marker_total}

-- Are rows and cols at least 2?
abbrev pub size_answer : ℕ → ℕ → Bool
size_answer rows cols = leb 2 rows && leb 2 cols

-- Is cell_size finite and above 0?
abbrev pub cell_size_answer : Float → Bool
cell_size_answer x = finite x && lt (of_bits binary32 0) x

-- Is marker_size_rel finite, above 0, at most 1? (1 is the f32 3F800000.)
abbrev pub marker_size_answer : Float → Bool
marker_size_answer x = cell_size_answer x && le x (of_bits binary32 0x3F800000)

-- Are rows and cols at most 32, border at most 4, bits 1 to 8, codes at most 1,024?
abbrev pub range_answer : CharucoBoardSpec → ℕ → Bool
range_answer s codes =
    leb s.rows 32 && (leb s.cols 32 && (leb s.border_bits 4 && (leb 1 s.bits && (leb s.bits 8 && leb codes 1024))))

-- Is every code below 2^(bits²)?
abbrev pub code_in_range : ℕ → ℕ → Bool
code_in_range bits code = ltb code (2 ^ (bits * bits))

abbrev pub codes_answer : ℕ → List ℕ → Bool
codes_answer bits [] = true
codes_answer bits (code ∷ codes) = code_in_range bits code && codes_answer bits codes

-- the board of a specification that passes every question
abbrev pub board_of : CharucoBoardSpec → Board
board_of s =
    record {
      rows = s.rows;
      cols = s.cols;
      bits = s.bits;
      border_bits = s.border_bits;
      legacy_pattern = s.legacy_pattern;
      cell_size = s.cell_size;
      marker_size_rel = s.marker_size_rel;
    }

-- 22 (document 02, 2.2): "among the codes its markers use, two of different ids are equal after some number of quarter turns"? Markers use the codes
-- of the ids below their count.
abbrev pub apart_answer : Board → List ℕ → Bool
apart_answer b codes = not (two_alike b.bits codes (marker_total b))

-- questions 1 to 7, which need only the number of codes, then the rest
unfoldable pub asked_of_size : CharucoBoardSpec → ℕ → Option Refusal → Option Refusal
asked_of_size s count rest =
    ask (size_answer s.rows s.cols) refusal.InvalidSize
    (ask (cell_size_answer s.cell_size) refusal.InvalidCellSize
    (ask (marker_size_answer s.marker_size_rel) refusal.InvalidMarkerSizeRel
    (ask (leb 1 s.border_bits) refusal.InvalidBorderBits
    (ask (ltb 0 count) refusal.EmptyDictionary
    (ask (range_answer s count) refusal.BoardOutOfRange
    (ask (leb (marker_total (board_of s)) count) (refusal.NotEnoughDictionaryCodes (marker_total (board_of s)) count)
    rest))))))

-- questions 1 to 8 and 22, then the rest: an entry point's own questions
unfoldable pub asked_of_board : CharucoBoardSpec → List ℕ → Option Refusal → Option Refusal
asked_of_board s codes rest =
    asked_of_size s (length codes)
    (ask (codes_answer s.bits codes) refusal.CodeOutOfRange
    (ask (apart_answer (board_of s) codes) refusal.CodesAlike
    rest))

-- the board, unless a question fails
abbrev pub made_unless : Option Refusal → CharucoBoardSpec → Result Board Refusal
made_unless none s = Ok (board_of s)
made_unless (some refused) s = Err refused

abbrev pub sized_board : CharucoBoardSpec → ℕ → Result Board Refusal
sized_board s count = made_unless (asked_of_size s count none) s

-- a board that passed 1 to 7, by the results of 8 and 22
abbrev pub judged_by : Bool → Bool → Board → Result Board Refusal
judged_by false apart b = Err refusal.CodeOutOfRange
judged_by true false b = Err refusal.CodesAlike
judged_by true true b = Ok b

abbrev pub new_board : CharucoBoardSpec → List ℕ → Result Board Refusal
new_board s codes = made_unless (asked_of_board s codes none) s
