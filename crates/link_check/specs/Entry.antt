-- The link entry point (document 01, "The questions asked"): the board's questions, 19, then 14 with three places for each link.
use Rattle.std.specs.Prelude.{ℕ, zero, suc, ◌*◌, List, leb, length, Result, Ok, Err}
use Rattle.std.proofs.Math.Option.{Option, none, some}
use Rattle.lent_list.specs.Front.{at_exit}
use Rattle.refusal.specs.declared.Refusal.{Refusal}
use Rattle.refusal.specs.declared.Refusal.TheVariants as refusal
use Rattle.refusal.specs.Questions.{ask}
use Rattle.board.specs.declared.CharucoBoardSpec.{CharucoBoardSpec}
use Rattle.board.specs.declared.Board.{Board}
use Rattle.board.specs.Questions.{board_of, asked_of_board}
use Rattle.link_check.specs.declared.LinkCheckMode.{LinkCheckMode}
use Rattle.link_check.specs.declared.LinkCheckMode.TheVariants as mode
use Rattle.link_check.specs.Links.{link_count}
use Rattle.link_check.specs.Violations.{Violation, expectation, violations, words_of_violations}

-- how strictly links are checked, by a number
abbrev pub mode_of : ℕ → LinkCheckMode
mode_of zero = mode.SubsetOk
mode_of (suc n) = mode.MustMatchAll4

-- the violations of the links on a board
abbrev pub violations_on : Board → LinkCheckMode → List ℕ → List Violation
violations_on b mode links = violations links (link_count links) mode (expectation b)

-- The questions after the board's: the one that fails, if any; a place of the output array is twelve words
unfoldable pub asked_from19 : List ℕ → ℕ → Option Refusal
asked_from19 links words =
    ask (leb (link_count links) 4096) refusal.TooManyLinks
    (ask (leb (36 * link_count links) words) refusal.ListTooShort
    none)

-- the same of all questions
abbrev pub links_refused_by : CharucoBoardSpec → List ℕ → List ℕ → ℕ → Option Refusal
links_refused_by spec codes links words = asked_of_board spec codes (asked_from19 links words)

-- The result, and the output array at exit.
abbrev pub checked_by : Option Refusal → List Violation → Result ℕ Refusal
checked_by (some r) vs = Err r
checked_by none vs = Ok (length vs)

abbrev pub check_links : CharucoBoardSpec → List ℕ → LinkCheckMode → List ℕ → List ℕ → Result ℕ Refusal
check_links spec codes mode links lent = checked_by (links_refused_by spec codes links (length lent)) (violations_on (board_of spec) mode links)

abbrev pub check_links_list : CharucoBoardSpec → List ℕ → LinkCheckMode → List ℕ → List ℕ → List ℕ
check_links_list spec codes mode links lent =
    at_exit (links_refused_by spec codes links (length lent)) (words_of_violations (violations_on (board_of spec) mode links)) lent
