-- The cells entry point (document 01, "The questions asked"): question 18 without turn and translation, 14 with 256 places, 20.
use Rattle.std.specs.Prelude.{ℕ, ◌*◌, Bool, true, not, ◌&&◌, ◌||◌, List, [], ◌∷◌, leb, length, ℤ, Float, Result, Ok, Err}
use Rattle.std.proofs.Math.Option.{Option, none, some}
use Rattle.std.specs.Float.Ieee.Scale.{finite}
use Rattle.integers.specs.Distance.{is_within}
use Rattle.integers.specs.Tests.{every}
use Rattle.lent_list.specs.Front.{at_exit}
use Rattle.grid_alignment.specs.declared.Coord.{Coord}
use Rattle.refusal.specs.declared.Refusal.{Refusal}
use Rattle.refusal.specs.declared.Refusal.TheVariants as refusal
use Rattle.refusal.specs.Questions.{ask}
use Rattle.marker_sampling.specs.Cells.{Corners, word, labelled, cells, words_of_cells}

-- the corners of the input arrays: one score each
abbrev pub corners : List Float → List ℤ → Corners
corners scores grid = record { count = length scores; grid = grid }

-- is corner k from −m to m, if it has a grid point?
abbrev pub placed : ℕ → Corners → ℕ → Bool
placed m c k = not (labelled c k) || (is_within m (word c k 1) && is_within m (word c k 2))

abbrev pub finite_scores : List Float → Bool
finite_scores [] = true
finite_scores (x ∷ xs) = finite x && finite_scores xs

-- Question 18 without the inliers: at most 1,024 corners, grid points from −4,096 to 4,096, scores finite?
abbrev pub corners_answer : List Float → List ℤ → Bool
corners_answer scores grid = leb (length scores) 1024 && (every (placed 4096 (corners scores grid)) (length scores) && finite_scores scores)

-- the cells of the input arrays
abbrev pub cells_of : List Float → List ℤ → List ℕ → List Coord
cells_of scores grid inliers = cells 4096 (corners scores grid) inliers

-- the question that fails, if any; a place of the output array is six words
unfoldable pub cells_refused_by : List Float → List ℤ → List ℕ → List ℤ → Option Refusal
cells_refused_by scores grid inliers lent =
    ask (corners_answer scores grid && leb (length inliers) 1024) refusal.CornersOutOfRange
    (ask (leb (6 * 256) (length lent)) refusal.ListTooShort
    (ask (leb (length (cells_of scores grid inliers)) 256) refusal.TooManyCells
    none))

abbrev pub found_by : Option Refusal → ℕ → Result ℕ Refusal
found_by (some r) count = Err r
found_by none count = Ok count

abbrev pub marker_cells : List Float → List ℤ → List ℕ → List ℤ → Result ℕ Refusal
marker_cells scores grid inliers lent = found_by (cells_refused_by scores grid inliers lent) (length (cells_of scores grid inliers))

abbrev pub marker_cells_list : List Float → List ℤ → List ℕ → List ℤ → List ℤ
marker_cells_list scores grid inliers lent =
    at_exit (cells_refused_by scores grid inliers lent) (words_of_cells (corners scores grid) inliers (cells_of scores grid inliers)) lent
