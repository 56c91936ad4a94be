-- `oracle_exports::oracle_surrounding_corner` meets its contract. Assumes nothing.
use mathlib.Core.Path.{◌≡◌, sym, ap, ◌∙◌}
use Prim.Native.Nat.{◌%◌}
use native.Mathlib.Omega.{arith}
use Rattle.board.specs.Layout.{surrounding_corners}
use Rattle.oracle_exports.specs.Words.{unit_size, board_with, four_word}
use Rattle.oracle_exports.proofs.oracle_surrounding_corner.Goals as goal
use Rattle.oracle_exports.proofs.oracle_surrounding_corner.Goals.{After-marker_surrounding_charuco_corners-around}
use Rattle.std.specs.Prelude.{Option}
use Rattle.board.specs.declared.Surrounding.{Surrounding}

around-is : (c : After-marker_surrounding_charuco_corners-around) → c.marker_surrounding_charuco_corners-around.result
    ≡ surrounding_corners (board_with c.args.rows c.args.cols c.args.legacy unit_size) c.args.marker
around-is c =
    let b = c.board_of.ensures in
    c.marker_surrounding_charuco_corners-around.ensures ∙ (λ k. surrounding_corners (b k) c.args.marker)

pub returns-in-0 : goal.returns-in-0
returns-in-0 c =
    rw c.in-0.is (ap (λ (s : Option Surrounding). four_word s 0) (sym c.in-Some.is ∙ around-is (goal.at.returns-in-0 c).After-marker_surrounding_charuco_corners-around))

pub returns-in-1 : goal.returns-in-1
returns-in-1 c =
    rw c.in-1.is (ap (λ (s : Option Surrounding). four_word s 1) (sym c.in-Some.is ∙ around-is (goal.at.returns-in-1 c).After-marker_surrounding_charuco_corners-around))

pub returns-in-2 : goal.returns-in-2
returns-in-2 c =
    rw c.in-2.is (ap (λ (s : Option Surrounding). four_word s 2) (sym c.in-Some.is ∙ around-is (goal.at.returns-in-2 c).After-marker_surrounding_charuco_corners-around))

pub returns-in_default : goal.returns-in_default
returns-in_default c =
    let three : c.args.corner % 4 ≡ 3 = omega arith in
    rw three (ap (λ (s : Option Surrounding). four_word s 3) (sym c.in-Some.is ∙ around-is (goal.at.returns-in_default c).After-marker_surrounding_charuco_corners-around))

pub returns-in-None : goal.returns-in-None
returns-in-None c =
    ap (λ (s : Option Surrounding). four_word s (c.args.corner % 4))
    (sym c.in-None.is ∙ around-is (goal.at.returns-in-None c).After-marker_surrounding_charuco_corners-around)
