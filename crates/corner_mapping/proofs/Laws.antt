-- The laws of the corner entry point: the choice for an id is the first greatest, results are by increasing id with their board corner,
-- corners of a marker's cell have the marker's ids, and a corner alignment passes question 18. Assumes nothing.
use mathlib.Core.Path.{◌≡◌, refl, sym, ap, ap₂, subst, ◌∙◌}
use mathlib.Core.Bool.{true, false≢true, ◌&&◌, cond}
use mathlib.Core.List.{[], ◌∷◌}
use mathlib.Core.Option.{Option as Maybe, none, some}
use Prim.Native.Nat.{ℕ, ◌+◌, ◌*◌}
use native.Mathlib.Nat.{add-zero, mod-mod}
use native.Mathlib.Numerals.{add-one}
use native.Mathlib.Omega.{arith}
use lib.IntN.{pos}
use lib.ListN.{length}
use borrow.Author.Tests.{eqb-true, lt-ltb}
use Rattle.integers.proofs.Distances.{abs_within}
use Rattle.grid_alignment.specs.declared.Coord.{Coord}
use Rattle.matcher.proofs.Turns.{each_turn}
use Rattle.grid_alignment.specs.Alignment.{point, applied, corner, corner_alignment}
use Rattle.grid_alignment.proofs.Entries.{small-corners}
use Rattle.grid_alignment.proofs.Laws.{corners-land}
use Rattle.board.specs.Numbering.{number_at, number_atℤ, position}
use Rattle.board.specs.Layout.{holds_marker, parity_of, inner, corner_at, corner_count, scaled_point}
use Rattle.board.proofs.Laws.{markers, corners, Four, four_are}
use Rattle.lent_list.proofs.Front.{up_to_as}
use Rattle.marker_sampling.specs.Cells.{held, index}
use Rattle.marker_sampling.specs.Rules.{PassingInOrder}
use Rattle.marker_sampling.proofs.Laws.{in_order}
use Rattle.corner_mapping.specs.Corners.{id_at, id_of, is_id, chosen, mapped_if, mapped_by}
use Rattle.corner_mapping.specs.Rules.{ChosenGreatest, NoneBears, result_of, ResultsInOrder, BoardCornersNamed}
use Rattle.corner_mapping.specs.Rules.{CornersOfCell, of_four, CornersOfMarker, CornerAlignmentPasses}
use Rattle.corner_mapping.proofs.Ids.{placed_at, at-point, on-corner}
use Rattle.corner_mapping.proofs.Writing.{words_are}
use Rattle.corner_mapping.proofs.Greatest.{none_before, greatest_to_lem}
use Rattle.std.specs.Prelude.{Option, Some, None}

-- ---- the choice
pub chosen_greatest : ChosenGreatest
chosen_greatest x all id k e = greatest_to_lem x id all (length x.scores) (omega arith) k e

pub none_bears : NoneBears
none_bears x id e = none_before x id (length x.scores) e

-- ---- the results
pub results_in_order : ResultsInOrder
results_in_order x =
    subst (PassingInOrder (λ id. held (chosen x id)) (result_of x) count)
    (up_to_as _ (mapped_by (chosen x)) count (λ id h. one id (chosen x id)))
    (in_order (λ id. held (chosen x id)) (result_of x) count)
  where
    count : ℕ
    count = corner_count x.board.rows x.board.cols

    one : (id : ℕ) (o : Maybe ℕ) → cond (held o) (record { id = id; index = index o } ∷ []) [] ≡ mapped_if id o
    one id none = refl
    one id (some k) = refl

-- ---- the board corner of a result
is_id_lem : (n : Option ℕ) (id : ℕ) → is_id n id ≡ true → n ≡ Some id
is_id_lem (Some m) id e = ap Some (eqb-true m id e)
is_id_lem None id e = absurd (false≢true e)

pub board_corners_named : BoardCornersNamed
unfolding number_atℤ
board_corners_named x id k e =
    let b = x.board in
    let n = on-corner b x.alignment x.grid k id (is_id_lem (id_of b x.alignment x.grid k) id e) in
    let place = (corners b.rows b.cols).place_of n.i n.j id n.number in
    let at = Some (position n.i n.j) in
    record {
      i = n.i;
      j = n.j;
      there = ap₂ point n.u-is n.v-is;
      has_id = n.number;
      of_id = place;
      told = sym (words_are b id k at (scaled_point b.cell_size at) (sym place) (ap (scaled_point b.cell_size) (sym place)));
    }

-- ---- the corners of a cell
pub corners_of-cell : CornersOfCell
corners_of-cell board cells grid n p k l g =
    sym (at-point board (corner_alignment cells) grid n l)
    ∙ ap (id_at board) (ap (applied (corner_alignment cells)) g ∙ corners-land cells k p)

-- corner t of square (i, j), if its four are inner
at-four : (rows cols i j a b c d t : ℕ) → Four rows cols i j a b c d
    → corner_at rows cols (corner t (point (pos i) (pos j))).u (corner t (point (pos i) (pos j))).v ≡ Some (of_four a b c d t)
unfolding corner number_atℤ
at-four rows cols i j a b c d t f =
    let at = point (pos i) (pos j) in
    let corner_has : ℕ → Type 0 = λ m. corner_at rows cols (corner m at).u (corner m at).v ≡ Some (of_four a b c d m) in
    rw (mod-mod t 4) at
    (each_turn corner_has f.top_left (ap₂ (number_at inner cols rows) (add-one i) (add-zero j) ∙ f.top_right)
    (ap₂ (number_at inner cols rows) (add-one i) (add-one j) ∙ f.bottom_right)
    (ap₂ (number_at inner cols rows) (add-zero i) (add-one j) ∙ f.bottom_left)
    t)

pub corners_of_marker : CornersOfMarker
corners_of_marker board cells grid n p k m a b c d l g e f =
    let rows = board.rows in
    let cols = board.cols in
    let parity = parity_of board in
    let q = placed_at (holds_marker parity) cols rows (applied cells p).u (applied cells p).v m e in
    let t = k + 3 * cells.turn in
    let square = (markers parity rows cols).place_of q.i q.j m q.number in
    corners_of-cell board cells grid n p k l g
    ∙ ap (λ (r : Coord). id_at board (corner t r)) (ap₂ point q.u-is q.v-is)
    ∙ at-four rows cols q.i q.j a b c d t (four_are parity rows cols m q.i q.j square a b c d f)

-- ---- question 18 of a corner alignment
pub corner_alignment-passes : CornerAlignmentPasses
corner_alignment-passes a h =
    let c = corner_alignment a in
    let s = small-corners 8191 a h in
    ap₂ ◌&&◌ (lt-ltb c.turn 4 s.turn) (ap₂ ◌&&◌ (abs_within 8192 c.tx s.tx) (abs_within 8192 c.ty s.ty))
