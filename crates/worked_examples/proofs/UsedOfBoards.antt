-- Laws of boards, codes and placements that no other proof cites, at small ones. Assumes nothing.
use mathlib.Core.Path.{◌≡◌, refl, sym, ap, ◌∙◌}
use mathlib.Core.Bool.{false}
use mathlib.Core.Logic.{inl, inr}
use mathlib.Core.Option.{Option}
use Prim.Native.Nat.{ℕ, zero, suc, ◌<◌}
use native.Mathlib.Omega.{arith}
use lib.Dec.{lit<, lit≤}
use lib.IntN.{pos, negsuc, nat_abs}
use lib.ListN.{get_or}
use lib.Ieee.{of_bits, le, lt, eq}
use Rattle.integers.specs.Least.{least_to, greatest_to}
use Rattle.integers.specs.Tests.{any_below}
use Rattle.integers.proofs.Parts.{plus, minus, add_is}
use Rattle.matcher.specs.declared.Place.{Place}
use Rattle.matcher.specs.Codes.{bit, from_bits, bit_place, index_of, source, turned}
use Rattle.matcher.proofs.Turns.{four_turns}
use Rattle.alike.proofs.Laws.{either_way, as_said}
use Rattle.grid_alignment.specs.declared.Coord.{Coord}
use Rattle.grid_alignment.specs.Alignment.{point, sends, moved, lowest_point, applied, corner}
use Rattle.grid_alignment.specs.Rules.{as_point}
use Rattle.grid_alignment.proofs.Laws.{top_left_lands, turns_agree}
use Rattle.board.specs.declared.CharucoBoardSpec.{CharucoBoardSpec}
use Rattle.board.specs.Numbering.{count_passing, search, position}
use Rattle.board.specs.Layout.{holds_marker, odd_parity, parity_of, marker_count, square_of}
use Rattle.board.specs.Questions.{asked_of_size, asked_of_board, board_of, new_board}
use Rattle.board.proofs.Laws.{markers, four_off_rim, off_rim_four, white_top_left, odd_rows}
use Rattle.board.proofs.Places.{has-number}
use Rattle.board.proofs.Asked.{reads_one}
use Rattle.score_matrix.proofs.Places.{here}
use Rattle.shot_record.specs.Shots.{Sample, Shot}
use Rattle.hypothesis.specs.Placements.{cell_point, frame}
use Rattle.hypothesis.specs.Rules.{Fits, OnBoard, Precedes, PlacementsInOrder, count_of}
use Rattle.hypothesis.proofs.Placements.{placements_rule}
use Rattle.worked_examples.specs.Table.{one_float, half, align, showing, board}
use Rattle.worked_examples.specs.Uses.{two_codes, marked, OfBoards}
use Rattle.std.specs.Prelude.{Some, Ok}

-- ---- codes
abbrev spec : CharucoBoardSpec
spec = record { rows = 2; cols = 2; bits = 2; border_bits = 1; legacy_pattern = false; cell_size = one_float; marker_size_rel = half }

made : new_board spec two_codes ≡ Ok (board_of spec)
unfolding asked_of_board asked_of_size any_below from_bits source parity_of count_passing of_bits le lt eq
made = refl

two_markers : marker_count (parity_of (board_of spec)) 2 2 ≡ 2
unfolding parity_of count_passing
two_markers = refl

never_same : (r t : ℕ) → turned 2 r (get_or two_codes 0 0) ≡ turned 2 t (get_or two_codes 1 0) → ⊥
never_same r t e =
    let one : ◌≡◌ {A = ℕ} 0 1 =
    reads_one spec two_codes (board_of spec) made (turned 2 t (get_or two_codes 1 0)) 0 1 r t (rw two_markers (lit< tt)) (rw two_markers (lit< tt)) e refl in
    omega arith

-- ---- turns
-- one turn maps (0, 0) to (0, 1), relative to the least point of the rotated square
one_below : (q : Place) → moved (as_point q) (pos 0) (negsuc 0) ≡ point (pos 0) (pos 0) → index_of 2 q ≡ 2
unfolding plus minus
one_below q e =
    omega
    (arith, add_is (pos q.x) (pos 0), add_is (pos q.y) (negsuc 0), ap (λ (p : Coord). plus p.u) e, ap (λ (p : Coord). minus p.u) e, ap (λ (p : Coord). plus p.v) e, ap (λ (p : Coord). minus p.v) e)

below-first : (c : ℕ) → bit (turned 2 1 c) 0 ≡ bit c 2
unfolding sends lowest_point
below-first c =
    let a = turns_agree 2 1 c (record { x = 0; y = 0 }) (lit< tt) (lit< tt) in
    a.same_bit ∙ ap (bit c) (one_below a.from a.lands)

lands : (p : Coord) → applied (align 1 (pos 5) (pos 8)) (corner 1 p) ≡ applied (align 1 (pos 5) (pos 7)) p
unfolding sends lowest_point
lands p = top_left_lands (align 1 (pos 5) (pos 7)) p

-- ---- P3's board
ten : marker_count odd_parity 4 5 ≡ 10
unfolding count_passing
ten = refl

square_2 : square_of odd_parity 4 5 2 ≡ Some (position 0 1)
unfolding search count_passing
square_2 = refl

square_3 : square_of odd_parity 4 5 3 ≡ Some (position 2 1)
unfolding search count_passing
square_3 = refl

-- ---- the placements of the cells (0, 0) and (2, 0)
module _ (s : Shot) (first second : Option Sample) where
  abbrev shown : Shot
  shown = showing s 2 first second

  in_order : PlacementsInOrder shown
  in_order = placements_rule shown (lit< tt)

  as_many : count_of shown ≡ 44
  unfolding frame least_to greatest_to sends
  as_many = refl

  -- three squares to the right (2, 0) is off the board
  too_far : Fits shown (align 0 (pos 3) (pos 0)) → ⊥
  unfolding sends plus
  too_far f = let on = f.1 1 (lit< tt) in omega (arith, ap plus on.column, on.inside.0)

  fits : Fits shown (align 1 (pos 0) (pos 3))
  unfolding sends
  fits = (lit< tt, on)
    where
      on : (k : ℕ) → k < 2 → OnBoard shown (applied (align 1 (pos 0) (pos 3)) (cell_point shown k))
      on zero l = record { i = 0; j = 3; column = refl; row = refl; inside = (lit< tt, lit< tt) }
      on (suc zero) l = record { i = 0; j = 1; column = refl; row = refl; inside = (lit< tt, lit< tt) }
      on (suc (suc k)) l = absurd (omega arith)

-- tx is ordered before ty
not-before : Precedes (align 0 (pos 1) (pos 0)) (align 0 (pos 0) (pos 3)) → ⊥
not-before (inl l) = omega arith
not-before (inr (e, inl l)) = l.lt
not-before (inr (e, inr (f, l))) = omega (arith, ap nat_abs f)

pub of_boards : OfBoards
of_boards =
    record {
      either_way = either_way 2 1;
      as_said = λ a. as_said 2 a 8 (lit< tt);
      reads_one = never_same;
      four_turns = λ c l. four_turns 2 c l;
      turns_agree = (
        λ c q column row. let a = turns_agree 2 3 c q column row in (a.from, a.column, a.row, a.same_bit),
        below-first,
      );
      here = λ bits k b l. let h = here bits k (bit_place bits k) b l refl in (h.side, h.small);
      top_left_lands = lands;
      markers =
          let m = markers odd_parity 4 5 in
          let nine = m.known 9 (rw ten (lit< tt)) in (
            (nine.i, nine.j, has-number (holds_marker odd_parity) 5 4 nine.i nine.j 9 nine.has),
            m.unknown 10 (rw ten (lit≤ tt)),
            m.id_of_lem 2 1 3 square_3,
            λ id next e f. m.rise 4 1 1 2 id next e f (inl (lit< tt)),
          );
      four_off_rim = λ a b c d e. let o = four_off_rim odd_parity 4 5 2 0 1 square_2 a b c d e in omega arith;
      off_rim_four = off_rim_four odd_parity 4 5 3 2 1 square_3 (record { left = lit< tt; top = lit< tt; right = lit< tt; bottom = lit< tt });
      white_top_left = λ cols. (white_top_left (marked 4 cols), white_top_left (board 4 cols));
      odd_rows = λ cols. odd_rows (marked 5 cols) refl ∙ sym (odd_rows (board 5 cols) refl);
      placements_rule =
          λ s first second.
          let o = in_order s first second in (
            o.count ∙ as_many s first second,
            λ k e. too_far s first second (o.sound k (align 0 (pos 3) (pos 0)) e),
            o.complete (align 1 (pos 0) (pos 3)) (fits s first second),
            λ i j l e f. not-before (o.rising i j (align 0 (pos 1) (pos 0)) (align 0 (pos 0) (pos 3)) l e f),
          );
    }
