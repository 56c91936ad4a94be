-- The placements of a legacy shot and of the shot restated pair, with the same evidence. Assumes nothing.
use mathlib.Core.Path.{◌≡◌, refl, sym, ap, ap₂, ◌∙◌}
use mathlib.Core.Bool.{Bool, true, false, cond, ◌&&◌}
use mathlib.Core.List.{List, [], ◌∷◌, map}
use Prim.Native.Nat.{ℕ, ◌+◌, ◌-◌, ◌*◌, ◌/◌, ◌%◌, ◌<◌}
use native.Mathlib.Nat.{mod-lt, add_comm}
use native.Mathlib.Omega.{arith}
use lib.Dec.{eqb, lit<}
use lib.ListN.{length, get_or, drop, length-map, get_or-append}
use lib.IntN.{ℤ, pos, neg_ℤ, ◌+ℤ◌, ◌-ℤ◌}
use lib.Ieee.{Float, lt, neg}
use borrow.Author.Tests.{eq-eqb}
use Rattle.floats.specs.Units.{nought}
use Rattle.integers.proofs.Parts.{ext, add_is, sub_is_parts, plus_neg, minus_neg}
use Rattle.matcher.specs.Codes.{turned}
use Rattle.matcher.proofs.Turns.{turned-turned, turns_mod}
use Rattle.grid_alignment.specs.declared.Coord.{Coord}
use Rattle.grid_alignment.specs.declared.GridAlignment.{GridAlignment}
use Rattle.grid_alignment.specs.Alignment.{point, sends, moved, applied}
use Rattle.grid_alignment.proofs.Laws.{sends_mod, sends-sends}
use Rattle.board.specs.Layout.{even_parity, odd_parity, parity_of, marker_at, marker_on, marker_total}
use Rattle.board.proofs.Laws.{same_count, id_below}
use Rattle.score_matrix.specs.Scores.{Samples, null_score}
use Rattle.lent_list.proofs.Front.{up_to_as}
use Rattle.shot_record.specs.Shots.{Shot, list}
use Rattle.shot_record.proofs.Lists.{length-list, get_d_list}
use Rattle.hypothesis.specs.Placements.{cell_total, cell_point, frame, with_turns_below, placements}
use Rattle.hypothesis.specs.Evidence.{board_in, table_of, code_of, weight_of, samples_of, expected, contributed_with, contributed, contributions}
use Rattle.hypothesis.specs.Evidence.{reported, exact, capacity, contributing_cells}
use Rattle.hypothesis.specs.Rules.{OnBoard, Fits}
use Rattle.legacy_record.specs.Restated.{reversed_codes, reversed_count, restated}
use Rattle.half_turn.specs.Pairs.{TurnedByHalf, from_last, paired, PairRule, PairedTwice, SamePlacements}
use Rattle.half_turn.proofs.HalfTurn.{opposite_at, opposite_from, markers-turned}
use Rattle.half_turn.proofs.CodedCells.{coded_cell, map-up_to, evidence_of, exact_of, capacity_of, by_cells, exact_by_cells, capacity_by_cells}
use Rattle.std.specs.Prelude.{Option, Some, None}

-- the code of a marker in its new place
over : (bits n m : ℕ) (codes : List ℕ) → m < n → get_or (reversed_codes bits n codes) (n - 1 - m) 0 ≡ turned bits 2 (get_or codes m 0)
over bits n m codes h =
    let f : ℕ → ℕ = λ k. turned bits 2 (get_or codes (n - 1 - k) 0) in
    let place : n - 1 - (n - 1 - m) ≡ m = omega arith in
    get_or-append (list f n) (drop n codes) 0 (n - 1 - m) (rw (length-list f n) (omega arith))
    ∙ get_d_list f n (n - 1 - m) 0 (omega arith)
    ∙ ap (λ (k : ℕ). turned bits 2 (get_or codes k 0)) place

-- ---- where a placement puts a point
pub turned_point_lem : (r : ℕ) (q : Coord) → sends ((r + 2) % 4) q ≡ point (neg_ℤ (sends r q).u) (neg_ℤ (sends r q).v)
unfolding sends
turned_point_lem r q = sends_mod (r + 2) q ∙ ap (λ (m : ℕ). sends m q) (add_comm r 2) ∙ sym (sends-sends 2 r q)

pub opposite_sum : (n : ℕ) (x t : ℤ) → neg_ℤ x +ℤ (pos n -ℤ t) ≡ pos n -ℤ (x +ℤ t)
opposite_sum n x t =
    ext (neg_ℤ x +ℤ (pos n -ℤ t)) (pos n -ℤ (x +ℤ t))
    (omega
    (arith, add_is (neg_ℤ x) (pos n -ℤ t), plus_neg x, minus_neg x, sub_is_parts (pos n) t, sub_is_parts (pos n) (x +ℤ t), add_is x t))

pub lands : (s : Shot) (p : GridAlignment) (q : Coord)
    → applied (paired s p) q ≡ point (pos (s.cols - 1) -ℤ (applied p q).u) (pos (s.rows - 1) -ℤ (applied p q).v)
lands s p q =
    ap (λ (c : Coord). moved c (pos (s.cols - 1) -ℤ p.tx) (pos (s.rows - 1) -ℤ p.ty)) (turned_point_lem p.turn q)
    ∙ ap₂ point (opposite_sum (s.cols - 1) (sends p.turn q).u p.tx) (opposite_sum (s.rows - 1) (sends p.turn q).v p.ty)

module _ (s : Shot) (m : TurnedByHalf s) where
  abbrev M : ℕ
  M = s.rows * s.cols / 2

  total : marker_total (board_in s) ≡ M
  total = same_count (board_in s)

  even_rows : eqb (s.rows % 2) 0 ≡ true
  even_rows = eq-eqb (s.rows % 2) 0 m.even_rows

  old_parity : parity_of (board_in s) ≡ even_parity
  unfolding parity_of
  old_parity = ap₂ (λ (a b : Bool). cond (a && b) even_parity odd_parity) m.legacy even_rows

  new_parity : parity_of (board_in (restated s)) ≡ odd_parity
  unfolding parity_of
  new_parity = refl

  all_over : reversed_count s ≡ M
  all_over = ap₂ (λ (a b : Bool). cond (a && b) (marker_total (board_in s)) 0) m.legacy even_rows ∙ total

  -- ---- the markers that are expected
  pub expects : (p : GridAlignment) (k : ℕ) → expected (restated s) (paired s p) k ≡ from_last M (expected s p k)
  unfolding expected
  expects p k =
      let q = applied p (cell_point s k) in
      ap (λ (c : Coord). marker_on (board_in (restated s)) c.u c.v) (lands s p (cell_point s k))
      ∙ ap (λ (t : ℕ). marker_at t s.rows s.cols (pos (s.cols - 1) -ℤ q.u) (pos (s.rows - 1) -ℤ q.v)) new_parity
      ∙ markers-turned s.rows s.cols m.even_rows m.odd_cols q.u q.v
      ∙ ap (λ (t : ℕ). from_last M (marker_at t s.rows s.cols q.u q.v)) (sym old_parity)

  -- and their codes
  pub codes-turned : (r k : ℕ) → k < M → code_of (restated s) ((r + 2) % 4) (M - 1 - k) ≡ code_of s r k
  codes-turned r k h =
      let n = s.bits in
      let c = get_or s.codes k 0 in
      let four : (2 + (r + 2)) % 4 ≡ r % 4 = omega arith in
      turns_mod n (r + 2) (get_or (reversed_codes n (reversed_count s) s.codes) (M - 1 - k) 0)
      ∙ ap (turned n (r + 2)) (ap (λ (a : ℕ). get_or (reversed_codes n a s.codes) (M - 1 - k) 0) all_over ∙ over n M k s.codes h)
      ∙ turned-turned n 2 (r + 2) c
      ∙ sym (turns_mod n (2 + (r + 2)) c) ∙ ap (λ (t : ℕ). turned n t c) four ∙ turns_mod n r c

  -- ---- the cells that contribute
  module _ (p : GridAlignment) where
    abbrev r : ℕ
    r = p.turn

    abbrev r' : ℕ
    r' = (p.turn + 2) % 4

    by_marker : (w : Float) (x : Samples) (e e' : Option ℕ) → e' ≡ from_last M e → ((k : ℕ) → e ≡ Some k → k < M)
        → map (coded_cell (restated s) r') (contributed_with w x e') ≡ map (coded_cell s r) (contributed_with w x e)
    by_marker w x None e' is small = rw is refl
    by_marker w x (Some k) e' is small = rw is (go (lt nought w))
      where
        go : (t : Bool) → map (coded_cell (restated s) r') (cond t (record { weight = w; samples = x; id = M - 1 - k } ∷ []) [])
            ≡ map (coded_cell s r) (cond t (record { weight = w; samples = x; id = k } ∷ []) [])
        go true = λ i. record { weight = w; samples = x; code = codes-turned r k (small k refl) i } ∷ []
        go false = refl

    pub known : (k i : ℕ) → expected s p k ≡ Some i → i < M
    unfolding expected
    known k i e =
        let q = applied p (cell_point s k) in
        omega (arith, total, id_below (parity_of (board_in s)) s.rows s.cols q.u q.v i e)

    one_cell : (k : ℕ) → map (coded_cell (restated s) r') (contributed (restated s) (paired s p) k) ≡ map (coded_cell s r) (contributed s p k)
    unfolding contributed
    one_cell k = by_marker (weight_of s k) (samples_of s k) (expected s p k) (expected (restated s) (paired s p) k) (expects p k) (known k)

    pub same-cells : map (coded_cell (restated s) r') (contributions (restated s) (paired s p)) ≡ map (coded_cell s r) (contributions s p)
    same-cells =
        map-up_to (coded_cell (restated s) r') (contributed (restated s) (paired s p)) (cell_total s)
        ∙ up_to_as _ _ (cell_total s) (λ k h. one_cell k)
        ∙ sym (map-up_to (coded_cell s r) (contributed s p) (cell_total s))

    same-evidence : reported (restated s) (paired s p) ≡ reported s p
    unfolding reported
    same-evidence =
        by_cells (restated s) r' (contributions (restated s) (paired s p)) ∙ ap (evidence_of (table_of s) (neg (null_score s.bits))) same-cells
        ∙ sym (by_cells s r (contributions s p))

    same-exact : exact (restated s) (paired s p) ≡ exact s p
    unfolding exact
    same-exact =
        exact_by_cells (restated s) r' (contributions (restated s) (paired s p)) ∙ ap (exact_of (table_of s) (neg (null_score s.bits))) same-cells
        ∙ sym (exact_by_cells s r (contributions s p))

    same-capacity : capacity (restated s) (paired s p) ≡ capacity s p
    unfolding capacity
    same-capacity =
        capacity_by_cells (restated s) r' (contributions (restated s) (paired s p)) ∙ ap (capacity_of (table_of s) (neg (null_score s.bits))) same-cells
        ∙ sym (capacity_by_cells s r (contributions s p))

    same-count_of-cells : contributing_cells (restated s) (paired s p) ≡ contributing_cells s p
    same-count_of-cells =
        sym (length-map (contributions (restated s) (paired s p)) (coded_cell (restated s) r')) ∙ ap length same-cells
        ∙ length-map (contributions s p) (coded_cell s r)

-- ---- placements
module _ (s : Shot) (p : GridAlignment) where
  there : Fits s p → Fits (restated s) (paired s p)
  there f = (mod-lt (p.turn + 2) (lit< tt), on)
    where
      on : (k : ℕ) → k < cell_total s → OnBoard (restated s) (applied (paired s p) (cell_point s k))
      on k h =
          let o = f.1 k h in
          let l = lands s p (cell_point s k) in
          record {
            i = s.cols - 1 - o.i;
            j = s.rows - 1 - o.j;
            column = ap (λ (c : Coord). c.u) l ∙ opposite_at (s.cols - 1) o.i (applied p (cell_point s k)).u o.column (omega (arith, o.inside.0));
            row = ap (λ (c : Coord). c.v) l ∙ opposite_at (s.rows - 1) o.j (applied p (cell_point s k)).v o.row (omega (arith, o.inside.1));
            inside = (omega (arith, o.inside.0), omega (arith, o.inside.1));
          }

  here : Fits (restated s) (paired s p) → p.turn < 4 → Fits s p
  here f turn = (turn, on)
    where
      on : (k : ℕ) → k < cell_total s → OnBoard s (applied p (cell_point s k))
      on k h =
          let o = f.1 k h in
          let l = lands s p (cell_point s k) in
          record {
            i = s.cols - 1 - o.i;
            j = s.rows - 1 - o.j;
            column = opposite_from (s.cols - 1) o.i (applied p (cell_point s k)).u (sym (ap (λ (c : Coord). c.u) l) ∙ o.column)
                (omega (arith, o.inside.0));
            row = opposite_from (s.rows - 1) o.j (applied p (cell_point s k)).v (sym (ap (λ (c : Coord). c.v) l) ∙ o.row) (omega (arith, o.inside.1));
            inside = (omega (arith, o.inside.0), omega (arith, o.inside.1));
          }

pub pair_rule : PairRule
pair_rule s m p =
    record {
      ids = λ k. expects s m p k ∙ ap (λ (n : ℕ). from_last n (expected s p k)) (sym (total s m));
      evidence = same-evidence s m p;
      exact = same-exact s m p;
      capacity = same-capacity s m p;
      count = same-count_of-cells s m p;
      fits = there s p;
      fits_only = here s p;
    }

-- the pairing undoes itself
twice : (n : ℕ) (t : ℤ) → pos n -ℤ (pos n -ℤ t) ≡ t
twice n t = ext (pos n -ℤ (pos n -ℤ t)) t (omega (arith, sub_is_parts (pos n) t, sub_is_parts (pos n) (pos n -ℤ t)))

pub paired_twice : PairedTwice
paired_twice s p h =
    let four : ((p.turn + 2) % 4 + 2) % 4 ≡ p.turn = omega arith in
    λ i. record { turn = four i; tx = twice (s.cols - 1) p.tx i; ty = twice (s.rows - 1) p.ty i }

-- the placements depend on the board's size and on the cells' points only
pub same-placements : SamePlacements
unfolding placements with_turns_below frame
same-placements s = refl
