-- Laws of cells and corners that no other proof cites, at a few corners. Assumes nothing.
use mathlib.Core.Path.{◌≡◌, refl, sym, ap, ◌∙◌}
use mathlib.Core.Bool.{Bool, true, false, false≢true}
use mathlib.Core.List.{List, [], ◌∷◌}
use mathlib.Core.Option.{Option, none, some}
use Prim.Native.Nat.{ℕ, zero, suc, ◌<◌}
use native.Mathlib.Omega.{arith}
use lib.Dec.{lit<}
use lib.IntN.{pos, nat_abs}
use lib.ListN.{length, get_or, length-map, get_or-map}
use lib.Ieee.{of_bits, to_bits, of_int, mul, le, lt, eq}
use Rattle.grid_alignment.specs.declared.Coord.{Coord}
use Rattle.grid_alignment.specs.Alignment.{point, sends, applied, corner}
use Rattle.board.specs.Numbering.{count_passing, number_at, number_atℤ, search}
use Rattle.board.specs.Layout.{parity_of, marker_on, surrounding_corners, surrounding, corner_count}
use Rattle.marker_sampling.specs.Cells.{held, index, holder, whole_cell, point_at}
use Rattle.marker_sampling.specs.Entry.{finite_scores}
use Rattle.marker_sampling.specs.Rules.{PassingInOrder}
use Rattle.marker_sampling.proofs.Laws.{cells_in_order, every_point}
use Rattle.corner_mapping.specs.Corners.{Input, MappedCorner, board_corner, id_of, bears, chosen_to, chosen, mapped}
use Rattle.corner_mapping.specs.Rules.{GreatestScore, along, Named, result_of}
use Rattle.corner_mapping.proofs.Laws.{chosen_greatest, none_bears, results_in_order, board_corners_named, corners_of_marker}
use Rattle.worked_examples.specs.Table.{one_float, align, board}
use Rattle.worked_examples.specs.Uses.{six_corners, two_whole, four_inputs, result, OfCorners}
use Rattle.std.specs.Prelude.{Some}

-- ---- a list in order
module _ {A : Type 0} (test : ℕ → Bool) (element : ℕ → A) (n : ℕ) (l : List A) (h : PassingInOrder test element n l) where
  abbrev place : ℕ → ℕ
  place i = get_or h.places i 0

  long : length l ≡ length h.places
  long = ap length h.are ∙ length-map h.places element

  element_at : (i : ℕ) → get_or l i (element 0) ≡ element (place i)
  element_at i = ap (λ (xs : List A). get_or xs i (element 0)) h.are ∙ get_or-map element h.places i 0

  found : (r : ℕ) → r < n → test r ≡ true → (i : ℕ) × (i < length l) × (get_or l i (element 0) ≡ element r)
  found r below passes = let f = h.complete r below passes in (f.0, rw long f.1, element_at f.0 ∙ ap element f.2)

  sound-at : (i : ℕ) → i < length l → (place i < n) × (test (place i) ≡ true)
  sound-at i inside = h.sound i (rw long at inside)

  rises : (i j : ℕ) → i < j → j < length l → place i < place j
  rises i j before inside = h.rising i j before (rw long at inside)

-- ---- cells
abbrev whole : ℕ → Bool
whole r = whole_cell six_corners (0 ∷ 1 ∷ 2 ∷ 3 ∷ 4 ∷ 5 ∷ []) (point_at 2 r)

cells_found : PassingInOrder whole (point_at 2) 25 two_whole
cells_found = cells_in_order 2 six_corners (0 ∷ 1 ∷ 2 ∷ 3 ∷ 4 ∷ 5 ∷ [])

at_13 : (r : ℕ) → r < 25 → point_at 2 r ≡ point (pos 1) (pos 0) → r ≡ 13
at_13 r l e =
    let one = every_point 2 (point (pos 1) (pos 0)) refl refl in
    one.only r l e ∙ sym (one.only 13 (lit< tt) refl)

at_12 : (r : ℕ) → r < 25 → point_at 2 r ≡ point (pos 0) (pos 0) → r ≡ 12
at_12 r l e =
    let one = every_point 2 (point (pos 0) (pos 0)) refl refl in
    one.only r l e ∙ sym (one.only 12 (lit< tt) refl)

passes_13 : whole 13 ≡ true
unfolding corner holder
passes_13 = refl

-- (0, 1) lacks two corners
lacking : whole_cell six_corners (0 ∷ 1 ∷ 2 ∷ 3 ∷ 4 ∷ 5 ∷ []) (point (pos 0) (pos 1)) ≡ false
unfolding corner holder
lacking = refl

-- ---- corners
abbrev x : Input
x = four_inputs

-- of the three at (1, 1)
only_2 : (k : ℕ) → GreatestScore x 0 4 k → k ≡ 2
unfolding id_of sends number_atℤ number_at count_passing of_bits lt le eq
only_2 zero g = absurd (false≢true g.bears_it)
only_2 (suc zero) g = absurd (false≢true (sym (g.most 2 (lit< tt) refl)))
only_2 (suc (suc zero)) g = refl
only_2 (suc (suc (suc zero))) g = absurd (false≢true (g.earlier 2 (lit< tt) refl))
only_2 (suc (suc (suc (suc k)))) g = absurd (omega (arith, g.inside))

finite_scores_is : finite_scores x.scores ≡ true
unfolding of_bits
finite_scores_is = refl

chosen_0 : chosen x 0 ≡ some 2
unfolding chosen_to id_of sends number_atℤ number_at count_passing of_bits lt le eq
chosen_0 = refl

chosen_1 : chosen x 1 ≡ some 0
unfolding chosen_to id_of sends number_atℤ number_at count_passing of_bits lt le eq
chosen_1 = refl

chosen_2 : chosen x 2 ≡ none
unfolding chosen_to id_of sends number_atℤ number_at count_passing of_bits lt le eq
chosen_2 = refl

twelve : corner_count 4 5 ≡ 12
unfolding count_passing
twelve = refl

-- the default result after the last
default : result_of x 0 ≡ result 0 2
default = ap (λ (o : Option ℕ). result 0 (index o)) chosen_0

module _ (l : List MappedCorner) (h : PassingInOrder (λ (id : ℕ). held (chosen x id)) (result_of x) (corner_count 4 5) l) where
  abbrev has : ℕ → Bool
  has id = held (chosen x id)

  id_at : (i : ℕ) → (get_or l i (result 0 2)).id ≡ place has (result_of x) (corner_count 4 5) l h i
  id_at i = ap (λ (d : MappedCorner). (get_or l i d).id) (sym default) ∙ ap (λ (m : MappedCorner). m.id) (element_at has (result_of x) (corner_count 4 5) l h i)

  id_1 : (i : ℕ) × (i < length l) × (get_or l i (result 0 2) ≡ result 1 0)
  id_1 =
      let f = found has (result_of x) (corner_count 4 5) l h 1 (rw twelve (lit< tt)) (ap held chosen_1) in
      (f.0, f.1, ap (get_or l f.0) (sym default) ∙ f.2 ∙ ap (λ (o : Option ℕ). result 1 (index o)) chosen_1)

  not_2 : (i : ℕ) → i < length l → (get_or l i (result 0 2)).id ≡ 2 → ⊥
  not_2 i inside e =
      false≢true (sym (ap held chosen_2) ∙ ap has (sym e ∙ id_at i) ∙ (sound-at has (result_of x) (corner_count 4 5) l h i inside).1)

  ids_rise : (i j : ℕ) → i < j → j < length l → (get_or l i (result 0 2)).id < (get_or l j (result 0 2)).id
  ids_rise i j before inside = rw (id_at i, id_at j) (rises has (result_of x) (corner_count 4 5) l h i j before inside)

-- corner 0 has id 1
bears_1 : bears x 0 1 ≡ true
unfolding id_of sends number_atℤ number_at count_passing
bears_1 = refl

named : Named x 1 0
named = board_corners_named x 1 0 bears_1

there : board_corner x.alignment x.grid 0 ≡ point (pos 2) (pos 1)
unfolding sends
there = refl

column : named.i ≡ 2
column = ap (λ (p : Coord). nat_abs p.u) (sym named.there ∙ there)

row : named.j ≡ 1
row = ap (λ (p : Coord). nat_abs p.v) (sym named.there ∙ there)

words : along one_float 2 ∷ along one_float 1 ∷ [] ≡ 0x40000000 ∷ 0x3F800000 ∷ []
unfolding of_bits to_bits of_int mul
words = refl

-- a turn maps cell (0, 0) to the square of marker 3
on-marker : marker_on (board 4 5) (applied (align 1 (pos 2) (pos 1)) (point (pos 0) (pos 0))).u (applied (align 1 (pos 2) (pos 1)) (point (pos 0) (pos 0))).v
    ≡ Some 3
unfolding sends parity_of number_atℤ number_at count_passing
on-marker = refl

its_corners : surrounding_corners (board 4 5) 3 ≡ Some (surrounding 1 2 6 5)
unfolding parity_of search number_at count_passing
its_corners = refl

lower_right : point (pos 1) (pos 1) ≡ corner 2 (point (pos 0) (pos 0))
unfolding corner
lower_right = refl

pub of_corners_lem : OfCorners
of_corners_lem =
    record {
      every_point = (λ p hu hv. let one = every_point 2 p hu hv in (one.place, one.inside, one.there), at_13);
      cells_in_order = (
        found whole (point_at 2) 25 two_whole cells_found 13 (lit< tt) passes_13,
        λ i l e.
            let s = sound-at whole (point_at 2) 25 two_whole cells_found i l in
            let there = sym (element_at whole (point_at 2) 25 two_whole cells_found i) ∙ e in
            false≢true (sym lacking ∙ rw there at s.1),
        λ i j l m e f.
            let p = element_at whole (point_at 2) 25 two_whole cells_found in
            let s = sound-at whole (point_at 2) 25 two_whole cells_found in
            omega (arith, at_13 _ (s i (omega arith)).0 (sym (p i) ∙ e), at_12 _ (s j m).0 (sym (p j) ∙ f), rises whole (point_at 2) 25 two_whole cells_found i j l m),
      );
      chosen_greatest = λ k e. only_2 k (chosen_greatest x finite_scores_is 0 k e);
      none_bears = none_bears x 2 chosen_2;
      results_in_order =
          let l = mapped x in
          let h = results_in_order x in
          (id_1 l h, not_2 l h, ids_rise l h);
      board_corners_named =
          (rw (column, row) at named.has_id, rw (column, row) at named.of_id, rw (column, row) at named.told ∙ ap (λ (l : List ℕ). 1 ∷ 0 ∷ 2 ∷ 1 ∷ l) words);
      corners_of_marker =
          corners_of_marker (board 4 5) (align 1 (pos 2) (pos 1)) (pos 1 ∷ pos 1 ∷ pos 1 ∷ []) 0 (point (pos 0) (pos 0)) 2 3 1 2 6 5 refl lower_right on-marker
          its_corners;
    }
