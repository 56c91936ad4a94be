-- The laws of the layout, for every size and both parities: ids and places are in bijection, ids are exactly
-- 0 to count − 1 in row-major order, and a marker has four corners exactly off the rim; and which legacy boards
-- begin with a white square. Assumes nothing.
use mathlib.Core.Path.{◌≡◌, refl, sym, ap, ◌∙◌}
use mathlib.Core.Bool.{Bool, true, false, cond, ◌&&◌}
use mathlib.Core.Logic.{◌⊎◌}
use Prim.Native.Nat.{ℕ, suc, ◌+◌, ◌-◌, ◌*◌, ◌/◌, ◌%◌, ◌≤◌, ◌<◌}
use native.Mathlib.Nat.{mul-le-mul}
use native.Mathlib.Omega.{arith}
use lib.IntN.{ℤ, pos, negsuc}
use lib.Dec.{ltb, eqb, ltb→lt, lit<}
use borrow.Author.Tests.{eqb-true}
use lib.Ieee.Fits.{and_l, and_r}
use Rattle.board.specs.declared.Board.{Board}
use Rattle.board.specs.declared.Surrounding.{Surrounding}
use Rattle.board.specs.Numbering.{number_at, number_atℤ, position, place_numbered, total}
use Rattle.board.specs.Layout.{holds_marker, inner, even_parity, odd_parity, parity_of, marker_count, marker_total, marker_at, marker_on, square_of, surrounding, all_four, around, four_corners}
use Rattle.board.proofs.Places.{Place, number-has, place_of_number, number_of-place, placed, unplaced, number-below, numbers_differ, numbers_rise}
use Rattle.board.proofs.Markers.{parity_bit, marker_total_lem}
use Rattle.board.proofs.Surroundings.{OffRim, corners_from, off_rim}
use Rattle.std.specs.Prelude.{Option, Some, None}

-- ---- ids
pub record Numbering (t : ℕ → ℕ → Bool) (w h : ℕ) : Type 0 where
  -- id and place are inverse
  pub place_of : (i j id : ℕ) → number_at t w h i j ≡ Some id → place_numbered t w h id ≡ Some (position i j)
  pub id_of_lem : (i j id : ℕ) → place_numbered t w h id ≡ Some (position i j) → number_at t w h i j ≡ Some id
  -- the ids are exactly 0 to count − 1
  pub below : (i j id : ℕ) → number_at t w h i j ≡ Some id → id < total t w h
  pub known : (id : ℕ) → id < total t w h → Place t w h id
  pub unknown : (id : ℕ) → total t w h ≤ id → place_numbered t w h id ≡ None
  -- no two places share an id
  pub once : (i j i' j' id : ℕ) → number_at t w h i j ≡ Some id → number_at t w h i' j' ≡ Some id → (i ≡ i') × (j ≡ j')
  -- ids increase in row-major order
  pub rise : (i j i' j' id id' : ℕ) → number_at t w h i j ≡ Some id → number_at t w h i' j' ≡ Some id' → (j < j') ⊎ ((j ≡ j') × (i < i')) → id < id'

numbering : (t : ℕ → ℕ → Bool) (w h : ℕ) → Numbering t w h
numbering t w h =
    record {
      place_of = λ i j id. place_of_number t w h id i j;
      id_of_lem = λ i j id. number_of-place t w h id i j;
      below = λ i j id e. number-below t w h id i j (number-has t w h i j id e);
      known = placed t w h;
      unknown = unplaced t w h;
      once = numbers_differ t w h;
      rise = numbers_rise t w h;
    }

-- marker ids and squares; corner ids and board corners
pub markers : (p rows cols : ℕ) → Numbering (holds_marker p) cols rows
markers p rows cols = numbering (holds_marker p) cols rows

pub corners : (rows cols : ℕ) → Numbering inner cols rows
corners rows cols = numbering inner cols rows

-- the id at any two integers is below the count, and small on a board of at most 32 by 32 squares
pub id_below : (p rows cols : ℕ) (i j : ℤ) (id : ℕ) → marker_at p rows cols i j ≡ Some id → id < marker_count p rows cols
unfolding number_atℤ
id_below p rows cols (pos i) (pos j) id e = (markers p rows cols).below i j id e
id_below p rows cols (pos i) (negsuc j) id e = let z : ◌≡◌ {A = ℕ} 0 1 = cc in absurd (omega arith)
id_below p rows cols (negsuc i) j id e = let z : ◌≡◌ {A = ℕ} 0 1 = cc in absurd (omega arith)

-- no two squares share an id, at any two integers
pub id-once : (p rows cols : ℕ) (i j i' j' : ℤ) (id : ℕ) → marker_at p rows cols i j ≡ Some id → marker_at p rows cols i' j' ≡ Some id → (i ≡ i') × (j ≡ j')
unfolding number_atℤ
id-once p rows cols (pos i) (pos j) (pos i') (pos j') id e f = let o = (markers p rows cols).once i j i' j' id e f in (ap pos o.0, ap pos o.1)
id-once p rows cols (pos i) (negsuc j) i' j' id e f = let z : ◌≡◌ {A = ℕ} 0 1 = cc in absurd (omega arith)
id-once p rows cols (negsuc i) j i' j' id e f = let z : ◌≡◌ {A = ℕ} 0 1 = cc in absurd (omega arith)
id-once p rows cols (pos i) (pos j) (pos i') (negsuc j') id e f = let z : ◌≡◌ {A = ℕ} 0 1 = cc in absurd (omega arith)
id-once p rows cols (pos i) (pos j) (negsuc i') j' id e f = let z : ◌≡◌ {A = ℕ} 0 1 = cc in absurd (omega arith)

pub id-small : (b : Board) (i j : ℤ) (id : ℕ) → b.rows ≤ 32 → b.cols ≤ 32 → marker_on b i j ≡ Some id → id < 512
id-small b i j id r c e =
    let p = parity_of b in
    omega (arith, id_below p b.rows b.cols i j id e, marker_total_lem p b.rows b.cols (parity_bit b), mul-le-mul {n₂ = 32} {m₂ = 32} r c)

-- ---- legacy boards. OpenCV, `setLegacyPattern`: the pattern starts "with a white box in the upper left corner if there is an even row count of
-- chessboard boxes, otherwise it starts with a black box". White squares have markers.
pub white_top_left : (b : Board) → holds_marker (parity_of b) 0 0 ≡ (b.legacy_pattern && eqb (b.rows % 2) 0)
unfolding parity_of
white_top_left b = go (b.legacy_pattern && eqb (b.rows % 2) 0)
  where
    go : (even : Bool) → eqb 0 (cond even even_parity odd_parity) ≡ even
    go true = refl
    go false = refl

-- with an odd row count the legacy flag changes nothing
pub odd_rows : (b : Board) → b.rows % 2 ≡ 1 → parity_of b ≡ odd_parity
unfolding parity_of
odd_rows b e = rw e (go b.legacy_pattern)
  where
    go : (marked : Bool) → cond (marked && false) even_parity odd_parity ≡ odd_parity
    go true = refl
    go false = refl

-- so the legacy flag does not change the number of markers: half of the squares, rounded down
pub same_count : (b : Board) → marker_total b ≡ b.rows * b.cols / 2
unfolding parity_of
same_count b = go b.legacy_pattern (eqb (b.rows % 2) 0) refl
  where
    odd : marker_count odd_parity b.rows b.cols ≡ b.rows * b.cols / 2
    odd = marker_total_lem odd_parity b.rows b.cols (lit< tt) ∙ omega arith

    go : (marked even : Bool) → eqb (b.rows % 2) 0 ≡ even → marker_count (cond (marked && even) even_parity odd_parity) b.rows b.cols ≡ b.rows * b.cols / 2
    go true true e =
        let half : b.rows ≡ 2 * (b.rows / 2) = omega (arith, eqb-true (b.rows % 2) 0 e) in
        marker_total_lem even_parity b.rows b.cols (lit< tt) ∙ omega (arith, ap (λ (n : ℕ). n * b.cols) half)
    go true false e = odd
    go false even e = odd

-- ---- the four corners of a marker on square (i, j)
each-four : (x y z u : Option ℕ) (a b c d : ℕ) → all_four x y z u ≡ Some (surrounding a b c d) → (x ≡ Some a) × (y ≡ Some b)
    × (z ≡ Some c) × (u ≡ Some d)
each-four (Some k) (Some l) (Some m) (Some n) a b c d e =
    let same : surrounding k l m n ≡ surrounding a b c d = cc in (
      ap (λ (s : Surrounding). Some s.top_left) same,
      ap (λ (s : Surrounding). Some s.top_right) same,
      ap (λ (s : Surrounding). Some s.bottom_right) same,
      ap (λ (s : Surrounding). Some s.bottom_left) same,
    )
each-four (Some k) (Some l) (Some m) None a b c d e = let z : ◌≡◌ {A = ℕ} 0 1 = cc in absurd (omega arith)
each-four (Some k) (Some l) None u a b c d e = let z : ◌≡◌ {A = ℕ} 0 1 = cc in absurd (omega arith)
each-four (Some k) None z u a b c d e = let n : ◌≡◌ {A = ℕ} 0 1 = cc in absurd (omega arith)
each-four None y z u a b c d e = let n : ◌≡◌ {A = ℕ} 0 1 = cc in absurd (omega arith)

pub record Four (rows cols i j a b c d : ℕ) : Type 0 where
  pub top_left : number_at inner cols rows i j ≡ Some a
  pub top_right : number_at inner cols rows (suc i) j ≡ Some b
  pub bottom_right : number_at inner cols rows (suc i) (suc j) ≡ Some c
  pub bottom_left : number_at inner cols rows i (suc j) ≡ Some d

module _ (p rows cols id i j : ℕ) (square : square_of p rows cols id ≡ Some (position i j)) where
  -- if there are four, they are the inner corners of the marker's square
  pub four_are : (a b c d : ℕ) → four_corners p rows cols id ≡ Some (surrounding a b c d) → Four rows cols i j a b c d
  four_are a b c d e =
      let corner = number_at inner cols rows in
      let f = each-four (corner i j) (corner (suc i) j) (corner (suc i) (suc j)) (corner i (suc j)) a b c d (sym (ap (around rows cols) square) ∙ e) in
      record { top_left = f.0; top_right = f.1; bottom_right = f.2; bottom_left = f.3 }

  -- and the square is off the rim
  pub four_off_rim : (a b c d : ℕ) → four_corners p rows cols id ≡ Some (surrounding a b c d) → OffRim rows cols i j
  four_off_rim a b c d e =
      let f = four_are a b c d e in
      let first = number-has inner cols rows i j a f.top_left in
      let third = number-has inner cols rows (suc i) (suc j) c f.bottom_right in
      let y = first.passes in
      record { left = ltb→lt 0 i (and_l (ltb 0 i) (ltb 0 j) y); top = ltb→lt 0 j (and_r (ltb 0 i) (ltb 0 j) y); right = third.column; bottom = third.row }

  -- off the rim there are four
  pub off_rim_four : OffRim rows cols i j
      → four_corners p rows cols id ≡ Some (corners_from ((j - 1) * (cols - 1) + (i - 1)) (cols - 1))
  off_rim_four o = ap (around rows cols) square ∙ off_rim rows cols i j o
