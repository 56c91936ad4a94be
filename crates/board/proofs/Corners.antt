-- The formulas for inner corners: (j − 1) × (cols − 1) + (i − 1), for every size. Assumes nothing.
use mathlib.Core.Path.{◌≡◌, refl, sym, ap, ap₂, ◌∙◌}
use mathlib.Core.Bool.{Bool, false}
use Prim.Native.Nat.{ℕ, zero, suc, ◌+◌, ◌-◌, ◌*◌, ◌/◌, ◌%◌, ◌≤◌, ◌<◌}
use native.Mathlib.Nat.{mod-lt, div-add-mod', div-lt_iff_lt-mul, add-zero, add-suc, suc-mul, zero-mul, add-sub_cancel, le_refl}
use native.Mathlib.Omega.{arith}
use lib.Dec.{T, ltb, lt→ltb}
use lib.Arith.{digits_div, digits_mod}
use lib.Ieee.Fits.{and_r, and_i}
use Rattle.board.specs.Numbering.{as_one, count_passing, by_rank, count_before}
use Rattle.board.specs.Layout.{inner, corner_count}
use Rattle.board.proofs.Counting.{one_true, one_false}
use Rattle.board.proofs.Places.{Has}

-- the places up to one in a row: those of the rows above, and those of this row
count-row : (t : ℕ → ℕ → Bool) (w j i : ℕ) → i ≤ w → count_passing (by_rank t w) (j * w + i) ≡ count_passing (by_rank t w) (j * w) + count_passing (λ x. t x j) i
unfolding count_passing
count-row t w j zero l = ap (count_passing (by_rank t w)) (add-zero (j * w)) ∙ sym (add-zero (count_passing (by_rank t w) (j * w)))
count-row t w j (suc i) l =
    let q = by_rank t w in
    ap (count_passing q) (add-suc (j * w) i)
    ∙ ap₂ (λ (a b : ℕ). a + b) (count-row t w j i (omega arith)) (ap₂ (λ (x y : ℕ). as_one (t x y)) (digits_mod j l) (digits_div j l))
    ∙ omega arith

pub inner-is : (i j : ℕ) → 0 < i → 0 < j → T (inner i j)
inner-is i j a b = and_i (ltb 0 i) (ltb 0 j) (lt→ltb 0 i a) (lt→ltb 0 j b)

-- a row of inner corners: none in row 0, and none in column 0
row_zero : (i : ℕ) → count_passing (λ x. inner x 0) i ≡ 0
unfolding count_passing
row_zero zero = refl
row_zero (suc i) = omega (arith, row_zero i, one_false (inner i 0) (λ y. and_r (ltb 0 i) false y))

row-inner : (j i : ℕ) → count_passing (λ x. inner x (suc j)) i ≡ i - 1
unfolding count_passing
row-inner j zero = refl
row-inner j (suc zero) = refl
row-inner j (suc (suc i)) =
    omega (arith, row-inner j (suc i), one_true (inner (suc i) (suc j)) (inner-is (suc i) (suc j) (omega arith) (omega arith)))

-- the corners of row 0 and the j rows below it
rows_above : (w j : ℕ) → count_passing (by_rank inner w) (suc j * w) ≡ j * (w - 1)
unfolding count_passing
rows_above w zero =
    ap (count_passing (by_rank inner w)) (suc-mul 0 w) ∙ count-row inner w 0 w (le_refl w)
    ∙ omega (arith, ap (count_passing (by_rank inner w)) (zero-mul w), row_zero w)
rows_above w (suc j) =
    ap (count_passing (by_rank inner w)) (suc-mul (suc j) w) ∙ count-row inner w (suc j) w (le_refl w)
    ∙ omega (arith, rows_above w j, row-inner j w)

-- one row fewer
pub less_one : (j s : ℕ) → (suc j - 1) * s ≡ j * s
less_one j s = let e : suc j - 1 ≡ j = omega arith in ap (λ (n : ℕ). n * s) e

-- the number of a corner
pub corner-number : (w i j : ℕ) → i ≤ w → 0 < j → count_before inner w i j ≡ (j - 1) * (w - 1) + (i - 1)
corner-number w i zero l s = absurd (omega arith)
corner-number w i (suc j) l s =
    count-row inner w (suc j) i l ∙ omega (arith, rows_above w j, row-inner j i, less_one j (w - 1))

-- their count
pub corner-total : (rows w : ℕ) → corner_count rows w ≡ (rows - 1) * (w - 1)
unfolding count_passing
corner-total zero w = ap (count_passing (by_rank inner w)) (zero-mul w) ∙ sym (zero-mul (w - 1))
corner-total (suc r) w = rows_above w r ∙ sym (less_one r (w - 1))

-- the corner with a number
pub corner-has : (rows w c : ℕ) → c < (rows - 1) * (w - 1) → Has inner w rows (c % (w - 1) + 1) (c / (w - 1) + 1) c
corner-has rows w c l =
    let s = w - 1 in
    let some : 0 < s = wide s l in
    let column : c % s < s = mod-lt c some in
    let row : c / s < rows - 1 = (div-lt_iff_lt-mul some).1 l in
    record {
      column = omega arith;
      row = omega arith;
      passes = inner-is (c % s + 1) (c / s + 1) (omega arith) (omega arith);
      number =
          corner-number w (c % s + 1) (c / s + 1) (omega arith) (omega arith)
          ∙ ap₂ (λ (a b : ℕ). a * s + b) (add-sub_cancel (c / s) 1) (add-sub_cancel (c % s) 1) ∙ div-add-mod' c s;
    }
  where
    wide : (s : ℕ) → c < (rows - 1) * s → 0 < s
    wide zero l = absurd (omega arith)
    wide (suc s) l = omega arith
