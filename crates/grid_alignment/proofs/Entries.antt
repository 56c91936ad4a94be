-- The entries of the turns' matrices: their size, the images of points, and the minimum corner of the turned unit square, by which the corners'
-- translation differs from the cells'. Assumes nothing.
use mathlib.Core.Path.{◌≡◌, refl, ap₂}
use Prim.Native.Nat.{ℕ, ◌+◌, ◌*◌, ◌≤◌}
use native.Mathlib.Nat.{mod-mod}
use native.Mathlib.Omega.{arith}
use lib.IntN.{ℤ, pos, negsuc, neg_ℤ, nat_abs, ◌+ℤ◌, ◌*ℤ◌}
use Rattle.std.specs.Int.{int_min}
use Rattle.integers.proofs.Parts.{plus, minus, ext, add_is, mul_is, plus_neg, minus_neg, abs_neg, abs_sub}
use Rattle.integers.proofs.Words.{word}
use Rattle.matcher.proofs.Turns.{by_turn_lem, each_turn}
use Rattle.grid_alignment.specs.declared.Coord.{Coord}
use Rattle.grid_alignment.specs.declared.Matrix.{Matrix}
use Rattle.grid_alignment.specs.declared.GridAlignment.{GridAlignment}
use Rattle.grid_alignment.specs.Alignment.{point, sends, matrix_of, lowest_point, corner_alignment, SmallAlignment}

-- ---- the entries as factors
abbrev pub Small : Matrix → Type 0
Small m =
    ((nat_abs (word m.a) ≤ 1) × (nat_abs (word m.b) ≤ 1))
    × ((nat_abs (word m.c) ≤ 1) × (nat_abs (word m.d) ≤ 1))

pub entries_small : (r : ℕ) → Small (matrix_of r)
unfolding matrix_of
entries_small r = by_turn_lem Small r (omega arith) (omega arith) (omega arith) (omega arith)

-- a x + b y is z
combination : (a b x y z : ℤ) → plus z + (plus a * minus x + minus a * plus x + (plus b * minus y + minus b * plus y))
    ≡ minus z + (plus a * plus x + minus a * minus x + (plus b * plus y + minus b * minus y)) → a *ℤ x +ℤ b *ℤ y ≡ z
combination a b x y z h =
    ext (a *ℤ x +ℤ b *ℤ y) z (omega (arith, mul_is a x, mul_is b y, add_is (a *ℤ x) (b *ℤ y)))

-- the image of a point, from entries each read from a word
abbrev pub combined : Matrix → ℤ → ℤ → Coord
combined m x y =
    point (word m.a *ℤ x +ℤ word m.b *ℤ y) (word m.c *ℤ x +ℤ word m.d *ℤ y)

pub combined_is : (r : ℕ) (x y : ℤ) → combined (matrix_of r) x y ≡ sends r (point x y)
unfolding matrix_of sends plus minus
combined_is r x y =
    rw (mod-mod r 4) at
    (each_turn (λ m. combined (matrix_of m) x y ≡ sends m (point x y))
    (ap₂ point (combination (pos 1) (pos 0) x y x (omega arith)) (combination (pos 0) (pos 1) x y y (omega arith)))
    (ap₂ point (combination (pos 0) (pos 1) x y y (omega arith)) (combination (negsuc 0) (pos 0) x y (neg_ℤ x) (omega (arith, plus_neg x, minus_neg x))))
    (ap₂ point (combination (negsuc 0) (pos 0) x y (neg_ℤ x) (omega (arith, plus_neg x, minus_neg x)))
    (combination (pos 0) (negsuc 0) x y (neg_ℤ y) (omega (arith, plus_neg y, minus_neg y))))
    (ap₂ point (combination (pos 0) (negsuc 0) x y (neg_ℤ y) (omega (arith, plus_neg y, minus_neg y))) (combination (pos 1) (pos 0) x y x (omega arith)))
    r)

-- a turn keeps a bound on the coordinates
pub sends-small : (r n : ℕ) (p : Coord) → nat_abs p.u ≤ n → nat_abs p.v ≤ n → (nat_abs (sends r p).u ≤ n) × (nat_abs (sends r p).v ≤ n)
unfolding sends
sends-small r n p hu hv =
    by_turn_lem (λ (q : Coord). (nat_abs q.u ≤ n) × (nat_abs q.v ≤ n)) r (hu, hv) (hv, rw abs_neg hu) (rw abs_neg hu, rw abs_neg hv) (rw abs_neg hv, hu)

-- ---- the minimum corner of the turned unit square, from the entries
abbrev pub minima : Matrix → Coord
minima m =
    point (word (int_min (word m.a) (pos 0)) +ℤ word (int_min (word m.b) (pos 0)))
    (word (int_min (word m.c) (pos 0)) +ℤ word (int_min (word m.d) (pos 0)))

pub minima_is : (r : ℕ) → minima (matrix_of r) ≡ lowest_point 1 r
unfolding matrix_of sends lowest_point
minima_is r = rw (mod-mod r 4) at (each_turn (λ m. minima (matrix_of m) ≡ lowest_point 1 m) refl refl refl refl r)

pub lowest_small : (r : ℕ) → (nat_abs (lowest_point 1 r).u ≤ 1) × (nat_abs (lowest_point 1 r).v ≤ 1)
unfolding sends lowest_point
lowest_small r =
    rw (mod-mod r 4) at (each_turn (λ m. (nat_abs (lowest_point 1 m).u ≤ 1) × (nat_abs (lowest_point 1 m).v ≤ 1)) (omega arith) (omega arith)
    (omega arith) (omega arith) r)

-- the corners' translation is the cells' or one more
pub small-corners : (n : ℕ) (a : GridAlignment) → SmallAlignment n a → SmallAlignment (n + 1) (corner_alignment a)
small-corners n a h =
    let low = lowest_point 1 a.turn in
    let l = lowest_small a.turn in
    record {
      turn = h.turn;
      tx = omega (arith, h.tx, l.0, abs_sub a.tx low.u);
      ty = omega (arith, h.ty, l.1, abs_sub a.ty low.v);
    }
