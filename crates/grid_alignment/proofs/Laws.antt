-- The laws of quarter turns: of points, of the corners of a cell, and of the places of a code. Assumes nothing.
use mathlib.Core.Path.{◌≡◌, refl, sym, ap, ap₂, ◌∙◌}
use mathlib.Core.Bool.{Bool, true, false, cond}
use Prim.Native.Nat.{ℕ, zero, suc, ◌+◌, ◌-◌, ◌*◌, ◌/◌, ◌%◌, ◌≤◌, zero-le}
use native.Mathlib.Nat.{mod-mod, suc-mod, suc-add, zero-add, add-mul-mod_self_right, div-add-mod'}
use native.Mathlib.Omega.{arith}
use lib.Signed.{le_z}
use lib.IntN.{ℤ, pos, negsuc, neg_ℤ, neg_ℤ-neg_ℤ, neg_ℤ-+ℤ, ◌+ℤ◌, ◌-ℤ◌, +ℤ_idr}
use borrow.Author.Tests.{le-leb, lt-leb}
use Rattle.integers.specs.Least.{lesser}
use Rattle.integers.proofs.Parts.{plus, minus, ext, add_is, sub_is_parts, plus_neg, minus_neg}
use Rattle.matcher.specs.declared.Place.{Place}
use Rattle.matcher.specs.Codes.{bit, index_of, source}
use Rattle.matcher.proofs.Turns.{Inside, each_turn, index_below, place-index, source-inside, bit-turned}
use Rattle.grid_alignment.specs.declared.Coord.{Coord}
use Rattle.grid_alignment.specs.declared.GridAlignment.{GridAlignment}
use Rattle.grid_alignment.specs.Alignment.{point, sends, moved, applied, corner, meet, lowest_point, corner_alignment}
use Rattle.grid_alignment.specs.Rules.{as_point, TurnsAgree}

-- ---- points
-- turn 0 is the identity
pub sends_none : (p : Coord) → sends 0 p ≡ p
unfolding sends
sends_none p = refl

pub sends_mod : (r : ℕ) (p : Coord) → sends (r % 4) p ≡ sends r p
unfolding sends
sends_mod r p = rw (mod-mod r 4)

-- one more turn
step : (r : ℕ) (p : Coord) → sends (suc r) p ≡ sends 1 (sends r p)
unfolding sends
step r p =
    sym (sends_mod (suc r) p) ∙ ap (λ (m : ℕ). sends m p) (suc-mod r 4) ∙ sends_mod (suc (r % 4)) p
    ∙ each_turn (λ m. sends (suc m) p ≡ sends 1 (sends m p)) refl refl (ap (point (neg_ℤ p.v)) (sym (neg_ℤ-neg_ℤ p.u)))
    (ap (point p.u) (sym (neg_ℤ-neg_ℤ p.v)))
    r
    ∙ ap (sends 1) (sends_mod r p)

-- turning by s and then by r is turning by r + s
pub sends-sends : (r s : ℕ) (p : Coord) → sends r (sends s p) ≡ sends (r + s) p
sends-sends zero s p = sends_none (sends s p) ∙ ap (λ (m : ℕ). sends m p) (sym (zero-add s))
sends-sends (suc r) s p =
    step r (sends s p) ∙ ap (sends 1) (sends-sends r s p) ∙ sym (step (r + s) p) ∙ ap (λ (m : ℕ). sends m p) (sym (suc-add r s))

-- the inverse of a turn
pub sends_back : (r : ℕ) (p : Coord) → sends (4 - r % 4) (sends r p) ≡ p
sends_back r p =
    let whole : (4 - r % 4 + r) % 4 ≡ 0 = omega arith in
    sends-sends (4 - r % 4) r p ∙ sym (sends_mod (4 - r % 4 + r) p) ∙ ap (λ (m : ℕ). sends m p) whole ∙ sends_none p

-- an alignment is injective
pub applied-once : (a : GridAlignment) (p q : Coord) → applied a p ≡ applied a q → p ≡ q
applied-once a p q e =
    let turned : sends a.turn p ≡ sends a.turn q = ap₂ point (unmoved _ _ a.tx (ap (λ (c : Coord). c.u) e)) (unmoved _ _ a.ty (ap (λ (c : Coord). c.v) e)) in
    sym (sends_back a.turn p) ∙ ap (sends (4 - a.turn % 4)) turned ∙ sends_back a.turn q
  where
    unmoved : (x y t : ℤ) → x +ℤ t ≡ y +ℤ t → x ≡ y
    unmoved x y t f = ext x y (omega (arith, add_is x t, add_is y t, ap plus f, ap minus f))

-- a turn is linear
sends-moved : (r : ℕ) (p : Coord) (x y : ℤ) → sends r (moved p x y) ≡ moved (sends r p) (sends r (point x y)).u (sends r (point x y)).v
unfolding sends
sends-moved r p x y =
    rw (mod-mod r 4) at
    (each_turn (λ m. sends m (moved p x y) ≡ moved (sends m p) (sends m (point x y)).u (sends m (point x y)).v) refl
    (ap (point (p.v +ℤ y)) (neg_ℤ-+ℤ p.u x))
    (ap₂ point (neg_ℤ-+ℤ p.u x) (neg_ℤ-+ℤ p.v y))
    (ap (λ (z : ℤ). point z (p.u +ℤ x)) (neg_ℤ-+ℤ p.v y))
    r)

-- ---- the corners of a cell
-- the corners of the unit square
abbrev unit : ℕ → Coord
unit k = corner k (point (pos 0) (pos 0))

corner-is : (k : ℕ) (p : Coord) → corner k p ≡ moved p (unit k).u (unit k).v
unfolding corner
corner-is k p =
    rw (mod-mod k 4) at
    (each_turn (λ m. corner m p ≡ moved p (unit m).u (unit m).v) (ap₂ point (sym (+ℤ_idr p.u)) (sym (+ℤ_idr p.v))) refl refl refl k)

-- r turns map corner k of the unit square to corner k + 3 r of the square at their minimum corner
abbrev Lands : ℕ → ℕ → Type 0
Lands r k = sends r (unit k) ≡ moved (unit (k + 3 * r)) (lowest_point 1 r).u (lowest_point 1 r).v

unit_lands : (r k : ℕ) → Lands r k
unfolding sends corner lowest_point
unit_lands r k =
    let left : (k % 4 + 3 * (r % 4)) % 4 ≡ (k + 3 * r) % 4 =
    sym (add-mul-mod_self_right (k % 4 + 3 * (r % 4)) (k / 4 + 3 * (r / 4)) 4) ∙ ap (λ (m : ℕ). m % 4) (omega (arith, div-add-mod' k 4, div-add-mod' r 4)) in
    rw (mod-mod r 4, mod-mod k 4, left) at
    (each_turn (λ m. (j : ℕ) → Lands m (j % 4)) (each_turn (Lands 0) refl refl refl refl) (each_turn (Lands 1) refl refl refl refl)
    (each_turn (Lands 2) refl refl refl refl)
    (each_turn (Lands 3) refl refl refl refl)
    r
    k)

-- a coordinate: s of the turned cell, t of the translation, and o of the turned corner, which is d past the minimum l
coordinate : (s t l d o : ℤ) → o ≡ d +ℤ l → (s +ℤ o) +ℤ (t -ℤ l) ≡ (s +ℤ t) +ℤ d
coordinate s t l d o e =
    ext ((s +ℤ o) +ℤ (t -ℤ l)) ((s +ℤ t) +ℤ d)
    (omega
    (arith, ap plus e, ap minus e, add_is d l, add_is s o, sub_is_parts t l, add_is (s +ℤ o) (t -ℤ l), add_is s t, add_is (s +ℤ t) d))

-- The corner alignment maps the corners of a cell to those of the square to which the cell alignment maps it:
-- corner k to corner k + 3 r after r turns.
pub corners-land : (a : GridAlignment) (k : ℕ) (p : Coord) → applied (corner_alignment a) (corner k p) ≡ corner (k + 3 * a.turn) (applied a p)
corners-land a k p =
    let r = a.turn in
    let low = lowest_point 1 r in
    let to = unit (k + 3 * r) in
    let lands : Lands r k = unit_lands r k in
    ap (λ (q : Coord). moved q (a.tx -ℤ low.u) (a.ty -ℤ low.v))
    (ap (sends r) (corner-is k p) ∙ sends-moved r p (unit k).u (unit k).v)
    ∙ ap₂ point (coordinate (sends r p).u a.tx low.u to.u (sends r (unit k)).u (λ i. (lands i).u))
    (coordinate (sends r p).v a.ty low.v to.v (sends r (unit k)).v (λ i. (lands i).v))
    ∙ sym (corner-is (k + 3 * r) (applied a p))

-- so the corner of `rotate_gc_top_left` maps to the top left of that square
pub top_left_lands : (a : GridAlignment) (p : Coord) → applied (corner_alignment a) (corner a.turn p) ≡ applied a p
unfolding corner
top_left_lands a p =
    let whole : (a.turn + 3 * a.turn) % 4 ≡ 0 = omega arith in
    corners-land a a.turn p ∙ rw whole

-- ---- the places of a code
same : (b : Bool) (z : ℤ) → cond b z z ≡ z
same true z = refl
same false z = refl

-- the minimum over the corners of a square: where they are 0, 0, z, z, and where they are 0, z, z, 0
along : (z : ℤ) → lesser (lesser (pos 0) (pos 0)) (lesser z z) ≡ lesser (pos 0) z
along z = ap (lesser (pos 0)) (same (le_z z z) z)

around : (z : ℤ) → lesser (lesser (pos 0) z) (lesser z (pos 0)) ≡ lesser (pos 0) z
around (pos zero) = refl
around (pos (suc n)) = rw (le-leb 0 (suc n) zero-le, lt-leb (suc n) 0 (omega arith))
around (negsuc n) = same (le_z (negsuc n) (negsuc n)) (negsuc n)

-- the minimum corner of a turned square is that of two opposite corners
lowest_is : (m r : ℕ) → lowest_point m r ≡ meet (point (pos 0) (pos 0)) (sends r (point (pos m) (pos m)))
unfolding sends lowest_point
lowest_is m r =
    rw (mod-mod r 4) at
    (each_turn (λ t. lowest_point m t ≡ meet (point (pos 0) (pos 0)) (sends t (point (pos m) (pos m)))) (ap₂ point (around (pos m)) (along (pos m)))
    (ap₂ point (along (pos m)) (around (neg_ℤ (pos m))))
    (ap₂ point (around (neg_ℤ (pos m))) (along (neg_ℤ (pos m))))
    (ap₂ point (along (neg_ℤ (pos m))) (around (pos m)))
    r)

-- a coordinate that a turn keeps, and one that it negates
kept : (x m : ℕ) → pos x +ℤ lesser (pos 0) (pos m) ≡ pos x
kept x m = rw (le-leb 0 m zero-le) (+ℤ_idr (pos x))

flipped : (x m : ℕ) → x ≤ m → pos (m - x) +ℤ lesser (pos 0) (neg_ℤ (pos m)) ≡ neg_ℤ (pos x)
unfolding plus minus
flipped x m h =
    ap (◌+ℤ◌ (pos (m - x))) (least_neg m)
    ∙ ext (pos (m - x) +ℤ neg_ℤ (pos m)) (neg_ℤ (pos x))
    (omega
    (arith, add_is (pos (m - x)) (neg_ℤ (pos m)), plus_neg (pos m), minus_neg (pos m), plus_neg (pos x), minus_neg (pos x)))
  where
    least_neg : (k : ℕ) → lesser (pos 0) (neg_ℤ (pos k)) ≡ neg_ℤ (pos k)
    least_neg zero = refl
    least_neg (suc k) = refl

-- the place that a bit of a turned code is read from is the turned place, counted from the minimum corner of the turned square
source-lands : (n r : ℕ) (q : Place) → Inside n q → moved (as_point (source n r q)) (lowest_point (n - 1) r).u (lowest_point (n - 1) r).v ≡ sends r (as_point q)
unfolding sends source
source-lands n r q h =
    ap (λ (l : Coord). moved (as_point (source n r q)) l.u l.v) (lowest_is (n - 1) r)
    ∙ rw (mod-mod r 4) at
    (each_turn
    (λ m. moved (as_point (source n m q)) (lesser (pos 0) (sends m far).u) (lesser (pos 0) (sends m far).v) ≡ sends m (as_point q))
    (ap₂ point (kept q.x (n - 1)) (kept q.y (n - 1)))
    (ap₂ point (kept q.y (n - 1)) (flipped q.x (n - 1) column))
    (ap₂ point (flipped q.x (n - 1) column) (flipped q.y (n - 1) row))
    (ap₂ point (flipped q.y (n - 1) row) (kept q.x (n - 1)))
    r)
  where
    far : Coord
    far = point (pos (n - 1)) (pos (n - 1))

    column : q.x ≤ n - 1
    column = omega (arith, h.column)

    row : q.y ≤ n - 1
    row = omega (arith, h.row)

pub turns_agree : TurnsAgree
turns_agree n r c q x y =
    let h : Inside n q = record { column = x; row = y } in
    let i = source-inside n r q h in
    record {
      from = source n r q;
      column = i.column;
      row = i.row;
      lands = source-lands n r q h;
      same_bit = bit-turned n r c (index_of n q) (index_below n q h) ∙ ap (λ (p : Place). bit c (index_of n (source n r p))) (place-index n q x);
    }
