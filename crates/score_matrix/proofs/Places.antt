-- The indices of a code's bits in a cell's grid. Assumes nothing.
use mathlib.Core.Path.{◌≡◌, ap, ap₂, sym, subst, ◌∙◌}
use Prim.Native.Nat.{ℕ, ◌+◌, ◌*◌, ◌≤◌, ◌<◌}
use native.Mathlib.Nat.{mul-le-mul, mul-le-mul_right, div-add-mod', zero-mod, zero-div}
use native.Mathlib.Omega.{arith}
use lib.ListN.{get_or}
use Rattle.matcher.specs.declared.Place.{Place}
use Rattle.matcher.specs.Codes.{bit_place, index_of}
use Rattle.matcher.proofs.Turns.{Inside, place_inside, place-index}
use Rattle.score_matrix.specs.Scores.{Samples, side, grid_index, grey}

-- a code has at most 64 bits
pub area : (bits : ℕ) → bits ≤ 8 → bits * bits ≤ 64
area bits h = mul-le-mul {n₂ = 8} {m₂ = 8} h h

-- p is the place of bit k of a code whose side is at most 8
pub record Here (bits k : ℕ) (p : Place) : Type 0 where
  pub side : 0 < bits
  pub small : k < 64
  pub inside : Inside bits p

pub here : (bits k : ℕ) (p : Place) → bits ≤ 8 → k < bits * bits → p ≡ bit_place bits k → Here bits k p
here bits k p b h e =
    let inside = subst (Inside bits) (sym e) (place_inside bits k h) in
    record { side = omega (arith, inside.column); small = omega (arith, area bits b); inside = inside }

-- a place of a code is in the grid
pub index-inside : (bits border : ℕ) (p : Place) → Inside bits p → grid_index bits border p < side bits border * side bits border
index-inside bits border p h =
    let l : border + p.y + 1 ≤ side bits border = omega (arith, h.row) in
    omega (arith, mul-le-mul_right (side bits border) l, h.column)

-- the byte there is the grey of that bit
pub read_grey : (s : Samples) (k i : ℕ) (p : Place) → i ≡ grid_index s.bits s.border p → p ≡ bit_place s.bits k → get_or s.grid i 0 ≡ grey s k
read_grey s k i p a b = ap (λ (j : ℕ). get_or s.grid j 0) (a ∙ ap (grid_index s.bits s.border) b)

-- the first bit
pub first-place : (bits : ℕ) → record { x = 0; y = 0 } ≡ bit_place bits 0
first-place bits = ap₂ (λ (a b : ℕ). record { x = a; y = b }) (sym (zero-mod bits)) (sym (zero-div bits))

-- the bit after the one at p (row-major)
module _ (bits k : ℕ) (p : Place) (h : p.x < bits) (e : p ≡ bit_place bits k) where
  after : k + 1 ≡ p.y * bits + (p.x + 1)
  after =
      let rank : k ≡ index_of bits p = sym (div-add-mod' k bits) ∙ sym (ap (index_of bits) e) in
      omega (arith, rank)

  next : (q : Place) → q.x < bits → index_of bits q ≡ p.y * bits + (p.x + 1) → q ≡ bit_place bits (k + 1)
  next q l f = sym (place-index bits q l) ∙ ap (bit_place bits) (f ∙ sym after)

  pub next_column : p.x + 1 < bits → record { x = p.x + 1; y = p.y } ≡ bit_place bits (k + 1)
  next_column l = next (record { x = p.x + 1; y = p.y }) l (omega arith)

  pub next_row : bits ≤ p.x + 1 → record { x = 0; y = p.y + 1 } ≡ bit_place bits (k + 1)
  next_row l =
      let all : bits ≡ p.x + 1 = omega arith in
      next (record { x = 0; y = p.y + 1 }) (omega arith) (omega (arith, all))
