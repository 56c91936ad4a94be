-- The four corners of a square: inner corners exactly off the rim, with these numbers. Assumes nothing.
use mathlib.Core.Path.{◌≡◌, refl}
use Prim.Native.Nat.{ℕ, zero, suc, ◌+◌, ◌-◌, ◌*◌, ◌≤◌, ◌<◌}
use native.Mathlib.Omega.{arith}
use lib.Dec.{ltb, ltb→lt}
use lib.Ieee.Fits.{and_l, and_r}
use Rattle.board.specs.Numbering.{number_at, position}
use Rattle.board.specs.Layout.{inner, surrounding, all_four, around}
use Rattle.board.specs.declared.Surrounding.{Surrounding}
use Rattle.board.proofs.Places.{has-number, unnumbered}
use Rattle.board.proofs.Corners.{inner-is, corner-number, less_one}
use Rattle.std.specs.Prelude.{Option, Some, None}

-- an inner corner has its number, and no other corner has one
pub inner-corner : (rows w i j : ℕ) → 0 < i → 0 < j → i < w → j < rows → number_at inner w rows i j ≡ Some ((j - 1) * (w - 1) + (i - 1))
inner-corner rows w i j a b l k =
    has-number inner w rows i j ((j - 1) * (w - 1) + (i - 1))
    (record { column = l; row = k; passes = inner-is i j a b; number = corner-number w i j (omega arith) b })

pub outer_corner : (rows w i j : ℕ) → (0 < i → 0 < j → i < w → j < rows → ⊥) → number_at inner w rows i j ≡ None
outer_corner rows w i j out =
    unnumbered inner w rows i j
    (λ l k y. out (ltb→lt 0 i (and_l (ltb 0 i) (ltb 0 j) y)) (ltb→lt 0 j (and_r (ltb 0 i) (ltb 0 j) y)) l k)

-- square (i, j) does not touch the rim
pub record OffRim (rows cols i j : ℕ) : Type 0 where
  pub left : 0 < i
  pub top : 0 < j
  pub right : suc i < cols
  pub bottom : suc j < rows

next_row : (j s : ℕ) → 0 < j → (suc j - 1) * s ≡ (j - 1) * s + s
next_row zero s h = absurd (omega arith)
next_row (suc j) s h = omega (arith, less_one (suc j) s, less_one j s)

-- the corners around a square, by the number of the top left one and how many are in a row
abbrev pub corners_from : ℕ → ℕ → Surrounding
corners_from a s = surrounding a (a + 1) (a + s + 1) (a + s)

-- off the rim: the number of the top left corner, the next, and the two of the row below
pub off_rim : (rows w i j : ℕ) → OffRim rows w i j
    → around rows w (Some (position i j)) ≡ Some (corners_from ((j - 1) * (w - 1) + (i - 1)) (w - 1))
off_rim rows w i j o =
    let a = (j - 1) * (w - 1) + (i - 1) in
    let down = next_row j (w - 1) o.top in
    let top_right : (j - 1) * (w - 1) + (suc i - 1) ≡ a + 1 = omega (arith, o.left) in
    let bottom_right : (suc j - 1) * (w - 1) + (suc i - 1) ≡ a + (w - 1) + 1 = omega (arith, o.left) in
    let bottom_left : (suc j - 1) * (w - 1) + (i - 1) ≡ a + (w - 1) = omega arith in
    rw (
      inner-corner rows w i j o.left o.top (omega (arith, o.right)) (omega (arith, o.bottom)),
      inner-corner rows w (suc i) j (omega arith) o.top o.right (omega (arith, o.bottom)),
      inner-corner rows w (suc i) (suc j) (omega arith) (omega arith) o.right o.bottom,
      inner-corner rows w i (suc j) o.left (omega arith) (omega (arith, o.right)) o.bottom,
      top_right,
      bottom_right,
      bottom_left,
    )

-- on the rim one corner has no number
second : (a c d : Option ℕ) → all_four a None c d ≡ None
second (Some n) c d = refl
second None c d = refl

third : (a b d : Option ℕ) → all_four a b None d ≡ None
third (Some n) (Some m) d = refl
third (Some n) None d = refl
third None b d = refl

module _ (rows w i j : ℕ) where
  abbrev corner : ℕ → ℕ → Option ℕ
  corner = number_at inner w rows

  pub rim_left : i ≤ 0 → around rows w (Some (position i j)) ≡ None
  rim_left h = rw (outer_corner rows w i j (λ a b l k. omega arith))

  pub rim_top : j ≤ 0 → around rows w (Some (position i j)) ≡ None
  rim_top h = rw (outer_corner rows w i j (λ a b l k. omega arith))

  pub rim_right : w ≤ suc i → around rows w (Some (position i j)) ≡ None
  rim_right h = rw (outer_corner rows w (suc i) j (λ a b l k. omega arith)) (second (corner i j) (corner (suc i) (suc j)) (corner i (suc j)))

  pub rim_bottom : rows ≤ suc j → around rows w (Some (position i j)) ≡ None
  rim_bottom h = rw (outer_corner rows w (suc i) (suc j) (λ a b l k. omega arith)) (third (corner i j) (corner (suc i) j) (corner i (suc j)))
