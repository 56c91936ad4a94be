-- Which squares have markers, for either parity: it depends on the parity of i + j, so of two adjacent squares one does. Assumes nothing.
use mathlib.Core.Path.{◌≡◌, refl, sym, ap, ◌∙◌}
use mathlib.Core.Bool.{Bool, true, false, not, false≢true}
use Prim.Native.Nat.{ℕ, ◌+◌, ◌%◌, ◌<◌}
use native.Mathlib.Omega.{arith}
use lib.Dec.{eqb, eqb→eq}
use borrow.Author.Tests.{eq-eqb, ne_eqb}
use Rattle.board.specs.Layout.{holds_marker}

-- of two different parities one is p
pub opposite : (x y p : ℕ) → x + y ≡ 1 → p < 2 → eqb x p ≡ not (eqb y p)
opposite x y p e bit = go (eqb y p) refl
  where
    go : (t : Bool) → eqb y p ≡ t → eqb x p ≡ not t
    go true is = ne_eqb x p (λ h. absurd (omega (arith, h, e, eqb→eq y p (rw is tt))))
    go false is = let other : y ≡ p → ⊥ = λ h. false≢true (sym is ∙ eq-eqb y p h) in eq-eqb x p (omega (arith, e, bit, other))

module _ (p i j : ℕ) where
  -- squares whose sums have the same parity agree
  pub agree : (x y : ℕ) → (x + y) % 2 ≡ (i + j) % 2 → holds_marker p x y ≡ holds_marker p i j
  agree x y e = ap (λ (n : ℕ). eqb n p) e

  -- the others are opposite
  pub differ : p < 2 → (x y : ℕ) → (x + y) % 2 ≡ (i + j + 1) % 2 → holds_marker p x y ≡ not (holds_marker p i j)
  differ bit x y e = opposite ((x + y) % 2) ((i + j) % 2) p (omega (arith, e)) bit

  pub right_of : p < 2 → holds_marker p (i + 1) j ≡ not (holds_marker p i j)
  right_of bit = differ bit (i + 1) j (omega arith)

  -- a square moved by (a, b) agrees with itself or with its right neighbour, as a + b is even or odd
  pub moved_even : (a b : ℕ) → (a + b) % 2 ≡ 0 → holds_marker p (i + a) (j + b) ≡ holds_marker p i j
  moved_even a b e = agree (i + a) (j + b) (omega (arith, e))

pub moved_odd : (p i j a b : ℕ) → (a + b) % 2 ≡ 1 → holds_marker p (i + a) (j + b) ≡ holds_marker p (i + 1) j
moved_odd p i j a b e = agree p (i + 1) j (i + a) (j + b) (omega (arith, e))
