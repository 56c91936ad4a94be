-- Integers and their words: a local of a signed type is its bit pattern and is decoded from it. Assumes nothing.
use mathlib.Core.Path.{◌≡◌, ap, ap₂, sym, ◌∙◌, subst}
use mathlib.Core.Bool.{Bool, cond}
use Prim.Native.Nat.{◌^◌, ◌≤◌, ◌<◌}
use native.Mathlib.Omega.{arith}
use lib.IntN.{ℤ, nat_abs}
use lib.Signed.{le_z, mag}
use mir.Syntax.{Width, w16, w32}
use mir.Val.{SFits, to_z, of_z}
use mir.ValLaws.{to_z-of_z}
use Rattle.integers.proofs.Parts.{small-fits, fits-small}

-- the integer decoded from the word of z, of 32 and of 16 bits
abbrev pub word : ℤ → ℤ
word z = to_z w32 (of_z w32 z)

abbrev pub half : ℤ → ℤ
half z = to_z w16 (of_z w16 z)

-- an integer that fits is decoded from its word
pub read_back : (z : ℤ) → mag z < 2 ^ 31 → word z ≡ z
read_back z h = to_z-of_z w32 z (record { sfits = h })

-- the same for a y that equals z
pub word-is : {y : ℤ} (z : ℤ) → y ≡ z → nat_abs z < 2 ^ 31 → word y ≡ z
word-is z e h = ap word e ∙ to_z-of_z w32 z (small-fits z h)

pub widened : (z : ℤ) → SFits w16 z → word (half z) ≡ z
widened z f = word-is z (to_z-of_z w16 z f) (omega (arith, fits-small z f))

pub widened_fits : (z : ℤ) → SFits w16 z → SFits w32 (half z)
widened_fits z f = subst (SFits w32) (sym (to_z-of_z w16 z f)) (small-fits z (omega (arith, fits-small z f)))

pub widened_small : (z : ℤ) → SFits w16 z → nat_abs (word (half z)) ≤ 2 ^ 15
widened_small z f = rw (widened z f) (fits-small z f)

-- the outcome of a test on the bits chooses z
pub chosen : (w : Width) (x y p q z : ℤ) (t : Bool) → SFits w x → SFits w y → SFits w z → le_z (to_z w (of_z w x)) (to_z w (of_z w y)) ≡ t → z ≡ cond t p q
    → to_z w (of_z w z) ≡ cond (le_z x y) p q
chosen w x y p q z t fx fy fz e is =
    to_z-of_z w z fz ∙ is ∙ ap (λ (b : Bool). cond b p q) (sym e ∙ ap₂ le_z (to_z-of_z w x fx) (to_z-of_z w y fy))
