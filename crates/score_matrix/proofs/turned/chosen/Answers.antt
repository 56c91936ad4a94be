-- `score_matrix::turned::chosen` meets its contract. Assumes nothing.
use mathlib.Core.Path.{◌≡◌, refl, sym, ap, ◌∙◌}
use Prim.Native.Nat.{ℕ, zero, suc, ◌*◌, ◌^◌}
use native.Mathlib.Nat.{zero-mul, pow-succ'}
use native.Mathlib.Numerals.{one-add}
use native.Mathlib.Omega.{arith}
use lib.Bits.{bit_and, and_high}
use lib.Ieee.{Float}
use lib.Pow.{pow_pos}
use Rattle.matcher.specs.Codes.{bit}
use Rattle.score_matrix.specs.Likelihoods.{by_bit}
use Rattle.score_matrix.proofs.turned.chosen.Goals as goal

-- a mask of one bit selects that bit
masked : (a one s : ℕ) → one ≡ 2 ^ s → bit_and a one ≡ bit a s * 2 ^ s
masked a one s e = ap (bit_and a) (omega (arith, e, pow-succ' 2 s, ap (λ (n : ℕ). 2 ^ n) (one-add s))) ∙ and_high a 1 s

clear-is : (b s : ℕ) (clear set : Float) → b * 2 ^ s ≡ 0 → clear ≡ by_bit b clear set
clear-is zero s clear set h = refl
clear-is (suc b) s clear set h = absurd (omega (arith, pow_pos s))

set_is : (b s : ℕ) (clear set : Float) → (b * 2 ^ s ≡ 0 → ⊥) → set ≡ by_bit b clear set
set_is zero s clear set h = absurd (h (zero-mul (2 ^ s)))
set_is (suc b) s clear set h = refl

pub returns-then-half-one-eq0 : goal.returns-then-half-one-eq0
returns-then-half-one-eq0 c s e =
    let a = c.args in
    clear-is (bit a.half s) s a.clear a.set (sym (masked a.half a.one s e) ∙ c.if-half-one-eq0.true)

pub returns-else-half-one-eq0 : goal.returns-else-half-one-eq0
returns-else-half-one-eq0 c s e =
    let a = c.args in
    set_is (bit a.half s) s a.clear a.set (λ z. c.if-half-one-eq0.false (masked a.half a.one s e ∙ z))
