-- The Hamming distance is the number of set bits of the exclusive or. Assumes nothing.
use mathlib.Core.Path.{◌≡◌, refl, sym, ap, ap₂, ◌∙◌}
use Prim.Native.Nat.{ℕ, zero, suc, ◌+◌, ◌/◌, ◌%◌, ◌^◌, ◌<◌}
use native.Mathlib.Nat.{mod-lt, mod-eq_of_lt, mod-one, mul-add-mod_self_right, add_comm}
use native.Mathlib.Numerals.{one-add}
use native.Mathlib.Omega.{arith}
use lib.Dec.{lit<}
use lib.Pow.{pow_pos, mod-pow-add}
use lib.Bits.{differ, bit_xor, xor_step, xor_shr, xor_lt}
use lib.Count.{ones, ones_cat}
use Rattle.matcher.specs.Codes.{bit, differing}
use Rattle.matcher.proofs.Bits.{bit-small}

differ_small : (x y : ℕ) → x < 2 → y < 2 → differ x y < 2
differ_small zero y h k = k
differ_small (suc x) zero h k = h
differ_small (suc zero) (suc zero) h k = lit< tt
differ_small (suc zero) (suc (suc y)) h k = absurd (omega arith)
differ_small (suc (suc x)) (suc y) h k = absurd (omega arith)

bit_xor_lem : (a b k : ℕ) → bit (bit_xor a b) k ≡ differ (bit a k) (bit b k)
bit_xor_lem a b k =
    let x = a / 2 ^ k in
    let y = b / 2 ^ k in
    ap (λ (m : ℕ). m % 2) (xor_shr a b k ∙ xor_step x y)
    ∙ mul-add-mod_self_right (bit_xor (x / 2) (y / 2)) 2 (differ (x % 2) (y % 2))
    ∙ mod-eq_of_lt (differ_small (x % 2) (y % 2) (bit-small a k) (bit-small b k))

ones_bit : (x : ℕ) → x < 2 → ones x ≡ x
unfolding ones
ones_bit zero h = refl
ones_bit (suc zero) h = refl
ones_bit (suc (suc x)) h = absurd (omega arith)

differing_ones : (a b n : ℕ) → differing n a b ≡ ones (bit_xor a b % 2 ^ n)
unfolding differing ones
differing_ones a b zero = sym (ap ones (mod-one (bit_xor a b)))
differing_ones a b (suc n) =
    let c = bit_xor a b in
    ap₂ (λ (m d : ℕ). m + d) (differing_ones a b n) (sym (bit_xor_lem a b n) ∙ sym (ones_bit (bit c n) (bit-small c n)))
    ∙ add_comm (ones (c % 2 ^ n)) (ones (bit c n))
    ∙ sym (ones_cat n (bit c n) (c % 2 ^ n) (mod-lt c (pow_pos n)))
    ∙ sym (ap ones (rw one-add at (mod-pow-add c 1 n)))

pub differing-is : (a b n : ℕ) → a < 2 ^ n → b < 2 ^ n → ones (bit_xor a b) ≡ differing n a b
differing-is a b n ha hb = sym (differing_ones a b n ∙ ap ones (mod-eq_of_lt (xor_lt n a b ha hb)))
