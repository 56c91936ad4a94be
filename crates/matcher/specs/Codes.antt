-- Document 01, Codes. A code of side n is a number whose bit y × n + x is at column x and row y (row-major).
use Rattle.std.specs.Prelude.{ℕ, zero, suc, ◌+◌, ◌-◌, ◌*◌, ◌/◌, ◌%◌, ◌^◌, cond, leb}
use Rattle.std.specs.Int.Bits.{differ}
use Rattle.matcher.specs.declared.Place.{Place}

-- bit k of a number
abbrev pub bit : ℕ → ℕ → ℕ
bit code k = code / 2 ^ k % 2

-- the number whose bits 0 to n − 1 are f 0 to f (n − 1)
unfoldable pub from_bits : (ℕ → ℕ) → ℕ → ℕ
from_bits f zero = 0
from_bits f (suc k) = from_bits f k + f k * 2 ^ k

-- column and row of bit k of a code of side n, and back (row-major)
abbrev pub bit_place : ℕ → ℕ → Place
bit_place n k = record { x = k % n; y = k / n }

abbrev pub index_of : ℕ → Place → ℕ
index_of n p = p.y * n + p.x

-- one of four by the number of quarter turns modulo 4; a turn r is a rotation by 90° × r
abbrev pub from_four : {A : Type 0} → ℕ → A → A → A → A → A
from_four zero a b c d = a
from_four (suc zero) a b c d = b
from_four (suc (suc zero)) a b c d = c
from_four (suc (suc (suc r))) a b c d = d

abbrev pub by_turn : {A : Type 0} → ℕ → A → A → A → A → A
by_turn turns a b c d = from_four (turns % 4) a b c d

-- Document 01's (sx, sy): where the bit at a place of the turned code is read from.
unfoldable pub source : ℕ → ℕ → Place → Place
source n turns p =
    by_turn turns p (record { x = p.y; y = n - 1 - p.x }) (record { x = n - 1 - p.x; y = n - 1 - p.y }) (record { x = n - 1 - p.y; y = p.x })

-- the same on bit numbers
abbrev pub source_bit : ℕ → ℕ → ℕ → ℕ
source_bit n turns k = index_of n (source n turns (bit_place n k))

-- bit k of the turned code, and the code of side n rotated by 90° × `turns`
abbrev pub turned_bit : ℕ → ℕ → ℕ → ℕ → ℕ
turned_bit n turns code k = bit code (source_bit n turns k)

abbrev pub turned : ℕ → ℕ → ℕ → ℕ
turned n turns code = from_bits (turned_bit n turns code) (n * n)

-- the same in a word of 64 bits, which sides above 8 do not fit
abbrev pub turned_word : ℕ → ℕ → ℕ → ℕ
turned_word n turns code = cond (leb n 8) (turned n turns code) 0

-- the Hamming distance of two codes over the bits 0 to n − 1
unfoldable pub differing : ℕ → ℕ → ℕ → ℕ
differing zero a b = 0
differing (suc n) a b = differing n a b + differ (bit a n) (bit b n)
