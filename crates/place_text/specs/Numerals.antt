-- Document 01, "Codes and float bits are hexadecimal, other numbers decimal": numbers as the bytes of their digits.
use Rattle.std.specs.Prelude.{ℕ, zero, suc, ◌+◌, ◌-◌, ◌/◌, ◌%◌, cond, List, [], ◌∷◌, ◌++◌, ltb, ℤ, pos, negsuc}

-- `0` to `9`, then `A` to `F`
abbrev pub digit : ℕ → ℕ
digit d = cond (ltb d 10) (48 + d) (55 + d)

-- the two digits of a byte; a longer number has those of its high half, then those of its low half
unfoldable pub hex2 : ℕ → List ℕ
hex2 n = digit (n / 16) ∷ digit (n % 16) ∷ []

unfoldable pub hex4 : ℕ → List ℕ
hex4 n = hex2 (n / 256) ++ hex2 (n % 256)

unfoldable pub hex8 : ℕ → List ℕ
hex8 n = hex4 (n / 65536) ++ hex4 (n % 65536)

-- the digits of n without leading zeros, if n is at most k, which bounds the steps
unfoldable pub decimal_in : ℕ → ℕ → List ℕ
decimal_in zero n = digit n ∷ []
decimal_in (suc k) n = let longer = decimal_in k (n / 10) ++ (digit (n % 10) ∷ []) in cond (ltb n 10) (digit n ∷ []) longer

abbrev pub decimal : ℕ → List ℕ
decimal n = decimal_in n n

-- an integer, with a minus sign if it is negative
abbrev pub signed_decimal : ℤ → List ℕ
signed_decimal (pos n) = decimal n
signed_decimal (negsuc n) = 45 ∷ decimal (suc n)

-- a 32-bit word as a two's complement integer: from 2³¹ on it is the word minus 2³²
abbrev pub signed_word : ℕ → List ℕ
signed_word n = cond (ltb n 2147483648) (decimal n) (45 ∷ decimal (4294967296 - n))
