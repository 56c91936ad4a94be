-- The values of digits. The laws (proofs/ReadBack.antt): a number can be read back from its digits, an integer from its text.
use Rattle.std.specs.Prelude.{ℕ, ◌+◌, ◌*◌, ◌-◌, cond, List, [], ◌∷◌, ltb}

-- `0` to `9`, and from `A` on
abbrev pub digits_value : ℕ → ℕ
digits_value c = cond (ltb c 58) (c - 48) (c - 55)

-- digits in base b after those of n
unfoldable pub number_after : ℕ → ℕ → List ℕ → ℕ
number_after b n [] = n
number_after b n (c ∷ cs) = number_after b (b * n + digits_value c) cs

abbrev pub read_number : ℕ → List ℕ → ℕ
read_number b cs = number_after b 0 cs
