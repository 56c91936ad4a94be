-- `quarters`: the bits of the top left quarter of a code after 0, 1, 2 and 3 quarter turns, concatenated. A quarter turn of the code rotates this
-- number by one quarter.
use Rattle.std.specs.Prelude.{◌≡◌, ℕ, ◌+◌, ◌*◌, ◌/◌, ◌%◌, ◌^◌, ◌<◌, min, List, get_or}
use Rattle.matcher.specs.Codes.{bit, from_bits, bit_place, index_of, source, turned}

-- the number of columns, and of rows, of a quarter, with the middle ones if the side is odd; and of its bits
abbrev pub half : ℕ → ℕ
half n = (n + 1) / 2

abbrev pub quarter : ℕ → ℕ
quarter n = half n * half n

-- the bit of the code that bit k of its quarters is
unfoldable pub quarter_source : ℕ → ℕ → ℕ
quarter_source n k = index_of n (source n (k / quarter n) (bit_place (half n) (k % quarter n)))

abbrev pub quarters : ℕ → ℕ → ℕ
quarters n code = from_bits (λ (k : ℕ). bit code (quarter_source n k)) (4 * quarter n)

-- w of 4 m bits, rotated right by m bits
abbrev pub moved_on : ℕ → ℕ → ℕ
moved_on m w = w / 2 ^ m + w % 2 ^ m * 2 ^ (3 * m)

-- canonical representative (key) of a code under rotation: the least over the four turns
abbrev pub least_turn : ℕ → ℕ → ℕ
least_turn n code =
    let after : ℕ → ℕ = λ r. quarters n (turned n r code) in
    min (min (after 0) (after 1)) (min (after 2) (after 3))

-- l holds the sources of the bits below n
abbrev pub QuarterSources : ℕ → ℕ → List ℕ → Type 0
QuarterSources bits n l = (k : ℕ) → k < n → get_or l k 0 ≡ quarter_source bits k

-- l holds the canonical keys of the first n codes
abbrev pub HasLeast : ℕ → List ℕ → ℕ → List ℕ → Type 0
HasLeast bits codes n l = (k : ℕ) → k < n → get_or l k 0 ≡ least_turn bits (get_or codes k 0)
