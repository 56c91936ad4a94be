-- What the bits of a code add to the scores of eight cells, side by side: row 2 k + b has in column x what bit k adds to the score of cell x where it
-- is b.
use Rattle.std.specs.Prelude.{◌≡◌, List, ℕ, ◌+◌, ◌*◌, ◌<◌, get_or, Float}
use Rattle.std.specs.Float.{nan}
use Rattle.floats.specs.Units.{sum_to}
use Rattle.matcher.specs.Codes.{bit, source_bit}

-- what a row has for a cell
abbrev pub in_row : List Float → ℕ → ℕ → Float
in_row rows x row = get_or rows (8 * row + x) nan

-- A list has what the bits below n of a code add, by f: where a bit is 0 and where it is 1.
abbrev pub Adds : (ℕ → ℕ → Float) → ℕ → List Float → Type 0
Adds f n l = (k b : ℕ) → k < n → b < 2 → get_or l (2 * k + b) nan ≡ f k b

-- column x has, for the bits below n, what they add by f: where a bit is 0 and where it is 1
abbrev pub Column : (ℕ → ℕ → Float) → ℕ → List Float → ℕ → Type 0
Column f n rows x = (k b : ℕ) → k < n → b < 2 → in_row rows x (2 * k + b) ≡ f k b

-- l has for each of the four turns, 64 elements apart, which bit of a code each bit below n of the turned code is
abbrev pub FourSources : ℕ → ℕ → List ℕ → Type 0
FourSources bits n l = (r k : ℕ) → r < 4 → k < n → get_or l (64 * r + k) 0 ≡ source_bit bits r k

-- what bit k of a code adds to the score of cell x after turn r, and the sum over all bits, in document 01's order
abbrev pub picked_row : List Float → List ℕ → ℕ → ℕ → ℕ → ℕ → Float
picked_row rows sources code x r k = in_row rows x (2 * k + bit code (get_or sources (64 * r + k) 0))

abbrev pub row_score : List Float → List ℕ → ℕ → ℕ → ℕ → ℕ → Float
row_score rows sources bits code x r = sum_to (picked_row rows sources code x r) (bits * bits)
