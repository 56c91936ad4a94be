-- Row-major numbers, from 0, of the places of a grid that pass a test: squares that have markers, corners that are inner.
use Rattle.std.specs.Prelude.{ℕ, zero, suc, ◌+◌, ◌*◌, ◌/◌, ◌%◌, Bool, true, false, cond, ◌&&◌, ℤ, pos, negsuc, ltb, eqb, Option, Some, None}
use Rattle.board.specs.declared.Position.{Position}

abbrev pub as_one : Bool → ℕ
as_one true = 1
as_one false = 0

-- the number of 0 to n − 1 that pass
unfoldable pub count_passing : (ℕ → Bool) → ℕ → ℕ
count_passing q zero = 0
count_passing q (suc n) = count_passing q n + as_one (q n)

-- A test of places (i, j) as a test of their rank (row-major index): in a grid w wide, rank k is column k % w of row k / w.
abbrev pub by_rank : (ℕ → ℕ → Bool) → ℕ → ℕ → Bool
by_rank t w k = t (k % w) (k / w)

-- the number of places that pass before (i, j), and in h rows
abbrev pub count_before : (ℕ → ℕ → Bool) → ℕ → ℕ → ℕ → ℕ
count_before t w i j = count_passing (by_rank t w) (j * w + i)

abbrev pub total : (ℕ → ℕ → Bool) → ℕ → ℕ → ℕ
total t w h = count_passing (by_rank t w) (h * w)

-- the number of a place: none off the grid or if the test fails
abbrev pub number_if : Bool → ℕ → Option ℕ
number_if true n = Some n
number_if false n = None

unfoldable pub number_at : (ℕ → ℕ → Bool) → ℕ → ℕ → ℕ → ℕ → Option ℕ
unfolding count_passing
number_at t w h i j = number_if (ltb i w && (ltb j h && t i j)) (count_before t w i j)

-- the same at any two integers
unfoldable pub number_atℤ : (ℕ → ℕ → Bool) → ℕ → ℕ → ℤ → ℤ → Option ℕ
number_atℤ t w h (pos i) (pos j) = number_at t w h i j
number_atℤ t w h (pos i) (negsuc j) = None
number_atℤ t w h (negsuc i) j = None

-- a coordinate as a place from 0 to n, where n means off the grid
unfoldable pub clipped : ℕ → ℤ → ℕ
clipped n (pos k) = cond (ltb k n) k n
clipped n (negsuc k) = n

abbrev pub position : ℕ → ℕ → Position
position i j = record { i = i; j = j }

-- the place with number m: the one among the first n ranks that passes with m before it
abbrev pub located_if : Bool → ℕ → ℕ → Option Position → Option Position
located_if true w k other = Some (position (k % w) (k / w))
located_if false w k other = other

unfoldable pub search : (ℕ → ℕ → Bool) → ℕ → ℕ → ℕ → Option Position
unfolding count_passing
search t w m zero = None
search t w m (suc k) = located_if (by_rank t w k && eqb (count_passing (by_rank t w) k) m) w k (search t w m k)

abbrev pub place_numbered : (ℕ → ℕ → Bool) → ℕ → ℕ → ℕ → Option Position
place_numbered t w h m = search t w m (h * w)
