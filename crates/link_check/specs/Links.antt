-- Document 01, Links: the input links, and which of them repeat an earlier one.
use Rattle.std.specs.Prelude.{ℕ, ◌+◌, ◌*◌, ◌/◌, Bool, not, ◌&&◌, List, eqb, length, get_or}
use Rattle.integers.specs.Tests.{any_below}

-- two words a link; an odd last word is no link
abbrev pub link_count : List ℕ → ℕ
link_count links = length links / 2

abbrev pub link_marker : List ℕ → ℕ → ℕ
link_marker links k = get_or links (2 * k) 0

abbrev pub link_corner : List ℕ → ℕ → ℕ
link_corner links k = get_or links (2 * k + 1) 0

-- link j has the marker, and the corner
abbrev pub names : List ℕ → ℕ → ℕ → Bool
names links m j = eqb (link_marker links j) m

abbrev pub reports : List ℕ → ℕ → ℕ → ℕ → Bool
reports links m c j = names links m j && eqb (link_corner links j) c

-- link k repeats an earlier one
abbrev pub repeated : List ℕ → ℕ → Bool
repeated links k = any_below (reports links (link_marker links k) (link_corner links k)) k

-- link k is the first of its marker
abbrev pub first : List ℕ → ℕ → Bool
first links k = not (any_below (names links (link_marker links k)) k)

-- the first n links report the marker's corner
abbrev pub is_reported : List ℕ → ℕ → ℕ → ℕ → Bool
is_reported links n m c = any_below (reports links m c) n
