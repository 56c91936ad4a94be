-- Document 01, "What takes another shape": the turns of grid points agree with those of codes.
use Rattle.std.specs.Prelude.{◌≡◌, ℕ, ◌-◌, ◌<◌, pos}
use Rattle.matcher.specs.declared.Place.{Place}
use Rattle.matcher.specs.Codes.{bit, index_of, turned}
use Rattle.grid_alignment.specs.declared.Coord.{Coord}
use Rattle.grid_alignment.specs.Alignment.{point, sends, moved, lowest_point}

-- a place of a code as a grid point: column u, row v
abbrev pub as_point : Place → Coord
as_point q = point (pos q.x) (pos q.y)

-- Bit q of the code turned by r is the bit of the code at the place to which the table's turn r maps q. As the turn is about
-- (0, 0), that place counts from the minimum corner of the turned square.
pub record Agreed (n r c : ℕ) (q : Place) : Type 0 where
  pub from : Place
  pub column : from.x < n
  pub row : from.y < n
  pub lands : moved (as_point from) (lowest_point (n - 1) r).u (lowest_point (n - 1) r).v ≡ sends r (as_point q)
  pub same_bit : bit (turned n r c) (index_of n q) ≡ bit c (index_of n from)

abbrev pub TurnsAgree : Type 0
TurnsAgree = (n r c : ℕ) (q : Place) → q.x < n → q.y < n → Agreed n r c q
