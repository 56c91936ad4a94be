-- The corners of a match.
use Rattle.std.specs.Prelude.{ℕ, ◌<◌, ◌≡◌, List, get_or, Ok}
use Rattle.grid_alignment.specs.Alignment.{corner_alignment, SmallAlignment}
use Rattle.board_match.specs.declared.Match.{Match}
use Rattle.board_match.specs.Match.{match_answer}

-- the corner alignment is that of the best placement, whose turn is 0 to 3 and whose translation is small
pub record CornersAligned (m : Match) : Type 0 where
  pub are : m.corners ≡ corner_alignment m.best.alignment
  pub small : SmallAlignment 4127 m.best.alignment

-- for every placed record
abbrev pub CornersRule : Type 0
CornersRule =
    (bytes lent : List ℕ) → ((i : ℕ) → get_or bytes i 0 < 256) → (m : Match) → match_answer bytes lent ≡ Ok m → CornersAligned m
