-- The text of every result fits in the program's 32 KiB buffer.
use Rattle.std.specs.Prelude.{ℕ, ◌^◌, ◌≤◌, ◌<◌, List, length, get_or}
use Rattle.board_match.specs.Match.{match_list}
use Rattle.place_text.specs.Place.{place_text}

abbrev pub Room : Type 0
Room =
    (bytes lent : List ℕ) → ((i : ℕ) → get_or bytes i 0 < 256) → ((k : ℕ) → get_or (match_list bytes lent) k 0 < 2 ^ 32)
    → length (place_text bytes lent) ≤ 32768
