-- Document 01, "The program `place`": what it prints for a record.
use Rattle.std.specs.Prelude.{ℕ, List}
use Rattle.board_match.specs.Match.{match_answer, match_list}
use Rattle.place_text.specs.Text.{text_of}

-- the text of the result, with the markers from the words in the output array of Match
abbrev pub place_text : List ℕ → List ℕ → List ℕ
place_text bytes lent = text_of (match_answer bytes lent) (match_list bytes lent)
