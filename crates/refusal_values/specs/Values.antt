-- The values of a record's error message besides its number, as one line of numbers.
use Rattle.std.specs.Prelude.{ℕ, List, [], ◌∷◌, get_or, Result, Ok, Err}
use Rattle.std.specs.Float.{binary32}
use Rattle.std.specs.Float.Ieee.{to_bits}
use Rattle.refusal.specs.Numbers.{number_of, values_of}
use Rattle.shot_record.specs.Answers.{header_answer}
use Rattle.board_match.specs.Match.{match_answer}
use Rattle.place_text.specs.Numerals.{decimal}
use Rattle.place_text.specs.Text.{line}
use Rattle.board_match.specs.declared.Match.{Match}
use Rattle.refusal.specs.declared.Refusal.{Refusal}
use Rattle.shot_record.specs.declared.Header.{Header}

-- the error number, 0 for a placed record
abbrev pub number_in : Result Match Refusal → ℕ
number_in (Ok m) = 0
number_in (Err r) = number_of r

-- value k of the error, 0 after the last
abbrev pub value_in : Result Match Refusal → ℕ → ℕ
value_in (Ok m) k = 0
value_in (Err r) k = get_or (values_of r) k 0

-- the bit pattern of the minimum margin, 0 for a record that is not well-formed
abbrev pub minimum_in : Result Header Refusal → ℕ
minimum_in (Ok h) = to_bits binary32 h.config.alignment_min_margin
minimum_in (Err r) = 0

unfoldable pub words_line : ℕ → ℕ → ℕ → ℕ → List ℕ
words_line number first second minimum = line (decimal number) (decimal first ∷ decimal second ∷ decimal minimum ∷ [])

-- for a record and the output array of Match
abbrev pub values_line : List ℕ → List ℕ → List ℕ
values_line bytes lent =
    let answer = match_answer bytes lent in
    words_line (number_in answer) (value_in answer 0) (value_in answer 1) (minimum_in (header_answer bytes))
