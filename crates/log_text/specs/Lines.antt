-- Document 02, 2.9: the lines of an entry, as bytes.
use Rattle.std.specs.Prelude.{ℕ, ◌+◌, ◌-◌, cond, List, [], ◌∷◌, ◌++◌, leb, ltb, Option, Result, Some, None}
use Rattle.shot_record.specs.Shots.{parse}
use Rattle.board_match.specs.Match.{matched_shot}
use Rattle.place_text.specs.Numerals.{decimal}
use Rattle.place_text.specs.Text.{line, the_refused, answer_line}
use Rattle.board_match.specs.declared.Match.{Match}
use Rattle.refusal.specs.declared.Refusal.{Refusal}

-- `gap`
abbrev pub the_gap : List ℕ
the_gap = 103 ∷ 97 ∷ 112 ∷ []

-- `backward`
abbrev pub the_backward : List ℕ
the_backward = 98 ∷ 97 ∷ 99 ∷ 107 ∷ 119 ∷ 97 ∷ 114 ∷ 100 ∷ []

-- `entry`
abbrev pub the_entry : List ℕ
the_entry = 101 ∷ 110 ∷ 116 ∷ 114 ∷ 121 ∷ []

-- "It prints a gap line with first and last missing number when the number rises by more than one, and a backward line when it does not rise."
abbrev pub step_line : ℕ → ℕ → List ℕ
step_line h n = cond (leb n h) (line the_backward []) (cond (ltb (h + 1) n) (line the_gap (decimal (h + 1) ∷ decimal (n - 1) ∷ [])) [])

-- "The first entry has neither line."
abbrev pub order_line : Option ℕ → ℕ → List ℕ
order_line None n = []
order_line (Some h) n = step_line h n

-- "`entry` with its number, then on that line `place`'s best or refused line"
abbrev pub entry_line : ℕ → Result Match Refusal → List ℕ
entry_line n answer = the_entry ++ (32 ∷ (decimal n ++ (32 ∷ answer_line answer)))

-- The result of Match with an output array that has 18 words for each of 256 cells, as in `place`.
abbrev pub shot_answer : List ℕ → Result Match Refusal
shot_answer shot = matched_shot (parse shot) 4608

-- "Either line comes before the entry's own." "The lines for any entry depend only on that entry and the highest number before it."
unfoldable pub entry_lines : Option ℕ → ℕ → List ℕ → List ℕ
entry_lines h n shot = order_line h n ++ entry_line n (shot_answer shot)

-- "26: the last entry is cut off; printed as `refused 26` and the count of bytes from that entry's first"
abbrev pub cut_line : ℕ → List ℕ
cut_line count = line the_refused (decimal 26 ∷ decimal count ∷ [])
