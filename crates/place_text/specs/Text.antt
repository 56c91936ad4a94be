-- Document 01, "The program `place`": the text of a result, as bytes. A line is words separated by one space, and a line feed.
use Rattle.std.specs.Prelude.{ℕ, ◌+◌, ◌*◌, cond, List, [], ◌∷◌, ◌++◌, eqb, get_or, Float, Option, Result, Some, None, Ok, Err}
use Rattle.std.specs.Float.{binary32}
use Rattle.std.specs.Float.Ieee.{to_bits}
use Rattle.lent_list.specs.Front.{up_to}
use Rattle.refusal.specs.declared.Refusal.{Refusal}
use Rattle.refusal.specs.Numbers.{number_of, values_of}
use Rattle.grid_alignment.specs.declared.GridAlignment.{GridAlignment}
use Rattle.ranking.specs.declared.Evidence.{Evidence}
use Rattle.ranking.specs.declared.Evidence.TheVariants as evidence
use Rattle.ranking.specs.declared.Hypothesis.{Hypothesis}
use Rattle.board_match.specs.declared.Match.{Match}
use Rattle.place_text.specs.Numerals.{hex8, decimal, signed_decimal, signed_word}

-- `placed`
abbrev pub the_placed : List ℕ
the_placed = 112 ∷ 108 ∷ 97 ∷ 99 ∷ 101 ∷ 100 ∷ []

-- `best`
abbrev pub the_best : List ℕ
the_best = 98 ∷ 101 ∷ 115 ∷ 116 ∷ []

-- `next`
abbrev pub the_next : List ℕ
the_next = 110 ∷ 101 ∷ 120 ∷ 116 ∷ []

-- `margin`
abbrev pub the_margin : List ℕ
the_margin = 109 ∷ 97 ∷ 114 ∷ 103 ∷ 105 ∷ 110 ∷ []

-- `placements`
abbrev pub the_placements : List ℕ
the_placements = 112 ∷ 108 ∷ 97 ∷ 99 ∷ 101 ∷ 109 ∷ 101 ∷ 110 ∷ 116 ∷ 115 ∷ []

-- `corners`
abbrev pub the_corners : List ℕ
the_corners = 99 ∷ 111 ∷ 114 ∷ 110 ∷ 101 ∷ 114 ∷ 115 ∷ []

-- `marker`
abbrev pub the_marker : List ℕ
the_marker = 109 ∷ 97 ∷ 114 ∷ 107 ∷ 101 ∷ 114 ∷ []

-- `none`
abbrev pub the_none : List ℕ
the_none = 110 ∷ 111 ∷ 110 ∷ 101 ∷ []

-- `absent`
abbrev pub the_absent : List ℕ
the_absent = 97 ∷ 98 ∷ 115 ∷ 101 ∷ 110 ∷ 116 ∷ []

-- `refused`
abbrev pub the_refused : List ℕ
the_refused = 114 ∷ 101 ∷ 102 ∷ 117 ∷ 115 ∷ 101 ∷ 100 ∷ []

-- a word and those after it, each preceded by a space; a line feed ends them
abbrev pub and_words : List (List ℕ) → List ℕ
and_words [] = 10 ∷ []
and_words (w ∷ ws) = 32 ∷ (w ++ and_words ws)

abbrev pub line : List ℕ → List (List ℕ) → List ℕ
line first others = first ++ and_words others

abbrev pub float_word : Float → List ℕ
float_word x = hex8 (to_bits binary32 x)

-- the evidence's bit pattern or `none`
abbrev pub evidence_word : Evidence → List ℕ
evidence_word (evidence.Number x) = float_word x
evidence_word evidence.Absent = the_none

-- best and next: turn, tx, ty, evidence, and the number of contributing cells (document 02, 2.5)
abbrev pub hypothesis_line : List ℕ → Hypothesis → List ℕ
hypothesis_line first h =
    line first
    (decimal h.alignment.turn
    ∷ signed_decimal h.alignment.tx
    ∷ signed_decimal h.alignment.ty
    ∷ evidence_word h.evidence
    ∷ decimal h.contributing_cells
    ∷ [])

-- `next absent` without a runner-up
abbrev pub next_line : Option Hypothesis → List ℕ
next_line (Some h) = hypothesis_line the_next h
next_line None = line the_next (the_absent ∷ [])

-- corners: turn and corner translation
abbrev pub corners_line : GridAlignment → List ℕ
corners_line a = line the_corners (decimal a.turn ∷ signed_decimal a.tx ∷ signed_decimal a.ty ∷ [])

-- A marker has 18 words of the array, of which the first nine are printed; a word past the array counts as 0.
abbrev pub word_of : List ℕ → ℕ → ℕ → ℕ
word_of words k w = get_or words (18 * k + w) 0

-- the reading of a marker's cell: Hamming distance, code (its high word first), quotient
unfoldable pub reading : List ℕ → ℕ → List (List ℕ)
reading words k =
    decimal (word_of words k 5) ∷ (hex8 (word_of words k 7) ++ hex8 (word_of words k 6)) ∷ hex8 (word_of words k 8) ∷ []

-- marker: cell, id, u, v, turn, Hamming distance, code, quotient
unfoldable pub marker_line : List ℕ → ℕ → List ℕ
marker_line words k =
    line the_marker
    (decimal (word_of words k 0)
    ∷ decimal (word_of words k 1)
    ∷ signed_word (word_of words k 2)
    ∷ signed_word (word_of words k 3)
    ∷ decimal (word_of words k 4)
    ∷ reading words k)

-- the lines of the first k markers
abbrev pub marker_lines : List ℕ → ℕ → List ℕ
marker_lines words k = up_to (marker_line words) k

unfoldable pub match_lines : Match → List ℕ → List ℕ
match_lines m words =
    line the_placed []
    ++ (hypothesis_line the_best m.best
    ++ (next_line m.runner_up
    ++ (line the_margin (float_word m.margin ∷ [])
    ++ (line the_placements (decimal m.placements ∷ [])
    ++ (corners_line m.corners
    ++ marker_lines words m.markers)))))

-- `refused` and the error number, after 16 also the margin's bit pattern
unfoldable pub refusal_line : Refusal → List ℕ
refusal_line r =
    line the_refused (decimal (number_of r) ∷ cond (eqb (number_of r) 16) (hex8 (get_or (values_of r) 0 0) ∷ []) [])

-- the line of a result in the text of a log (document 02, 2.9): "`place`'s best or refused line"
abbrev pub answer_line : Result Match Refusal → List ℕ
answer_line (Ok m) = hypothesis_line the_best m.best
answer_line (Err r) = refusal_line r

-- the text of a result and the markers' words
abbrev pub text_of : Result Match Refusal → List ℕ → List ℕ
text_of (Ok m) words = match_lines m words
text_of (Err r) words = refusal_line r
