-- The words that the C functions return for the other entry points.
use Rattle.std.specs.Prelude.{ℕ, zero, suc, cond, not, List, [], ◌∷◌, ◌++◌, ltb, eqb, ℤ, Float, Option, Result, Some, None, Ok, Err}
use Rattle.std.specs.Float.{binary32}
use Rattle.std.specs.Float.Ieee.{to_bits}
use Rattle.std.specs.Int.{w32}
use Rattle.std.proofs.Common.{of_z}
use Rattle.grid_alignment.specs.declared.GridAlignment.{GridAlignment}
use Rattle.ranking.specs.declared.Evidence.{Evidence}
use Rattle.ranking.specs.declared.Evidence.TheVariants as evidence
use Rattle.ranking.specs.declared.Hypothesis.{Hypothesis}
use Rattle.board_match.specs.declared.Match.{Match}
use Rattle.board.specs.declared.CharucoBoardSpec.{CharucoBoardSpec}
use Rattle.charuco.specs.Answers.{Answer, worked, refused, count_word}
use Rattle.refusal.specs.declared.Refusal.{Refusal}

-- Match: the best placement, whether there is a runner-up and which, the margin, the number of placements, the alignment of the corners, the number
-- of markers, and how many cells contribute to the best placement and to the runner-up. An alignment is turn, tx, ty; evidence is whether it is a
-- number, and its bit pattern.
abbrev pub alignment_words : GridAlignment → List ℕ
alignment_words a = a.turn ∷ of_z w32 a.tx ∷ of_z w32 a.ty ∷ []

abbrev pub evidence_words : Evidence → List ℕ
evidence_words (evidence.Number x) = 1 ∷ to_bits binary32 x ∷ []
evidence_words evidence.Absent = 0 ∷ 0 ∷ []

abbrev pub placement_words : Hypothesis → List ℕ
placement_words h = alignment_words h.alignment ++ evidence_words h.evidence

abbrev pub choice_words : Option Hypothesis → List ℕ
choice_words (Some h) = 1 ∷ placement_words h
choice_words None = 0 ∷ 0 ∷ 0 ∷ 0 ∷ 0 ∷ 0 ∷ []

-- without a placement no cell contributes
abbrev pub contributing_to : Option Hypothesis → ℕ
contributing_to (Some h) = h.contributing_cells
contributing_to None = 0

abbrev pub match_words : Match → List ℕ
match_words m =
    placement_words m.best
    ++ choice_words m.runner_up
    ++ (to_bits binary32 m.margin ∷ count_word m.placements ∷ [])
    ++ alignment_words m.corners
    ++ (count_word m.markers ∷ count_word m.best.contributing_cells ∷ count_word (contributing_to m.runner_up) ∷ [])

abbrev pub match_told : Result Match Refusal → Answer
match_told (Ok m) = worked (match_words m)
match_told (Err r) = refused r

-- The corner and link entry points: the board, whose legacy flag is 0 for a current board and every other number for a legacy board,
abbrev pub spec_from : ℕ → ℕ → ℕ → ℕ → ℕ → Float → Float → CharucoBoardSpec
spec_from rows cols bits border legacy size marker =
    record {
      rows = rows;
      cols = cols;
      bits = bits;
      border_bits = border;
      legacy_pattern = not (eqb legacy 0);
      cell_size = size;
      marker_size_rel = marker;
    }

-- and the alignment of the corners, in which a turn above 3 becomes 4, which fails question 18
abbrev pub turn_byte : ℕ → ℕ
turn_byte turn = cond (ltb turn 4) turn 4

abbrev pub alignment_of : ℕ → ℤ → ℤ → GridAlignment
alignment_of turn tx ty = record { turn = turn_byte turn; tx = tx; ty = ty }
