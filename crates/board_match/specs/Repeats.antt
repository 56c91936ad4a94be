-- Consequences of question 23: a placement puts no two cells on one square, and no marker is emitted twice.
use Rattle.std.specs.Prelude.{ℕ, ◌<◌, ◌≡◌, List, get_or, Ok}
use Rattle.std.proofs.Math.Option.{none}
use Rattle.sorting.specs.Order.{AllDifferent}
use Rattle.grid_alignment.specs.declared.GridAlignment.{GridAlignment}
use Rattle.grid_alignment.specs.Alignment.{applied}
use Rattle.shot_record.specs.Shots.{Shot}
use Rattle.hypothesis.specs.Placements.{cell_total, cell_point}
use Rattle.emit.specs.Markers.{id_in}
use Rattle.board_match.specs.declared.Match.{Match}
use Rattle.board_match.specs.Questions.{asked_before15}
use Rattle.board_match.specs.Match.{match_answer, match_list}

-- for a shot that passes: under every turn and translation, two cells are on two squares
abbrev pub SquaresRule : Type 0
SquaresRule = (s : Shot) (words : ℕ) → asked_before15 s words ≡ none → (p : GridAlignment) (i j : ℕ) → i < j → j < cell_total s
    → applied p (cell_point s i) ≡ applied p (cell_point s j) → ⊥

-- for every placed record: the ids of its markers, in the output array at exit, are distinct
abbrev pub IdsRule : Type 0
IdsRule = (bytes lent : List ℕ) → ((i : ℕ) → get_or bytes i 0 < 256) → (m : Match) → match_answer bytes lent ≡ Ok m
    → AllDifferent m.markers (id_in (match_list bytes lent))
