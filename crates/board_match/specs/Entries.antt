-- Questions 12 and 13 of one cell, from its entry in the index.
use Rattle.std.specs.Prelude.{Bool, true, ◌&&◌, List, ℕ, Option, Some, None, Float}
use Rattle.integers.specs.Distance.{is_within}
use Rattle.shot_record.specs.Index.{u_in, v_in, border_in}
use Rattle.board_match.specs.Questions.{in_unit_interval}

abbrev pub placed_in : List ℕ → ℕ → Bool
placed_in index k = is_within 4096 (u_in index k) && is_within 4096 (v_in index k)

-- the fraction of a sampled cell; its grid is complete in a record that passes question 21
abbrev pub border_answer : Option Float → Bool
border_answer None = true
border_answer (Some x) = in_unit_interval x

abbrev pub sampled_in : List ℕ → ℕ → Bool
sampled_in index k = border_answer (border_in index k)
