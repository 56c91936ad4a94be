-- The sums of all placements of a turn after the first n cells.
use Rattle.std.specs.Prelude.{◌≡◌, true, false, List, ℕ, ◌+◌, ◌*◌, ◌≤◌, ◌<◌, length, get_or, nat_abs, ◌-ℤ◌, Float}
use Rattle.std.specs.Float.{nan}
use Rattle.std.specs.Float.Ieee.{lt}
use Rattle.floats.specs.Units.{nought}
use Rattle.grid_alignment.specs.Alignment.{point, sends}
use Rattle.board.specs.Numbering.{as_one}
use Rattle.board.specs.Layout.{parity_of, holds_marker, marker_total}
use Rattle.score_matrix.specs.Scores.{null_score, score}
use Rattle.score_matrix.specs.Weights.{weight}
use Rattle.shot_record.specs.Shots.{Shot}
use Rattle.shot_record.specs.Index.{u_in, v_in, border_in}
use Rattle.hypothesis.specs.declared.Inputs.{Inputs}
use Rattle.hypothesis.specs.declared.sums.Counted.{Counted}
use Rattle.hypothesis.specs.declared.framing.Turn.{Turn}
use Rattle.hypothesis.specs.declared.turns.Contributing.{Contributing}
use Rattle.hypothesis.specs.Placements.{moves_across, moves_down, shifted}
use Rattle.hypothesis.specs.Evidence.{board_in, table_of, code_of, samples_of, contributions_to, reported_sum}
use Rattle.hypothesis.specs.Inputs.{SearchInput}
use Rattle.hypothesis.specs.Sums.{Added}
use Rattle.hypothesis.specs.Turns.{count_at, turn_of}

-- each sum, and the number of cells that contribute to it
pub record SumsTo (s : Shot) (r n : ℕ) (sums : List Float) (contributing : Contributing) : Type 0 where
  pub size : length sums ≡ 1024
  pub value : (a b : ℕ) → a < moves_across s r → b < moves_down s r
      → get_or sums (a * moves_down s r + b) nan ≡ reported_sum s r (contributions_to s (shifted s r a b) n)
  pub count : (a b : ℕ) → a < moves_across s r → b < moves_down s r → count_at contributing (a + b) ≡ length (contributions_to s (shifted s r a b) n)
  pub few : (contributing.even ≤ n) × (contributing.odd ≤ n)

abbrev pub none_contributing : Contributing
none_contributing = record { even = 0; odd = 0 }

-- One more cell, which contributes if its square in the frame holds a marker: with the frame moved by (0, 0), and by (1, 0).
abbrev pub with_counted : Contributing → Counted → Contributing
with_counted contributing c =
    let p = parity_of c.board in
    record { even = contributing.even + as_one (holds_marker p c.i c.j); odd = contributing.odd + as_one (holds_marker p (c.i + 1) c.j) }

-- the first sums are 0
abbrev pub Cleared : ℕ → List Float → Type 0
Cleared n sums = (length sums ≡ 1024) × ((k : ℕ) → k < n → get_or sums k nan ≡ nought)

-- The inputs of the sums of a turn whose frame fits on the board.
pub record Turning (s : Shot) (i : Inputs) (index : List ℕ) (t : Turn) : Type 0 where
  pub input : SearchInput s i index
  pub is : t ≡ turn_of s t.turn
  pub fits : (0 < t.across) × (0 < t.down)

-- cell k of an index, as input of the sums
abbrev pub counted_of : Inputs → Turn → List ℕ → ℕ → Counted
counted_of i t index k =
    let p = sends t.turn (point (u_in index k) (v_in index k)) in
    record {
      i = nat_abs (p.u -ℤ t.u);
      j = nat_abs (p.v -ℤ t.v);
      weight = weight i.config (border_in index k);
      null = null_score i.board.bits;
      board = i.board;
    }

-- the effect of a cell on the sums and the counts: none unless its weight is above 0
pub record Counts (c : Counted) (score : ℕ → Float) (across down : ℕ) (before after : List Float) (contributing contributing' : Contributing) : Type 0 where
  pub size : length after ≡ 1024
  pub heavy : lt nought c.weight ≡ true → Added c score across down before after × (contributing' ≡ with_counted contributing c)
  pub light : lt nought c.weight ≡ false → (after ≡ before) × (contributing' ≡ contributing)

-- the scores of cell n after r quarter turns, as a function of the id of a marker of the board
abbrev pub CellScores : Shot → ℕ → ℕ → (ℕ → Float) → Type 0
CellScores s r n scores = (m : ℕ) → m < marker_total (board_in s) → scores m ≡ score (table_of s) (samples_of s n) (code_of s r m)
