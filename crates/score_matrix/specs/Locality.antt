-- A score and a read code depend only on the bytes of the grid, not on its offset in a record; and of these bytes on the greys at the code's bits.
use Rattle.std.specs.Prelude.{◌≡◌, List, ℕ, ◌+◌, ◌*◌, ◌<◌, get_or, Float}
use Rattle.lent_list.specs.Parts.{part}
use Rattle.score_matrix.specs.Scores.{Samples, samples, bit_count, side, grey, score, read_code}

-- two records have the same n bytes, each from its own offset on
abbrev pub SameBytes : ℕ → ℕ → List ℕ → ℕ → List ℕ → Type 0
SameBytes n at a to b = (i : ℕ) → i < n → get_or a (at + i) 0 ≡ get_or b (to + i) 0

-- a cell whose grid is in a record, from an offset on
abbrev pub in_record : ℕ → ℕ → ℕ → ℕ → List ℕ → Samples
in_record bits border threshold at bytes = samples bits border threshold (part at (side bits border * side bits border) bytes)

-- the same score for each table and code, and the same read code
pub record EqualScores (s t : Samples) : Type 0 where
  pub scores : (table : List Float) (code : ℕ) → score table s code ≡ score table t code
  pub codes : read_code s ≡ read_code t

abbrev pub RecordRule : Type 0
RecordRule = (bits border threshold at to : ℕ) (a b : List ℕ) → SameBytes (side bits border * side bits border) at a to b
    → EqualScores (in_record bits border threshold at a) (in_record bits border threshold to b)

abbrev pub GreyRule : Type 0
GreyRule = (s t : Samples) → s.bits ≡ t.bits → s.threshold ≡ t.threshold → ((k : ℕ) → k < bit_count s → grey s k ≡ grey t k) → EqualScores s t
