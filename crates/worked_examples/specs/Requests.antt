-- Document 02: small shots, which of them fail a question before 15 and how many of their cells contribute, as statements about the definitions.
use Rattle.std.specs.Prelude.{◌≡◌, List, ℕ, ◌≤◌, pos}
use Rattle.std.proofs.Math.Option.{Option, none, some}
use Rattle.refusal.specs.declared.Refusal.TheVariants as refusal
use Rattle.shot_record.specs.Shots.{Sample}
use Rattle.hypothesis.specs.Evidence.{contributing_cells}
use Rattle.board_match.specs.Questions.{asked_before15}
use Rattle.worked_examples.specs.Table.{align, showing, too_wide}

-- sampled with fraction 1 and with fraction 0: weight 1 and 0
abbrev pub black_border : ℕ → List ℕ → Option Sample
black_border threshold grid = some (record { fraction = 0x3F800000; threshold = threshold; grid = grid })

abbrev pub white_border : ℕ → List ℕ → Option Sample
white_border threshold grid = some (record { fraction = 0; threshold = threshold; grid = grid })

-- the number of cells that contribute to the placement with turn 0 and translation (tx, 0)
abbrev pub counted_at : ℕ → ℕ → Option Sample → Option Sample → ℕ
counted_at tx u first second = contributing_cells (showing too_wide u first second) (align 0 (pos tx) (pos 0))

pub record Requests : Type 0 where
  -- 2.3: two cells at (0, 0) are refused, sampled or not, before samples (13) and list (14) are checked. One square apart they pass
  pub filed_twice : (first second : Option Sample) (words : ℕ) → asked_before15 (showing too_wide 0 first second) words ≡ some refusal.RepeatedPoint
  pub side_by_side : (words : ℕ) → 36 ≤ words → asked_before15 (showing too_wide 1 none none) words ≡ none
  -- 2.5: on the marker squares (1, 0) and (3, 0), whatever their greys, two cells of weight 1 count, and only one if the other has weight 0; on the
  -- plain squares (0, 0) and (2, 0) none does. Of two adjacent cells one does, in both positions
  pub both : (t : ℕ) (g h : List ℕ) → counted_at 1 2 (black_border t g) (black_border t h) ≡ 2
  pub one : (t : ℕ) (g h : List ℕ) → (counted_at 1 2 (black_border t g) (white_border t h) ≡ 1) × (counted_at 1 2 (black_border t g) none ≡ 1)
  pub neither : (t : ℕ) (g h : List ℕ) → counted_at 0 2 (black_border t g) (black_border t h) ≡ 0
  pub one_of_two : (t : ℕ) (g h : List ℕ) → (counted_at 1 1 (black_border t g) (black_border t h) ≡ 1) × (counted_at 0 1 (black_border t g) (black_border t h) ≡ 1)
