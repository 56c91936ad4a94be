-- What is known of a shot that passed the questions before 15. Assumes nothing.
use mathlib.Core.Path.{◌≡◌, sym, subst}
use mathlib.Core.Bool.{Bool, true}
use mathlib.Core.List.{map}
use mathlib.Core.Option.{Option, none, some, none-ne-some, some-injective}
use Prim.Native.Nat.{ℕ, ◌*◌, ◌≤◌, ◌<◌}
use lib.Dec.{T, leb, eqb}
use lib.IntN.{nat_abs}
use lib.ListN.{length}
use lib.Ieee.{le}
use lib.Ieee.Scale.{finite}
use borrow.Author.Tests.{leb-true, ltb-true, eqb-true}
use Rattle.floats.specs.Units.{Finite, nought, unity, Between}
use Rattle.refusal.proofs.Questions.{answered}
use Rattle.integers.proofs.Tests.{both, each}
use Rattle.points.proofs.Twice.{none_twice}
use Rattle.board.proofs.Asked as board
use Rattle.score_matrix.specs.Table.{is_table}
use Rattle.shot_record.specs.Fields.{grid_size}
use Rattle.shot_record.specs.Shots.{Sample, Shot}
use Rattle.shot_record.specs.Answers.{of_pattern, config_of, spec_of}
use Rattle.hypothesis.specs.Placements.{cell, cell_point}
use Rattle.integers.specs.Distance.{is_within}
use Rattle.integers.proofs.Distances.{within_abs}
use Rattle.board_match.specs.Questions.{placed_answer, sample_answer, asked_from9, asked_before15}
use Rattle.board_match.specs.Questions.{settings_answer, table_answer, some_answer, cells_answer, points_answer, samples_answer, room_answer}

pub record Sound (s : Shot) (words : ℕ) : Type 0 where
  pub board : board.Asked (spec_of s) s.codes
  pub margin : Finite (of_pattern s.minimum_margin)
  pub threshold : Finite (of_pattern s.border_threshold)
  pub px : Finite (of_pattern s.px_per_square)
  pub least_weight_is : Between nought unity (of_pattern s.least_weight)
  pub table : T (is_table (map of_pattern s.table))
  pub some-cells : 0 < length s.cells
  pub few_cells : length s.cells ≤ 256
  pub u : (k : ℕ) → k < length s.cells → nat_abs (cell s k).u ≤ 4096
  pub v : (k : ℕ) → k < length s.cells → nat_abs (cell s k).v ≤ 4096
  pub apart : (i j : ℕ) → i < j → j < length s.cells → cell_point s i ≡ cell_point s j → ⊥
  pub fraction : (k : ℕ) → k < length s.cells → (x : Sample) → (cell s k).sample ≡ some x → Between nought unity (of_pattern x.fraction)
  pub grid : (k : ℕ) → k < length s.cells → (x : Sample) → (cell s k).sample ≡ some x → length x.grid ≡ grid_size s.bits s.border
  pub room : 18 * length s.cells ≤ words

true_holds : (b : Bool) → b ≡ true → T b
true_holds b e = subst T (sym e) tt

sample-holds : (size : ℕ) (o : Option Sample) → sample_answer size o ≡ true → (x : Sample) → o ≡ some x
    → Between nought unity (of_pattern x.fraction) × (length x.grid ≡ size)
sample-holds size none h x e = absurd (none-ne-some x e)
sample-holds size (some y) h x e =
    let same = some-injective y x e in
    let parts = both (eqb (length y.grid) size) _ h in
    let range = both (le nought (of_pattern y.fraction)) _ parts.1 in
    subst (λ (z : Sample). Between nought unity (of_pattern z.fraction) × (length z.grid ≡ size)) same
    ((true_holds _ range.0, true_holds _ range.1), eqb-true (length y.grid) size parts.0)

pub sound : (s : Shot) (words : ℕ) → asked_before15 s words ≡ none → Sound s words
unfolding asked_from9
sound s words e =
    let b = board.asked (spec_of s) s.codes _ e in
    let q9 = answered (settings_answer (config_of s)) _ _ b.1 in
    let q10 = answered (table_answer s) _ _ q9.1 in
    let q11 = answered (some_answer s) _ _ q10.1 in
    let q12 = answered (cells_answer s) _ _ q11.1 in
    let q23 = answered (points_answer s) _ _ q12.1 in
    let q13 = answered (samples_answer s) _ _ q23.1 in
    let q14 = answered (room_answer s words) _ _ q13.1 in
    let count = length s.cells in
    let size = grid_size s.bits s.border in
    let settings = both (finite (of_pattern s.minimum_margin)) _ q9.0 in
    let others = both (finite (of_pattern s.border_threshold)) _ settings.1 in
    let rest = both (finite (of_pattern s.px_per_square)) _ others.1 in
    let least = both (le nought (of_pattern s.least_weight)) _ rest.1 in
    let cells = both (leb count 256) _ q12.0 in
    let point : (k : ℕ) → k < count → (is_within 4096 (cell s k).u ≡ true) × (is_within 4096 (cell s k).v ≡ true) =
    λ k h. both (is_within 4096 (cell s k).u) (is_within 4096 (cell s k).v) (each (λ (i : ℕ). placed_answer (cell s i)) count cells.1 k h) in
    let sample : (k : ℕ) → k < count → (x : Sample) → (cell s k).sample ≡ some x → Between nought unity (of_pattern x.fraction)
    × (length x.grid ≡ size) = λ k h. sample-holds size (cell s k).sample
    (each (λ (i : ℕ). sample_answer size (cell s i).sample) count q13.0 k h) in record {
      board = b.0;
      margin = true_holds _ settings.0;
      threshold = true_holds _ others.0;
      px = true_holds _ rest.0;
      least_weight_is = (true_holds _ least.0, true_holds _ least.1);
      table = true_holds _ q10.0;
      some-cells = ltb-true 0 count q11.0;
      few_cells = leb-true count 256 cells.0;
      u = λ k h. within_abs 4096 (cell s k).u (point k h).0;
      v = λ k h. within_abs 4096 (cell s k).v (point k h).1;
      apart = none_twice (cell_point s) count q23.0;
      fraction = λ k h x e. (sample k h x e).0;
      grid = λ k h x e. (sample k h x e).1;
      room = leb-true (18 * count) words q14.0;
    }
