-- The contracts of the inner functions.
use Rattle.std.specs.Prelude.{ℕ, zero, suc, ◌≤◌, ◌<◌, ◌≡◌, true, List, length, get_or, nat_abs}
use Rattle.std.proofs.Math.Option.{Option, none, some}
use Rattle.integers.specs.Tests.{every}
use Rattle.marker_sampling.specs.Entry.{corners, placed}
use Rattle.corner_mapping.specs.Corners.{Input, chosen_to}

-- what the questions imply
pub record InputInRange (x : Input) : Type 0 where
  pub rows : x.board.rows ≤ 32
  pub cols : x.board.cols ≤ 32
  pub few : length x.scores ≤ 1024
  pub all_placed : every (placed 4096 (corners x.scores x.grid)) (length x.scores) ≡ true
  pub tx : nat_abs x.alignment.tx ≤ 8192
  pub ty : nat_abs x.alignment.ty ≤ 8192

-- a choice is stored as a number: 0 for none, else the index + 1
abbrev pub choice_of : ℕ → Option ℕ
choice_of zero = none
choice_of (suc k) = some k

abbrev pub stored : List ℕ → ℕ → Option ℕ
stored choices id = choice_of (get_or choices id 0)

-- element id is the choice among the first n corners
pub record ChoicesHeld (x : Input) (n : ℕ) (choices : List ℕ) : Type 0 where
  pub at : (id : ℕ) → id < 1024 → stored choices id ≡ chosen_to x id n
