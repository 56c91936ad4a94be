-- `marker_sampling::questions::all_placed` meets its contract. The loop's invariant: the first k corners are in range. Assumes nothing.
use mathlib.Core.Path.{◌≡◌}
use mathlib.Core.Bool.{true}
use Rattle.integers.specs.Tests.{every}
use Rattle.marker_sampling.specs.Entry.{placed}
use Rattle.marker_sampling.specs.Cells.{corners_of}
use Rattle.marker_sampling.proofs.questions.all_placed.Given as goal

abbrev pub invariant-loop-k : goal.invariant-loop-k
invariant-loop-k l = every (placed 4096 (corners_of l.count l.grid)) l.k ≡ true
