-- `score_list::fill_rows` meets its contract. The loop's invariant: the first x columns are written. Assumes nothing.
use mathlib.Core.Path.{◌≡◌}
use Prim.Native.Nat.{ℕ, ◌+◌, ◌<◌}
use lib.ListN.{length}
use Rattle.score_matrix.specs.Rows.{Column}
use Rattle.shot_record.specs.Shots.{shot}
use Rattle.score_list.specs.Filling.{adds_of}
use Rattle.score_list.proofs.fill_rows.Given as goal

abbrev pub invariant-loop-x : goal.invariant-loop-x
invariant-loop-x l =
    (length l.rows ≡ 1024) × ((y : ℕ) → y < l.x → Column (adds_of (shot l.loaded.bytes.now) (l.first + y)) l.n l.rows y)
