-- `replay::rows::answer_with_list` is safe: the arrays are at least as long as the slices. Assumes nothing.
use native.Mathlib.Omega.{arith}
use mathlib.Core.Path.{sym}
use lib.Seq.{length-take-le}
use Rattle.replay.proofs.rows.answer_with_list.Goals as goal

pub slice_bounds-with_list-end : goal.slice_bounds-with_list-end
slice_bounds-with_list-end c = sym (length-take-le _ _ (omega arith))
