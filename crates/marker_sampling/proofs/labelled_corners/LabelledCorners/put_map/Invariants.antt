-- `marker_sampling::labelled_corners::LabelledCorners::put_map` meets its contract. The loop's invariant: the words of the first i inliers
-- are in input order. Assumes nothing.
use Rattle.marker_sampling.specs.Keys.{Filled}
use Rattle.marker_sampling.specs.Cells.{corners_of}
use Rattle.marker_sampling.proofs.labelled_corners.LabelledCorners.put_map.Given as goal

abbrev pub invariant-loop-i : goal.invariant-loop-i
invariant-loop-i l = Filled 4096 (corners_of l.self.count l.self.grid.now) l.inliers l.i l.words
