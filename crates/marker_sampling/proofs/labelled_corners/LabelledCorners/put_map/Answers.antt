-- `marker_sampling::labelled_corners::LabelledCorners::put_map` meets its contract. The loop's invariant: the words of the first i inliers
-- are in input order. Assumes nothing.
use mathlib.Core.Path.{◌∙◌}
use native.Mathlib.Omega.{arith}
use Rattle.marker_sampling.proofs.InlierWords.{word_of, filled_more, sorted_map}
use Rattle.marker_sampling.proofs.labelled_corners.LabelledCorners.put_map.Goals as goal

pub loop-i-preserved : goal.loop-i-preserved
loop-i-preserved c =
    filled_more 4096 _ _ c.loop-i.i c.loop-i.words _ (omega arith) c.loop-i.invariant
    (word_of 4096 _ _ c.loop-i.i c.key_of.result (omega arith) c.key_of.ensures)

pub returns : goal.returns
returns c =
    sorted_map 4096 _ _ (c.loop-i.auto.words ∙ c.requires.1) (λ i l. c.loop-i.invariant i (omega arith)) c.sort.ensures
