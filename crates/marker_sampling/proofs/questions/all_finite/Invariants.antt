-- `marker_sampling::questions::all_finite` meets its contract. The loop's invariant: the result for the scores from an index on is the
-- result for all. Assumes nothing.
use mathlib.Core.Path.{◌≡◌}
use lib.ListN.{drop}
use Rattle.marker_sampling.specs.Entry.{finite_scores}
use Rattle.marker_sampling.proofs.questions.all_finite.Given as goal

abbrev pub invariant-loop-score : goal.invariant-loop-score
invariant-loop-score l = finite_scores (drop l.score-index l.scores) ≡ finite_scores l.scores
