-- `score_matrix::cell::score` meets its contract. Assumes nothing.
use mathlib.Core.Path.{◌∙◌}
use Prim.Native.Nat.{◌*◌}
use Rattle.score_matrix.specs.Scores.{samples}
use Rattle.score_matrix.proofs.Likelihoods.{picked-score}
use Rattle.score_matrix.proofs.cell.score.Goals as goal

pub returns : goal.returns
returns c =
    let s = c.args in
    let b = c.bit_likelihoods in
    c.sum.ensures
    ∙ picked-score s.table.now (samples s.bits s.border s.threshold s.grid.now) (s.bits * s.bits) b.new.likelihoods s.code b.ensures.holds
