-- `oracle_exports::scores::oracle_cell_scores` meets its contract. Assumes nothing.
use mathlib.Core.Path.{sym, subst, ◌∙◌}
use Prim.Native.Nat.{◌*◌}
use lib.Dec.{T}
use lib.ListN.{length, get_or}
use Rattle.score_matrix.specs.Scores.{samples}
use Rattle.score_matrix.proofs.Likelihoods.{picked-score}
use Rattle.oracle_exports.proofs.Grids.{whole}
use Rattle.oracle_exports.proofs.scores.oracle_cell_scores.Goals as goal

pub bit_likelihoods-requires : goal.bit_likelihoods-requires
bit_likelihoods-requires c =
    let s = c.args in
    let w = whole (length s.grid.now) s.bits s.border (sym c.is_whole.ensures ∙ c.if-is_whole.true) in
    record { bits_bound = w.0; grid_len = w.1 }

pub fill_scores-requires : goal.fill_scores-requires
fill_scores-requires c =
    let s = c.args in
    (whole (length s.grid.now) s.bits s.border (sym c.is_whole.ensures ∙ c.if-is_whole.true)).0

pub returns-then-is_whole : goal.returns-then-is_whole
returns-then-is_whole c t =
    let s = c.args in
    let w = c.fill_scores.ensures in
    record {
      long = w.long;
      holds = λ i h k. w.holds i h k ∙ picked-score s.table.now (samples s.bits s.border s.threshold s.grid.now)
          (s.bits * s.bits) c.bit_likelihoods.new.likelihoods (get_or s.codes.now i 0) c.bit_likelihoods.ensures.holds;
    }

pub returns-else-is_whole : goal.returns-else-is_whole
returns-else-is_whole c t = absurd (subst T (sym c.is_whole.ensures ∙ c.if-is_whole.false) t)
