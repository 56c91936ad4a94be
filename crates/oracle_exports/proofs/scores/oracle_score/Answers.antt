-- `oracle_exports::scores::oracle_score` meets its contract. Assumes nothing.
use mathlib.Core.Path.{sym, ◌∙◌}
use lib.ListN.{length}
use lib.Ieee.{of_bits, of_fields, odd}
use Rattle.oracle_exports.proofs.Grids.{whole}
use Rattle.oracle_exports.proofs.scores.oracle_score.Goals as goal

pub score-requires : goal.score-requires
score-requires c =
    let s = c.args in record {
      bits_bound = (whole (length s.grid.now) s.bits s.border (sym c.is_whole.ensures ∙ c.if-is_whole.true)).0;
      grid_len = (whole (length s.grid.now) s.bits s.border (sym c.is_whole.ensures ∙ c.if-is_whole.true)).1;
    }

pub returns-then-is_whole : goal.returns-then-is_whole
returns-then-is_whole c = rw (sym c.is_whole.ensures ∙ c.if-is_whole.true) c.score.ensures

pub returns : goal.returns
unfolding of_bits of_fields odd
returns c = rw (sym c.is_whole.ensures ∙ c.if-is_whole.false)
