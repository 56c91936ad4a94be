-- `oracle_exports::scores::oracle_read_code` meets its contract. Assumes nothing.
use mathlib.Core.Path.{sym, ◌∙◌}
use lib.ListN.{length}
use Rattle.oracle_exports.proofs.Grids.{whole}
use Rattle.oracle_exports.proofs.scores.oracle_read_code.Goals as goal

pub read_code-requires : goal.read_code-requires
read_code-requires c =
    let s = c.args in record {
      bits_bound = (whole (length s.grid.now) s.bits s.border (sym c.is_whole.ensures ∙ c.if-is_whole.true)).0;
      grid_len = (whole (length s.grid.now) s.bits s.border (sym c.is_whole.ensures ∙ c.if-is_whole.true)).1;
    }

pub returns-then-is_whole : goal.returns-then-is_whole
returns-then-is_whole c = rw (sym c.is_whole.ensures ∙ c.if-is_whole.true) c.read_code.ensures

pub returns : goal.returns
returns c = rw (sym c.is_whole.ensures ∙ c.if-is_whole.false)
