-- `shot_record::index::fill` meets its contract. The loop's invariant: the cursor is at cell k, the index has the words of the cells before it, and the
-- elements after all cells are unchanged. Assumes nothing.
use Rattle.std.proofs.Common.{◌≡◌, ℕ, List, ◌*◌, ◌<◌, get_or}
use Rattle.lent_list.specs.Parts.{KeptFrom}
use Rattle.shot_record.specs.Fields.{cell_count, cursor_at}
use Rattle.shot_record.specs.Index.{words_of, point_in, fraction_in, grid_in}
use Rattle.shot_record.proofs.index.fill.Given as goal

-- the words of cell k
pub record Words (bytes index : List ℕ) (k : ℕ) : Type 0 where
  pub point : point_in index k ≡ get_or (words_of bytes k) 0 0
  pub fraction : fraction_in index k ≡ get_or (words_of bytes k) 1 0
  pub grid : grid_in index k ≡ get_or (words_of bytes k) 2 0

abbrev pub invariant-loop-k : goal.invariant-loop-k
invariant-loop-k l =
    record {
      cursor : l.c ≡ cursor_at l.input.bytes.now l.k;
      filled : (j : ℕ) → j < l.k → Words l.input.bytes.now l.index j;
      kept : KeptFrom 0 (3 * cell_count l.input.bytes.now) l.initial.index l.index;
    }
