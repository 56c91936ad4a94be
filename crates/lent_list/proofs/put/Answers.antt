-- `lent_list::put` meets its contract: its loop is that of `Begun` (`Loops.antt`). Assumes nothing.
use Rattle.lent_list.proofs.Loops.{begin, begun_more, all_begun}
use Rattle.lent_list.proofs.put.Goals as goal

pub loop-k-init : goal.loop-k-init
loop-k-init g c = begin _ c.args.at c.args.items.now

pub loop-k-preserved : goal.loop-k-preserved
loop-k-preserved g c = begun_more c.loop-k.invariant c.requires _ c.index-items-k.result c.index-items-k.is c.loop-k-test.true

pub returns : goal.returns
returns g c = all_begun c.loop-k.invariant c.requires c.loop-k-test.false
