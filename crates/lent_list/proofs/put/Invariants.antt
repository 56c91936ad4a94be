-- `lent_list::put` meets its contract: its loop is that of `Begun` (`Loops.antt`). Assumes nothing.
use Rattle.lent_list.proofs.Loops.{Begun}
use Rattle.lent_list.proofs.put.Given as goal

abbrev pub invariant-loop-k : goal.invariant-loop-k
invariant-loop-k g l = Begun l.initial.list l.at l.items l.list l.k
