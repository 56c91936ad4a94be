-- `lent_list::move_down` meets its contract: no item is overwritten before it is moved. Assumes nothing.
use lib.ListN.{take, drop}
use Rattle.lent_list.proofs.Loops.{Begun}
use Rattle.lent_list.proofs.move_down.Given as goal

abbrev pub invariant-loop-i : goal.invariant-loop-i
invariant-loop-i g l = Begun l.initial.list l.to (take l.n (drop l.from l.initial.list)) l.list l.i
