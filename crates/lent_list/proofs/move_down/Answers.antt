-- `lent_list::move_down` meets its contract: no item is overwritten before it is moved. Assumes nothing.
use mathlib.Core.Path.{sym, subst}
use Prim.Native.Nat.{◌+◌}
use lib.ListN.{take, drop, set}
use Rattle.lent_list.proofs.Loops.{Begun, begin}
use Rattle.lent_list.proofs.Moves.{down_more, down_all}
use Rattle.lent_list.proofs.move_down.Goals as goal

pub loop-i-init : goal.loop-i-init
loop-i-init g c = begin _ c.args.to _

pub loop-i-preserved : goal.loop-i-preserved
loop-i-preserved g c =
    let a = c.args in
    let i = c.loop-i.i in
    subst (λ x. Begun a.list.now a.to (take a.n (drop a.from a.list.now)) (set c.loop-i.list (a.to + i) x) (i + 1)) (sym c.index-list-from.is)
    (down_more a.list.now a.from a.to a.n c.requires.0 c.requires.1 c.loop-i.invariant c.index-list-from.result c.loop-i-test.true)

pub returns : goal.returns
returns g c = down_all c.args.list.now c.args.from c.args.to c.args.n c.requires.0 c.requires.1 c.loop-i.invariant c.loop-i-test.false
