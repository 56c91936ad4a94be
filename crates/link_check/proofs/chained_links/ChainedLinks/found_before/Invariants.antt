-- `link_check::chained_links::ChainedLinks::found_before` meets its contract. The loop's invariant: no link before j has the marker and the corner, and j has
-- their key. Assumes nothing.
use Prim.Native.Nat.{◌-◌}
use Rattle.link_check.proofs.Chained.{Walked}
use Rattle.link_check.proofs.chained_links.ChainedLinks.found_before.Given as goal

abbrev pub invariant-loop-j : goal.invariant-loop-j
invariant-loop-j l = Walked l.by l.self.words.now l.self.count l.marker l.corner 0 l.j

abbrev pub decreases-loop-j : goal.decreases-loop-j
decreases-loop-j l = l.end - l.j
