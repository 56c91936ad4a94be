-- `reread::print_all` is safe: there is room for a byte before each read. Assumes nothing.
use Rattle.std.specs.Prelude.{◌<◌}
use Rattle.reread.proofs.print_all.Given as goal

abbrev pub invariant-loop : goal.invariant-loop
invariant-loop l = l.count < 65541
