-- `reread::print_whole` meets its contract: each turn prints entries and moves the bytes after them. Assumes nothing.
use Rattle.std.specs.Prelude.{◌≡◌, length}
use Rattle.reread.proofs.Rests.{Printing}
use Rattle.reread.proofs.print_whole.Given as goal

abbrev pub invariant-loop-left : goal.invariant-loop-left
invariant-loop-left l = record {
  printing : Printing l.initial.seen l.initial.bytes l.count l.bytes l.left l.seen;
  room : length l.text ≡ 8192;
}

abbrev pub decreases-loop-left : goal.decreases-loop-left
decreases-loop-left l = l.left
