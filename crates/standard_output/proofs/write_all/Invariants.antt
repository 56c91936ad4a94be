-- `standard_output::write_all` meets its contract: each write leaves less to write. Assumes nothing.
use Rattle.std.specs.Prelude.{◌≤◌, ◌-◌, length, take}
use Rattle.std.specs.Io.KnownBytes.{Appends}
use Rattle.standard_output.proofs.write_all.Given as goal

abbrev pub invariant-loop-done : goal.invariant-loop-done
invariant-loop-done g l = record {
  within : l.done ≤ length l.text;
  appended : Appends (g.W.Write.contents l.initial.stream) (g.W.Write.contents l.stream) (take l.done l.text);
}

abbrev pub decreases-loop-done : goal.decreases-loop-done
decreases-loop-done g l = length l.text - l.done
