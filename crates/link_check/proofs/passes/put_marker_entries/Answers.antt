-- `link_check::passes::put_marker_entries` meets its contract. The loop's invariant: the violations of the markers of the first k links
-- are written. Assumes nothing.
use mathlib.Core.List.{List}
use Prim.Native.Nat.{ℕ}
use native.Mathlib.Omega.{arith}
use Rattle.lent_list.proofs.Loops.{none_to, to_room, to_more}
use Rattle.link_check.specs.Violations.{Violation, expectation, of_first, violation_words}
use Rattle.link_check.proofs.passes.put_marker_entries.Goals as goal
use Rattle.link_check.proofs.passes.put_marker_entries.Goals.{Start}

module _ (s : Start) where
  abbrev entry : ℕ → List Violation
  entry = of_first s.args.links.words.now s.args.links.count s.args.standard.mode (expectation s.args.standard.board)

pub loop-k-init : goal.loop-k-init
loop-k-init c =
    let x = c.args in
    none_to violation_words (entry (goal.at.loop-k-init c).Start) x.violations.now x.at x.links.count c.requires

pub put_of_first-end-requires : goal.put_of_first-end-requires
put_of_first-end-requires c =
    let x = c.args in
    let l = c.loop-k in record {
      inside = omega arith;
      room = to_room violation_words (entry (goal.at.put_of_first-end-requires c).Start) x.violations.now x.at x.links.count c.requires l.k l.invariant
          (omega arith);
    }

pub loop-k-preserved : goal.loop-k-preserved
loop-k-preserved c =
    let x = c.args in
    let l = c.loop-k in
    to_more violation_words (entry (goal.at.loop-k-preserved c).Start) x.violations.now x.at x.links.count c.requires l.k l.invariant
    c.put_of_first-end.ensures
