-- `hypothesis::sums::first_move` meets its contract: of two rows one holds a marker. Assumes nothing.
use mathlib.Core.Path.{◌≡◌, sym, ap, ◌∙◌}
use mathlib.Core.Bool.{true, not}
use Prim.Native.Nat.{◌+◌, ◌<◌}
use native.Mathlib.Omega.{arith}
use borrow.Author.Tests.{lt-ltb, le-ltb}
use Rattle.board.specs.Layout.{parity_of}
use Rattle.board.proofs.Markers.{parity_bit}
use Rattle.board.proofs.Parities.{agree, differ}
use Rattle.hypothesis.specs.Sums.{marked}
use Rattle.hypothesis.proofs.sums.first_move.Goals as goal
use Rattle.hypothesis.proofs.sums.first_move.Goals.{Joined-holds_marker, then-holds_marker, else-holds_marker}

row : (c : Joined-holds_marker) → (c.if-holds_marker.b < 2) × (marked c.args.cell 0 c.if-holds_marker.b ≡ true)
row c =
    let x = c.args.cell in
    let p = parity_of x.board in
    let is = sym c.holds_marker.ensures in
    elim c.if-holds_marker.branch [
      | then-holds_marker w ↦ rw w.b-is (omega arith, agree p x.i x.j (x.i + 0) (x.j + 0) (omega arith) ∙ is ∙ w.if-holds_marker.true)
      | else-holds_marker w ↦ rw w.b-is (omega arith, differ p x.i x.j (parity_bit x.board) (x.i + 0) (x.j + 1) (omega arith) ∙ ap not (is ∙ w.if-holds_marker.false))
    ]

pub returns-then-b-down : goal.returns-then-b-down
returns-then-b-down c =
    (c.if-holds_marker.b, (row (goal.at.returns-then-b-down c).Joined-holds_marker).0, (row (goal.at.returns-then-b-down c).Joined-holds_marker).1, rw (lt-ltb c.if-holds_marker.b c.args.down c.if-b-down.true))

pub returns : goal.returns
returns c =
    (c.if-holds_marker.b, (row (goal.at.returns c).Joined-holds_marker).0, (row (goal.at.returns c).Joined-holds_marker).1, rw (le-ltb c.if-holds_marker.b c.args.down c.if-b-down.false))
