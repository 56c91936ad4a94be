-- `board::Board::marker_id` meets its contract. Assumes nothing.
use mathlib.Core.Path.{sym, ap, ◌∙◌}
use mathlib.Core.Bool.{Bool, true}
use Prim.Native.Nat.{◌+◌, ◌*◌, ◌/◌}
use native.Mathlib.Omega.{arith}
use Rattle.board.specs.Numbering.{number_if}
use Rattle.board.specs.Layout.{parity_of, holds_marker}
use Rattle.board.proofs.Places.{unnumbered}
use Rattle.board.proofs.Markers.{parity_bit, number-on}
use Rattle.board.proofs.Board.marker_id.Goals as goal
use Rattle.board.proofs.Board.marker_id.Goals.{then-self-x-via-then-self-x, then-self-x-via-else-self-x+then-self-y}
use Rattle.board.proofs.Board.marker_id.Goals.{then-self-x-via-else-self-x+else-self-y+then-not-holds_marker}

pub returns-then-self-x : goal.returns-then-self-x
returns-then-self-x c =
    let b = c.args.self in
    let i = c.args.i in
    let j = c.args.j in
    sym
    (elim c.then-self-x.branch [
      | then-self-x-via-then-self-x w ↦ unnumbered (holds_marker _) _ _ _ _ (λ l k y. omega arith)
      | then-self-x-via-else-self-x+then-self-y w ↦ unnumbered (holds_marker _) _ _ _ _ (λ l k y. omega arith)
      | then-self-x-via-else-self-x+else-self-y+then-not-holds_marker w ↦
          number-on (parity_of b) b.rows b.cols i j (parity_bit b) (omega arith) (omega arith)
          ∙ ap (λ (t : Bool). number_if t ((j * b.cols + i) / 2)) (sym w.holds_marker.ensures ∙ w.if-not-holds_marker.true)
    ])

pub returns : goal.returns
returns c =
    let b = c.args.self in
    let i = c.args.i in
    let j = c.args.j in
    sym
    (number-on (parity_of b) b.rows b.cols i j (parity_bit b) (omega arith) (omega arith)
    ∙ ap (λ (t : Bool). number_if t ((j * b.cols + i) / 2)) (sym c.holds_marker.ensures ∙ c.if-not-holds_marker.false)
    ∙ sym (ap (number_if true) c.id_on.ensures))
