-- `hypothesis::counting::with_counted` meets its contract: of two adjacent squares one holds a marker. Assumes nothing.
use mathlib.Core.Path.{◌≡◌, sym, ap, ap₂, ◌∙◌}
use mathlib.Core.Bool.{Bool, true, false, not}
use Prim.Native.Nat.{ℕ, ◌+◌}
use native.Mathlib.Omega.{arith}
use Rattle.board.specs.Numbering.{as_one}
use Rattle.board.specs.Layout.{parity_of, holds_marker}
use Rattle.board.proofs.Markers.{parity_bit}
use Rattle.board.proofs.Parities.{right_of}
use Rattle.hypothesis.specs.declared.sums.Counted.{Counted}
use Rattle.hypothesis.specs.declared.turns.Contributing.{Contributing}
use Rattle.hypothesis.specs.Filling.{with_counted}
use Rattle.hypothesis.proofs.counting.with_counted.Goals as goal

abbrev with : ℕ → ℕ → Contributing
with x y = record { even = x; odd = y }

module _ (contributing : Contributing) (c : Counted) where
  abbrev here : Bool
  here = holds_marker (parity_of c.board) c.i c.j

  by_square : (t : Bool) → here ≡ t → with (contributing.even + as_one t) (contributing.odd + as_one (not t)) ≡ with_counted contributing c
  by_square t e =
      ap₂ (λ (x y : Bool). with (contributing.even + as_one x) (contributing.odd + as_one y)) (sym e)
      (sym (right_of (parity_of c.board) c.i c.j (parity_bit c.board) ∙ ap not e))

  held : here ≡ true → with (contributing.even + 1) contributing.odd ≡ with_counted contributing c
  held e = ap (with (contributing.even + 1)) (omega arith) ∙ by_square true e

  free : here ≡ false → with contributing.even (contributing.odd + 1) ≡ with_counted contributing c
  free e = ap (λ (x : ℕ). with x (contributing.odd + 1)) (omega arith) ∙ by_square false e

pub returns-then-holds_marker : goal.returns-then-holds_marker
returns-then-holds_marker c =
    let x = c.args in
    held x.contributing x.cell (sym c.holds_marker.ensures ∙ c.if-holds_marker.true)

pub returns : goal.returns
returns c =
    let x = c.args in
    free x.contributing x.cell (sym c.holds_marker.ensures ∙ c.if-holds_marker.false)
