-- `board::Board::marker_position` meets its contract. Assumes nothing.
use mathlib.Core.Path.{◌≡◌, sym, ◌∙◌}
use mathlib.Core.Bool.{false≢true}
use Prim.Native.Nat.{ℕ, zero, suc, ◌+◌, ◌-◌, ◌*◌, ◌/◌, ◌<◌}
use native.Mathlib.Nat.{mul-zero}
use native.Mathlib.Omega.{arith}
use lib.Dec.{eqb→eq}
use borrow.Author.Tests.{eq-eqb}
use Rattle.board.specs.Layout.{holds_marker, parity_of, marker_count}
use Rattle.board.proofs.Places.{has-place, unplaced}
use Rattle.board.proofs.Formulas.{area_small}
use Rattle.board.proofs.Markers.{parity_bit, marker_total_lem, even_square, odd_square}
use Rattle.board.proofs.Board.marker_position.Goals as goal
use Rattle.board.proofs.Board.marker_position.Goals.{Else-marker_count-id}

pub returns-then-marker_count-id : goal.returns-then-marker_count-id
returns-then-marker_count-id c = sym (unplaced (holds_marker _) _ _ _ (omega arith))

module _ (c : Else-marker_count-id) where
  abbrev p : ℕ
  p = parity_of c.args.self

  abbrev rows : ℕ
  rows = c.args.self.rows

  abbrev cols : ℕ
  cols = c.args.self.cols

  known : c.args.id < marker_count p rows cols
  known = omega arith

  total-is : (w : ℕ) → marker_count p rows w ≡ (rows * w + (1 - p)) / 2
  total-is w = marker_total_lem p rows w (parity_bit c.args.self)

  -- a board with a marker has a column, and an area
  some : 0 < cols
  some = go cols known
    where
      go : (w : ℕ) → c.args.id < marker_count p rows w → 0 < w
      go zero l = absurd (omega (arith, total-is 0, mul-zero rows))
      go (suc w) l = omega arith

  small : 2 * c.args.id < 65026
  small = omega (arith, known, total-is cols, area_small rows cols (omega arith) (omega arith))

pub overflow_mul-k : goal.overflow_mul-k
overflow_mul-k c = omega (arith, small (goal.at.overflow_mul-k c).Else-marker_count-id)

pub returns-then-holds_marker : goal.returns-then-holds_marker
returns-then-holds_marker c =
    let e = (goal.at.returns-then-holds_marker c).Else-marker_count-id in
    sym
    (has-place (holds_marker (p e)) _ _ _ _ _
    (even_square (p e) (cols e) (parity_bit c.args.self) (some e) (rows e) c.args.id (known e)
    (eqb→eq _ _ (rw (sym c.holds_marker.ensures ∙ c.if-holds_marker.true) tt))))

pub overflow_add-result : goal.overflow_add-result
overflow_add-result c = omega (arith, small (goal.at.overflow_add-result c).Else-marker_count-id)

pub returns : goal.returns
returns c =
    let e = (goal.at.returns c).Else-marker_count-id in
    sym
    (has-place (holds_marker (p e)) _ _ _ _ _
    (odd_square (p e) (cols e) (parity_bit c.args.self) (some e) (rows e) c.args.id (known e)
    (λ h. false≢true (sym c.if-holds_marker.false ∙ c.holds_marker.ensures ∙ eq-eqb _ _ h))))

pub nonzero_rem-i : goal.nonzero_rem-i
nonzero_rem-i c = some (goal.at.nonzero_rem-i c).Else-marker_count-id

pub nonzero_div-j : goal.nonzero_div-j
nonzero_div-j c = some (goal.at.nonzero_div-j c).Else-marker_count-id

pub nonzero_rem-result : goal.nonzero_rem-result
nonzero_rem-result c = some (goal.at.nonzero_rem-result c).Else-marker_count-id

pub overflow_add-result-2 : goal.overflow_add-result-2
overflow_add-result-2 c = overflow_add-result c

pub nonzero_div-result : goal.nonzero_div-result
nonzero_div-result c = some (goal.at.nonzero_div-result c).Else-marker_count-id
