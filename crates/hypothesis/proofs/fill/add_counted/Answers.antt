-- `hypothesis::fill::add_counted` meets its contract. Assumes nothing.
use mathlib.Core.Path.{refl, sym, ◌∙◌}
use mathlib.Core.Bool.{false≢true}
use native.Mathlib.Omega.{arith}
use lib.Ieee.{of_bits, of_fields, odd}
use Rattle.hypothesis.proofs.fill.add_counted.Goals as goal

pub returns-then-not-cell : goal.returns-then-not-cell
unfolding of_bits of_fields odd
returns-then-not-cell c =
    record {
      size = omega arith;
      heavy = λ t. absurd (false≢true (sym (c.if-not-cell.true) ∙ t));
      light = λ t. (refl, refl);
    }

pub add_cell-requires : goal.add_cell-requires
add_cell-requires c = let p = c.requires in (p.0, p.1, p.2)

pub returns : goal.returns
unfolding of_bits of_fields odd
returns c =
    record {
      size = omega arith;
      heavy = λ t. (c.add_cell.ensures, c.with_counted.ensures);
      light = λ t. absurd (false≢true (sym t ∙ c.if-not-cell.false));
    }

pub with_counted-requires : goal.with_counted-requires
with_counted-requires c = let p = c.requires in (p.3, p.4)
