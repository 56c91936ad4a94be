-- `score_matrix::turned::source_bit` meets its contract. Assumes nothing.
use mathlib.Core.Path.{sym, subst}
use Prim.Native.Nat.{◌<◌}
use native.Mathlib.Omega.{arith}
use Rattle.matcher.specs.Codes.{index_of}
use Rattle.matcher.proofs.Turns.{Inside, source-inside, index_below}
use Rattle.score_matrix.proofs.Places.{area}
use Rattle.score_matrix.proofs.turned.source_bit.Goals as goal
use Rattle.score_matrix.proofs.turned.source_bit.Goals.{After-source_place-q}

-- the source place is in the code, and its bit is one of 64
module _ (c : After-source_place-q) where
  found : Inside c.args.n c.source_place-q.result
  found =
      let a = c.args in
      let p = c.requires in
      subst (Inside a.n) (sym c.source_place-q.ensures) (source-inside a.n a.turn a.p (record { column = p.1; row = p.2 }))

  small : index_of c.args.n c.source_place-q.result < 64
  small = omega (arith, index_below c.args.n c.source_place-q.result found, area c.args.n c.requires.0)

pub overflow_mul-result : goal.overflow_mul-result
overflow_mul-result c = record { fits = omega (arith, small (goal.at.overflow_mul-result c).After-source_place-q) }

pub overflow_add-result : goal.overflow_add-result
overflow_add-result c = record { fits = omega (arith, small (goal.at.overflow_add-result c).After-source_place-q) }

pub overflow_cast-result : goal.overflow_cast-result
overflow_cast-result c = record { fits = omega (arith, small (goal.at.overflow_cast-result c).After-source_place-q) }
