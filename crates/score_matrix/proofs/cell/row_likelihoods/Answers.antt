-- `score_matrix::cell::row_likelihoods` meets its contract. The loop's invariant: the array holds the log-likelihoods of the bits before bit x
-- of the row, and is unchanged past them.
-- Assumes nothing.
use mathlib.Core.Path.{◌≡◌, sym, ap, ◌∙◌}
use mathlib.Core.List.{List}
use Prim.Native.Nat.{ℕ, ◌+◌, ◌*◌, ◌<◌}
use native.Mathlib.Nat.{add_assoc}
use native.Mathlib.Omega.{arith}
use lib.Arith.{digits_lt}
use lib.ListN.{get_or, length-set}
use lib.Ieee.{Float}
use Rattle.matcher.specs.declared.Place.{Place}
use Rattle.matcher.proofs.Turns.{place-index}
use Rattle.score_matrix.specs.Table.{entry}
use Rattle.score_matrix.specs.Scores.{Samples, samples, grid_index, grey, likelihood}
use Rattle.score_matrix.proofs.Places.{area, read_grey}
use Rattle.score_matrix.proofs.Likelihoods.{holds_next, kept_next}
use Rattle.score_matrix.proofs.cell.row_likelihoods.Goals as goal
use Rattle.score_matrix.proofs.cell.row_likelihoods.Goals.{After-entry-in-loop-x}

-- after both entries are read
module _ (c : After-entry-in-loop-x) where
  abbrev cell : Samples
  cell = samples c.args.bits c.args.border c.args.threshold c.args.grid.now

  abbrev table : List Float
  table = c.args.table.now

  abbrev p : Place
  p = record { x = c.loop-x.x; y = c.args.y }

  abbrev k : ℕ
  k = c.args.y * c.args.bits + c.loop-x.x

  small : k < 64
  small = omega (arith, digits_lt c.requires.bits_bound.1 c.loop-x-test.true, area c.args.bits c.requires.bits_bound.0)

  read : get_or cell.grid (c.grid_index-first.result + c.loop-x.x) 0 ≡ grey cell k
  read =
      let index : c.grid_index-first.result + c.loop-x.x ≡ grid_index c.args.bits c.args.border p = omega (arith, c.grid_index-first.ensures) in
      read_grey cell k (c.grid_index-first.result + c.loop-x.x) p index (sym (place-index c.args.bits p c.loop-x-test.true))

  at : 2 * (c.args.y * c.args.bits) + 2 * c.loop-x.x ≡ 2 * k
  at = omega arith

  zeros : c.entry.result ≡ likelihood table cell k 0
  zeros = c.entry.ensures ∙ ap (λ (g : ℕ). entry table g c.args.threshold) read

  ones : c.entry-in-loop-x.result ≡ likelihood table cell k 1
  ones = c.entry-in-loop-x.ensures ∙ ap (entry table c.args.threshold) read

pub loop-x-preserved : goal.loop-x-preserved
loop-x-preserved c =
    let l = c.loop-x in
    let zero_is = c.entry.result in
    let one_is = c.entry-in-loop-x.result in (
      simp length-set l.invariant.0,
      rw (at c, ← add_assoc)
          (holds_next (table c) (cell c) (k c) l.likelihoods zero_is one_is l.invariant.1 (rw l.invariant.0 (omega (arith, small c))) (zeros c) (ones c)),
      rw (at c, ← add_assoc) (kept_next (k c) l.likelihoods zero_is one_is c.args.likelihoods.now l.invariant.2),
    )

pub returns : goal.returns
returns c =
    let l = c.loop-x in record {
      holds = λ k h. l.invariant.1 k (omega (arith, h, c.loop-x-test.false));
      rest = λ i h. l.invariant.2 i (omega (arith, h));
    }
