-- `score_matrix::turned::source_bits` meets its contract. The loop's invariant: the array holds the sources of the first k bits, and `p` is the
-- place of the next. Assumes nothing.
use mathlib.Core.Path.{◌≡◌, refl, ap, ◌∙◌}
use native.Mathlib.Omega.{arith}
use lib.ListN.{get_or, set, length-set}
use lib.Seq.{get_or-set_same, get_or-set_other}
use borrow.Author.Count.{below_none, below_more}
use Rattle.matcher.specs.Codes.{index_of, source, source_bit}
use Rattle.score_matrix.proofs.Places.{Here, here, first-place}
use Rattle.score_matrix.proofs.turned.source_bits.Goals as goal
use Rattle.score_matrix.proofs.turned.source_bits.Goals.{In-loop-k, Start}

pub loop-k-init : goal.loop-k-init
loop-k-init c = (first-place c.args.bits, refl, below_none _)

-- in the loop
at : (c : In-loop-k) → Here c.args.bits c.loop-k.k c.loop-k.p
at c = here c.args.bits c.loop-k.k c.loop-k.p c.requires c.loop-k-test.true c.loop-k.invariant.0

pub source_bit-requires : goal.source_bit-requires
source_bit-requires c = (c.requires, (at c).inside.column, (at c).inside.row)

pub next_place-p-requires : goal.next_place-p-requires
next_place-p-requires c =
    let h = (at (goal.at.next_place-p-requires c).In-loop-k).inside in
    (c.requires, h.column, h.row)

pub loop-k-preserved : goal.loop-k-preserved
loop-k-preserved c =
    let b = c.args.bits in
    let r = c.args.turn in
    let before = c.loop-k.sources in
    let x = c.source_bit.result in
    let held = c.loop-k.invariant in (
      c.next_place-p.ensures c.loop-k.k held.0,
      length-set before c.loop-k.k x ∙ held.1,
      below_more (λ j. get_or (set before c.loop-k.k x) j 0 ≡ source_bit b r j) c.loop-k.k
          (λ j h. get_or-set_other before c.loop-k.k j x 0 (λ e. absurd (omega (arith, h, e))) ∙ held.2 j h)
          (get_or-set_same before c.loop-k.k x 0 (rw held.1 (at (goal.at.loop-k-preserved c).In-loop-k).small) ∙ c.source_bit.ensures
          ∙ ap (λ p. index_of b (source b r p)) held.0),
    )
