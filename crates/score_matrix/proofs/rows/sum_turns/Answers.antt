-- `score_matrix::rows::sum_turns` meets its contract. The loop's invariant: each sum is that of the first k bits' parts. Assumes nothing.
use Prim.Native.Nat.{◌+◌, ◌*◌}
use native.Mathlib.Omega.{arith}
use lib.ListN.{get_or}
use lib.ListN.{get_or-replicate}
use lib.Ieee.{nan, binary32, of_bits}
use Rattle.floats.specs.Units.{sum_to}
use Rattle.matcher.proofs.Turns.{source_bit-below}
use Rattle.score_matrix.specs.Rows.{picked_row}
use Rattle.score_matrix.proofs.Likelihoods.{one_more_term}
use Rattle.score_matrix.proofs.Places.{area}
use Rattle.score_matrix.proofs.rows.sum_turns.Goals as goal
use Rattle.score_matrix.proofs.rows.sum_turns.Goals.{In-loop-k}

pub loop-k-init : goal.loop-k-init
unfolding sum_to of_bits
loop-k-init c = λ r x h l. get_or-replicate 32 (8 * r + x) (of_bits binary32 0) nan (omega (arith, h, l))

pub add_bit-requires : goal.add_bit-requires
add_bit-requires c =
    let k = c.loop-k.k in
    let bits = c.args.bits in (
      omega (arith, c.loop-k-test.true, area bits c.requires.0),
      λ r h. rw (c.requires.1 r k h c.loop-k-test.true) (omega (arith, source_bit-below bits r k c.loop-k-test.true, area bits c.requires.0)),
    )

pub loop-k-preserved : goal.loop-k-preserved
loop-k-preserved c r x h g =
    let l = c.loop-k in
    let a = c.args in
    one_more_term (picked_row a.rows.now a.sources.now a.code x r) l.k (get_or l.sums (8 * r + x) nan)
    (get_or c.add_bit.new.sums (8 * r + x) nan) (l.invariant r x h g) (c.add_bit.ensures r x h g)
