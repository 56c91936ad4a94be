-- `score_matrix::rows::four_sources` meets its contract. The loop's invariant: the bit positions of the first turns are written. Assumes nothing.
use mathlib.Core.Path.{◌≡◌, ◌∙◌}
use Prim.Native.Nat.{ℕ, ◌+◌, ◌*◌, ◌<◌}
use native.Mathlib.Omega.{arith}
use lib.ListN.{get_or}
use borrow.Author.Count.{below_more}
use Rattle.matcher.specs.Codes.{source_bit}
use Rattle.score_matrix.proofs.Places.{area}
use Rattle.score_matrix.proofs.rows.four_sources.Goals as goal

pub loop-turn-preserved : goal.loop-turn-preserved
loop-turn-preserved c =
    let l = c.loop-turn in
    let bits = c.args.bits in
    let small = area bits c.requires in
    let w = c.put_sources.ensures in
    let last = c.put_sources.new.sources in
    below_more (λ r. (k : ℕ) → k < bits * bits → get_or last (64 * r + k) 0 ≡ source_bit bits r k) l.turn
    (λ r h k g. w.kept (64 * r + k) (λ j n e. absurd (omega (arith, small, h, g, n, e))) ∙ l.invariant r h k g)
    (λ k g. w.done k (omega (arith, small, g)) ∙ c.source_bits-part.ensures k g)
