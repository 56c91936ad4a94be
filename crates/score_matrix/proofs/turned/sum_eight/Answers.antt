-- `score_matrix::turned::sum_eight` meets its contract. The loop's invariant: each score is the sum of the first k terms of its code.
-- Assumes nothing.
use mathlib.Core.Path.{◌≡◌, refl, sym, ap, ◌∙◌}
use mathlib.Core.List.{List}
use Prim.Native.Nat.{ℕ, zero, suc, ◌+◌, ◌*◌, ◌<◌}
use native.Mathlib.Nat.{add-zero}
use native.Mathlib.Omega.{arith}
use lib.ListN.{get_or, get_or-replicate}
use lib.Ieee.{Float, nan, binary32, add, of_bits}
use Rattle.floats.specs.Units.{sum_to}
use Rattle.matcher.specs.Codes.{bit}
use Rattle.matcher.proofs.Bits.{bit-small}
use Rattle.score_matrix.specs.Likelihoods.{by_bit, picked_from, lane_code}
use Rattle.score_matrix.proofs.Likelihoods.{one_more_term}
use Rattle.score_matrix.proofs.turned.sum_eight.Goals as goal
use Rattle.score_matrix.proofs.turned.sum_eight.Goals.{After-add_bit, In-loop-k}

pub loop-k-init : goal.loop-k-init
unfolding sum_to of_bits
loop-k-init c = λ x h. get_or-replicate 8 x (of_bits binary32 0) nan h

-- `by_bit` is an element of the list
by_bit_lem : (l : List Float) (k b : ℕ) → b < 2 → by_bit b (get_or l (2 * k) nan) (get_or l (2 * k + 1) nan) ≡ get_or l (2 * k + b) nan
by_bit_lem l k zero h = ap (λ (i : ℕ). get_or l i nan) (sym (add-zero (2 * k)))
by_bit_lem l k (suc zero) h = refl
by_bit_lem l k (suc (suc b)) h = absurd (omega arith)

pub loop-k-preserved : goal.loop-k-preserved
loop-k-preserved c x h =
    let l = c.loop-k in
    let a = c.args in
    let code = lane_code a.lanes.now x in
    let s = get_or a.sources.now l.k 0 in
    one_more_term (picked_from a.likelihoods.now a.sources.now code) l.k (get_or l.sums x nan) (get_or c.add_bit.new.sums x nan) (l.invariant x h)
    (c.add_bit.ensures x h ∙ ap (add binary32 (get_or l.sums x nan)) (by_bit_lem a.likelihoods.now l.k (bit code s) (bit-small code s)))
