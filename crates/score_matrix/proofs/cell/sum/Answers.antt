-- `score_matrix::cell::sum` meets its contract. The loop's invariant: `total` is the sum of the first k terms, and `rest` has the bits from k on.
-- Assumes nothing.
use mathlib.Core.Path.{refl, sym, ap, ◌∙◌}
use Prim.Native.Nat.{ℕ, ◌+◌, ◌*◌, ◌/◌, ◌%◌, ◌^◌}
use native.Mathlib.Nat.{div-one, div-div-eq-div-mul, pow-suc}
use native.Mathlib.Numerals.{add-one}
use lib.ListN.{get_or}
use lib.Ieee.{nan, binary32, add, of_bits, of_fields, odd}
use Rattle.floats.specs.Units.{sum_to}
use Rattle.score_matrix.specs.Likelihoods.{picked}
use Rattle.score_matrix.proofs.Likelihoods.{one_more_term}
use Rattle.score_matrix.proofs.cell.sum.Goals as goal

pub loop-k-init : goal.loop-k-init
unfolding sum_to of_bits of_fields odd
loop-k-init c = (refl, sym (div-one c.args.code))

pub loop-k-preserved : goal.loop-k-preserved
loop-k-preserved c =
    let code = c.args.code in
    let l = c.args.likelihoods.now in
    let k = c.loop-k.k in (
      one_more_term (picked l code) k c.loop-k.total _ c.loop-k.invariant.0
          (ap (λ (r : ℕ). add binary32 c.loop-k.total (get_or l (2 * k + r % 2) nan)) c.loop-k.invariant.1),
      ap (λ (r : ℕ). r / 2) c.loop-k.invariant.1 ∙ div-div-eq-div-mul code (2 ^ k) 2
          ∙ ap (λ (d : ℕ). code / d) (sym (pow-suc 2 k) ∙ ap (λ (n : ℕ). 2 ^ n) (sym (add-one k))),
    )
