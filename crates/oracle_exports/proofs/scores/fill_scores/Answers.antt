-- `oracle_exports::scores::fill_scores` meets its contract. The loop's invariant: the first i elements are written. Assumes nothing.
use mathlib.Core.Path.{◌≡◌, ◌∙◌}
use mathlib.Core.List.{List}
use Prim.Native.Nat.{ℕ, ◌+◌, ◌<◌}
use native.Mathlib.Omega.{arith}
use lib.ListN.{length, get_or, set, length-set}
use lib.Seq.{get_or-set_same, get_or-set_other}
use lib.Ieee.{Float, nan}
use borrow.Author.Count.{below_none, below_more}
use Rattle.oracle_exports.proofs.scores.fill_scores.Invariants.{sum_of}
use Rattle.oracle_exports.proofs.scores.fill_scores.Goals as goal

-- one more element
next : (out : List Float) (f : ℕ → Float) (i : ℕ) (x : Float) → i < length out → x ≡ f i → ((j : ℕ) → j < i → get_or out j nan ≡ f j) → (j : ℕ)
    → j < i + 1 → get_or (set out i x) j nan ≡ f j
next out f i x h e before =
    below_more (λ j. get_or (set out i x) j nan ≡ f j) i (λ j l. get_or-set_other out i j x nan (λ d. absurd (omega (arith, d))) ∙ before j l)
    (get_or-set_same out i x nan h ∙ e)

pub loop-i-init : goal.loop-i-init
loop-i-init c = below_none _

pub loop-i-preserved : goal.loop-i-preserved
loop-i-preserved c =
    let a = c.args in
    next c.loop-i.out (λ j. sum_of a.likelihoods.now a.bits (get_or a.codes.now j 0)) c.loop-i.i c.sum.result (omega (arith, c.min-i-end.ensures)) c.sum.ensures
    c.loop-i.invariant

pub returns : goal.returns
returns c =
    record { long = c.loop-i.auto.out; holds = λ i h k. c.loop-i.invariant i (omega (arith, h, k, c.min-i-end.ensures)) }
