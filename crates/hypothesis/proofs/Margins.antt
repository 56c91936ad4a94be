-- The margin of the search is at least 0, so never NaN: reported evidence is small and the capacity is finite. Assumes nothing.
use mathlib.Core.Path.{◌≡◌, refl, sym, subst}
use mathlib.Core.List.{List, [], ◌∷◌, map}
use mathlib.Core.Bool.{false, not}
use lib.Dec.{T}
use lib.Ieee.{le, is_nan}
use Rattle.floats.specs.Units.{nought}
use Rattle.floats.proofs.Signs.{nonnegative_not_nan}
use Rattle.grid_alignment.specs.declared.GridAlignment.{GridAlignment}
use Rattle.shot_record.specs.Shots.{Shot}
use Rattle.ranking.specs.declared.Evidence.{Evidence}
use Rattle.ranking.specs.declared.Hypothesis.{Hypothesis}
use Rattle.ranking.specs.Greatest.{lies_below, rest}
use Rattle.ranking.specs.Margin.{margin}
use Rattle.ranking.proofs.Margins.{Small, SmallNext, margin_nonnegative}
use Rattle.ranking.proofs.Members.{Every, Of, first-has, rest_has, runner_up-not_above}
use Rattle.hypothesis.specs.Evidence.{reported, capacity}
use Rattle.hypothesis.specs.Placements.{placements}
use Rattle.hypothesis.specs.Search.{hypothesis, hypotheses, best, runner_up}
use Rattle.hypothesis.specs.Accuracy.{Checked}
use Rattle.hypothesis.proofs.Partial.{capacity_item}
use Rattle.hypothesis.proofs.Accuracy.{reported-small}
use Rattle.hypothesis.proofs.Turned.{all_finite}
use Rattle.std.specs.Prelude.{Option, Some, None}

-- ---- a placement with its reported evidence
abbrev Reported : Shot → Hypothesis → Type 0
Reported s h = h.evidence ≡ reported s h.alignment

all_reported : (s : Shot) (ps : List GridAlignment) → Every (Reported s) (map (hypothesis s) ps)
unfolding Every
all_reported s [] = tt
all_reported s (p ∷ ps) = (refl, all_reported s ps)

module _ (s : Shot) (c : Checked s) where
  small : (h : Hypothesis) → Reported s h → Small h.evidence
  small h e = subst Small (sym e) (reported-small s c h.alignment)

  small_next : (b : Evidence) (next : Option Hypothesis) → Of (Reported s) next → Of (λ h. lies_below b h.evidence ≡ false) next → SmallNext b next
  small_next b None h k = tt
  small_next b (Some g) h k = (small g h, k)

  -- best and runner-up are among the placements, and the runner-up does not rank above the best: so the margin is at least 0, and a number
  module _ (b : Hypothesis) (is : best s ≡ Some b) where
    pub margin_at-least_0 : T (le nought (margin b.evidence (capacity s b.alignment) (runner_up s)))
    margin_at-least_0 =
        let a = all_reported s (placements s) in
        let i = capacity_item s c b.alignment in
        let next = first-has (Reported s) (rest (hypotheses s)) (rest_has (Reported s) (hypotheses s) a) in
        margin_nonnegative b.evidence (capacity s b.alignment) (runner_up s) i.holds i.is_finite
        (small b (subst (Of (Reported s)) is (first-has (Reported s) (hypotheses s) a)))
        (small_next b.evidence (runner_up s) next (runner_up-not_above (hypotheses s) b (all_finite s c (placements s)) is))

    pub margin-is-number : T (not (is_nan (margin b.evidence (capacity s b.alignment) (runner_up s))))
    margin-is-number = nonnegative_not_nan (margin b.evidence (capacity s b.alignment) (runner_up s)) margin_at-least_0
