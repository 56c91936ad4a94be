-- Document 01's accuracy rule: reported evidence is finite and near the exact one, and a lead of more than twice the bound is a true lead. Assumes
-- nothing.
use Prim.Native.Nat.{ℕ, ◌*◌, ◌^◌}
use native.Mathlib.Omega.{arith}
use mathlib.Core.Path.{◌≡◌, refl, subst}
use mathlib.Core.List.{List, [], ◌∷◌}
use mathlib.Core.Option.{none, some, none-ne-some, some-ne-none}
use lib.IntN.{ℤ, pos, ◌-ℤ◌}
use lib.Signed.{◌<ℤ◌, lt_z_yes}
use lib.Ieee.{Float, binary32}
use Rattle.integers.proofs.Parts.{plus, minus, sub_is_parts}
use Rattle.integers.proofs.Distances.{Near, near→within, lt_z→Lt, Lt→ltZ}
use Rattle.floats.proofs.Folds.{Item}
use Rattle.grid_alignment.specs.declared.GridAlignment.{GridAlignment}
use Rattle.shot_record.specs.Shots.{Shot}
use Rattle.ranking.specs.declared.Evidence.{Evidence}
use Rattle.ranking.specs.declared.Evidence.TheVariants as evidence
use Rattle.ranking.specs.Rules.{FiniteEvidence}
use Rattle.ranking.proofs.Margins.{Small}
use Rattle.hypothesis.specs.Evidence.{Contribution, contributions, reported_sum, exact_sum, reported_over, reported, exact_over, exact}
use Rattle.hypothesis.specs.Accuracy.{Checked, AccuracyRule, bound, wide}
use Rattle.hypothesis.proofs.Partial.{reported_item, reported-near}

-- ---- from the list of contributing cells
module _ (s : Shot) (r : ℕ) where
  none_if : (cs : List Contribution) → exact_over s r cs ≡ none → reported_over s r cs ≡ evidence.Absent
  none_if [] e = refl
  none_if (c ∷ cs) e = absurd (some-ne-none _ e)

  none_only_if : (cs : List Contribution) → reported_over s r cs ≡ evidence.Absent → exact_over s r cs ≡ none
  none_only_if [] e = refl
  none_only_if (c ∷ cs) e = absurd (let o : ◌≡◌ {A = ℕ} 0 1 = cc in omega arith)

  has-number : (cs : List Contribution) (z : ℤ) → exact_over s r cs ≡ some z → (x : Float) × (reported_over s r cs ≡ evidence.Number x)
  has-number [] z e = absurd (none-ne-some z e)
  has-number (c ∷ cs) z e = (_, refl)

  small : (cs : List Contribution) → Item binary32 (2 ^ 166) (reported_sum s r cs) → Small (reported_over s r cs)
  small [] i = tt
  small (c ∷ cs) i = i

  both : (cs : List Contribution) (d : ℕ) → Near (wide (reported_sum s r cs)) (exact_sum s r cs) d → (x : Float) (z : ℤ)
      → reported_over s r cs ≡ evidence.Number x → exact_over s r cs ≡ some z → Near (wide x) z d
  both [] d h x z e f = absurd (let o : ◌≡◌ {A = ℕ} 0 1 = cc in omega arith)
  both (c ∷ cs) d h x z e f =
      let p : reported_sum s r (c ∷ cs) ≡ x = cc in
      let q : exact_sum s r (c ∷ cs) ≡ z = cc in
      subst (λ (u : ℤ). Near (wide x) u d) q (subst (λ (u : Float). Near (wide u) (exact_sum s r (c ∷ cs)) d) p h)

-- ---- small and finite evidence
small_finite : (x : Evidence) → Small x → FiniteEvidence x
small_finite evidence.Absent h = tt
small_finite (evidence.Number x) h = h.is_finite

module _ (s : Shot) (c : Checked s) (p : GridAlignment) where
  pub reported-small : Small (reported s p)
  unfolding reported
  reported-small = small s p.turn (contributions s p) (reported_item s c p)

  pub reported_finite : FiniteEvidence (reported s p)
  reported_finite = small_finite (reported s p) reported-small

-- ---- a lead
-- x is near e, y is near z
leads : (d : ℕ) (x y e z : ℤ) → Near x e d → Near y z d → pos (2 * d) <ℤ (x -ℤ y) → z <ℤ e
unfolding plus minus
leads d x y e z h k l = lt_z_yes (Lt→ltZ z e (omega (arith, sub_is_parts x y, lt_z→Lt (pos (2 * d)) (x -ℤ y) l.lt)))

-- ---- the rule
module _ (s : Shot) (c : Checked s) where
  near : (p : GridAlignment) (x : Float) (z : ℤ) → reported s p ≡ evidence.Number x → exact s p ≡ some z → Near (wide x) z (bound s)
  unfolding reported exact
  near p = both s p.turn (contributions s p) (bound s) (reported-near s c p)

  number_of : (p : GridAlignment) (z : ℤ) → exact s p ≡ some z → (x : Float) × (reported s p ≡ evidence.Number x)
  unfolding reported exact
  number_of p = has-number s p.turn (contributions s p)

pub accuracy : AccuracyRule
unfolding reported exact
accuracy s c =
    record {
      none_if = λ p _. none_if s p.turn (contributions s p);
      none_only_if = λ p _. none_only_if s p.turn (contributions s p);
      is_finite = λ p _ x e. subst FiniteEvidence e (reported_finite s c p);
      near = λ p _ x z e f. near→within (near s c p x z e f);
      true_lead = λ b x e _ hx he lead q at other z hz.
          let y = number_of s c q z hz in
          leads (bound s) (wide x) (wide y.0) e z (near s c b.alignment x e hx he) (near s c q y.0 z y.1 hz) (lead q at other y.0 y.1);
    }
