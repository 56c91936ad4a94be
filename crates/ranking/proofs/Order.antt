-- The order of finite evidence: "below" is irreflexive, and "below" and "not below" are transitive. Assumes nothing.
use mathlib.Core.Path.{◌≡◌, refl}
use Prim.Native.Nat.{ℕ}
use native.Mathlib.Omega.{arith}
use mathlib.Core.Bool.{Bool, true, false}
use Rattle.floats.proofs.Order.{lt_self, lt_trans, not_lt_trans}
use Rattle.ranking.specs.declared.Evidence.{Evidence}
use Rattle.ranking.specs.declared.Evidence.TheVariants as evidence
use Rattle.ranking.specs.Greatest.{lies_below}
use Rattle.ranking.specs.Rules.{FiniteEvidence}

-- a test does not both fail and pass
pub clash : (t : Bool) → t ≡ false → t ≡ true → ⊥
clash t p q = let z : ◌≡◌ {A = ℕ} 0 1 = cc in omega arith

pub below_self : (x : Evidence) → FiniteEvidence x → lies_below x x ≡ false
below_self evidence.Absent h = refl
below_self (evidence.Number x) h = lt_self x h

pub below_trans : (x y z : Evidence) → FiniteEvidence x → FiniteEvidence y → FiniteEvidence z → lies_below x y ≡ true → lies_below y z ≡ true
    → lies_below x z ≡ true
below_trans x y evidence.Absent x₀ y₀ z₀ p q = absurd (clash false refl q)
below_trans x evidence.Absent (evidence.Number z) x₀ y₀ z₀ p q = absurd (clash false refl p)
below_trans evidence.Absent (evidence.Number y) (evidence.Number z) x₀ y₀ z₀ p q = refl
below_trans (evidence.Number x) (evidence.Number y) (evidence.Number z) x₀ y₀ z₀ p q = lt_trans x y z x₀ y₀ z₀ p q

pub not_below_trans : (x y z : Evidence) → FiniteEvidence x → FiniteEvidence y → FiniteEvidence z → lies_below x y ≡ false → lies_below y z ≡ false
    → lies_below x z ≡ false
not_below_trans x y evidence.Absent x₀ y₀ z₀ p q = refl
not_below_trans x evidence.Absent (evidence.Number z) x₀ y₀ z₀ p q = absurd (clash true q refl)
not_below_trans evidence.Absent (evidence.Number y) (evidence.Number z) x₀ y₀ z₀ p q = absurd (clash true p refl)
not_below_trans (evidence.Number x) (evidence.Number y) (evidence.Number z) x₀ y₀ z₀ p q = not_lt_trans x y z x₀ y₀ z₀ p q

-- asymmetry
pub below_one_way : (x y : Evidence) → FiniteEvidence x → FiniteEvidence y → lies_below x y ≡ true → lies_below y x ≡ false
below_one_way x y x₀ y₀ p = go (lies_below y x) refl
  where
    go : (t : Bool) → lies_below y x ≡ t → t ≡ false
    go false q = refl
    go true q = absurd (clash (lies_below x x) (below_self x x₀) (below_trans x y x x₀ y₀ x₀ p q))
