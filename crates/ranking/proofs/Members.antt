-- What holds of every placement of a list holds of its first greatest and of every placement of the rest. Assumes nothing.
use mathlib.Core.Path.{◌≡◌, refl}
use Prim.Native.Nat.{ℕ, suc}
use mathlib.Core.List.{List, [], ◌∷◌}
use mathlib.Core.Option.{some}
use mathlib.Core.Bool.{Bool, true, false, cond}
use lib.ListN.{get_elem?}
use Rattle.ranking.specs.declared.Hypothesis.{Hypothesis}
use Rattle.ranking.specs.Greatest.{lies_below, over, first_greatest, rest_over, rest}
use Rattle.ranking.specs.Rules.{AllFinite}
use Rattle.ranking.proofs.Greatest.{greatest_rule}
use Rattle.std.specs.Prelude.{Option, Some, None}

unfoldable pub Every : (Hypothesis → Type 0) → List Hypothesis → Type 0
Every P [] = Unit {0}
Every P (h ∷ hs) = P h × Every P hs

abbrev pub Of : (Hypothesis → Type 0) → Option Hypothesis → Type 0
Of P None = Unit {0}
Of P (Some h) = P h

module _ (P : Hypothesis → Type 0) where
  pub every-at : (hs : List Hypothesis) → ((k : ℕ) (h : Hypothesis) → get_elem? hs k ≡ some h → P h) → Every P hs
  unfolding Every
  every-at [] f = tt
  every-at (h ∷ hs) f = (f 0 h refl, every-at hs (λ k. f (suc k)))

  over-has : (h : Hypothesis) (c : Option Hypothesis) → P h → Of P c → Of P (over h c)
  over-has h None p q = p
  over-has h (Some g) p q = go (lies_below h.evidence g.evidence)
    where
      go : (b : Bool) → Of P (cond b (Some g) (Some h))
      go true = q
      go false = p

  pub first-has : (hs : List Hypothesis) → Every P hs → Of P (first_greatest hs)
  unfolding Every first_greatest
  first-has [] a = tt
  first-has (h ∷ hs) a = over-has h (first_greatest hs) a.0 (first-has hs a.1)

  pub rest_has : (hs : List Hypothesis) → Every P hs → Every P (rest hs)
  unfolding Every first_greatest rest
  rest_has [] a = tt
  rest_has (h ∷ hs) a = without (rest_has hs a.1) (first_greatest hs)
    where
      either : Every P (rest hs) → (b : Bool) → Every P (cond b (h ∷ rest hs) hs)
      either others true = (a.0, others)
      either others false = a.1

      without : Every P (rest hs) → (c : Option Hypothesis) → Every P (rest_over h hs (rest hs) c)
      without others None = a.1
      without others (Some g) = either others (lies_below h.evidence g.evidence)

-- the runner-up is not above the best
pub runner_up-not_above : (hs : List Hypothesis) (b : Hypothesis) → AllFinite hs → first_greatest hs ≡ Some b
    → Of (λ h. lies_below b.evidence h.evidence ≡ false) (first_greatest (rest hs))
runner_up-not_above hs b f e =
    let P : Hypothesis → Type 0 = λ h. lies_below b.evidence h.evidence ≡ false in
    first-has P (rest hs) (rest_has P hs (every-at P hs (greatest_rule hs b f e).greatest))
