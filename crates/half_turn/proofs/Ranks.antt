-- The best and the runner-up of a shot among its placements: none is above the best, and only the best may be above the runner-up. Assumes nothing.
use mathlib.Core.Path.{◌≡◌, refl, sym, ap, ◌∙◌}
use mathlib.Core.Logic.{◌⊎◌, inl, inr}
use mathlib.Core.Bool.{false}
use mathlib.Core.List.{List, [], ◌∷◌, ◌++◌, map}
use mathlib.Core.Option.{some, none-ne-some, some-injective}
use Prim.Native.Nat.{ℕ, zero, suc}
use native.Mathlib.Nat.{eq-or-lt_of_le}
use native.Mathlib.Omega.{arith}
use lib.ListN.{take, drop, get_elem?}
use Rattle.integers.proofs.Distances.{lt_or_le}
use Rattle.grid_alignment.specs.declared.GridAlignment.{GridAlignment}
use Rattle.shot_record.specs.Shots.{Shot}
use Rattle.ranking.specs.declared.Hypothesis.{Hypothesis}
use Rattle.ranking.specs.Greatest.{lies_below, first_greatest, rest}
use Rattle.ranking.specs.Rules.{FiniteEvidence, AllFinite, IsFirstGreatest}
use Rattle.ranking.proofs.Greatest.{empty, greatest_rule}
use Rattle.ranking.proofs.Members.{Every, every-at, rest_has}
use Rattle.hypothesis.specs.Placements.{placements}
use Rattle.hypothesis.specs.Evidence.{reported}
use Rattle.hypothesis.specs.Search.{hypothesis, hypotheses, best, runner_up}
use Rattle.hypothesis.specs.Accuracy.{Placement, Checked}
use Rattle.hypothesis.proofs.Best.{runner_up-placed}
use Rattle.hypothesis.proofs.Turned.{all_finite}
use Rattle.std.specs.Prelude.{Some, None}

-- ---- lists
in_map : {A B : Type 0} (g : A → B) (xs : List A) (k : ℕ) (x : A) → get_elem? xs k ≡ some x → get_elem? (map g xs) k ≡ some (g x)
in_map g [] k x e = absurd (none-ne-some x e)
in_map g (y ∷ xs) zero x e = let is : y ≡ x = cc in ap (λ (z : _). some (g z)) is
in_map g (y ∷ xs) (suc k) x e = in_map g xs k x e

of_map : {A B : Type 0} (g : A → B) (xs : List A) (k : ℕ) (y : B) → get_elem? (map g xs) k ≡ some y → (x : A) × (get_elem? xs k ≡ some x) × (g x ≡ y)
of_map g [] k y e = absurd (none-ne-some y e)
of_map g (x ∷ xs) zero y e = (x, refl, cc)
of_map g (x ∷ xs) (suc k) y e = of_map g xs k y e

-- an element at another index than p is in the list without index p
kept : {A : Type 0} (xs : List A) (p j : ℕ) (x : A) → get_elem? xs j ≡ some x → (j ≡ p → ⊥) → (k : ℕ) × (get_elem? (take p xs ++ drop (suc p) xs) k ≡ some x)
kept [] p j x e n = absurd (none-ne-some x e)
kept (y ∷ xs) zero zero x e n = absurd (n refl)
kept (y ∷ xs) zero (suc j) x e n = (j, e)
kept (y ∷ xs) (suc p) zero x e n = (0, e)
kept (y ∷ xs) (suc p) (suc j) x e n = let r = kept xs p j x e (λ z. n (ap suc z)) in (suc r.0, r.1)

at_every : (P : Hypothesis → Type 0) (hs : List Hypothesis) → Every P hs → (k : ℕ) (h : Hypothesis) → get_elem? hs k ≡ some h → P h
unfolding Every
at_every P [] a k h e = absurd (none-ne-some h e)
at_every P (g ∷ hs) a zero h e = let is : g ≡ h = cc in rw (← is) a.0
at_every P (g ∷ hs) a (suc k) h e = at_every P hs a.1 k h e

-- ---- the two placements
pub record IsBest (s : Shot) (b : Hypothesis) : Type 0 where
  pub placed : Placement s b.alignment
  pub is : hypothesis s b.alignment ≡ b
  pub most : (q : GridAlignment) → Placement s q → lies_below b.evidence (reported s q) ≡ false

pub record IsNext (s : Shot) (b g : Hypothesis) : Type 0 where
  pub placed : Placement s g.alignment
  pub other : g.alignment ≡ b.alignment → ⊥
  pub is : hypothesis s g.alignment ≡ g
  pub most : (q : GridAlignment) → Placement s q → (q ≡ b.alignment → ⊥) → lies_below g.evidence (reported s q) ≡ false

-- without a best there is no placement, so no runner-up
pub none_next : (s : Shot) → best s ≡ None → runner_up s ≡ None
unfolding first_greatest rest
none_next s e = ap (λ (l : List Hypothesis). first_greatest (rest l)) (empty (hypotheses s) e)

module _ (s : Shot) (c : Checked s) where
  pub no_best : best s ≡ None → (q : GridAlignment) → Placement s q → ⊥
  no_best e q (k, at) =
      none-ne-some (hypothesis s q)
      (sym (ap (λ (l : List Hypothesis). get_elem? l k) (empty (hypotheses s) e)) ∙ in_map (hypothesis s) (placements s) k q at)

  module _ (b : Hypothesis) (is : best s ≡ Some b) where
    f : IsFirstGreatest (hypotheses s) b
    f = greatest_rule (hypotheses s) b (all_finite s c (placements s)) is

    pub best_is : IsBest s b
    best_is =
        let x = of_map (hypothesis s) (placements s) f.place b f.there in
        let same = ap (λ (h : Hypothesis). h.alignment) x.2 in
        record {
          placed = (f.place, x.1 ∙ ap some same);
          is = ap (hypothesis s) (sym same) ∙ x.2;
          most = λ q at. f.greatest at.0 (hypothesis s q) (in_map (hypothesis s) (placements s) at.0 q at.1);
        }

    -- a placement is the best or one of the rest
    pub best_or_rest : (q : GridAlignment) → Placement s q → (q ≡ b.alignment) ⊎ ((k : ℕ) × (get_elem? (rest (hypotheses s)) k ≡ some (hypothesis s q)))
    best_or_rest q (j, at) = elim (lt_or_le j f.place) [
      | inl l ↦ inr (others (λ z. omega (arith, l, z)))
      | inr g ↦ elim (eq-or-lt_of_le g) [
        | inl e ↦ inl (ap (λ (h : Hypothesis). h.alignment)
            (some-injective (hypothesis s q) b (sym here ∙ ap (get_elem? (hypotheses s)) (sym e) ∙ f.there)))
        | inr l ↦ inr (others (λ z. omega (arith, l, z)))
      ]
    ]
      where
        here : get_elem? (hypotheses s) j ≡ some (hypothesis s q)
        here = in_map (hypothesis s) (placements s) j q at

        others : (j ≡ f.place → ⊥) → (k : ℕ) × (get_elem? (rest (hypotheses s)) k ≡ some (hypothesis s q))
        others n =
            let r = kept (hypotheses s) f.place j (hypothesis s q) here n in
            (r.0, ap (λ (l : List Hypothesis). get_elem? l r.0) f.others ∙ r.1)

    pub no_next : runner_up s ≡ None → (q : GridAlignment) → Placement s q → q ≡ b.alignment
    no_next e q at = elim (best_or_rest q at) [
      | inl same ↦ same
      | inr (k, there) ↦
          absurd (none-ne-some (hypothesis s q) (sym (ap (λ (l : List Hypothesis). get_elem? l k) (empty (rest (hypotheses s)) e)) ∙ there))
    ]

    rest_finite : AllFinite (rest (hypotheses s))
    rest_finite =
        let P : Hypothesis → Type 0 = λ h. FiniteEvidence h.evidence in
        at_every P (rest (hypotheses s)) (rest_has P (hypotheses s) (every-at P (hypotheses s) (all_finite s c (placements s))))

    -- none of the rest is above the runner-up
    pub rest-most : (g : Hypothesis) → runner_up s ≡ Some g → (k : ℕ) (q : GridAlignment) → get_elem? (rest (hypotheses s)) k ≡ some (hypothesis s q)
        → lies_below g.evidence (reported s q) ≡ false
    rest-most g next k q at = (greatest_rule (rest (hypotheses s)) g rest_finite next).greatest k (hypothesis s q) at

    pub next_is : (g : Hypothesis) → runner_up s ≡ Some g → IsNext s b g
    next_is g next =
        let r = runner_up-placed s c b g is next in
        record {
          placed = r.placed;
          other = r.other;
          is = λ i. record { alignment = g.alignment; evidence = sym r.evidence_is i; contributing_cells = sym r.count_is i };
          most = λ q at n. elim (best_or_rest q at) [ inl same ↦ absurd (n same) | inr (k, there) ↦ rest-most g next k q there ];
        }
