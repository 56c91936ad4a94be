-- The corner chosen for an id among the first n has the greatest score, and is the first with it. Assumes nothing.
use mathlib.Core.Path.{◌≡◌, refl, sym, ap, subst, ◌∙◌}
use mathlib.Core.Bool.{Bool, true, false}
use mathlib.Core.List.{List, [], ◌∷◌}
use mathlib.Core.Logic.{◌⊎◌, inl, inr}
use mathlib.Core.Option.{Option, none, some}
use Prim.Native.Nat.{ℕ, zero, suc, ◌≤◌, ◌<◌}
use native.Mathlib.Nat.{eq-or-lt_of_le, le_of_suc-le-suc}
use native.Mathlib.Omega.{arith}
use lib.Dec.{T}
use lib.ListN.{length}
use lib.Ieee.{Float, lt}
use lib.Ieee.Scale.{finite as is_finite}
use Rattle.std.proofs.lemmas.Bool.{both_ways, false_from_ne_true, true_from_ne_false}
use Rattle.floats.specs.Units.{Finite}
use Rattle.floats.proofs.Order.{lt_self, lt_trans, not_lt_trans}
use Rattle.integers.proofs.Tests.{both}
use Rattle.marker_sampling.specs.Entry.{finite_scores}
use Rattle.corner_mapping.specs.Corners.{Input, bears, score_of, greater, replaced, chosen_to}
use Rattle.corner_mapping.specs.Rules.{GreatestScore}
use Rattle.corner_mapping.proofs.Choices.{passed, met}

finite_at : (scores : List Float) (k : ℕ) → finite_scores scores ≡ true → k < length scores → Finite (score_of scores k)
finite_at [] k e h = absurd (omega arith)
finite_at (s ∷ ss) zero e h = subst T (sym (both (is_finite s) (finite_scores ss) e).0) tt
finite_at (s ∷ ss) (suc k) e h = finite_at ss k (both (is_finite s) (finite_scores ss) e).1 (le_of_suc-le-suc h)

module _ (x : Input) (id : ℕ) where
  abbrev score : ℕ → Float
  score k = score_of x.scores k

  -- if none of the first n corners is chosen none has the id
  pub none_before : (n : ℕ) → chosen_to x id n ≡ none → (k : ℕ) → k < n → bears x k id ≡ false
  none_before zero e k h = absurd (omega arith)
  none_before (suc n) e k h = go (none_before n) (bears x n id) refl (eq-or-lt_of_le (le_of_suc-le-suc h))
    where
      met_none : (o : Option ℕ) → replaced (greater x.scores o n) n o ≡ none → ⊥
      met_none none q = cc
      met_none (some j) q = kept-some (greater x.scores (some j) n) q
        where
          kept-some : (t : Bool) → replaced t n (some j) ≡ none → ⊥
          kept-some true r = cc
          kept-some false r = cc

      go : (chosen_to x id n ≡ none → (k : ℕ) → k < n → bears x k id ≡ false) → (t : Bool) → bears x n id ≡ t → (k ≡ n) ⊎ (k < n) → bears x k id ≡ false
      go before true t w = absurd (met_none (chosen_to x id n) (sym (met x n id t) ∙ e))
      go before false t (inl q) = ap (λ (j : ℕ). bears x j id) q ∙ t
      go before false t (inr l) = before (sym (passed x n id t) ∙ e) k l

  module _ (all : finite_scores x.scores ≡ true) where
    finite : (k : ℕ) → k < length x.scores → Finite (score k)
    finite k h = finite_at x.scores k all h

    module _ (n : ℕ) (inside : n < length x.scores) where
      -- corner n does not replace k
      stays : (k : ℕ) → GreatestScore x id n k → (bears x n id ≡ true → lt (score k) (score n) ≡ false) → GreatestScore x id (suc n) k
      stays k g f = record {
        inside = omega (arith, g.inside);
        bears_it = g.bears_it;
        most = λ j l b. go j b (eq-or-lt_of_le (le_of_suc-le-suc l));
        earlier = g.earlier;
      }
        where
          go : (j : ℕ) → bears x j id ≡ true → (j ≡ n) ⊎ (j < n) → lt (score k) (score j) ≡ false
          go j b (inl q) = ap (λ (i : ℕ). lt (score k) (score i)) q ∙ f (ap (λ (i : ℕ). bears x i id) (sym q) ∙ b)
          go j b (inr l) = g.most j l b

      -- it does: nothing was chosen, or its score is greater
      comes : bears x n id ≡ true → ((j : ℕ) → j < n → bears x j id ≡ true → (lt (score n) (score j) ≡ false) × (lt (score j) (score n) ≡ true))
          → GreatestScore x id (suc n) n
      comes b f = record {
        inside = omega arith;
        bears_it = b;
        most = λ j l c. go j c (eq-or-lt_of_le (le_of_suc-le-suc l));
        earlier = λ j l c. (f j l c).1;
      }
        where
          go : (j : ℕ) → bears x j id ≡ true → (j ≡ n) ⊎ (j < n) → lt (score n) (score j) ≡ false
          go j c (inl q) = ap (λ (i : ℕ). lt (score n) (score i)) q ∙ lt_self (score n) (finite n inside)
          go j c (inr l) = (f j l c).0

      above : (k : ℕ) → GreatestScore x id n k → lt (score k) (score n) ≡ true → (j : ℕ) → j < n → bears x j id ≡ true
          → (lt (score n) (score j) ≡ false) × (lt (score j) (score n) ≡ true)
      above k g t j l c =
          let k₀ = finite k (omega (arith, g.inside, inside)) in
          let j₀ = finite j (omega (arith, l, inside)) in
          let n₀ = finite n inside in
          let m = g.most j l c in (
            false_from_ne_true _ (λ p. both_ways _ m (lt_trans (score k) (score n) (score j) k₀ n₀ j₀ t p)),
            true_from_ne_false _ (λ p. both_ways _ (not_lt_trans (score k) (score j) (score n) k₀ j₀ n₀ m p) t),
          )

      -- by the earlier choice, if corner n has the id
      decided : (o : Option ℕ) (k : ℕ) → bears x n id ≡ true → ((j : ℕ) → o ≡ some j → GreatestScore x id n j)
          → (o ≡ none → (j : ℕ) → j < n → bears x j id ≡ false) → replaced (greater x.scores o n) n o ≡ some k → GreatestScore x id (suc n) k
      decided none k b g f e = subst (GreatestScore x id (suc n)) (cc) (comes b (λ j l c. absurd (both_ways _ (f refl j l) c)))
      decided (some i) k b g f e = go (lt (score i) (score n)) refl e
        where
          go : (t : Bool) → lt (score i) (score n) ≡ t → replaced t n (some i) ≡ some k → GreatestScore x id (suc n) k
          go true t q = subst (GreatestScore x id (suc n)) (cc) (comes b (above i (g i refl) t))
          go false t q = subst (GreatestScore x id (suc n)) (cc) (stays i (g i refl) (λ c. t))

    pub greatest_to_lem : (n : ℕ) → n ≤ length x.scores → (k : ℕ) → chosen_to x id n ≡ some k → GreatestScore x id n k
    unfolding chosen_to
    greatest_to_lem zero h k e = cc
    greatest_to_lem (suc n) h k e = go (greatest_to_lem n (omega (arith, h))) (bears x n id) refl
      where
        inside : n < length x.scores
        inside = omega (arith, h)

        go : ((k : ℕ) → chosen_to x id n ≡ some k → GreatestScore x id n k) → (t : Bool) → bears x n id ≡ t → GreatestScore x id (suc n) k
        go before true t = decided n inside (chosen_to x id n) k t before (none_before n) (sym (met x n id t) ∙ e)
        go before false t = stays n inside k (before k (sym (passed x n id t) ∙ e)) (λ c. absurd (both_ways _ t c))
