-- Conjunction of two tests, and the quantifiers of `specs/Tests.antt` as a loop checks them. Assumes nothing.
use mathlib.Core.Path.{◌≡◌, refl, sym, ap, ap₂, ◌∙◌}
use mathlib.Core.Bool.{Bool, true, false, false≢true, not, ◌&&◌, ◌||◌, or-true}
use mathlib.Core.Logic.{◌⊎◌, inl, inr}
use Prim.Native.Nat.{ℕ, zero, suc, ◌+◌, ◌≤◌, ◌<◌}
use native.Mathlib.Nat.{eq-or-lt_of_le, le_of_suc-le-suc}
use native.Mathlib.Numerals.{add-one}
use native.Mathlib.Omega.{arith}
use borrow.Author.Tests.{not-true, not-false}
use Rattle.integers.specs.Tests.{every, any_below}

pub both : (a b : Bool) → (a && b) ≡ true → (a ≡ true) × (b ≡ true)
both true b e = (refl, e)
both false b e = absurd (false≢true e)

-- ---- for all k < n
module _ (test : ℕ → Bool) where
  pub each : (n : ℕ) → every test n ≡ true → (k : ℕ) → k < n → test k ≡ true
  unfolding every
  each zero e k h = absurd (omega arith)
  each (suc n) e k h = let b = both (every test n) (test n) e in go (eq-or-lt_of_le (le_of_suc-le-suc h)) b.1 (each n b.0 k)
    where
      go : (k ≡ n) ⊎ (k < n) → test n ≡ true → (k < n → test k ≡ true) → test k ≡ true
      go (inl z) t ih = rw z t
      go (inr l) t ih = ih l

  pub from_each : (n : ℕ) → ((k : ℕ) → k < n → test k ≡ true) → every test n ≡ true
  unfolding every
  from_each zero h = refl
  from_each (suc n) h = rw (from_each n (λ k l. h k (omega (arith, l))), h n (omega arith))

  -- in a loop: before it, after k that passes, at k that fails, after the last
  pub none_tested : every test 0 ≡ true
  unfolding every
  none_tested = refl

  pub one_more : (k : ℕ) (answer : Bool) → every test k ≡ true → test k ≡ answer → not answer ≡ false → every test (k + 1) ≡ true
  unfolding every
  one_more k answer e t passes = rw (add-one k, e, t ∙ not-false answer passes)

  pub one_out : (n k : ℕ) (answer : Bool) → k < n → test k ≡ answer → not answer ≡ true → false ≡ every test n
  one_out n k answer h t fails = go (every test n) refl
    where
      go : (b : Bool) → every test n ≡ b → false ≡ b
      go true e = absurd (false≢true (sym (t ∙ not-true answer fails) ∙ each n e k h))
      go false e = refl

  pub all_tested : (n k : ℕ) → k ≤ n → n ≤ k → every test k ≡ true → true ≡ every test n
  all_tested n k h l e =
      let last : k ≡ n = omega arith in
      sym e ∙ ap (every test) last

-- two tests that agree below n
pub same-answers : (f g : ℕ → Bool) (n : ℕ) → ((k : ℕ) → k < n → f k ≡ g k) → every f n ≡ every g n
unfolding every
same-answers f g zero e = refl
same-answers f g (suc n) e = ap₂ ◌&&◌ (same-answers f g n (λ k h. e k (omega (arith, h)))) (e n (omega arith))

-- ---- for some k < n
module _ (test : ℕ → Bool) where
  pub any_true : (n k : ℕ) → k < n → test k ≡ true → any_below test n ≡ true
  unfolding any_below
  any_true zero k h e = absurd (omega arith)
  any_true (suc n) k h e =
      elim (eq-or-lt_of_le {n = k} {m = n} (omega arith)) [
        | inl q ↦ ap (λ (b : Bool). any_below test n || b) (ap test (sym q) ∙ e) ∙ or-true (any_below test n)
        | inr l ↦ ap (λ (b : Bool). b || test n) (any_true n k l e)
      ]

  pub any_false : (n : ℕ) → ((k : ℕ) → k < n → test k ≡ false) → any_below test n ≡ false
  unfolding any_below
  any_false zero f = refl
  any_false (suc n) f = ap₂ ◌||◌ (any_false n (λ k h. f k (omega (arith, h)))) (f n (omega arith))

  pub any_passes : (n : ℕ) → any_below test n ≡ true → (k : ℕ) × (k < n) × (test k ≡ true)
  unfolding any_below
  any_passes zero e = absurd (false≢true e)
  any_passes (suc n) e = go (any_below test n) refl (any_passes n) e
    where
      go : (b : Bool) → any_below test n ≡ b → (any_below test n ≡ true → (k : ℕ) × (k < n) × (test k ≡ true)) → (b || test n) ≡ true
          → (k : ℕ) × (k < suc n) × (test k ≡ true)
      go true f before h = let x = before f in (x.0, omega (arith, x.1), x.2)
      go false f before h = (n, omega arith, h)
