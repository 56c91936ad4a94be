-- A ranking after n placements: its count, after equal ones, after more, and by columns. Assumes nothing.
use mathlib.Core.Path.{◌≡◌, refl, sym, ap, ap₂, ◌∙◌}
use Prim.Native.Nat.{ℕ, zero, suc, ◌+◌, ◌*◌, ◌/◌, ◌%◌, ◌<◌}
use native.Mathlib.Omega.{arith}
use lib.Arith.{digits_div, digits_mod}
use Rattle.ranking.specs.declared.Hypothesis.{Hypothesis}
use Rattle.ranking.specs.declared.Ranking.{Ranking}
use Rattle.ranking.specs.Ranking.{ranked, ranked_to}

pub ranked-total : (k : Ranking) (f : ℕ → Hypothesis) (n : ℕ) → (ranked_to k f n).total ≡ k.total + n
unfolding ranked_to
ranked-total k f zero = omega arith
ranked-total k f (suc n) = omega (arith, ranked-total k f n)

pub ranked_next : (k : Ranking) (f : ℕ → Hypothesis) (n : ℕ) → ranked (ranked_to k f n) (f n) ≡ ranked_to k f (n + 1)
unfolding ranked_to
ranked_next k f n = let e : suc n ≡ n + 1 = omega arith in ap (ranked_to k f) e

pub ranked_none : (k : Ranking) (f : ℕ → Hypothesis) → k ≡ ranked_to k f 0
unfolding ranked_to
ranked_none k f = refl

-- equal placements
pub ranked-same : (k : Ranking) (f g : ℕ → Hypothesis) (n : ℕ) → ((j : ℕ) → j < n → f j ≡ g j) → ranked_to k f n ≡ ranked_to k g n
unfolding ranked_to
ranked-same k f g zero e = refl
ranked-same k f g (suc n) e = ap₂ ranked (ranked-same k f g n (λ j h. e j (omega (arith, h)))) (e n (omega arith))

-- m of them, and n more
ranked_more : (k : Ranking) (f : ℕ → Hypothesis) (m n : ℕ) → ranked_to (ranked_to k f m) (λ (j : ℕ). f (m + j)) n ≡ ranked_to k f (m + n)
unfolding ranked_to
ranked_more k f m zero = let e : m ≡ m + 0 = omega arith in ap (ranked_to k f) e
ranked_more k f m (suc n) =
    let e : suc (m + n) ≡ m + suc n = omega arith in
    ap (λ (x : Ranking). ranked x (f (m + n))) (ranked_more k f m n) ∙ ap (ranked_to k f) e

-- the columns below a, and column a
pub next_column : (k : Ranking) (g : ℕ → ℕ → Hypothesis) (d a : ℕ)
    → ranked_to (ranked_to k (λ (j : ℕ). g (j / d) (j % d)) (a * d)) (g a) d ≡ ranked_to k (λ (j : ℕ). g (j / d) (j % d)) ((a + 1) * d)
next_column k g d a =
    let f : ℕ → Hypothesis = λ (j : ℕ). g (j / d) (j % d) in
    ranked-same (ranked_to k f (a * d)) (g a) (λ (j : ℕ). f (a * d + j)) d (λ j h. sym (ap₂ g (digits_div a h) (digits_mod a h)))
    ∙ ranked_more k f (a * d) d
    ∙ ap (ranked_to k f) (omega arith)
