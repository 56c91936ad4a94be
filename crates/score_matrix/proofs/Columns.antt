-- Columns of rows, and the scores that are added from them. Assumes nothing.
use mathlib.Core.Path.{◌≡◌, refl, sym, ap, ◌∙◌}
use mathlib.Core.List.{List}
use Prim.Native.Nat.{ℕ, zero, suc, ◌+◌, ◌*◌, ◌<◌}
use native.Mathlib.Nat.{add-zero}
use native.Mathlib.Omega.{arith}
use lib.ListN.{get_or}
use lib.Ieee.{Float, nan, binary32, add, of_bits, of_fields, odd}
use Rattle.floats.specs.Units.{nought, sum_to}
use Rattle.floats.proofs.Folds.{sum_ext}
use Rattle.lent_list.specs.Scattered.{Wrote}
use Rattle.matcher.specs.Codes.{bit, turned}
use Rattle.matcher.proofs.Bits.{bit-small}
use Rattle.matcher.proofs.Turns.{bit-turned}
use Rattle.score_matrix.specs.Scores.{Samples, likelihood}
use Rattle.score_matrix.specs.Likelihoods.{HoldsLikelihoods}
use Rattle.score_matrix.specs.Rows.{in_row, Adds, Column, FourSources, row_score}

-- ---- what the bits of one cell add
pub likelihoods_add : (table : List Float) (s : Samples) (n : ℕ) (l : List Float) → HoldsLikelihoods table s n l → Adds (likelihood table s) n l
likelihoods_add table s n l holds k zero h c = ap (λ (i : ℕ). get_or l i nan) (add-zero (2 * k)) ∙ (holds k h).0
likelihoods_add table s n l holds k (suc zero) h c = (holds k h).1
likelihoods_add table s n l holds k (suc (suc b)) h c = absurd (omega arith)

-- they are written as column x; other columns do not change
module _ (adds : List Float) (n x : ℕ) (before after : List Float)
    (w : Wrote nan (λ (i : ℕ). i < 2 * n) (λ (i : ℕ). 8 * i + x) (λ (i : ℕ). get_or adds i nan) before after) where
  pub column_put : (f : ℕ → ℕ → Float) → Adds f n adds → Column f n after x
  column_put f a k b h l = w.done (2 * k + b) (omega arith) ∙ a k b h l

  pub column-kept : (f : ℕ → ℕ → Float) (y : ℕ) → x < 8 → y < 8 → (y ≡ x → ⊥) → Column f n before y → Column f n after y
  column-kept f y g m other a k b h l = w.kept (8 * (2 * k + b) + y) (λ i q e. other (omega (arith, e))) ∙ a k b h l

-- ---- the score of a turned code
pub column-score : (f : ℕ → ℕ → Float) (rows : List Float) (sources : List ℕ) (bits code x r : ℕ) → Column f (bits * bits) rows x
    → FourSources bits (bits * bits) sources → r < 4
    → row_score rows sources bits code x r ≡ sum_to (λ (k : ℕ). f k (bit (turned bits r code) k)) (bits * bits)
column-score f rows sources bits code x r column from l =
    sum_ext _ _ (bits * bits) (λ k h. ap (λ (b : ℕ). in_row rows x (2 * k + b)) (ap (bit code) (from r k l h) ∙ sym (bit-turned bits r code k h))
    ∙ column k (bit (turned bits r code) k) h (bit-small (turned bits r code) k))

-- zeros add up to zero
pub sum_of_noughts : (n : ℕ) → sum_to (λ (k : ℕ). nought) n ≡ nought
unfolding sum_to of_bits of_fields odd add
sum_of_noughts zero = refl
sum_of_noughts (suc n) = ap (λ (x : Float). add binary32 x nought) (sum_of_noughts n)
