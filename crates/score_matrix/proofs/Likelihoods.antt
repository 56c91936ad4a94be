-- The log-likelihoods of the bits of a cell as a list. Assumes nothing.
use mathlib.Core.Path.{◌≡◌, ap, sym, ◌∙◌}
use mathlib.Core.List.{List}
use Prim.Native.Nat.{ℕ, zero, suc, ◌+◌, ◌*◌, ◌<◌}
use native.Mathlib.Nat.{add-zero}
use native.Mathlib.Numerals.{add-one}
use native.Mathlib.Omega.{arith}
use lib.ListN.{length, get_or, set, length-set}
use lib.Seq.{get_or-set_same, get_or-set_other}
use lib.Ieee.{Float, nan, binary32, add}
use borrow.Author.Count.{below_more}
use Rattle.floats.specs.Units.{sum_to}
use Rattle.floats.proofs.Folds.{sum_ext}
use Rattle.lent_list.specs.Parts.{KeptFrom}
use Rattle.matcher.specs.Codes.{bit, turned}
use Rattle.matcher.proofs.Bits.{bit-small}
use Rattle.matcher.proofs.Turns.{bit-turned}
use Rattle.score_matrix.specs.Scores.{Samples, bit_count, likelihood, term, score}
use Rattle.score_matrix.specs.Likelihoods.{HoldsLikelihoods, picked, Sources, picked_from}

-- writing those of bit k leaves other elements unchanged
module _ (k : ℕ) (l : List Float) (zeros ones : Float) where
  abbrev written : List Float
  written = set (set l (2 * k) zeros) (2 * k + 1) ones

  elsewhere : (i : ℕ) → (i ≡ 2 * k → ⊥) → (i ≡ 2 * k + 1 → ⊥) → get_or written i nan ≡ get_or l i nan
  elsewhere i a b = get_or-set_other (set l (2 * k) zeros) (2 * k + 1) i ones nan b ∙ get_or-set_other l (2 * k) i zeros nan a

  pub kept_next : (first : List Float) → KeptFrom nan (2 * k) first l → KeptFrom nan (2 * (k + 1)) first written
  kept_next first kept i h = elsewhere i (λ e. absurd (omega (arith, e, h))) (λ e. absurd (omega (arith, e, h))) ∙ kept i (omega (arith, h))

-- those of one more bit are written
module _ (table : List Float) (s : Samples) (k : ℕ) (l : List Float) (zeros ones : Float) (holds : HoldsLikelihoods table s k l) (room : 2 * k + 1 < length l)
    (z : zeros ≡ likelihood table s k 0) (o : ones ≡ likelihood table s k 1) where
  abbrev after : List Float
  after = written k l zeros ones

  earlier : (i : ℕ) → i < 2 * k → get_or after i nan ≡ get_or l i nan
  earlier i h = elsewhere k l zeros ones i (λ e. absurd (omega (arith, e))) (λ e. absurd (omega (arith, e)))

  here : (get_or after (2 * k) nan ≡ likelihood table s k 0) × (get_or after (2 * k + 1) nan ≡ likelihood table s k 1)
  here = (
    get_or-set_other (set l (2 * k) zeros) (2 * k + 1) (2 * k) ones nan (λ e. absurd (omega (arith, e))) ∙ get_or-set_same l (2 * k) zeros nan (omega arith) ∙ z,
    get_or-set_same (set l (2 * k) zeros) (2 * k + 1) ones nan (rw length-set room) ∙ o,
  )

  pub holds_next : HoldsLikelihoods table s (k + 1) after
  holds_next =
      below_more (λ j. (get_or after (2 * j) nan ≡ likelihood table s j 0) × (get_or after (2 * j + 1) nan ≡ likelihood table s j 1)) k
      (λ j h. (earlier (2 * j) (omega arith) ∙ (holds j h).0, earlier (2 * j + 1) (omega arith) ∙ (holds j h).1)) here

-- the value for a bit is the term of the score
picked-term : (table : List Float) (s : Samples) (n : ℕ) (l : List Float) (code k : ℕ) → HoldsLikelihoods table s n l → k < n
    → picked l code k ≡ term table s code k
picked-term table s n l code k holds h = go (bit code k) (bit-small code k)
  where
    go : (b : ℕ) → b < 2 → get_or l (2 * k + b) nan ≡ likelihood table s k b
    go zero c = ap (λ (i : ℕ). get_or l i nan) (add-zero (2 * k)) ∙ (holds k h).0
    go (suc zero) c = (holds k h).1
    go (suc (suc b)) c = absurd (omega arith)

pub picked-score : (table : List Float) (s : Samples) (n : ℕ) (l : List Float) (code : ℕ) → HoldsLikelihoods table s n l
    → sum_to (picked l code) n ≡ sum_to (term table s code) n
picked-score table s n l code holds = sum_ext (picked l code) (term table s code) n (λ k h. picked-term table s n l code k holds h)

-- in the turned order it is the term of the turned code's score
from-term : (table : List Float) (s : Samples) (turn : ℕ) (l : List Float) (sources : List ℕ) (code k : ℕ) → HoldsLikelihoods table s (bit_count s) l
    → Sources s.bits turn (bit_count s) sources → k < bit_count s
    → picked_from l sources code k ≡ term table s (turned s.bits turn code) k
from-term table s turn l sources code k holds from h =
    ap (λ (b : ℕ). get_or l (2 * k + b) nan) (ap (bit code) (from k h) ∙ sym (bit-turned s.bits turn code k h))
    ∙ picked-term table s (bit_count s) l (turned s.bits turn code) k holds h

pub turned-score : (table : List Float) (s : Samples) (turn : ℕ) (l : List Float) (sources : List ℕ) (code : ℕ)
    → HoldsLikelihoods table s (bit_count s) l → Sources s.bits turn (bit_count s) sources
    → sum_to (picked_from l sources code) (bit_count s) ≡ score table s (turned s.bits turn code)
turned-score table s turn l sources code holds from =
    sum_ext (picked_from l sources code) (term table s (turned s.bits turn code)) (bit_count s) (λ k h. from-term table s turn l sources code k holds from h)

-- a sum of k terms and one more
pub one_more_term : (t : ℕ → Float) (k : ℕ) (total next : Float) → total ≡ sum_to t k → next ≡ add binary32 total (t k) → next ≡ sum_to t (k + 1)
unfolding sum_to
one_more_term t k total next e f = f ∙ ap (λ (y : Float). add binary32 y (t k)) e ∙ ap (sum_to t) (sym (add-one k))
