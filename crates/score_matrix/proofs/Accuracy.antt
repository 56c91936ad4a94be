-- The accuracy rule for one cell. Assumes nothing.
use mathlib.Core.List.{List}
use Prim.Native.Nat.{ℕ, zero, suc, ◌+◌, ◌-◌, ◌*◌, ◌^◌, ◌≤◌, ◌<◌}
use native.Mathlib.Nat.{le_refl, le_trans, le_of_eq, add-le-add, mul-le-mul, mul-le-mul_right}
use native.Mathlib.Omega.{arith}
use lib.Dec.{T, lit<, lit≤}
use lib.IntN.{pos, nat_abs, ◌-ℤ◌, ◌*ℤ◌}
use lib.Ieee.{Float, binary32, neg, le}
use lib.Ieee.Fits.{sub-fits}
use Rattle.integers.proofs.Parts.{abs_mul}
use Rattle.integers.proofs.Distances.{Near, near→within, near_refl, near_wider, near_trans, near_sub, near_mul_left}
use Rattle.matcher.specs.Codes.{bit, bit_place}
use Rattle.floats.specs.Units.{units_of}
use Rattle.floats.proofs.Close.{Close, CloseTimes}
use Rattle.floats.proofs.Sums.{sub_close}
use Rattle.floats.proofs.Signs.{sub_at_most}
use Rattle.floats.proofs.Products.{mul_close}
use Rattle.floats.proofs.Ranges.{Nonpositive, Nonnegative, from_minus_8, to_one, between_minus_512, nonpositive_wider, nonpositive_apart, nonnegative_size}
use Rattle.floats.proofs.Folds.{sum_of_64}
use Rattle.score_matrix.specs.Table.{entry}
use Rattle.score_matrix.specs.Scores.{Samples, grid_index, grey, likelihood, term, score, null_score, evidence}
use Rattle.score_matrix.specs.Accuracy.{PassedTable, ByteSamples, WeightInRange, CellRule, exact_score, exact_evidence, weighted, exact_weighted}
use Rattle.score_matrix.proofs.Places.{area}
use Rattle.score_matrix.proofs.Ranges.{entry-range, null_range}

-- ---- the terms of a score
entry-small : (table : List Float) (a b : ℕ) → PassedTable table → a < 256 → b < 256 → Nonpositive binary32 (2 ^ 152) (entry table a b)
entry-small table a b p h k =
    let i = a + 255 - b in
    from_minus_8 (entry table a b) (p.floats i) (entry-range table p.is_table_is i (omega arith))

likelihood-small : (table : List Float) (s : Samples) (k b : ℕ) → PassedTable table → ByteSamples s → Nonpositive binary32 (2 ^ 152) (likelihood table s k b)
likelihood-small table s k zero p c = entry-small table (grey s k) s.threshold p
    (c.greys (grid_index s.bits s.border (bit_place s.bits k))) c.threshold
likelihood-small table s k (suc b) p c =
    entry-small table s.threshold (grey s k) p c.threshold (c.greys (grid_index s.bits s.border (bit_place s.bits k)))

module _ (table : List Float) (s : Samples) (code : ℕ) (p : PassedTable table) (c : ByteSamples s) where
  sum : Nonpositive binary32 (s.bits * s.bits * 2 ^ 152) (score table s code) × Near (units_of (score table s code)) (exact_score table s code) (64 * 2 ^ 133)
  sum = sum_of_64 (term table s code) (s.bits * s.bits) (area s.bits c.small) (λ k h. likelihood-small table s k (bit code k) p c)

  -- from −512 to 0
  score-small : Nonpositive binary32 (2 ^ 158) (score table s code)
  score-small = nonpositive_wider (le_trans (mul-le-mul_right (2 ^ 152) (area s.bits c.small)) (lit≤ tt)) sum.0

  null_small : Nonpositive binary32 (2 ^ 158) (null_score s.bits)
  null_small = null_range s.bits c.small

  difference : Close binary32 (units_of (score table s code) -ℤ units_of (null_score s.bits)) (2 ^ 133) (evidence table s code)
  difference =
      sub_close binary32 (score table s code) (null_score s.bits) 158 score-small.holds null_small.holds score-small.is_finite
      null_small.is_finite
      (nonpositive_apart score-small null_small) (lit≤ tt)

  evidence_most : T (le (evidence table s code) (neg (null_score s.bits)))
  evidence_most =
      sub_at_most binary32 (score table s code) (null_score s.bits) 158 score-small.holds null_small.holds score-small.is_finite
      null_small.is_finite (nonpositive_apart score-small null_small) (lit≤ tt) score-small.sign null_small.sign

  -- absolute value at most 512
  evidence-small : nat_abs (units_of (evidence table s code)) ≤ 2 ^ 158
  evidence-small = difference.under 1 158 (lit< tt) (nonpositive_apart score-small null_small)

  evidence_near : Near (units_of (evidence table s code)) (exact_evidence table s code) (65 * 2 ^ 133)
  evidence_near = near_wider (lit≤ tt) (near_trans difference.near (near_sub sum.1 (near_refl (units_of (null_score s.bits)))))

  -- times a weight
  module _ (w : Float) (h : WeightInRange w) where
    weight-small : Nonnegative binary32 (2 ^ 149) w
    weight-small = to_one w h.float h.range

    small : nat_abs (units_of w *ℤ units_of (evidence table s code)) ≤ 2 ^ 149 * 2 ^ 158
    small = le_trans (le_of_eq (abs_mul (units_of w) (units_of (evidence table s code)))) (mul-le-mul (nonnegative_size weight-small) evidence-small)

    product : CloseTimes binary32 (2 ^ 149) (units_of w *ℤ units_of (evidence table s code)) (2 ^ 282) (weighted w table s code)
    product =
        mul_close binary32 w (evidence table s code) 158 h.float (sub-fits binary32 (score table s code) (null_score s.bits))
        weight-small.is_finite difference.is_finite small (lit≤ tt)

    weighted_near : Near (units_of (weighted w table s code) *ℤ pos (2 ^ 149)) (exact_weighted w table s code) (66 * 2 ^ 282)
    weighted_near =
        near_wider (le_trans (add-le-add (le_refl (2 ^ 282)) (mul-le-mul_right (65 * 2 ^ 133) (nonnegative_size weight-small))) (lit≤ tt))
        (near_trans product.near (near_mul_left (units_of w) evidence_near))

pub cell_rule : CellRule
cell_rule table s code w p c h =
    let e = difference table s code p c in
    let q = product table s code p c w h in
    record {
      score_finite = (score-small table s code p c).is_finite;
      score_range = between_minus_512 (score table s code) (score-small table s code p c);
      score_near = near→within (sum table s code p c).1;
      evidence_finite = e.is_finite;
      evidence_most = evidence_most table s code p c;
      evidence_near = near→within (evidence_near table s code p c);
      weighted_finite = q.is_finite;
      weighted_size = q.under 1 158 (lit< tt) (small table s code p c w h);
      weighted_near = near→within (weighted_near table s code p c w h);
    }
