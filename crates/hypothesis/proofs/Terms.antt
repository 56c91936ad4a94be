-- The terms of a contributing cell: in the reported evidence, in the exact one and in the capacity. Assumes nothing.
use Prim.Native.Nat.{ℕ, ◌*◌, ◌/◌, ◌^◌, ◌≤◌}
use native.Mathlib.Nat.{le_trans, le_of_eq, mul-le-mul}
use mathlib.Core.Path.{◌≡◌, refl, sym, subst, ◌∙◌}
use mathlib.Core.Bool.{Bool, true, false, cond, not}
use mathlib.Core.List.Memᴰ
use mathlib.Core.List.{[], ◌∷◌, Memᴰ}
use mathlib.Core.Option.{Option as Maybe, none, some}
use lib.Dec.{lit<, lit≤}
use lib.ListN.{get_or, get_or-map}
use lib.IntN.{pos, nat_abs, ◌*ℤ◌}
use lib.Ieee.{Float, nan, inf, fin, Format, binary32, low, up, down, of_bits, neg, mul, lt}
use lib.Ieee.Bits.{of_bits-fits}
use lib.Ieee.Fits.{neg-fits, mul-fits}
use Rattle.integers.proofs.Parts.{abs_mul}
use Rattle.integers.proofs.Distances.{Near, within→near}
use Rattle.floats.specs.Units.{value, units_of, nought}
use Rattle.floats.proofs.Values.{abs_signed}
use Rattle.floats.proofs.Ranges.{to_one, nonpositive_size, nonnegative_size}
use Rattle.floats.proofs.Sums.{finite_neg}
use Rattle.floats.proofs.Products.{mul_close}
use Rattle.floats.proofs.Folds.{Item}
use Rattle.grid_alignment.specs.declared.GridAlignment.{GridAlignment}
use Rattle.score_matrix.specs.Scores.{null_score, evidence}
use Rattle.score_matrix.specs.Accuracy.{PassedTable, ByteSamples, WeightInRange}
use Rattle.score_matrix.proofs.Ranges.{is-weight, null_range}
use Rattle.score_matrix.proofs.Accuracy.{cell_rule}
use Rattle.shot_record.specs.Shots.{Sample, Shot}
use Rattle.shot_record.specs.Answers.{of_pattern, config_of}
use Rattle.hypothesis.specs.Placements.{cell}
use Rattle.hypothesis.specs.Evidence.{table_of, code_of, weight_with, samples_with, expected, Contribution, contributed_with, contributed, contributions}
use Rattle.hypothesis.specs.Evidence.{reported_term, exact_term, capacity_term}
use Rattle.hypothesis.specs.Accuracy.{Sound, Checked}
use Rattle.hypothesis.proofs.Contributing.{of_some_cell}
use Rattle.std.specs.Prelude.{Option, Some, None}

-- ---- what the checks ensure, as the rule for one cell requires it
passed : (s : Shot) → Checked s → PassedTable (table_of s)
unfolding of_bits
passed s c =
    record {
      is_table_is = c.table;
      floats = λ i. rw (get_or-map of_pattern s.table i 0x7FC00000) (of_bits-fits binary32 (get_or s.table i 0x7FC00000));
    }

sampled : (s : Shot) (x : Sample) → Checked s → Sound x → ByteSamples (samples_with s (some x))
sampled s x c h = record { small = c.small; threshold = h.threshold; greys = h.greys }

weighs : (s : Shot) (x : Sample) → Checked s → Sound x → WeightInRange (weight_with s (some x))
weighs s x c h = is-weight (config_of s) (Some (of_pattern x.fraction)) c.threshold h.fraction

-- ---- negation
neg_size : (f : Format) (x : Float) → nat_abs (value f (neg x)) ≡ nat_abs (value f x)
unfolding neg value
neg_size f nan = refl
neg_size f (inf s) = refl
neg_size f (fin s m e) = let a = m * up e * 2 ^ low f / down e in abs_signed (not s) a ∙ sym (abs_signed s a)

-- ---- A term: an f32 of size at most 512, within 66 × 2⁻¹⁶ of the exact term. The term of the capacity has the same size.
pub record Term (s : Shot) (r : ℕ) (c : Contribution) : Type 0 where
  pub item : Item binary32 (2 ^ 158) (reported_term s r c)
  pub near : Near (units_of (reported_term s r c) *ℤ pos (2 ^ 149)) (exact_term s r c) (66 * 2 ^ 282)
  pub share : Item binary32 (2 ^ 158) (capacity_term s c)

module _ (s : Shot) (c : Checked s) where
  null_item : Item binary32 (2 ^ 158) (neg (null_score s.bits))
  null_item =
      let x = null_score s.bits in
      let n = null_range s.bits c.small in
      record {
        holds = neg-fits binary32 x n.holds;
        is_finite = finite_neg x n.is_finite;
        small = le_trans (le_of_eq (neg_size binary32 x)) (nonpositive_size n);
      }

  module _ (w : Float) (h : WeightInRange w) where
    share-small : nat_abs (units_of w *ℤ units_of (neg (null_score s.bits))) ≤ 2 ^ 149 * 2 ^ 158
    share-small =
        le_trans (le_of_eq (abs_mul (units_of w) (units_of (neg (null_score s.bits)))))
        (mul-le-mul (nonnegative_size (to_one w h.float h.range)) null_item.small)

    share : Item binary32 (2 ^ 158) (mul binary32 w (neg (null_score s.bits)))
    share =
        let x = neg (null_score s.bits) in
        let q = mul_close binary32 w x 158 h.float null_item.holds (to_one w h.float h.range).is_finite null_item.is_finite share-small
        (lit≤ tt) in
        record { holds = mul-fits binary32 w x; is_finite = q.is_finite; small = q.under 1 158 (lit< tt) share-small }

  module _ (r : ℕ) where
    term : (x : Sample) (id : ℕ) → Sound x → Term s r (record { weight = weight_with s (some x); samples = samples_with s (some x); id = id })
    term x id h =
        let w = weight_with s (some x) in
        let a = cell_rule (table_of s) (samples_with s (some x)) (code_of s r id) w (passed s c) (sampled s x c h) (weighs s x c h) in
        record {
          item = record {
            holds = mul-fits binary32 w (evidence (table_of s) (samples_with s (some x))
                (code_of s r id));
            is_finite = a.weighted_finite;
            small = a.weighted_size;
          };
          near = within→near a.weighted_near;
          share = share w (weighs s x c h);
        }

    known : (o : Maybe Sample) (m : Option ℕ) → ((x : Sample) → o ≡ some x → Sound x) → (d : Contribution)
        → Memᴰ d (contributed_with (weight_with s o) (samples_with s o) m) → Term s r d
    unfolding lt
    known none None h d i = absurd (Memᴰ.not-nil i)
    known none (Some m) h d i = absurd (Memᴰ.not-nil i)
    known (some x) None h d i = absurd (Memᴰ.not-nil i)
    known (some x) (Some m) h d i = go (lt nought (weight_with s (some x))) _ i (term x m (h x refl))
      where
        go : (b : Bool) (e : Contribution) → Memᴰ d (cond b (e ∷ []) []) → Term s r e → Term s r d
        go true e i t = subst (Term s r) (sym (Memᴰ.eq_of_singleton i)) t
        go false e i t = absurd (Memᴰ.not-nil i)

    -- of every cell that contributes
    pub all_terms : (p : GridAlignment) (d : Contribution) → Memᴰ d (contributions s p) → Term s r d
    unfolding contributed
    all_terms p d i = let k = of_some_cell s p d i in known (cell s k.0).sample (expected s p k.0) (c.cells k.0) d k.2
