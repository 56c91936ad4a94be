-- The ranges of table entries, of the null score and of a weight. Assumes nothing.
use mathlib.Core.Path.{◌≡◌}
use mathlib.Core.Logic.{inl, inr}
use mathlib.Core.Bool.{Bool, true, false, not, ◌&&◌, cond}
use mathlib.Core.List.{List, [], ◌∷◌}
use Prim.Native.Nat.{ℕ, zero, suc, ◌*◌, ◌^◌, ◌≤◌, ◌<◌, suc-le-suc}
use native.Mathlib.Nat.{eq-or-lt_of_le, le_of_suc-le-suc, not-suc-le-zero}
use lib.Dec.{T, eqb, eqb→eq}
use lib.ListN.{length, get_or}
use lib.IntN.{pos}
use lib.Ieee.{Float, nan, binary32, le, lt, eq, div, mul, neg, of_int, of_bits, fits}
use lib.Ieee.Fits.{and_l, and_r, cond-fits, div-fits, mul-fits}
use Rattle.integers.proofs.Parts.{minus}
use Rattle.floats.specs.Units.{value, Finite, nought, unity, Between, clamp01}
use Rattle.floats.proofs.Compare.{not_le→lt, finite_not_nan}
use Rattle.floats.proofs.Ranges.{Nonpositive, nonpositive, between_finite, clamp01_between, div_not_nan}
use Rattle.score_matrix.specs.Table.{least_entry, entry_in_range, entries_in_range, patterns, built_in, EntryRule, BuiltInRule}
use Rattle.score_matrix.specs.Scores.{ln2, null_score}
use Rattle.score_matrix.specs.Accuracy.{WeightInRange, lowest_score}
use Rattle.score_matrix.specs.declared.BoardMatchConfig.{BoardMatchConfig}
use Rattle.score_matrix.specs.Weights.{uncut_weight, weight, FractionInRange, WeightRule}
use Rattle.std.specs.Prelude.{Option, Some, None}

-- ---- table entries: from the check of the whole table to each entry
at : (xs : List Float) → T (entries_in_range xs) → (i : ℕ) → i < length xs → Between least_entry nought (get_or xs i nan)
at [] t i h = absurd (not-suc-le-zero h)
at (x ∷ xs) t zero h = let r = and_l (entry_in_range x) (entries_in_range xs) t in
    (and_l (le least_entry x) (le x nought) r, and_r (le least_entry x) (le x nought) r)
at (x ∷ xs) t (suc i) h = at xs (and_r (entry_in_range x) (entries_in_range xs) t) i (le_of_suc-le-suc h)

pub entry-range : EntryRule
entry-range table t i h =
    let e : length table ≡ 511 = eqb→eq (length table) 511 (and_l (eqb (length table) 511) (entries_in_range table) t) in
    at table (and_r (eqb (length table) 511) (entries_in_range table) t) i (rw e h)

pub built_in-passes : BuiltInRule
unfolding patterns built_in of_bits le lt eq
built_in-passes = tt

-- ---- a weight
uncut_range : (threshold fraction : Float) → Finite threshold → Between nought unity fraction → Between nought unity (uncut_weight threshold fraction)
uncut_range threshold fraction t₀ h = go (le threshold nought) (not_le→lt threshold nought (finite_not_nan threshold t₀) (finite_not_nan nought tt))
  where
    go : (b : Bool) → (T (not b) → T (lt nought threshold)) → Between nought unity (cond b unity (clamp01 (div binary32 fraction threshold)))
    go true f = unfold le lt eq in (tt, tt)
    go false f = clamp01_between (div binary32 fraction threshold)
        (div_not_nan binary32 fraction threshold (between_finite nought unity fraction tt tt h) t₀ (f tt))

pub weight-range : WeightRule
weight-range config None t₀ h = unfold le lt eq in (tt, tt)
weight-range config (Some fraction) t₀ h = go (lt w config.least_weight)
  where
    w : Float
    w = uncut_weight config.cell_weight_border_threshold fraction

    go : (b : Bool) → Between nought unity (cond b nought w)
    go true = unfold le lt eq in (tt, tt)
    go false = uncut_range config.cell_weight_border_threshold fraction t₀ h

uncut_fits : (threshold fraction : Float) → T (fits binary32 (uncut_weight threshold fraction))
unfolding fits
uncut_fits threshold fraction =
    let q = div binary32 fraction threshold in
    cond-fits binary32 (le threshold nought) unity (clamp01 q) tt
    (cond-fits binary32 (lt q nought) nought (cond (lt unity q) unity q) tt (cond-fits binary32 (lt unity q) unity q tt (div-fits binary32 fraction threshold)))

weight-fits : (config : BoardMatchConfig) (b : Option Float) → T (fits binary32 (weight config b))
unfolding fits
weight-fits config None = tt
weight-fits config (Some fraction) =
    let w = uncut_weight config.cell_weight_border_threshold fraction in
    cond-fits binary32 (lt w config.least_weight) nought w tt (uncut_fits config.cell_weight_border_threshold fraction)

pub is-weight : (config : BoardMatchConfig) (b : Option Float) → Finite config.cell_weight_border_threshold → FractionInRange b
    → WeightInRange (weight config b)
is-weight config b t₀ h = record { float = weight-fits config b; range = weight-range config b t₀ h }

-- ---- the null score: one check of the sides from 0 to 8
unfoldable all : (ℕ → Bool) → ℕ → Bool
all f zero = true
all f (suc n) = f n && all f n

all-at : (f : ℕ → Bool) (n : ℕ) → T (all f n) → (k : ℕ) → k < n → T (f k)
unfolding all
all-at f zero t k h = absurd (not-suc-le-zero h)
all-at f (suc n) t k h = elim (eq-or-lt_of_le (le_of_suc-le-suc h))
    [ inl e ↦ rw e (and_l (f n) (all f n) t) | inr l ↦ all-at f n (and_r (f n) (all f n) t) k l ]

unfoldable null_ranged : ℕ → Bool
null_ranged bits = le lowest_score (null_score bits) && le (null_score bits) nought

pub null_range : (bits : ℕ) → bits ≤ 8 → Nonpositive binary32 (2 ^ 158) (null_score bits)
unfolding value minus fits null_ranged
null_range bits h =
    let t = all-at null_ranged 9 (unfold all mul neg of_int of_bits le lt eq in tt) bits (suc-le-suc h) in
    let low = le lowest_score (null_score bits) in
    let high = le (null_score bits) nought in
    nonpositive binary32 lowest_score (null_score bits) tt tt (mul-fits binary32 (of_int binary32 (pos (bits * bits))) (neg ln2))
    (and_l low high t, and_r low high t)
