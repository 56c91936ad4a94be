-- The margin of a shot is that of the shot restated, with ties too: where the bests do not pair, best and runner-up tie, and the margin is 0. Assumes
-- nothing.
use mathlib.Core.Path.{◌≡◌, refl, sym, ap, ap₂, ◌∙◌, subst}
use mathlib.Core.Logic.{◌⊎◌, inl, inr}
use mathlib.Core.Bool.{Bool, true, false, not, cond, false≢true}
use Prim.Native.Nat.{ℕ, suc, ◌*◌, ◌^◌, ◌<◌}
use native.Mathlib.Nat.{mul-pos, zero-lt-suc}
use native.Mathlib.Omega.{arith}
use lib.Dec.{T, lit<}
use lib.IntN.{ℤ}
use lib.Ieee.{Float, nan, inf, fin, up, down, is_nan, binary32, of_bits, sub, div, lt, le, eq}
use lib.Ieee.Bits.{is_true}
use lib.Ieee.Fits.{up_pos}
use borrow.Author.Tests.{le-ltb, ne_eqb}
use Rattle.floats.specs.Units.{Finite, nought}
use Rattle.floats.proofs.Compare.{not_lt→le, finite_not_nan}
use Rattle.floats.proofs.Order.{not_lt_trans}
use Rattle.floats.proofs.Folds.{Item}
use Rattle.ranking.specs.declared.Evidence.{Evidence}
use Rattle.ranking.specs.declared.Evidence.TheVariants as evidence
use Rattle.ranking.specs.Greatest.{lies_below}
use Rattle.ranking.specs.Margin.{epsilon, at_least, share, lead, margin}
use Rattle.ranking.proofs.Margins.{Small}
use Rattle.floats.proofs.Ties.{Positive, is_positive, tied_positive, same_difference, sub_self, div_nought}
use Rattle.std.specs.Prelude.{Option, Some, None}
use Rattle.ranking.specs.declared.Hypothesis.{Hypothesis}

-- ---- a gap of 0
abbrev Number : Float → Type 0
Number x = T (not (is_nan x))

-- the normalised gap is then 0 if it is a number
no_gap : (cap : Float) → Number (div binary32 nought (at_least epsilon cap)) → div binary32 nought (at_least epsilon cap) ≡ nought
unfolding of_bits lt div is_nan
no_gap cap = go (lt cap epsilon) refl
  where
    finite : (c : Float) → Finite c → (t : Bool) → lt nought c ≡ t → lt c epsilon ≡ false → div binary32 nought c ≡ nought
    finite c c₀ true e h = div_nought c (is_positive c c₀ e)
    finite c c₀ false e h = absurd (false≢true (sym (not_lt_trans nought c epsilon tt c₀ tt e h)))

    by_kind : (c : Float) → lt c epsilon ≡ false → Number (div binary32 nought c) → div binary32 nought c ≡ nought
    by_kind nan h real = absurd real
    by_kind (inf false) h real = refl
    by_kind (inf true) h real = absurd (false≢true (sym h))
    by_kind (fin s m e) h real = finite (fin s m e) tt (lt nought (fin s m e)) refl h

    go : (t : Bool) → lt cap epsilon ≡ t → Number (div binary32 nought (cond t epsilon cap)) → div binary32 nought (cond t epsilon cap) ≡ nought
    go true e real = div_nought epsilon (is_positive epsilon tt refl)
    go false e real = by_kind cap e real

-- ---- margins of evidence that ties
abbrev pub TiedEvidence : Evidence → Evidence → Type 0
TiedEvidence x y = (lies_below x y ≡ false) × (lies_below y x ≡ false)

abbrev pub TiedNext : Option Hypothesis → Option Hypothesis → Type 0
TiedNext None None = Unit {0}
TiedNext (Some g) (Some h) = TiedEvidence g.evidence h.evidence × Small g.evidence × Small h.evidence
TiedNext None (Some h) = ⊥
TiedNext (Some g) None = ⊥

-- x ties with the evidence of a runner-up
abbrev pub TiedWith : Evidence → Option Hypothesis → Type 0
TiedWith x None = ⊥
TiedWith x (Some g) = TiedEvidence x g.evidence

module _ (x : Float) (i : Item binary32 (2 ^ 166) x) (p : Positive x) (cap cap' : Float) where
  same-share : (y y' : Evidence) → TiedEvidence y y' → Small y → Small y' → Number (share x cap y) → Number (share x cap' y')
      → (cap ≡ cap') ⊎ TiedEvidence (evidence.Number x) y → share x cap y ≡ share x cap' y'
  same-share evidence.Absent evidence.Absent t j k real real' h = refl
  same-share evidence.Absent (evidence.Number y') t j k real real' h = absurd (false≢true (sym t.0))
  same-share (evidence.Number y) evidence.Absent t j k real real' h = absurd (false≢true (sym t.1))
  same-share (evidence.Number y) (evidence.Number y') t j k real real' (inl e) =
      ap₂ (λ (d c : Float). div binary32 d (at_least epsilon c)) (same_difference x y y' j.holds k.holds j.is_finite k.is_finite p t.0 t.1) e
  same-share (evidence.Number y) (evidence.Number y') t j k real real' (inr z) =
      let same = same_difference x y y' j.holds k.holds j.is_finite k.is_finite p t.0 t.1 in
      let none : sub binary32 x y ≡ nought =
      ap (sub binary32 x) (sym (tied_positive x y i.holds j.holds i.is_finite j.is_finite p z.0 z.1)) ∙ sub_self x p in
      gap_is cap (sub binary32 x y) none real ∙ sym (gap_is cap' (sub binary32 x y') (sym same ∙ none) real')
    where
      gap_is : (c d : Float) → d ≡ nought → Number (div binary32 d (at_least epsilon c)) → div binary32 d (at_least epsilon c) ≡ nought
      gap_is c d e real = rw e (no_gap c (rw e at real))

  same-lead : (o o' : Option Hypothesis) → TiedNext o o' → Number (lead x cap o) → Number (lead x cap' o') → (cap ≡ cap') ⊎ TiedWith (evidence.Number x) o
      → lead x cap o ≡ lead x cap' o'
  same-lead None None n real real' h = refl
  same-lead None (Some g') n real real' h = absurd n
  same-lead (Some g) None n real real' h = absurd n
  same-lead (Some g) (Some g') n real real' h = same-share g.evidence g'.evidence n.0 n.1 n.2 real real' h

-- at most 0 is not above 0
above-nought : (m : ℕ) (e : ℤ) → le (fin false (suc m) e) nought ≡ false
unfolding le lt eq
above-nought m e =
    let A = suc m * up e * 1 in
    let B = 0 * 1 * down e in
    let large : 0 < A = mul-pos (mul-pos (zero-lt-suc m) (up_pos e)) (lit< tt) in
    rw (le-ltb A B (omega arith), ne_eqb A B (λ z. omega (arith, z, large))) refl

le_nought : (x : Float) → Finite x → le x nought ≡ not (lt nought x)
le_nought x x₀ = go (lt nought x) refl
  where
    go : (t : Bool) → lt nought x ≡ t → le x nought ≡ not t
    go true q = let p = is_positive x x₀ q in ap (λ (y : Float). le y nought) p.is ∙ above-nought p.m p.e
    go false q = is_true (le x nought) (not_lt→le nought x (finite_not_nan nought tt) (finite_not_nan x x₀) (subst (λ (b : Bool). T (not b)) (sym q) tt))

module _ (cap cap' : Float) (o o' : Option Hypothesis) (next : TiedNext o o') where
  pub tied_margins : (x x' : Evidence) → Small x → Small x' → TiedEvidence x x' → Number (margin x cap o) → Number (margin x' cap' o')
      → (cap ≡ cap') ⊎ TiedWith x o → margin x cap o ≡ margin x' cap' o'
  tied_margins evidence.Absent evidence.Absent i j t real real' h = refl
  tied_margins evidence.Absent (evidence.Number x') i j t real real' h = absurd (false≢true (sym t.0))
  tied_margins (evidence.Number x) evidence.Absent i j t real real' h = absurd (false≢true (sym t.1))
  tied_margins (evidence.Number x) (evidence.Number x') i j t real real' h = go (lt nought x) (lt nought x') refl refl
    where
      at : (y : Float) → Finite y → (c : Float) (n : Option Hypothesis) (b : Bool) → lt nought y ≡ b → margin (evidence.Number y) c n ≡ cond (not b) nought (lead y c n)
      at y y₀ c n b e = ap (λ (t : Bool). cond t nought (lead y c n)) (le_nought y y₀ ∙ ap not e)

      go : (a b : Bool) → lt nought x ≡ a → lt nought x' ≡ b → margin (evidence.Number x) cap o ≡ margin (evidence.Number x') cap' o'
      go false false p q = at x i.is_finite cap o false p ∙ sym (at x' j.is_finite cap' o' false q)
      go true false p q = absurd (false≢true (sym (not_lt_trans nought x' x tt j.is_finite i.is_finite q t.1) ∙ p))
      go false true p q = absurd (false≢true (sym (not_lt_trans nought x x' tt i.is_finite j.is_finite p t.0) ∙ q))
      go true true p q =
          let above = is_positive x i.is_finite p in
          let same = tied_positive x x' i.holds j.holds i.is_finite j.is_finite above t.0 t.1 in
          let is = at x i.is_finite cap o true p in
          let is' = ap (λ (y : Float). lead y cap' o') same ∙ sym (at x' j.is_finite cap' o' true q) in
          is ∙ same-lead x i above cap cap' o o' next (subst Number is real) (subst Number (sym is') real') h ∙ is'
