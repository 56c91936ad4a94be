-- The cut of weights below the least weight. Assumes nothing.
use mathlib.Core.Path.{◌≡◌, refl, sym, ap, ◌∙◌, subst}
use mathlib.Core.Bool.{Bool, true, false, not, cond}
use lib.Dec.{T, T_not, not_T}
use lib.Ieee.{Float, binary32, div, le, lt}
use lib.Ieee.Bits.{is_true, is_false}
use Rattle.floats.specs.Units.{nought, unity}
use Rattle.floats.proofs.Compare.{lt_le_trans, eq_not_lt}
use Rattle.score_matrix.specs.declared.BoardMatchConfig.{BoardMatchConfig}
use Rattle.score_matrix.specs.Weights.{uncut_weight, cut, LeastWeightRule}

pub is_cut : (least w : Float) → lt w least ≡ true → cut least w ≡ nought
is_cut least w e = ap (λ (b : Bool). cond b nought w) e

pub is-kept : (least w : Float) → lt w least ≡ false → cut least w ≡ w
is-kept least w e = ap (λ (b : Bool). cond b nought w) e

kept : (w least : Float) → T (not (lt w least)) → cut least w ≡ w
kept w least n = is-kept least w (is_false (lt w least) n)

-- a weight above 0 was not cut
above : (w least : Float) → T (lt nought (cut least w)) → T (not (lt w least))
unfolding lt
above w least h = go (lt w least) h
  where
    go : (b : Bool) → T (lt nought (cond b nought w)) → T (not b)
    go true t = absurd t
    go false t = tt

not_negative : (threshold fraction : Float) → T (not (lt (uncut_weight threshold fraction) nought))
not_negative threshold fraction = go (le threshold nought) (lt q nought) (lt unity q) refl
  where
    q : Float
    q = div binary32 fraction threshold

    go : (a b c : Bool) → b ≡ lt q nought → T (not (lt (cond a unity (cond b nought (cond c unity q))) nought))
    go true b c e = unfold lt in tt
    go false true c e = unfold lt in tt
    go false false true e = unfold lt in tt
    go false false false e = subst (λ (t : Bool). T (not t)) e tt

pub least_weight_rule : (c : BoardMatchConfig) (fraction : Float) → LeastWeightRule c fraction
least_weight_rule c fraction =
    let w = uncut_weight c.cell_weight_border_threshold fraction in
    let l = c.least_weight in
    record {
      below = λ h. is_cut l w (is_true (lt w l) h);
      not-below = kept w l;
      equal = λ e. kept w l (eq_not_lt w l e);
      smaller =
          λ least h p.
          let n = above w l p in
          kept w least (not_T (lt w least) (λ k. T_not (lt w l) n (lt_le_trans w least l k h))) ∙ sym (kept w l n);
      zero =
          λ h.
          let n = not_negative c.cell_weight_border_threshold fraction in
          kept w l (not_T (lt w l) (λ k. T_not (lt w nought) n (lt_le_trans w l nought k h)));
    }
