-- Best and runner-up of a shot and of the shot restated: without ties they pair, and with ties too the margin is the same. Assumes nothing.
use mathlib.Core.Path.{◌≡◌, refl, sym, ap, ◌∙◌, subst}
use mathlib.Core.Logic.{◌⊎◌, inl, inr}
use mathlib.Core.Option.{some}
use mathlib.Core.Bool.{false}
use Prim.Native.Nat.{ℕ, ◌+◌, ◌<◌}
use native.Mathlib.Nat.{mod-lt}
use lib.Dec.{lit<}
use lib.ListN.{get_elem?}
use Rattle.grid_alignment.specs.declared.GridAlignment.{GridAlignment}
use Rattle.shot_record.specs.Shots.{Shot}
use Rattle.ranking.specs.declared.Evidence.{Evidence}
use Rattle.ranking.specs.declared.Hypothesis.{Hypothesis}
use Rattle.ranking.specs.Greatest.{lies_below, rest}
use Rattle.ranking.specs.Margin.{margin}
use Rattle.ranking.specs.Rules.{FiniteEvidence}
use Rattle.ranking.proofs.Order.{not_below_trans}
use Rattle.ranking.proofs.Margins.{Small}
use Rattle.hypothesis.specs.Placements.{cell_total}
use Rattle.hypothesis.specs.Evidence.{reported, capacity}
use Rattle.hypothesis.specs.Search.{hypothesis, hypotheses, best, runner_up}
use Rattle.hypothesis.specs.Accuracy.{Placement, Checked}
use Rattle.hypothesis.specs.Rules.{Fits}
use Rattle.hypothesis.proofs.Placements.{placements_rule}
use Rattle.hypothesis.proofs.Margins.{margin-is-number}
use Rattle.hypothesis.proofs.Accuracy.{reported-small, reported_finite}
use Rattle.board_match.specs.Match.{margin_with, margin_of}
use Rattle.legacy_record.specs.Restated.{restated}
use Rattle.half_turn.specs.Pairs.{TurnedByHalf, paired}
use Rattle.half_turn.specs.Ties.{paired_hypothesis, paired_choice, Untied, BestUntied, NoTies, BestRule, RunnerUpRule, MarginRule}
use Rattle.half_turn.proofs.Pairs.{pair_rule, paired_twice}
use Rattle.half_turn.proofs.Margins.{TiedNext, TiedWith, tied_margins}
use Rattle.half_turn.proofs.Ranks.{IsBest, IsNext, no_best, best_is, best_or_rest, no_next, none_next, rest-most, next_is}
use Rattle.std.specs.Prelude.{Option, Some, None}

-- ---- two shots whose placements pair
pub record Pairing (s t : Shot) (f : GridAlignment → GridAlignment) : Type 0 where
  pub there : (p : GridAlignment) → Placement s p → Placement t (f p)
  pub same : (p : GridAlignment) → Placement s p → reported t (f p) ≡ reported s p
  pub back : (p : GridAlignment) → Placement s p → f (f p) ≡ p

-- the evidence of a hypothesis
evidence_is : (s : Shot) (h : Hypothesis) → hypothesis s h.alignment ≡ h → reported s h.alignment ≡ h.evidence
evidence_is s h e = ap (λ (x : Hypothesis). x.evidence) e

finite_evidence : (s : Shot) → Checked s → (h : Hypothesis) → hypothesis s h.alignment ≡ h → FiniteEvidence h.evidence
finite_evidence s c h e = subst FiniteEvidence (evidence_is s h e) (reported_finite s c h.alignment)

small-evidence : (s : Shot) → Checked s → (h : Hypothesis) → hypothesis s h.alignment ≡ h → Small h.evidence
small-evidence s c h e = subst Small (evidence_is s h e) (reported-small s c h.alignment)

one_to_one : (s t : Shot) (f : GridAlignment → GridAlignment) → Pairing s t f → (p q : GridAlignment) → Placement s p → Placement s q → f p ≡ f q → p ≡ q
one_to_one s t f x p q at to e = sym (x.back p at) ∙ ap f e ∙ x.back q to

module _ (s t : Shot) (f : GridAlignment → GridAlignment) (x : Pairing s t f) (c : Checked s) (d : Checked t) where
  pub some-best : (b : Hypothesis) → best s ≡ Some b → best t ≡ None → ⊥
  some-best b is e = let a = best_is s c b is in no_best t d e (f b.alignment) (x.there b.alignment a.placed)

  module _ (b b' : Hypothesis) (is : best s ≡ Some b) (is' : best t ≡ Some b') where
    a : IsBest s b
    a = best_is s c b is

    a' : IsBest t b'
    a' = best_is t d b' is'

    -- the evidence of h's pair
    pair-evidence : (h : Hypothesis) → Placement s h.alignment → hypothesis s h.alignment ≡ h → reported t (f h.alignment) ≡ h.evidence
    pair-evidence h at e = x.same h.alignment at ∙ evidence_is s h e

    pub best_as_high : lies_below b'.evidence b.evidence ≡ false
    best_as_high =
        ap (lies_below b'.evidence) (sym (pair-evidence b a.placed a.is)) ∙ a'.most (f b.alignment) (x.there b.alignment a.placed)

    pub some_next : (g : Hypothesis) → runner_up s ≡ Some g → runner_up t ≡ None → ⊥
    some_next g next e =
        let n = next_is s c b is g next in
        let only = no_next t d b' is' e in
        n.other (one_to_one s t f x g.alignment b.alignment n.placed a.placed
        (only (f g.alignment) (x.there g.alignment n.placed) ∙ sym (only (f b.alignment) (x.there b.alignment a.placed))))

    -- g's pair is one of the rest, or the best; then b's is one of the rest, and b is not below g
    pub next_as_high : (g g' : Hypothesis) → runner_up s ≡ Some g → runner_up t ≡ Some g' → lies_below g'.evidence g.evidence ≡ false
    next_as_high g g' next next' = elim (best_or_rest t d b' is' (f g.alignment) (x.there g.alignment n.placed)) [
      | inl same ↦
          not_below_trans g'.evidence b.evidence g.evidence (finite_evidence t d g' n'.is) (finite_evidence s c b a.is)
          (finite_evidence s c g n.is)
          (ap (lies_below g'.evidence) (sym (pair-evidence b a.placed a.is))
          ∙ n'.most (f b.alignment) (x.there b.alignment a.placed)
          (λ z. n.other (one_to_one s t f x g.alignment b.alignment n.placed a.placed (same ∙ sym z))))
          (ap (lies_below b.evidence) (sym (evidence_is s g n.is)) ∙ a.most g.alignment n.placed)
      | inr (k, at) ↦ ap (lies_below g'.evidence) (sym (pair-evidence g n.placed n.is)) ∙ rest-most t d b' is' g' next' k (f g.alignment) at
    ]
      where
        n : IsNext s b g
        n = next_is s c b is g next

        n' : IsNext t b' g'
        n' = next_is t d b' is' g' next'

-- ---- a legacy shot and the shot restated
module _ (s : Shot) (m : TurnedByHalf s) (c : Checked s) (first : 0 < cell_total s) where
  d : Checked (restated s)
  d = record { small = c.small; table = c.table; threshold = c.threshold; few = c.few; cells = c.cells }

  turn_small : (p : GridAlignment) → Placement s p → p.turn < 4
  turn_small p at = ((placements_rule s first).sound at.0 p at.1).0

  pub forth : Pairing s (restated s) (paired s)
  forth =
      record {
        there = λ p at. (placements_rule (restated s) first).complete (paired s p) ((pair_rule s m p).fits ((placements_rule s first).sound at.0 p at.1));
        same = λ p at. (pair_rule s m p).evidence;
        back = λ p at. paired_twice s p (turn_small p at);
      }

  new-fits : (p : GridAlignment) → Placement (restated s) p → Fits (restated s) p
  new-fits p at = (placements_rule (restated s) first).sound at.0 p at.1

  new_back : (p : GridAlignment) → Placement (restated s) p → paired s (paired s p) ≡ p
  new_back p at = paired_twice s p (new-fits p at).0

  pub back : Pairing (restated s) s (paired s)
  back =
      record {
        there = λ p at.
            (placements_rule s first).complete (paired s p)
            ((pair_rule s m (paired s p)).fits_only (subst (Fits (restated s)) (sym (new_back p at)) (new-fits p at)) (mod-lt (p.turn + 2) (lit< tt)));
        same = λ p at. sym (pair_rule s m (paired s p)).evidence ∙ ap (reported (restated s)) (new_back p at);
        back = new_back;
      }

  pair_is : (p : GridAlignment) → hypothesis (restated s) (paired s p) ≡ paired_hypothesis s (hypothesis s p)
  pair_is p = λ i. record { alignment = paired s p; evidence = (pair_rule s m p).evidence i; contributing_cells = (pair_rule s m p).count i }

  -- a placement of the new shot with the evidence of h, which only h has, is the pair of h
  is-pair : (h h' : Hypothesis) → Untied s h → hypothesis s h.alignment ≡ h → Placement (restated s) h'.alignment
      → hypothesis (restated s) h'.alignment ≡ h' → lies_below h'.evidence h.evidence ≡ false → lies_below h.evidence h'.evidence ≡ false
      → h' ≡ paired_hypothesis s h
  is-pair h h' alone e at e' low high =
      let q = paired s h'.alignment in
      let evidence : reported s q ≡ h'.evidence = back.same h'.alignment at ∙ evidence_is (restated s) h' e' in
      let one : q ≡ h.alignment =
      alone q (back.there h'.alignment at) (ap (λ (y : Evidence). lies_below y h.evidence) evidence ∙ low)
      (ap (lies_below h.evidence) evidence ∙ high) in
      sym e' ∙ ap (hypothesis (restated s)) (sym (new_back h'.alignment at) ∙ ap (paired s) one) ∙ pair_is h.alignment ∙ ap (paired_hypothesis s) e

  best_pairs : BestUntied s → best (restated s) ≡ paired_choice s (best s)
  best_pairs untied = go (best s) (best (restated s)) refl refl
    where
      go : (o o' : Option Hypothesis) → best s ≡ o → best (restated s) ≡ o' → o' ≡ paired_choice s o
      go None None e e' = refl
      go None (Some b') e e' = absurd (some-best (restated s) s (paired s) back d c b' e' e)
      go (Some b) None e e' = absurd (some-best s (restated s) (paired s) forth c d b e e')
      go (Some b) (Some b') e e' =
          let a' = best_is (restated s) d b' e' in
          ap Some (is-pair b b' (untied b e) (best_is s c b e).is a'.placed a'.is
          (best_as_high s (restated s) (paired s) forth c d b b' e e') (best_as_high (restated s) s (paired s) back d c b' b e' e))

  runner_up_pairs : NoTies s → runner_up (restated s) ≡ paired_choice s (runner_up s)
  runner_up_pairs no_ties = by_best (best s) (best (restated s)) refl refl
    where
      by_next : (b b' : Hypothesis) → best s ≡ Some b → best (restated s) ≡ Some b' → (o o' : Option Hypothesis) → runner_up s ≡ o
          → runner_up (restated s) ≡ o' → o' ≡ paired_choice s o
      by_next b b' is is' None None e e' = refl
      by_next b b' is is' None (Some g') e e' = absurd (some_next (restated s) s (paired s) back d c b' b is' is g' e' e)
      by_next b b' is is' (Some g) None e e' = absurd (some_next s (restated s) (paired s) forth c d b b' is is' g e e')
      by_next b b' is is' (Some g) (Some g') e e' =
          let n' = next_is (restated s) d b' is' g' e' in
          ap Some (is-pair g g' (no_ties.of_runner_up g e) (next_is s c b is g e).is n'.placed n'.is
          (next_as_high s (restated s) (paired s) forth c d b b' is is' g g' e e')
          (next_as_high (restated s) s (paired s) back d c b' b is' is g' g e' e))

      -- without a best there is no placement, and no runner-up
      by_best : (o o' : Option Hypothesis) → best s ≡ o → best (restated s) ≡ o' → runner_up (restated s) ≡ paired_choice s (runner_up s)
      by_best None None e e' =
          none_next (restated s) e' ∙ ap (paired_choice s) (sym (none_next s e))
      by_best None (Some b') e e' = absurd (some-best (restated s) s (paired s) back d c b' e' e)
      by_best (Some b) None e e' = absurd (some-best s (restated s) (paired s) forth c d b e e')
      by_best (Some b) (Some b') e e' = by_next b b' e e' (runner_up s) (runner_up (restated s)) refl refl

  -- ---- the margin
  module _ (b b' : Hypothesis) (is : best s ≡ Some b) (is' : best (restated s) ≡ Some b') where
    next_ties : (o o' : Option Hypothesis) → runner_up s ≡ o → runner_up (restated s) ≡ o' → TiedNext o o'
    next_ties None None e e' = tt
    next_ties None (Some g') e e' = some_next (restated s) s (paired s) back d c b' b is' is g' e' e
    next_ties (Some g) None e e' = some_next s (restated s) (paired s) forth c d b b' is is' g e e'
    next_ties (Some g) (Some g') e e' = (
      (
        next_as_high (restated s) s (paired s) back d c b' b is' is g' g e' e,
        next_as_high s (restated s) (paired s) forth c d b b' is is' g g' e e',
      ),
      small-evidence s c g (next_is s c b is g e).is,
      small-evidence (restated s) d g' (next_is (restated s) d b' is' g' e').is,
    )

    -- the bests pair, or the best ties with the runner-up
    pair_or_tie : (o : Option Hypothesis) → runner_up s ≡ o → (capacity s b.alignment ≡ capacity (restated s) b'.alignment) ⊎ TiedWith b.evidence o
    pair_or_tie o e = by_next o e (best_or_rest s c b is q placed)
      where
        a : IsBest s b
        a = best_is s c b is

        a' : IsBest (restated s) b'
        a' = best_is (restated s) d b' is'

        q : GridAlignment
        q = paired s b'.alignment

        placed : Placement s q
        placed = back.there b'.alignment a'.placed

        pairs : q ≡ b.alignment → capacity s b.alignment ≡ capacity (restated s) b'.alignment
        pairs same =
            ap (capacity s) (sym same) ∙ sym (pair_rule s m q).capacity ∙ ap (capacity (restated s)) (new_back b'.alignment a'.placed)

        by_next : (o : Option Hypothesis) → runner_up s ≡ o → (q ≡ b.alignment) ⊎ ((k : ℕ) × (get_elem? (rest (hypotheses s)) k ≡ some (hypothesis s q)))
            → (capacity s b.alignment ≡ capacity (restated s) b'.alignment) ⊎ TiedWith b.evidence o
        by_next o e (inl same) = inl (pairs same)
        by_next None e (inr (k, at)) = inl (pairs (no_next s c b is e q placed))
        by_next (Some g) e (inr (k, at)) =
            let n = next_is s c b is g e in
            let evidence : reported s q ≡ b'.evidence = back.same b'.alignment a'.placed ∙ evidence_is (restated s) b' a'.is in
            inr (
              ap (lies_below b.evidence) (sym (evidence_is s g n.is)) ∙ a.most g.alignment n.placed,
              not_below_trans g.evidence b'.evidence b.evidence (finite_evidence s c g n.is) (finite_evidence (restated s) d b' a'.is)
                  (finite_evidence s c b a.is)
                  (ap (lies_below g.evidence) (sym evidence) ∙ rest-most s c b is g e k q at)
                  (best_as_high s (restated s) (paired s) forth c d b b' is is'),
            )

    pub same_margins : margin b'.evidence (capacity (restated s) b'.alignment) (runner_up (restated s))
        ≡ margin b.evidence (capacity s b.alignment) (runner_up s)
    same_margins =
        let a = best_is s c b is in
        let a' = best_is (restated s) d b' is' in
        sym (tied_margins (capacity s b.alignment) (capacity (restated s) b'.alignment) (runner_up s) (runner_up (restated s))
        (next_ties (runner_up s) (runner_up (restated s)) refl refl) b.evidence b'.evidence (small-evidence s c b a.is)
        (small-evidence (restated s) d b' a'.is)
        (best_as_high (restated s) s (paired s) back d c b' b is' is, best_as_high s (restated s) (paired s) forth c d b b' is is')
        (margin-is-number s c b is) (margin-is-number (restated s) d b' is') (pair_or_tie (runner_up s) refl))

  same-margin : margin_of (restated s) ≡ margin_of s
  same-margin = go (best s) (best (restated s)) refl refl
    where
      go : (o o' : Option Hypothesis) → best s ≡ o → best (restated s) ≡ o' → margin_with (restated s) o' ≡ margin_with s o
      go None None e e' = refl
      go None (Some b') e e' = absurd (some-best (restated s) s (paired s) back d c b' e' e)
      go (Some b) None e e' = absurd (some-best s (restated s) (paired s) forth c d b e e')
      go (Some b) (Some b') e e' = same_margins b b' e e'

pub margin_rule : MarginRule
margin_rule s m c first = same-margin s m c first

pub best_rule : BestRule
best_rule s m c first untied = best_pairs s m c first untied

pub runner_up_rule : RunnerUpRule
runner_up_rule s m c first no_ties = runner_up_pairs s m c first no_ties
