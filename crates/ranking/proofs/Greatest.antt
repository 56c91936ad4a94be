-- `first_greatest` is the first of maximum evidence, and the rest is the list without it, if all evidence is finite. Assumes nothing.
use mathlib.Core.Path.{◌≡◌, refl, sym, ap, ◌∙◌}
use Prim.Native.Nat.{ℕ, zero, suc, ◌<◌}
use native.Mathlib.Nat.{le_of_suc-le-suc}
use native.Mathlib.Omega.{arith}
use mathlib.Core.Bool.{Bool, true, false, cond}
use mathlib.Core.List.{List, [], ◌∷◌}
use mathlib.Core.Option.{none, some}
use lib.ListN.{get_elem?}
use Rattle.ranking.specs.declared.Hypothesis.{Hypothesis}
use Rattle.ranking.specs.Greatest.{lies_below, over, first_greatest, rest, rest_over}
use Rattle.ranking.specs.Rules.{FiniteEvidence, AllFinite, IsFirstGreatest, GreatestRule}
use Rattle.ranking.proofs.Order.{below_self, not_below_trans, below_one_way}
use Rattle.ranking.proofs.OnePass.{head_finite, tail_finite}
use Rattle.std.specs.Prelude.{Option, Some, None}

-- only the empty list has none
pub empty : (hs : List Hypothesis) → first_greatest hs ≡ None → hs ≡ []
unfolding first_greatest
empty [] e = refl
empty (h ∷ hs) e = absurd (go (first_greatest hs) e)
  where
    one : (t : Bool) (g h : Hypothesis) → cond t (Some g) (Some h) ≡ None → ⊥
    one true g h e = let z : ◌≡◌ {A = ℕ} 0 1 = cc in omega arith
    one false g h e = let z : ◌≡◌ {A = ℕ} 0 1 = cc in omega arith

    go : (c : Option Hypothesis) → over h c ≡ None → ⊥
    go None e = let z : ◌≡◌ {A = ℕ} 0 1 = cc in omega arith
    go (Some g) e = one (lies_below h.evidence g.evidence) g h e

same : {a b : Hypothesis} → some a ≡ some b → a ≡ b
same e = cc

placed : {a b : Hypothesis} → Some a ≡ Some b → a ≡ b
placed e = cc

no_element : {b : Hypothesis} → none ≡ some b → ⊥
no_element e = let z : ◌≡◌ {A = ℕ} 0 1 = cc in omega arith

module _ (h : Hypothesis) (hs : List Hypothesis) (f : AllFinite (h ∷ hs)) where
  -- for each index: the head and those after it
  at_each : (x : Hypothesis) → lies_below x.evidence h.evidence ≡ false
      → ((k : ℕ) (g : Hypothesis) → get_elem? hs k ≡ some g → lies_below x.evidence g.evidence ≡ false) → (k : ℕ) (g : Hypothesis)
      → get_elem? (h ∷ hs) k ≡ some g → lies_below x.evidence g.evidence ≡ false
  at_each x p q zero g e = rw (← same e) p
  at_each x p q (suc k) g e = q k g e

  self : lies_below h.evidence h.evidence ≡ false
  self = below_self h.evidence (head_finite h hs f)

  head_first : ((k : ℕ) (g : Hypothesis) → get_elem? hs k ≡ some g → lies_below h.evidence g.evidence ≡ false) → rest (h ∷ hs) ≡ hs
      → IsFirstGreatest (h ∷ hs) h
  head_first q o = record { place = 0; there = refl; greatest = at_each h self q; first = λ k g l e. absurd (omega arith); others = o }

  alone : first_greatest hs ≡ None → IsFirstGreatest (h ∷ hs) h
  unfolding rest
  alone e = head_first (λ k g p. absurd (no_element (sym (ap (λ (l : List Hypothesis). get_elem? l k) (empty hs e)) ∙ p))) (ap (rest_over h hs (rest hs)) e)

  module _ (g : Hypothesis) (e : first_greatest hs ≡ Some g) (r : IsFirstGreatest hs g) where
    g₀ : FiniteEvidence g.evidence
    g₀ = tail_finite h hs f r.place g r.there

    not_above : lies_below h.evidence g.evidence ≡ false → IsFirstGreatest (h ∷ hs) h
    unfolding rest
    not_above t =
        head_first
        (λ k x p. not_below_trans h.evidence g.evidence x.evidence (head_finite h hs f) g₀ (tail_finite h hs f k x p) t (r.greatest k x p))
        (ap (rest_over h hs (rest hs)) e ∙ ap (λ (b : Bool). cond b (h ∷ rest hs) hs) t)

    above : lies_below h.evidence g.evidence ≡ true → IsFirstGreatest (h ∷ hs) g
    unfolding rest
    above t =
        record {
          place = suc r.place;
          there = r.there;
          greatest = at_each g (below_one_way h.evidence g.evidence (head_finite h hs f) g₀ t) r.greatest;
          first = go;
          others = ap (rest_over h hs (rest hs)) e ∙ ap (λ (b : Bool). cond b (h ∷ rest hs) hs) t ∙ ap (λ (l : List Hypothesis). h ∷ l) r.others;
        }
      where
        go : (k : ℕ) (x : Hypothesis) → k < suc r.place → get_elem? (h ∷ hs) k ≡ some x → lies_below x.evidence g.evidence ≡ true
        go zero x l p = rw (← same p) t
        go (suc k) x l p = r.first k x (le_of_suc-le-suc l) p

pub greatest_rule : GreatestRule
unfolding first_greatest
greatest_rule [] b f e = absurd (let z : ◌≡◌ {A = ℕ} 0 1 = cc in omega arith)
greatest_rule (h ∷ hs) b f e = go (first_greatest hs) refl (λ g p. greatest_rule hs g (tail_finite h hs f) p) e
  where
    one : (t : Bool) (g : Hypothesis) → first_greatest hs ≡ Some g → lies_below h.evidence g.evidence ≡ t → IsFirstGreatest hs g
        → cond t (Some g) (Some h) ≡ Some b → IsFirstGreatest (h ∷ hs) b
    one true g p t r q = rw (← placed q) (above h hs f g p r t)
    one false g p t r q = rw (← placed q) (not_above h hs f g p r t)

    go : (c : Option Hypothesis) → first_greatest hs ≡ c → ((g : Hypothesis) → first_greatest hs ≡ Some g → IsFirstGreatest hs g)
        → over h c ≡ Some b → IsFirstGreatest (h ∷ hs) b
    go None p r q = rw (← placed q) (alone h hs f p)
    go (Some g) p r q = one (lies_below h.evidence g.evidence) g p refl (r g p) q
