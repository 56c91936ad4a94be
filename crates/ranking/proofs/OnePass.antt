-- Best and runner-up of a list in one pass: the effect of one more placement, if all evidence is finite. Assumes nothing.
use mathlib.Core.Path.{◌≡◌, refl, ap, ◌∙◌}
use Prim.Native.Nat.{suc}
use mathlib.Core.Bool.{Bool, true, false, cond}
use mathlib.Core.List.{List, [], ◌∷◌, ◌++◌}
use lib.ListN.{length-append}
use Rattle.ranking.specs.declared.Hypothesis.{Hypothesis}
use Rattle.ranking.specs.Greatest.{lies_below, over, first_greatest, rest, rest_over}
use Rattle.ranking.specs.Ranking.{ranking_of, better, second, ranked}
use Rattle.ranking.specs.Rules.{FiniteEvidence, AllFinite}
use Rattle.ranking.proofs.Order.{below_trans, not_below_trans}
use Rattle.std.specs.Prelude.{Option, Some, None}

-- ---- head and tail
pub head_finite : (h : Hypothesis) (hs : List Hypothesis) → AllFinite (h ∷ hs) → FiniteEvidence h.evidence
head_finite h hs f = f 0 h refl

pub tail_finite : (h : Hypothesis) (hs : List Hypothesis) → AllFinite (h ∷ hs) → AllFinite hs
tail_finite h hs f k g e = f (suc k) g e

-- ---- a choice has finite evidence
abbrev Chosen : Option Hypothesis → Type 0
Chosen None = Unit {0}
Chosen (Some b) = FiniteEvidence b.evidence

chosen-one : (t : Bool) (g h : Hypothesis) → FiniteEvidence g.evidence → FiniteEvidence h.evidence
    → Chosen (cond t (Some g) (Some h))
chosen-one true g h p q = p
chosen-one false g h p q = q

over_finite : (h : Hypothesis) (c : Option Hypothesis) → FiniteEvidence h.evidence → Chosen c → Chosen (over h c)
over_finite h None p q = p
over_finite h (Some g) p q = chosen-one (lies_below h.evidence g.evidence) g h q p

best_finite : (hs : List Hypothesis) → AllFinite hs → Chosen (first_greatest hs)
unfolding first_greatest
best_finite [] f = tt
best_finite (h ∷ hs) f = over_finite h (first_greatest hs) (head_finite h hs f) (best_finite hs (tail_finite h hs f))

-- the runner-up of a head and a tail, from the left
abbrev next_over : Hypothesis → Option Hypothesis → Option Hypothesis → Option Hypothesis
next_over h None next = None
next_over h (Some g) next = cond (lies_below h.evidence g.evidence) (over h next) (Some g)

next_is : (h : Hypothesis) (hs : List Hypothesis) → first_greatest (rest (h ∷ hs)) ≡ next_over h (first_greatest hs) (first_greatest (rest hs))
unfolding rest first_greatest
next_is h hs = go (first_greatest hs) refl
  where
    one : (t : Bool) (g : Hypothesis) → first_greatest hs ≡ Some g
        → first_greatest (cond t (h ∷ rest hs) hs) ≡ cond t (over h (first_greatest (rest hs))) (Some g)
    one true g e = refl
    one false g e = e

    go : (c : Option Hypothesis) → first_greatest hs ≡ c → first_greatest (rest_over h hs (rest hs) c) ≡ next_over h c (first_greatest (rest hs))
    go None e = e
    go (Some g) e = one (lies_below h.evidence g.evidence) g e

next_over_finite : (h : Hypothesis) (c next : Option Hypothesis) → FiniteEvidence h.evidence → Chosen c → Chosen next → Chosen (next_over h c next)
next_over_finite h None next h₀ c₀ n₀ = tt
next_over_finite h (Some g) next h₀ c₀ n₀ = go (lies_below h.evidence g.evidence)
  where
    go : (t : Bool) → Chosen (cond t (over h next) (Some g))
    go true = over_finite h next h₀ n₀
    go false = c₀

next_finite : (hs : List Hypothesis) → AllFinite hs → Chosen (first_greatest (rest hs))
unfolding first_greatest rest
next_finite [] f = tt
next_finite (h ∷ hs) f =
    let f' = tail_finite h hs f in
    rw next_is (next_over_finite h (first_greatest hs) (first_greatest (rest hs)) (head_finite h hs f) (best_finite hs f') (next_finite hs f'))

-- ---- a head and a last element
module _ (h x : Hypothesis) (h₀ : FiniteEvidence h.evidence) (x₀ : FiniteEvidence x.evidence) where
  over-better : (c : Option Hypothesis) → Chosen c → over h (better c x) ≡ better (over h c) x
  over-better None c₀ = refl
  over-better (Some g) c₀ = go (lies_below g.evidence x.evidence) (lies_below h.evidence g.evidence) refl refl
    where
      go : (t s : Bool) → lies_below g.evidence x.evidence ≡ t → lies_below h.evidence g.evidence ≡ s
          → over h (cond t (Some x) (Some g)) ≡ better (cond s (Some g) (Some h)) x
      go true true p q = rw (below_trans h.evidence g.evidence x.evidence h₀ c₀ x₀ q p, p)
      go true false p q = refl
      go false true p q = rw (q, p)
      go false false p q = rw (q, not_below_trans h.evidence g.evidence x.evidence h₀ c₀ x₀ q p)

  over-second : (c next : Option Hypothesis) → Chosen c → Chosen next → next_over h (better c x) (second c next x) ≡ second (over h c) (next_over h c next) x
  over-second None next c₀ n₀ = refl
  over-second (Some g) next c₀ n₀ = go (lies_below g.evidence x.evidence) (lies_below h.evidence g.evidence) refl refl
    where
      go : (t s : Bool) → lies_below g.evidence x.evidence ≡ t → lies_below h.evidence g.evidence ≡ s
          → next_over h (cond t (Some x) (Some g)) (cond t (Some g) (better next x))
          ≡ second (cond s (Some g) (Some h)) (cond s (over h next) (Some g)) x
      go true true p q = rw (below_trans h.evidence g.evidence x.evidence h₀ c₀ x₀ q p, q, p)
      go true false p q = rw (q, p)
      go false true p q = rw (q, p) (over-better next n₀)
      go false false p q = rw (q, not_below_trans h.evidence g.evidence x.evidence h₀ c₀ x₀ q p, p)

-- ---- one more at the end
module _ (x : Hypothesis) (x₀ : FiniteEvidence x.evidence) where
  pub pass-best : (hs : List Hypothesis) → AllFinite hs → first_greatest (hs ++ (x ∷ [])) ≡ better (first_greatest hs) x
  unfolding first_greatest
  pass-best [] f = refl
  pass-best (h ∷ hs) f =
      ap (over h) (pass-best hs (tail_finite h hs f))
      ∙ over-better h x (head_finite h hs f) x₀ (first_greatest hs) (best_finite hs (tail_finite h hs f))

  pub pass-rest : (hs : List Hypothesis) → AllFinite hs → first_greatest (rest (hs ++ (x ∷ []))) ≡ second (first_greatest hs) (first_greatest (rest hs)) x
  unfolding first_greatest rest
  pass-rest [] f = refl
  pass-rest (h ∷ hs) f =
      let f' = tail_finite h hs f in
      next_is h (hs ++ (x ∷ []))
      ∙ rw (pass-best hs f', pass-rest hs f', next_is h hs)
      (over-second h x (head_finite h hs f) x₀ (first_greatest hs) (first_greatest (rest hs)) (best_finite hs f') (next_finite hs f'))

  pub pass : (hs : List Hypothesis) → AllFinite hs → ranking_of (hs ++ (x ∷ [])) ≡ ranked (ranking_of hs) x
  pass hs f = rw (pass-best hs f, pass-rest hs f, length-append)
