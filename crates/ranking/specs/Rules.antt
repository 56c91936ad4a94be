-- The laws of the first greatest and of the rest, proved in `proofs/`.
use Rattle.std.specs.Prelude.{ℕ, suc, ◌<◌, ◌≡◌, true, false, List, ◌++◌, take, drop, Some}
use Rattle.std.proofs.Math.Option.{some}
use Rattle.std.proofs.Math.ListN.{get_elem?}
use Rattle.floats.specs.Units.{Finite}
use Rattle.ranking.specs.declared.Evidence.{Evidence}
use Rattle.ranking.specs.declared.Evidence.TheVariants as evidence
use Rattle.ranking.specs.declared.Hypothesis.{Hypothesis}
use Rattle.ranking.specs.Greatest.{lies_below, first_greatest, rest}

-- evidence is none or a finite number
abbrev pub FiniteEvidence : Evidence → Type 0
FiniteEvidence evidence.Absent = Unit {0}
FiniteEvidence (evidence.Number x) = Finite x

abbrev pub AllFinite : List Hypothesis → Type 0
AllFinite hs = (k : ℕ) (h : Hypothesis) → get_elem? hs k ≡ some h → FiniteEvidence h.evidence

-- none of the list is above it, and all before it are below it; the rest is the list without it
pub record IsFirstGreatest (hs : List Hypothesis) (b : Hypothesis) : Type 0 where
  pub place : ℕ
  pub there : get_elem? hs place ≡ some b
  pub greatest : (k : ℕ) (h : Hypothesis) → get_elem? hs k ≡ some h → lies_below b.evidence h.evidence ≡ false
  pub first : (k : ℕ) (h : Hypothesis) → k < place → get_elem? hs k ≡ some h → lies_below h.evidence b.evidence ≡ true
  pub others : rest hs ≡ take place hs ++ drop (suc place) hs

abbrev pub GreatestRule : Type 0
GreatestRule = (hs : List Hypothesis) (b : Hypothesis) → AllFinite hs → first_greatest hs ≡ Some b → IsFirstGreatest hs b
