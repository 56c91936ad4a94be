-- Document 01, Search: the order of evidence, the first greatest of a list of placements, and the list without it.
use Rattle.std.specs.Prelude.{Bool, true, false, cond, List, [], ◌∷◌, Option, Some, None}
use Rattle.std.specs.Float.Ieee.{lt}
use Rattle.ranking.specs.declared.Evidence.{Evidence}
use Rattle.ranking.specs.declared.Evidence.TheVariants as evidence
use Rattle.ranking.specs.declared.Hypothesis.{Hypothesis}

-- `Absent` is below every number.
abbrev pub lies_below : Evidence → Evidence → Bool
lies_below x evidence.Absent = false
lies_below evidence.Absent (evidence.Number y) = true
lies_below (evidence.Number x) (evidence.Number y) = lt x y

-- `first_greatest`: the first placement of maximum evidence (argmax). The head, unless that of the others is above it.
abbrev pub over : Hypothesis → Option Hypothesis → Option Hypothesis
over h None = Some h
over h (Some g) = cond (lies_below h.evidence g.evidence) (Some g) (Some h)

unfoldable pub first_greatest : List Hypothesis → Option Hypothesis
first_greatest [] = None
first_greatest (h ∷ hs) = over h (first_greatest hs)

-- the list without its first greatest
abbrev pub rest_over : Hypothesis → List Hypothesis → List Hypothesis → Option Hypothesis → List Hypothesis
rest_over h hs others None = hs
rest_over h hs others (Some g) = cond (lies_below h.evidence g.evidence) (h ∷ others) hs

unfoldable pub rest : List Hypothesis → List Hypothesis
unfolding first_greatest
rest [] = []
rest (h ∷ hs) = rest_over h hs (rest hs) (first_greatest hs)
