-- Document 01, Search: the margin, from the evidence and the capacity of the best placement and from the runner-up.
use Rattle.std.specs.Prelude.{cond, Float, Option, Some, None}
use Rattle.std.specs.Float.{binary32}
use Rattle.std.specs.Float.Ieee.{of_bits, sub, div, lt, le}
use Rattle.floats.specs.Units.{nought, unity}
use Rattle.ranking.specs.declared.Evidence.{Evidence}
use Rattle.ranking.specs.declared.Evidence.TheVariants as evidence
use Rattle.ranking.specs.declared.Hypothesis.{Hypothesis}

-- 2⁻²³
abbrev pub epsilon : Float
epsilon = of_bits binary32 0x34000000

abbrev pub at_least : Float → Float → Float
at_least low x = cond (lt x low) low x

-- The gap to the runner-up, normalised by the best's capacity: 1 if the runner-up or its evidence is absent.
abbrev pub share : Float → Float → Evidence → Float
share x cap evidence.Absent = unity
share x cap (evidence.Number y) = div binary32 (sub binary32 x y) (at_least epsilon cap)

abbrev pub lead : Float → Float → Option Hypothesis → Float
lead x cap None = unity
lead x cap (Some g) = share x cap g.evidence

-- Margin: normalised gap to the second best; 0 if best is none or at most 0.
abbrev pub margin : Evidence → Float → Option Hypothesis → Float
margin evidence.Absent cap next = nought
margin (evidence.Number x) cap next = cond (le x nought) nought (lead x cap next)
