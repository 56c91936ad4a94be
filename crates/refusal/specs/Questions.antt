-- Document 01, "The questions asked": validity checks in order; the first failure is the result.
use Rattle.std.specs.Prelude.{Bool, true, false}
use Rattle.std.proofs.Math.Option.{Option, some}
use Rattle.refusal.specs.declared.Refusal.{Refusal}

-- validity check: a pass goes on to the next
abbrev pub ask : Bool → Refusal → Option Refusal → Option Refusal
ask true refused next = next
ask false refused next = some refused
