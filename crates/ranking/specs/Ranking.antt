-- Document 01, Search: best and runner-up of the placements seen, updated by further placements.
use Rattle.std.specs.Prelude.{◌≡◌, ℕ, zero, suc, ◌+◌, Bool, false, not, ◌&&◌, cond, List, length, Option, Some, None}
use Rattle.ranking.specs.declared.Evidence.{Evidence}
use Rattle.ranking.specs.declared.Hypothesis.{Hypothesis}
use Rattle.ranking.specs.declared.Ranking.{Ranking}
use Rattle.ranking.specs.Greatest.{lies_below, first_greatest, rest}

abbrev pub ranking : Option Hypothesis → Option Hypothesis → ℕ → Ranking
ranking best runner_up total = record { best = best; runner_up = runner_up; total = total }

-- the best and the runner-up of a list, and its length
abbrev pub ranking_of : List Hypothesis → Ranking
ranking_of hs = ranking (first_greatest hs) (first_greatest (rest hs)) (length hs)

-- The better of the first argument and h; on a tie the first, which is earlier.
abbrev pub better : Option Hypothesis → Hypothesis → Option Hypothesis
better None h = Some h
better (Some b) h = cond (lies_below b.evidence h.evidence) (Some h) (Some b)

-- The runner-up after h: the old best if h is above it, else the better of the old runner-up and h.
abbrev pub second : Option Hypothesis → Option Hypothesis → Hypothesis → Option Hypothesis
second None runner_up h = None
second (Some b) runner_up h = cond (lies_below b.evidence h.evidence) (Some b) (better runner_up h)

abbrev pub ranked : Ranking → Hypothesis → Ranking
ranked k h = ranking (better k.best h) (second k.best k.runner_up h) (k.total + 1)

-- a ranking after f 0 to f (n − 1)
unfoldable pub ranked_to : Ranking → (ℕ → Hypothesis) → ℕ → Ranking
ranked_to k f zero = k
ranked_to k f (suc n) = ranked (ranked_to k f n) (f n)

-- h has the best and the runner-up after f 0 to f (n − 1), from ranking k
abbrev pub Held : Ranking → (ℕ → Hypothesis) → ℕ → Ranking → Type 0
Held k f n h = ranking h.best h.runner_up (k.total + n) ≡ ranked_to k f n

-- Is it a placement not below this evidence, which one with this evidence does not replace?
abbrev pub keeps_place : Option Hypothesis → Evidence → Bool
keeps_place None e = false
keeps_place (Some h) e = not (lies_below h.evidence e)

-- The same of best and runner-up: a placement with this evidence then changes only the count.
abbrev pub changes_nothing : Option Hypothesis → Option Hypothesis → Evidence → Bool
changes_nothing best runner_up e = keeps_place runner_up e && keeps_place best e
