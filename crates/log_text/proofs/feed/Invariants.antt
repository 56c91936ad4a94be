-- `log_text::feed` meets its contract: entry by entry, and each is within the bytes. Assumes nothing.
use Prim.Native.Nat.{◌-◌}
use mathlib.Core.Path.{◌≡◌}
use lib.ListN.{length}
use Rattle.log_text.proofs.Feeding.{Feeding}
use Rattle.log_text.proofs.feed.Given as goal

abbrev pub invariant-loop-page : goal.invariant-loop-page
invariant-loop-page l =
    Feeding l.bytes l.initial.page.text.now l.initial.seen l.page.text.now l.used l.page.at l.seen × (l.page.text.ghost_name ≡ l.initial.page.text.ghost_name)

abbrev pub decreases-loop-page : goal.decreases-loop-page
decreases-loop-page l = length l.bytes - l.used
