-- `link_check::repeats::put_repeats` meets its contract. The loop's invariant: the violations of the links before k are written, and k has
-- the marker's key. Assumes nothing.
use mathlib.Core.Path.{◌≡◌}
use Prim.Native.Nat.{◌-◌, ◌≤◌, ◌<◌}
use Rattle.lent_list.specs.Front.{up_to, Put}
use Rattle.link_check.specs.Violations.{four_of, repeat_at, words_of_violations}
use Rattle.link_check.specs.declared.chains.By.TheVariants.{Marker}
use Rattle.link_check.specs.Chains.{key_for, key_of}
use Rattle.link_check.proofs.repeats.put_repeats.Given as goal

abbrev pub invariant-loop-k : goal.invariant-loop-k
invariant-loop-k l =
    (l.k ≤ l.links.count) × (l.k < l.links.count → key_of Marker l.links.words.now l.k ≡ key_for Marker l.expected.marker 0)
    × Put l.initial.violations l.violations l.at l.end (words_of_violations (up_to (repeat_at l.links.words.now l.expected.marker (four_of l.expected.corners)) l.k))

abbrev pub decreases-loop-k : goal.decreases-loop-k
decreases-loop-k l = l.links.count - l.k
