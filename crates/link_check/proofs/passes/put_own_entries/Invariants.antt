-- `link_check::passes::put_own_entries` meets its contract. The loop's invariant: the own violations of the first k links are written.
-- Assumes nothing.
use Rattle.lent_list.specs.Front.{up_to, Put}
use Rattle.link_check.specs.Violations.{expectation, own, words_of_violations}
use Rattle.link_check.proofs.passes.put_own_entries.Given as goal

abbrev pub invariant-loop-k : goal.invariant-loop-k
invariant-loop-k l =
    Put l.initial.violations l.violations 0 l.end (words_of_violations (up_to (own l.links.words.now (expectation l.board)) l.k))
