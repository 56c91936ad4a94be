-- `link_check::passes::put_marker_entries` meets its contract. The loop's invariant: the violations of the markers of the first k links
-- are written. Assumes nothing.
use Rattle.lent_list.specs.Front.{up_to, Put}
use Rattle.link_check.specs.Violations.{expectation, of_first, words_of_violations}
use Rattle.link_check.proofs.passes.put_marker_entries.Given as goal

abbrev pub invariant-loop-k : goal.invariant-loop-k
invariant-loop-k l =
    Put l.initial.violations l.violations l.at l.end (words_of_violations (up_to (of_first l.links.words.now l.links.count l.standard.mode (expectation l.standard.board)) l.k))
