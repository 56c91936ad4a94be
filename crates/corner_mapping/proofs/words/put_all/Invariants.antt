-- `corner_mapping::words::put_all` meets its contract. The loop's invariant: the results of the ids so far are written. Assumes nothing.
use Rattle.lent_list.specs.Front.{up_to, Put}
use Rattle.corner_mapping.specs.Corners.{mapped_by, words_of_corners}
use Rattle.corner_mapping.specs.Inner.{stored}
use Rattle.corner_mapping.proofs.words.put_all.Given as goal

abbrev pub invariant-loop-id : goal.invariant-loop-id
invariant-loop-id l = Put l.initial.corners l.corners 0 l.end (words_of_corners l.board (up_to (mapped_by (stored l.choices)) l.id))
