-- `emit::emit_markers` meets its contract. The loop's invariant: the words of what the first k cells emit are written. Assumes nothing.
use mathlib.Core.List.{flat_map}
use Rattle.lent_list.specs.Front.{up_to, Put}
use Rattle.shot_record.specs.Shots.{shot}
use Rattle.emit.specs.Markers.{emitted, marker_words}
use Rattle.emit.proofs.emit_markers.Given as goal

abbrev pub invariant-loop-k : goal.invariant-loop-k
invariant-loop-k l =
    Put l.initial.markers l.markers 0 l.at (flat_map marker_words (up_to (emitted (shot l.loaded.bytes.now) l.alignment) l.k))
