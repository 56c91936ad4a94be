-- Document 02, 2.7: the markers emitted for a placement of a legacy shot, and for its pair on the shot restated.
use Rattle.std.specs.Prelude.{◌≡◌, map, ◌+◌, ◌-◌, ◌*◌, ◌/◌, ◌%◌}
use Rattle.grid_alignment.specs.declared.GridAlignment.{GridAlignment}
use Rattle.grid_alignment.specs.Alignment.{corner}
use Rattle.shot_record.specs.Shots.{Shot}
use Rattle.hypothesis.specs.Placements.{cell_point}
use Rattle.emit.specs.Markers.{Marker, markers}
use Rattle.legacy_record.specs.Restated.{restated}
use Rattle.half_turn.specs.Pairs.{TurnedByHalf, paired}

-- "Marker id m of M becomes M − 1 − m"; turn and point are those of two quarter turns more; the other words stay
abbrev pub paired_marker : Shot → Marker → Marker
paired_marker s k =
    record {
      cell = k.cell;
      id = s.rows * s.cols / 2 - 1 - k.id;
      point = corner ((k.turn + 2) % 4) (cell_point s k.cell);
      turn = (k.turn + 2) % 4;
      differing = k.differing;
      code = k.code;
      quotient = k.quotient;
      fraction = k.fraction;
      corners = k.corners;
    }

abbrev pub MarkersRule : Type 0
MarkersRule = (s : Shot) → TurnedByHalf s → (p : GridAlignment) → markers (restated s) (paired s p) ≡ map (paired_marker s) (markers s p)
