-- The markers emitted for a placement and for its pair: id, point and turn of each change, and no other word. Assumes nothing.
use mathlib.Core.Path.{◌≡◌, refl, sym, ◌∙◌}
use mathlib.Core.Bool.{Bool, true, false, cond, ◌&&◌}
use mathlib.Core.List.{[], ◌∷◌, map}
use mathlib.Core.Option.{Option as Maybe, none, some}
use Prim.Native.Nat.{ℕ, ◌+◌, ◌-◌, ◌*◌, ◌/◌, ◌%◌, ◌<◌}
use native.Mathlib.Omega.{arith}
use lib.Ieee.{lt}
use Rattle.floats.specs.Units.{nought}
use Rattle.matcher.specs.Codes.{differing}
use Rattle.grid_alignment.specs.declared.GridAlignment.{GridAlignment}
use Rattle.grid_alignment.specs.Alignment.{corner}
use Rattle.lent_list.proofs.Front.{up_to_as}
use Rattle.score_matrix.specs.Scores.{evidence, read_code}
use Rattle.shot_record.specs.Shots.{Sample, Shot}
use Rattle.hypothesis.specs.Placements.{cell_total, cell, cell_point}
use Rattle.hypothesis.specs.Evidence.{table_of, code_of, weight_with, samples_with, expected}
use Rattle.emit.specs.Markers.{Marker, quotient, marker_of, emitted_with, emitted}
use Rattle.legacy_record.specs.Restated.{restated}
use Rattle.half_turn.specs.Pairs.{from_last, TurnedByHalf, paired}
use Rattle.half_turn.specs.Markers.{paired_marker, MarkersRule}
use Rattle.half_turn.proofs.CodedCells.{map-up_to}
use Rattle.half_turn.proofs.Pairs.{expects, codes-turned, known}
use Rattle.std.specs.Prelude.{Option, Some, None}

module _ (s : Shot) (m : TurnedByHalf s) (p : GridAlignment) where
  abbrev M : ℕ
  M = s.rows * s.cols / 2

  abbrev r' : ℕ
  r' = (p.turn + 2) % 4

  turn_is : r' ≡ (p.turn % 4 + 2) % 4
  turn_is = omega arith

  turn-left : r' % 4 ≡ (p.turn % 4 + 2) % 4
  turn-left = omega arith

  one : (k i : ℕ) (x : Sample) → code_of (restated s) r' (M - 1 - i) ≡ code_of s p.turn i
      → marker_of (restated s) (paired s p) k x (M - 1 - i) ≡ paired_marker s (marker_of s p k x i)
  one k i x e =
      let y = samples_with s (some x) in
      λ j.
      record {
        cell = k;
        id = M - 1 - i;
        point = corner (turn_is j) (cell_point s k);
        turn = turn-left j;
        differing = differing 64 (read_code y) (e j);
        code = read_code y;
        quotient = quotient (table_of s) y (e j);
        fraction = (marker_of s p k x i).fraction;
        corners = (marker_of s p k x i).corners;
      }

  by_marker : (k : ℕ) (o : Maybe Sample) (e e' : Option ℕ) → e' ≡ from_last M e → ((i : ℕ) → e ≡ Some i → i < M)
      → emitted_with (restated s) (paired s p) k o e' ≡ map (paired_marker s) (emitted_with s p k o e)
  by_marker k none e e' is small = refl
  by_marker k (some x) None e' is small = rw is refl
  by_marker k (some x) (Some i) e' is small =
      let c = codes-turned s m p.turn i (small i refl) in
      let y = samples_with s (some x) in
      rw is
      ((λ j. cond (lt nought (weight_with s (some x)) && lt nought (evidence (table_of s) y (c j))) (one k i x c j ∷ []) [])
      ∙ go (lt nought (weight_with s (some x)) && lt nought (evidence (table_of s) y (code_of s p.turn i))) (marker_of s p k x i))
    where
      go : (t : Bool) (k : Marker) → cond t (paired_marker s k ∷ []) [] ≡ map (paired_marker s) (cond t (k ∷ []) [])
      go true k = refl
      go false k = refl

  one_cell : (k : ℕ) → emitted (restated s) (paired s p) k ≡ map (paired_marker s) (emitted s p k)
  unfolding emitted
  one_cell k = by_marker k (cell s k).sample (expected s p k) (expected (restated s) (paired s p) k) (expects s m p k) (known s m p k)

pub markers_rule : MarkersRule
markers_rule s m p = up_to_as _ _ (cell_total s) (λ k h. one_cell s m p k) ∙ sym (map-up_to (paired_marker s) (emitted s p) (cell_total s))
