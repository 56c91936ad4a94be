-- `emit::emit_expected` meets its contract: by cases of the candidate. Assumes nothing.
use mathlib.Core.Path.{◌≡◌, sym, ap, ◌∙◌, subst}
use mathlib.Core.List.{List, flat_map}
use Prim.Native.Nat.{ℕ, ◌+◌, ◌≤◌, ◌<◌}
use native.Mathlib.Omega.{arith}
use lib.ListN.{length}
use Rattle.lent_list.proofs.Front.{nothing_put, put_as}
use Rattle.board.specs.declared.Board.{Board}
use Rattle.score_matrix.specs.Scores.{samples}
use Rattle.shot_record.specs.Fields.{cell_count, grid_size}
use Rattle.shot_record.specs.Shots.{Cell, Shot, shot}
use Rattle.shot_record.specs.Answers.{grid_with}
use Rattle.shot_record.proofs.CellReads.{cell_count_is, cell-is}
use Rattle.hypothesis.specs.Placements.{no_cell, cell}
use Rattle.hypothesis.specs.Evidence.{board_in}
use Rattle.hypothesis.proofs.IndexedCells.{board-is, config_is, has-grid, few_bits}
use Rattle.emit.specs.declared.candidates.Candidate.{Candidate}
use Rattle.emit.specs.Markers.{Marker, marker_words}
use Rattle.emit.specs.Candidates.{OfCell, emitted_from, emitted_for}
use Rattle.emit.proofs.emit_expected.Goals as goal
use Rattle.emit.proofs.emit_expected.Goals.{After-grid-grid}
use Rattle.std.specs.Prelude.{Option, Some}

pub returns-in_default : goal.returns-in_default
unfolding flat_map
returns-in_default c =
    let x = c.args in
    put_as (ap (λ (e : Option Candidate). flat_map marker_words (emitted_for (shot x.loaded.now.bytes.now) e)) (sym c.in_default.is))
    (nothing_put x.markers.now x.at)

-- a candidate is of a sampled cell
its_cell : (s : Shot) (e : Option Candidate) (d : Candidate) → e ≡ Some d → OfCell s e → OfCell s (Some d)
its_cell s e d is h = subst (OfCell s) is h

pub grid-grid-requires : goal.grid-grid-requires
grid-grid-requires c =
    has-grid c.args.loaded.now.bytes.now c.args.loaded.now.inputs c.args.loaded.now.index.now c.args.loaded.now.loaded.ready c.in-Some.c.cell
    (its_cell (shot c.args.loaded.now.bytes.now) c.args.expected c.in-Some.c c.in-Some.is c.requires.of_cell).0

-- the grid is that of the cell, and has side² bytes
module _ (c : After-grid-grid) where
  of : OfCell (shot c.args.loaded.now.bytes.now) (Some c.in-Some.c)
  of = its_cell (shot c.args.loaded.now.bytes.now) c.args.expected c.in-Some.c c.in-Some.is c.requires.of_cell

  inside : c.in-Some.c.cell < cell_count c.args.loaded.now.bytes.now
  inside = omega (arith, of.0, cell_count_is c.args.loaded.now.bytes.now)

  abbrev board : Board
  board = c.args.loaded.now.inputs.board

  its_board : board ≡ board_in (shot c.args.loaded.now.bytes.now)
  its_board = board-is (shot c.args.loaded.now.bytes.now) c.args.loaded.now.inputs c.args.loaded.now.loaded.ready.is

  grid-is : c.grid-grid.result.now ≡ grid_with (cell (shot c.args.loaded.now.bytes.now) c.in-Some.c.cell).sample
  grid-is =
      c.grid-grid.ensures
      ∙ sym (ap (λ (x : Cell). grid_with x.sample) (cell-is c.args.loaded.now.bytes.now c.in-Some.c.cell no_cell inside))

  whole_grid_lem : length c.grid-grid.result.now ≡ grid_size board.bits board.border_bits
  whole_grid_lem =
      let o = of.1 in
      ap length (grid-is ∙ ap grid_with o.1)
      ∙ c.args.loaded.now.loaded.ready.passed.grids c.in-Some.c.cell o.0 o.1
      ∙ sym (ap (λ (b : Board). grid_size b.bits b.border_bits) its_board)

  abbrev emitted_here : List Marker
  emitted_here =
      let x = c.args in
      let d = c.in-Some.c in
      emitted_from x.loaded.now.inputs.config x.loaded.now.table.now (samples board.bits board.border_bits d.threshold c.grid-grid.result.now) d

  same : emitted_here ≡ emitted_for (shot c.args.loaded.now.bytes.now) c.args.expected
  same =
      let h = c.args.loaded.now.loaded in
      let d = c.in-Some.c in
      (λ i. emitted_from (config_is (shot c.args.loaded.now.bytes.now) c.args.loaded.now.inputs h.ready.is i) (h.table_is i)
      (samples (its_board i).bits (its_board i).border_bits d.threshold (grid-is i)) d)
      ∙ ap (emitted_for (shot c.args.loaded.now.bytes.now)) (sym c.in-Some.is)

pub emit_marker-requires : goal.emit_marker-requires
emit_marker-requires c =
    let g = (goal.at.emit_marker-requires c).After-grid-grid in record {
      bits_bound = few_bits c.args.loaded.now.bytes.now c.args.loaded.now.inputs c.args.loaded.now.index.now c.args.loaded.now.loaded.ready;
      grid_len = whole_grid_lem g;
      c_in_bounds = room (emitted_here g) _ (same g) c.args.at c.args.markers.now c.requires.expected_in_bounds;
    }
  where
    room : (ms ns : List Marker) → ms ≡ ns → (at : ℕ) (l : List ℕ) → at + length (flat_map marker_words ns) ≤ length l
        → at + length (flat_map marker_words ms) ≤ length l
    room ms ns e at l h = rw e h

pub returns : goal.returns
returns c = put_as (ap (flat_map marker_words) (same (goal.at.returns c).After-grid-grid)) c.emit_marker.ensures
