-- `emit::emit_markers` meets its contract. The loop's invariant: the words of what the first k cells emit are written. Assumes nothing.
use mathlib.Core.Path.{◌≡◌, sym, ap, subst, ◌∙◌}
use mathlib.Core.List.{List, flat_map}
use Prim.Native.Nat.{ℕ, ◌+◌, ◌≤◌, ◌<◌}
use native.Mathlib.Omega.{arith}
use lib.ListN.{length}
use Rattle.lent_list.specs.Front.{up_to}
use Rattle.lent_list.proofs.Front.{put_as, put_front}
use Rattle.lent_list.proofs.Loops.{none_to, to_room, to_more}
use Rattle.shot_record.specs.Shots.{Shot, shot}
use Rattle.hypothesis.specs.Placements.{cell_total}
use Rattle.hypothesis.proofs.IndexedCells.{cells_are}
use Rattle.emit.specs.Markers.{Marker, emitted, markers, marker_words}
use Rattle.emit.specs.Candidates.{OfCell, emitted_for}
use Rattle.emit.proofs.Reading.{same-emitted, of_cell}
use Rattle.emit.proofs.Laws.{all_words, one_per_cell}
use Rattle.emit.proofs.emit_markers.Goals as goal
use Rattle.emit.proofs.emit_markers.Goals.{After-expected_in-expected, In-loop-k, Start}

module _ (s : Start) where
  abbrev shown : Shot
  shown = shot s.args.loaded.now.bytes.now

  abbrev here : ℕ → List Marker
  here = emitted shown s.args.alignment

  abbrev lent : List ℕ
  lent = s.args.markers.now

  -- room for the markers of all cells
  room : 0 + length (flat_map marker_words (up_to here (cell_total shown))) ≤ length lent
  room = omega (arith, all_words (markers shown s.args.alignment), one_per_cell shown s.args.alignment, s.requires.bytes_in_bounds)

  counted : s.args.loaded.now.inputs.cells ≡ cell_total shown
  counted = cells_are shown _ s.args.loaded.now.loaded.ready.is

pub loop-k-init : goal.loop-k-init
loop-k-init c =
    let b = (goal.at.loop-k-init c).Start in none_to marker_words (here b) (lent b) 0 (cell_total (shown b)) (room b)

inside : (c : In-loop-k) → c.loop-k.k < cell_total (shot c.args.loaded.now.bytes.now)
inside c = omega (arith, c.loop-k-test.true, counted (goal.at.In-loop-k c).Start)

pub expected_in-expected-requires : goal.expected_in-expected-requires
expected_in-expected-requires c = (c.requires.near, inside (goal.at.expected_in-expected-requires c).In-loop-k)

-- what the cell emits
emits : (c : After-expected_in-expected) → let s = shot c.args.loaded.now.bytes.now in
    emitted_for s c.expected_in-expected.result ≡ emitted s c.args.alignment c.loop-k.k
emits c =
    let s = shot c.args.loaded.now.bytes.now in
    ap (emitted_for s) c.expected_in-expected.ensures ∙ same-emitted s c.args.alignment c.loop-k.k

pub emit_expected-at-requires : goal.emit_expected-at-requires
emit_expected-at-requires c =
    let b = (goal.at.emit_expected-at-requires c).Start in
    let k = c.loop-k.k in
    let within = inside (goal.at.emit_expected-at-requires c).In-loop-k in record {
      of_cell = subst (OfCell (shown b)) (sym c.expected_in-expected.ensures) (of_cell (shown b) c.args.alignment k within);
      expected_in_bounds = fits _ _ (emits (goal.at.emit_expected-at-requires c).After-expected_in-expected) c.loop-k.at c.loop-k.markers
          (to_room marker_words (here b) (lent b) 0 (cell_total (shown b)) (room b) k c.loop-k.invariant within);
    }
  where
    fits : (ms ns : List Marker) → ms ≡ ns → (at : ℕ) (l : List ℕ) → at + length (flat_map marker_words ns) ≤ length l
        → at + length (flat_map marker_words ms) ≤ length l
    fits ms ns e at l h = rw e h

pub loop-k-preserved : goal.loop-k-preserved
loop-k-preserved c =
    let b = (goal.at.loop-k-preserved c).Start in
    let put = put_as (ap (flat_map marker_words) (emits (goal.at.loop-k-preserved c).After-expected_in-expected)) c.emit_expected-at.ensures in
    to_more marker_words (here b) (lent b) 0 (cell_total (shown b)) (room b) c.loop-k.k c.loop-k.invariant put

pub returns : goal.returns
returns c =
    let b = (goal.at.returns c).Start in
    let k = c.loop-k in
    let all : k.k ≡ cell_total (shown b) = omega (arith, c.loop-k-test.false, counted b, k.auto.k-end) in
    let p = put_as (ap (λ (j : ℕ). flat_map marker_words (up_to (here b) j)) all) k.invariant in record {
      count = omega (arith, p.end, all_words (markers (shown b) c.args.alignment));
      list = put_front (omega (arith, p.end, room b)) p;
    }
