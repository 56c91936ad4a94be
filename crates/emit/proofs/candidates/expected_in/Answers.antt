-- `emit::candidates::expected_in` meets its contract: from the cell's entry in the index and the marker on its square. Assumes nothing.
use mathlib.Core.Path.{◌≡◌, refl, sym, ap, ap₂, ◌∙◌}
use mathlib.Core.List.{List}
use Prim.Native.Nat.{ℕ, ◌<◌}
use native.Mathlib.Omega.{arith}
use lib.IntN.{ℤ}
use lib.Ieee.{Float}
use mir.Syntax.{w16, w32}
use mir.Val.{to_z, of_z}
use mir.ValLaws.{to_z-of_z}
use Rattle.grid_alignment.specs.declared.Coord.{Coord}
use Rattle.grid_alignment.specs.Alignment.{point, applied}
use Rattle.board.specs.declared.Board.{Board}
use Rattle.board.specs.Layout.{marker_on}
use Rattle.board.specs.Questions.{board_of}
use Rattle.board.proofs.Laws.{id-small}
use Rattle.shot_record.specs.Shots.{Shot, shot}
use Rattle.shot_record.specs.Answers.{spec_of}
use Rattle.shot_record.specs.Index.{threshold_in}
use Rattle.hypothesis.specs.Placements.{cell}
use Rattle.hypothesis.specs.Inputs.{SearchCell, SearchInput}
use Rattle.hypothesis.proofs.IndexedCells.{board-is, few, threshold-is, search-input}
use Rattle.emit.proofs.Reading.{Sampled, sampled, unsampled, code_is, made, no_sample, by_expected, with_marker_lem}
use Rattle.emit.proofs.candidates.expected_in.Goals as goal
use Rattle.emit.proofs.candidates.expected_in.Goals.{After-marker_id_at, Start}
use Rattle.std.specs.Prelude.{Option, Some, None}

module _ (s : Start) where
  abbrev bytes : List ℕ
  bytes = s.args.loaded.now.bytes.now

  abbrev index : List ℕ
  index = s.args.loaded.now.index.now

  abbrev k : ℕ
  k = s.args.k

  input : SearchInput (shot bytes) s.args.loaded.now.inputs index
  input = search-input bytes s.args.loaded.now.inputs index s.args.loaded.now.loaded.ready

  at : SearchCell (shot bytes) index k
  at = input.cells k s.requires.1

  early : k < 256
  early = few (shot bytes) s.args.loaded.now.inputs index input k s.requires.1

pub returns-in_err-fraction : goal.returns-in_err-fraction
returns-in_err-fraction c =
    let e = sym c.in_err-fraction.was ∙ c.border.ensures ∙ (at (goal.at.returns-in_err-fraction c).Start).border in
    c.from_residual.ensures
    ∙ no_sample (shot c.args.loaded.now.bytes.now) c.args.alignment c.args.k (unsampled (cell (shot c.args.loaded.now.bytes.now) c.args.k).sample e)

-- the cell is sampled, and its square was looked up
module _ (m : After-marker_id_at) where
  abbrev s : Shot
  s = shot m.args.loaded.now.bytes.now

  abbrev u : ℤ
  u = m.u-u.result

  abbrev v : ℤ
  v = m.v-v.result

  abbrev fraction : Float
  fraction = m.in_ok-fraction.fraction

  entry : SearchCell s m.args.loaded.now.index.now m.args.k
  entry = (search-input m.args.loaded.now.bytes.now m.args.loaded.now.inputs m.args.loaded.now.index.now m.args.loaded.now.loaded.ready).cells m.args.k m.requires.1

  module _ (threshold : ℕ) (t : threshold ≡ threshold_in m.args.loaded.now.index.now m.args.k) where
    was : Sampled (cell s m.args.k) u v fraction threshold
    was =
        let i = m.args.loaded.now.inputs in
        sampled (cell s m.args.k) u v fraction threshold (m.u-u.ensures ∙ entry.u) (m.v-v.ensures ∙ entry.v)
        (sym m.in_ok-fraction.was ∙ m.border.ensures ∙ entry.border)
        (t ∙ threshold-is m.args.loaded.now.bytes.now i m.args.loaded.now.index.now m.args.loaded.now.loaded.ready m.args.k m.requires.1)

  u_back : to_z w16 (of_z w16 u) ≡ u
  u_back = to_z-of_z w16 u (record { sfits = m.u-u.type_inv })

  v_back : to_z w16 (of_z w16 v) ≡ v
  v_back = to_z-of_z w16 v (record { sfits = m.v-v.type_inv })

  square : m.apply-square.result ≡ applied m.args.alignment (point u v)
  square = m.apply-square.ensures ∙ ap₂ (λ (a b : ℤ). applied m.args.alignment (point a b)) u_back v_back

  abbrev looked : Option ℕ
  looked =
      let q = applied m.args.alignment (point u v) in
      marker_on (board_of (spec_of s)) q.u q.v

  found_marker : m.marker_id_at.result ≡ looked
  found_marker =
      let r = m.apply-square.result in
      let eb = board-is s m.args.loaded.now.inputs m.args.loaded.now.loaded.ready.is in
      let eu = to_z-of_z w32 r.u (record { sfits = omega arith }) ∙ ap (λ (q : Coord). q.u) square in
      let ev = to_z-of_z w32 r.v (record { sfits = omega arith }) ∙ ap (λ (q : Coord). q.v) square in
      m.marker_id_at.ensures ∙ (λ i. marker_on (eb i) (eu i) (ev i))

  -- a marker is expected
  module _ (id : ℕ) (e : m.marker_id_at.result ≡ Some id) where
    is-expected : Some id ≡ looked
    is-expected = sym e ∙ found_marker

    small : id < 512
    small =
        let h = m.args.loaded.now.loaded.ready.passed in
        id-small (board_of (spec_of s)) _ _ id h.rows h.cols (sym is-expected)

  bits_are : m.args.loaded.now.inputs.board.bits ≡ s.bits
  bits_are = ap (λ (b : Board). b.bits) (board-is s m.args.loaded.now.inputs m.args.loaded.now.loaded.ready.is)

pub returns-in_err-id : goal.returns-in_err-id
returns-in_err-id c =
    let m = (goal.at.returns-in_err-id c).After-marker_id_at in
    c.from_residual-in_err-id.ensures
    ∙ by_expected (s m) c.args.alignment c.args.k c.u-u.result c.v-v.result c.in_ok-fraction.fraction _ (was m _ refl) None
    (sym c.in_err-id.was ∙ found_marker m)

pub returns : goal.returns
returns c =
    let code = c.turned_code in
    let m = (goal.at.returns c).After-marker_id_at in
    let a = c.args in
    let p = a.alignment in
    let shot_in = a.loaded.now in
    let id = c.in_ok-id.id in
    let turned = code_is c.args.loaded.now.bytes.now shot_in.codes.now id shot_in.inputs.board.bits p.turn code.result shot_in.loaded.ready.passed.checked.small (bits_are m)
    shot_in.loaded.codes_are (small m id c.in_ok-id.was) code.ensures in
    ap₂ (λ (y z : ℤ). Some (made a.k id y z p.turn code.result c.in_ok-fraction.fraction c.threshold.result)) (u_back m) (v_back m)
    ∙ with_marker_lem (s m) p a.k c.u-u.result c.v-v.result c.in_ok-fraction.fraction c.threshold.result (was m c.threshold.result c.threshold.ensures) id code.result
    (is-expected m id c.in_ok-id.was) turned

pub border-requires : goal.border-requires
border-requires c = early (goal.at.border-requires c).Start

pub u-u-requires : goal.u-u-requires
u-u-requires c = early (goal.at.u-u-requires c).Start

pub v-v-requires : goal.v-v-requires
v-v-requires c = early (goal.at.v-v-requires c).Start

pub overflow_cast-result : goal.overflow_cast-result
overflow_cast-result c = record { fits = omega (arith, early (goal.at.overflow_cast-result c).Start) }

pub turned_code-requires : goal.turned_code-requires
turned_code-requires c = small (goal.at.turned_code-requires c).After-marker_id_at c.in_ok-id.id c.in_ok-id.was

pub threshold-requires : goal.threshold-requires
threshold-requires c = omega (arith, early (goal.at.threshold-requires c).Start)
