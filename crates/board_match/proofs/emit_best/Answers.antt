-- `board_match::emit_best` meets its contract. Assumes nothing.
use mathlib.Core.Path.{◌≡◌, sym, ◌∙◌}
use mathlib.Core.Bool.{true, false}
use Rattle.shot_record.specs.Shots.{shot}
use Rattle.shot_record.specs.Answers.{config_of}
use Rattle.hypothesis.proofs.IndexedCells.{config_is}
use Rattle.board_match.specs.Match.{margin_passes}
use Rattle.board_match.proofs.Gates.{near-best, room_for, too_narrow, none_emitted, match_is, emitted-some}
use Rattle.board_match.proofs.emit_best.Goals as goal
use Rattle.board_match.proofs.emit_best.Goals.{Else-not-margin_passes, Start}

settings : (c : Start) → c.args.loaded.now.inputs.config ≡ config_of (shot c.args.loaded.now.bytes.now)
settings c = let l = c.args.loaded.now in config_is (shot l.bytes.now) l.inputs l.loaded.ready.is

-- the margin passes question 16
wide : (c : Else-not-margin_passes) → margin_passes c.args.loaded.now.inputs.config c.args.selection.margin ≡ true
wide c = sym c.margin_passes.ensures ∙ c.if-not-margin_passes.false

pub returns-then-not-margin_passes : goal.returns-then-not-margin_passes
returns-then-not-margin_passes c =
    let l = c.args.loaded.now in
    too_narrow l.bytes.now c.args.markers.now l.loaded.ready.whole c.requires.1 c.args.selection c.requires.0 l.inputs.config
    (settings (goal.at.returns-then-not-margin_passes c).Start) (sym c.margin_passes.ensures ∙ c.if-not-margin_passes.true)

pub emit_markers-count-requires : goal.emit_markers-count-requires
emit_markers-count-requires c =
    let l = c.args.loaded.now in
    record {
      near = near-best l.bytes.now l.loaded.ready.passed c.args.selection c.requires.0;
      bytes_in_bounds = room_for l.bytes.now c.args.markers.now c.requires.1;
    }

pub returns-then-count-eq0 : goal.returns-then-count-eq0
returns-then-count-eq0 c =
    let l = c.args.loaded.now in
    let em = c.emit_markers-count in
    let g = goal.at.returns-then-count-eq0 c in
    none_emitted l.bytes.now c.args.markers.now l.loaded.ready.whole c.requires.1 c.args.selection c.requires.0 l.inputs.config (settings g.Start)
    (wide g.Else-not-margin_passes) em.result em.new.markers em.ensures.count em.ensures.list c.if-count-eq0.true

pub cell_to_corner_alignment-requires : goal.cell_to_corner_alignment-requires
cell_to_corner_alignment-requires c =
    let l = c.args.loaded.now in near-best l.bytes.now l.loaded.ready.passed c.args.selection c.requires.0

pub returns : goal.returns
returns c =
    let l = c.args.loaded.now in
    let x = c.args.selection in
    let em = c.emit_markers-count in
    let g = goal.at.returns c in
    let w = wide g.Else-not-margin_passes in
    let corners = c.cell_to_corner_alignment in
    let f = match_is l.bytes.now c.args.markers.now l.loaded.ready.whole c.requires.1 x c.requires.0 l.inputs.config (settings g.Start) w em.result em.new.markers
    em.ensures.count em.ensures.list corners.result corners.ensures in
    emitted-some l.bytes.now c.args.markers.now l.loaded.ready.whole c.requires.1 x c.requires.0 l.inputs.config (settings g.Start) w em.result em.new.markers
    em.ensures.count em.ensures.list c.if-count-eq0.false _ f
