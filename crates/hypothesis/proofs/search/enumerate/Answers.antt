-- `hypothesis::search::enumerate` meets its contract. The loop's invariant: the placements of the turns below `turn` are ranked, of every shot whose
-- scores the source has. Assumes nothing.
use mathlib.Core.Path.{ap, ◌∙◌}
use native.Mathlib.Nat.{le_antisymm}
use native.Mathlib.Omega.{arith}
use Rattle.hypothesis.proofs.IndexedCells.{few_cells}
use Rattle.hypothesis.proofs.Turned.{no_turn-ranked}
use Rattle.hypothesis.proofs.Results.{ranked_below, frame-near, turn_below, of_shot, can_rank, ranked, best-near, result-is}
use Rattle.hypothesis.proofs.search.enumerate.Goals as goal

pub cell_sides-sides-requires : goal.cell_sides-sides-requires
cell_sides-sides-requires g c = few_cells c.requires.0 _ _ c.requires.1

pub loop-turn-init : goal.loop-turn-init
loop-turn-init g c s input fit = c.no_ranking-ranking.ensures ∙ no_turn-ranked s

pub turn_of-t-requires : goal.turn_of-t-requires
turn_of-t-requires g c =
    let box = c.cell_sides-sides in
    frame-near c.requires.0 _ _ c.requires.1 c.loop-turn.turn c.loop-turn-test.true box.result box.ensures

pub fill-contributing-requires : goal.fill-contributing-requires
fill-contributing-requires g c =
    let box = c.cell_sides-sides in
    let t = c.turn_of-t in (
      c.requires.0,
      c.requires.2,
      of_shot c.requires.0 _ _ c.requires.1 c.loop-turn.turn c.loop-turn-test.true box.result box.ensures t.result t.ensures,
      turn_below c.requires.0 _ _ c.requires.1 c.loop-turn.turn c.loop-turn-test.true box.result box.ensures t.result t.ensures,
    )

pub rank_turn-ranking-requires : goal.rank_turn-ranking-requires
rank_turn-ranking-requires g c =
    let box = c.cell_sides-sides in
    let t = c.turn_of-t in
    let so_far = c.loop-turn.invariant c.requires.0 c.requires.1 c.requires.2 in
    can_rank c.requires.0 _ _ c.requires.1 c.loop-turn.turn c.loop-turn-test.true box.result box.ensures t.result t.ensures c.loop-turn.ranking so_far

pub loop-turn-preserved : goal.loop-turn-preserved
loop-turn-preserved g c s input fit =
    let h = c.fill-contributing in
    let t = c.turn_of-t in
    let box = c.cell_sides-sides in
    let k = c.loop-turn in
    let turn = of_shot s _ _ input k.turn c.loop-turn-test.true box.result box.ensures t.result t.ensures in
    c.rank_turn-ranking.ensures
    ∙ ranked s _ _ input k.turn c.loop-turn-test.true box.result box.ensures t.result t.ensures k.ranking (k.invariant s input fit)
    h.new.sums h.result (h.ensures s fit turn)

pub enumerated-requires : goal.enumerated-requires
enumerated-requires g c =
    let k = c.loop-turn in
    let s = c.requires.0 in
    let all = k.invariant s c.requires.1 c.requires.2 ∙ ap (ranked_below s) (le_antisymm k.auto.turn-end (omega (arith, c.loop-turn-test.false))) in
    ((few_cells s _ _ c.requires.1).1, best-near s _ _ c.requires.1 k.ranking all)

pub returns : goal.returns
returns g c s input fit =
    let k = c.loop-turn in
    let all = k.invariant s input fit ∙ ap (ranked_below s) (le_antisymm k.auto.turn-end (omega (arith, c.loop-turn-test.false))) in
    c.enumerated.ensures ∙ result-is s _ _ input k.ranking all
