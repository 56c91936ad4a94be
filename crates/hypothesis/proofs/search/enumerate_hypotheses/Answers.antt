-- `hypothesis::search::enumerate_hypotheses` meets its contract. Assumes nothing.
use mathlib.Core.Path.{refl}
use Rattle.shot_record.specs.Shots.{shot}
use Rattle.hypothesis.proofs.IndexedCells.{search-input}
use Rattle.hypothesis.proofs.search.enumerate_hypotheses.Goals as goal

pub enumerate-requires : goal.enumerate-requires
enumerate-requires c =
    let x = c.args.loaded.now in (shot x.bytes.now, search-input x.bytes.now _ _ x.loaded.ready, refl)

pub returns : goal.returns
returns c =
    let x = c.args.loaded.now in c.enumerate.ensures (shot x.bytes.now) (search-input x.bytes.now _ _ x.loaded.ready) refl
