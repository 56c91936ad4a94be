-- `score_list::has_room` meets its contract. Assumes nothing.
use mathlib.Core.Path.{ap}
use Prim.Native.Nat.{ℕ, ◌*◌}
use lib.Dec.{leb}
use Rattle.score_list.proofs.has_room.Goals as goal

pub returns : goal.returns
returns c =
    ap (λ (n : ℕ). leb (c.args.inputs.cells * n * 4) c.args.places) c.marker_count-markers.ensures
