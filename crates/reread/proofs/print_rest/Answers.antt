-- `reread::print_rest` is safe: the printed line is a slice of its array. Assumes nothing.
use mathlib.Core.Path.{◌≡◌}
use lib.ListN.{length, take}
use lib.Seq.{length-take-le}
use Rattle.reread.proofs.print_rest.Goals.{After-finish-length}

-- the line, as a slice
line-length : (c : After-finish-length) → length (take c.finish-length.result c.finish-length.new.text) ≡ c.finish-length.result
line-length c = length-take-le c.finish-length.result c.finish-length.new.text c.finish-length.ensures.room
