-- `board::Board::corner_count` meets its contract. Assumes nothing.
use mathlib.Core.Path.{ap₂, sym, ◌∙◌}
use Prim.Native.Nat.{ℕ, ◌*◌}
use Rattle.board.proofs.Corners.{corner-total}
use Rattle.board.proofs.Board.corner_count.Goals as goal

pub returns : goal.returns
returns c =
    ap₂ (λ (a b : ℕ). a * b) c.saturating_sub.ensures c.saturating_sub-2.ensures ∙ sym (corner-total c.args.self.rows c.args.self.cols)
