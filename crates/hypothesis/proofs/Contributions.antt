-- What one cell contributes to the placements of a turn. Assumes nothing.
use mathlib.Core.Path.{◌≡◌, refl, ap, ◌∙◌}
use mathlib.Core.Bool.{Bool, true, false, cond}
use mathlib.Core.List.{[], ◌∷◌}
use Prim.Native.Nat.{ℕ, ◌+◌, ◌*◌, ◌/◌, ◌≤◌, ◌<◌}
use native.Mathlib.Omega.{arith}
use lib.Ieee.{lt}
use Rattle.floats.specs.Units.{nought}
use Rattle.grid_alignment.specs.declared.Coord.{Coord}
use Rattle.grid_alignment.specs.declared.GridAlignment.{GridAlignment}
use Rattle.board.specs.Numbering.{number_if}
use Rattle.board.specs.Layout.{parity_of, holds_marker, marker_total, marker_on}
use Rattle.board.proofs.Laws.{id_below}
use Rattle.score_matrix.specs.Scores.{null_score}
use Rattle.shot_record.specs.Shots.{Shot}
use Rattle.hypothesis.specs.declared.sums.Counted.{Counted}
use Rattle.hypothesis.specs.Placements.{cell_total, moves_across, moves_down, shifted}
use Rattle.hypothesis.specs.Evidence.{board_in, weight_of, samples_of, expected, Contribution, contributed_with, contributed}
use Rattle.hypothesis.specs.Sums.{marker_after, Stays}
use Rattle.hypothesis.proofs.Moves.{on_square_lem}
use Rattle.hypothesis.proofs.Frames.{offset_u, offset_v, framed, lands}
use Rattle.std.specs.Prelude.{Option, Some, None}

-- cell k as one that may contribute
abbrev pub counted_cell : Shot → ℕ → ℕ → Counted
counted_cell s r k = record { i = offset_u s r k; j = offset_v s r k; weight = weight_of s k; null = null_score s.bits; board = board_in s }

module _ (s : Shot) (r k : ℕ) (inside : k < cell_total s) where
  -- its square stays on the board
  pub stays : (0 < moves_across s r) × (0 < moves_down s r) → s.bits ≤ 8 → s.cols ≤ 32 → s.rows ≤ 32
      → Stays (counted_cell s r k) (moves_across s r) (moves_down s r)
  stays fit b c h =
      let f = framed s r k inside in
      record { bits = b; cols = c; rows = h; wide = omega (arith, f.wide, fit.0); high = omega (arith, f.high, fit.1); some = fit.1 }

  module _ (a b : ℕ) (l : a < moves_across s r) (m : b < moves_down s r) where
    -- the marker that the placement with its frame moved by (a, b) expects in the cell, and its id, if there is one
    abbrev pub on : Bool
    on = holds_marker (parity_of (board_in s)) (offset_u s r k + a) (offset_v s r k + b)

    abbrev pub id : ℕ
    id = ((offset_v s r k + b) * s.cols + (offset_u s r k + a)) / 2

    pub marker-is : marker_after (counted_cell s r k) a b ≡ number_if on id
    marker-is =
        let f = framed s r k inside in
        on_square_lem (board_in s) (offset_u s r k + a) (offset_v s r k + b) (omega (arith, f.wide, l)) (omega (arith, f.high, m))

    expects : expected s (shifted s r a b) k ≡ number_if on id
    unfolding expected
    expects = ap (λ (q : Coord). marker_on (board_in s) q.u q.v) (lands s r a b k inside) ∙ marker-is

    -- where there is one, its id is that of a marker of the board
    pub id_known : on ≡ true → id < marker_total (board_in s)
    id_known e =
        let x = board_in s in
        id_below (parity_of x) x.rows x.cols _ _ id (marker-is ∙ ap (λ (t : Bool). number_if t id) e)

    -- a cell with weight above 0
    abbrev pub share : Contribution
    share = record { weight = weight_of s k; samples = samples_of s k; id = id }

    by_marker : (e : Option ℕ) (t : Bool) → e ≡ number_if t id → lt nought (weight_of s k) ≡ true
        → contributed_with (weight_of s k) (samples_of s k) e ≡ cond t (share ∷ []) []
    by_marker e true is heavy = rw (is, heavy) refl
    by_marker e false is heavy = rw is refl

    pub counts : lt nought (weight_of s k) ≡ true → contributed s (shifted s r a b) k ≡ cond on (share ∷ []) []
    unfolding contributed
    counts heavy = by_marker (expected s (shifted s r a b) k) on expects heavy

-- a cell of weight 0 contributes to no placement
pub light : (s : Shot) (p : GridAlignment) (k : ℕ) → lt nought (weight_of s k) ≡ false → contributed s p k ≡ []
unfolding contributed
light s p k w = go (expected s p k)
  where
    go : (m : Option ℕ) → contributed_with (weight_of s k) (samples_of s k) m ≡ []
    go None = refl
    go (Some m) = rw w refl
