-- Where the cells of a shot lie in the frame of a turn, where a placement puts them, and which placements fit. Assumes nothing.
use mathlib.Core.Path.{◌≡◌, ap, ap₂}
use Prim.Native.Nat.{ℕ, ◌+◌, ◌-◌, ◌≤◌, ◌<◌}
use native.Mathlib.Omega.{arith}
use lib.IntN.{ℤ, pos, ◌+ℤ◌}
use Rattle.grid_alignment.specs.declared.Coord.{Coord}
use Rattle.grid_alignment.specs.declared.GridAlignment.{GridAlignment}
use Rattle.grid_alignment.specs.Alignment.{point, sends, moved, applied}
use Rattle.shot_record.specs.Shots.{Shot}
use Rattle.hypothesis.specs.Placements.{cell_total, cell_point, turned_u, turned_v, frame, moves_across, moves_down, shifted}
use Rattle.hypothesis.specs.Rules.{Fits, OnBoard}
use Rattle.hypothesis.proofs.Extremes.{offset, offset_is, offset_below, moved-is, Move, move}

-- the distance of cell k from the frame's least column and least row
abbrev pub offset_u : Shot → ℕ → ℕ → ℕ
offset_u s r k = offset (turned_u s r) (cell_total s - 1) k

abbrev pub offset_v : Shot → ℕ → ℕ → ℕ
offset_v s r k = offset (turned_v s r) (cell_total s - 1) k

pub record Framed (s : Shot) (r k : ℕ) : Type 0 where
  pub column : turned_u s r k ≡ (frame s r).u +ℤ pos (offset_u s r k)
  pub row : turned_v s r k ≡ (frame s r).v +ℤ pos (offset_v s r k)
  pub wide : offset_u s r k < (frame s r).width
  pub high : offset_v s r k < (frame s r).height

-- the frame has its stated size, and is on the board with its least corner on square (a, b)
pub record Moves (s : Shot) (r a b : ℕ) : Type 0 where
  pub columns : a < moves_across s r
  pub rows : b < moves_down s r

module _ (s : Shot) (r : ℕ) where
  pub framed : (k : ℕ) → k < cell_total s → Framed s r k
  unfolding frame
  framed k h =
      let n = cell_total s - 1 in
      let l : k ≤ n = omega arith in
      record {
        column = offset_is (turned_u s r) n k l;
        row = offset_is (turned_v s r) n k l;
        wide = offset_below (turned_u s r) n k l;
        high = offset_below (turned_v s r) n k l;
      }

  -- cell k under the placement that puts the least corner of the frame on square (a, b)
  pub lands : (a b k : ℕ) → k < cell_total s → applied (shifted s r a b) (cell_point s k) ≡ point (pos (offset_u s r k + a)) (pos (offset_v s r k + b))
  unfolding frame
  lands a b k h =
      let n = cell_total s - 1 in
      let l : k ≤ n = omega arith in
      ap₂ point (moved-is (turned_u s r) n a k l) (moved-is (turned_v s r) n b k l)

  pub moves_fit : r < 4 → (a b : ℕ) → Moves s r a b → Fits s (shifted s r a b)
  moves_fit r₄ a b m = (r₄, λ k h. on k h)
    where
      on : (k : ℕ) → k < cell_total s → OnBoard s (applied (shifted s r a b) (cell_point s k))
      on k h =
          let e = lands a b k h in
          let f = framed k h in
          record {
            i = offset_u s r k + a;
            j = offset_v s r k + b;
            column = ap (λ (q : Coord). q.u) e;
            row = ap (λ (q : Coord). q.v) e;
            inside = (omega (arith, f.wide, m.columns), omega (arith, f.high, m.rows));
          }

abbrev alignment : ℕ → ℤ → ℤ → GridAlignment
alignment r x y = record { turn = r; tx = x; ty = y }

-- every placement that fits is a move of the frame
pub record Shifted (s : Shot) (p : GridAlignment) : Type 0 where
  pub a : ℕ
  pub b : ℕ
  pub is : p ≡ shifted s p.turn a b
  pub moves : Moves s p.turn a b

module _ (s : Shot) (first : 0 < cell_total s) (p : GridAlignment) (f : Fits s p) where
  lies : (k : ℕ) → k ≤ cell_total s - 1 → OnBoard s (moved (sends p.turn (cell_point s k)) p.tx p.ty)
  lies k h =
      f.1 k (omega arith)

  across_move : Move (turned_u s p.turn) (cell_total s - 1) p.tx s.cols
  across_move =
      move (turned_u s p.turn) (cell_total s - 1) p.tx s.cols
      (λ k h. let o = lies k h in record { i = o.i; is = o.column; inside = o.inside.0 })

  down_move : Move (turned_v s p.turn) (cell_total s - 1) p.ty s.rows
  down_move =
      move (turned_v s p.turn) (cell_total s - 1) p.ty s.rows
      (λ k h. let o = lies k h in record { i = o.j; is = o.row; inside = o.inside.1 })

  pub fit_moves : Shifted s p
  unfolding frame
  fit_moves =
      let x = across_move in
      let y = down_move in
      record {
        a = x.a;
        b = y.a;
        is = ap₂ (λ (u v : ℤ). alignment p.turn u v) x.is y.is;
        moves = record { columns = omega (arith, x.fits); rows = omega (arith, y.fits) };
      }
