-- The id of an input corner: it has a grid point, and the board corner to which the alignment maps it is an inner corner with that id.
-- Assumes nothing.
use mathlib.Core.Path.{◌≡◌, refl, sym, ap}
use mathlib.Core.Bool.{Bool, true, false, cond}
use mathlib.Core.List.{List}
use Prim.Native.Nat.{ℕ, ◌-◌, ◌≤◌, ◌<◌}
use native.Mathlib.Nat.{mul-le-mul}
use native.Mathlib.Omega.{arith}
use lib.IntN.{ℤ, pos, negsuc, nat_abs}
use mir.Syntax.{w16}
use mir.Val.{SFits}
use Rattle.integers.specs.Distance.{is_within}
use Rattle.integers.proofs.Distances.{within_abs}
use Rattle.grid_alignment.specs.declared.GridAlignment.{GridAlignment}
use Rattle.board.specs.declared.Board.{Board}
use Rattle.board.specs.Numbering.{number_at, number_atℤ}
use Rattle.board.specs.Layout.{inner, corner_count}
use Rattle.board.proofs.Corners.{corner-total}
use Rattle.board.proofs.Laws.{corners}
use Rattle.marker_sampling.specs.Cells.{labelled, corners_of}
use Rattle.corner_mapping.specs.Corners.{board_corner, id_at, id_of}
use Rattle.std.specs.Prelude.{Option, Some, None}

-- a coordinate in range fits 16 bits
pub half-fits : (z : ℤ) → is_within 4096 z ≡ true → SFits w16 z
half-fits z e = go z (within_abs 4096 z e)
  where
    go : (y : ℤ) → nat_abs y ≤ 4096 → SFits w16 y
    go (pos n) h = record { sfits = omega arith }
    go (negsuc n) h = record { sfits = omega arith }

-- ---- a number at two integers, of those that a test numbers
pub record Placed (t : ℕ → ℕ → Bool) (w h : ℕ) (u v : ℤ) (id : ℕ) : Type 0 where
  pub i : ℕ
  pub j : ℕ
  pub u-is : u ≡ pos i
  pub v-is : v ≡ pos j
  pub number : number_at t w h i j ≡ Some id

pub placed_at : (t : ℕ → ℕ → Bool) (w h : ℕ) (u v : ℤ) (id : ℕ) → number_atℤ t w h u v ≡ Some id → Placed t w h u v id
unfolding number_atℤ
placed_at t w h (pos i) (pos j) id e = record { i = i; j = j; u-is = refl; v-is = refl; number = e }
placed_at t w h (pos i) (negsuc j) id e = cc
placed_at t w h (negsuc i) v id e = cc

-- a board of at most 32 by 32 squares has fewer than 1,024 inner corners
pub few-corners : (rows cols : ℕ) → rows ≤ 32 → cols ≤ 32 → corner_count rows cols ≤ 961
few-corners rows cols r c =
    omega (arith, corner-total rows cols, mul-le-mul {n₁ = rows - 1} {m₁ = cols - 1} {n₂ = 31} {m₂ = 31} (omega (arith, r)) (omega (arith, c)))

-- ---- of an input corner
module _ (b : Board) (a : GridAlignment) (grid : List ℤ) (k : ℕ) where
  abbrev label : Bool
  label = labelled (corners_of 0 grid) k

  abbrev there : Option ℕ
  there = id_at b (board_corner a grid k)

  pub no_point : label ≡ false → None ≡ id_of b a grid k
  unfolding id_of
  no_point e = sym (ap (λ (l : Bool). cond l there None) e)

  pub at-point : label ≡ true → there ≡ id_of b a grid k
  unfolding id_of
  at-point e = sym (ap (λ (l : Bool). cond l there None) e)

  pub record Has (id : ℕ) : Type 0 where
    pub has-point : label ≡ true
    pub corner : there ≡ Some id

  pub has : (id : ℕ) → id_of b a grid k ≡ Some id → Has id
  unfolding id_of
  has id e = go label refl e
    where
      go : (l : Bool) → label ≡ l → cond l there None ≡ Some id → Has id
      go true q f = record { has-point = q; corner = f }
      go false q f = cc

  pub on-corner : (id : ℕ) → id_of b a grid k ≡ Some id → Placed inner b.cols b.rows (board_corner a grid k).u (board_corner a grid k).v id
  on-corner id e = placed_at inner b.cols b.rows (board_corner a grid k).u (board_corner a grid k).v id (has id e).corner

  pub id_below : (id : ℕ) → id_of b a grid k ≡ Some id → id < corner_count b.rows b.cols
  id_below id e = let n = on-corner id e in (corners b.rows b.cols).below n.i n.j id n.number
