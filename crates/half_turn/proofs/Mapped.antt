-- The corner alignment of a placement's pair, and the input corner that is chosen for an id: corner id c of C becomes C − 1 − c. Assumes nothing.
use mathlib.Core.Path.{◌≡◌, refl, sym, ap, ap₂, ◌∙◌}
use mathlib.Core.Bool.{Bool, true, false, cond, ◌&&◌}
use mathlib.Core.List.{List}
use Prim.Native.Nat.{ℕ, zero, suc, ◌+◌, ◌-◌, ◌%◌, ◌<◌}
use native.Mathlib.Nat.{mod-mod}
use native.Mathlib.Omega.{arith}
use lib.Dec.{eqb}
use lib.ListN.{length}
use lib.IntN.{ℤ, pos, negsuc, ◌-ℤ◌}
use lib.Ieee.{Float}
use borrow.Author.Tests.{eq-eqb, ne_eqb, eqb-true, eqb-false}
use Rattle.integers.proofs.Parts.{plus, minus, ext, sub_is_parts}
use Rattle.matcher.proofs.Turns.{each_turn}
use Rattle.grid_alignment.specs.declared.Coord.{Coord}
use Rattle.grid_alignment.specs.declared.GridAlignment.{GridAlignment}
use Rattle.grid_alignment.specs.Alignment.{point, sends, moved, applied, lowest_point}
use Rattle.board.specs.declared.Board.{Board}
use Rattle.board.specs.Numbering.{number_atℤ}
use Rattle.board.specs.Layout.{corner_at, corner_count}
use Rattle.board.proofs.Laws.{corners}
use Rattle.board.proofs.Corners.{corner-total}
use Rattle.shot_record.specs.Shots.{Shot}
use Rattle.hypothesis.specs.Evidence.{board_in}
use Rattle.marker_sampling.specs.Cells.{labelled, corners_of}
use Rattle.corner_mapping.specs.Corners.{Input, grid_point, id_at, id_of, is_id, bears, greater, replaced, chosen_to}
use Rattle.corner_mapping.specs.Entry.{input}
use Rattle.legacy_record.specs.Restated.{restated}
use Rattle.half_turn.specs.Pairs.{from_last}
use Rattle.half_turn.specs.Corners.{paired_corners, ChosenRule, AlignmentRule}
use Rattle.half_turn.proofs.HalfTurn.{corners-turned}
use Rattle.half_turn.proofs.Pairs.{turned_point_lem, opposite_sum}
use Rattle.std.specs.Prelude.{Option, Some, None}

-- ---- the alignment of the corners
-- the least points of the unit square after a turn and after two more add up to (−1, −1)
lowest_pair : (r : ℕ) → ((lowest_point 1 ((r + 2) % 4)).u ≡ negsuc 0 -ℤ (lowest_point 1 r).u) × ((lowest_point 1 ((r + 2) % 4)).v ≡ negsuc 0 -ℤ (lowest_point 1 r).v)
unfolding sends lowest_point
lowest_pair r =
    let left : (r % 4 + 2) % 4 ≡ (r + 2) % 4 = omega arith in
    rw (left, mod-mod r 4) at
    (each_turn (λ m. ((lowest_point 1 ((m + 2) % 4)).u ≡ negsuc 0 -ℤ (lowest_point 1 m).u) × ((lowest_point 1 ((m + 2) % 4)).v ≡ negsuc 0 -ℤ (lowest_point 1 m).v))
    (refl, refl) (refl, refl) (refl, refl) (refl, refl) r)

shift : (n : ℕ) (t low other : ℤ) → 0 < n → other ≡ negsuc 0 -ℤ low → (pos (n - 1) -ℤ t) -ℤ other ≡ pos n -ℤ (t -ℤ low)
unfolding plus minus
shift n t low other some e =
    ext ((pos (n - 1) -ℤ t) -ℤ other) (pos n -ℤ (t -ℤ low))
    (omega (
      arith,
      sub_is_parts (pos (n - 1)) t,
      sub_is_parts (pos (n - 1) -ℤ t) other,
      sub_is_parts t low,
      sub_is_parts (pos n) (t -ℤ low),
      sub_is_parts (negsuc 0) low,
      ap plus e,
      ap minus e,
    ))

pub alignment_pairs : AlignmentRule
alignment_pairs s p rows cols =
    let l = lowest_pair p.turn in
    λ i.
    record {
      turn = (p.turn + 2) % 4;
      tx = shift s.cols p.tx (lowest_point 1 p.turn).u (lowest_point 1 ((p.turn + 2) % 4)).u cols l.0 i;
      ty = shift s.rows p.ty (lowest_point 1 p.turn).v (lowest_point 1 ((p.turn + 2) % 4)).v rows l.1 i;
    }

-- ---- the ids
lands : (b : Board) (a : GridAlignment) (q : Coord) → applied (paired_corners b a) q ≡ point (pos b.cols -ℤ (applied a q).u) (pos b.rows -ℤ (applied a q).v)
lands b a q =
    ap (λ (c : Coord). moved c (pos b.cols -ℤ a.tx) (pos b.rows -ℤ a.ty)) (turned_point_lem a.turn q)
    ∙ ap₂ point (opposite_sum b.cols (sends a.turn q).u a.tx) (opposite_sum b.rows (sends a.turn q).v a.ty)

corner-below : (rows cols : ℕ) (x y : ℤ) (m : ℕ) → corner_at rows cols x y ≡ Some m → m < corner_count rows cols
unfolding number_atℤ
corner-below rows cols (pos i) (pos j) m e = (corners rows cols).below i j m e
corner-below rows cols (pos i) (negsuc j) m e = absurd (grind arith)
corner-below rows cols (negsuc i) y m e = absurd (grind arith)

same_id : (n m c : ℕ) → m < n → c < n → eqb (n - 1 - m) (n - 1 - c) ≡ eqb m c
same_id n m c h l = go (eqb m c) refl
  where
    go : (t : Bool) → eqb m c ≡ t → eqb (n - 1 - m) (n - 1 - c) ≡ t
    go true e = eq-eqb (n - 1 - m) (n - 1 - c) (ap (λ (k : ℕ). n - 1 - k) (eqb-true m c e))
    go false e = ne_eqb (n - 1 - m) (n - 1 - c) (λ z. eqb-false m c e (omega (arith, z, h, l)))

is_id_lem : (n : ℕ) (o : Option ℕ) (c : ℕ) → c < n → ((m : ℕ) → o ≡ Some m → m < n) → is_id (from_last n o) (n - 1 - c) ≡ is_id o c
is_id_lem n (Some m) c l small = same_id n m c (small m refl) l
is_id_lem n None c l small = refl

module _ (b : Board) (a : GridAlignment) (grid : List ℤ) (k : ℕ) where
  abbrev C : ℕ
  C = corner_count b.rows b.cols

  id_pairs : id_of b (paired_corners b a) grid k ≡ from_last C (id_of b a grid k)
  unfolding id_of
  id_pairs = go (labelled (corners_of 0 grid) k)
    where
      q : Coord
      q = applied a (grid_point grid k)

      there : id_at b (applied (paired_corners b a) (grid_point grid k)) ≡ from_last C (id_at b q)
      there =
          ap (id_at b) (lands b a (grid_point grid k)) ∙ corners-turned b.rows b.cols q.u q.v
          ∙ ap (λ (n : ℕ). from_last n (id_at b q)) (sym (corner-total b.rows b.cols))

      go : (t : Bool) → cond t (id_at b (applied (paired_corners b a) (grid_point grid k))) None ≡ from_last C (cond t (id_at b q) None)
      go true = there
      go false = refl

  id-small : (m : ℕ) → id_of b a grid k ≡ Some m → m < C
  unfolding id_of
  id-small m = go (labelled (corners_of 0 grid) k)
    where
      q : Coord
      q = applied a (grid_point grid k)

      go : (t : Bool) → cond t (id_at b q) None ≡ Some m → m < C
      go true e = corner-below b.rows b.cols q.u q.v m e
      go false e = absurd (grind arith)

-- ---- the corners that are chosen
module _ (s : Shot) (a : GridAlignment) (scores : List Float) (grid : List ℤ) (c : ℕ) (known : c < corner_count s.rows s.cols) where
  abbrev old : Input
  old = input (board_in s) a scores grid

  abbrev new : Input
  new = input (board_in (restated s)) (paired_corners (board_in s) a) scores grid

  same-bears : (k : ℕ) → bears new k (corner_count s.rows s.cols - 1 - c) ≡ bears old k c
  unfolding id_of
  same-bears k =
      let C = corner_count s.rows s.cols in
      ap (λ (o : Option ℕ). is_id o (C - 1 - c)) (id_pairs (board_in s) a grid k) ∙ is_id_lem C (id_of (board_in s) a grid k) c known (id-small (board_in s) a grid k)

  chosen_pairs : (n : ℕ) → chosen_to new (corner_count s.rows s.cols - 1 - c) n ≡ chosen_to old c n
  unfolding chosen_to
  chosen_pairs zero = refl
  chosen_pairs (suc k) = λ i. replaced (same-bears k i && greater scores (chosen_pairs k i) k) k (chosen_pairs k i)

pub chosen_rule : ChosenRule
chosen_rule s a scores grid c known = chosen_pairs s a scores grid c known (length scores)
