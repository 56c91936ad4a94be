-- The bounding box of the cells with one more cell; and the frame of a turn is the rotated bounding box, with coordinates as small as those of the
-- cells. Assumes nothing.
use mathlib.Core.Path.{◌≡◌, ap, ap₂, subst, ◌∙◌}
use mathlib.Core.List.{List}
use Prim.Native.Nat.{ℕ, zero, suc, ◌+◌, ◌-◌, ◌≤◌, ◌<◌}
use native.Mathlib.Nat.{mod-eq_of_lt}
use native.Mathlib.Omega.{arith}
use lib.IntN.{ℤ, nat_abs}
use Rattle.integers.specs.Least.{least_to, greatest_to}
use Rattle.integers.proofs.Least.{least_reached}
use Rattle.matcher.proofs.Turns.{each_turn}
use Rattle.grid_alignment.specs.Alignment.{point, sends}
use Rattle.grid_alignment.proofs.Entries.{sends-small}
use Rattle.shot_record.specs.Shots.{Shot}
use Rattle.shot_record.specs.Index.{u_in, v_in}
use Rattle.hypothesis.specs.declared.Inputs.{Inputs}
use Rattle.hypothesis.specs.declared.Frame.{Frame}
use Rattle.hypothesis.specs.declared.framing.Extremes.{Extremes}
use Rattle.hypothesis.specs.Placements.{cell_total, cell_point, turned_u, turned_v, squares, frame}
use Rattle.hypothesis.specs.Inputs.{PassedShot, SearchInput}
use Rattle.hypothesis.specs.Extremes.{extremes_to, extremes_with, us, vs, sides_of, sides_in, frame_between, frame_by}
use Rattle.hypothesis.proofs.Extremes.{Ends, kept, turned_round}
use Rattle.hypothesis.proofs.IndexedCells.{cells_are}

-- ---- one more number
pub first_extremes : (f : ℕ → ℤ) (x : ℤ) → x ≡ f 0 → record { least = x; greatest = x } ≡ extremes_to f 0
unfolding least_to greatest_to
first_extremes f x e = λ i. record { least = e i; greatest = e i }

pub next_extremes : (f : ℕ → ℤ) (n : ℕ) (e : Extremes) (x : ℤ) → 0 < n → e ≡ extremes_to f (n - 1) → x ≡ f n → extremes_with e x ≡ extremes_to f (n + 1 - 1)
unfolding least_to greatest_to
next_extremes f zero e x h p q = absurd (omega arith)
next_extremes f (suc n) e x h p q =
    let before : suc n - 1 ≡ n = omega arith in
    let after : suc n + 1 - 1 ≡ suc n = omega arith in
    rw (p, q, before, after)

-- ---- the frame
module _ (s : Shot) where
  abbrev last : ℕ
  last = cell_total s - 1

  abbrev framed : Extremes → Extremes → Frame
  framed u v = record { u = u.least; v = v.least; width = squares u.least u.greatest; height = squares v.least v.greatest }

  made : {f g : ℕ → ℤ} {x y z w : ℤ} → Ends f last x y → Ends g last z w → frame_between (point x z) (point y w) ≡ framed (extremes_to f last) (extremes_to g last)
  made a b = λ i. record { u = a.least-is i; v = b.least-is i; width = a.squares-are i; height = b.squares-are i }

  pub frame-turned : (r : ℕ) → r < 4 → frame_by r (sides_of s) ≡ frame s r
  unfolding frame sends
  frame-turned r h =
      let P : ℕ → Type 0 = λ m. frame_by m (sides_of s) ≡ frame s m in
      let u = us s in
      let v = vs s in
      subst P (mod-eq_of_lt h)
      (each_turn P (made (kept u last) (kept v last)) (made (kept v last) (turned_round u last)) (made (turned_round u last) (turned_round v last))
      (made (turned_round v last) (kept u last)) r)

  -- coordinates as small as those of the cells
  module _ (p : PassedShot s) (r : ℕ) where
    near-point : (k : ℕ) → (nat_abs (turned_u s r k) ≤ 4096) × (nat_abs (turned_v s r k) ≤ 4096)
    near-point k = sends-small r 4096 (cell_point s k) (p.near k).0 (p.near k).1

    pub near-frame : (nat_abs (frame s r).u ≤ 4096) × (nat_abs (frame s r).v ≤ 4096)
    unfolding frame
    near-frame =
        let u = least_reached (turned_u s r) last in
        let v = least_reached (turned_v s r) last in
        (omega (arith, ap nat_abs u.is, (near-point u.k).0), omega (arith, ap nat_abs v.is, (near-point v.k).1))

-- ---- the bounding box of an index is that of the shot
same_extremes : (f g : ℕ → ℤ) (n : ℕ) → ((k : ℕ) → k ≤ n → f k ≡ g k) → extremes_to f n ≡ extremes_to g n
unfolding least_to greatest_to
same_extremes f g zero e = λ i. record { least = e 0 (omega arith) i; greatest = e 0 (omega arith) i }
same_extremes f g (suc n) e =
    ap₂ extremes_with (same_extremes f g n (λ k h. e k (omega (arith, h)))) (e (suc n) (omega arith))

pub sides_are : (s : Shot) (i : Inputs) (index : List ℕ) → SearchInput s i index → sides_in index i.cells ≡ sides_of s
sides_are s i index input =
    let below : (k : ℕ) → k ≤ cell_total s - 1 → k < cell_total s = λ k h. omega (arith, h, input.passed.some_cell) in
    let u = same_extremes (u_in index) (us s) (cell_total s - 1) (λ k h. (input.cells k (below k h)).u) in
    let v = same_extremes (v_in index) (vs s) (cell_total s - 1) (λ k h. (input.cells k (below k h)).v) in
    ap (sides_in index) (cells_are s i input.is) ∙ (λ j. record { u = u j; v = v j })
