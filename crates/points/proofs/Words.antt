-- Points of an index are equal exactly if their words are. Assumes nothing.
use mathlib.Core.Path.{◌≡◌, refl, sym, ap}
use mathlib.Core.Bool.{Bool, true, false}
use mathlib.Core.List.{List}
use Prim.Native.Nat.{ℕ, ◌/◌, ◌%◌, ◌^◌, ◌<◌}
use native.Mathlib.Omega.{arith}
use mir.Syntax.{w16}
use mir.Val.{to_z}
use mir.Facts.{to_z_inj}
use Rattle.grid_alignment.specs.declared.Coord.{Coord}
use Rattle.grid_alignment.specs.Alignment.{point}
use Rattle.sorting.specs.Order.{Told}
use Rattle.shot_record.specs.Index.{point_in}
use Rattle.points.specs.Points.{all_apart, point_of, SmallWords}
use Rattle.points.proofs.Twice.{if_none_twice, if_twice}

half-same : (a b : ℕ) → a < 65536 → b < 65536 → to_z w16 a ≡ to_z w16 b → a ≡ b
half-same a b h l e = to_z_inj {w = w16} (record { fits = h }) (record { fits = l }) e

same-words : (index : List ℕ) (i j : ℕ) → point_in index i < 2 ^ 32 → point_in index j < 2 ^ 32 → point_of index i ≡ point_of index j → point_in index i ≡ point_in index j
same-words index i j a b e =
    let low = half-same (point_in index i % 65536) (point_in index j % 65536) (omega arith) (omega arith) (ap (λ (p : Coord). p.u) e) in
    let high = half-same (point_in index i / 65536 % 65536) (point_in index j / 65536 % 65536) (omega arith) (omega arith) (ap (λ (p : Coord). p.v) e) in
    omega (arith, low, high, a, b)

pub told_apart : (index : List ℕ) (n : ℕ) (r : Bool) → SmallWords index n → Told n (point_in index) r → r ≡ all_apart (point_of index) n
told_apart index n true small t =
    sym (if_none_twice (point_of index) n
    (λ i j l h e. t.different refl i j l h (same-words index i j (small i (omega (arith, l, h))) (small j h) e)))
told_apart index n false small t =
    let x = t.repeated refl in
    sym (if_twice (point_of index) n x.first x.second x.order x.inside
    (ap (λ (w : ℕ). point (to_z w16 (w % 65536)) (to_z w16 (w / 65536 % 65536))) x.equal))
