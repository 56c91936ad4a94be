-- `hypothesis::framing::frame` meets its contract: a rotation makes no coordinate larger, so the distances are small. Assumes nothing.
use mathlib.Core.Path.{◌≡◌, ap, ap₂, ◌∙◌}
use Prim.Native.Nat.{ℕ, ◌+◌, ◌^◌, ◌≤◌, ◌<◌}
use native.Mathlib.Omega.{arith}
use lib.IntN.{ℤ, nat_abs, ◌-ℤ◌}
use lib.Signed.{mag}
use mir.Syntax.{w16, w64}
use mir.Val.{Fits, SFits}
use mir.ValLaws.{to_z-of_z}
use Rattle.integers.proofs.Parts.{abs_sub, fits-small}
use Rattle.integers.proofs.Words.{word, word-is, half, read_back}
use Rattle.grid_alignment.specs.declared.Coord.{Coord}
use Rattle.grid_alignment.specs.Alignment.{point, sends}
use Rattle.grid_alignment.proofs.Entries.{sends-small}
use Rattle.std.specs.Int.{int_min}
use Rattle.std.proofs.lemmas.Int.{ints}
use Rattle.integers.specs.Least.{lesser}
use Rattle.hypothesis.specs.Extremes.{frame_between}
use Rattle.hypothesis.proofs.framing.frame.Goals as goal
use Rattle.hypothesis.proofs.framing.frame.Goals.{After-turned-q, Start}

-- p is a rotated corner, read back from its words
record Corner (p q : Coord) : Type 0 where
  u : word p.u ≡ q.u
  v : word p.v ≡ q.v
  near-u : nat_abs (word p.u) ≤ 2 ^ 15
  near-v : nat_abs (word p.v) ≤ 2 ^ 15

corner : (r : ℕ) (x y : ℤ) (p : Coord) → mag x < 2 ^ 15 → mag y < 2 ^ 15 → p ≡ sends r (point (half x) (half y)) → Corner p (sends r (point x y))
corner r x y p fx fy e =
    let q = sends r (point x y) in
    let h : SFits w16 x = record { sfits = fx } in
    let k : SFits w16 y = record { sfits = fy } in
    let is : p ≡ q = e ∙ ap₂ (λ (a b : ℤ). sends r (point a b)) (to_z-of_z w16 x h) (to_z-of_z w16 y k) in
    let small = sends-small r (2 ^ 15) (point x y) (fits-small x h) (fits-small y k) in
    let u : word p.u ≡ q.u = word-is q.u (ap (λ (z : Coord). z.u) is) (omega (arith, small.0)) in
    let v : word p.v ≡ q.v = word-is q.v (ap (λ (z : Coord). z.v) is) (omega (arith, small.1)) in
    record { u = u; v = v; near-u = rw u small.0; near-v = rw v small.1 }

-- the distance of two of them, plus one
fits : (x y : ℤ) (n : ℕ) → nat_abs x ≤ 2 ^ 15 → nat_abs y ≤ 2 ^ 15 → n ≡ nat_abs (x -ℤ y) → Fits w64 (n + 1)
fits x y n h k e = record { fits = omega (arith, abs_sub x y) }

module _ (c : After-turned-q) where
  abbrev first : Coord
  first = c.turned-p.result

  abbrev second : Coord
  second = c.turned-q.result

  p : Corner first (sends c.args.turn (point c.args.sides.u.least c.args.sides.v.least))
  p =
      corner c.args.turn c.args.sides.u.least c.args.sides.v.least first (omega arith) (omega arith) c.turned-p.ensures

  q : Corner second (sends c.args.turn (point c.args.sides.u.greatest c.args.sides.v.greatest))
  q =
      corner c.args.turn c.args.sides.u.greatest c.args.sides.v.greatest second (omega arith) (omega arith) c.turned-q.ensures

pub overflow_add-result : goal.overflow_add-result
overflow_add-result c =
    fits (word c.turned-q.result.u) (word c.turned-p.result.u) c.distance.result (q (goal.at.overflow_add-result c).After-turned-q).near-u (p (goal.at.overflow_add-result c).After-turned-q).near-u c.distance.ensures

pub overflow_add-result-2 : goal.overflow_add-result-2
overflow_add-result-2 c =
    fits (word c.turned-q.result.v) (word c.turned-p.result.v) c.distance-2.result (q (goal.at.overflow_add-result-2 c).After-turned-q).near-v (p (goal.at.overflow_add-result-2 c).After-turned-q).near-v c.distance-2.ensures

-- std's minimum compares by `<`, that of the contract by `≤`
least_is : (x y : ℤ) → int_min x y ≡ lesser x y
least_is x y = grind (arith, ints)

pub returns : goal.returns
returns c =
    let u = c.min in
    let v = c.min-2 in
    let width = c.distance.ensures in
    let b = (goal.at.returns c).After-turned-q in
    (λ i. record {
      u = (read_back u.result u.type_inv ∙ u.ensures.value ∙ least_is (word (first b).u) (word (second b).u)) i;
      v = (read_back v.result v.type_inv ∙ v.ensures.value ∙ least_is (word (first b).v) (word (second b).v)) i;
      width = width i + 1;
      height = c.distance-2.ensures i + 1;
    })
    ∙ (λ i. frame_between (point ((p b).u i) ((p b).v i)) (point ((q b).u i) ((q b).v i)))
