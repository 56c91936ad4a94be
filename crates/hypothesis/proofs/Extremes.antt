-- Minimum and maximum of f 0, …, f n as the ends of a frame's side: the distance of each from the minimum, and the translations that keep all of them
-- below a size. Assumes nothing.
use mathlib.Core.Path.{◌≡◌, refl, sym, ap, ap₂, ◌∙◌}
use Prim.Native.Nat.{ℕ, ◌+◌, ◌≤◌, ◌<◌}
use native.Mathlib.Omega.{arith}
use lib.IntN.{ℤ, pos, nat_abs, neg_ℤ, ◌+ℤ◌, ◌-ℤ◌}
use Rattle.integers.specs.Least.{lesser, least_to, greatest_to}
use Rattle.integers.proofs.Parts.{plus, minus, add_is, sub_is_parts, ext}
use Rattle.integers.proofs.Distances.{distance_sym, above-is}
use Rattle.integers.proofs.Least.{in_order, le_opposite, opposite, least-bound, least_reached, least_opposite, greatest-bound, greatest_reached}
use Rattle.integers.proofs.Least.{least-greatest, greatest_opposite}
use Rattle.hypothesis.specs.Placements.{squares}

-- the positive and the negative parts of x and t
lands : (x t : ℤ) (i : ℕ) → x +ℤ t ≡ pos i → plus x + plus t ≡ i + (minus x + minus t)
unfolding plus minus
lands x t i e = omega (arith, add_is x t, ap plus e, ap minus e)

module _ (f : ℕ → ℤ) (n : ℕ) where
  abbrev low : ℤ
  low = least_to f n

  abbrev high : ℤ
  high = greatest_to f n

  -- x and y are the minimum and the maximum, in one order or the other
  pub record Ends (x y : ℤ) : Type 0 where
    pub least-is : lesser x y ≡ low
    pub squares-are : squares x y ≡ squares low high

  pub kept : Ends low high
  kept = record { least-is = (in_order low high (least-greatest f n)).0; squares-are = refl }

  -- ---- moved so that the minimum is a
  -- the distance of f k from the minimum
  abbrev pub offset : ℕ → ℕ
  offset k = nat_abs (f k -ℤ low)

  abbrev pub width : ℕ
  width = squares low high

  offset_parts : (k : ℕ) → k ≤ n → offset k + (plus low + minus (f k)) ≡ plus (f k) + minus low
  offset_parts k h = above-is low (f k) (least-bound f n k h)

  pub offset_is : (k : ℕ) → k ≤ n → f k ≡ low +ℤ pos (offset k)
  unfolding plus minus
  offset_is k h = ext (f k) (low +ℤ pos (offset k)) (omega (arith, add_is low (pos (offset k)), offset_parts k h))

  pub offset_below : (k : ℕ) → k ≤ n → offset k < width
  offset_below k h = omega (arith, offset_parts k h, greatest-bound f n k h, above-is low high (least-greatest f n))

  pub moved-is : (a k : ℕ) → k ≤ n → f k +ℤ (pos a -ℤ low) ≡ pos (offset k + a)
  unfolding plus minus
  moved-is a k h =
      ext (f k +ℤ (pos a -ℤ low)) (pos (offset k + a))
      (omega (arith, add_is (f k) (pos a -ℤ low), sub_is_parts (pos a) low, offset_parts k h))

  -- a translation that keeps all of them below a size
  pub record Below (t : ℤ) (size k : ℕ) : Type 0 where
    pub i : ℕ
    pub is : f k +ℤ t ≡ pos i
    pub inside : i < size

  pub record Move (t : ℤ) (size : ℕ) : Type 0 where
    pub a : ℕ
    pub is : t ≡ pos a -ℤ low
    pub fits : a + width ≤ size

  pub move : (t : ℤ) (size : ℕ) → ((k : ℕ) → k ≤ n → Below t size k) → Move t size
  unfolding plus minus
  move t size h =
      let l = least_reached f n in
      let g = greatest_reached f n in
      let bl = h l.k l.within in
      let bg = h g.k g.within in
      let a = bl.i in
      let x = lands low t a (rw l.is bl.is) in
      let y = lands high t bg.i (rw g.is bg.is) in
      record {
        a = a;
        is = ext t (pos a -ℤ low) (omega (arith, sub_is_parts (pos a) low));
        fits = omega (arith, bg.inside, above-is low high (least-greatest f n));
      }

-- negation exchanges them
pub turned_round : (f : ℕ → ℤ) (n : ℕ) → Ends (opposite f) n (neg_ℤ (least_to f n)) (neg_ℤ (greatest_to f n))
turned_round f n =
    let l = least_to f n in
    let g = greatest_to f n in
    let least = least_opposite f n in
    record {
      least-is = (in_order (neg_ℤ g) (neg_ℤ l) (le_opposite l g (least-greatest f n))).1 ∙ sym least;
      squares-are = ap (λ (d : ℕ). d + 1) (distance_sym (neg_ℤ g) (neg_ℤ l)) ∙ sym (ap₂ squares least (greatest_opposite f n));
    }
