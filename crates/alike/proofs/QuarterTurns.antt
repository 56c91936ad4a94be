-- A quarter turn rotates the quarters of a code by one, and the quarters determine the code, for every side. Assumes nothing.
use mathlib.Core.Path.{◌≡◌, refl, sym, ap, ap₂, subst, ◌∙◌}
use Prim.Native.Nat.{ℕ, zero, suc, ◌+◌, ◌-◌, ◌*◌, ◌/◌, ◌%◌, ◌^◌, ◌≤◌, ◌<◌}
use mathlib.Core.Logic.{◌⊎◌, inl, inr}
use native.Mathlib.Nat.{mul-le-mul, mul-le-mul_right, add-zero, add-suc, mod-lt, mod-eq_of_lt, div-eq_of_lt, div-add-mod', add-mul-div_right, add-mul-mod_self_right}
use native.Mathlib.Omega.{arith}
use lib.Arith.{digits_lt, digits_div, digits_mod}
use lib.Pow.{pow-add, pow_pos, pow_mono, split, high, low, shr_lt, shl_exact}
use Rattle.matcher.specs.declared.Place.{Place}
use Rattle.matcher.specs.Codes.{bit, from_bits, bit_place, index_of, source, source_bit, turned}
use Rattle.matcher.proofs.Bits.{bit-small, from_ext, from-below, bit-from, bits_determine}
use Rattle.matcher.proofs.Turns.{Inside, same_place, place_inside, index_below, place-index, source-inside, sources, bit-turned, turned-turned}
use Rattle.integers.proofs.Distances.{lt_or_le}
use Rattle.alike.specs.Quarters.{half, quarter, quarter_source, quarters, moved_on}

-- the first a bits of a number, and those after them
from_split : (f : ℕ → ℕ) (a b : ℕ) → from_bits f (a + b) ≡ from_bits (λ (k : ℕ). f (a + k)) b * 2 ^ a + from_bits f a
unfolding from_bits
from_split f a zero = ap (from_bits f) (add-zero a) ∙ omega arith
from_split f a (suc b) =
    ap (from_bits f) (add-suc a b) ∙ ap₂ (λ (x y : ℕ). x + f (a + b) * y) (from_split f a b) (pow-add 2 a b) ∙ omega arith

pub half-some : (n : ℕ) → 0 < n → 0 < half n
half-some n h = omega arith

pub quarter-some : (n : ℕ) → 0 < n → 0 < quarter n
quarter-some n h = omega (arith, mul-le-mul {n₁ = 1} {m₁ = 1} (half-some n h) (half-some n h))

pub quarter-small : (n : ℕ) → n ≤ 8 → quarter n ≤ 16
quarter-small n h = let l : half n ≤ 4 = omega arith in mul-le-mul {n₂ = 4} {m₂ = 4} l l

module _ (n : ℕ) (some : 0 < n) where
  abbrev m : ℕ
  m = quarter n

  -- the place of bit k in the quarter
  abbrev pub there : ℕ → Place
  there k = bit_place (half n) (k % m)

  pub inside : (k : ℕ) → Inside n (there k)
  inside k =
      let p = place_inside (half n) (k % m) (mod-lt k (quarter-some n some)) in
      record { column = omega (arith, p.column); row = omega (arith, p.row) }

  pub quarter_source-below : (k : ℕ) → quarter_source n k < n * n
  unfolding quarter_source
  quarter_source-below k = index_below n (source n (k / m) (there k)) (source-inside n (k / m) (there k) (inside k))

  -- the same bit of the code turned once more
  next_source : (k : ℕ) → source_bit n 1 (quarter_source n k) ≡ index_of n (source n (1 + k / m) (there k))
  unfolding quarter_source
  next_source k =
      let p = source n (k / m) (there k) in
      ap (λ (q : Place). index_of n (source n 1 q)) (place-index n p (source-inside n (k / m) (there k) (inside k)).column)
      ∙ ap (index_of n) (sources n 1 (k / m) (there k) (inside k))

  -- is that of the next quarter, and after the last that of the first
  later : (k : ℕ) → source_bit n 1 (quarter_source n k) ≡ quarter_source n (m + k)
  unfolding quarter_source
  later k =
      let one : m + k ≡ k + 1 * m = omega arith in
      next_source k
      ∙ sym (ap₂ (λ (r j : ℕ). index_of n (source n r (bit_place (half n) j)))
      (ap (λ (x : ℕ). x / m) one ∙ add-mul-div_right k 1 (quarter-some n some) ∙ omega arith)
      (ap (λ (x : ℕ). x % m) one ∙ add-mul-mod_self_right k 1 m))

  around : (q : ℕ) → q < m → source_bit n 1 (quarter_source n (3 * m + q)) ≡ quarter_source n q
  unfolding quarter_source source
  around q l =
      next_source (3 * m + q)
      ∙ ap₂ (λ (r j : ℕ). index_of n (source n (1 + r) (bit_place (half n) j))) (digits_div 3 l) (digits_mod 3 l)
      ∙ sym (ap₂ (λ (r j : ℕ). index_of n (source n r (bit_place (half n) j))) (div-eq_of_lt l) (mod-eq_of_lt l))

  module _ (c : ℕ) where
    abbrev f : ℕ → ℕ
    f k = bit c (quarter_source n k)

    abbrev g : ℕ → ℕ
    g k = bit (turned n 1 c) (quarter_source n k)

    turned-source : (k : ℕ) → g k ≡ bit c (source_bit n 1 (quarter_source n k))
    turned-source k = bit-turned n 1 c (quarter_source n k) (quarter_source-below k)

    abbrev first : ℕ
    first = from_bits f m

    abbrev others : ℕ
    others = from_bits (λ (k : ℕ). f (m + k)) (3 * m)

    before : quarters n c ≡ others * 2 ^ m + first
    before = ap (from_bits f) (omega arith) ∙ from_split f m (3 * m)

    after : quarters n (turned n 1 c) ≡ first * 2 ^ (3 * m) + others
    after =
        ap (from_bits g) (omega arith) ∙ from_split g (3 * m) m
        ∙ ap₂ (λ (x y : ℕ). x * 2 ^ (3 * m) + y)
        (from_ext (λ (q : ℕ). g (3 * m + q)) f m (λ q l. turned-source (3 * m + q) ∙ ap (bit c) (around q l)))
        (from_ext g (λ (k : ℕ). f (m + k)) (3 * m) (λ k l. turned-source k ∙ ap (bit c) (later k)))

    pub turn_moves_on : quarters n (turned n 1 c) ≡ moved_on m (quarters n c)
    turn_moves_on =
        let small = from-below f (λ k. bit-small c (quarter_source n k)) m in
        after ∙ sym (ap₂ (λ (x y : ℕ). x + y * 2 ^ (3 * m)) (ap (λ (w : ℕ). w / 2 ^ m) before ∙ high others m small) (ap (λ (w : ℕ). w % 2 ^ m) before ∙ low others m small) ∙ omega arith)

  -- no turn, two and three
  module _ (c : ℕ) where
    pub no_turn : quarters n (turned n 0 c) ≡ quarters n c
    unfolding source
    no_turn =
        from_ext (λ (k : ℕ). bit (turned n 0 c) (quarter_source n k)) (λ (k : ℕ). bit c (quarter_source n k)) (4 * m)
        (λ k l. bit-turned n 0 c (quarter_source n k) (quarter_source-below k) ∙ ap (bit c) (div-add-mod' (quarter_source n k) n))

    pub two_turns : quarters n (turned n 2 c) ≡ moved_on m (moved_on m (quarters n c))
    two_turns = ap (quarters n) (sym (turned-turned n 1 1 c)) ∙ turn_moves_on (turned n 1 c) ∙ ap (moved_on m) (turn_moves_on c)

    pub three_turns : quarters n (turned n 3 c) ≡ moved_on m (moved_on m (moved_on m (quarters n c)))
    three_turns = ap (quarters n) (sym (turned-turned n 2 1 c)) ∙ turn_moves_on (turned n 2 c) ∙ ap (moved_on m) two_turns

pub quarters-below : (n c : ℕ) → quarters n c < 2 ^ (4 * quarter n)
quarters-below n c = from-below (λ (k : ℕ). bit c (quarter_source n k)) (λ k. bit-small c (quarter_source n k)) (4 * quarter n)

-- ---- in a word of 64 bits
module _ (m w : ℕ) (fits : w < 2 ^ (4 * m)) where
  pub moved-below : moved_on m w < 2 ^ (4 * m)
  moved-below =
      let top : w / 2 ^ m < 2 ^ (3 * m) = shr_lt (3 * m) m (subst (λ (k : ℕ). w < 2 ^ k) (omega arith) fits) in
      let rest : suc (w % 2 ^ m) * 2 ^ (3 * m) ≤ 2 ^ m * 2 ^ (3 * m) = mul-le-mul_right (2 ^ (3 * m)) (mod-lt w (pow_pos m)) in
      let all : 2 ^ (4 * m) ≡ 2 ^ m * 2 ^ (3 * m) = ap (λ (k : ℕ). 2 ^ k) (omega arith) ∙ pow-add 2 m (3 * m) in
      omega (arith, top, rest, all)

  module _ (small : m ≤ 16) where
    pub word_fits : 2 ^ (4 * m) ≤ 2 ^ 64
    word_fits = pow_mono {j = 64} (omega arith)

    pub high_part : w / 2 ^ m * 2 ^ m % 2 ^ 64 ≡ w / 2 ^ m * 2 ^ m
    high_part = mod-eq_of_lt (omega (arith, word_fits, split w m))

    pub moved_word : w / 2 ^ m + (w - w / 2 ^ m * 2 ^ m % 2 ^ 64) * 2 ^ (3 * m) % 2 ^ 64 ≡ moved_on m w
    moved_word =
        let low_part : w - w / 2 ^ m * 2 ^ m % 2 ^ 64 ≡ w % 2 ^ m = omega (arith, high_part, split w m) in
        ap (λ (x : ℕ). w / 2 ^ m + x)
        (ap (λ (x : ℕ). x * 2 ^ (3 * m) % 2 ^ 64) low_part ∙ shl_exact m (3 * m) 64 (mod-lt w (pow_pos m)) (omega arith))

-- ---- every bit of a code is in one of its quarters
record Found (n j : ℕ) : Type 0 where
  bit_of : ℕ
  below : bit_of < 4 * quarter n
  is : quarter_source n bit_of ≡ j

module _ (n : ℕ) (some : 0 < n) where
  -- the bit of a quarter after r turns
  found_by_lem : (r : ℕ) (p q : Place) → r < 4 → Inside (half n) p → source n r p ≡ q → Found n (index_of n q)
  unfolding quarter_source
  found_by_lem r p q l i e =
      let rank = index_of (half n) p in
      let small = index_below (half n) p i in
      record {
        bit_of = r * quarter n + rank;
        below = digits_lt l small;
        is =
            ap₂ (λ (s k : ℕ). index_of n (source n s (bit_place (half n) k))) (digits_div r small) (digits_mod r small)
            ∙ ap (λ (x : Place). index_of n (source n r x)) (place-index (half n) p i.column) ∙ ap (index_of n) e;
      }

  at : (q : Place) → Inside n q → Found n (index_of n q)
  unfolding source
  at q i = go (lt_or_le q.x (half n)) (lt_or_le q.y (half n))
    where
      back : (a b : ℕ) → a ≡ n - 1 - b → b < n → n - 1 - a ≡ b
      back a b e l = omega arith

      go : (q.x < half n) ⊎ (half n ≤ q.x) → (q.y < half n) ⊎ (half n ≤ q.y) → Found n (index_of n q)
      go (inl a) (inl b) = found_by_lem 0 q q (omega arith) (record { column = a; row = b }) refl
      go (inl a) (inr b) =
          found_by_lem 1 (record { x = n - 1 - q.y; y = q.x }) q (omega arith) (record { column = omega (arith, i.row); row = a }) (same_place refl (back _ q.y refl i.row))
      go (inr a) (inr b) =
          found_by_lem 2 (record { x = n - 1 - q.x; y = n - 1 - q.y }) q (omega arith)
          (record { column = omega (arith, i.column); row = omega (arith, i.row) }) (same_place (back _ q.x refl i.column) (back _ q.y refl i.row))
      go (inr a) (inl b) =
          found_by_lem 3 (record { x = q.y; y = n - 1 - q.x }) q (omega arith) (record { column = b; row = omega (arith, i.column) }) (same_place (back _ q.x refl i.column) refl)

  pub quarters_determine : (a b : ℕ) → a < 2 ^ (n * n) → b < 2 ^ (n * n) → quarters n a ≡ quarters n b → a ≡ b
  quarters_determine a b ha hb e =
      bits_determine (n * n) a b ha hb
      (λ j l.
      let w = at (bit_place n j) (place_inside n j l) in
      let rank : index_of n (bit_place n j) ≡ j = div-add-mod' j n in
      let same : bit a (quarter_source n w.bit_of) ≡ bit b (quarter_source n w.bit_of) =
      sym (bit-from (λ (k : ℕ). bit a (quarter_source n k)) (λ k. bit-small a (quarter_source n k)) (4 * quarter n) w.bit_of w.below)
      ∙ ap (λ (x : ℕ). bit x w.bit_of) e
      ∙ bit-from (λ (k : ℕ). bit b (quarter_source n k)) (λ k. bit-small b (quarter_source n k)) (4 * quarter n) w.bit_of w.below in
      ap (bit a) (sym rank) ∙ ap (bit a) (sym w.is) ∙ same ∙ ap (bit b) w.is ∙ ap (bit b) rank)
