-- The laws of turned codes, for every side and every number of turns. Assumes nothing.
use mathlib.Core.Path.{◌≡◌, refl, sym, ap, ◌∙◌}
use Prim.Native.Nat.{ℕ, zero, suc, ◌+◌, ◌*◌, ◌%◌, ◌^◌, ◌≤◌, ◌<◌}
use native.Mathlib.Nat.{mod-lt, mod-mod, suc-mod, suc-add, zero-add, mod-eq_of_lt, div-lt_iff_lt-mul, div-add-mod', mul-le-mul, lt_of_lt_of_le}
use native.Mathlib.Omega.{arith}
use lib.Dec.{lit<}
use lib.Arith.{digits_lt, digits_div, digits_mod}
use Rattle.matcher.specs.declared.Place.{Place}
use Rattle.matcher.specs.Codes.{bit, from_bits, from_four, by_turn, bit_place, index_of, source, source_bit, turned_bit, turned}
use Rattle.matcher.proofs.Bits.{Bits, bit-small, from_ext, from-below, bit-from, from_bits_lem, next_bit, word_below}

-- a place of a code of side n
pub record Inside (n : ℕ) (p : Place) : Type 0 where
  pub column : p.x < n
  pub row : p.y < n

pub same_place : {a b c d : ℕ} → a ≡ c → b ≡ d → ◌≡◌ {A = Place} (record { x = a; y = b }) (record { x = c; y = d })
same_place p q = λ i. record { x = p i; y = q i }

side_pos : (n k : ℕ) → k < n * n → 0 < n
side_pos zero k h = absurd (omega arith)
side_pos (suc n) k h = omega arith

pub place_inside : (n k : ℕ) → k < n * n → Inside n (bit_place n k)
place_inside n k h =
    record { column = mod-lt k (side_pos n k h); row = (div-lt_iff_lt-mul (side_pos n k h)).1 h }

pub index_below : (n : ℕ) (p : Place) → Inside n p → index_of n p < n * n
index_below n p h = digits_lt h.row h.column

pub place-index : (n : ℕ) (p : Place) → p.x < n → bit_place n (index_of n p) ≡ p
place-index n p h = same_place (digits_mod p.y h) (digits_div p.y h)

-- what holds of each of the four holds of the one selected
pub by_turn_lem : {A : Type 0} (P : A → Type 0) (r : ℕ) {a b c d : A} → P a → P b → P c → P d → P (by_turn r a b c d)
by_turn_lem P r {a} {b} {c} {d} pa pb pc pd = go (r % 4)
  where
    go : (m : ℕ) → P (from_four m a b c d)
    go zero = pa
    go (suc zero) = pb
    go (suc (suc zero)) = pc
    go (suc (suc (suc m))) = pd

-- what holds for the turns 0 to 3 holds for r % 4
pub each_turn : (P : ℕ → Type 0) → P 0 → P 1 → P 2 → P 3 → (r : ℕ) → P (r % 4)
each_turn P a b c d r = go (r % 4) (mod-lt r (lit< tt))
  where
    go : (m : ℕ) → m < 4 → P m
    go zero h = a
    go (suc zero) h = b
    go (suc (suc zero)) h = c
    go (suc (suc (suc zero))) h = d
    go (suc (suc (suc (suc m)))) h = absurd (omega arith)

pub source-inside : (n r : ℕ) (p : Place) → Inside n p → Inside n (source n r p)
unfolding source
source-inside n r p h = by_turn_lem (Inside n) r h (omega (arith, h.column, h.row)) (omega (arith, h.column, h.row)) (omega (arith, h.column, h.row))

source_mod : (n r : ℕ) (p : Place) → source n (r % 4) p ≡ source n r p
unfolding source
source_mod n r p = rw (mod-mod r 4)

-- one more turn
step : (n r : ℕ) (p : Place) → Inside n p → source n (suc r) p ≡ source n 1 (source n r p)
unfolding source
step n r p h =
    sym (source_mod n (suc r) p) ∙ ap (λ (m : ℕ). source n m p) (suc-mod r 4) ∙ source_mod n (suc (r % 4)) p
    ∙ each_turn (λ m. source n (suc m) p ≡ source n 1 (source n m p)) refl refl (same_place refl (omega (arith, h.column))) (same_place refl (omega (arith, h.row))) r
    ∙ ap (source n 1) (source_mod n r p)

pub sources : (n r s : ℕ) (p : Place) → Inside n p → source n r (source n s p) ≡ source n (r + s) p
unfolding source
sources n zero s p h = ap (λ (m : ℕ). source n m p) (sym (zero-add s))
sources n (suc r) s p h =
    step n r (source n s p) (source-inside n s p h) ∙ ap (source n 1) (sources n r s p h) ∙ sym (step n (r + s) p h)
    ∙ ap (λ (m : ℕ). source n m p) (sym (suc-add r s))

pub source_bit-below : (n r k : ℕ) → k < n * n → source_bit n r k < n * n
source_bit-below n r k h = index_below n (source n r (bit_place n k)) (source-inside n r (bit_place n k) (place_inside n k h))

source-bits : (n r s k : ℕ) → k < n * n → source_bit n r (source_bit n s k) ≡ source_bit n (r + s) k
source-bits n r s k h =
    let p = bit_place n k in
    let i = place_inside n k h in
    ap (λ (q : Place). index_of n (source n r q)) (place-index n (source n s p) (source-inside n s p i).column)
    ∙ ap (index_of n) (sources n r s p i)

turned-bits : (n r c : ℕ) → Bits (turned_bit n r c)
turned-bits n r c k = bit-small c (source_bit n r k)

-- document 01's sentence: bit y × n + x of the turned code is bit sy × n + sx of the code
pub bit-turned : (n r c k : ℕ) → k < n * n → bit (turned n r c) k ≡ turned_bit n r c k
bit-turned n r c k h = bit-from (turned_bit n r c) (turned-bits n r c) (n * n) k h

-- a turned code is in range
pub turned-below : (n r c : ℕ) → turned n r c < 2 ^ (n * n)
turned-below n r c = from-below (turned_bit n r c) (turned-bits n r c) (n * n)

-- turning by r and then by s is turning by r + s
pub turned-turned : (n r s c : ℕ) → turned n s (turned n r c) ≡ turned n (r + s) c
turned-turned n r s c =
    from_ext (turned_bit n s (turned n r c)) (turned_bit n (r + s) c) (n * n)
    (λ k h. bit-turned n r c (source_bit n s k) (source_bit-below n s k h) ∙ ap (bit c) (source-bits n r s k h))

pub turns_mod : (n r c : ℕ) → turned n (r % 4) c ≡ turned n r c
turns_mod n r c = ap (λ (f : Place → Place). from_bits (λ k. bit c (index_of n (f (bit_place n k)))) (n * n)) (λ i p. source_mod n r p i)

-- turn 0 is the identity on codes of the side
pub turned_none : (n c : ℕ) → c < 2 ^ (n * n) → turned n 0 c ≡ c
unfolding source
turned_none n c h =
    from_ext (turned_bit n 0 c) (bit c) (n * n) (λ k l. ap (bit c) (div-add-mod' k n)) ∙ from_bits_lem c (n * n) ∙ mod-eq_of_lt h

-- and so are four quarter turns
pub four_turns : (n c : ℕ) → c < 2 ^ (n * n) → turned n 1 (turned n 1 (turned n 1 (turned n 1 c))) ≡ c
four_turns n c h =
    turned-turned n 1 1 (turned n 1 (turned n 1 c)) ∙ turned-turned n 1 2 (turned n 1 c) ∙ turned-turned n 1 3 c
    ∙ sym (turns_mod n 4 c) ∙ turned_none n c h

-- ---- in a word of 64 bits: row y, column x of a code whose side is at most 8
module _ (code n turns x y : ℕ) (small : n ≤ 8) (row : y < n) (column : x < n) where
  abbrev here : Place
  here = record { x = x; y = y }

  pub rank_small : y * n + x < 64
  rank_small = lt_of_lt_of_le (digits_lt row column) (mul-le-mul small small)

  -- the place its bit is read from
  pub source_here : index_of n (source n turns here) ≡ source_bit n turns (y * n + x)
  source_here = ap (λ (p : Place). index_of n (source n turns p)) (sym (place-index n here column))

  pub source-small : index_of n (source n turns here) < 64
  source-small =
      lt_of_lt_of_le (index_below n (source n turns here) (source-inside n turns here (record { column = column; row = row }))) (mul-le-mul small small)

  -- the sum with its bit added
  pub next_turned_bit : from_bits (turned_bit n turns code) (y * n + x) + bit code (index_of n (source n turns here)) * 2 ^ (y * n + x) % 2 ^ 64
      ≡ from_bits (turned_bit n turns code) (y * n + (x + 1))
  next_turned_bit =
      let k = y * n + x in
      ap (λ (b : ℕ). from_bits (turned_bit n turns code) k + bit code b * 2 ^ k % 2 ^ 64) source_here
      ∙ next_bit (turned_bit n turns code) (turned-bits n turns code) k rank_small
      ∙ ap (from_bits (turned_bit n turns code)) (omega arith)

  pub next_below : from_bits (turned_bit n turns code) (y * n + (x + 1)) < 2 ^ 64
  next_below = word_below (turned_bit n turns code) (turned-bits n turns code) (y * n + (x + 1)) (omega (arith, rank_small))
