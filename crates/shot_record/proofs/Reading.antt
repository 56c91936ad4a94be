-- The numbers of a record from its bytes, and upper bounds of its offsets. Assumes nothing.
use mathlib.Core.Path.{◌≡◌, refl, sym, ap, ap₂, ◌∙◌}
use mathlib.Core.Bool.{Bool, true, false, not}
use Prim.Native.Nat.{ℕ, zero, suc, ◌+◌, ◌-◌, ◌*◌, ◌/◌, ◌%◌, ◌^◌, ◌≤◌, ◌<◌}
use mathlib.Core.Logic.{◌⊎◌, inl, inr}
use native.Mathlib.Nat.{mul-le-mul, mul-le-mul_right, le_refl, le_trans, le-add_right, le_of_suc-le-suc, eq-or-lt_of_le, div-eq_of_lt, le-div_iff_mul-le}
use native.Mathlib.Numerals.{add-one}
use native.Mathlib.Omega.{arith}
use mathlib.Core.List.{List}
use lib.Dec.{T, eqb, ltb, ltb→lt, nltb→le, lit<, lit≤}
use lib.ListN.{length, get_or}
use lib.Pow.{pow-add, pow_pos, high, shr-shr}
use borrow.Author.Tests.{lt-ltb, le-ltb, eq-eqb, ne_eqb, eqb-true, eqb-false, not-true, not-false}
use Rattle.matcher.specs.Codes.{bit}
use Rattle.score_matrix.specs.Table.{patterns}
use Rattle.matcher.proofs.Bits.{bit-small, bit-under}
use Rattle.shot_record.specs.declared.fields.Fields.{Fields}
use Rattle.shot_record.specs.Shots.{numbers, setting, shot}
use Rattle.shot_record.proofs.Lists.{length-list, get_d_list}
use Rattle.shot_record.specs.Fields.{fields_of, byte, number, map_byte, is_set, threshold_at, px_at, table_at, least_weight_at, rows_at, bits_of, border_of}
use Rattle.shot_record.specs.Fields.{code_count, codes_at, cell_count_at, cell_count, cell_map_at, sampled, map_size, map_of, grid_size, point_size, sample_length, cell_length, cells_at, cell_at}

-- the located fields, one by one
pub record Found (f : Fields) (bytes : List ℕ) : Type 0 where
  pub map : f.map ≡ map_byte bytes
  pub threshold_at_is : f.threshold_at ≡ threshold_at bytes
  pub px_at_is : f.px_at ≡ px_at bytes
  pub table_at : f.table_at ≡ table_at bytes
  pub least_weight_at_is : f.least_weight_at ≡ least_weight_at bytes
  pub rows_at : f.rows_at ≡ rows_at bytes
  pub code_count_is : f.code_count ≡ code_count bytes
  pub cell_count_is : f.cell_count ≡ cell_count bytes
  pub cell_map_at_is : f.cell_map_at ≡ cell_map_at bytes
  pub cells_at : f.cells_at ≡ cells_at bytes
  pub grid_size_is : f.grid_size ≡ grid_size (bits_of bytes) (border_of bytes)

pub found : (f : Fields) (bytes : List ℕ) → f ≡ fields_of bytes → Found f bytes
unfolding fields_of
found f bytes e =
    record {
      map = ap (λ (g : Fields). g.map) e;
      threshold_at_is = ap (λ (g : Fields). g.threshold_at) e;
      px_at_is = ap (λ (g : Fields). g.px_at) e;
      table_at = ap (λ (g : Fields). g.table_at) e;
      least_weight_at_is = ap (λ (g : Fields). g.least_weight_at) e;
      rows_at = ap (λ (g : Fields). g.rows_at) e;
      code_count_is = ap (λ (g : Fields). g.code_count) e;
      cell_count_is = ap (λ (g : Fields). g.cell_count) e;
      cell_map_at_is = ap (λ (g : Fields). g.cell_map_at) e;
      cells_at = ap (λ (g : Fields). g.cells_at) e;
      grid_size_is = ap (λ (g : Fields). g.grid_size) e;
    }

-- flags by equal bits
pub flag_alike : (m j n k : ℕ) → bit m j ≡ bit n k → is_set m j ≡ is_set n k
flag_alike m j n k e = ap (λ (b : ℕ). not (eqb b 0)) e

-- a bit by its flag
pub flag_set : (m k : ℕ) {set : Bool} → set ≡ is_set m k → set ≡ true → bit m k ≡ 0 → ⊥
flag_set m k h e = eqb-false (bit m k) 0 (not-true _ (sym h ∙ e))

pub flag_clear : (m k : ℕ) {set : Bool} → set ≡ is_set m k → set ≡ false → bit m k ≡ 0
flag_clear m k h e = eqb-true (bit m k) 0 (not-false _ (sym h ∙ e))

-- a setting whose bit is not 0
pub setting_set : {A : Type 0} (b : ℕ) (field default : A) → (b ≡ 0 → ⊥) → field ≡ setting b field default
setting_set zero field default h = absurd (h refl)
setting_set (suc b) field default h = refl

pub setting-either : {A : Type 0} (P : A → Type 0) (b : ℕ) {field default : A} → P field → P default → P (setting b field default)
setting-either P zero f d = d
setting-either P (suc b) f d = f

pub pattern-count : length patterns ≡ 511
unfolding patterns
pattern-count = refl

-- a table has 511 entries, the record's own or the built-in one
pub table_size : (bytes : List ℕ) → length (shot bytes).table ≡ 511
table_size bytes =
    setting-either (λ (l : List ℕ). length l ≡ 511) (bit (map_byte bytes) 3) (length-list (λ (k : ℕ). number 4 (table_at bytes + 4 * k) bytes) 511) pattern-count

-- the table of a record, depending on its presence flag
module _ (f : Fields) (bytes : List ℕ) (e : f ≡ fields_of bytes) (sets : Bool) (h : sets ≡ is_set f.map 3) where
  flag : bit f.map 3 ≡ bit (map_byte bytes) 3
  flag = ap (λ (m : ℕ). bit m 3) (found f bytes e).map

  pub built_in-table : sets ≡ false → (shot bytes).table ≡ patterns
  built_in-table n =
      let clear : bit (map_byte bytes) 3 ≡ 0 = sym flag ∙ flag_clear f.map 3 h n in
      rw clear refl

  pub own-table : sets ≡ true → numbers 4 511 f.table_at bytes ≡ (shot bytes).table
  own-table n =
      ap (λ (at : ℕ). numbers 4 511 at bytes) (found f bytes e).table_at
      ∙ setting_set (bit (map_byte bytes) 3) (numbers 4 511 (table_at bytes) bytes) patterns (λ z. flag_set f.map 3 h n (flag ∙ z))

-- the codes of the shot
pub code_count_is : (bytes : List ℕ) → length (shot bytes).codes ≡ code_count bytes
code_count_is bytes = length-list (λ (k : ℕ). number 8 (codes_at bytes + 8 * k) bytes) (code_count bytes)

pub code_is : (bytes : List ℕ) (k : ℕ) → k < code_count bytes → number 8 (codes_at bytes + 8 * k) bytes ≡ get_or (shot bytes).codes k 0
code_is bytes k h = sym (get_d_list (λ (k : ℕ). number 8 (codes_at bytes + 8 * k) bytes) (code_count bytes) k 0 h)

-- the offsets before the codes are nondecreasing, and their bounds
pub head_reach : (bytes : List ℕ) → (threshold_at bytes ≤ px_at bytes) × (px_at bytes ≤ table_at bytes) × (table_at bytes ≤ least_weight_at bytes)
    × (least_weight_at bytes ≤ rows_at bytes) × (rows_at bytes ≤ 2061)
unfolding rows_at least_weight_at table_at px_at threshold_at
head_reach bytes =
    let small = bit-small (map_byte bytes) in
    (omega arith, omega arith, omega arith, omega arith, omega (arith, small 0, small 1, small 2, small 3, small 5))

-- the bounds of the located offsets
pub found_reach : (f : Fields) (bytes : List ℕ) → f ≡ fields_of bytes
    → (f.threshold_at ≤ 2061) × (f.px_at ≤ 2061) × (f.table_at ≤ 2061) × (f.least_weight_at ≤ 2061) × (f.rows_at ≤ 2061)
found_reach f bytes e =
    let at = found f bytes e in
    let reach = head_reach bytes in
    (omega (arith, at.threshold_at_is), omega (arith, at.px_at_is), omega (arith, at.table_at), omega (arith, at.least_weight_at_is), omega (arith, at.rows_at))

-- a number from its first m bytes and the n after them
pub number_split : (bytes : List ℕ) (m n at : ℕ) → number (m + n) at bytes ≡ number n (at + m) bytes * 2 ^ (8 * m) + number m at bytes
unfolding number
number_split bytes zero n at =
    let none : 0 + n ≡ n = omega arith in
    let here : at + 0 ≡ at = omega arith in
    rw (none, here) (omega arith)
number_split bytes (suc m) n at =
    let more : 8 * suc m ≡ 8 * m + 8 = omega arith in
    let next : at + suc m ≡ suc at + m = omega arith in
    let one : suc m + n ≡ suc (m + n) = omega arith in
    rw (one, more, next, pow-add 2 (8 * m) 8, number_split bytes m n (suc at)) (omega arith)

pub two_bytes : (bytes : List ℕ) (at : ℕ) → byte at bytes + byte (at + 1) bytes * 256 ≡ number 2 at bytes
unfolding number
two_bytes bytes at = rw add-one (omega arith)

abbrev pub Small : List ℕ → Type 0
Small bytes = (i : ℕ) → byte i bytes < 256

module _ (bytes : List ℕ) (s : Small bytes) where
  pub number-below : (n at : ℕ) → number n at bytes < 2 ^ (8 * n)
  unfolding number
  number-below zero at = lit< tt
  number-below (suc n) at =
      let more : 8 * suc n ≡ 8 * n + 8 = omega arith in
      rw (more, pow-add 2 (8 * n) 8) (omega (arith, s at, number-below n (suc at)))

  -- bit k is in byte k / 8
  pub number_bit : (n at k : ℕ) → k < 8 * n → bit (number n at bytes) k ≡ bit (byte (at + k / 8) bytes) (k % 8)
  unfolding number
  number_bit zero at k h = absurd (omega arith)
  number_bit (suc n) at k h = go (ltb k 8) (ltb→lt k 8) (nltb→le k 8) (number_bit n (suc at) (k - 8))
    where
      rest : ℕ
      rest = number n (suc at) bytes

      order : byte at bytes + 256 * rest ≡ byte at bytes + rest * 2 ^ 8
      order = omega arith

      low : k < 8 → bit (byte at bytes + 256 * rest) k ≡ bit (byte (at + k / 8) bytes) (k % 8)
      low l =
          let here : at + k / 8 ≡ at = omega arith in
          let same : k % 8 ≡ k = omega arith in
          ap (λ (x : ℕ). bit x k) order ∙ bit-under (byte at bytes) rest 8 k l ∙ rw (here, same) refl

      up : 8 ≤ k → (k - 8 < 8 * n → bit rest (k - 8) ≡ bit (byte (suc at + (k - 8) / 8) bytes) ((k - 8) % 8))
          → bit (byte at bytes + 256 * rest) k ≡ bit (byte (at + k / 8) bytes) (k % 8)
      up l ih =
          let there : suc at + (k - 8) / 8 ≡ at + k / 8 = omega arith in
          let same : (k - 8) % 8 ≡ k % 8 = omega arith in
          let sum : k ≡ 8 + (k - 8) = omega arith in
          let shifted : (byte at bytes + 256 * rest) / 2 ^ k ≡ rest / 2 ^ (k - 8)
          = ap (λ (j : ℕ). (byte at bytes + 256 * rest) / 2 ^ j) sum ∙ sym (shr-shr (byte at bytes + 256 * rest) 8 (k - 8))
          ∙ ap (λ (x : ℕ). x / 2 ^ (k - 8)) (ap (λ (x : ℕ). x / 2 ^ 8) (omega arith) ∙ high rest 8 (s at)) in
          ap (λ (x : ℕ). x % 2) shifted ∙ ih (omega arith) ∙ ap₂ (λ (i j : ℕ). bit (byte i bytes) j) there same

      go : (b : Bool) → (T b → k < 8) → (T (not b) → 8 ≤ k) → (k - 8 < 8 * n
          → bit rest (k - 8) ≡ bit (byte (suc at + (k - 8) / 8) bytes) ((k - 8) % 8))
          → bit (byte at bytes + 256 * rest) k ≡ bit (byte (at + k / 8) bytes) (k % 8)
      go true less more ih = low (less tt)
      go false less more ih = up (more tt) ih

  -- ---- bounds of the offsets after the codes
  pub map_reach : cell_map_at bytes ≤ 526365
  unfolding cell_count_at
  map_reach = omega (arith, head_reach bytes, number-below 2 (rows_at bytes + 12))

  pub count_reach : cell_count bytes ≤ 65535
  count_reach = omega (arith, number-below 2 (cell_count_at bytes))

  pub grid_reach : grid_size (bits_of bytes) (border_of bytes) ≤ 585225
  grid_reach =
      let n = bits_of bytes + 2 * border_of bytes in
      let h : n ≤ 765 = omega (arith, s (rows_at bytes + 2), s (rows_at bytes + 3)) in
      mul-le-mul {n₁ = n} {m₁ = n} {n₂ = 765} {m₂ = 765} h h

  pub start_reach : (k : ℕ) → cell_at bytes k ≤ 534557 + k * 585234
  unfolding cell_at
  start_reach zero = omega (arith, map_reach, count_reach)
  start_reach (suc k) = omega (arith, start_reach k, size_reach (sampled bytes k))
    where
      size_reach : (b : ℕ) → sample_length b (grid_size (bits_of bytes) (border_of bytes)) ≤ 585230
      size_reach zero = lit≤ tt
      size_reach (suc b) = omega (arith, grid_reach)

  -- the unused bits of a bitmap of n bits: none, or those of the last byte from n % 8 up
  pub no_spare : (n at : ℕ) → n % 8 ≡ 0 → map_of n at bytes < 2 ^ n
  no_spare n at e =
      let all : 8 * map_size n ≡ n = omega arith in
      rw all at (number-below (map_size n) at)

  module _ (n at : ℕ) (some : 0 < n % 8) where
    abbrev last : ℕ
    last = byte (at + n / 8) bytes

    abbrev before : ℕ
    before = number (n / 8) at bytes

    split : map_of n at bytes ≡ before + last * 2 ^ (8 * (n / 8))
    unfolding number
    split =
        let size : map_size n ≡ n / 8 + 1 = omega arith in
        ap (λ (m : ℕ). number m at bytes) size ∙ number_split bytes (n / 8) 1 at ∙ omega arith

    power : 2 ^ n ≡ 2 ^ (n % 8) * 2 ^ (8 * (n / 8))
    power =
        let sum : n ≡ n % 8 + 8 * (n / 8) = omega arith in
        ap (λ (m : ℕ). 2 ^ m) sum ∙ pow-add 2 (n % 8) (8 * (n / 8))

    clear : last < 2 ^ (n % 8) → map_of n at bytes < 2 ^ n
    clear h =
        rw (split, power) (omega (arith, number-below (n / 8) at, mul-le-mul_right (2 ^ (8 * (n / 8))) h))

    unclear : 2 ^ (n % 8) ≤ last → 2 ^ n ≤ map_of n at bytes
    unclear h = rw (split, power) (omega (arith, mul-le-mul_right (2 ^ (8 * (n / 8))) h))

    pub spare : eqb (last / 2 ^ (n % 8)) 0 ≡ ltb (map_of n at bytes) (2 ^ n)
    spare = go (ltb last (2 ^ (n % 8))) (ltb→lt last (2 ^ (n % 8))) (nltb→le last (2 ^ (n % 8)))
      where
        go : (b : Bool) → (T b → last < 2 ^ (n % 8)) → (T (not b) → 2 ^ (n % 8) ≤ last)
            → eqb (last / 2 ^ (n % 8)) 0 ≡ ltb (map_of n at bytes) (2 ^ n)
        go true less more =
            eq-eqb (last / 2 ^ (n % 8)) 0 (div-eq_of_lt (less tt)) ∙ sym (lt-ltb (map_of n at bytes) (2 ^ n) (clear (less tt)))
        go false less more =
            let one : 1 ≤ last / 2 ^ (n % 8) = (le-div_iff_mul-le (pow_pos (n % 8))).1 (omega (arith, more tt)) in
            ne_eqb (last / 2 ^ (n % 8)) 0 (λ e. absurd (omega (arith, one, e))) ∙ sym (le-ltb (map_of n at bytes) (2 ^ n) (unclear (more tt)))

-- the offsets of the cells are nondecreasing
pub starts_rise : (bytes : List ℕ) (k n : ℕ) → k ≤ n → cell_at bytes k ≤ cell_at bytes n
unfolding cell_at
starts_rise bytes k zero h =
    let first : k ≡ 0 = omega arith in
    rw first (le_refl (cell_at bytes 0))
starts_rise bytes k (suc n) h = go (eq-or-lt_of_le h) (starts_rise bytes k n)
  where
    go : (k ≡ suc n) ⊎ (k < suc n) → (k ≤ n → cell_at bytes k ≤ cell_at bytes n) → cell_at bytes k ≤ cell_at bytes (suc n)
    go (inl e) ih = rw e (le_refl (cell_at bytes (suc n)))
    go (inr l) ih = le_trans (ih (le_of_suc-le-suc l)) (le-add_right (cell_at bytes n) (cell_length point_size (sampled bytes n) (grid_size (bits_of bytes) (border_of bytes))))
