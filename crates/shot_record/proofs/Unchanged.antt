-- The grid of a cell does not change under a change of other bytes that keeps header, counts and cell map. Assumes nothing.
use mathlib.Core.Path.{◌≡◌, refl, sym, ap, ap₂, ◌∙◌}
use Prim.Native.Nat.{ℕ, zero, suc, ◌+◌, ◌-◌, ◌*◌, ◌≤◌, ◌<◌, min, zero-le}
use native.Mathlib.Nat.{lt_of_lt_of_le, min-le_left}
use native.Mathlib.Omega.{arith}
use mathlib.Core.Bool.{Bool, true, false, not}
use mathlib.Core.List.{List}
use lib.Dec.{T, ltb, ltb→lt, nltb→le}
use lib.ListN.{length, drop, length-take, length-drop}
use lib.Seq.{ext_get_or}
use Rattle.matcher.specs.Codes.{bit}
use Rattle.lent_list.specs.Parts.{part}
use Rattle.lent_list.proofs.Parts.{get_d_part}
use Rattle.shot_record.specs.Fields.{byte, number, map_byte, threshold_at, px_at, table_at, least_weight_at, rows_at, bits_of, border_of, code_count, cell_count_at, cell_count}
use Rattle.shot_record.specs.Fields.{cell_map_at, cell_map, map_size, sampled, grid_size, point_size, cell_length, cell_at, sample_place, grid_from}
use Rattle.shot_record.specs.Shots.{sample_at, cell_of, whole_record, parse}
use Rattle.shot_record.specs.Answers.{grid_with, grid_answer, part_with}
use Rattle.shot_record.specs.Unchanged.{SameBetween, SameOutline, SamePart, part_of, UnchangedRule}
use Rattle.shot_record.proofs.Lists.{get_elem?_list, get_elem?_list_past}

-- a number whose bytes are equal
number_same : (a b : List ℕ) (n at : ℕ) → SameBetween at (at + n) a b → number n at a ≡ number n at b
unfolding number
number_same a b zero at same = refl
number_same a b (suc n) at same =
    ap₂ (λ (x y : ℕ). x + 256 * y) (same at (omega arith) (omega arith)) (number_same a b n (suc at) (λ i l h. same i (omega arith) (omega arith)))

module _ (a b : List ℕ) (o : SameOutline a b) where
  map_same : map_byte a ≡ map_byte b
  map_same = o.header 0 zero-le (omega arith)

  rows_same : rows_at a ≡ rows_at b
  unfolding rows_at least_weight_at table_at px_at threshold_at
  rows_same = ap (λ (m : ℕ). 1 + 4 * bit m 0 + 4 * bit m 1 + 4 * bit m 2 + 2044 * bit m 3 + 4 * bit m 5) map_same

  header-byte : (k : ℕ) → k < 14 → byte (rows_at a + k) a ≡ byte (rows_at b + k) b
  header-byte k l = o.header (rows_at a + k) zero-le (omega arith) ∙ ap (λ (at : ℕ). byte (at + k) b) rows_same

  size_same : grid_size (bits_of a) (border_of a) ≡ grid_size (bits_of b) (border_of b)
  size_same = ap₂ grid_size (header-byte 2 (omega arith)) (header-byte 3 (omega arith))

  codes_same : code_count a ≡ code_count b
  codes_same = number_same a b 2 (rows_at a + 12) (λ i l h. o.header i zero-le (omega arith)) ∙ ap (λ (at : ℕ). number 2 (at + 12) b) rows_same

  count_at-same : cell_count_at a ≡ cell_count_at b
  unfolding cell_count_at
  count_at-same = ap₂ (λ (r n : ℕ). r + 14 + 8 * n) rows_same codes_same

  count_same : cell_count a ≡ cell_count b
  count_same = number_same a b 2 (cell_count_at a) (λ i l h. o.map i l (omega arith)) ∙ ap (λ (at : ℕ). number 2 at b) count_at-same

  cell_map-same : cell_map a ≡ cell_map b
  unfolding cell_map
  cell_map-same =
      number_same a b (map_size (cell_count a)) (cell_map_at a) (λ i l h. o.map i (omega arith) h)
      ∙ ap₂ (λ (n at : ℕ). number (map_size n) (at + 2) b) count_same count_at-same

  sampled-same : (k : ℕ) → sampled a k ≡ sampled b k
  sampled-same k = ap (λ (m : ℕ). bit m k) cell_map-same

  start_same : (k : ℕ) → cell_at a k ≡ cell_at b k
  unfolding cell_at
  start_same zero = ap₂ (λ (at n : ℕ). at + 2 + map_size n) count_at-same count_same
  start_same (suc k) = ap₂ ◌+◌ (start_same k) (ap₂ (cell_length point_size) (sampled-same k) size_same)

  whole_same : whole_record a ≡ whole_record b
  unfolding whole_record
  whole_same = rw (o.size, map_same, cell_map-same, count_same, start_same (cell_count b)) refl

-- ---- the grid of cell k, from whether it is sampled (not 0) and the offset of its sample
record PartBy (x : List ℕ) (k is_sampled size at : ℕ) : Type 0 where
  part : part_of x k ≡ part_with at size (sample_at is_sampled size at x)
  grid : grid_answer (parse x) k ≡ grid_with (sample_at is_sampled size at x)

-- a refused record is treated as one with an unsampled cell
of_refused : (x : List ℕ) (k size at : ℕ) → whole_record x ≡ false → PartBy x k 0 size at
unfolding parse
of_refused x k size at w = record { part = rw w refl; grid = rw w refl }

of_absent : (x : List ℕ) (k size at : ℕ) → whole_record x ≡ true → cell_count x ≤ k → PartBy x k 0 size at
unfolding parse
of_absent x k size at w l =
    let n = get_elem?_list_past (cell_of x) (cell_count x) k l in
    record { part = rw (w, n) refl; grid = rw (w, n) refl }

of_cell : (x : List ℕ) (k : ℕ) → whole_record x ≡ true → k < cell_count x → PartBy x k (sampled x k) (grid_size (bits_of x) (border_of x)) (sample_place x k)
unfolding parse
of_cell x k w l =
    let n = get_elem?_list (cell_of x) (cell_count x) k l in
    record { part = rw (w, n) refl; grid = rw (w, n) refl }

-- ---- two records
part_same : (a b : List ℕ) (at n : ℕ) → length a ≡ length b → SameBetween at (at + n) a b → part at n b ≡ part at n a
part_same a b at n e same =
    ext_get_or 0 (part at n b) (part at n a)
    (length-take n (drop at b) ∙ ap (min n) (length-drop at b ∙ ap (λ (m : ℕ). m - at) (sym e) ∙ sym (length-drop at a)) ∙ sym (length-take n (drop at a)))
    (λ i l.
    let less : i < n = lt_of_lt_of_le l (rw (length-take n (drop at b)) (min-le_left n (length (drop at b)))) in
    get_d_part at n b i less ∙ sym (same (at + i) (omega arith) (omega arith)) ∙ sym (get_d_part at n a i less))

part-kept : (a b : List ℕ) (k is_sampled size at : ℕ) → length a ≡ length b → PartBy a k is_sampled size at → PartBy b k is_sampled size at
    → SameBetween (part_of a k).first (part_of a k).end a b → SamePart a b k
part-kept a b k zero size at e x y same = record { place = y.part ∙ sym x.part; grid = y.grid ∙ sym x.grid }
part-kept a b k (suc n) size at e x y same =
    record {
      place = y.part ∙ sym x.part;
      grid =
          y.grid
          ∙ part_same a b (grid_from at) size e (λ i l h. same i (rw x.part l) (rw x.part h))
          ∙ sym x.grid;
    }

pub unchanged : UnchangedRule
unchanged a b o k same = go (whole_record a) refl (ltb k (cell_count a)) (ltb→lt k (cell_count a)) (nltb→le k (cell_count a))
  where
    whole : {w : Bool} → whole_record a ≡ w → whole_record b ≡ w
    whole w = sym (whole_same a b o) ∙ w

    go : (w : Bool) → whole_record a ≡ w → (t : Bool) → (T t → k < cell_count a) → (T (not t) → cell_count a ≤ k) → SamePart a b k
    go false w t less more = part-kept a b k 0 0 0 o.size (of_refused a k 0 0 w) (of_refused b k 0 0 (whole w)) same
    go true w true less more =
        let of_b = of_cell b k (whole w) (rw (count_same a b o) at (less tt)) in
        part-kept a b k (sampled a k) (grid_size (bits_of a) (border_of a)) (sample_place a k) o.size (of_cell a k w (less tt))
        (rw (sampled-same a b o k, size_same a b o, start_same a b o k) of_b)
        same
    go true w false less more =
        part-kept a b k 0 0 0 o.size (of_absent a k 0 0 w (more tt)) (of_absent b k 0 0 (whole w) (rw (count_same a b o) at (more tt))) same
