-- The cell map as one number: bit k is 1 where cell k is sampled. Assumes nothing.
use mathlib.Core.Path.{◌≡◌, refl, ap, ◌∙◌}
use Prim.Native.Nat.{ℕ, zero, suc, ◌*◌, ◌^◌, ◌<◌}
use mathlib.Core.List.{List, [], ◌∷◌}
use mathlib.Core.Option.{Option, none, some}
use native.Mathlib.Nat.{mod-eq_of_lt, lt_of_lt_of_le}
use native.Mathlib.Omega.{arith}
use lib.Dec.{lit<}
use lib.Pow.{pow_mono}
use lib.ListN.{length, get_or-map}
use lib.IntN.{pos}
use Rattle.matcher.specs.Codes.{bit, from_bits}
use Rattle.matcher.proofs.Bits.{Bits, bit-small, from_ext, from-below, bit-from, from_bits_lem}
use Rattle.shot_record.specs.Fields.{map_size, cell_count, cell_map, sampled}
use Rattle.shot_record.specs.Shots.{Sample, Cell, list, sample_at, cell_of}
use Rattle.shot_record.specs.Writing.{is_sampled, marks, All}
use Rattle.shot_record.proofs.Lists.{get_d_list}
use Rattle.shot_record.proofs.Sequences.{Each}

-- ---- its range
is-bit : (o : Option Sample) → is_sampled o < 2
is-bit none = lit< tt
is-bit (some s) = lit< tt

marks-bits : (cells : List Cell) → Bits (marks cells)
marks-bits [] k = lit< tt
marks-bits (c ∷ cs) zero = is-bit c.sample
marks-bits (c ∷ cs) (suc k) = marks-bits cs k

-- unused bits are 0
pub map-small : (cells : List Cell) → from_bits (marks cells) (length cells) < 2 ^ length cells
map-small cells = from-below (marks cells) (marks-bits cells) (length cells)

pub map_below : (cells : List Cell) → from_bits (marks cells) (length cells) < 2 ^ (8 * map_size (length cells))
map_below cells = lt_of_lt_of_le (map-small cells) (pow_mono {j = 8 * map_size (length cells)} (omega arith))

-- ---- the map of encoded cells, parsed
each-marked : (P : Cell → Type 0) (cells : List Cell) (b : ℕ → ℕ) → ((k : ℕ) → k < length cells → b k ≡ marks cells k) → All P cells
    → Each (λ (k : ℕ) (c : Cell). P c × (b k ≡ is_sampled c.sample)) cells
each-marked P [] b e a = tt
each-marked P (c ∷ cs) b e a =
    ((a.0, e 0 (omega arith)), each-marked P cs (λ (k : ℕ). b (suc k)) (λ k h. e (suc k) (omega arith)) a.1)

pub map-marks : (P : Cell → Type 0) (cells : List Cell) → All P cells
    → Each (λ (k : ℕ) (c : Cell). P c × (bit (from_bits (marks cells) (length cells)) k ≡ is_sampled c.sample)) cells
map-marks P cells =
    each-marked P cells (bit (from_bits (marks cells) (length cells))) (bit-from (marks cells) (marks-bits cells) (length cells))

-- ---- the map of parsed cells
marks_of_list : (f : ℕ → Cell) (n k : ℕ) → k < n → marks (list f n) k ≡ is_sampled (f k).sample
marks_of_list f n k h =
    let default : Cell = record { u = pos 0; v = pos 0; sample = none } in
    get_or-map (λ (c : Cell). is_sampled c.sample) (list f n) k default ∙ ap (λ (c : Cell). is_sampled c.sample) (get_d_list f n k default h)

sampled-at : (b grid at : ℕ) (bytes : List ℕ) → b < 2 → is_sampled (sample_at b grid at bytes) ≡ b
sampled-at zero grid at bytes h = refl
sampled-at (suc zero) grid at bytes h = refl
sampled-at (suc (suc b)) grid at bytes h = absurd (omega arith)

pub map_of_read : (bytes : List ℕ) → cell_map bytes < 2 ^ cell_count bytes
    → from_bits (marks (list (cell_of bytes) (cell_count bytes))) (cell_count bytes) ≡ cell_map bytes
map_of_read bytes h =
    let n = cell_count bytes in
    from_ext (marks (list (cell_of bytes) n)) (sampled bytes) n (λ k l. marks_of_list (cell_of bytes) n k l
    ∙ sampled-at (sampled bytes k) _ _ bytes (bit-small (cell_map bytes) k))
    ∙ from_bits_lem (cell_map bytes) n ∙ mod-eq_of_lt h
