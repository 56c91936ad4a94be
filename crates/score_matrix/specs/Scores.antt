-- Document 01, Scores: the score of a cell, the null score and evidence; and the code that is read from a cell (Emission).
use Rattle.std.specs.Prelude.{ℕ, zero, suc, ◌+◌, ◌*◌, cond, List, ltb, get_or, pos, Float}
use Rattle.std.specs.Float.{binary32}
use Rattle.std.specs.Float.Ieee.{of_bits, of_int, neg, mul, sub}
use Rattle.floats.specs.Units.{sum_to}
use Rattle.matcher.specs.declared.Place.{Place}
use Rattle.matcher.specs.Codes.{bit, from_bits, bit_place}
use Rattle.score_matrix.specs.Table.{entry}

-- The samples of a cell: the side of its code, the border around it, the threshold and the grey bytes (row-major).
pub record Samples : Type 0 where
  pub bits : ℕ
  pub border : ℕ
  pub threshold : ℕ
  pub grid : List ℕ

abbrev pub samples : ℕ → ℕ → ℕ → List ℕ → Samples
samples bits border threshold grid = record { bits = bits; border = border; threshold = threshold; grid = grid }

-- the number of bits of a code, and of bytes in a row of the grid
abbrev pub bit_count : Samples → ℕ
bit_count s = s.bits * s.bits

abbrev pub side : ℕ → ℕ → ℕ
side bits border = bits + 2 * border

-- the index in the grid of the bit at a place
abbrev pub grid_index : ℕ → ℕ → Place → ℕ
grid_index bits border p = (border + p.y) * side bits border + (border + p.x)

-- the grey at bit k of a code: in column border + k mod bits and row border + k / bits
abbrev pub grey : Samples → ℕ → ℕ
grey s k = get_or s.grid (grid_index s.bits s.border (bit_place s.bits k)) 0

-- Log-likelihood of bit k, with d = threshold − grey: entry −d if the bit is 0, entry d if it is 1.
abbrev pub likelihood : List Float → Samples → ℕ → ℕ → Float
likelihood table s k zero = entry table (grey s k) s.threshold
likelihood table s k (suc b) = entry table s.threshold (grey s k)

abbrev pub term : List Float → Samples → ℕ → ℕ → Float
term table s code k = likelihood table s k (bit code k)

-- Log-likelihood of the samples given the code: starts at 0 and adds, for k from 0 to bits² − 1.
abbrev pub score : List Float → Samples → ℕ → Float
score table s code = sum_to (term table s code) (bit_count s)

-- LN_2
abbrev pub ln2 : Float
ln2 = of_bits binary32 0x3F317218

-- Log-likelihood given random bits: bits² × −LN_2.
abbrev pub null_score : ℕ → Float
null_score bits = mul binary32 (of_int binary32 (pos (bits * bits))) (neg ln2)

-- Log-likelihood ratio of the code against random bits: score − null.
abbrev pub evidence : List Float → Samples → ℕ → Float
evidence table s code = sub binary32 (score table s code) (null_score s.bits)

-- the code read from a cell: a bit is set if grey < threshold
abbrev pub read_bit : Samples → ℕ → ℕ
read_bit s k = cond (ltb (grey s k) s.threshold) 1 0

abbrev pub read_code : Samples → ℕ
read_code s = from_bits (read_bit s) (bit_count s)
