-- A score and a read code depend on the bytes of the grid, not on its offset in a record. Assumes nothing.
use mathlib.Core.Path.{◌≡◌, refl, sym, ap, ap₂, ◌∙◌}
use mathlib.Core.List.{List}
use mathlib.Core.Bool.{cond}
use Prim.Native.Nat.{ℕ, zero, suc, ◌*◌, ◌<◌}
use lib.Dec.{ltb}
use lib.ListN.{get_or}
use lib.Ieee.{Float}
use Rattle.floats.specs.Units.{sum_to}
use Rattle.floats.proofs.Folds.{sum_ext}
use Rattle.lent_list.specs.Parts.{part}
use Rattle.lent_list.proofs.Parts.{get_d_part}
use Rattle.matcher.specs.Codes.{bit, from_bits, bit_place}
use Rattle.matcher.proofs.Bits.{from_ext}
use Rattle.matcher.proofs.Turns.{place_inside}
use Rattle.score_matrix.specs.Table.{entry}
use Rattle.score_matrix.specs.Scores.{bit_count, side, grid_index, likelihood, term, read_bit}
use Rattle.score_matrix.specs.Locality.{in_record, RecordRule, GreyRule}
use Rattle.score_matrix.proofs.Places.{index-inside}

pub by_greys : GreyRule
by_greys s t b h same =
    record {
      scores = λ table code.
          sum_ext (term table s code) (term table t code) (bit_count s) (λ k l. likelihoods table k (bit code k) l)
          ∙ ap (λ (n : ℕ). sum_to (term table t code) (n * n)) b;
      codes = from_ext (read_bit s) (read_bit t) (bit_count s) (λ k l. ap₂ (λ (g x : ℕ). cond (ltb g x) 1 0) (same k l) h)
          ∙ ap (λ (n : ℕ). from_bits (read_bit t) (n * n)) b;
    }
  where
    likelihoods : (table : List Float) (k b : ℕ) → k < bit_count s → likelihood table s k b ≡ likelihood table t k b
    likelihoods table k zero l = ap₂ (entry table) (same k l) h
    likelihoods table k (suc b) l = ap₂ (entry table) h (same k l)

pub by_record : RecordRule
by_record bits border threshold at to a b same =
    by_greys (in_record bits border threshold at a) (in_record bits border threshold to b) refl refl greys
  where
    size : ℕ
    size = side bits border * side bits border

    greys : (k : ℕ) → k < bits * bits
        → get_or (part at size a) (grid_index bits border (bit_place bits k)) 0 ≡ get_or (part to size b) (grid_index bits border (bit_place bits k)) 0
    greys k l =
        let i = grid_index bits border (bit_place bits k) in
        let inside = index-inside bits border (bit_place bits k) (place_inside bits k l) in
        get_d_part at size a i inside ∙ same i inside ∙ sym (get_d_part to size b i inside)
