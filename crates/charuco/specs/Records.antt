-- The words that the C functions return for the fields of a record.
use Rattle.std.specs.Prelude.{ℕ, ◌-◌, ◌%◌, ◌/◌, ◌^◌, ◌≤◌, ◌≡◌, List, [], ◌∷◌, length, take, drop, ℤ, Option, Result, Some, None, Ok, Err, Float}
use Rattle.std.specs.Float.{binary32}
use Rattle.std.specs.Float.Ieee.{to_bits}
use Rattle.std.specs.Int.{w32}
use Rattle.std.proofs.Common.{of_z}
use Rattle.board.specs.Numbering.{as_one}
use Rattle.shot_record.specs.declared.Header.{Header}
use Rattle.shot_record.specs.declared.ReadCell.{ReadCell}
use Rattle.shot_record.specs.declared.ReadSample.{ReadSample}
use Rattle.shot_record.specs.declared.cells.Part.{Part}
use Rattle.shot_record.specs.Shots.{parse}
use Rattle.shot_record.specs.Answers.{part_answer}
use Rattle.charuco.specs.Answers.{Answer, worked, refused, count_word}
use Rattle.refusal.specs.declared.Refusal.{Refusal}

-- map, minimum margin, border threshold, px_per_square, rows, cols, bits, border, cell_size, marker_size_rel, numbers of codes and cells, 1 for a
-- legacy board, least weight
abbrev pub header_words : Header → List ℕ
header_words h =
    h.map
    ∷ to_bits binary32 h.config.alignment_min_margin
    ∷ to_bits binary32 h.config.cell_weight_border_threshold
    ∷ to_bits binary32 h.config.px_per_square
    ∷ h.spec.rows
    ∷ h.spec.cols
    ∷ h.spec.bits
    ∷ h.spec.border_bits
    ∷ to_bits binary32 h.spec.cell_size
    ∷ to_bits binary32 h.spec.marker_size_rel
    ∷ count_word h.code_count
    ∷ count_word h.cell_count
    ∷ as_one h.spec.legacy_pattern
    ∷ to_bits binary32 h.config.least_weight
    ∷ []

abbrev pub header_told : Result Header Refusal → Answer
header_told (Ok h) = worked (header_words h)
header_told (Err r) = refused r

-- whether there is such an entry, and its bit pattern
abbrev pub entry_told : Result (Option Float) Refusal → Answer
entry_told (Ok (Some x)) = worked (1 ∷ to_bits binary32 x ∷ [])
entry_told (Ok None) = worked (0 ∷ 0 ∷ [])
entry_told (Err r) = refused r

-- whether there is such a code, its low 32 bits and its high 32 bits
abbrev pub code_told : Result (Option ℕ) Refusal → Answer
code_told (Ok (Some x)) = worked (1 ∷ x % 2 ^ 32 ∷ x / 2 ^ 32 ∷ [])
code_told (Ok None) = worked (0 ∷ 0 ∷ 0 ∷ [])
code_told (Err r) = refused r

-- 2 for a sampled cell, 1 for an unsampled, 0 for an absent one; u, v, fraction, threshold
abbrev pub coordinate_word : ℤ → ℕ
coordinate_word z = of_z w32 z

abbrev pub cell_words_with : ReadCell → Option ReadSample → List ℕ
cell_words_with c (Some s) = 2 ∷ coordinate_word c.u ∷ coordinate_word c.v ∷ to_bits binary32 s.fraction ∷ s.threshold ∷ []
cell_words_with c None = 1 ∷ coordinate_word c.u ∷ coordinate_word c.v ∷ 0 ∷ 0 ∷ []

abbrev pub cell_words : ReadCell → List ℕ
cell_words c = cell_words_with c c.sample

abbrev pub cell_told : Result (Option ReadCell) Refusal → Answer
cell_told (Ok (Some c)) = worked (cell_words c)
cell_told (Ok None) = worked (0 ∷ 0 ∷ 0 ∷ 0 ∷ 0 ∷ [])
cell_told (Err r) = refused r

-- the offset and the length of a cell's grid in the record; 0 and 0 for an unsampled or absent cell
abbrev pub part_words : Part → List ℕ
part_words p = count_word p.first ∷ count_word (p.end - p.first) ∷ []

abbrev pub grid_told : List ℕ → Result Header Refusal → ℕ → Answer
grid_told bytes (Ok h) k = worked (part_words (part_answer bytes (parse bytes) k))
grid_told bytes (Err r) k = refused r

-- the bytes there are those of the grid
pub record Lies (bytes : List ℕ) (p : Part) (grid : List ℕ) : Type 0 where
  pub inside : p.end ≤ length bytes
  pub holds : take (p.end - p.first) (drop p.first bytes) ≡ grid
