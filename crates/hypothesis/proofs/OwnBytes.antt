-- A cell's scores and the code read from it depend only on its own bytes. Assumes nothing.
use mathlib.Core.Path.{◌≡◌, refl, sym, ap, ap₂, ◌∙◌, subst}
use mathlib.Core.List.{List, map}
use mathlib.Core.Option.{none}
use Prim.Native.Nat.{ℕ, zero, suc, ◌<◌}
use lib.Ieee.{Float}
use Rattle.matcher.specs.Codes.{turned}
use Rattle.score_matrix.specs.Scores.{Samples, score, read_code}
use Rattle.score_matrix.specs.Locality.{in_record, EqualScores}
use Rattle.score_matrix.proofs.Locality.{by_record}
use Rattle.shot_record.specs.Fields.{byte, bits_of, border_of, grid_size, sampled, sample_place, threshold_from, grid_from}
use Rattle.shot_record.specs.Shots.{Cell, Shot, sample_at, shot}
use Rattle.shot_record.specs.Answers.{of_pattern}
use Rattle.shot_record.proofs.Whole.{parsed}
use Rattle.shot_record.proofs.CellReads.{cell_count_is, cell-is}
use Rattle.hypothesis.specs.Placements.{cell_total, no_cell, cell}
use Rattle.hypothesis.specs.Evidence.{table_of, samples_with, samples_of}
use Rattle.hypothesis.specs.OwnBytes.{SampledCell, OwnBytesRule}

-- the sample of a cell, at its offset in its record
of_sample : (s : Shot) (n at : ℕ) (bytes : List ℕ) → (sample_at n (grid_size s.bits s.border) at bytes ≡ none → ⊥)
    → samples_with s (sample_at n (grid_size s.bits s.border) at bytes) ≡ in_record s.bits s.border (byte (threshold_from at) bytes) (grid_from at) bytes
of_sample s zero at bytes h = absurd (h refl)
of_sample s (suc n) at bytes h = refl

in_shot : (bytes : List ℕ) (k : ℕ) → k < cell_total (shot bytes) → ((cell (shot bytes) k).sample ≡ none → ⊥)
    → samples_of (shot bytes) k ≡ in_record (bits_of bytes) (border_of bytes) (byte (threshold_from (sample_place bytes k)) bytes) (grid_from (sample_place bytes k)) bytes
in_shot bytes k inside marked =
    let here = ap (λ (x : Cell). x.sample) (cell-is bytes k no_cell (rw (cell_count_is bytes) at inside)) in
    ap (samples_with (shot bytes)) here ∙ of_sample (shot bytes) (sampled bytes k) (sample_place bytes k) bytes (λ e. marked (here ∙ e))

in_record_lem : (bytes : List ℕ) (s : Shot) (k : ℕ) → SampledCell bytes s k
    → samples_of s k ≡ in_record s.bits s.border (byte (threshold_from (sample_place bytes k)) bytes) (grid_from (sample_place bytes k)) bytes
in_record_lem bytes s k c =
    subst
    (λ (s : Shot). k < cell_total s → ((cell s k).sample ≡ none → ⊥)
    → samples_of s k ≡ in_record s.bits s.border (byte (threshold_from (sample_place bytes k)) bytes) (grid_from (sample_place bytes k)) bytes)
    (parsed bytes s c.passes).1 (in_shot bytes k) c.inside c.sampled

pub own_bytes : OwnBytesRule
own_bytes a b s t j k x y table own =
    record {
      scores = λ r code.
          ap (λ (c : Samples). score (table_of s) c (turned s.bits r code)) first
          ∙ same.scores (table_of s) (turned s.bits r code)
          ∙ ap₂ (λ (entries : List Float) (c : Samples). score entries c (turned s.bits r code)) (ap (map of_pattern) table) second
          ∙ ap (λ (bits : ℕ). score (table_of t) (samples_of t k) (turned bits r code)) own.bits;
      codes = ap read_code first ∙ same.codes ∙ ap read_code second;
    }
  where
    threshold : ℕ
    threshold = byte (threshold_from (sample_place a j)) a

    first : samples_of s j ≡ in_record s.bits s.border threshold (grid_from (sample_place a j)) a
    first = in_record_lem a s j x

    second : in_record s.bits s.border threshold (grid_from (sample_place b k)) b ≡ samples_of t k
    second = rw (own.bits, own.border, own.threshold) (sym (in_record_lem b t k y))

    same : EqualScores (in_record s.bits s.border threshold (grid_from (sample_place a j)) a) (in_record s.bits s.border threshold (grid_from (sample_place b k)) b)
    same = by_record s.bits s.border threshold (grid_from (sample_place a j)) (grid_from (sample_place b k)) a b own.greys
