-- Contracts of the inner functions of emission: the marker expected in a cell, and what is emitted for it.
use Rattle.std.specs.Prelude.{ℕ, ◌%◌, ◌<◌, ◌≡◌, ◌&&◌, cond, List, [], ◌∷◌, Float, Option, Some, None}
use Rattle.std.proofs.Math.Option.{Option as Maybe, none, some}
use Rattle.std.specs.Float.Ieee.{lt}
use Rattle.floats.specs.Units.{nought}
use Rattle.matcher.specs.Codes.{differing}
use Rattle.grid_alignment.specs.declared.GridAlignment.{GridAlignment}
use Rattle.grid_alignment.specs.Alignment.{point, corner, rect_corners}
use Rattle.score_matrix.specs.declared.BoardMatchConfig.{BoardMatchConfig}
use Rattle.score_matrix.specs.Scores.{Samples, samples, evidence, read_code}
use Rattle.score_matrix.specs.Weights.{weight}
use Rattle.shot_record.specs.Shots.{Sample, Shot}
use Rattle.shot_record.specs.Answers.{of_pattern, config_of, grid_with}
use Rattle.hypothesis.specs.declared.Inputs.{Inputs}
use Rattle.hypothesis.specs.Placements.{cell_total, cell}
use Rattle.hypothesis.specs.Evidence.{table_of, expected, code_of}
use Rattle.emit.specs.declared.candidates.Candidate.{Candidate}
use Rattle.emit.specs.Markers.{Marker, quotient}

-- The candidate of cell k.
abbrev pub candidate : Shot → GridAlignment → ℕ → Sample → ℕ → Candidate
candidate s p k x m =
    record {
      cell = k;
      id = m;
      u = (cell s k).u;
      v = (cell s k).v;
      turn = p.turn;
      code = code_of s p.turn m;
      fraction = of_pattern x.fraction;
      threshold = x.threshold;
    }

abbrev pub candidate_with : Shot → GridAlignment → ℕ → Maybe Sample → Option ℕ → Option Candidate
candidate_with s p k none m = None
candidate_with s p k (some x) None = None
candidate_with s p k (some x) (Some m) = Some (candidate s p k x m)

unfoldable pub candidate_at : Shot → GridAlignment → ℕ → Option Candidate
candidate_at s p k = candidate_with s p k (cell s k).sample (expected s p k)

-- the cell of a candidate is one of the shot's, and sampled
abbrev pub OfCell : Shot → Option Candidate → Type 0
OfCell s None = Unit {0}
OfCell s (Some c) = (c.cell < cell_total s) × ((x : Sample) × ((cell s c.cell).sample ≡ some x))

-- a candidate's marker, from the code read, the quotient and px_per_square
abbrev pub marker_from : Candidate → ℕ → Float → Float → Marker
marker_from c code q px =
    record {
      cell = c.cell;
      id = c.id;
      point = corner c.turn (point c.u c.v);
      turn = c.turn % 4;
      differing = differing 64 code c.code;
      code = code;
      quotient = q;
      fraction = c.fraction;
      corners = rect_corners c.u c.v px;
    }

-- the samples of a cell, by the board of the search's inputs
abbrev pub samples_in : Inputs → ℕ → List ℕ → Samples
samples_in i threshold grid = samples i.board.bits i.board.border_bits threshold grid

-- emitted if the cell has weight above 0 and evidence above 0
abbrev pub emitted_from : BoardMatchConfig → List Float → Samples → Candidate → List Marker
emitted_from config table x c =
    cond (lt nought (weight config (Some c.fraction)) && lt nought (evidence table x c.code))
    (marker_from c (read_code x) (quotient table x c.code) config.px_per_square ∷ []) []

abbrev pub emitted_for : Shot → Option Candidate → List Marker
emitted_for s None = []
emitted_for s (Some c) =
    emitted_from (config_of s) (table_of s) (samples s.bits s.border c.threshold (grid_with (cell s c.cell).sample)) c
