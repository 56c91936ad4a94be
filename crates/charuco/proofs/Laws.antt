-- The corner entry point accepts the corner alignment of a match: it passes question 18, and the corners of a placed cell get the ids of its square's
-- corners. Assumes nothing.
use mathlib.Core.Path.{ap, ◌∙◌}
use native.Mathlib.Omega.{arith}
use Rattle.grid_alignment.specs.declared.GridAlignment.{GridAlignment}
use Rattle.grid_alignment.specs.Alignment.{applied, corner}
use Rattle.grid_alignment.proofs.Laws.{corners-land}
use Rattle.board_match.proofs.Laws.{match_corners}
use Rattle.corner_mapping.specs.Corners.{id_of}
use Rattle.corner_mapping.specs.Entry.{alignment_answer}
use Rattle.corner_mapping.proofs.Laws.{corners_of-cell, corner_alignment-passes}
use Rattle.charuco.specs.Rules.{CornersOfMatch}

pub corners_of_match : CornersOfMatch
corners_of_match bytes lent small m e =
    let c = match_corners bytes lent small m e in
    let cells = m.best.alignment in
    record {
      pass =
          ap alignment_answer c.are
          ∙ corner_alignment-passes cells (record { turn = c.small.turn; tx = omega (arith, c.small.tx); ty = omega (arith, c.small.ty) });
      land = λ k p. ap (λ (a : GridAlignment). applied a (corner k p)) c.are ∙ corners-land cells k p;
      ids = λ board grid n p k l g. ap (λ (x : GridAlignment). id_of board x grid n) c.are ∙ corners_of-cell board cells grid n p k l g;
    }
