-- `marker_sampling::labelled_corners::LabelledCorners::key_of` meets its contract: a skipped index is at no point, and any other at that
-- of its key. Assumes nothing.
use mathlib.Core.Path.{◌≡◌, sym, ap, ◌∙◌}
use mathlib.Core.Bool.{true}
use borrow.Author.Tests.{lt-ltb, le-ltb}
use Rattle.integers.specs.Distance.{is_within}
use Rattle.integers.proofs.Words.{read_back}
use Rattle.marker_sampling.specs.Cells.{Corners, word, labelled, corners_of}
use Rattle.marker_sampling.proofs.Keyed.{passed_over, keyed}
use Rattle.marker_sampling.proofs.Placing.{both_within}
use Rattle.marker_sampling.proofs.labelled_corners.LabelledCorners.key_of.Goals as goal
use Rattle.marker_sampling.proofs.labelled_corners.LabelledCorners.key_of.Goals.{Else-not-labelled}

pub returns-then-self-k : goal.returns-then-self-k
returns-then-self-k c = passed_over 4096 _ c.args.k (λ p. rw (le-ltb c.args.k c.args.self.count c.if-self-k.true))

pub returns-then-not-labelled : goal.returns-then-not-labelled
returns-then-not-labelled c =
    let unlabelled = sym c.labelled.ensures ∙ c.if-not-labelled.true in
    passed_over 4096 _ c.args.k (λ p. rw (lt-ltb c.args.k c.args.self.count c.if-self-k.false, unlabelled))

-- the corner has a grid point, in range
module _ (c : Else-not-labelled) where
  abbrev corners : Corners
  corners = corners_of c.args.self.count c.args.self.grid.now

  has-point : labelled corners c.args.k ≡ true
  has-point = sym c.labelled.ensures ∙ c.if-not-labelled.false

  ranged : (is_within 4096 (word corners c.args.k 1) ≡ true) × (is_within 4096 (word corners c.args.k 2) ≡ true)
  ranged = both_within 4096 corners c.args.self.count c.args.k c.if-self-k.false c.args.self.placed has-point

pub offset-u-requires : goal.offset-u-requires
offset-u-requires c =
    ap (is_within 4096) (read_back c.word.result c.word.type_inv ∙ c.word.ensures) ∙ (ranged (goal.at.offset-u-requires c).Else-not-labelled).0

pub offset-v-requires : goal.offset-v-requires
offset-v-requires c =
    ap (is_within 4096) (read_back c.word-2.result c.word-2.type_inv ∙ c.word-2.ensures) ∙ (ranged (goal.at.offset-v-requires c).Else-not-labelled).1

pub returns : goal.returns
returns c =
    keyed 4096 _ c.args.k c.offset-u.result c.offset-v.result c.offset-u.ensures.1 c.offset-v.ensures.1 c.if-self-k.false
    (has-point (goal.at.returns c).Else-not-labelled)
    (sym (read_back c.word.result c.word.type_inv ∙ c.word.ensures) ∙ c.offset-u.ensures.0)
    (sym (read_back c.word-2.result c.word-2.type_inv ∙ c.word-2.ensures) ∙ c.offset-v.ensures.0)
