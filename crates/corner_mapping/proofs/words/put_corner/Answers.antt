-- `corner_mapping::words::put_corner` meets its contract: by whether a corner is chosen. Assumes nothing.
use mathlib.Core.Path.{◌≡◌, ap}
use native.Mathlib.Omega.{arith}
use lib.ListN.{length}
use Rattle.lent_list.proofs.Front.{put_as}
use Rattle.corner_mapping.specs.Corners.{mapped_if, words_of_corners}
use Rattle.corner_mapping.specs.Inner.{choice_of}
use Rattle.corner_mapping.proofs.Writing.{none_put, words_put}
use Rattle.corner_mapping.proofs.words.put_corner.Goals as goal
use Rattle.corner_mapping.proofs.words.put_corner.Goals.{After-corner_words-words}

pub returns-then-choice-eq0 : goal.returns-then-choice-eq0
returns-then-choice-eq0 c = none_put c.args.board c.args.id c.args.at c.args.choice _ c.if-choice-eq0.true

words_are : (c : After-corner_words-words)
    → c.corner_words-words.result ≡ words_of_corners c.args.board (mapped_if c.args.id (choice_of c.args.choice))
words_are c = words_put c.args.board c.args.id c.args.choice _ (omega arith) (rw c.from.ensures at c.corner_words-words.ensures)

pub put-requires : goal.put-requires
put-requires c = omega (arith, c.requires, ap length (words_are (goal.at.put-requires c).After-corner_words-words))

pub returns : goal.returns
returns c = put_as (words_are (goal.at.returns c).After-corner_words-words) c.put.ensures
