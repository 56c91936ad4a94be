-- Document 02's small shots: each follows by computation. Assumes nothing.
use mathlib.Core.Path.{refl}
use lib.Ieee.{of_bits, div, le, lt, eq}
use borrow.Author.Tests.{le-leb}
use Rattle.integers.specs.Tests.{every, any_below}
use Rattle.matcher.specs.Codes.{from_bits, source}
use Rattle.grid_alignment.specs.Alignment.{sends}
use Rattle.lent_list.specs.Front.{up_to}
use Rattle.board.specs.Numbering.{count_passing, number_at, number_atℤ}
use Rattle.board.specs.Layout.{parity_of}
use Rattle.board.specs.Questions.{asked_of_size, asked_of_board}
use Rattle.score_matrix.specs.Table.{patterns}
use Rattle.hypothesis.specs.Evidence.{expected, contributed}
use Rattle.board_match.specs.Questions.{asked_from9}
use Rattle.worked_examples.specs.Requests.{Requests}

pub requests : Requests
unfolding asked_of_board asked_of_size any_below from_bits source parity_of count_passing asked_from9 every patterns up_to number_at number_atℤ sends expected contributed of_bits div le lt eq
requests =
    record {
      filed_twice = λ first second words. refl;
      side_by_side = λ words room. rw (le-leb 36 words room) refl;
      both = λ t g h. refl;
      one = λ t g h. (refl, refl);
      neither = λ t g h. refl;
      one_of_two = λ t g h. (refl, refl);
    }
