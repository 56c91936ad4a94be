-- The examples, computed. Assumes nothing.
use mathlib.Core.Path.{refl}
use lib.Ieee.{of_bits, le, lt, eq}
use Rattle.integers.specs.Tests.{any_below}
use Rattle.matcher.specs.Codes.{from_bits, source}
use Rattle.board.specs.Numbering.{count_passing}
use Rattle.board.specs.Layout.{parity_of}
use Rattle.board.specs.Questions.{asked_of_size, asked_of_board}
use Rattle.shot_record.specs.Shots.{list}
use Rattle.legacy_record.specs.Restating.{asked_from25}
use Rattle.legacy_record.specs.Examples.{Examples}

pub examples : Examples
unfolding list from_bits source parity_of count_passing any_below asked_of_size asked_of_board asked_from25 of_bits le lt eq
examples = record { even_rows = refl; odd_rows = refl; alike_first = refl; even_sides = refl; one_byte_short = refl; enough_room = refl }
