-- The proved table: each row follows by computation. Assumes nothing.
use mathlib.Core.Path.{refl}
use lib.Ieee.{of_bits, to_bits, of_int, neg, sub, mul, div, le, lt, eq}
use Rattle.matcher.specs.Codes.{from_bits, source}
use Rattle.grid_alignment.specs.Alignment.{sends, lowest_point}
use Rattle.board.specs.Numbering.{count_passing, number_at, number_atℤ, search}
use Rattle.board.specs.Layout.{parity_of}
use Rattle.shot_record.specs.Shots.{list}
use Rattle.hypothesis.specs.Placements.{frame, with_turns_below, placements}
use Rattle.lent_list.specs.Front.{up_to}
use Rattle.integers.specs.Least.{least_to, greatest_to}
use Rattle.integers.specs.Tests.{any_below}
use Rattle.link_check.specs.Violations.{expectation, without}
use Rattle.worked_examples.specs.Table.{Table}
use Rattle.worked_examples.proofs.Refused.{refused_5, record_refused}

pub table : Table
unfolding from_bits source sends lowest_point count_passing number_at number_atℤ search parity_of of_bits to_bits of_int neg sub mul div le lt eq list least_to
    greatest_to frame with_turns_below placements up_to any_below expectation without
table =
    record {
      P1 = (refl, refl);
      P2 = (refl, refl, refl, refl);
      P3 = (refl, refl, refl, refl);
      P4 = (refl, refl, refl, refl);
      P5 = (refl, refl, refl, refl);
      P6 = (refl, refl, refl, refl);
      P7 = (refl, refl, refl, refl);
      P8 = (refl, refl);
      P9 = (λ capacity next. refl, λ capacity. refl, λ p n. refl);
      P10 = refl;
      P11 = (λ s first second. (refl, refl), λ s first second. (refl, refl), refused_5, record_refused, refl);
      P12 = λ c. (refl, refl, λ fraction. refl);
    }
