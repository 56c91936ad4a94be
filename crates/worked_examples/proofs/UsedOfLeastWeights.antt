-- Weights and small shots under a least weight, and uses of its laws (document 02, 2.8). Assumes nothing.
use mathlib.Core.Path.{refl, sym, ◌∙◌}
use lib.Dec.{lit≤}
use lib.Ieee.{binary32, of_bits, div, le, lt, eq}
use Rattle.integers.specs.Tests.{every, any_below}
use Rattle.matcher.specs.Codes.{from_bits, source}
use Rattle.grid_alignment.specs.Alignment.{sends}
use Rattle.lent_list.specs.Front.{up_to}
use Rattle.board.specs.Numbering.{count_passing, number_at, number_atℤ}
use Rattle.board.specs.Layout.{parity_of}
use Rattle.board.specs.Questions.{asked_of_size, asked_of_board}
use Rattle.score_matrix.specs.Table.{patterns}
use Rattle.score_matrix.specs.Weights.{with_least}
use Rattle.score_matrix.proofs.LeastWeights.{least_weight_rule}
use Rattle.shot_record.specs.Writing.{little_endian, bytes_of, LeastWeightLeftOut}
use Rattle.shot_record.proofs.Laws.{zero_least_weight, written_back}
use Rattle.hypothesis.specs.Evidence.{expected, contributed}
use Rattle.board_match.specs.Questions.{asked_from9}
use Rattle.board_match.proofs.Sound.{sound}
use Rattle.board_match.proofs.SameResults.{zero_least_weight_same}
use Rattle.worked_examples.specs.Table.{zero_float, half, three_quarters}
use Rattle.worked_examples.specs.Uses.{pair, pair_record}
use Rattle.worked_examples.specs.LeastWeights.{LeastWeights, OfLeastWeights}
use Rattle.worked_examples.proofs.UsedOfRecords.{pair_bytes, pair-parses}

pub least_weights : LeastWeights
unfolding asked_of_board asked_of_size any_below from_bits source parity_of count_passing asked_from9 every patterns up_to number_at number_atℤ sends expected contributed of_bits div le lt eq
least_weights =
    record {
      equal = λ c. refl;
      above = λ c. refl;
      below = λ c. refl;
      weight_compared = λ c. refl;
      whole_weight = λ c. refl;
      both_count = λ t g h. refl;
      one_counts = λ t g h. refl;
      passed = (refl, refl, refl);
      refused = (refl, refl, refl, refl, refl, refl);
    }

left_out : LeastWeightLeftOut 0 (pair 200)
unfolding pair bytes_of little_endian from_bits
left_out =
    record {
      clear = refl;
      fits = (written_back (pair_record 200) pair_bytes (pair 200) pair-parses).fits;
      room = lit≤ tt;
    }

pub of_least_weights : OfLeastWeights
unfolding of_bits le lt eq
of_least_weights =
    record {
      zeros =
          λ c fraction.
          (least_weight_rule (with_least zero_float c) fraction).zero tt ∙ sym ((least_weight_rule (with_least (of_bits binary32 0x80000000) c) fraction).zero tt);
      smaller = λ c fraction. (least_weight_rule (with_least three_quarters c) fraction).smaller half tt;
      cut_or_not =
          λ c fraction.
          let r = least_weight_rule (with_least half c) fraction in
          (r.below, r.not-below, r.equal);
      sound = λ s words e. (sound s words e).least_weight_is;
      zero_least_weight = zero_least_weight 0 (pair 200) left_out ∙ pair-parses;
      zero_least_weight_same =
          λ scores lent.
          let r = zero_least_weight_same 0 (pair 200) left_out in
          (r.answer lent, r.list lent, r.scored_answer_is scores lent, r.scored_list_is scores lent, r.scores scores lent);
    }
