-- P11 of the proved table, the refusal, by computation: question 15 for every shot with the two cells, questions 21, 1 to 14, 22 and 23 for one
-- record. Assumes nothing.
use mathlib.Core.Path.{◌≡◌, refl, ◌∙◌}
use mathlib.Core.List.{List}
use mathlib.Core.Option.{Option, none, some}
use Prim.Native.Nat.{ℕ, ◌≤◌}
use lib.ListN.{length}
use lib.Ieee.{of_bits, le, lt, eq}
use borrow.Author.Tests.{le-leb}
use Rattle.refusal.specs.declared.Refusal.TheVariants as refusal
use Rattle.integers.specs.Least.{least_to, greatest_to}
use Rattle.integers.specs.Tests.{every, any_below}
use Rattle.refusal.proofs.Questions.{rest_asked}
use Rattle.matcher.specs.Codes.{from_bits, source}
use Rattle.grid_alignment.specs.Alignment.{sends}
use Rattle.board.specs.Numbering.{count_passing}
use Rattle.board.specs.Layout.{parity_of}
use Rattle.board.specs.Questions.{asked_of_size, asked_of_board}
use Rattle.score_matrix.specs.Table.{patterns}
use Rattle.shot_record.specs.Fields.{number, threshold_at, px_at, table_at, least_weight_at, rows_at, cell_count_at, cell_map, cell_at}
use Rattle.shot_record.specs.Shots.{Sample, Shot, list, whole_record, parse}
use Rattle.shot_record.specs.Writing as writing
use Rattle.shot_record.specs.Writing.{bytes_of}
use Rattle.hypothesis.specs.Placements.{frame, with_turns_below, placements}
use Rattle.board_match.specs.Questions.{asked_from9, asked_of_shot, asked_before15}
use Rattle.board_match.specs.Match.{asked_from15, match_answer}
use Rattle.board_match.proofs.Order.{shot_goes_on}
use Rattle.worked_examples.specs.Table.{showing, too_wide}
use Rattle.std.specs.Prelude.{Err}

pub refused_5 : (s : Shot) (first second : Option Sample) → asked_from15 (showing s 5 first second) ≡ some refusal.TranslationWindow
unfolding asked_from15 placements with_turns_below list frame least_to greatest_to sends
refused_5 s first second = refl

-- ---- the record: question 21, then 1 to 14, then 15
parses : parse (bytes_of 0 too_wide) ≡ some too_wide
unfolding bytes_of writing.little_endian from_bits number threshold_at px_at table_at least_weight_at rows_at cell_count_at cell_map cell_at list whole_record parse
parses = refl

passes : (words : ℕ) → 36 ≤ words → asked_before15 too_wide words ≡ none
unfolding asked_of_board asked_of_size any_below from_bits source parity_of count_passing asked_from9 every patterns of_bits le lt eq
passes words room = rw (le-leb 36 words room) refl

pub record_refused : (lent : List ℕ) → 36 ≤ length lent → match_answer (bytes_of 0 too_wide) lent ≡ Err refusal.TranslationWindow
record_refused lent room =
    let n = length lent in
    let asked = rest_asked (asked_of_shot too_wide n) (shot_goes_on too_wide n) (asked_from15 too_wide) (passes n room) ∙ refused_5 too_wide none none in
    rw (parses, asked) refl
