-- The text of a small log, and uses of the laws of logs (document 02, 2.9). Assumes nothing.
use mathlib.Core.Path.{◌≡◌, refl, ap, subst, ◌∙◌}
use mathlib.Core.List.{List, [], ◌∷◌, ◌++◌, append-nil}
use mathlib.Core.Option.{Option, none}
use mathlib.Core.Logic.{◌⊎◌, inl, inr}
use Prim.Native.Nat.{ℕ, ◌^◌, ◌<◌}
use lib.Dec.{lit<}
use Rattle.refusal.specs.declared.Refusal.TheVariants as refusal
use Rattle.shot_record.specs.Fields.{number, threshold_at, px_at, table_at, least_weight_at, rows_at, cell_count_at, cell_map, cell_at}
use Rattle.shot_record.specs.Shots.{Shot, whole_record, parse}
use Rattle.shot_record.specs.Writing.{little_endian}
use Rattle.board_match.specs.Match.{matched_shot}
use Rattle.board_match.specs.Accuracy.{Accuracy}
use Rattle.place_text.specs.Numerals.{decimal_in}
use Rattle.place_text.specs.Text.{refusal_line}
use Rattle.log_text.specs.Lines.{step_line, entry_line, shot_answer, entry_lines, cut_line}
use Rattle.log_text.specs.Log.{text_in, log_text}
use Rattle.log_text.specs.Rules.{Entry, FitEntry, IsNumber, Greatest, Read, Print}
use Rattle.log_text.proofs.Laws.{row_text, cut_between, greatest_before, whole_written, pieces_same}
use Rattle.log_text.proofs.Lengths.{lines_room, demands_stand}
use Rattle.worked_examples.specs.Logs.{empty_entry, small_log, small_text, OfLogs}
use Rattle.std.specs.Prelude.{Some, None, Err}

no_shot : parse [] ≡ none
unfolding parse whole_record number threshold_at px_at table_at least_weight_at rows_at cell_count_at cell_map cell_at
no_shot = refl

line_of : (n : ℕ) → entry_line n (shot_answer []) ≡ entry_line n (Err refusal.InvalidRecord)
line_of n = ap (λ (o : Option Shot). entry_line n (matched_shot o 4608)) no_shot

four : List Entry
four = empty_entry 7 ∷ empty_entry 10 ∷ empty_entry 9 ∷ empty_entry 12 ∷ []

small_log_lem : log_text None small_log ≡ small_text
unfolding four text_in number little_endian entry_lines refusal_line decimal_in
small_log_lem =
    row_text None four (small 7 (lit< tt), (small 10 (lit< tt), (small 9 (lit< tt), (small 12 (lit< tt), tt)))) (99 ∷ 0 ∷ 0 ∷ [])
    ∙ (λ i. line_of 7 i
    ++ (step_line 7 10 ++ line_of 10 i
    ++ (step_line 10 9 ++ line_of 9 i
    ++ (step_line 10 12 ++ line_of 12 i
    ++ [])))
    ++ cut_line 3)
  where
    small : (n : ℕ) → n < 2 ^ 32 → FitEntry (empty_entry n)
    small n h = record { number = h; length = lit< tt }

empty_log : log_text None [] ≡ []
unfolding text_in
empty_log = refl

which : (e f : Entry) (n : ℕ) → IsNumber n (e ∷ f ∷ []) → (n ≡ e.number) ⊎ (n ≡ f.number)
which e f n (inl i) = inl i
which e f n (inr (inl i)) = inr i
which e f n (inr (inr i)) = absurd i

pub of_logs : OfLogs
of_logs =
    record {
      small_log_lem = small_log_lem;
      empty_log = empty_log;
      cut_between = λ e f fe ff rest. cut_between None (e ∷ f ∷ []) (fe, (ff, tt)) rest;
      greatest_before =
          λ e f n is.
          let g = subst (Greatest (e ∷ f ∷ [])) is (greatest_before (e ∷ f ∷ [])) in
          (g.0.0, g.0.1.0, which e f n g.1);
      whole_written = whole_written;
      pieces_same =
          λ a b lines rest next takes none.
          pieces_same None [] (Read a ∷ Read b ∷ Print next rest lines ∷ []) (takes, none) ∙ ap (λ (l : List ℕ). log_text None (a ++ l)) (append-nil b);
      lines_room = λ h n shot. lines_room (Some h) n shot;
      demands_stand = λ bytes small m is. (subst (Accuracy bytes) is (demands_stand bytes small)).count;
    }
