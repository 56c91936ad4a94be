-- Without ties the results of Match pair, for an old record and the new one, with the output array. Assumes nothing.
use mathlib.Core.Path.{◌≡◌, refl, sym, ap, ap₂, ◌∙◌, subst}
use mathlib.Core.List.{List, map, flat_map}
use mathlib.Core.Option.{Option as Maybe, none, some}
use Prim.Native.Nat.{ℕ, ◌<◌}
use native.Mathlib.Omega.{arith}
use lib.Dec.{ltb}
use lib.ListN.{length, length-map}
use Rattle.refusal.specs.declared.Refusal.{Refusal}
use Rattle.refusal.specs.declared.Refusal.TheVariants as refusal
use Rattle.refusal.specs.Questions.{ask}
use Rattle.refusal.proofs.Questions.{rest_asked, refusal_stands}
use Rattle.lent_list.specs.Front.{at_exit}
use Rattle.board.specs.Questions.{asked_of_board}
use Rattle.board.proofs.Asked.{asked, board_goes_on}
use Rattle.shot_record.specs.Shots.{Shot, shot, parse}
use Rattle.shot_record.specs.Answers.{config_of, spec_of}
use Rattle.shot_record.proofs.Whole.{parsed, parses-whole}
use Rattle.shot_record.proofs.LittleEndian.{byte-below}
use Rattle.ranking.specs.declared.Hypothesis.{Hypothesis}
use Rattle.hypothesis.specs.Search.{best, runner_up}
use Rattle.hypothesis.specs.Inputs.{PassedShot}
use Rattle.emit.specs.Markers.{Marker, markers, marker_words}
use Rattle.board_match.specs.Questions.{asked_from9, asked_of_shot, asked_before15}
use Rattle.board_match.specs.Match.{margin_with, margin_of, markers_with, markers_of, margin_passes, asked_from15}
use Rattle.board_match.specs.Match.{refused_by, match_of, answer_with, matched_shot, left_list}
use Rattle.board_match.proofs.Order.{shot_goes_on}
use Rattle.board_match.proofs.Sound.{sound}
use Rattle.board_match.proofs.Passing.{passes}
use Rattle.legacy_record.specs.Restated.{restated}
use Rattle.legacy_record.proofs.Laws.{restates_rule}
use Rattle.half_turn.specs.Pairs.{TurnedByHalf}
use Rattle.half_turn.specs.Markers.{paired_marker}
use Rattle.half_turn.specs.Ties.{paired_hypothesis, paired_choice, BestUntied, NoTies}
use Rattle.half_turn.specs.Answers.{paired_match, paired_answer, QuestionsRule, OldAndNew, RestatedRule, ListRule, AnswersRule}
use Rattle.half_turn.proofs.Pairs.{same-placements}
use Rattle.half_turn.proofs.Emitted.{markers_rule}
use Rattle.half_turn.proofs.Mapped.{alignment_pairs}
use Rattle.half_turn.proofs.Ties.{best_rule, runner_up_rule, margin_rule}
use Rattle.std.specs.Prelude.{Option, Some, None, Ok}

pub questions_alike : QuestionsRule
unfolding asked_from9
questions_alike s words rest = refl

pub restated_rule : RestatedRule
restated_rule bytes s o m =
    let new = (restates_rule bytes s o).new in
    record {
      below = byte-below bytes o.below;
      parses_old = o.parses;
      parses_new = new.parses;
      turned_by_half = m;
      old_board = o.board;
      new_board_is = new.board;
    }

-- ---- questions 15 to 17 and the match
module _ (s : Shot) (m : TurnedByHalf s) (best_pairs : best (restated s) ≡ paired_choice s (best s)) (same-margin : margin_of (restated s) ≡ margin_of s) where
  markers_with_lem : (o : Option Hypothesis) → markers_with (restated s) (paired_choice s o) ≡ map (paired_marker s) (markers_with s o)
  markers_with_lem None = refl
  markers_with_lem (Some b) = markers_rule s m b.alignment

  markers-pair : markers_of (restated s) ≡ map (paired_marker s) (markers_of s)
  markers-pair = ap (markers_with (restated s)) best_pairs ∙ markers_with_lem (best s)

  same_number : length (markers_of (restated s)) ≡ length (markers_of s)
  same_number = ap length markers-pair ∙ length-map (markers_of s) (paired_marker s)

  from_15 : asked_from15 (restated s) ≡ asked_from15 s
  unfolding asked_from15
  from_15 =
      λ i.
      ask (ltb 0 (length (same-placements s i))) refusal.TranslationWindow
      (ask (margin_passes (config_of s) (same-margin i)) (refusal.Margin (same-margin i)) (ask (ltb 0 (same_number i)) refusal.NoMarkers none))

  module _ (rows : 0 < s.rows) (runner_up_pairs : runner_up (restated s) ≡ paired_choice s (runner_up s)) where
    match_pairs : (b : Hypothesis) → best s ≡ Some b → match_of (restated s) (paired_hypothesis s b) ≡ paired_match s (match_of s b)
    match_pairs b is =
        let cols : 0 < s.cols = omega (arith, m.odd_cols) in
        let margin = ap (margin_with (restated s)) (sym (best_pairs ∙ ap (paired_choice s) is)) ∙ same-margin ∙ ap (margin_with s) is in
        let number = ap length (markers_rule s m b.alignment) ∙ length-map (markers s b.alignment) (paired_marker s) in
        λ i.
        record {
          best = paired_hypothesis s b;
          runner_up = runner_up_pairs i;
          margin = margin i;
          placements = length (same-placements s i);
          corners = alignment_pairs s b.alignment rows cols i;
          markers = number i;
        }

    by_choice : (o : Maybe Refusal) (c : Option Hypothesis) → best s ≡ c → answer_with o (restated s) (paired_choice s c) ≡ paired_answer s (answer_with o s c)
    by_choice (some refused) c is = refl
    by_choice none None is = refl
    by_choice none (Some b) is = ap Ok (match_pairs b is)

    answer_pairs : (o : Maybe Refusal) → answer_with o (restated s) (best (restated s)) ≡ paired_answer s (answer_with o s (best s))
    answer_pairs o = ap (answer_with o (restated s)) best_pairs ∙ by_choice o (best s) refl

-- ---- records
module _ (old new lent : List ℕ) (s : Shot) (x : OldAndNew old new s) (untied : BestUntied s) where
  abbrev words : ℕ
  words = length lent

  before_15 : (rest : Maybe Refusal) → asked_of_shot (restated s) words rest ≡ asked_of_shot s words rest
  before_15 rest =
      rest_asked (asked_of_board (spec_of (restated s)) (restated s).codes) (board_goes_on (spec_of (restated s)) (restated s).codes)
      (asked_from9 (restated s) words rest) x.new_board_is
      ∙ questions_alike s words rest
      ∙ sym (rest_asked (asked_of_board (spec_of s) s.codes) (board_goes_on (spec_of s) s.codes) (asked_from9 s words rest) x.old_board)

  rows : 0 < s.rows
  rows = omega (arith, (asked (spec_of s) s.codes none x.old_board).0.sized.some-rows)

  passed-shot : asked_before15 s words ≡ none → PassedShot s
  passed-shot e =
      let p = parsed old s x.parses_old in
      subst PassedShot p.1
      (passes old x.below (parses-whole old s x.parses_old) words (sound (shot old) words (ap (λ (t : Shot). asked_before15 t words) p.1 ∙ e)))

  bests : asked_before15 s words ≡ none → best (restated s) ≡ paired_choice s (best s)
  bests e = let p = passed-shot e in best_rule s x.turned_by_half p.checked p.some_cell untied

  margins : asked_before15 s words ≡ none → margin_of (restated s) ≡ margin_of s
  margins e = let p = passed-shot e in margin_rule s x.turned_by_half p.checked p.some_cell

  -- the error of an earlier question
  stands : (refused : Refusal) → asked_before15 s words ≡ some refused → (rest : Maybe Refusal) → asked_of_shot s words rest ≡ some refused
  stands refused e rest = refusal_stands (asked_of_shot s words) (shot_goes_on s words) rest refused e

  same_refusal : (o : Maybe Refusal) → asked_before15 s words ≡ o → refused_by (restated s) words ≡ refused_by s words
  same_refusal none e = before_15 (asked_from15 (restated s)) ∙ ap (asked_of_shot s words) (from_15 s x.turned_by_half (bests e) (margins e))
  same_refusal (some refused) e =
      before_15 (asked_from15 (restated s)) ∙ stands refused e (asked_from15 (restated s)) ∙ sym (stands refused e (asked_from15 s))

  leaves : left_list (parse new) lent ≡ at_exit (refused_by s words) (flat_map marker_words (map (paired_marker s) (markers_of s))) lent
  leaves = ap (λ (o : Maybe Shot). left_list o lent) x.parses_new ∙ by_question (asked_before15 s words) refl
    where
      by_question : (o : Maybe Refusal) → asked_before15 s words ≡ o
          → left_list (some (restated s)) lent ≡ at_exit (refused_by s words) (flat_map marker_words (map (paired_marker s) (markers_of s))) lent
      by_question none e =
          ap₂ (λ (q : Maybe Refusal) (ms : List Marker). at_exit q (flat_map marker_words ms) lent) (same_refusal none e)
          (markers-pair s x.turned_by_half (bests e) (margins e))
      by_question (some refused) e =
          let old_is = stands refused e (asked_from15 s) in
          ap (λ (q : Maybe Refusal). at_exit q (flat_map marker_words (markers_of (restated s))) lent) (same_refusal (some refused) e ∙ old_is)
          ∙ sym (ap (λ (q : Maybe Refusal). at_exit q (flat_map marker_words (map (paired_marker s) (markers_of s))) lent) old_is)

  answers : NoTies s → matched_shot (parse new) words ≡ paired_answer s (matched_shot (parse old) words)
  answers no_ties =
      ap (λ (o : Maybe Shot). matched_shot o words) x.parses_new
      ∙ by_question (asked_before15 s words) refl
      ∙ ap (λ (o : Maybe Shot). paired_answer s (matched_shot o words)) (sym x.parses_old)
    where
      runner_ups : asked_before15 s words ≡ none → runner_up (restated s) ≡ paired_choice s (runner_up s)
      runner_ups e = let p = passed-shot e in runner_up_rule s x.turned_by_half p.checked p.some_cell no_ties

      by_question : (o : Maybe Refusal) → asked_before15 s words ≡ o → matched_shot (some (restated s)) words ≡ paired_answer s (matched_shot (some s) words)
      by_question none e =
          ap (λ (q : Maybe Refusal). answer_with q (restated s) (best (restated s))) (same_refusal none e)
          ∙ answer_pairs s x.turned_by_half (bests e) (margins e) rows (runner_ups e) (refused_by s words)
      by_question (some refused) e =
          let old_is = stands refused e (asked_from15 s) in
          ap (λ (q : Maybe Refusal). answer_with q (restated s) (best (restated s))) (same_refusal (some refused) e ∙ old_is)
          ∙ sym (ap (λ (q : Maybe Refusal). paired_answer s (answer_with q s (best s))) old_is)

pub list_rule : ListRule
list_rule old new lent s x untied = leaves old new lent s x untied

pub answers_rule : AnswersRule
answers_rule old new lent s x no_ties = answers old new lent s x no_ties.of_best no_ties
