-- Match with an array of scores: the same match wherever the array is long enough, and its result by cases. Assumes nothing.
use mathlib.Core.Path.{◌≡◌, refl, sym, ap, subst, ◌∙◌}
use mathlib.Core.Logic.{◌⊎◌, inl, inr}
use mathlib.Core.Bool.{Bool, true}
use mathlib.Core.List.{List, flat_map}
use mathlib.Core.Option.{Option, none, some, some-injective}
use Prim.Native.Nat.{ℕ, ◌≤◌, ◌<◌}
use lib.ListN.{length}
use lib.Ieee.{Float}
use borrow.Author.Tests.{le-leb, lt-leb}
use Rattle.integers.proofs.Distances.{lt_or_le}
use Rattle.refusal.specs.declared.Refusal.{Refusal}
use Rattle.refusal.specs.declared.Refusal.TheVariants as refusal
use Rattle.refusal.specs.Questions.{ask}
use Rattle.refusal.proofs.Questions.{rest_asked, refusal_stands}
use Rattle.lent_list.specs.Front.{in_front, at_exit}
use Rattle.shot_record.specs.Shots.{Shot, shot, whole_record, parse}
use Rattle.shot_record.proofs.Reading.{Small}
use Rattle.shot_record.proofs.Whole.{passed, parse-whole}
use Rattle.hypothesis.specs.Search.{best}
use Rattle.hypothesis.specs.ScoreList.{score_count, score_list}
use Rattle.emit.specs.Markers.{marker_words}
use Rattle.board_match.specs.Questions.{asked_of_shot, asked_before15, after_record}
use Rattle.board_match.specs.Match.{markers_of, asked_from15, refused_by, answer_with, matched_shot, left_list, Gives}
use Rattle.board_match.specs.Scores.{asked_from24, refused_with_scores, scored_shot, scored_answer, scored_left, filled_left}
use Rattle.board_match.specs.Scores.{GivesScored, SameMatch, EnginesAgree, EnginesRule}
use Rattle.board_match.specs.Accuracy.{Accuracy}
use Rattle.board_match.proofs.Order.{shot_goes_on}
use Rattle.board_match.proofs.Accurately.{match_accurate}
use Rattle.std.specs.Prelude.{Result, Err}
use Rattle.board_match.specs.declared.Match.{Match}

-- ---- questions of a shot
module _ (s : Shot) (words places : ℕ) where
  -- 24 passes
  pub roomy : score_count s ≤ places → (rest : Option Refusal) → asked_from24 s places rest ≡ rest
  roomy h rest = ap (λ (t : Bool). ask t refusal.ScoreListTooShort rest) (le-leb (score_count s) places h)

  -- 24 fails
  short : places < score_count s → (rest : Option Refusal) → asked_from24 s places rest ≡ some refusal.ScoreListTooShort
  short h rest = ap (λ (t : Bool). ask t refusal.ScoreListTooShort rest) (lt-leb (score_count s) places h)

  -- the error of an earlier question
  earlier : (r : Refusal) → asked_before15 s words ≡ some r → (rest : Option Refusal) → asked_of_shot s words rest ≡ some r
  earlier r e rest = refusal_stands (asked_of_shot s words) (shot_goes_on s words) rest r e

  same_refusal : score_count s ≤ places → refused_with_scores s words places ≡ refused_by s words
  same_refusal h = ap (asked_of_shot s words) (roomy h (asked_from15 s))

  module _ (asked : asked_before15 s words ≡ none) where
    -- all earlier questions passed
    pub then_asked : (rest : Option Refusal) → asked_of_shot s words rest ≡ rest
    then_asked rest = rest_asked (asked_of_shot s words) (shot_goes_on s words) rest asked

  -- the array is too short: 24, or the same error as without scores
  pub refused-either : places < score_count s → (refused_with_scores s words places ≡ some refusal.ScoreListTooShort)
      ⊎ (refused_with_scores s words places ≡ refused_by s words)
  refused-either h = go (asked_before15 s words) refl
    where
      go : (o : Option Refusal) → asked_before15 s words ≡ o → (refused_with_scores s words places ≡ some refusal.ScoreListTooShort)
          ⊎ (refused_with_scores s words places ≡ refused_by s words)
      go none e = inl (then_asked e (asked_from24 s places (asked_from15 s)) ∙ short h (asked_from15 s))
      go (some r) e = inr (earlier r e (asked_from24 s places (asked_from15 s)) ∙ sym (earlier r e (asked_from15 s)))

-- ---- the engines agree
module _ (bytes : List ℕ) (scores : List Float) (lent : List ℕ) where
  abbrev places : ℕ
  places = length scores

  abbrev Same : Option Shot → Type 0
  Same o = (scored_shot o (length lent) places ≡ matched_shot o (length lent)) × (scored_left o places lent ≡ left_list o lent)

  by_refusal : (s : Shot) → refused_with_scores s (length lent) places ≡ refused_by s (length lent) → Same (some s)
  by_refusal s e =
      (ap (λ (o : Option Refusal). answer_with o s (best s)) e, ap (λ (o : Option Refusal). at_exit o (flat_map marker_words (markers_of s)) lent) e)

  same : Same (parse bytes) → SameMatch bytes scores lent
  same e = record { answer = e.0; list = e.1 }

  roomy_same : (o : Option Shot) → ((s : Shot) → o ≡ some s → score_count s ≤ places) → Same o
  roomy_same none h = (refl, refl)
  roomy_same (some s) h = by_refusal s (same_refusal s (length lent) places (h s refl))

  short_or_same : (o : Option Shot) → (scored_shot o (length lent) places ≡ Err refusal.ScoreListTooShort) ⊎ Same o
  short_or_same none = inr (refl, refl)
  short_or_same (some s) = elim (lt_or_le places (score_count s)) [
    | inl h ↦ elim (refused-either s (length lent) places h) [
      | inl e ↦ inl (ap (λ (q : Option Refusal). answer_with q s (best s)) e)
      | inr e ↦ inr (by_refusal s e)
    ]
    | inr h ↦ inr (by_refusal s (same_refusal s (length lent) places h))
  ]

  agree : EnginesAgree bytes scores lent
  agree =
      record {
        either = elim (short_or_same (parse bytes)) [ inl e ↦ inl e | inr e ↦ inr (same e) ];
        with_room = λ h. same (roomy_same (parse bytes) h);
      }

pub engines_agree : EnginesRule
engines_agree bytes scores lent = agree bytes scores lent

-- ---- demand 3
pub scored_accurate : (bytes : List ℕ) (scores : List Float) (lent : List ℕ) → Small bytes → Accuracy bytes (scored_answer bytes scores lent)
scored_accurate bytes scores lent small = elim (engines_agree bytes scores lent).either [
  | inl e ↦ subst (Accuracy bytes) (sym e) tt
  | inr e ↦ subst (Accuracy bytes) (sym e.answer) (match_accurate bytes lent small)
]

-- ---- the result, by cases of the program
module _ (bytes : List ℕ) (scores : List Float) (lent : List ℕ) where
  -- an error of the questions before 24
  pub refused_scored : (r : Refusal) → after_record (parse bytes) (length lent) ≡ some r → GivesScored bytes scores lent (Err r) scores lent
  refused_scored r e = record { answers = (go (parse bytes) e).0; leaves = (go (parse bytes) e).1; fills = (go (parse bytes) e).2 }
    where
      go : (o : Option Shot) → after_record o (length lent) ≡ some r
          → (Err r ≡ scored_shot o (length lent) (length scores)) × (lent ≡ scored_left o (length scores) lent) × (scores ≡ filled_left o (length lent) scores)
      go none q = (ap Err (sym (some-injective refusal.InvalidRecord r q)), refl, refl)
      go (some s) q =
          let stands = earlier s (length lent) (length scores) r q in (
            sym (ap (λ (x : Option Refusal). answer_with x s (best s)) (stands (asked_from24 s (length scores) (asked_from15 s)))),
            sym (ap (λ (x : Option Refusal). at_exit x (flat_map marker_words (markers_of s)) lent) (stands (asked_from24 s (length scores) (asked_from15 s)))),
            sym (ap (λ (x : Option Refusal). at_exit x (score_list s) scores) (stands (asked_from24 s (length scores) none))),
          )

  module _ (w : whole_record bytes ≡ true) (asked : asked_before15 (shot bytes) (length lent) ≡ none) where
    abbrev s : Shot
    s = shot bytes

    is-shot : parse bytes ≡ some s
    is-shot = parse-whole bytes (passed bytes w)

    -- 24
    pub too_short : length scores < score_count s → GivesScored bytes scores lent (Err refusal.ScoreListTooShort) scores lent
    too_short h =
        let fails : (rest : Option Refusal) → asked_of_shot s (length lent) (asked_from24 s (length scores) rest) ≡ some refusal.ScoreListTooShort =
        λ rest. then_asked s (length lent) (length scores) asked (asked_from24 s (length scores) rest) ∙ short s (length lent) (length scores) h rest in
        record {
          answers = sym (ap (λ (o : Option Shot). scored_shot o (length lent) (length scores)) is-shot
              ∙ ap (λ (x : Option Refusal). answer_with x s (best s)) (fails (asked_from15 s)));
          leaves = sym (ap (λ (o : Option Shot). scored_left o (length scores) lent) is-shot
              ∙ ap (λ (x : Option Refusal). at_exit x (flat_map marker_words (markers_of s)) lent) (fails (asked_from15 s)));
          fills = sym (ap (λ (o : Option Shot). filled_left o (length lent) scores) is-shot
              ∙ ap (λ (x : Option Refusal). at_exit x (score_list s) scores) (fails none));
        }

    -- filled and searched
    pub searched : score_count s ≤ length scores → (filled : List Float) → filled ≡ in_front (score_list s) scores → (r : Result Match Refusal) (exit : List ℕ)
        → Gives bytes lent r exit → GivesScored bytes scores lent r filled exit
    searched h filled e r exit g =
        let agree : SameMatch bytes scores lent = (engines_agree bytes scores lent).with_room
        (λ t is. subst (λ (x : Shot). score_count x ≤ length scores) (some-injective s t (sym is-shot ∙ is)) h) in
        record {
          answers = g.answers ∙ sym agree.answer;
          leaves = g.leaves ∙ sym agree.list;
          fills = e ∙ sym (ap (λ (o : Option Shot). filled_left o (length lent) scores) is-shot
              ∙ ap (λ (x : Option Refusal). at_exit x (score_list s) scores)
              (then_asked s (length lent) (length scores) asked (asked_from24 s (length scores) none) ∙ roomy s (length lent) (length scores) h none));
        }
