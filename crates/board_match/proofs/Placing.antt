-- Questions 15 to 17 and the result of a shot that passed those before. Assumes nothing.
use mathlib.Core.Path.{◌≡◌, refl, sym, ap, ◌∙◌}
use mathlib.Core.Bool.{Bool, true, false}
use mathlib.Core.List.{List, flat_map}
use mathlib.Core.Option.{Option as Maybe, none, some, some-injective}
use Prim.Native.Nat.{ℕ, ◌<◌}
use native.Mathlib.Omega.{arith}
use lib.Dec.{ltb}
use lib.ListN.{length}
use lib.Ieee.{Float}
use borrow.Author.Tests.{lt-ltb, le-ltb}
use Rattle.refusal.specs.declared.Refusal.{Refusal}
use Rattle.refusal.specs.declared.Refusal.TheVariants as refusal
use Rattle.refusal.specs.Questions.{ask}
use Rattle.refusal.proofs.Questions.{rest_asked, refusal_stands}
use Rattle.lent_list.specs.Front.{in_front, at_exit}
use Rattle.shot_record.specs.Shots.{Shot, shot, whole_record, parse}
use Rattle.shot_record.specs.Answers.{config_of}
use Rattle.shot_record.proofs.Whole.{passed, parse-whole}
use Rattle.ranking.specs.declared.Hypothesis.{Hypothesis}
use Rattle.hypothesis.specs.Placements.{placements}
use Rattle.hypothesis.specs.Search.{best}
use Rattle.emit.specs.Markers.{Marker, markers, marker_words}
use Rattle.board_match.specs.Questions.{asked_of_shot, asked_before15, after_record}
use Rattle.board_match.specs.Match.{margin_with, margin_of, markers_with, markers_of, margin_passes, margin_answer, markers_answer}
use Rattle.board_match.specs.Match.{asked_from15, refused_by, match_of, answer_with, matched_shot, left_list, Gives}
use Rattle.board_match.proofs.Order.{shot_goes_on}
use Rattle.std.specs.Prelude.{Option, Some, Ok, Err}

module _ (bytes lent : List ℕ) (w : whole_record bytes ≡ true) where
  abbrev s : Shot
  s = shot bytes

  -- by cases of the error
  given : (o : Maybe Refusal) → refused_by s (length lent) ≡ o → Gives bytes lent (answer_with o s (best s)) (at_exit o (flat_map marker_words (markers_of s)) lent)
  given o e =
      let p = parse-whole bytes (passed bytes w) in
      record {
        answers = ap (λ (q : Maybe Refusal). answer_with q s (best s)) (sym e) ∙ sym (ap (λ (q : Maybe Shot). matched_shot q (length lent)) p);
        leaves = ap (λ (q : Maybe Refusal). at_exit q (flat_map marker_words (markers_of s)) lent) (sym e) ∙ sym (ap (λ (q : Maybe Shot). left_list q lent) p);
      }

  module _ (asked : asked_before15 s (length lent) ≡ none) where
    from_15 : (o : Maybe Refusal) → asked_from15 s ≡ o → Gives bytes lent (answer_with o s (best s)) (at_exit o (flat_map marker_words (markers_of s)) lent)
    from_15 o e = given o (rest_asked (asked_of_shot s (length lent)) (shot_goes_on s (length lent)) (asked_from15 s) asked ∙ e)

    pub no_window : length (placements s) ≡ 0 → Gives bytes lent (Err refusal.TranslationWindow) lent
    no_window e = from_15 (some refusal.TranslationWindow) (unfold asked_from15 in rw (le-ltb 0 (length (placements s)) (omega (arith, e))) refl)

    module _ (b : Hypothesis) (is : best s ≡ Some b) (fits : 0 < length (placements s)) where
      abbrev margin : Float
      margin = margin_with s (Some b)

      abbrev found : List Marker
      found = markers s b.alignment

      -- questions 16 and 17 of the best placement
      abbrev only17 : Maybe Refusal
      only17 = ask (ltb 0 (length found)) refusal.NoMarkers none

      abbrev later : Maybe Refusal
      later = ask (margin_passes (config_of s) margin) (refusal.Margin margin) only17

      asked_of : asked_from15 s ≡ later
      unfolding asked_from15
      asked_of =
          ap (λ (t : Bool). ask t refusal.TranslationWindow (ask (margin_answer s) (refusal.Margin (margin_of s))
          (ask (markers_answer s) refusal.NoMarkers none))) (lt-ltb 0 (length (placements s)) fits)
          ∙ ap
          (λ (c : Option Hypothesis).
          ask (margin_passes (config_of s) (margin_with s c)) (refusal.Margin (margin_with s c)) (ask (ltb 0 (length (markers_with s c))) refusal.NoMarkers none))
          is

      -- 16
      pub narrow : margin_passes (config_of s) margin ≡ false → Gives bytes lent (Err (refusal.Margin margin)) lent
      narrow t = from_15 (some (refusal.Margin margin)) (asked_of ∙ ap (λ (q : Bool). ask q (refusal.Margin margin) only17) t)

      module _ (wide : margin_passes (config_of s) margin ≡ true) where
        then_17 : asked_from15 s ≡ only17
        then_17 = asked_of ∙ ap (λ (q : Bool). ask q (refusal.Margin margin) only17) wide

        -- 17
        pub no_markers : length found ≡ 0 → Gives bytes lent (Err refusal.NoMarkers) lent
        no_markers e = from_15 (some refusal.NoMarkers) (then_17 ∙ ap (λ (t : Bool). ask t refusal.NoMarkers none) (le-ltb 0 (length found) (omega (arith, e))))

        pub placed : 0 < length found → Gives bytes lent (Ok (match_of s b)) (in_front (flat_map marker_words found) lent)
        placed h =
            let g = from_15 none (then_17 ∙ ap (λ (t : Bool). ask t refusal.NoMarkers none) (lt-ltb 0 (length found) h)) in
            record {
              answers = ap (answer_with none s) (sym is) ∙ g.answers;
              leaves = ap (λ (c : Option Hypothesis). in_front (flat_map marker_words (markers_with s c)) lent) (sym is) ∙ g.leaves;
            }

-- errors before the search, 21 among them
pub refused-answer : (bytes lent : List ℕ) (r : Refusal) → after_record (parse bytes) (length lent) ≡ some r → Gives bytes lent (Err r) lent
refused-answer bytes lent r e = record { answers = answers (parse bytes) e; leaves = leaves (parse bytes) e }
  where
    stands : (t : Shot) → asked_before15 t (length lent) ≡ some r → refused_by t (length lent) ≡ some r
    stands t q = refusal_stands (asked_of_shot t (length lent)) (shot_goes_on t (length lent)) (asked_from15 t) r q

    answers : (o : Maybe Shot) → after_record o (length lent) ≡ some r → Err r ≡ matched_shot o (length lent)
    answers none q = ap Err (sym (some-injective refusal.InvalidRecord r q))
    answers (some t) q = sym (ap (λ (p : Maybe Refusal). answer_with p t (best t)) (stands t q))

    leaves : (o : Maybe Shot) → after_record o (length lent) ≡ some r → lent ≡ left_list o lent
    leaves none q = refl
    leaves (some t) q = sym (ap (λ (p : Maybe Refusal). at_exit p (flat_map marker_words (markers_of t)) lent) (stands t q))
