-- Demand 3 for the result of every record. Assumes nothing.
use mathlib.Core.Path.{◌≡◌, refl, subst, ◌∙◌}
use mathlib.Core.Bool.{Bool, true, false, cond}
use mathlib.Core.List.{List}
use mathlib.Core.Option.{Option as Maybe, none, some}
use Prim.Native.Nat.{ℕ, ◌<◌}
use lib.ListN.{length}
use borrow.Author.Tests.{ltb-true}
use Rattle.refusal.specs.declared.Refusal.{Refusal}
use Rattle.refusal.specs.declared.Refusal.TheVariants as refusal
use Rattle.refusal.proofs.Questions.{answered, both-passed}
use Rattle.shot_record.specs.Shots.{Shot, shot, whole_record, parse}
use Rattle.shot_record.proofs.Reading.{Small}
use Rattle.ranking.specs.declared.Hypothesis.{Hypothesis}
use Rattle.hypothesis.specs.Search.{best}
use Rattle.hypothesis.specs.Inputs.{PassedShot}
use Rattle.hypothesis.proofs.Contributing.{count_rule}
use Rattle.hypothesis.proofs.Accuracy.{accuracy}
use Rattle.hypothesis.proofs.Placements.{count_is}
use Rattle.hypothesis.proofs.Best.{best_placed, runner_up-placed}
use Rattle.emit.specs.Markers.{markers}
use Rattle.emit.proofs.Laws.{emitted-number}
use Rattle.board_match.specs.Questions.{asked_of_shot, asked_before15}
use Rattle.board_match.specs.Match.{markers_with, markers_of, fits_answer, margin_answer, markers_answer, asked_from15, refused_by}
use Rattle.board_match.specs.Match.{match_of, answer_with, matched_shot, match_answer}
use Rattle.board_match.specs.Accuracy.{PlacedAccurately, Accuracy}
use Rattle.board_match.proofs.Order.{shot_goes_on}
use Rattle.board_match.proofs.Sound.{sound}
use Rattle.board_match.proofs.Passing.{passes}
use Rattle.std.specs.Prelude.{Option, Result, Some, None, Ok, Err}
use Rattle.board_match.specs.declared.Match.{Match}

-- a shot whose best placement emits a marker
module _ (s : Shot) (p : PassedShot s) (b : Hypothesis) (is : best s ≡ Some b) (some-marker : 0 < length (markers s b.alignment)) where
  pub accurately : PlacedAccurately s (match_of s b)
  accurately =
      let q = best_placed s p b is in
      let n = emitted-number s b.alignment some-marker in
      record {
        accurate = accuracy s p.checked;
        counts = count_rule s;
        best_is = is;
        best_placed = q.placement;
        best_reported = q.evidence_is;
        best_count = q.count_is;
        number = n.0;
        best_number = q.evidence_is ∙ n.1;
        runner_up_is = λ g next. runner_up-placed s p.checked b g is next;
        count = count_is s;
      }

-- ---- from the error of the shot
some-emitted : (s : Shot) → asked_from15 s ≡ none → 0 < length (markers_of s)
unfolding asked_from15
some-emitted s e =
    let q15 = answered (fits_answer s) _ _ e in
    let q16 = answered (margin_answer s) _ _ q15.1 in
    ltb-true 0 (length (markers_of s)) (answered (markers_answer s) _ _ q16.1).0

-- a record placed at b
pub record PlacedAt (bytes lent : List ℕ) (b : Hypothesis) : Type 0 where
  pub whole : whole_record bytes ≡ true
  pub passes_all : refused_by (shot bytes) (length lent) ≡ none
  pub asked : asked_before15 (shot bytes) (length lent) ≡ none
  pub passed : PassedShot (shot bytes)
  pub is : best (shot bytes) ≡ Some b
  pub some-marker : 0 < length (markers (shot bytes) b.alignment)

-- for every result, from errors and matches
pub of_answer : (bytes lent : List ℕ) → Small bytes → (P : Result Match Refusal → Type 0) → ((r : Refusal) → P (Err r))
    → ((b : Hypothesis) → PlacedAt bytes lent b → P (Ok (match_of (shot bytes) b))) → P (match_answer bytes lent)
unfolding parse
of_answer bytes lent small P refused placed = by_record (whole_record bytes) refl
  where
    s : Shot
    s = shot bytes

    by_refusal : whole_record bytes ≡ true → (o : Maybe Refusal) → refused_by s (length lent) ≡ o → (c : Option Hypothesis) → best s ≡ c → P (answer_with o s c)
    by_refusal w (some r) e c is = refused r
    by_refusal w none e None is = refused refusal.TranslationWindow
    by_refusal w none e (Some b) is =
        let q = both-passed (asked_of_shot s (length lent)) (shot_goes_on s (length lent)) (asked_from15 s) e in
        placed b (record {
          whole = w;
          passes_all = e;
          asked = q.0;
          passed = passes bytes small w (length lent) (sound s (length lent) q.0);
          is = is;
          some-marker = subst (λ (c : Option Hypothesis). 0 < length (markers_with s c)) is (some-emitted s q.1);
        })

    by_record : (w : Bool) → whole_record bytes ≡ w → P (matched_shot (cond w (some s) none) (length lent))
    by_record false w = refused refusal.InvalidRecord
    by_record true w = by_refusal w (refused_by s (length lent)) refl (best s) refl

pub match_accurate : (bytes lent : List ℕ) → Small bytes → Accuracy bytes (match_answer bytes lent)
match_accurate bytes lent small =
    of_answer bytes lent small (Accuracy bytes) (λ r. tt) (λ b p. accurately (shot bytes) p.passed b p.is p.some-marker)
