-- The check of the margin fails exactly below the minimum, and the corners of a match are aligned with its best placement. Assumes nothing.
use mathlib.Core.Path.{◌≡◌, refl, sym, ap, subst, ◌∙◌}
use mathlib.Core.Bool.{Bool, true, false, not}
use mathlib.Core.Option.{none, some, none-ne-some, some-injective}
use Prim.Native.Nat.{ℕ, ◌<◌}
use native.Mathlib.Omega.{arith}
use lib.Dec.{T}
use lib.ListN.{length}
use lib.Ieee.{Float, is_nan}
use borrow.Author.Tests.{lt-ltb}
use Rattle.refusal.specs.declared.Refusal.TheVariants as refusal
use Rattle.refusal.specs.Questions.{ask}
use Rattle.refusal.proofs.Questions.{rest_asked}
use Rattle.shot_record.specs.Shots.{Shot, shot}
use Rattle.ranking.specs.declared.Hypothesis.{Hypothesis}
use Rattle.hypothesis.specs.Placements.{placements}
use Rattle.hypothesis.specs.Search.{best}
use Rattle.hypothesis.specs.Accuracy.{Checked}
use Rattle.hypothesis.specs.Inputs.{PassedShot}
use Rattle.hypothesis.proofs.Best.{best_placed}
use Rattle.hypothesis.proofs.Margins.{margin-is-number}
use Rattle.board_match.specs.declared.Match.{Match}
use Rattle.board_match.specs.Questions.{asked_of_shot, asked_before15}
use Rattle.board_match.specs.Match.{margin_with, margin_of, margin_answer, markers_answer, asked_from15, refused_by, match_of}
use Rattle.board_match.specs.Accuracy.{GateRule}
use Rattle.board_match.specs.Corners.{CornersAligned, CornersRule}
use Rattle.board_match.proofs.Order.{shot_goes_on}
use Rattle.board_match.proofs.Sound.{sound}
use Rattle.board_match.proofs.Passing.{passes}
use Rattle.board_match.proofs.Accurately.{of_answer}
use Rattle.std.specs.Prelude.{Option, Result, Some, None, Ok}
use Rattle.refusal.specs.declared.Refusal.{Refusal}

number : (s : Shot) → Checked s → T (not (is_nan (margin_of s)))
unfolding is_nan
number s c = go (best s) refl
  where
    go : (b : Option Hypothesis) → best s ≡ b → T (not (is_nan (margin_with s b)))
    go None e = tt
    go (Some b) e = margin-is-number s c b e

-- from question 16 on
from_16 : (s : Shot) (words : ℕ) → asked_before15 s words ≡ none → 0 < length (placements s)
    → refused_by s words ≡ ask (margin_answer s) (refusal.Margin (margin_of s)) (ask (markers_answer s) refusal.NoMarkers none)
unfolding asked_from15
from_16 s words asked fits =
    rest_asked (asked_of_shot s words) (shot_goes_on s words) (asked_from15 s) asked
    ∙ ap (λ (t : Bool). ask t refusal.TranslationWindow (ask (margin_answer s) (refusal.Margin (margin_of s))
    (ask (markers_answer s) refusal.NoMarkers none))) (lt-ltb 0 (length (placements s)) fits)

not_by_margin : (t : Bool) (m : Float) → ask t refusal.NoMarkers none ≡ some (refusal.Margin m) → ⊥
not_by_margin true m e = none-ne-some (refusal.Margin m) e
not_by_margin false m e =
    let q = some-injective refusal.NoMarkers (refusal.Margin m) e in
    absurd (grind arith)

pub margin_gate : GateRule
margin_gate bytes words small w asked fits =
    let s = shot bytes in
    let f = from_16 s words asked fits in
    record {
      number = number s (passes bytes small w words (sound s words asked)).checked;
      refuses = λ t. f ∙ ap (λ (q : Bool). ask (not q) (refusal.Margin (margin_of s)) (ask (markers_answer s) refusal.NoMarkers none)) t;
      lets_pass = λ t m e.
          not_by_margin (markers_answer s) m
          (sym (ap (λ (q : Bool). ask (not q) (refusal.Margin (margin_of s)) (ask (markers_answer s) refusal.NoMarkers none)) t) ∙ sym f ∙ e);
    }

-- ---- corners
module _ (s : Shot) (p : PassedShot s) (b : Hypothesis) (is : best s ≡ Some b) where
  aligned : (m : Match) → ◌≡◌ {A = (Result Match Refusal)} (Ok (match_of s b)) (Ok m) → CornersAligned m
  aligned m e =
      let same : match_of s b ≡ m = cc in
      subst CornersAligned same (record { are = refl; small = (best_placed s p b is).small })

pub match_corners : CornersRule
match_corners bytes lent small m =
    of_answer bytes lent small (λ a. a ≡ Ok m → CornersAligned m) (λ r e. absurd (grind arith))
    (λ b p. aligned (shot bytes) p.passed b p.is m)
