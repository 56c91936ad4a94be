-- The board of a restated record passes questions 1 to 8 and 22 again. Assumes nothing.
use mathlib.Core.Path.{◌≡◌, refl, sym, ap, ap₂, ◌∙◌}
use mathlib.Core.Logic.{◌⊎◌, inl, inr}
use mathlib.Core.Bool.{Bool, true, false, not, cond}
use mathlib.Core.List.{List}
use mathlib.Core.Option.{Option, none}
use Prim.Native.Nat.{ℕ, ◌≤◌}
use native.Mathlib.Omega.{arith}
use lib.ListN.{length}
use Rattle.refusal.specs.declared.Refusal.{Refusal}
use Rattle.refusal.specs.declared.Refusal.TheVariants as refusal
use Rattle.refusal.specs.Questions.{ask}
use Rattle.refusal.proofs.Questions.{answered}
use Rattle.alike.specs.Alike.{two_alike}
use Rattle.board.specs.declared.Board.{Board}
use Rattle.board.specs.Layout.{marker_total}
use Rattle.board.specs.Questions.{board_of, codes_answer, apart_answer, asked_of_size, asked_of_board}
use Rattle.board.proofs.Laws.{same_count}
use Rattle.board.proofs.Asked.{asked, sized}
use Rattle.shot_record.specs.Shots.{Shot}
use Rattle.shot_record.specs.Answers.{spec_of}
use Rattle.legacy_record.specs.Restated.{layout_differs, reversed_codes, reversed_on, reversed_count, restated}
use Rattle.legacy_record.proofs.Codes.{reversed_length, reversed_in_range, reversed_apart, none_reversed}

-- ---- how many codes are reversed: all that markers use, or none
pub either : (b : Board) → (reversed_on b ≡ marker_total b) ⊎ (reversed_on b ≡ 0)
either b = go (layout_differs b)
  where
    go : (t : Bool) → (cond t (marker_total b) 0 ≡ marker_total b) ⊎ (cond t (marker_total b) 0 ≡ 0)
    go true = inl refl
    go false = inr refl

pub at_most : (s : Shot) (rest : Option Refusal) → asked_of_board (spec_of s) s.codes rest ≡ none → reversed_count s ≤ length s.codes
at_most s rest e = go (either (board_of (spec_of s)))
  where
    go : (reversed_count s ≡ marker_total (board_of (spec_of s))) ⊎ (reversed_count s ≡ 0) → reversed_count s ≤ length s.codes
    go (inl all) = omega (arith, all, (asked (spec_of s) s.codes rest e).0.sized.enough)
    go (inr none_is) = omega (arith, none_is)

-- ---- the board's questions again
module _ (s : Shot) (e : asked_of_board (spec_of s) s.codes none ≡ none) where
  abbrev n : ℕ
  n = reversed_count s

  abbrev codes : List ℕ
  codes = reversed_codes s.bits n s.codes

  same_total : marker_total (board_of (spec_of (restated s))) ≡ marker_total (board_of (spec_of s))
  same_total = same_count (board_of (spec_of (restated s))) ∙ sym (same_count (board_of (spec_of s)))

  same_length : length codes ≡ length s.codes
  same_length = reversed_length s.bits n s.codes (at_most s none e)

  apart : two_alike s.bits codes (marker_total (board_of (spec_of s))) ≡ false
  apart = go (either (board_of (spec_of s)))
    where
      old : two_alike s.bits s.codes (marker_total (board_of (spec_of s))) ≡ false
      old = (asked (spec_of s) s.codes none e).0.apart

      go : (n ≡ marker_total (board_of (spec_of s))) ⊎ (n ≡ 0) → two_alike s.bits codes (marker_total (board_of (spec_of s))) ≡ false
      go (inl all) =
          ap (two_alike s.bits codes) (sym all)
          ∙ reversed_apart s.bits n s.codes (ap (two_alike s.bits s.codes) all ∙ old)
      go (inr none_is) =
          ap (λ (l : List ℕ). two_alike s.bits l (marker_total (board_of (spec_of s))))
          (ap (λ (k : ℕ). reversed_codes s.bits k s.codes) none_is ∙ none_reversed s.bits s.codes) ∙ old

  size_again : (rest : Option Refusal) → asked_of_size (spec_of (restated s)) (length codes) rest ≡ asked_of_size (spec_of s) (length s.codes) rest
  unfolding asked_of_size
  size_again rest = rw (same_total, same_length) refl

  pub board_again : asked_of_board (spec_of (restated s)) codes none ≡ none
  unfolding asked_of_board
  board_again =
      let q7 = sized (spec_of s) (length s.codes) _ e in
      let q8 = answered (codes_answer s.bits s.codes) _ _ q7.1 in
      size_again _
      ∙ ap (asked_of_size (spec_of s) (length s.codes))
      (ap₂ (λ (x y : Bool). ask x refusal.CodeOutOfRange (ask y refusal.CodesAlike none)) (reversed_in_range s.bits n s.codes q8.0)
      (ap not (ap (two_alike s.bits codes) same_total ∙ apart))
      ∙ sym (ap₂ (λ (x y : Bool). ask x refusal.CodeOutOfRange (ask y refusal.CodesAlike none)) q8.0 (answered (apart_answer (board_of (spec_of s)) s.codes) _ _ q8.1).0))
      ∙ e
