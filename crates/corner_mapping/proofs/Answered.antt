-- The questions one by one, and the output array on a refusal and on success. Assumes nothing.
use mathlib.Core.Path.{◌≡◌, sym, ap, ap₂, ◌∙◌}
use mathlib.Core.Bool.{Bool, true}
use mathlib.Core.List.{List}
use mathlib.Core.Option.{Option, none, some}
use Prim.Native.Nat.{ℕ, ◌*◌, ◌/◌, ◌≤◌}
use native.Mathlib.Omega.{arith}
use lib.Dec.{leb, ltb}
use lib.IntN.{ℤ}
use lib.ListN.{length}
use lib.Ieee.{Float}
use Rattle.integers.specs.Distance.{is_within}
use Rattle.integers.proofs.Distances.{within_abs}
use Rattle.refusal.specs.declared.Refusal.{Refusal}
use Rattle.refusal.specs.declared.Refusal.TheVariants as refusal
use Rattle.refusal.specs.Questions.{ask}
use Rattle.integers.proofs.Tests.{both}
use Rattle.grid_alignment.specs.declared.GridAlignment.{GridAlignment}
use Rattle.board.specs.declared.Board.{Board}
use Rattle.board.specs.declared.CharucoBoardSpec.{CharucoBoardSpec}
use Rattle.board.specs.Questions.{board_of, new_board}
use Rattle.board.proofs.Asked.{made, after_made, after_refused}
use Rattle.board.specs.Layout.{corner_count}
use Rattle.marker_sampling.specs.Entry.{corners_answer}
use Rattle.marker_sampling.proofs.Answered.{placed-corners}
use Rattle.lent_list.specs.Front.{at_exit, up_to, Put}
use Rattle.lent_list.proofs.Front.{put_as, put_front, up_to_as}
use Rattle.corner_mapping.specs.Corners.{Input, mapped_if, mapped_by, chosen, mapped, words_of_corners}
use Rattle.corner_mapping.specs.Entry.{corner_range_answer, asked_from18, input, corners_refused_by, answered_by, mapped_on, list_on, map_corners, map_corners_list}
use Rattle.corner_mapping.specs.Inner.{InputInRange, stored, ChoicesHeld}
use Rattle.corner_mapping.proofs.Writing.{words-length, enough}
use Rattle.std.specs.Prelude.{Result, Ok, Err}

module _ (x : Input) where
  abbrev pub count : ℕ
  count = corner_count x.board.rows x.board.cols

  -- what question 18 implies
  pub ranged : x.board.rows ≤ 32 → x.board.cols ≤ 32 → corner_range_answer x.scores x.grid x.alignment ≡ true → InputInRange x
  ranged r c e =
      let a = x.alignment in
      let h = both (corners_answer x.scores x.grid) _ e in
      let p = placed-corners x.scores x.grid h.0 in
      let t = both (is_within 8192 a.tx) _ (both (ltb a.turn 4) _ h.1).1 in
      record { rows = r; cols = c; few = p.0; all_placed = p.1; tx = within_abs 8192 a.tx t.0; ty = within_abs 8192 a.ty t.1 }

  module _ (lent : List ℕ) where
    -- the results of the two questions, in order
    pub asked : (a b : Bool) → corner_range_answer x.scores x.grid x.alignment ≡ a → leb (6 * count) (length lent) ≡ b
        → asked_from18 x (length lent) ≡ ask a refusal.CornersOutOfRange (ask b refusal.ListTooShort none)
    unfolding asked_from18
    asked a b e f = ap₂ (λ (p q : Bool). ask p refusal.CornersOutOfRange (ask q refusal.ListTooShort none)) e f

    pub refused : (r : Refusal) → asked_from18 x (length lent) ≡ some r → (Err r ≡ mapped_on x lent) × (lent ≡ list_on x lent)
    refused r e =
        (sym (ap (λ (o : Option Refusal). answered_by o x) e), sym (ap (λ (o : Option Refusal). at_exit o (words_of_corners x.board (mapped x)) lent) e))

    -- the choices among all corners, written
    pub mapped_all : (end : ℕ) (choices after : List ℕ) → asked_from18 x (length lent) ≡ none → 6 * count ≤ length lent → count ≤ 1024
        → ChoicesHeld x (length x.scores) choices → Put lent after 0 end (words_of_corners x.board (up_to (mapped_by (stored choices)) count))
        → (Ok (end / 6) ≡ mapped_on x lent) × (after ≡ list_on x lent)
    mapped_all end choices after e room few h p =
        let same : up_to (mapped_by (stored choices)) count ≡ mapped x =
        up_to_as (mapped_by (stored choices)) (mapped_by (chosen x)) count (λ id i. ap (mapped_if id) (h.at id (omega (arith, i, few)))) in
        let q = put_as (ap (words_of_corners x.board) same) p in
        let size : end / 6 ≡ length (mapped x) = omega (arith, q.end, words-length x.board (mapped x)) in
        let fits : end ≤ length lent = omega (arith, q.end, enough x.board (chosen x) count, room) in (
          ap Ok size ∙ sym (ap (λ (o : Option Refusal). answered_by o x) e),
          put_front fits q ∙ sym (ap (λ (o : Option Refusal). at_exit o (words_of_corners x.board (mapped x)) lent) e),
        )

-- ---- the board's questions
-- a board that was made is small
pub small-board : (spec : CharucoBoardSpec) (codes : List ℕ) (b : Board) → new_board spec codes ≡ Ok b → (b.rows ≤ 32) × (b.cols ≤ 32)
small-board spec codes b e =
    let q = made spec codes b e in
    let r = q.0.sized.in_range in
    rw q.1 (r.rows, r.cols)

module _ (spec : CharucoBoardSpec) (codes : List ℕ) (scores : List Float) (grid : List ℤ) (a : GridAlignment) (lent : List ℕ) where
  abbrev Promised : Result ℕ Refusal → List ℕ → Type 0
  Promised r after = (r ≡ map_corners spec codes scores grid a lent) × (after ≡ map_corners_list spec codes scores grid a lent)

  abbrev from : Input
  from = input (board_of spec) a scores grid

  by : (o : Option Refusal) → o ≡ corners_refused_by spec codes from (length lent)
      → Promised (answered_by o from) (at_exit o (words_of_corners (board_of spec) (mapped from)) lent)
  by o e = (ap (λ (q : Option Refusal). answered_by q from) e, ap (λ (q : Option Refusal). at_exit q (words_of_corners (board_of spec) (mapped from)) lent) e)

  pub on-board : (b : Board) (r : Result ℕ Refusal) (after : List ℕ) → new_board spec codes ≡ Ok b → r ≡ mapped_on (input b a scores grid) lent
      → after ≡ list_on (input b a scores grid) lent → Promised r after
  on-board b r after e f g =
      let is = (made spec codes b e).1 in
      let p = by (asked_from18 from (length lent)) (sym (after_made spec codes (asked_from18 from (length lent)) b e)) in (
        f ∙ ap (λ (c : Board). mapped_on (input c a scores grid) lent) is ∙ p.0,
        g ∙ ap (λ (c : Board). list_on (input c a scores grid) lent) is ∙ p.1,
      )

  pub no_board : (r : Refusal) → new_board spec codes ≡ Err r → Promised (Err r) lent
  no_board r e = by (some r) (sym (after_refused spec codes (asked_from18 from (length lent)) r e))
