-- The questions one by one, and the output array on a refusal and on success. Assumes nothing.
use mathlib.Core.Path.{◌≡◌, refl, sym, ap, ap₂, ◌∙◌}
use mathlib.Core.Bool.{Bool}
use mathlib.Core.List.{List}
use mathlib.Core.Option.{Option, none, some}
use Prim.Native.Nat.{ℕ, ◌≤◌}
use native.Mathlib.Omega.{arith}
use lib.Dec.{leb}
use lib.ListN.{length}
use borrow.Author.Tests.{leb-true}
use Rattle.refusal.specs.declared.Refusal.{Refusal}
use Rattle.refusal.specs.declared.Refusal.TheVariants as refusal
use Rattle.refusal.specs.Questions.{ask}
use Rattle.refusal.proofs.Questions.{answered}
use Rattle.lent_list.specs.Front.{at_exit}
use Rattle.lent_list.proofs.Front.{front_length}
use Rattle.board.specs.declared.Board.{Board}
use Rattle.board.specs.Questions.{board_of, new_board}
use Rattle.board.proofs.Asked.{made, after_made, after_refused}
use Rattle.board.proofs.Asked as board
use Rattle.shot_record.specs.Shots.{Shot, shot, parse}
use Rattle.shot_record.specs.Answers.{spec_of}
use Rattle.shot_record.proofs.Whole.{Whole, parse-whole}
use Rattle.legacy_record.specs.Restating.{restated_bytes, sides_answer, asked_from25, restate_refused_by, converted_by, restated_shot, restate_answer}
use Rattle.legacy_record.specs.Restating.{restated_left, restate_list}
use Rattle.legacy_record.specs.Rules.{WrittenFits}
use Rattle.std.specs.Prelude.{Result, Ok, Err}

-- ---- questions 25 and 14
module _ (board : Board) (size : ℕ) (sheet lent : List ℕ) where
  abbrev last : Option Refusal
  last = asked_from25 board size (length lent)

  pub asked : (a b : Bool) → sides_answer board ≡ a → leb size (length lent) ≡ b → last ≡ ask a refusal.EvenLegacyBoard (ask b refusal.ListTooShort none)
  unfolding asked_from25
  asked a b e f = ap₂ (λ (p q : Bool). ask p refusal.EvenLegacyBoard (ask q refusal.ListTooShort none)) e f

  pub told : (o : Option Refusal) → last ≡ o → (converted_by o size ≡ converted_by last size) × (at_exit o sheet lent ≡ at_exit last sheet lent)
  told o e = (sym (ap (λ (q : Option Refusal). converted_by q size) e), sym (ap (λ (q : Option Refusal). at_exit q sheet lent) e))

-- ---- all of them
module _ (bytes lent : List ℕ) where
  abbrev Promised : Result ℕ Refusal → List ℕ → Type 0
  Promised r after = (r ≡ restate_answer bytes lent) × (after ≡ restate_list bytes lent)

  pub not_whole : parse bytes ≡ none → Promised (Err refusal.InvalidRecord) lent
  not_whole e =
      (sym (ap (λ (o : Option Shot). restated_shot o (length bytes) (length lent)) e), sym (ap (λ (o : Option Shot). restated_left bytes o lent) e))

  module _ (w : Whole bytes) where
    abbrev s : Shot
    s = shot bytes

    -- the board that question 25 is about
    abbrev after_board : Board → Option Refusal
    after_board b = asked_from25 b (length bytes) (length lent)

    by : (o : Option Refusal) → restate_refused_by s (length bytes) (length lent) ≡ o → Promised (converted_by o (length bytes)) (at_exit o (restated_bytes bytes s) lent)
    by o e =
        let p = parse-whole bytes w in (
          sym (ap (λ (x : Option Shot). restated_shot x (length bytes) (length lent)) p ∙ ap (λ (q : Option Refusal). converted_by q (length bytes)) e),
          sym (ap (λ (x : Option Shot). restated_left bytes x lent) p ∙ ap (λ (q : Option Refusal). at_exit q (restated_bytes bytes s) lent) e),
        )

    pub on-board : (b : Board) (r : Result ℕ Refusal) (after : List ℕ) → new_board (spec_of s) s.codes ≡ Ok b
        → r ≡ converted_by (after_board b) (length bytes) → after ≡ at_exit (after_board b) (restated_bytes bytes s) lent → Promised r after
    on-board b r after e f g =
        let is = (made (spec_of s) s.codes b e).1 in
        let p = by (after_board (board_of (spec_of s))) (after_made (spec_of s) s.codes (after_board (board_of (spec_of s))) b e) in (
          f ∙ ap (λ (c : Board). converted_by (after_board c) (length bytes)) is ∙ p.0,
          g ∙ ap (λ (c : Board). at_exit (after_board c) (restated_bytes bytes s) lent) is ∙ p.1,
        )

    pub no_board : (r : Refusal) → new_board (spec_of s) s.codes ≡ Err r → Promised (Err r) lent
    no_board r e = by (some r) (after_refused (spec_of s) s.codes (after_board (board_of (spec_of s))) r e)

-- ---- a record that was written
pub written_fits : WrittenFits
unfolding asked_from25
written_fits bytes lent count = of_parse (parse bytes)
  where
    of_refusal : (s : Shot) (o : Option Refusal) → restate_refused_by s (length bytes) (length lent) ≡ o → converted_by o (length bytes) ≡ Ok count
        → (count ≡ length bytes) × (count ≤ length lent)
    of_refusal s (some r) e f = let z : ◌≡◌ {A = ℕ} 0 1 = cc in absurd (omega arith)
    of_refusal s none e f =
        let rest = (board.asked (spec_of s) s.codes _ e).1 in
        let room = (answered (leb (length bytes) (length lent)) _ _ (answered (sides_answer (board_of (spec_of s))) _ _ rest).1).0 in
        let is : count ≡ length bytes = cc in
        (is, omega (arith, is, leb-true (length bytes) (length lent) room))

    of_parse : (o : Option Shot) → restated_shot o (length bytes) (length lent) ≡ Ok count → (count ≡ length bytes) × (count ≤ length lent)
    of_parse none e = let z : ◌≡◌ {A = ℕ} 0 1 = cc in absurd (omega arith)
    of_parse (some s) e = of_refusal s (restate_refused_by s (length bytes) (length lent)) refl e

-- the length of the output array stays
pub same-room : (bytes lent : List ℕ) → length (restate_list bytes lent) ≡ length lent
same-room bytes lent = of_parse (parse bytes)
  where
    of_refusal : (o : Option Refusal) (sheet : List ℕ) → length (at_exit o sheet lent) ≡ length lent
    of_refusal none sheet = front_length sheet lent
    of_refusal (some r) sheet = refl

    of_parse : (o : Option Shot) → length (restated_left bytes o lent) ≡ length lent
    of_parse none = refl
    of_parse (some s) = of_refusal (restate_refused_by s (length bytes) (length lent)) (restated_bytes bytes s)
