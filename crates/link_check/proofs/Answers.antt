-- The result of the link entry point and its output array, by the question that fails. Assumes nothing.
use mathlib.Core.Path.{◌≡◌, refl, sym, ap, ap₂, ◌∙◌}
use mathlib.Core.Bool.{Bool, true, false}
use mathlib.Core.List.{List}
use mathlib.Core.Option.{Option, none, some}
use Prim.Native.Nat.{ℕ, ◌*◌, ◌/◌, ◌≤◌}
use native.Mathlib.Omega.{arith}
use lib.Dec.{leb}
use lib.ListN.{length}
use borrow.Author.Tests.{leb-true}
use Rattle.lent_list.specs.Front.{at_exit, Put}
use Rattle.lent_list.proofs.Front.{put_as, put_front}
use Rattle.refusal.specs.declared.Refusal.{Refusal}
use Rattle.refusal.specs.declared.Refusal.TheVariants as refusal
use Rattle.refusal.specs.Questions.{ask}
use Rattle.board.specs.declared.CharucoBoardSpec.{CharucoBoardSpec}
use Rattle.board.specs.declared.Board.{Board}
use Rattle.board.specs.Questions.{board_of, new_board}
use Rattle.board.proofs.Asked.{made, after_made, after_refused}
use Rattle.link_check.specs.declared.LinkCheckMode.{LinkCheckMode}
use Rattle.link_check.specs.Links.{link_count}
use Rattle.link_check.specs.Violations.{Violation, expectation, words_of_violations}
use Rattle.link_check.specs.Entry.{violations_on, asked_from19, links_refused_by, checked_by, check_links, check_links_list}
use Rattle.link_check.proofs.Enough.{enough}
use Rattle.link_check.proofs.Writing.{words-length}
use Rattle.std.specs.Prelude.{Result, Ok, Err}

module _ (spec : CharucoBoardSpec) (codes : List ℕ) (mode : LinkCheckMode) (links lent : List ℕ) where
  -- the contract on the result and the output array
  abbrev pub Promised : Result ℕ Refusal → List ℕ → Type 0
  Promised r list = (r ≡ check_links spec codes mode links lent) × (list ≡ check_links_list spec codes mode links lent)

  abbrev all : List Violation
  all = violations_on (board_of spec) mode links

  by : (o : Option Refusal) → o ≡ links_refused_by spec codes links (length lent) → Promised (checked_by o all) (at_exit o (words_of_violations all) lent)
  by o e = (ap (λ (q : Option Refusal). checked_by q all) e, ap (λ (q : Option Refusal). at_exit q (words_of_violations all) lent) e)

  pub board-refused : (r : Refusal) → new_board spec codes ≡ Err r → Promised (Err r) lent
  board-refused r e = by (some r) (sym (after_refused spec codes (asked_from19 links (length lent)) r e))

  module _ (b : Board) (is_made : new_board spec codes ≡ Ok b) where
    asked : (few long : Bool) → leb (link_count links) 4096 ≡ few → leb (36 * link_count links) (length lent) ≡ long
        → ask few refusal.TooManyLinks (ask long refusal.ListTooShort none) ≡ links_refused_by spec codes links (length lent)
    unfolding asked_from19
    asked few long e f =
        sym
        (after_made spec codes (asked_from19 links (length lent)) b is_made
        ∙ ap₂ (λ (a c : Bool). ask a refusal.TooManyLinks (ask c refusal.ListTooShort none)) e f)

    pub too_many : leb (link_count links) 4096 ≡ false → Promised (Err refusal.TooManyLinks) lent
    too_many e = by (some refusal.TooManyLinks) (asked false (leb (36 * link_count links) (length lent)) e refl)

    pub too_short : leb (link_count links) 4096 ≡ true → leb (36 * link_count links) (length lent) ≡ false
        → Promised (Err refusal.ListTooShort) lent
    too_short e f = by (some refusal.ListTooShort) (asked true false e f)

    pub all_checked : (after : List ℕ) (end : ℕ) → leb (link_count links) 4096 ≡ true → leb (36 * link_count links) (length lent) ≡ true
        → Put lent after 0 end (words_of_violations (violations_on b mode links)) → Promised (Ok (end / 12)) after
    all_checked after end e f p =
        let p' = by none (asked true true e f) in
        let q = put_as (ap (λ (c : Board). words_of_violations (violations_on c mode links)) (made spec codes b is_made).1) p in
        let few = enough links (link_count links) mode (expectation (board_of spec)) in
        let count : end / 12 ≡ length all = omega (arith, q.end, words-length all) in
        let fits : end ≤ length lent = omega (arith, q.end, words-length all, few, leb-true (36 * link_count links) (length lent) f) in
        (ap Ok count ∙ p'.0, put_front fits q ∙ p'.1)
