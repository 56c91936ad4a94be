-- The questions of the cells entry point one by one, and the output array on a refusal and on success. Assumes nothing.
use mathlib.Core.Path.{◌≡◌, sym, ap, ap₂, ◌∙◌}
use mathlib.Core.Bool.{Bool, true, ◌&&◌}
use mathlib.Core.List.{List}
use mathlib.Core.Option.{Option, none, some}
use Prim.Native.Nat.{ℕ, ◌*◌, ◌≤◌}
use native.Mathlib.Omega.{arith}
use lib.Dec.{leb}
use lib.IntN.{ℤ}
use lib.ListN.{length, take}
use lib.Ieee.{Float}
use borrow.Author.Tests.{leb-true}
use Rattle.lent_list.specs.Front.{at_exit, Put}
use Rattle.lent_list.proofs.Front.{put_as, put_front, front_taken}
use Rattle.refusal.specs.declared.Refusal.{Refusal}
use Rattle.refusal.specs.declared.Refusal.TheVariants as refusal
use Rattle.refusal.specs.Questions.{ask}
use Rattle.marker_sampling.specs.Cells.{words_of_cells}
use Rattle.marker_sampling.specs.Entry.{corners, placed, corners_answer, cells_of, cells_refused_by, found_by, marker_cells, marker_cells_list}
use Rattle.marker_sampling.specs.Keys.{Collected}
use Rattle.integers.specs.Tests.{every}
use Rattle.integers.proofs.Tests.{both}
use Rattle.marker_sampling.proofs.Passing.{words-length}
use Rattle.std.specs.Prelude.{Ok, Err}

-- what question 18 implies
pub placed-corners : (scores : List Float) (grid : List ℤ) → corners_answer scores grid ≡ true → (length scores ≤ 1024)
    × (every (placed 4096 (corners scores grid)) (length scores) ≡ true)
placed-corners scores grid e =
    let h = both (leb (length scores) 1024) _ e in
    (leb-true (length scores) 1024 h.0, (both (every (placed 4096 (corners scores grid)) (length scores)) _ h.1).0)

module _ (scores : List Float) (grid : List ℤ) (inliers : List ℕ) (lent : List ℤ) where
  -- the results of the three questions, in order
  pub asked : (a b d : Bool) → (corners_answer scores grid && leb (length inliers) 1024) ≡ a → leb 1536 (length lent) ≡ b
      → leb (length (cells_of scores grid inliers)) 256 ≡ d
      → cells_refused_by scores grid inliers lent ≡ ask a refusal.CornersOutOfRange (ask b refusal.ListTooShort (ask d refusal.TooManyCells none))
  unfolding cells_refused_by
  asked a b d e f g i = ask (e i) refusal.CornersOutOfRange (ask (f i) refusal.ListTooShort (ask (g i) refusal.TooManyCells none))

  pub refused : (r : Refusal) → cells_refused_by scores grid inliers lent ≡ some r → (Err r ≡ marker_cells scores grid inliers lent)
      × (lent ≡ marker_cells_list scores grid inliers lent)
  refused r e = (
    sym (ap (λ (o : Option Refusal). found_by o (length (cells_of scores grid inliers))) e),
    sym (ap (λ (o : Option Refusal). at_exit o (words_of_cells (corners scores grid) inliers (cells_of scores grid inliers)) lent) e),
  )

  -- the words of at most 256 cells, at the start of the array
  pub found_all : (n : ℕ) {end : ℕ} {buffer results after : List ℤ} → cells_refused_by scores grid inliers lent ≡ none → 1536 ≤ length lent → n ≤ 256
      → length buffer ≡ 1536 → Collected 4096 (corners scores grid) inliers 67125249 buffer results n → Put lent after 0 end (take (6 * n) results)
      → (Ok n ≡ marker_cells scores grid inliers lent) × (after ≡ marker_cells_list scores grid inliers lent)
  found_all n {end} {buffer} {results} e room l long h p =
      let all = words_of_cells (corners scores grid) inliers (cells_of scores grid inliers) in
      let size : 6 * n ≡ length all = omega (arith, words-length (corners scores grid) inliers (cells_of scores grid inliers), h.count) in
      let read : take (6 * n) results ≡ all = ap₂ take size h.list ∙ front_taken all buffer (omega (arith, size, l, long)) in
      let q = put_as read p in (
        ap Ok h.count ∙ sym (ap (λ (o : Option Refusal). found_by o (length (cells_of scores grid inliers))) e),
        put_front (omega (arith, q.end, size, l, room)) q ∙ sym (ap (λ (o : Option Refusal). at_exit o all lent) e),
      )
