-- The mapped corners: the results in reverse order, and the words of each. Assumes nothing.
use mathlib.Core.Path.{◌≡◌, refl, sym, ap, ◌∙◌}
use mathlib.Core.List.{List, [], ◌∷◌, ◌++◌, map, reverse, append-nil, append_assoc, reverse-append}
use mathlib.Core.Option.{Option as Maybe, none, some}
use Prim.Native.Nat.{ℕ, zero, suc, ◌-◌, ◌*◌, ◌<◌}
use native.Mathlib.Omega.{arith}
use lib.IntN.{ℤ}
use lib.Ieee.{Float}
use Rattle.grid_alignment.specs.declared.GridAlignment.{GridAlignment}
use Rattle.board.specs.Numbering.{position}
use Rattle.board.specs.Layout.{corner_count, corner_place, scaled_point}
use Rattle.board.proofs.Laws.{corners}
use Rattle.board.proofs.Corners.{corner-total}
use Rattle.lent_list.specs.Front.{up_to}
use Rattle.lent_list.proofs.Front.{up_to_as}
use Rattle.shot_record.specs.Shots.{Shot}
use Rattle.corner_mapping.specs.Corners.{Input, MappedCorner, chosen, mapped_if, mapped_by, place_words, target_words}
use Rattle.corner_mapping.specs.Entry.{input}
use Rattle.hypothesis.specs.Evidence.{board_in}
use Rattle.legacy_record.specs.Restated.{restated}
use Rattle.half_turn.specs.Corners.{paired_corners, paired_mapped, MappedRule, CornerWordsRule}
use Rattle.half_turn.proofs.HalfTurn.{corner_goes}
use Rattle.half_turn.proofs.CodedCells.{map-up_to}
use Rattle.half_turn.proofs.Mapped.{chosen_rule}
use Rattle.std.specs.Prelude.{Option, Some}
use Rattle.board.specs.declared.Position.{Position}

-- ---- a list built from f 0 to f (n − 1), in reverse
module _ {A : Type 0} where
  up_to_front : (g : ℕ → List A) (n : ℕ) → up_to g (suc n) ≡ g 0 ++ up_to (λ (k : ℕ). g (suc k)) n
  unfolding up_to
  up_to_front g zero = sym (append-nil (g 0))
  up_to_front g (suc n) =
      ap (λ (l : List A). l ++ g (suc n)) (up_to_front g n) ∙ append_assoc (g 0) (up_to (λ (k : ℕ). g (suc k)) n) (g (suc n))

  reverse-up_to : (f : ℕ → List A) (n : ℕ) → reverse (up_to f n) ≡ up_to (λ (k : ℕ). reverse (f (n - 1 - k))) n
  unfolding up_to
  reverse-up_to f zero = refl
  reverse-up_to f (suc n) =
      let g : ℕ → List A = λ k. reverse (f (suc n - 1 - k)) in
      let last : n ≡ suc n - 1 - 0 = omega arith in
      reverse-append (up_to f n) (f n)
      ∙ ap (λ (l : List A). reverse (f n) ++ l) (reverse-up_to f n
      ∙ up_to_as (λ (k : ℕ). reverse (f (n - 1 - k))) (λ (k : ℕ). g (suc k)) n (λ k h. ap (λ (j : ℕ). reverse (f j)) (omega arith)))
      ∙ ap (λ (j : ℕ). reverse (f j) ++ up_to (λ (k : ℕ). g (suc k)) n) last
      ∙ sym (up_to_front g n)

module _ (s : Shot) (a : GridAlignment) (scores : List Float) (grid : List ℤ) where
  abbrev C : ℕ
  C = corner_count s.rows s.cols

  abbrev old : Input
  old = input (board_in s) a scores grid

  abbrev new : Input
  new = input (board_in (restated s)) (paired_corners (board_in s) a) scores grid

  abbrev pair : MappedCorner → MappedCorner
  pair = paired_mapped (board_in s)

  -- at most one result for an id
  one : (o : Maybe ℕ) (id k : ℕ) → C - 1 - id ≡ k → mapped_if k o ≡ reverse (map pair (mapped_if id o))
  one none id k e = refl
  one (some j) id k e = ap (λ (n : ℕ). record { id = n; index = j } ∷ []) (sym e)

  at-id : (k : ℕ) → k < C → mapped_by (chosen new) k ≡ reverse (map pair (mapped_by (chosen old) (C - 1 - k)))
  at-id k h =
      let from_last : C - 1 - (C - 1 - k) ≡ k = omega (arith, h) in
      ap (mapped_if k) (ap (chosen new) (sym from_last) ∙ chosen_rule s a scores grid (C - 1 - k) (omega (arith, h)))
      ∙ one (chosen old (C - 1 - k)) (C - 1 - k) k from_last

  results : up_to (mapped_by (chosen new)) C ≡ reverse (map pair (up_to (mapped_by (chosen old)) C))
  results =
      up_to_as (mapped_by (chosen new)) (λ (k : ℕ). reverse (map pair (mapped_by (chosen old) (C - 1 - k)))) C at-id
      ∙ sym (reverse-up_to (λ (k : ℕ). map pair (mapped_by (chosen old) k)) C)
      ∙ ap reverse (sym (map-up_to pair (mapped_by (chosen old)) C))

pub mapped_rule : MappedRule
mapped_rule s a scores grid = results s a scores grid

-- ---- the words
opposite_place : (rows cols c i j : ℕ) → corner_place rows cols c ≡ Some (position i j)
    → corner_place rows cols (corner_count rows cols - 1 - c) ≡ Some (position (cols - i) (rows - j))
opposite_place rows cols c i j e =
    let g = corner_goes rows cols i j c ((corners rows cols).id_of_lem i j c e) in
    ap (λ (n : ℕ). corner_place rows cols (n - 1 - c)) (corner-total rows cols)
    ∙ (corners rows cols).place_of (cols - i) (rows - j) ((rows - 1) * (cols - 1) - 1 - c) g.number

pub corner_words_lem : CornerWordsRule
corner_words_lem s m i j e =
    let size = (board_in s).cell_size in
    let id = corner_count s.rows s.cols - 1 - m.id in
    ap (λ (l : Option Position). id ∷ m.index ∷ place_words l ++ target_words (scaled_point size l)) (opposite_place s.rows s.cols m.id i j e)
