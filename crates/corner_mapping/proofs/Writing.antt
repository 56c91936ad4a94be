-- The words of the results, and those written for one id. Assumes nothing.
use mathlib.Core.Path.{◌≡◌, refl, sym, ap, ap₂, ◌∙◌}
use mathlib.Core.List.{List, ◌∷◌, ◌++◌, append-nil, flat_map}
use mathlib.Core.Option.{Option as Maybe, none, some}
use Prim.Native.Nat.{ℕ, zero, suc, ◌-◌, ◌*◌, ◌≤◌, ◌<◌}
use native.Mathlib.Omega.{arith}
use lib.ListN.{length}
use Rattle.board.specs.declared.Board.{Board}
use Rattle.board.specs.Layout.{corner_place, object_point}
use Rattle.lent_list.specs.Front.{up_to, Put}
use Rattle.lent_list.proofs.Front.{nothing_put, up_to-most, flat_map_length}
use Rattle.corner_mapping.specs.Corners.{MappedCorner, mapped_if, mapped_by, place_words, target_words, corner_words, words_of_corners}
use Rattle.corner_mapping.specs.Inner.{choice_of}
use Rattle.std.specs.Prelude.{Option, Some, None}
use Rattle.board.specs.declared.ObjectPoint.{ObjectPoint}
use Rattle.board.specs.declared.Position.{Position}

abbrev result : ℕ → ℕ → MappedCorner
result id k = record { id = id; index = k }

module _ (b : Board) where
  pub words_are : (id k : ℕ) (l : Option Position) (o : Option ObjectPoint) → l ≡ corner_place b.rows b.cols id
      → o ≡ object_point b.rows b.cols b.cell_size id → id ∷ k ∷ place_words l ++ target_words o ≡ corner_words b (result id k)
  words_are id k l o e f = ap₂ (λ (p : Option Position) (q : Option ObjectPoint). id ∷ k ∷ place_words p ++ target_words q) e f

  six : (l : Option Position) (o : Option ObjectPoint) → length (place_words l ++ target_words o) ≡ 4
  six (Some p) (Some q) = refl
  six (Some p) None = refl
  six None (Some q) = refl
  six None None = refl

  pub words-length : (ms : List MappedCorner) → length (words_of_corners b ms) ≡ 6 * length ms
  words-length ms =
      flat_map_length (corner_words b) 6
      (λ m. omega (arith, six (corner_place b.rows b.cols m.id) (object_point b.rows b.cols b.cell_size m.id))) ms

  -- six words for each id are enough
  pub enough : (choice : ℕ → Maybe ℕ) (n : ℕ) → length (words_of_corners b (up_to (mapped_by choice) n)) ≤ 6 * n
  enough choice n = omega (arith, words-length (up_to (mapped_by choice) n), up_to-most (mapped_by choice) 1 n (λ id h. at_most_one id (choice id)))
    where
      at_most_one : (id : ℕ) (o : Maybe ℕ) → length (mapped_if id o) ≤ 1
      at_most_one id none = omega arith
      at_most_one id (some k) = omega arith

  -- ---- one id
  pub none_put : (id n c : ℕ) (l : List ℕ) → c ≡ 0 → Put l l n n (words_of_corners b (mapped_if id (choice_of c)))
  unfolding flat_map
  none_put id n zero l e = nothing_put l n
  none_put id n (suc c) l e = absurd (omega arith)

  pub words_put : (id c : ℕ) (ws : List ℕ) → 0 < c → ws ≡ corner_words b (result id (c - 1)) → ws ≡ words_of_corners b (mapped_if id (choice_of c))
  unfolding flat_map
  words_put id zero ws h e = absurd (omega arith)
  words_put id (suc c) ws h e =
      let q : suc c - 1 ≡ c = omega arith in
      e ∙ ap (λ (k : ℕ). corner_words b (result id k)) q ∙ sym (append-nil _)
