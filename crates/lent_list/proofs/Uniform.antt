-- A concatenation of n lists of equal length: its length, and its element at an index. And an array by its elements is the one with the results at its
-- start. Assumes nothing.
use mathlib.Core.Path.{◌≡◌, refl, sym, ap, ◌∙◌}
use mathlib.Core.Logic.{◌⊎◌, inl, inr}
use mathlib.Core.Bool.{Bool, true, false}
use mathlib.Core.List.{List, ◌++◌}
use Prim.Native.Nat.{ℕ, zero, suc, ◌+◌, ◌-◌, ◌*◌, ◌≤◌, ◌<◌}
use native.Mathlib.Nat.{eq-or-lt_of_le, le_of_suc-le-suc}
use native.Mathlib.Omega.{arith}
use lib.Arith.{digits_lt}
use lib.Dec.{ltb}
use lib.ListN.{length, get_or, drop, length-append, get_or-append}
use lib.Seq.{get_or-append-add, get_or-drop, ext_get_or}
use borrow.Author.Tests.{ltb-true, ltb-false}
use Rattle.lent_list.specs.Front.{in_front, up_to}
use Rattle.lent_list.proofs.Front.{front_is, front_length}

module _ {A : Type 0} (f : ℕ → List A) (w : ℕ) (each : (k : ℕ) → length (f k) ≡ w) where
  pub up_to-length : (n : ℕ) → length (up_to f n) ≡ n * w
  unfolding up_to
  up_to-length zero = omega arith
  up_to-length (suc n) = length-append (up_to f n) (f n) ∙ omega (arith, up_to-length n, each n)

  pub up_to-at : (d : A) (n k j : ℕ) → k < n → j < w → get_or (up_to f n) (k * w + j) d ≡ get_or (f k) j d
  unfolding up_to
  up_to-at d zero k j h l = absurd (omega arith)
  up_to-at d (suc n) k j h l = go (eq-or-lt_of_le (le_of_suc-le-suc h)) (up_to-at d n k j)
    where
      go : (k ≡ n) ⊎ (k < n) → (k < n → j < w → get_or (up_to f n) (k * w + j) d ≡ get_or (f k) j d)
          → get_or (up_to f n ++ f n) (k * w + j) d ≡ get_or (f k) j d
      go (inl e) ih =
          let place : k * w + j ≡ length (up_to f n) + j = omega (arith, up_to-length n, ap (λ (x : ℕ). x * w) e) in
          ap (λ (i : ℕ). get_or (up_to f n ++ f n) i d) place ∙ get_or-append-add (up_to f n) (f n) j d ∙ ap (λ (x : ℕ). get_or (f x) j d) (sym e)
      go (inr b) ih =
          let low : k * w + j < length (up_to f n) = omega (arith, up_to-length n, digits_lt b l) in
          get_or-append (up_to f n) (f n) d (k * w + j) low ∙ ih b l

-- the first elements are the results, and the others are unchanged
pub in_front_lem : {A : Type 0} (d : A) (results lent after : List A) → length after ≡ length lent → length results ≤ length lent
    → ((i : ℕ) → i < length results → get_or after i d ≡ get_or results i d)
    → ((i : ℕ) → length results ≤ i → get_or after i d ≡ get_or lent i d)
    → after ≡ in_front results lent
in_front_lem {A} d results lent after size room done kept =
    ext_get_or d after (in_front results lent) (size ∙ sym (front_length results lent)) (λ i h. go i (split i))
  where
    split : (i : ℕ) → (i < length results) ⊎ (length results ≤ i)
    split i = by (ltb i (length results)) refl
      where
        by : (t : Bool) → ltb i (length results) ≡ t → (i < length results) ⊎ (length results ≤ i)
        by true e = inl (ltb-true i (length results) e)
        by false e = inr (ltb-false i (length results) e)

    front : (i : ℕ) → get_or (in_front results lent) i d ≡ get_or (results ++ drop (length results) lent) i d
    front i = ap (λ (l : List A). get_or l i d) (front_is results lent room)

    go : (i : ℕ) → (i < length results) ⊎ (length results ≤ i) → get_or after i d ≡ get_or (in_front results lent) i d
    go i (inl h) = done i h ∙ sym (front i ∙ get_or-append results (drop (length results) lent) d i h)
    go i (inr h) =
        let place : length results + (i - length results) ≡ i = omega (arith, h) in
        kept i h ∙ ap (λ (j : ℕ). get_or lent j d) (sym place) ∙ sym (get_or-drop (length results) lent (i - length results) d)
        ∙ sym (get_or-append-add results (drop (length results) lent) (i - length results) d)
        ∙ ap (λ (j : ℕ). get_or (results ++ drop (length results) lent) j d) place
        ∙ sym (front i)
