-- Loops that write words to an output array, one word or one part at a time. Assumes nothing.
use mathlib.Core.Path.{◌≡◌, refl, sym, ap, ap₂, ◌∙◌}
use mathlib.Core.List.{List, ◌++◌, flat_map}
use Prim.Native.Nat.{ℕ, suc, ◌+◌, ◌-◌, ◌≤◌, ◌<◌}
use native.Mathlib.Numerals.{add-one}
use native.Mathlib.Omega.{arith}
use lib.ListN.{length, take, drop, get_or, set, length-append}
use lib.Seq.{paste, paste-zero, paste-suc, take_all}
use Rattle.lent_list.specs.Front.{up_to, Put}
use Rattle.lent_list.proofs.Front.{nothing_put, put_as, put_more, put_length, flat_map_append, flat_map_up_to, up_to_longer}

-- ---- the first i words are written
pub record Begun {A : Type 0} (before : List A) (at : ℕ) (words after : List A) (i : ℕ) : Type 0 where
  pub few : i ≤ length words
  pub list : after ≡ paste before at words i

module _ {A : Type 0} where
  pub begin : (before : List A) (at : ℕ) (words : List A) → Begun before at words before 0
  begin before at words = record { few = omega arith; list = paste-zero before at words }

  module _ {before : List A} {at : ℕ} {words after : List A} {i : ℕ} (b : Begun before at words after i) (room : at + length words ≤ length before) where
    pub begun_more : (x d : A) → x ≡ get_or words i d → i < length words → Begun before at words (set after (at + i) x) (i + 1)
    begun_more x d e l =
        record {
          few = omega (arith, l);
          list =
              ap₂ (λ (k : List A) (y : A). set k (at + i) y) b.list e
              ∙ paste-suc before at words i d (omega (arith, l)) l
              ∙ ap (paste before at words) (sym (add-one i));
        }

    pub all_begun : length words ≤ i → Put before after at (at + length words) words
    all_begun h =
        let e : i ≡ length words = omega (arith, h, b.few) in
        record {
          end = refl;
          list =
              b.list
              ∙ ap₂ (λ (l : List A) (k : ℕ). take at before ++ l ++ drop (at + k) before) (take_all i words h) e;
        }

-- ---- the words of f 0 to f (k − 1) are written from index n on, and there is room for those of f up to `end`
module _ {A B : Type 0} (g : A → List B) (f : ℕ → List A) (before : List B) (n end : ℕ) (room : n + length (flat_map g (up_to f end)) ≤ length before) where
  abbrev pub PutTo : List B → ℕ → ℕ → Type 0
  PutTo after at k = Put before after n at (flat_map g (up_to f k))

  pub none_to : PutTo before n 0
  unfolding up_to flat_map
  none_to = nothing_put before n

  to_longer : (k : ℕ) → k ≤ end → length (flat_map g (up_to f k)) ≤ length (flat_map g (up_to f end))
  to_longer k h =
      let part : ℕ → List B = λ j. flat_map g (f j) in
      let e : k + (end - k) ≡ end = omega (arith, h) in
      omega
      (arith, ap length (flat_map_up_to g f k), ap length (flat_map_up_to g f end), up_to_longer part k (end - k), ap (λ (j : ℕ). length (up_to part j)) e)

  pub to-length : {after : List B} {at : ℕ} (k : ℕ) → PutTo after at k → k ≤ end → length after ≡ length before
  to-length k p h = put_length p (omega (arith, room)) (omega (arith, room, p.end, to_longer k h))

  to_next : (k : ℕ) → flat_map g (up_to f (suc k)) ≡ flat_map g (up_to f k) ++ flat_map g (f k)
  unfolding up_to
  to_next k = flat_map_append g (up_to f k) (f k)

  -- room for the next part
  pub to_room : {after : List B} {at : ℕ} (k : ℕ) → PutTo after at k → k < end → at + length (flat_map g (f k)) ≤ length after
  to_room k p h =
      omega (
        arith,
        p.end,
        to-length k p (omega (arith, h)),
        to_longer (suc k) (omega (arith, h)),
        ap length (to_next k),
        length-append (flat_map g (up_to f k)) (flat_map g (f k)),
        room,
      )

  pub to_more : {mid after : List B} {at r : ℕ} (k : ℕ) → PutTo mid at k → Put mid after at r (flat_map g (f k)) → PutTo after r (k + 1)
  to_more k p q =
      put_as (sym (to_next k) ∙ ap (λ (j : ℕ). flat_map g (up_to f j)) (sym (add-one k))) (put_more p (omega (arith, room)) q)
