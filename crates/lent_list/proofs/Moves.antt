-- Elements that are moved within an array: those still to be moved have not been overwritten. Assumes nothing.
use mathlib.Core.Path.{◌≡◌, sym, ap, ap₂, ◌∙◌}
use mathlib.Core.List.{List, ◌++◌}
use Prim.Native.Nat.{ℕ, ◌+◌, ◌-◌, ◌≤◌, ◌<◌}
use native.Mathlib.Omega.{arith}
use lib.ListN.{length, take, drop, get_or, set, length-drop}
use lib.Seq.{length-take-le, length_paste_head, get_or-append-add, get_or-take, get_or-drop}
use Rattle.lent_list.specs.Front.{Put}
use Rattle.lent_list.proofs.Loops.{Begun, begun_more, all_begun}

module _ {A : Type 0} where
  part_length : (l : List A) (from n : ℕ) → from + n ≤ length l → length (take n (drop from l)) ≡ n
  part_length l from n h = length-take-le n (drop from l) (omega (arith, length-drop from l, h))

  -- past the elements that are written the array is as it was
  past_begun : {before : List A} {at : ℕ} {words after : List A} {i : ℕ} → Begun before at words after i → at + length words ≤ length before
      → (j : ℕ) (d : A) → get_or after (at + i + j) d ≡ get_or before (at + i + j) d
  past_begun {before} {at} {words} {after} {i} b room j d =
      let front = take at before ++ take i words in
      let size : length front ≡ at + i = length_paste_head before at words i (omega (arith, room)) b.few in
      ap₂ (λ (l : List A) (k : ℕ). get_or l k d) b.list (ap (λ (k : ℕ). k + j) (sym size))
      ∙ get_or-append-add front (drop (at + i) before) j d
      ∙ get_or-drop (at + i) before j d

  module _ (before : List A) (from to n : ℕ) (down : to ≤ from) (room : from + n ≤ length before) {after : List A} {i : ℕ}
      (b : Begun before to (take n (drop from before)) after i) where
    fits : to + length (take n (drop from before)) ≤ length before
    fits = omega (arith, part_length before from n room, down, room)

    -- the next element is not overwritten yet
    pub still : i < n → (d : A) → get_or after (from + i) d ≡ get_or (take n (drop from before)) i d
    still l d =
        let e : to + i + (from - to) ≡ from + i = omega (arith, down) in
        ap (λ (k : ℕ). get_or after k d) (sym e)
        ∙ past_begun b fits (from - to) d
        ∙ ap (λ (k : ℕ). get_or before k d) e
        ∙ sym (get_or-drop from before i d)
        ∙ sym (get_or-take n (drop from before) i d l)

    pub down_more : (d : A) → i < n → Begun before to (take n (drop from before)) (set after (to + i) (get_or after (from + i) d)) (i + 1)
    down_more d l = begun_more b fits (get_or after (from + i) d) d (still l d) (omega (arith, part_length before from n room, l))

    pub down_all : n ≤ i → Put before after to (to + n) (take n (drop from before))
    down_all l =
        let size = part_length before from n room in
        let p = all_begun b fits (omega (arith, size, l)) in
        record { end = ap (λ (k : ℕ). to + k) (sym size); list = p.list ∙ ap (λ (k : ℕ). take to before ++ take n (drop from before) ++ drop (to + k) before) size }
