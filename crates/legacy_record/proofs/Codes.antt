-- The codes of a restated record: as many as before, in range, and no two of the markers' equal up to rotation. Assumes nothing.
use mathlib.Core.Path.{◌≡◌, refl, sym, ap, ap₂, ◌∙◌}
use mathlib.Core.Bool.{Bool, true, false, ◌&&◌}
use mathlib.Core.List.{List, [], ◌∷◌, ◌++◌}
use Prim.Native.Nat.{ℕ, zero, suc, ◌+◌, ◌-◌, ◌*◌, ◌^◌, ◌≤◌, ◌<◌}
use native.Mathlib.Omega.{arith}
use lib.ListN.{length, get_or, drop, length-append, length-drop, get_or-append}
use borrow.Author.Tests.{lt-ltb}
use Rattle.matcher.specs.Codes.{turned}
use Rattle.matcher.proofs.Turns.{turned-below, turned-turned}
use Rattle.alike.specs.Alike.{two_alike}
use Rattle.alike.proofs.Least.{met_alike}
use Rattle.alike.proofs.Laws.{two_are, are_two}
use Rattle.integers.proofs.Tests.{both}
use Rattle.board.specs.Questions.{code_in_range, codes_answer}
use Rattle.shot_record.specs.Shots.{list}
use Rattle.shot_record.proofs.Lists.{length-list, get_d_list}
use Rattle.legacy_record.specs.Restated.{new_code, reversed_codes}

-- ---- question 8 of a list in parts
codes_append : (bits : ℕ) (xs ys : List ℕ) → codes_answer bits xs ≡ true → codes_answer bits ys ≡ true → codes_answer bits (xs ++ ys) ≡ true
codes_append bits [] ys a b = b
codes_append bits (x ∷ xs) ys a b =
    let c = both (code_in_range bits x) (codes_answer bits xs) a in ap₂ (λ (p q : Bool). p && q) c.0 (codes_append bits xs ys c.1 b)

codes-drop : (bits n : ℕ) (codes : List ℕ) → codes_answer bits codes ≡ true → codes_answer bits (drop n codes) ≡ true
codes-drop bits zero codes a = a
codes-drop bits (suc n) [] a = refl
codes-drop bits (suc n) (c ∷ cs) a = codes-drop bits n cs (both (code_in_range bits c) (codes_answer bits cs) a).1

codes-list : (bits : ℕ) (f : ℕ → ℕ) (n : ℕ) → ((k : ℕ) → f k < 2 ^ (bits * bits)) → codes_answer bits (list f n) ≡ true
unfolding list
codes-list bits f zero h = refl
codes-list bits f (suc n) h =
    ap₂ (λ (p q : Bool). p && q) (lt-ltb (f 0) (2 ^ (bits * bits)) (h 0)) (codes-list bits (λ (k : ℕ). f (suc k)) n (λ k. h (suc k)))

-- ---- the new codes
module _ (bits n : ℕ) (codes : List ℕ) where
  abbrev code : ℕ → ℕ
  code = new_code bits n codes

  pub reversed_length : n ≤ length codes → length (reversed_codes bits n codes) ≡ length codes
  reversed_length h =
      length-append (list code n) (drop n codes) ∙ omega (arith, h, length-list code n, length-drop n codes)

  reversed_at : (k : ℕ) → k < n → get_or (reversed_codes bits n codes) k 0 ≡ code k
  reversed_at k h = get_or-append (list code n) (drop n codes) 0 k (rw (length-list code n) h) ∙ get_d_list code n k 0 h

  pub reversed_in_range : codes_answer bits codes ≡ true → codes_answer bits (reversed_codes bits n codes) ≡ true
  reversed_in_range a =
      codes_append bits (list code n) (drop n codes)
      (codes-list bits code n (λ k. turned-below bits 2 (get_or codes (n - 1 - k) 0))) (codes-drop bits n codes a)

  -- two of them that are equal up to rotation were so before
  pub reversed_apart : two_alike bits codes n ≡ false → two_alike bits (reversed_codes bits n codes) n ≡ false
  reversed_apart a = go (two_alike bits (reversed_codes bits n codes) n) refl
    where
      go : (t : Bool) → two_alike bits (reversed_codes bits n codes) n ≡ t → t ≡ false
      go false e = refl
      go true e =
          let t = two_are bits (reversed_codes bits n codes) n e in
          let i = n - 1 - t.first in
          let j = n - 1 - t.second in
          let same =
          sym (turned-turned bits 2 t.alike-codes.turns (get_or codes i 0))
          ∙ ap (turned bits t.alike-codes.turns) (sym (reversed_at t.first t.first_used)) ∙ t.alike-codes.same
          ∙ ap (turned bits 0) (reversed_at t.second t.second_used) ∙ turned-turned bits 2 0 (get_or codes j 0) in
          sym (are_two bits codes n
          (record {
            first = i;
            second = j;
            first_used = omega (arith, t.first_used);
            second_used = omega (arith, t.second_used);
            apart = λ x. t.apart (omega (arith, x, t.first_used, t.second_used));
            alike-codes = met_alike bits (get_or codes i 0) (get_or codes j 0) (2 + t.alike-codes.turns) 2 same;
          })) ∙ a

-- no code is reversed
pub none_reversed : (bits : ℕ) (codes : List ℕ) → reversed_codes bits 0 codes ≡ codes
unfolding list
none_reversed bits codes = refl
