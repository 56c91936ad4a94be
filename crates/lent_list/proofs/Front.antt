-- Words written consecutively, results at the start of an output array, and concatenations. Assumes nothing.
use mathlib.Core.Path.{◌≡◌, refl, sym, ap, ap₂, subst, ◌∙◌}
use mathlib.Core.List.{List, [], ◌∷◌, ◌++◌, append_assoc, append-nil, flat_map}
use Prim.Native.Nat.{ℕ, zero, suc, ◌+◌, ◌*◌, ◌≤◌, ◌<◌}
use native.Mathlib.Nat.{add-zero, add-suc, zero-add}
use native.Mathlib.Omega.{arith}
use lib.ListN.{length, take, drop, length-append, length-take, length-drop, take-append-drop, drop_of_length-le}
use lib.Seq.{take_at, take_all, take-append-le, drop-append-add, drop-drop, length-take-le}
use Rattle.lent_list.specs.Front.{in_front, up_to, Put}

-- ---- words written consecutively
module _ {A : Type 0} where
  pub nothing_put : (l : List A) (n : ℕ) → Put l l n n []
  nothing_put l n =
      record { end = sym (add-zero n); list = sym (ap (λ (k : List A). k ++ drop n l) (append-nil (take n l)) ∙ take-append-drop n l) }

  pub put_as : {before after : List A} {n r : ℕ} {ws vs : List A} → ws ≡ vs → Put before after n r ws → Put before after n r vs
  put_as {before} {after} {n} {r} e p = subst (Put before after n r) e p

  module _ {before mid : List A} {n m : ℕ} {xs : List A} (p : Put before mid n m xs) (h : n ≤ length before) where
    head : length (take n before ++ xs) ≡ m
    head = length-append (take n before) xs ∙ ap (λ (k : ℕ). k + length xs) (length-take-le n before h) ∙ sym p.end

    pub put_length : m ≤ length before → length mid ≡ length before
    put_length g =
        ap length p.list ∙ length-append (take n before ++ xs) (drop m before) ∙ omega (arith, head, g, length-drop m before)

    pub put_more : {after : List A} {r : ℕ} {ys : List A} → Put mid after m r ys → Put before after n r (xs ++ ys)
    put_more {after} {r} {ys} q =
        let front = take n before ++ xs in
        let size : length front + length ys ≡ r = omega (arith, head, q.end) in
        let same : take m mid ≡ front = ap (take m) p.list ∙ take_at front (drop m before) m head in
        let past : drop r mid ≡ drop r before =
        ap₂ drop (sym size) p.list ∙ drop-append-add front (drop m before) (length ys) ∙ drop-drop (length ys) m before
        ∙ ap (λ (k : ℕ). drop k before) (sym q.end) in
        record {
          end = omega (arith, p.end, q.end, length-append xs ys);
          list =
              q.list
              ∙ ap₂ (λ (a b : List A). a ++ ys ++ b) same past
              ∙ ap (λ (l : List A). l ++ drop r before) (append_assoc (take n before) xs ys);
        }

-- ---- results at the start of an output array
module _ {A : Type 0} where
  -- the array is long enough
  pub front_is : (results lent : List A) → length results ≤ length lent → in_front results lent ≡ results ++ drop (length results) lent
  front_is results lent h = ap (λ (l : List A). l ++ drop (length results) lent) (take_all (length lent) results h)

  pub front_length : (results lent : List A) → length (in_front results lent) ≡ length lent
  front_length results lent =
      length-append (take (length lent) results) (drop (length results) lent)
      ∙ omega (arith, length-take (length lent) results, length-drop (length results) lent)

  -- words written from index 0 on
  pub put_front : {lent after results : List A} {r : ℕ} → r ≤ length lent → Put lent after 0 r results → after ≡ in_front results lent
  put_front {lent} {after} {results} h p =
      p.list
      ∙ ap (λ (k : ℕ). results ++ drop k lent) (p.end ∙ zero-add (length results))
      ∙ sym (front_is results lent (omega (arith, p.end, h)))

  -- words written after the results
  pub put_in_front : (results lent : List A) {mid after ws : List A} {n r : ℕ} → mid ≡ in_front results lent → n ≡ length results
      → r ≤ length lent → Put mid after n r ws → after ≡ in_front (results ++ ws) lent
  put_in_front results lent {mid} {n = n} e l h p =
      let first : Put lent mid 0 n results =
      record {
        end = l ∙ sym (zero-add (length results));
        list = e ∙ front_is results lent (omega (arith, l, h, p.end)) ∙ ap (λ (k : ℕ). results ++ drop k lent) (sym l);
      } in
      put_front h (put_more first (omega arith) p)

  -- no room for more
  pub front_full : (results ws lent : List A) → length lent ≤ length results → in_front results lent ≡ in_front (results ++ ws) lent
  front_full results ws lent h =
      let longer : length lent ≤ length (results ++ ws) = omega (arith, length-append results ws, h) in
      ap₂ (λ (a b : List A). a ++ b) (sym (take-append-le (length lent) results ws h))
      (drop_of_length-le lent {i = length results} h ∙ sym (drop_of_length-le lent {i = length (results ++ ws)} longer))

  -- the results are read back
  pub front_taken : (results lent : List A) → length results ≤ length lent → take (length results) (in_front results lent) ≡ results
  front_taken results lent h =
      ap (take (length results)) (front_is results lent h) ∙ take_at results (drop (length results) lent) (length results) refl

-- ---- concatenation of f 0 to f (n − 1)
module _ {A : Type 0} (f : ℕ → List A) where
  pub up_to_longer : (k d : ℕ) → length (up_to f k) ≤ length (up_to f (k + d))
  unfolding up_to
  up_to_longer k zero = omega (arith, ap (λ (j : ℕ). length (up_to f j)) (add-zero k))
  up_to_longer k (suc d) =
      let one_more : up_to f (k + suc d) ≡ up_to f (k + d) ++ f (k + d) = ap (up_to f) (add-suc k d) in
      omega (arith, up_to_longer k d, ap length one_more, length-append (up_to f (k + d)) (f (k + d)))

  -- f is empty from k on for d indices
  pub up_to-same : (k d : ℕ) → ((j : ℕ) → k ≤ j → j < k + d → f j ≡ []) → up_to f (k + d) ≡ up_to f k
  unfolding up_to
  up_to-same k zero h = ap (up_to f) (add-zero k)
  up_to-same k (suc d) h =
      ap (up_to f) (add-suc k d) ∙ ap (λ (l : List A). up_to f (k + d) ++ l) (h (k + d) (omega arith) (omega arith))
      ∙ append-nil (up_to f (k + d))
      ∙ up_to-same k d (λ j a b. h j a (omega (arith, b)))

  -- at most w elements each
  pub up_to-most : (w n : ℕ) → ((k : ℕ) → k < n → length (f k) ≤ w) → length (up_to f n) ≤ w * n
  unfolding up_to
  up_to-most w zero h = omega arith
  up_to-most w (suc n) h =
      omega (arith, length-append (up_to f n) (f n), h n (omega arith), up_to-most w n (λ k l. h k (omega (arith, l))))

  pub up_to_as : (g : ℕ → List A) (n : ℕ) → ((k : ℕ) → k < n → f k ≡ g k) → up_to f n ≡ up_to g n
  unfolding up_to
  up_to_as g zero e = refl
  up_to_as g (suc n) e = ap₂ (λ (l m : List A). l ++ m) (up_to_as g n (λ k h. e k (omega (arith, h)))) (e n (omega arith))

-- ---- `flat_map`
module _ {A B : Type 0} (g : A → List B) where
  pub flat_map_append : (xs ys : List A) → flat_map g (xs ++ ys) ≡ flat_map g xs ++ flat_map g ys
  unfolding flat_map
  flat_map_append [] ys = refl
  flat_map_append (x ∷ xs) ys =
      ap (λ (l : List B). g x ++ l) (flat_map_append xs ys) ∙ sym (append_assoc (g x) (flat_map g xs) (flat_map g ys))

  -- w words for each element
  pub flat_map_length : (w : ℕ) → ((x : A) → length (g x) ≡ w) → (xs : List A) → length (flat_map g xs) ≡ w * length xs
  unfolding flat_map
  flat_map_length w e [] = omega arith
  flat_map_length w e (x ∷ xs) = omega (arith, length-append (g x) (flat_map g xs), e x, flat_map_length w e xs)

  pub flat_map_up_to : (f : ℕ → List A) (n : ℕ) → flat_map g (up_to f n) ≡ up_to (λ (k : ℕ). flat_map g (f k)) n
  unfolding up_to flat_map
  flat_map_up_to f zero = refl
  flat_map_up_to f (suc n) =
      flat_map_append (up_to f n) (f n) ∙ ap (λ (l : List B). l ++ flat_map g (f n)) (flat_map_up_to f n)
