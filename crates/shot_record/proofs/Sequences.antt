-- A list whose elements are contiguous in a record. Assumes nothing.
use mathlib.Core.Path.{◌≡◌, refl, sym, ap, ap₂, ◌∙◌}
use Prim.Native.Nat.{ℕ, zero, suc, ◌+◌, ◌*◌, ◌^◌, ◌≤◌, ◌<◌}
use mathlib.Core.List.{List, [], ◌∷◌, ◌++◌, append_assoc}
use native.Mathlib.Omega.{arith}
use lib.ListN.{length, take, drop, length-append}
use lib.Seq.{drop-append_seam, drop-drop}
use Rattle.shot_record.specs.Fields.{number}
use Rattle.shot_record.specs.Shots.{list, numbers}
use Rattle.shot_record.specs.Writing.{little_endian, each, All, Bytes}
use Rattle.shot_record.proofs.Reading.{Small, number-below}
use Rattle.shot_record.proofs.LittleEndian.{le_length, le_bytes}
use Rattle.shot_record.proofs.Runs.{Runs, Read, after, number_read, number_written}

module _ {A : Type 0} where
  pub list_all : (P : A → Type 0) (f : ℕ → A) (n : ℕ) → ((k : ℕ) → k < n → P (f k)) → All P (list f n)
  unfolding list
  list_all P f zero h = tt
  list_all P f (suc n) h = (h 0 (omega arith), list_all P (λ (k : ℕ). f (suc k)) n (λ k l. h (suc k) (omega arith)))

  pub all_append : (P : A → Type 0) (xs ys : List A) → All P xs → All P ys → All P (xs ++ ys)
  all_append P [] ys a b = b
  all_append P (x ∷ xs) ys a b = (a.0, all_append P xs ys a.1 b)

  pub all_take : (P : A → Type 0) (n : ℕ) (l : List A) → All P l → All P (take n l)
  all_take P zero l a = tt
  all_take P (suc n) [] a = tt
  all_take P (suc n) (x ∷ xs) a = (a.0, all_take P n xs a.1)

  pub all_drop : (P : A → Type 0) (n : ℕ) (l : List A) → All P l → All P (drop n l)
  all_drop P zero l a = a
  all_drop P (suc n) [] a = tt
  all_drop P (suc n) (x ∷ xs) a = all_drop P n xs a.1

  -- Q of each index and its element
  abbrev pub Each : (ℕ → A → Type 0) → List A → Type 0
  Each Q [] = Unit
  Each Q (x ∷ xs) = Q 0 x × Each (λ (k : ℕ). Q (suc k)) xs

  each_of_all : (P : A → Type 0) (l : List A) → All P l → Each (λ (k : ℕ). P) l
  each_of_all P [] a = tt
  each_of_all P (x ∷ xs) a = (a.0, each_of_all P xs a.1)

-- element k is f k, encoded from `place k` up to `place (suc k)`
module _ {A : Type 0} (bytes : List ℕ) (write : A → List ℕ) where
  pub list_read : (Q : ℕ → A → Type 0) (f : ℕ → A) (place : ℕ → ℕ) (xs : List A) {rest : List ℕ}
      → ((k : ℕ) (x : A) (rest : List ℕ) → Q k x → Runs bytes (place k) (write x ++ rest) → Read (f k) x bytes (place (suc k)) rest)
      → Each Q xs → Runs bytes (place 0) (each write xs ++ rest) → Read (list f (length xs)) xs bytes (place (length xs)) rest
  unfolding list
  list_read Q f place [] step q r = record { value = refl; next = r }
  list_read Q f place (x ∷ xs) {rest} step q r =
      let first = step 0 x (each write xs ++ rest) q.0 (rw (append_assoc (write x) (each write xs) rest) at r) in
      let others = list_read (λ (k : ℕ). Q (suc k)) (λ (k : ℕ). f (suc k)) (λ (k : ℕ). place (suc k)) xs (λ k. step (suc k)) q.1 first.next in
      record { value = ap₂ (λ (y : A) (ys : List A). y ∷ ys) first.value others.value; next = others.next }

  pub list_written : (f : ℕ → A) (place : ℕ → ℕ) (n : ℕ) {rest : List ℕ}
      → ((k : ℕ) (rest : List ℕ) → Runs bytes (place (suc k)) rest → Runs bytes (place k) (write (f k) ++ rest)) → Runs bytes (place n) rest
      → Runs bytes (place 0) (each write (list f n) ++ rest)
  unfolding list
  list_written f place zero step r = r
  list_written f place (suc n) {rest} step r =
      rw append_assoc (step 0 (each write (list (λ (k : ℕ). f (suc k)) n) ++ rest)
      (list_written (λ (k : ℕ). f (suc k)) (λ (k : ℕ). place (suc k)) n (λ k. step (suc k)) r))

-- ---- numbers of w bytes each
pub numbers_read : {bytes rest : List ℕ} {at : ℕ} (w : ℕ) (xs : List ℕ) → All (λ (x : ℕ). x < 2 ^ (8 * w)) xs
    → Runs bytes at (each (little_endian w) xs ++ rest) → Read (numbers w (length xs) at bytes) xs bytes (at + w * length xs) rest
numbers_read {bytes} {rest} {at} w xs h r =
    list_read bytes (little_endian w) (λ (k x : ℕ). x < 2 ^ (8 * w)) (λ (k : ℕ). number w (at + w * k) bytes) (λ (k : ℕ). at + w * k) xs
    (λ k x other l q. number_read w (at + w * suc k) x l (omega arith) q) (each_of_all (λ (x : ℕ). x < 2 ^ (8 * w)) xs h)
    (after [] (at + w * 0) r (omega arith))

pub numbers_written : {bytes rest : List ℕ} → Small bytes → (w n at : ℕ) → Runs bytes (at + w * n) rest
    → Runs bytes at (each (little_endian w) (numbers w n at bytes) ++ rest)
numbers_written {bytes} s w n at r =
    after [] at
    (list_written bytes (little_endian w) (λ (k : ℕ). number w (at + w * k) bytes) (λ (k : ℕ). at + w * k) n
    (λ k other q. number_written s w (at + w * k) (omega arith) q) r)
    (omega arith)

pub numbers-below : (bytes : List ℕ) → Small bytes → (w n at : ℕ) → All (λ (x : ℕ). x < 2 ^ (8 * w)) (numbers w n at bytes)
numbers-below bytes s w n at =
    list_all (λ (x : ℕ). x < 2 ^ (8 * w)) (λ (k : ℕ). number w (at + w * k) bytes) n (λ k l. number-below bytes s w (at + w * k))

pub each-length : (w : ℕ) (xs : List ℕ) → length (each (little_endian w) xs) ≡ w * length xs
each-length w [] = omega arith
each-length w (x ∷ xs) = length-append (little_endian w x) (each (little_endian w) xs) ∙ omega (arith, le_length w x, each-length w xs)

-- ---- their bytes, in parts
module _ (w : ℕ) where
  pub each_bytes : (xs : List ℕ) → Bytes (each (little_endian w) xs)
  each_bytes [] = tt
  each_bytes (x ∷ xs) = all_append (λ (y : ℕ). y < 256) (little_endian w x) (each (little_endian w) xs) (le_bytes w x) (each_bytes xs)

  pub each_append : (xs ys : List ℕ) → each (little_endian w) (xs ++ ys) ≡ each (little_endian w) xs ++ each (little_endian w) ys
  each_append [] ys = refl
  each_append (x ∷ xs) ys =
      ap (λ (l : List ℕ). little_endian w x ++ l) (each_append xs ys)
      ∙ sym (append_assoc (little_endian w x) (each (little_endian w) xs) (each (little_endian w) ys))

  pub each-drop : (n : ℕ) (xs rest : List ℕ) → n ≤ length xs
      → drop (w * n) (each (little_endian w) xs ++ rest) ≡ each (little_endian w) (drop n xs) ++ rest
  each-drop zero xs rest h = let none_left : w * 0 ≡ 0 = omega arith in ap (λ (k : ℕ). drop k (each (little_endian w) xs ++ rest)) none_left
  each-drop (suc n) [] rest h = absurd (omega arith)
  each-drop (suc n) (x ∷ xs) rest h =
      let first = little_endian w x in
      let others = each (little_endian w) xs ++ rest in
      let size : w * suc n ≡ length first + w * n = omega (arith, le_length w x) in
      ap₂ drop size (append_assoc first (each (little_endian w) xs) rest)
      ∙ sym (drop-drop (w * n) (length first) (first ++ others))
      ∙ ap (drop (w * n)) (drop-append_seam first others)
      ∙ each-drop n xs rest (omega (arith, h))
