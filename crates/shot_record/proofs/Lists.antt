-- Lists f 0, …, f (n − 1), and their elements. Assumes nothing.
use mathlib.Core.Path.{◌≡◌, refl, ap, ap₂}
use Prim.Native.Nat.{ℕ, zero, suc, ◌≤◌, ◌<◌}
use native.Mathlib.Nat.{le_of_suc-le-suc}
use native.Mathlib.Omega.{arith}
use mathlib.Core.List.{List, [], ◌∷◌, ◌++◌}
use mathlib.Core.Option.{none, some}
use lib.ListN.{length, get_or, get_elem?}
use Rattle.shot_record.specs.Shots.{list}

module _ {A : Type 0} where
  pub length-list : (f : ℕ → A) (n : ℕ) → length (list f n) ≡ n
  unfolding list
  length-list f zero = refl
  length-list f (suc n) = ap suc (length-list (λ (k : ℕ). f (suc k)) n)

  pub get_d_list : (f : ℕ → A) (n k : ℕ) (d : A) → k < n → get_or (list f n) k d ≡ f k
  unfolding list
  get_d_list f zero k d h = absurd (omega arith)
  get_d_list f (suc n) zero d h = refl
  get_d_list f (suc n) (suc k) d h = get_d_list (λ (k : ℕ). f (suc k)) n k d (le_of_suc-le-suc h)

  pub get_elem?_inside : (xs : List A) (k : ℕ) (d : A) → k < length xs → get_elem? xs k ≡ some (get_or xs k d)
  get_elem?_inside [] k d h = absurd (omega arith)
  get_elem?_inside (x ∷ xs) zero d h = refl
  get_elem?_inside (x ∷ xs) (suc k) d h = get_elem?_inside xs k d (le_of_suc-le-suc h)

  pub get_elem?_past : (xs : List A) (k : ℕ) → length xs ≤ k → get_elem? xs k ≡ none
  get_elem?_past [] k h = refl
  get_elem?_past (x ∷ xs) zero h = absurd (omega arith)
  get_elem?_past (x ∷ xs) (suc k) h = get_elem?_past xs k (le_of_suc-le-suc h)

  pub get_elem?_list : (f : ℕ → A) (n k : ℕ) → k < n → get_elem? (list f n) k ≡ some (f k)
  unfolding list
  get_elem?_list f zero k h = absurd (omega arith)
  get_elem?_list f (suc n) zero h = refl
  get_elem?_list f (suc n) (suc k) h = get_elem?_list (λ (k : ℕ). f (suc k)) n k (le_of_suc-le-suc h)

  pub get_elem?_list_past : (f : ℕ → A) (n k : ℕ) → n ≤ k → get_elem? (list f n) k ≡ none
  get_elem?_list_past f n k h = get_elem?_past (list f n) k (rw (length-list f n) h)

  pub last_listed : (f : ℕ → A) (n : ℕ) → list f (suc n) ≡ list f n ++ (f n ∷ [])
  unfolding list
  last_listed f zero = refl
  last_listed f (suc n) = ap (λ (xs : List A). f 0 ∷ xs) (last_listed (λ (k : ℕ). f (suc k)) n)

  pub list_as : (f g : ℕ → A) (n : ℕ) → ((k : ℕ) → k < n → f k ≡ g k) → list f n ≡ list g n
  unfolding list
  list_as f g zero e = refl
  list_as f g (suc n) e =
      ap₂ (λ (x : A) (xs : List A). x ∷ xs) (e 0 (omega arith))
      (list_as (λ (k : ℕ). f (suc k)) (λ (k : ℕ). g (suc k)) n (λ k h. e (suc k) (omega (arith, h))))
