-- An array that is filled element by element. Assumes nothing.
use mathlib.Core.Path.{◌≡◌, refl, sym, ap₂, ◌∙◌}
use mathlib.Core.Bool.{Bool, true, false, not}
use mathlib.Core.Logic.{◌⊎◌, inl, inr}
use mathlib.Core.List.{List, ◌∷◌, map}
use Prim.Native.Nat.{ℕ, zero, suc, ◌+◌, ◌≤◌, ◌<◌}
use native.Mathlib.Nat.{eq-or-lt_of_le}
use native.Mathlib.Omega.{arith}
use lib.Dec.{T, ltb, ltb→lt, nltb→le}
use lib.ListN.{length, get_or, set, length-set}
use lib.Seq.{get_or-set_same, get_or-set_other, ext_get_or}
use Rattle.shot_record.specs.Shots.{list}
use Rattle.shot_record.proofs.Lists.{length-list, get_d_list}

-- the first k of n elements are f 0, …, f (k − 1)
pub record Filled {A : Type 0} (f : ℕ → A) (d : A) (xs : List A) (n k : ℕ) : Type 0 where
  pub size : length xs ≡ n
  pub before : (i : ℕ) → i < k → get_or xs i d ≡ f i

module _ {A : Type 0} (f : ℕ → A) (d : A) where
  pub one_more : (xs : List A) (n k : ℕ) (x : A) → k < n → Filled f d xs n k → x ≡ f k → Filled f d (set xs k x) n (k + 1)
  one_more xs n k x h l e = record { size = length-set xs k x ∙ l.size; before = λ i b. go i (eq-or-lt_of_le (omega arith)) }
    where
      go : (i : ℕ) → (i ≡ k) ⊎ (i < k) → get_or (set xs k x) i d ≡ f i
      go i (inl z) = rw z (get_or-set_same xs k x d (omega (arith, l.size)) ∙ e)
      go i (inr b) = get_or-set_other xs k i x d (λ z. absurd (omega arith)) ∙ l.before i b

  pub all_filled : (xs : List A) (n k : ℕ) → Filled f d xs n k → k ≡ n → xs ≡ list f n
  all_filled xs n k l e =
      ext_get_or d xs (list f n) (l.size ∙ sym (length-list f n)) (λ i h. l.before i (omega (arith, h, l.size))
      ∙ sym (get_d_list f n i d (omega (arith, h, l.size))))

  -- the elements from k on are correct already
  pub rest_filled : (xs : List A) (n k : ℕ) → Filled f d xs n k → ((i : ℕ) → k ≤ i → i < n → get_or xs i d ≡ f i) → Filled f d xs n n
  rest_filled xs n k l rest = record { size = l.size; before = λ i b. go i b (ltb i k) (ltb→lt i k) (nltb→le i k) }
    where
      go : (i : ℕ) → i < n → (t : Bool) → (T t → i < k) → (T (not t) → k ≤ i) → get_or xs i d ≡ f i
      go i b true less more = l.before i (less tt)
      go i b false less more = rest i (more tt) b

pub map-list : {A B : Type 0} (g : A → B) (f : ℕ → A) (n : ℕ) → map g (list f n) ≡ list (λ (k : ℕ). g (f k)) n
unfolding list
map-list g f zero = refl
map-list g f (suc n) = ap₂ ◌∷◌ refl (map-list g (λ (k : ℕ). f (suc k)) n)
