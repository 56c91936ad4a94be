-- Elements of an array that are written in any order.
use Rattle.std.specs.Prelude.{◌≡◌, List, ℕ, length, get_or}

-- For each i with `In i` the element at index `at i` is `v i`; every other element is unchanged. `default` is the value past the end.
pub record Wrote {A I : Type 0} (default : A) (In : I → Type 0) (at : I → ℕ) (v : I → A) (before after : List A) : Type 0 where
  pub size : length after ≡ length before
  pub done : (i : I) → In i → get_or after (at i) default ≡ v i
  pub kept : (j : ℕ) → ((i : I) → In i → j ≡ at i → ⊥) → get_or after j default ≡ get_or before j default
