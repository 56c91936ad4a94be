-- Output arrays. Document 01, "The questions asked": a refusal leaves the array unchanged, a success the elements after the results.
use Rattle.std.specs.Prelude.{ℕ, zero, suc, ◌+◌, ◌≡◌, List, [], ◌++◌, length, take, drop}
use Rattle.std.proofs.Math.Option.{Option, none, some}

-- The output array (`lent`: supplied by the caller) with its first elements overwritten by the results, truncated to its length.
abbrev pub in_front : {A : Type 0} → List A → List A → List A
in_front results lent = take (length lent) results ++ drop (length results) lent

-- the output array at exit: unchanged on a refusal
abbrev pub at_exit : {A R : Type 0} → Option R → List A → List A → List A
at_exit (some refused) results lent = lent
at_exit none results lent = in_front results lent

-- concatenation of f 0 to f (n − 1)
unfoldable pub up_to : {A : Type 0} → (ℕ → List A) → ℕ → List A
up_to f zero = []
up_to f (suc n) = up_to f n ++ f n

-- the words were written from index n on, and r is the index after them
pub record Put {A : Type 0} (before after : List A) (n r : ℕ) (words : List A) : Type 0 where
  pub end : r ≡ n + length words
  pub list : after ≡ take n before ++ words ++ drop r before
