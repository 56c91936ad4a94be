-- What `all` over the numbers below n returns, as `every`. Assumes nothing.
use Rattle.std.proofs.Common.{◌≡◌, refl, sym, Bool, true, false, ℕ, ◌<◌, length, get_or, arith}
use mathlib.Core.Path.{subst}
use Rattle.std.specs.Bool.{MatchBool}
use Rattle.std.specs.List.{range_with_len, AllWithin, HoldsAt}
use Rattle.std.proofs.lemmas.List.FromFn.{length-range_with_len, get_or-range_with_len}
use Rattle.integers.specs.Tests.{every}
use Rattle.integers.proofs.Tests.{from_each, one_out}

module _ (test : ℕ → Bool) (n : ℕ) where
  at_k : (k : ℕ) → k < n → get_or (range_with_len 0 n) k 0 ≡ k
  at_k k h = omega (arith, get_or-range_with_len 0 n k 0 h)

  pub every_from_all : (r : Bool)
      → MatchBool r (AllWithin (λ (k : ℕ). test k ≡ true) (range_with_len 0 n) 0 (length (range_with_len 0 n)))
      ((k : ℕ) × (k < length (range_with_len 0 n)) × HoldsAt (λ (k : ℕ). test k ≡ false) (range_with_len 0 n) k)
      → r ≡ every test n
  every_from_all true h =
      sym (from_each test n (λ k l. subst (λ (j : ℕ). test j ≡ true) (at_k k l) (h k 0 (omega arith) (omega (arith, l, length-range_with_len 0 n)))))
  every_from_all false h =
      let l : h.0 < n = omega (arith, h.1, length-range_with_len 0 n) in
      one_out test n h.0 false l (subst (λ (j : ℕ). test j ≡ false) (at_k h.0 l) (h.2 0)) refl
