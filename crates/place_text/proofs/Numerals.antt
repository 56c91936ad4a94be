-- Decimal digits: every sufficient bound on the steps gives the same digits, so a number of more digits has those of its tenth, then its last.
-- Assumes nothing.
use mathlib.Core.Path.{◌≡◌, refl, sym, ap}
use mathlib.Core.Bool.{Bool, true, false, cond}
use mathlib.Core.List.{List, [], ◌∷◌, ◌++◌}
use Prim.Native.Nat.{ℕ, zero, suc, ◌/◌, ◌%◌, ◌≤◌, ◌<◌}
use native.Mathlib.Omega.{arith}
use lib.Dec.{ltb}
use borrow.Author.Tests.{lt-ltb, le-ltb, ltb-false}
use Rattle.place_text.specs.Numerals.{digit, decimal_in, decimal}

enough : (k j n : ℕ) → n ≤ k → n ≤ j → decimal_in k n ≡ decimal_in j n
unfolding decimal_in
enough zero zero n h i = refl
enough zero (suc j) n h i = ap (λ (b : Bool). cond b (digit n ∷ []) (decimal_in j (n / 10) ++ (digit (n % 10) ∷ []))) (sym (lt-ltb n 10 (omega arith)))
enough (suc k) zero n h i = ap (λ (b : Bool). cond b (digit n ∷ []) (decimal_in k (n / 10) ++ (digit (n % 10) ∷ []))) (lt-ltb n 10 (omega arith))
enough (suc k) (suc j) n h i = go (ltb n 10) refl (enough k j (n / 10))
  where
    go : (b : Bool) → ltb n 10 ≡ b → (n / 10 ≤ k → n / 10 ≤ j → decimal_in k (n / 10) ≡ decimal_in j (n / 10))
        → cond b (digit n ∷ []) (decimal_in k (n / 10) ++ (digit (n % 10) ∷ [])) ≡ cond b (digit n ∷ []) (decimal_in j (n / 10) ++ (digit (n % 10) ∷ []))
    go true e f = refl
    go false e f =
        let l = ltb-false n 10 e in ap (λ (d : List ℕ). d ++ (digit (n % 10) ∷ [])) (f (omega arith) (omega arith))

short : (k n : ℕ) → n < 10 → decimal_in k n ≡ digit n ∷ []
unfolding decimal_in
short zero n h = refl
short (suc k) n h = rw (lt-ltb n 10 h)

long : (k n : ℕ) → n ≤ k → 10 ≤ n → decimal_in k n ≡ decimal (n / 10) ++ (digit (n % 10) ∷ [])
unfolding decimal_in
long zero n l h = absurd (omega arith)
long (suc k) n l h =
    rw (le-ltb n 10 h) (ap (λ (d : List ℕ). d ++ (digit (n % 10) ∷ [])) (enough k (n / 10) (n / 10) (omega arith) (omega arith)))

pub decimal-short : (n : ℕ) → n < 10 → decimal n ≡ digit n ∷ []
decimal-short n h = short n n h

pub decimal-long : (n : ℕ) → 10 ≤ n → decimal n ≡ decimal (n / 10) ++ (digit (n % 10) ∷ [])
decimal-long n h = long n n (omega arith) h
