-- Counting what passes a test: the count increases by one at each place that passes, so the count before a place determines it.
-- Assumes nothing.
use mathlib.Core.Path.{◌≡◌, refl, sym}
use mathlib.Core.Logic.{inl, inr}
use mathlib.Core.Bool.{Bool, true, false, not}
use Prim.Native.Nat.{ℕ, zero, suc, ◌+◌, ◌≤◌, ◌<◌}
use native.Mathlib.Nat.{eq-or-lt_of_le, le_refl}
use native.Mathlib.Decide.{le_ind}
use native.Mathlib.Omega.{arith}
use lib.Dec.{T, ltb, ltb→lt, nltb→le}
use Rattle.board.specs.Numbering.{as_one, count_passing}

pub one_true : (b : Bool) → T b → as_one b ≡ 1
one_true true h = refl
one_true false h = absurd h

pub one_false : (b : Bool) → (T b → ⊥) → as_one b ≡ 0
one_false true h = absurd (h tt)
one_false false h = refl

one-is : (b : Bool) → 0 < as_one b → T b
one-is true h = tt
one-is false h = absurd (omega arith)

pub one-small : (b : Bool) → as_one b ≤ 1
one-small true = omega arith
one-small false = omega arith

-- a place below n that passes, with m before it
pub record Passing (q : ℕ → Bool) (n m : ℕ) : Type 0 where
  pub rank : ℕ
  pub below : rank < n
  pub passes : T (q rank)
  pub counted : count_passing q rank ≡ m

module _ (q : ℕ → Bool) where
  pub count_suc : (n : ℕ) → count_passing q (suc n) ≡ count_passing q n + as_one (q n)
  unfolding count_passing
  count_suc n = refl

  pub count_at-most : (n : ℕ) → count_passing q n ≤ n
  unfolding count_passing
  count_at-most zero = omega arith
  count_at-most (suc n) = omega (arith, count_at-most n, one-small (q n))

  -- the count is nondecreasing, and greater after a place that passes
  pub count_mono : (a b : ℕ) → a ≤ b → count_passing q a ≤ count_passing q b
  count_mono a b h = le_ind (λ n. count_passing q a ≤ count_passing q n) (le_refl (count_passing q a)) (λ n k e. omega (arith, count_suc n)) b h

  pub count_under : (a b : ℕ) → count_passing q a < count_passing q b → a < b
  count_under a b l = go (ltb a b) (ltb→lt a b) (nltb→le a b)
    where
      go : (c : Bool) → (T c → a < b) → (T (not c) → b ≤ a) → a < b
      go true h k = h tt
      go false h k = absurd (omega (arith, count_mono b a (k tt)))

  pub count_past : (a b : ℕ) → a < b → T (q a) → count_passing q a < count_passing q b
  count_past a b h t = omega (arith, count_mono (suc a) b h, count_suc a, one_true (q a) t)

  -- places that pass have distinct counts before them
  pub count-once : (a b : ℕ) → T (q a) → T (q b) → count_passing q a ≡ count_passing q b → a ≡ b
  count-once a b s t e = go (ltb a b) (ltb→lt a b) (nltb→le a b)
    where
      go : (c : Bool) → (T c → a < b) → (T (not c) → b ≤ a) → a ≡ b
      go true h k = absurd (omega (arith, count_past a b (h tt) s))
      go false h k = elim (eq-or-lt_of_le (k tt)) [ inl p ↦ sym p | inr l ↦ absurd (omega (arith, count_past b a l t)) ]

  -- each number below the count is that of a place
  pub reached : (n m : ℕ) → m < count_passing q n → Passing q n m
  unfolding count_passing
  reached zero m h = absurd (omega arith)
  reached (suc n) m h = go (ltb m (count_passing q n)) (ltb→lt m (count_passing q n)) (nltb→le m (count_passing q n)) (reached n m)
    where
      go : (c : Bool) → (T c → m < count_passing q n) → (T (not c) → count_passing q n ≤ m) → (m < count_passing q n → Passing q n m) → Passing q (suc n) m
      go true l k r = let p = r (l tt) in record { rank = p.rank; below = omega (arith, p.below); passes = p.passes; counted = p.counted }
      go false l k r =
          let e = k tt in
          record { rank = n; below = omega arith; passes = one-is (q n) (omega (arith, count_suc n)); counted = omega (arith, count_suc n, one-small (q n)) }
