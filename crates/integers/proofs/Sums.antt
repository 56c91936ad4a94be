-- Sum and difference of two 32-bit words without overflow. Assumes nothing.
use mathlib.Core.Path.{◌≡◌, sym, ap₂, subst}
use Prim.Native.Nat.{◌+◌, ◌^◌, ◌≤◌, ◌<◌}
use native.Mathlib.Omega.{arith}
use lib.IntN.{ℤ, nat_abs}
use mir.Syntax.{w32}
use mir.Val.{SFits}
use Rattle.integers.proofs.Parts.{small-fits}
use Rattle.integers.proofs.Words.{word, word-is}

-- the operation on the words of p and q does not overflow, and its word decodes to z
pub record Exact (op : ℤ → ℤ → ℤ) (p q z : ℤ) : Type 0 where
  pub fits : SFits w32 (op (word p) (word q))
  pub reads : word (op (word p) (word q)) ≡ z

pub exact : {op : ℤ → ℤ → ℤ} {p q z : ℤ} → op (word p) (word q) ≡ z → nat_abs z < 2 ^ 31 → Exact op p q z
exact {z} e h = record { fits = subst (SFits w32) (sym e) (small-fits z h); reads = word-is z e h }

-- for an operation whose result is at most |a| + |b|
pub exact_op : (op : ℤ → ℤ → ℤ) → ((a b : ℤ) → nat_abs (op a b) ≤ nat_abs a + nat_abs b) → {p q : ℤ} (x y : ℤ) → word p ≡ x → word q ≡ y
    → nat_abs x + nat_abs y < 2 ^ 31 → Exact op p q (op x y)
exact_op op size x y ex ey small = exact (ap₂ op ex ey) (omega (arith, size x y))
