-- `floats::is_finite_pattern` meets its contract: a pattern is finite if the exponent field, which is at most 255, is not 255.
-- Assumes nothing.
use mathlib.Core.Path.{◌≡◌, refl, sym, ◌∙◌}
use mathlib.Core.Bool.{Bool, true, false, not, cond}
use Prim.Native.Nat.{ℕ, zero, suc, ◌+◌, ◌%◌, ◌/◌, ◌^◌}
use native.Mathlib.Omega.{arith}
use lib.Dec.{ltb, eqb}
use lib.Ieee.{nan, inf, binary32, odd, of_fields, of_bits}
use lib.Ieee.Scale.{finite}
use borrow.Author.Tests.{eqb-true, eqb-false, lt-ltb, le-ltb}
use Rattle.floats.proofs.is_finite_pattern.Goals as goal

odd_finite : (d : ℕ) (s : Bool) (q k l : ℕ) → finite (odd d s q k l) ≡ true
unfolding odd
odd_finite d s zero k l = refl
odd_finite d s (suc q) k l = refl

fields_finite : (s : Bool) (x t : ℕ) → finite (of_fields binary32 s x t) ≡ not (eqb x 255)
unfolding of_fields
fields_finite s zero t = odd_finite 24 s t 0 149
fields_finite s (suc x) t = go (eqb (suc x) 255) (eqb t 0)
  where
    go : (a b : Bool) → finite (cond a (cond b (inf s) nan) (odd 24 s (2 ^ 23 + t) x 149)) ≡ not a
    go true true = refl
    go true false = refl
    go false b = odd_finite 24 s (2 ^ 23 + t) x 149

below : (n : ℕ) → ltb (n % 2 ^ 31) 0x7F800000 ≡ not (eqb (n % 2 ^ 31 / 2 ^ 23) 255)
below n = go (eqb (n % 2 ^ 31 / 2 ^ 23) 255) refl
  where
    go : (b : Bool) → eqb (n % 2 ^ 31 / 2 ^ 23) 255 ≡ b → ltb (n % 2 ^ 31) 0x7F800000 ≡ not b
    go true e = le-ltb (n % 2 ^ 31) 0x7F800000 (omega (arith, eqb-true))
    go false e = lt-ltb (n % 2 ^ 31) 0x7F800000 (omega (arith, eqb-false))

pub returns : goal.returns
unfolding of_bits
returns c =
    let n = c.args.bits in
    below n ∙ sym (fields_finite _ (n % 2 ^ 31 / 2 ^ 23) (n % 2 ^ 23))
