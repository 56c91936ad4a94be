-- An integer from −m to m as an offset from −m. Assumes nothing.
use mathlib.Core.Path.{◌≡◌, sym, ap, ◌∙◌}
use mathlib.Core.Bool.{true}
use Prim.Native.Nat.{ℕ, ◌+◌, ◌*◌, ◌≤◌, ◌<◌}
use native.Mathlib.Omega.{arith}
use lib.IntN.{ℤ, pos, nat_abs, neg_ℤ, ◌+ℤ◌, ◌-ℤ◌, +ℤ-neg_ℤ_cancel}
use lib.Signed.{le_z}
use Rattle.integers.proofs.Tests.{both}
use Rattle.integers.proofs.Parts.{plus, minus, plus_neg, minus_neg, add_is, sub_is_parts, abs_is, no_minus, ext}
use Rattle.integers.proofs.Distances.{le_z→Le}
use Rattle.integers.specs.Distance.{is_within}

-- an integer from −m to m is some n from 0 to 2m, less m
pub offset_of : ℕ → ℤ → ℕ
offset_of m z = nat_abs (z +ℤ pos m)

module _ (m : ℕ) where
  parts_within : (z : ℤ) → is_within m z ≡ true → (minus z ≤ plus z + m) × (plus z ≤ minus z + m)
  unfolding plus minus
  parts_within z e =
      let h = both (le_z (neg_ℤ (pos m)) z) _ e in
      let a = le_z→Le (neg_ℤ (pos m)) z h.0 in
      let b = le_z→Le z (pos m) h.1 in
      (omega (arith, plus_neg (pos m), minus_neg (pos m)), omega arith)

  shifted : (z : ℤ) → is_within m z ≡ true → (minus (z +ℤ pos m) ≡ 0) × (plus (z +ℤ pos m) + minus z ≡ plus z + m)
  unfolding plus minus
  shifted z e =
      let a = parts_within z e in
      let b = add_is z (pos m) in
      let n = no_minus (z +ℤ pos m) (omega arith) in
      (n, omega arith)

  pub offset_small : (z : ℤ) → is_within m z ≡ true → offset_of m z < 2 * m + 1
  unfolding offset_of
  offset_small z e = omega (arith, parts_within z e, shifted z e, abs_is (z +ℤ pos m))

  pub offset_is : (z : ℤ) → is_within m z ≡ true → z +ℤ pos m ≡ pos (offset_of m z)
  unfolding offset_of plus minus
  offset_is z e = ext (z +ℤ pos m) (pos (nat_abs (z +ℤ pos m))) (omega (arith, shifted z e, abs_is (z +ℤ pos m)))

  pub offset_back : (z : ℤ) → is_within m z ≡ true → z ≡ pos (offset_of m z) -ℤ pos m
  offset_back z e = sym (ap (λ (y : ℤ). y -ℤ pos m) (sym (offset_is z e)) ∙ +ℤ-neg_ℤ_cancel z (pos m))

  pub offset_only : (a b : ℕ) → pos a -ℤ pos m ≡ pos b -ℤ pos m → a ≡ b
  unfolding plus minus
  offset_only a b e = omega (arith, sub_is_parts (pos a) (pos m), sub_is_parts (pos b) (pos m), ap plus e, ap minus e)
