-- Numbering on a board of bytes, with clipped coordinates.
-- Assumes nothing.
use mathlib.Core.Path.{◌≡◌, refl, sym, ap, ap₂, ◌∙◌}
use mathlib.Core.Bool.{Bool, true, false, cond, not}
use Prim.Native.Nat.{ℕ, ◌*◌, ◌^◌, ◌≤◌, ◌<◌}
use native.Mathlib.Nat.{mul-le-mul, lt_irrefl}
use native.Mathlib.Omega.{arith}
use lib.IntN.{ℤ, pos, negsuc}
use lib.Dec.{T, ltb, nltb→le}
use mir.Syntax.{w32}
use mir.Val.{SFits, to_z, of_z}
use mir.ValLaws.{to_z-of_z}
use Rattle.board.specs.Numbering.{number_at, number_atℤ, clipped}
use Rattle.board.proofs.Places.{unnumbered}

-- products of bytes are small
pub area_small : (a b : ℕ) → a < 2 ^ 8 → b < 2 ^ 8 → a * b ≤ 65025
area_small a b h k = mul-le-mul {n₁ = a} {m₁ = b} {n₂ = 255} {m₂ = 255} (omega arith) (omega arith)

module _ (t : ℕ → ℕ → Bool) (w h : ℕ) where
  -- clipping keeps the number
  number-clipped : (x y : ℤ) → number_at t w h (clipped w x) (clipped h y) ≡ number_atℤ t w h x y
  unfolding number_atℤ clipped
  number-clipped (negsuc i) y = unnumbered t w h w (clipped h y) (λ a b c. lt_irrefl w a)
  number-clipped (pos i) (negsuc j) = unnumbered t w h (cond (ltb i w) i w) h (λ a b c. lt_irrefl h b)
  number-clipped (pos i) (pos j) = columns (ltb i w) (nltb→le i w)
    where
      row : (b : Bool) → (T (not b) → h ≤ j) → number_at t w h i (cond b j h) ≡ number_at t w h i j
      row true off = refl
      row false off = unnumbered t w h i h (λ a b c. lt_irrefl h b) ∙ sym (unnumbered t w h i j (λ a b c. omega (arith, off tt)))

      columns : (b : Bool) → (T (not b) → w ≤ i) → number_at t w h (cond b i w) (cond (ltb j h) j h) ≡ number_at t w h i j
      columns true off = row (ltb j h) (nltb→le j h)
      columns false off =
          unnumbered t w h w (cond (ltb j h) j h) (λ a b c. lt_irrefl w a) ∙ sym (unnumbered t w h i j (λ a b c. omega (arith, off tt)))

  -- two coordinates that were decoded from their words and clipped
  pub number_read : (x y : ℤ) → SFits w32 x → SFits w32 y → (a b : ℕ) → a ≡ clipped w (to_z w32 (of_z w32 x)) → b ≡ clipped h (to_z w32 (of_z w32 y))
      → number_at t w h a b ≡ number_atℤ t w h x y
  number_read x y fx fy a b ea eb =
      ap₂ (number_at t w h) (ea ∙ ap (clipped w) (to_z-of_z w32 x fx)) (eb ∙ ap (clipped h) (to_z-of_z w32 y fy)) ∙ number-clipped x y
