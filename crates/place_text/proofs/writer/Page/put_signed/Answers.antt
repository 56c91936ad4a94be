-- `place_text::writer::Page::put_signed` meets its contract: a negative number is a minus sign and its size. Assumes nothing.
use mathlib.Core.Path.{◌≡◌, sym, ap, ◌∙◌}
use mathlib.Core.Bool.{true}
use mathlib.Core.List.{◌∷◌}
use Prim.Native.Nat.{ℕ}
use native.Mathlib.Omega.{arith}
use lib.IntN.{ℤ, pos, negsuc, nat_abs}
use lib.Signed.{lt_z}
use mir.Syntax.{w32}
use mir.Val.{to_z, of_z}
use mir.ValLaws.{to_z-of_z}
use borrow.Author.Tests.{ltb-true}
use Rattle.place_text.specs.Numerals.{decimal, signed_decimal}
use Rattle.place_text.proofs.Printing.{then, said}
use Rattle.place_text.proofs.writer.Page.put_signed.Goals as goal

minus : (z : ℤ) (n : ℕ) → n ≡ nat_abs z → lt_z z (pos 0) ≡ true → 45 ∷ decimal n ≡ signed_decimal z
minus (pos k) n e below = absurd (omega (arith, ltb-true k 0 below))
minus (negsuc k) n e below = ap (λ (m : ℕ). 45 ∷ decimal m) e

pub returns-then-z-lt0 : goal.returns-then-z-lt0
returns-then-z-lt0 c =
    let z = c.args.z in
    let back : to_z w32 (of_z w32 z) ≡ z = to_z-of_z w32 z c.ranges.z in
    let size : c.from-size.result ≡ nat_abs z = c.from-size.ensures ∙ c.unsigned_abs.ensures.value ∙ ap nat_abs back in
    said (minus z c.from-size.result size (ap (λ (y : ℤ). lt_z y (pos 0)) (sym back) ∙ c.if-z-lt0.true))
    (then c.put.ensures c.put_decimal.ensures)
