-- `place_text::writer::Page::and_signed_word` meets its contract: a word is printed as the integer with its bits. Assumes nothing.
use Rattle.std.proofs.Common.{◌≡◌, refl, sym, ap, ◌∙◌, ℕ, suc, ◌-◌, ◌^◌, ◌<◌, ◌≤◌, List, ◌∷◌, Bool, true, false, cond, ltb, ℤ, arith, w32, to_z, of_z}
use Rattle.std.proofs.Math.Facts.{to_z_pos, to_z-neg}
use mir.ValLaws.{to_z-of_z}
use borrow.Author.Tests.{ltb-true, ltb-false}
use Rattle.place_text.specs.Numerals.{decimal, signed_decimal, signed_word}
use Rattle.place_text.proofs.Printing.{said}
use Rattle.place_text.proofs.writer.Page.and_signed_word.Goals as goal

-- by cases of the word's first bit
signed_is : (n : ℕ) → n < 2 ^ 32 → signed_decimal (to_z w32 n) ≡ signed_word n
signed_is n fits = go (ltb n 2147483648) (ltb-true n 2147483648) (ltb-false n 2147483648)
  where
    go : (b : Bool) → (b ≡ true → n < 2147483648) → (b ≡ false → 2147483648 ≤ n) → signed_decimal (to_z w32 n) ≡ cond b (decimal n) (45 ∷ decimal (4294967296 - n))
    go true h _ = ap signed_decimal (to_z_pos w32 (h refl))
    go false _ h =
        let k = 4294967296 - n - 1 in
        let e : 2 ^ 32 - suc k ≡ n = omega (arith, h refl, fits) in
        let s : suc k ≡ 4294967296 - n = omega (arith, h refl, fits) in
        ap (λ (m : ℕ). signed_decimal (to_z w32 m)) (sym e) ∙ ap signed_decimal (to_z-neg w32 k (omega (arith, h refl))) ∙ ap (λ (m : ℕ). 45 ∷ decimal m) s

pub returns : goal.returns
returns c =
    let back : to_z w32 (of_z w32 c.cast_signed.result) ≡ to_z w32 c.word.result =
    to_z-of_z w32 c.cast_signed.result (record { sfits = c.cast_signed.type_inv }) ∙ c.cast_signed.ensures in
    said
    (ap (λ (z : ℤ). 32 ∷ signed_decimal z) back ∙ ap (λ (l : List ℕ). 32 ∷ l) (signed_is c.word.result c.word.type_inv)
    ∙ ap (λ (n : ℕ). 32 ∷ signed_word n) c.word.ensures)
    c.and_signed.ensures
