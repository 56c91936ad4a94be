-- `place_text::writer::Page::put_refusal` meets its contract: by cases of whether the number is 16. Assumes nothing.
use mathlib.Core.Path.{◌≡◌, sym, ap, ap₂, ◌∙◌}
use mathlib.Core.Bool.{Bool, cond}
use mathlib.Core.List.{List, [], ◌∷◌}
use Prim.Native.Nat.{ℕ}
use lib.ListN.{get_or}
use borrow.Author.Tests.{eq-eqb, ne_eqb}
use Rattle.refusal.specs.declared.Refusal.{Refusal}
use Rattle.refusal.specs.Numbers.{number_of, values_of}
use Rattle.place_text.specs.Numerals.{hex8, decimal}
use Rattle.place_text.specs.Text.{line, the_refused, refusal_line}
use Rattle.place_text.proofs.Printing.{then, said}
use Rattle.place_text.proofs.writer.Page.put_refusal.Goals as goal

-- by cases of the test
abbrev printed : Refusal → Bool → List ℕ
printed r b = line the_refused (decimal (number_of r) ∷ cond b (hex8 (get_or (values_of r) 0 0) ∷ []) [])

other : (r : Refusal) {n : ℕ} → n ≡ number_of r → (n ≡ 16 → ⊥) → line the_refused (decimal n ∷ []) ≡ refusal_line r
unfolding refusal_line
other r e h =
    ap (λ (m : ℕ). line the_refused (decimal m ∷ [])) e ∙ ap (printed r) (sym (ne_eqb (number_of r) 16 (λ q. h (e ∙ q))))

sixteen : (r : Refusal) {n v : ℕ} → n ≡ number_of r → v ≡ get_or (values_of r) 0 0 → n ≡ 16 → line the_refused (decimal n ∷ hex8 v ∷ []) ≡ refusal_line r
unfolding refusal_line
sixteen r e f h =
    ap₂ (λ (m w : ℕ). line the_refused (decimal m ∷ hex8 w ∷ [])) e f ∙ ap (printed r) (sym (eq-eqb (number_of r) 16 (sym e ∙ h)))

pub returns-then-number-ne16 : goal.returns-then-number-ne16
returns-then-number-ne16 c = said (other c.args.refusal c.number-number.ensures c.if-number-ne16.true) c.put_number.ensures

pub returns : goal.returns
returns c =
    said (sixteen c.args.refusal c.number-number.ensures c.value.ensures c.if-number-ne16.false)
    (then c.put_all.ensures (then c.and_decimal.ensures (then c.and_hex8.ensures c.put.ensures)))
