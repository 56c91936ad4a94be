-- `place_text::writer::Page::put_hypothesis` meets its contract: word by word, tx and ty read back from their words. Assumes nothing.
use mathlib.Core.Path.{ap}
use mathlib.Core.List.{◌∷◌}
use lib.IntN.{ℤ}
use mir.Syntax.{w32}
use mir.ValLaws.{to_z-of_z}
use borrow.Author.Rules.{rules}
use Rattle.place_text.specs.Numerals.{signed_decimal}
use Rattle.place_text.proofs.Printing.{then, said}
use Rattle.place_text.proofs.writer.Page.put_hypothesis.Goals as goal

pub returns : goal.returns
returns c =
    let a = c.args.h.alignment in
    let back_x = ap (λ (z : ℤ). 32 ∷ signed_decimal z) (to_z-of_z w32 a.tx (search rules)) in
    let back_y = ap (λ (z : ℤ). 32 ∷ signed_decimal z) (to_z-of_z w32 a.ty (search rules)) in
    then c.put_all.ensures (then c.and_decimal.ensures (then (said back_x c.and_signed.ensures)
    (then (said back_y c.and_signed-2.ensures) (then c.and_evidence.ensures (then c.and_decimal-2.ensures c.put.ensures)))))
