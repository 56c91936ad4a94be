-- `place_text::writer::Page::put_float` meets its contract. Assumes nothing.
use mathlib.Core.Path.{ap}
use mathlib.Core.List.{◌∷◌}
use Prim.Native.Nat.{ℕ}
use Rattle.place_text.specs.Numerals.{hex8}
use Rattle.place_text.proofs.Printing.{then, said}
use Rattle.place_text.proofs.writer.Page.put_float.Goals as goal

pub returns : goal.returns
returns c =
    let bits = ap (λ (n : ℕ). 32 ∷ hex8 n) c.to_bits.ensures in
    then c.put_all.ensures (then (said bits c.and_hex8.ensures) c.put.ensures)
