-- `shot_record::maps::is_clear` meets its contract. Assumes nothing.
use Rattle.std.proofs.Common.{ℕ, ◌/◌, ◌%◌, ◌^◌, ap, sym, ◌∙◌}
use native.Mathlib.Nat.{pos_of_ne-zero}
use lib.Dec.{eqb}
use borrow.Author.Tests.{lt-ltb}
use Rattle.shot_record.specs.Fields.{map_of}
use Rattle.shot_record.proofs.Reading.{no_spare, spare}
use Rattle.shot_record.proofs.maps.is_clear.Goals as goal

pub returns-then-used-eq0 : goal.returns-then-used-eq0
returns-then-used-eq0 c =
    let x = c.args in
    sym (lt-ltb (map_of x.n x.at x.bytes.now) (2 ^ x.n) (no_spare x.bytes.now (λ i. (c.type_inv.bytes i).fits) x.n x.at c.if-used-eq0.true))

pub returns : goal.returns
returns c =
    let x = c.args in
    ap (λ (b : ℕ). eqb (b / 2 ^ (x.n % 8)) 0) c.byte_at.ensures
    ∙ spare x.bytes.now (λ i. (c.type_inv.bytes i).fits) x.n x.at (pos_of_ne-zero c.if-used-eq0.false)
