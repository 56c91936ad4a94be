-- `shot_record::maps::is_set` meets its contract. Assumes nothing.
use mathlib.Core.Path.{ap, sym, ◌∙◌}
use Prim.Native.Nat.{ℕ, ◌%◌}
use native.Mathlib.Omega.{arith}
use Rattle.shot_record.specs.Fields.{map_size, map_of, is_set}
use Rattle.shot_record.proofs.Reading.{number_bit, flag_alike}
use Rattle.shot_record.proofs.maps.is_set.Goals as goal

pub returns : goal.returns
returns c n h =
    let x = c.args in
    c.is_set.ensures ∙ ap (λ (b : ℕ). is_set b (x.k % 8)) c.byte_at.ensures
    ∙ flag_alike _ _ (map_of n x.at x.bytes.now) x.k (sym (number_bit x.bytes.now (λ i. (c.type_inv.bytes i).fits) (map_size n) x.at x.k (omega (arith, h))))
