-- What the check of a grid ensures. Assumes nothing.
use mathlib.Core.Path.{◌≡◌, sym, subst}
use mathlib.Core.Bool.{true}
use Prim.Native.Nat.{ℕ, ◌*◌, ◌≤◌}
use lib.Dec.{T, leb, eqb, leb→le, eqb→eq}
use lib.Ieee.Fits.{and_l, and_r}
use Rattle.score_matrix.specs.Scores.{side}
use Rattle.oracle_exports.specs.Words.{whole_grid}

pub whole : (n bits border : ℕ) → whole_grid n bits border ≡ true → (bits ≤ 8) × (n ≡ side bits border * side bits border)
whole n bits border e =
    let t : T (whole_grid n bits border) = subst T (sym e) tt in
    let a = leb bits 8 in
    let b = eqb n (side bits border * side bits border) in
    (leb→le bits 8 (and_l a b t), eqb→eq n (side bits border * side bits border) (and_r a b t))
