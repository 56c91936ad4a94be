-- `board_match::questions::in_unit_interval` meets its contract: its bounds are 0 and 1, as bit patterns. Assumes nothing.
use mathlib.Core.Path.{◌≡◌, refl, sym, ap, ◌∙◌}
use mathlib.Core.Bool.{Bool, ◌&&◌}
use lib.Ieee.{Float, binary32, of_bits, of_fields, odd, le}
use Rattle.floats.specs.Units.{nought, unity}
use Rattle.board_match.specs.Questions.{in_unit_interval}
use Rattle.board_match.proofs.questions.in_unit_interval.Goals as goal

zero_is : of_bits binary32 0 ≡ nought
unfolding of_bits of_fields odd
zero_is = refl

one-is : of_bits binary32 0x3F800000 ≡ unity
unfolding of_bits of_fields odd
one-is = refl

-- by cases of the first test
first : (x : Float) (b : Bool) → le (of_bits binary32 0) x ≡ b → (b && le x (of_bits binary32 0x3F800000)) ≡ in_unit_interval x
first x b e =
    ap (λ (a : Bool). a && le x (of_bits binary32 0x3F800000)) (sym e ∙ ap (λ (y : Float). le y x) zero_is)
    ∙ ap (λ (y : Float). le nought x && le x y) one-is

pub returns-then-x : goal.returns-then-x
returns-then-x c = first c.args.x _ c.if-x.true

pub returns-else-x : goal.returns-else-x
returns-else-x c = c.if-x.false ∙ first c.args.x _ c.if-x.false
