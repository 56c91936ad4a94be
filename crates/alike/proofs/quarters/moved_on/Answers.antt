-- `alike::quarters::moved_on` meets its contract. Assumes nothing.
use native.Mathlib.Omega.{arith}
use Rattle.alike.proofs.QuarterTurns.{moved-below, word_fits, moved_word}
use Rattle.alike.proofs.quarters.moved_on.Goals as goal

pub overflow_add-result : goal.overflow_add-result
overflow_add-result c =
    let x = c.args in
    let fits = c.requires.1 in
    record { fits = omega (arith, moved_word x.m x.w fits c.requires.0, moved-below x.m x.w fits, word_fits x.m x.w fits c.requires.0) }

pub returns : goal.returns
returns c = moved_word c.args.m c.args.w c.requires.1 c.requires.0
