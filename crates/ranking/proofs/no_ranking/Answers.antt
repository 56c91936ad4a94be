-- `ranking::no_ranking` meets its contract. Assumes nothing.
use mathlib.Core.Path.{refl}
use Rattle.ranking.specs.Greatest.{first_greatest, rest}
use Rattle.ranking.proofs.no_ranking.Goals as goal

pub returns : goal.returns
unfolding first_greatest rest
returns c = refl
