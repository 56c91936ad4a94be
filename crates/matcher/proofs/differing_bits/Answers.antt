-- `matcher::differing_bits` meets its contract. Assumes nothing.
use Rattle.matcher.proofs.Differing.{differing-is}
use Rattle.matcher.proofs.differing_bits.Goals as goal

pub returns : goal.returns
returns c = differing-is c.args.a c.args.b 64 c.ranges.a.fits c.ranges.b.fits
