-- `hypothesis::lookups::enumerate_hypotheses` meets its contract. Assumes nothing.
use Rattle.hypothesis.proofs.lookups.enumerate_hypotheses.Goals as goal

pub enumerate-requires : goal.enumerate-requires
enumerate-requires c = (c.requires.0, c.requires.1.input, c.requires.1)

pub returns : goal.returns
returns c s fit = c.enumerate.ensures s fit.input fit
