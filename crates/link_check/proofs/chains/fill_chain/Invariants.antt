-- `link_check::chains::fill_chain` meets its contract. The loop's invariant: the links from k on are chained. Assumes nothing.
use Rattle.link_check.specs.Chains.{key_of, ChainedFrom}
use Rattle.link_check.proofs.chains.fill_chain.Given as goal

abbrev pub invariant-loop-k : goal.invariant-loop-k
invariant-loop-k l = ChainedFrom (key_of l.by l.links) l.n l.k l.chain
