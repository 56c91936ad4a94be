-- `link_check::chained_links::ChainedLinks::found_before` meets its contract. The loop's invariant: no link before j has the marker and the
-- corner, and j has their key. Assumes nothing.
use mathlib.Core.Path.{sym, subst, ◌∙◌}
use mathlib.Core.Bool.{Bool}
use Prim.Native.Nat.{ℕ, ◌+◌, ◌<◌}
use native.Mathlib.Omega.{arith}
use lib.ListN.{get_or}
use Rattle.link_check.specs.Chains.{links_to}
use Rattle.integers.proofs.Tests.{any_true, any_false}
use Rattle.link_check.proofs.Chained.{Walked, walked_first, walked_next, walked_on}
use Rattle.link_check.proofs.chained_links.ChainedLinks.found_before.Goals as goal
use Rattle.link_check.proofs.chained_links.ChainedLinks.found_before.Goals.{After-key_for, In-loop-j}

-- the chain followed, from its first link
begun : (c : After-key_for) → let a = c.args in
    Walked a.by a.self.words.now a.self.count a.marker a.corner 0 (get_or c.chain-chain.result.now c.key_for.result 0)
begun c =
    let a = c.args in
    let chain = c.chain-chain.result.now in
    subst (λ (b : ℕ). Walked a.by a.self.words.now a.self.count a.marker a.corner 0 (get_or chain b 0)) (sym c.key_for.ensures.0)
    (walked_first a.by a.self.words.now a.self.count a.marker a.corner chain c.chain-chain.ensures)

-- and from a link to the next
next : (c : In-loop-j) → let a = c.args in let j = c.loop-j.j in
    Walked a.by a.self.words.now a.self.count a.marker a.corner (j + 1) (get_or c.chain-chain.result.now (4096 + j) 0)
next c =
    let a = c.args in
    let j = c.loop-j.j in
    let inside : j < a.self.count = omega arith in
    walked_next a.by a.self.words.now a.self.count a.marker a.corner c.chain-chain.result.now c.chain-chain.ensures j inside
    (c.loop-j.invariant.keyed inside)

pub returns-then-links_to : goal.returns-then-links_to
returns-then-links_to c =
    let a = c.args in
    let t : ℕ → Bool = links_to a.by a.self.words.now a.marker a.corner in
    sym (any_true t a.end c.loop-j.j (omega arith) (sym c.links_to.ensures ∙ c.if-links_to.true))

pub loop-j-preserved : goal.loop-j-preserved
loop-j-preserved c =
    let a = c.args in
    let j = c.loop-j.j in
    walked_on a.by a.self.words.now a.self.count a.marker a.corner 0 j (get_or c.chain-chain.result.now (4096 + j) 0) c.loop-j.invariant
    (sym c.links_to.ensures ∙ c.if-links_to.false) (next (goal.at.loop-j-preserved c).In-loop-j)

pub returns : goal.returns
returns c =
    let a = c.args in
    let t : ℕ → Bool = links_to a.by a.self.words.now a.marker a.corner in
    sym (any_false t a.end (λ j h. c.loop-j.invariant.passed j (omega arith) (omega arith)))
