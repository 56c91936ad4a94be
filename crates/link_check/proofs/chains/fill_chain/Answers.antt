-- `link_check::chains::fill_chain` meets its contract. The loop's invariant: the links from k on are chained. Assumes nothing.
use mathlib.Core.Path.{◌≡◌, ap, ap₂, subst, ◌∙◌}
use mathlib.Core.List.{List, ◌++◌}
use Prim.Native.Nat.{ℕ, ◌+◌, ◌-◌}
use native.Mathlib.Omega.{arith}
use lib.ListN.{length, get_or, take, drop, length-append, length-drop, get_or-append}
use borrow.Author.Rules.{rules}
use Rattle.std.proofs.lemmas.List.{length-take, get_or-replicate}
use Rattle.link_check.specs.Chains.{key_for, key_of, ChainedFrom}
use Rattle.link_check.proofs.Chained.{none_chained, one_chained}
use Rattle.link_check.proofs.chains.fill_chain.Goals as goal

-- the front of a list is written over
written_over : (front list : List ℕ) (k : ℕ) → length front ≡ length (take k list) → length (front ++ drop k list) ≡ length list
written_over front list k e = omega (arith, length-append front (drop k list), length-drop k list, length-take k list)

pub loop-k-init : goal.loop-k-init
loop-k-init c =
    let a = c.args in
    let front = c.fill.new.self in
    let cleared = c.fill.ensures in
    let whole : length a.chain.now ≡ 8192 = omega arith in
    none_chained (key_of a.by a.links.now) a.n _ (search (rules, written_over, cleared.len, whole))
    (λ b h. get_or-append front _ 0 b (omega (arith, cleared.len, length-take {A = ℕ})) ∙ ap (λ (l : List ℕ). get_or l b 0) (cleared.after (λ y e. e))
    ∙ get_or-replicate _ b a.n 0 (omega (arith, length-take {A = ℕ})))

pub loop-k-preserved : goal.loop-k-preserved
loop-k-preserved c =
    let a = c.args in
    let b = c.key_for-b in
    let w = c.loop-k in
    let k = w.k - 1 in
    let same : w.k ≡ k + 1 = omega arith in
    let chained = subst (λ (i : ℕ). ChainedFrom (key_of a.by a.links.now) a.n i w.chain) same w.invariant in
    one_chained (key_of a.by a.links.now) a.n k b.result w.chain chained (omega arith) c.requires
    (b.ensures.0 ∙ ap₂ (key_for a.by) c.marker_of.ensures c.corner_of.ensures) b.ensures.1

pub returns : goal.returns
returns c =
    let a = c.args in
    let w = c.loop-k in
    let e : w.k ≡ 0 = omega arith in
    subst (λ (i : ℕ). ChainedFrom (key_of a.by a.links.now) a.n i w.chain) e w.invariant
