-- `link_check::repeats::put_repeats` meets its contract. The loop's invariant: the violations of the links before k are written, and k has
-- the marker's key. Assumes nothing.
use mathlib.Core.Path.{sym, subst}
use mathlib.Core.List.{List}
use Prim.Native.Nat.{ℕ, ◌+◌, ◌<◌}
use native.Mathlib.Omega.{arith}
use lib.ListN.{get_or}
use Rattle.lent_list.specs.Front.{Put}
use Rattle.lent_list.proofs.Loops.{PutTo, none_to, to_room, to_more}
use Rattle.link_check.specs.declared.chains.By.TheVariants.{Marker}
use Rattle.link_check.specs.Violations.{Violation, four_of, repeat_at, violation_words, words_of_violations}
use Rattle.link_check.proofs.Chained.{Walked, walked_first, walked_next}
use Rattle.link_check.proofs.Passing.{passed_over}
use Rattle.link_check.proofs.repeats.put_repeats.Goals as goal
use Rattle.link_check.proofs.repeats.put_repeats.Goals.{After-key_for, In-loop-k, Start}

module _ (s : Start) where
  abbrev four : List ℕ
  four = four_of s.args.expected.corners

  abbrev entry : ℕ → List Violation
  entry = repeat_at s.args.links.words.now s.args.expected.marker four

  abbrev Wrote : List ℕ → ℕ → ℕ → Type 0
  Wrote = PutTo violation_words entry s.args.violations.now s.args.at s.args.links.count s.requires

  over : (violations : List ℕ) (end i j : ℕ) → Walked Marker s.args.links.words.now s.args.links.count s.args.expected.marker 0 i j
      → Wrote violations end i → Wrote violations end j
  over violations end i j w p =
      subst (λ (vs : List Violation). Put s.args.violations.now violations s.args.at end (words_of_violations vs))
      (sym (passed_over s.args.links.words.now s.args.expected.marker four s.args.links.count i j w)) p

begun : (c : After-key_for) → let a = c.args in
    Walked Marker a.links.words.now a.links.count a.expected.marker 0 0 (get_or a.links.by_marker.now c.key_for.result 0)
begun c =
    let a = c.args in
    let chain = a.links.by_marker.now in
    subst (λ (b : ℕ). Walked Marker a.links.words.now a.links.count a.expected.marker 0 0 (get_or chain b 0)) (sym c.key_for.ensures.0)
    (walked_first Marker a.links.words.now a.links.count a.expected.marker 0 chain a.links.marker_chained)

next : (c : In-loop-k) → let a = c.args in let k = c.loop-k.k in
    Walked Marker a.links.words.now a.links.count a.expected.marker 0 (k + 1) (get_or a.links.by_marker.now (4096 + k) 0)
next c =
    let a = c.args in
    let inside : c.loop-k.k < a.links.count = omega arith in
    walked_next Marker a.links.words.now a.links.count a.expected.marker 0 a.links.by_marker.now a.links.marker_chained c.loop-k.k inside
    (c.loop-k.invariant.1 inside)

pub loop-k-init : goal.loop-k-init
loop-k-init c =
    let s = (goal.at.loop-k-init c).Start in
    let w = begun (goal.at.loop-k-init c).After-key_for in
    let x = c.args in
    (w.most, w.keyed, over s x.violations.now x.at 0 _ w (none_to violation_words (entry s) x.violations.now x.at x.links.count c.requires))

pub put_repeat-end-requires : goal.put_repeat-end-requires
put_repeat-end-requires c =
    let x = c.args in record {
      inside = omega arith;
      room = to_room violation_words (entry (goal.at.put_repeat-end-requires c).Start) x.violations.now x.at x.links.count c.requires c.loop-k.k
          c.loop-k.invariant.2 (omega arith);
    }

pub loop-k-preserved : goal.loop-k-preserved
loop-k-preserved c =
    let s = (goal.at.loop-k-preserved c).Start in
    let x = c.args in
    let w = next (goal.at.loop-k-preserved c).In-loop-k in
    let more = to_more violation_words (entry s) x.violations.now x.at x.links.count c.requires c.loop-k.k c.loop-k.invariant.2 c.put_repeat-end.ensures in
    (w.most, w.keyed, over s _ c.put_repeat-end.result (c.loop-k.k + 1) _ w more)
