-- `link_check::repeats::put_repeat` meets its contract: by its two tests. Assumes nothing.
use mathlib.Core.Path.{◌≡◌, sym, ap, ◌∙◌}
use mathlib.Core.Bool.{and-false}
use mathlib.Core.List.{flat_map}
use Prim.Native.Nat.{ℕ}
use native.Mathlib.Omega.{arith}
use lib.ListN.{length}
use borrow.Author.Tests.{eq-eqb, ne_eqb}
use Rattle.lent_list.proofs.Front.{nothing_put, put_as}
use Rattle.link_check.specs.declared.LinkViolationKind.TheVariants.{DuplicateCorner}
use Rattle.link_check.specs.Links.{link_marker}
use Rattle.link_check.specs.Violations.{four_of, repeat_at, of_link, violation_words, words_of_violations}
use Rattle.link_check.proofs.repeats.put_repeat.Goals as goal
use Rattle.link_check.proofs.repeats.put_repeat.Goals.{After-corner_of, then-marker_of-expected-via-then-marker_of-expected}
use Rattle.link_check.proofs.repeats.put_repeat.Goals.{then-marker_of-expected-via-else-marker_of-expected+then-not-is_repeated}

pub returns-then-marker_of-expected : goal.returns-then-marker_of-expected
unfolding flat_map
returns-then-marker_of-expected c =
    let x = c.args in
    let none = nothing_put x.violations.now x.at in
    (elim c.then-marker_of-expected.branch [
      | then-marker_of-expected-via-then-marker_of-expected w ↦
          rw (ne_eqb (link_marker x.links.words.now x.k) x.expected.marker (λ q. w.if-marker_of-expected.true (c.marker_of.ensures ∙ q))) none
      | then-marker_of-expected-via-else-marker_of-expected+then-not-is_repeated w ↦
          rw (sym w.is_repeated.ensures ∙ w.if-not-is_repeated.true, and-false) none
    ])

-- after both tests
words_are : (c : After-corner_of) → let x = c.args in
    violation_words (of_link DuplicateCorner x.expected.marker c.corner_of.result (four_of x.expected.corners))
    ≡ words_of_violations (repeat_at x.links.words.now x.expected.marker (four_of x.expected.corners) x.k)
unfolding flat_map
words_are c =
    let x = c.args in
    ap (λ (k : ℕ). violation_words (of_link DuplicateCorner x.expected.marker k (four_of x.expected.corners))) c.corner_of.ensures
    ∙ rw (
      eq-eqb (link_marker x.links.words.now x.k) x.expected.marker (sym c.marker_of.ensures ∙ c.if-marker_of-expected.false),
      sym c.is_repeated.ensures ∙ c.if-not-is_repeated.false,
    )

pub put_of_link-requires : goal.put_of_link-requires
put_of_link-requires c = omega (arith, c.requires.room, ap length (words_are (goal.at.put_of_link-requires c).After-corner_of))

pub returns : goal.returns
returns c = put_as (words_are (goal.at.returns c).After-corner_of) (rw c.four.ensures at c.put_of_link.ensures)
