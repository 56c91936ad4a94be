-- `link_check::own::put_own` meets its contract: by what is expected of the marker. Assumes nothing.
use mathlib.Core.Path.{◌≡◌, sym, ◌∙◌}
use mathlib.Core.List.{flat_map}
use Rattle.lent_list.proofs.Front.{nothing_put}
use Rattle.link_check.specs.Violations.{four_of, has}
use Rattle.link_check.proofs.own.put_own.Goals as goal
use Rattle.link_check.proofs.own.put_own.Goals.{After-contains}

pub returns-in-Err : goal.returns-in-Err
unfolding flat_map
returns-in-Err c = rw (sym c.expectation.ensures ∙ c.in-Err.is) c.put_of_link.ensures

has_it : (c : After-contains) → c.contains.result ≡ has (four_of c.in-Ok.corners) c.args.corner
has_it c = rw c.four-four.ensures at c.contains.ensures.value

pub returns-then-contains : goal.returns-then-contains
unfolding flat_map
returns-then-contains c =
    let x = c.args in
    rw (sym c.expectation.ensures ∙ c.in-Ok.is, sym (has_it (goal.at.returns-then-contains c).After-contains) ∙ c.if-contains.true)
    (nothing_put x.violations.now x.at)

pub returns-else-contains : goal.returns-else-contains
unfolding flat_map
returns-else-contains c =
    rw (sym c.expectation.ensures ∙ c.in-Ok.is, sym (has_it (goal.at.returns-else-contains c).After-contains) ∙ c.if-contains.false)
    (rw c.four-four.ensures at c.put_of_link-in-Ok.ensures)
