-- `link_check::passes::put_of_first` meets its contract: by whether the link is the first of its marker, and by what is expected of
-- that. Assumes nothing.
use mathlib.Core.Path.{◌≡◌, sym, ap, ap₂, ◌∙◌}
use mathlib.Core.List.{List, [], flat_map}
use native.Mathlib.Omega.{arith}
use lib.ListN.{length}
use Rattle.lent_list.specs.Front.{Put}
use Rattle.lent_list.proofs.Front.{nothing_put, put_as}
use Rattle.std.specs.Prelude.{Result}
use Rattle.board.specs.declared.Surrounding.{Surrounding}
use Rattle.link_check.specs.declared.LinkViolationKind.{LinkViolationKind}
use Rattle.link_check.specs.Violations.{Violation, expectation, of_marker, of_first, words_of_violations}
use Rattle.link_check.proofs.passes.put_of_first.Goals as goal
use Rattle.link_check.proofs.passes.put_of_first.Goals.{After-expectation, Start}

module _ (s : Start) where
  abbrev entries : List Violation
  entries = of_first s.args.links.words.now s.args.links.count s.args.standard.mode (expectation s.args.standard.board) s.args.k

  none : entries ≡ [] → Put s.args.violations.now s.args.violations.now s.args.at s.args.at (words_of_violations entries)
  unfolding flat_map
  none e = put_as (sym (ap words_of_violations e)) (nothing_put s.args.violations.now s.args.at)

pub returns-then-not-is_first : goal.returns-then-not-is_first
returns-then-not-is_first c = none (goal.at.returns-then-not-is_first c).Start (rw (sym c.is_first.ensures ∙ c.if-not-is_first.true))

-- the violations if the link is the first of its marker
entries_are : (c : After-expectation) (e : Result Surrounding LinkViolationKind) → c.expectation.result ≡ e → let x = c.args in
    of_first x.links.words.now x.links.count x.standard.mode (expectation x.standard.board) x.k
    ≡ of_marker x.links.words.now x.links.count x.standard.mode c.marker_of-marker.result e
entries_are c e told =
    let x = c.args in
    let same = c.marker_of-marker.ensures in
    rw (sym c.is_first.ensures ∙ c.if-not-is_first.false)
    (ap₂ (of_marker x.links.words.now x.links.count x.standard.mode) (sym same)
    (ap (expectation x.standard.board) (sym same) ∙ sym c.expectation.ensures ∙ told))

pub returns-in_default : goal.returns-in_default
returns-in_default c =
    none (goal.at.returns-in_default c).Start (entries_are (goal.at.returns-in_default c).After-expectation _ c.in_default.is)

pub put_of_four-requires : goal.put_of_four-requires
put_of_four-requires c =
    let are = entries_are (goal.at.put_of_four-requires c).After-expectation _ c.in-Ok.is in
    omega (arith, c.requires.room, ap (λ (vs : List Violation). length (words_of_violations vs)) are)

pub returns : goal.returns
returns c =
    put_as (sym (ap words_of_violations (entries_are (goal.at.returns c).After-expectation _ c.in-Ok.is))) c.put_of_four.ensures
