-- `link_check::missing::missing_from` meets its contract. The loop's invariant: the missing ones of the first corners are listed.
-- Assumes nothing.
use mathlib.Core.Path.{◌≡◌}
use lib.ListN.{take}
use Rattle.link_check.specs.Links.{is_reported}
use Rattle.link_check.specs.Violations.{without}
use Rattle.link_check.specs.Missing.{padded}
use Rattle.link_check.proofs.missing.missing_from.Given as goal

abbrev pub invariant-loop-corner : goal.invariant-loop-corner
invariant-loop-corner l =
    l.missing ≡ padded (without (is_reported l.links.words.now l.links.count l.marker) (take l.corner-index l.fn.four))
