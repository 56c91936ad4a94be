-- `points::all_different` meets its contract: points with distinct residues are distinct. Assumes nothing.
use mathlib.Core.Path.{◌≡◌, ap, ◌∙◌}
use mathlib.Core.Bool.{true}
use native.Mathlib.Omega.{arith}
use borrow.Author.Rules.{rules}
use lib.ListN.{length}
use Rattle.sorting.proofs.Comparing.{if_different, told_same}
use Rattle.points.specs.Points.{residue_of}
use Rattle.points.proofs.Words.{told_apart}
use Rattle.points.proofs.all_different.Goals as goal

pub returns-then-apart : goal.returns-then-apart
returns-then-apart c =
    told_apart c.args.index.now c.args.n true c.requires.1
    (if_different (λ i j l h e. c.apart.ensures.different c.if-apart.true i j l h (ap residue_of e)))

pub returns : goal.returns
returns c =
    let held = c.put_points.ensures in
    let e : length c.put_points.new.words ≡ c.args.n = held.size ∙ search rules in
    told_apart c.args.index.now c.args.n c.all_different.result c.requires.1
    (told_same (λ k h. held.holds k (omega (arith, held.size, e, h))) (rw e at c.all_different.ensures.told))
