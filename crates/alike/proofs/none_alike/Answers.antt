-- `alike::none_alike` meets its contract: codes are equal up to rotation if and only if their canonical keys are. Assumes nothing.
use mathlib.Core.Path.{sym, subst, ap, ◌∙◌}
use mathlib.Core.Bool.{not}
use Prim.Native.Nat.{ℕ, ◌≤◌}
use native.Mathlib.Nat.{min-le_right}
use native.Mathlib.Omega.{arith}
use lib.ListN.{length}
use lib.Seq.{length-take-le}
use Rattle.sorting.proofs.Front.{front_compared}
use Rattle.alike.specs.Alike.{two_alike}
use Rattle.alike.proofs.Laws.{answered}
use Rattle.alike.proofs.none_alike.Goals as goal
use Rattle.alike.proofs.none_alike.Goals.{After-min-n}

few : (c : After-min-n) → c.min-n.result ≤ 512
few c = subst (λ (n : ℕ). n ≤ 512) (sym c.min-n.ensures) (min-le_right c.args.count 512)

pub returns : goal.returns
returns c =
    let n = c.min-n.result in
    let room : n ≤ length c.put_least.new.least = omega (arith, few (goal.at.returns c).After-min-n, c.put_least.array_long) in
    let told = (front_compared room (rw (length-take-le n c.put_least.new.least room) at c.all_different.ensures)).told in
    answered c.args.bits c.args.codes.now n c.put_least.new.least c.all_different.result c.requires.0 c.put_least.ensures told
    ∙ ap (λ (m : ℕ). not (two_alike c.args.bits c.args.codes.now m)) c.min-n.ensures
