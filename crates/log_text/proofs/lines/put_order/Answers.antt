-- `log_text::lines::put_order` meets its contract: by cases of the highest number. Assumes nothing.
use mathlib.Core.Path.{sym, ap, subst}
use Prim.Native.Nat.{◌≤◌}
use native.Mathlib.Omega.{arith}
use lib.ListN.{length}
use Rattle.place_text.proofs.Printing.{said}
use Rattle.log_text.specs.Lines.{order_line}
use Rattle.log_text.proofs.lines.put_order.Goals as goal
use Rattle.std.specs.Prelude.{Option, ℕ}

pub returns-in-None : goal.returns-in-None
returns-in-None c =
    let n = c.args.n in
    let e = sym c.in-None.is in record {
      line = said (ap (λ (h : Option ℕ). order_line h n) e) c.put_all.ensures;
      room = subst (λ (h : Option ℕ). length (order_line h n) ≤ 26) e (omega arith);
    }

pub returns-in-Some : goal.returns-in-Some
returns-in-Some c =
    let n = c.args.n in
    let e = sym c.in-Some.is in record {
      line = said (ap (λ (h : Option ℕ). order_line h n) e) c.put_step.ensures.line;
      room = subst (λ (h : Option ℕ). length (order_line h n) ≤ 26) e c.put_step.ensures.room;
    }
