-- `log_text::lines::put_step` meets its contract: by cases of its two tests. Assumes nothing.
use mathlib.Core.Path.{◌≡◌, refl, sym, ap₂}
use mathlib.Core.Bool.{Bool, cond}
use mathlib.Core.List.{[], ◌∷◌}
use Prim.Native.Nat.{ℕ, ◌+◌, ◌-◌}
use lib.Dec.{leb, ltb}
use borrow.Author.Tests.{le-leb, lt-leb, lt-ltb, le-ltb}
use Rattle.place_text.specs.Numerals.{decimal}
use Rattle.place_text.specs.Text.{line}
use Rattle.place_text.proofs.Printing.{then, said}
use Rattle.log_text.specs.Lines.{the_gap, the_backward, step_line}
use Rattle.log_text.proofs.Lengths.{step_room}
use Rattle.log_text.proofs.lines.put_step.Goals as goal

by_tests : (h n : ℕ) {a b : Bool} → leb n h ≡ a → ltb (h + 1) n ≡ b
    → cond a (line the_backward []) (cond b (line the_gap (decimal (h + 1) ∷ decimal (n - 1) ∷ [])) []) ≡ step_line h n
by_tests h n ea eb =
    sym (ap₂ (λ (x y : Bool). cond x (line the_backward []) (cond y (line the_gap (decimal (h + 1) ∷ decimal (n - 1) ∷ [])) [])) ea eb)

pub returns-then-n-h : goal.returns-then-n-h
returns-then-n-h c =
    let h = c.args.h in
    let n = c.args.n in record {
      line = said (by_tests h n (le-leb n h c.if-n-h.true) refl) c.put_all.ensures;
      room = step_room h n c.ranges.h.fits c.ranges.n.fits;
    }

pub returns-then-first-n : goal.returns-then-first-n
returns-then-first-n c =
    let h = c.args.h in
    let n = c.args.n in record {
      line = said (by_tests h n (lt-leb n h c.if-n-h.false) (lt-ltb (h + 1) n c.if-first-n.true))
          (then c.put_all-then-first-n.ensures (then c.and_decimal.ensures (then c.and_decimal-then-first-n.ensures c.put.ensures)));
      room = step_room h n c.ranges.h.fits c.ranges.n.fits;
    }

pub returns : goal.returns
returns c =
    let h = c.args.h in
    let n = c.args.n in record {
      line = said (by_tests h n (lt-leb n h c.if-n-h.false) (le-ltb (h + 1) n c.if-first-n.false)) c.put_all-2.ensures;
      room = step_room h n c.ranges.h.fits c.ranges.n.fits;
    }
