-- `log_text::feed` meets its contract: entry by entry, and each is within the bytes. Assumes nothing.
use mathlib.Core.Path.{◌≡◌, sym, ap, ◌∙◌}
use mathlib.Core.Bool.{false}
use Prim.Native.Nat.{ℕ}
use native.Mathlib.Omega.{arith}
use lib.ListN.{drop}
use Rattle.log_text.specs.Log.{is_whole}
use Rattle.log_text.proofs.Feeding.{next_fed, tail_part, no_end}
use Rattle.log_text.proofs.Lengths.{full-has-entry}
use Rattle.log_text.proofs.feed.Goals as goal
use Rattle.log_text.proofs.feed.Goals.{else-loop-page-test, then-loop-page-test+in_default}

pub loop-page-preserved : goal.loop-page-preserved
loop-page-preserved c = (
  next_fed c.loop-page.invariant.0 _ (tail_part c.args.bytes.now c.loop-page.used)
      c.in-Some.end c.in-Some.ensures c.number-number.result c.number-number.ensures
      c.put_lines.ensures.lines.printed c.put_lines.ensures.room (omega (arith, c.loop-page-test.true)) c.raised-seen.result c.raised-seen.ensures,
  c.put_lines.ensures.lines.same_array ∙ c.loop-page.invariant.1,
)

pub returns-clause-progress : goal.returns-clause-progress
returns-clause-progress c =
    let f = c.loop-page.invariant.0 in
    let bytes = c.args.bytes.now in
    elim c.loop-page-test.branch [
      | else-loop-page-test w ↦ λ e long. absurd (omega (arith, f.started e, f.size, long, w.loop-page-test.false))
      | then-loop-page-test+in_default w ↦
          let none = sym (ap is_whole (tail_part bytes c.loop-page.used)) ∙ no_end _ (sym w.in_default.is ∙ w.whole_end.ensures) in
          let whole : c.loop-page.used ≡ 0 → is_whole bytes ≡ false = λ z. sym (ap (λ (k : ℕ). is_whole (drop k bytes)) z) ∙ none in
          λ z long. (whole z, full-has-entry bytes (λ i. (c.type_inv.bytes i).fits) (whole z))
    ]
