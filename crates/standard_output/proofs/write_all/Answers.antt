-- `standard_output::write_all` meets its contract: each write appends the next bytes of the text. Assumes nothing.
use Rattle.std.proofs.Common.{◌≡◌, ℕ, ◌+◌, ◌-◌, ◌≤◌, List, ◌++◌, length, take, drop, sym, ap, subst, ◌∙◌, arith, take-add, take-take, length-drop, length-take-le}
use Rattle.std.proofs.KnownBytes.{Appends-trans}
use Rattle.std.specs.Io.KnownBytes.{Appends}
use Rattle.std.specs.declared.option.Option.{Option}
use Rattle.standard_output.proofs.write_all.Goals as goal

-- the first `done` bytes and then `n` of those that are left are the first `done + n`
appended_more : (old mid new : Option (List ℕ)) (text : List ℕ) (done n : ℕ) → Appends old mid (take done text)
    → Appends mid new (take n (take (length text - done) (drop done text))) → n ≤ length text - done → Appends old new (take (done + n) text)
appended_more old mid new text done n before now within =
    let next : take n (take (length text - done) (drop done text)) ≡ take n (drop done text) = take-take n (length text - done) (drop done text) within in
    subst (Appends old new) (ap (λ l. take done text ++ l) next ∙ sym (take-add done n text)) (Appends-trans old mid new _ _ before now)

pub loop-done-preserved : goal.loop-done-preserved
loop-done-preserved g c =
    let text = c.args.text.now in
    let taken = c.in-Ok.ensures in
    let room : c.in-Ok.count ≤ length text - c.loop-done.done = omega (arith, taken.bound, length-drop {A = ℕ}, length-take-le {A = ℕ}) in
    record {
      within = omega arith;
      appended = appended_more _ _ _ text c.loop-done.done c.in-Ok.count c.loop-done.invariant.appended taken.bytes room;
    }
