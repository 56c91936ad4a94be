-- `Restate::convert` meets its contract: a record that is written has room. Assumes nothing.
use mathlib.Core.Path.{◌≡◌, sym, ap}
use mathlib.Core.List.{List}
use Prim.Native.Nat.{ℕ, ◌≤◌}
use native.Mathlib.Omega.{arith}
use lib.ListN.{length}
use Rattle.std.specs.Prelude.{IfOk, Result, Ok, Err}
use Rattle.refusal.specs.declared.Refusal.{Refusal}
use Rattle.legacy_record.specs.Restating.{restate_answer, restate_list}
use Rattle.legacy_record.proofs.Answered.{written_fits, same-room}
use Rattle.converter.proofs.restating.RestateConversion.convert.Goals as goal

has_room : (bytes lent sheet : List ℕ) (r : Result ℕ Refusal) → r ≡ restate_answer bytes lent → sheet ≡ restate_list bytes lent → IfOk r (λ count. count ≤ length sheet)
has_room bytes lent sheet (Ok count) is list = omega (arith, (written_fits bytes lent count (sym is)).1, ap length list, same-room bytes lent)
has_room bytes lent sheet (Err r) is list = tt

pub returns-clause-room : goal.returns-clause-room
returns-clause-room c = has_room _ c.args.sheet.now _ _ c.restate.ensures.answer c.restate.ensures.list
