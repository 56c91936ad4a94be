-- `standard_input::read_part` meets its contract: what is read stands after the bytes of the reads before. Assumes nothing.
use Rattle.std.proofs.Common.{◌≡◌, refl, sym, ap, subst, ◌∙◌, ℕ, zero, suc, ◌+◌, ◌<◌, List, ◌++◌, Result, Ok, Err, length, take, drop, arith, drop_at, length-take-le}
use Rattle.std.proofs.lemmas.List.{drop-take, take-append-le}
use Rattle.std.specs.declared.option.Option.{Option}
use Rattle.std.specs.Io.{ReadsAtMost}
use Rattle.std.specs.Io.KnownBytes.{Consumes, ReadConsumes}
use Rattle.standard_input.specs.Reading.{after_read, Gives}
use Rattle.standard_input.proofs.read_part.Goals as goal

-- `part` after the first `done` bytes, where it is read
gives : {E : Type 0} (old new : Option (List ℕ)) (got : Result ℕ E) (done : ℕ) (front part rest : List ℕ) → length front ≡ done → 0 < length part
    → ReadsAtMost got part → ReadConsumes old new got part → Gives old new done (front ++ (part ++ rest)) (after_read done got)
gives old new (Ok zero) done front part rest size some within bytes = (bytes.0, bytes.1 refl some)
gives old new (Ok (suc k)) done front part rest size some within bytes =
    let next : drop done (take (done + suc k) (front ++ (part ++ rest))) ≡ take (suc k) part =
    drop-take done (suc k) (front ++ (part ++ rest)) ∙ ap (take (suc k)) (drop_at front (part ++ rest) done size)
    ∙ take-append-le (suc k) part rest within.0 in
    subst (Consumes old new) (sym next) bytes.0
gives old new (Err e) done front part rest size some within bytes = bytes

pub returns-clause-bytes : goal.returns-clause-bytes
returns-clause-bytes g c =
    let bytes = c.args.bytes.now in
    let done = c.args.done in
    let size : length (take done bytes) ≡ done = length-take-le done bytes (omega arith) in
    let some : 0 < length c.read.new.buf = omega (arith, c.read.auto.buf) in
    subst (Gives _ _ done _) (sym c.after_read.ensures)
    (gives _ _ c.read.result done (take done bytes) c.read.new.buf _ size some c.read.ensures.bound c.read.ensures.bytes)
