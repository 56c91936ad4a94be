-- `standard_input::read_all` meets its contract: each read takes the next bytes. Assumes nothing.
use Rattle.std.proofs.Common.{◌≡◌, sym, ap, subst, ◌∙◌, ℕ, ◌≤◌, List, [], ◌++◌, append-nil, take, drop, arith, rules, take-append-drop, take-take}
use Rattle.std.proofs.KnownBytes.{Consumes-trans}
use Rattle.std.specs.declared.option.Option.{Option}
use Rattle.std.specs.Io.KnownBytes.{Consumes}
use Rattle.standard_input.proofs.read_all.Goals as goal

-- the bytes of the reads before, and those that the next read puts after them
read_more : (old mid new : Option (List ℕ)) (before after : List ℕ) (done k : ℕ) → done ≤ k → take done after ≡ take done before
    → Consumes old mid (take done before) → Consumes mid new (drop done (take k after)) → Consumes old new (take k after)
read_more old mid new before after done k more same first next =
    let front : take done (take k after) ≡ take done before = take-take done k after more ∙ same in
    let whole : take done before ++ drop done (take k after) ≡ take k after =
    ap (λ l. l ++ drop done (take k after)) (sym front) ∙ take-append-drop done (take k after) in
    subst (Consumes old new) whole (Consumes-trans old mid new _ _ first next)

-- nor does the read that finds the end change them
ended : (old mid new : Option (List ℕ)) (before after : List ℕ) (done : ℕ) → take done after ≡ take done before → Consumes old mid (take done before)
    → Consumes mid new [] → Consumes old new (take done after)
ended old mid new before after done same first next =
    subst (Consumes old new) (append-nil (take done before) ∙ sym same) (Consumes-trans old mid new _ _ first next)

pub loop-bytes-preserved : goal.loop-bytes-preserved
loop-bytes-preserved g c =
    let e = rw c.in-Some.is at c.in_ok-by_now.ensures in record {
      size = search rules;
      within = omega (arith, e.step);
      read = read_more _ _ _ c.loop-bytes.bytes c.read_part.new.bytes c.loop-bytes.done c.in-Some.by_now (omega (arith, e.step)) e.before
          c.loop-bytes.invariant.read e.bytes;
    }

pub returns-in-None-clause-bytes : goal.returns-in-None-clause-bytes
returns-in-None-clause-bytes g c =
    let e = rw c.in-None.is at c.in_ok-by_now.ensures in
    (ended _ _ _ c.loop-bytes.bytes c.read_part.new.bytes c.loop-bytes.done e.before c.loop-bytes.invariant.read e.bytes.0, e.bytes.1)

pub returns-clause-stops : goal.returns-clause-stops
returns-clause-stops g c = omega (arith, c.loop-bytes.invariant.size, c.loop-bytes.invariant.within, c.loop-bytes-test.false)
