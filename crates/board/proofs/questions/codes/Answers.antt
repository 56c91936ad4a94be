-- `board::questions::codes` meets its contract. Assumes nothing.
use mathlib.Core.Path.{◌≡◌}
use mathlib.Core.Bool.{true, false}
use borrow.Author.Rules.{rules}
use borrow.Author.Tests.{tests}
use Rattle.std.proofs.lemmas.Iterator.{cases_from_all, YieldsList-from_slice}
use Rattle.board.specs.Questions.{code_in_range}
use Rattle.board.proofs.Asked.{codes_from_cases}
use Rattle.board.proofs.questions.codes.Goals as goal

pub returns : goal.returns
returns c =
    let bits = c.args.bits in
    let codes = c.args.codes.now in
    codes_from_cases bits codes c.all.result
    (cases_from_all _ _ _ (λ x. code_in_range bits x ≡ true) (λ x. code_in_range bits x ≡ false) c.all.ensures.ran (YieldsList-from_slice codes cc)
    (λ x q k. search (rules, tests)) (λ x q k. search (rules, tests)))
