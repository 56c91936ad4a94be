-- `board_match::questions::all_sampled` meets its contract. Assumes nothing.
use Rattle.std.proofs.Common.{rules, refl, ◌≡◌, true, false, ℕ, arith, tests}
use Rattle.std.proofs.lemmas.Iterator.{cases_from_all, YieldsList-from_range}
use Rattle.board_match.specs.Entries.{sampled_in}
use Rattle.board_match.proofs.Tested.{every_from_all}
use Rattle.board_match.proofs.questions.all_sampled.Goals as goal

pub returns : goal.returns
returns c =
    let n = c.args.count in
    let test = sampled_in c.args.index.now in
    every_from_all test n _
    (cases_from_all _ _ _ (λ (k : ℕ). test k ≡ true) (λ (k : ℕ). test k ≡ false) c.all.ensures.ran (YieldsList-from_range 0 n n refl (omega arith))
    (λ x q k. search (rules, tests)) (λ x q k. search (rules, tests)))
