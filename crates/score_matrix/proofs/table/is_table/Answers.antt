-- `score_matrix::table::is_table` meets its contract. Assumes nothing.
use mathlib.Core.Path.{◌≡◌, refl, sym, ap, ap₂, ◌∙◌}
use mathlib.Core.Bool.{Bool, true, false, ◌&&◌}
use mathlib.Core.List.{List, [], ◌∷◌}
use Prim.Native.Nat.{ℕ, zero, suc, ◌<◌}
use native.Mathlib.Omega.{arith}
use lib.ListN.{length, get_or}
use lib.Ieee.{Float, nan}
use borrow.Author.Rules.{rules}
use borrow.Author.Tests.{tests, eq-eqb}
use Rattle.std.specs.List.{AllWithin, HoldsAt}
use Rattle.std.specs.Bool.{MatchBool}
use Rattle.std.proofs.lemmas.Iterator.{cases_from_all, YieldsList-from_slice}
use Rattle.score_matrix.specs.Table.{entry_in_range, entries_in_range}
use Rattle.score_matrix.proofs.table.is_table.Goals as goal

abbrev Answered : Bool → Float → Type 0
Answered b x = entry_in_range x ≡ b

all_in_range : (table : List Float) → ((k : ℕ) → k < length table → entry_in_range (get_or table k nan) ≡ true) → entries_in_range table ≡ true
all_in_range [] h = refl
all_in_range (x ∷ xs) h = ap₂ ◌&&◌ (h 0 (omega arith)) (all_in_range xs (λ k l. h (suc k) (omega arith)))

one_out : (table : List Float) (k : ℕ) → k < length table → entry_in_range (get_or table k nan) ≡ false → entries_in_range table ≡ false
one_out [] k l e = absurd (omega arith)
one_out (x ∷ xs) zero l e = ap (λ (b : Bool). b && entries_in_range xs) e
one_out (x ∷ xs) (suc k) l e = go (entry_in_range x) (one_out xs k (omega arith) e)
  where
    go : (b : Bool) → entries_in_range xs ≡ false → b && entries_in_range xs ≡ false
    go true f = f
    go false f = refl

decided : (table : List Float) (r : Bool)
    → MatchBool r (AllWithin (Answered true) table 0 (length table)) ((k : ℕ) × (k < length table) × HoldsAt (Answered false) table k)
    → r ≡ entries_in_range table
decided table true h = sym (all_in_range table (λ k l. h k nan (omega arith) l))
decided table false h = sym (one_out table h.0 h.1 (h.2 nan))

pub returns-then-table-eq511 : goal.returns-then-table-eq511
returns-then-table-eq511 c =
    let table = c.args.table.now in
    let e = decided table c.all.result
    (cases_from_all _ _ _ (Answered true) (Answered false) c.all.ensures.ran (YieldsList-from_slice table cc) (λ x q k. search (rules, tests))
    (λ x q k. search (rules, tests))) in
    e ∙ ap (λ (b : Bool). b && entries_in_range table) (sym (eq-eqb (length table) 511 c.if-table-eq511.true))
