-- `shot_record::fields::Record::table_entry` meets its contract. Assumes nothing.
use Rattle.std.proofs.Common.{◌≡◌, refl, sym, ap, ◌∙◌, ℕ, zero, suc, ◌+◌, ◌*◌, ◌<◌, List, [], ◌∷◌, map, length, get_or, arith}
use native.Mathlib.Nat.{le_of_suc-le-suc}
use lib.Ieee.{Float, nan}
use Rattle.score_matrix.specs.Table.{patterns, built_in}
use Rattle.shot_record.specs.Fields.{number}
use Rattle.shot_record.specs.Answers.{of_pattern}
use Rattle.shot_record.proofs.Lists.{get_d_list}
use Rattle.shot_record.proofs.Reading.{found_reach, pattern-count, built_in-table, own-table}
use Rattle.shot_record.proofs.record.Record.table_entry.Goals as goal

get_d_float : (xs : List ℕ) (k : ℕ) → k < length xs → get_or (map of_pattern xs) k nan ≡ of_pattern (get_or xs k 0)
get_d_float [] k h = absurd (omega arith)
get_d_float (x ∷ xs) zero h = refl
get_d_float (x ∷ xs) (suc k) h = get_d_float xs k (le_of_suc-le-suc h)

built_in-entry : (k : ℕ) → k < 511 → get_or built_in k nan ≡ of_pattern (get_or patterns k 0)
unfolding built_in
built_in-entry k h = get_d_float patterns k (omega (arith, h, pattern-count))

pub returns-then-sets_table : goal.returns-then-sets_table
returns-then-sets_table c =
    let r = c.args.self.now in
    c.float_at.ensures
    ∙ ap of_pattern (sym (get_d_list (λ (i : ℕ). number 4 (r.fields.table_at + 4 * i) r.bytes.now) 511 c.args.k 0 c.requires)
    ∙ ap (λ (l : List ℕ). get_or l c.args.k 0) (own-table _ r.bytes.now r.located c.sets_table.result c.sets_table.ensures c.if-sets_table.true))

pub returns : goal.returns
returns c =
    let r = c.args.self.now in
    ap (λ (l : List Float). get_or l c.args.k nan) c.built_in_table.ensures ∙ built_in-entry c.args.k c.requires
    ∙ ap (λ (l : List ℕ). of_pattern (get_or l c.args.k 0))
    (sym (built_in-table _ r.bytes.now r.located c.sets_table.result c.sets_table.ensures c.if-sets_table.false))

pub overflow_add-self : goal.overflow_add-self
overflow_add-self c = omega (arith, found_reach _ _ c.args.self.now.located)

pub float_at-requires : goal.float_at-requires
float_at-requires c = omega (arith, found_reach _ _ c.args.self.now.located)
