-- `score_list::fill_rows` meets its contract. The loop's invariant: the first x columns are written. Assumes nothing.
use mathlib.Core.Path.{◌∙◌}
use Prim.Native.Nat.{ℕ, ◌+◌, ◌*◌, ◌≤◌, ◌<◌}
use native.Mathlib.Omega.{arith}
use lib.Ieee.{Float}
use native.Mathlib.Nat.{mul-le-mul}
use borrow.Author.Rules.{rules}
use borrow.Author.Count.{below_more}
use Rattle.score_matrix.specs.Rows.{Column}
use Rattle.score_matrix.proofs.Columns.{column_put, column-kept}
use Rattle.shot_record.specs.Shots.{shot}
use Rattle.hypothesis.proofs.IndexedCells.{few_bits}
use Rattle.score_list.specs.Filling.{adds_of}
use Rattle.score_list.proofs.fill_rows.Goals as goal
use Rattle.score_list.proofs.fill_rows.Goals.{Start}

module _ (c : Start) where
  abbrev bits : ℕ
  bits = c.args.loaded.now.inputs.board.bits

  small : bits ≤ 8
  small = few_bits c.args.loaded.now.bytes.now _ _ c.args.loaded.now.loaded.ready

  area : bits * bits ≤ 64
  area = mul-le-mul {n₂ = 8} {m₂ = 8} small small

pub overflow_cast-n : goal.overflow_cast-n
overflow_cast-n c = record { fits = omega (arith, small (goal.at.overflow_cast-n c).Start) }

pub overflow_cast-n-2 : goal.overflow_cast-n-2
overflow_cast-n-2 c = record { fits = omega (arith, small (goal.at.overflow_cast-n-2 c).Start) }

pub overflow_mul-n : goal.overflow_mul-n
overflow_mul-n c = record { fits = omega (arith, area (goal.at.overflow_mul-n c).Start) }

pub loop-x-init : goal.loop-x-init
loop-x-init c = (omega arith, λ y h. absurd (omega (arith, h)))

pub overflow_mul-n-in-loop-x : goal.overflow_mul-n-in-loop-x
overflow_mul-n-in-loop-x c = record { fits = omega (arith, area (goal.at.overflow_mul-n-in-loop-x c).Start) }

pub put_column-requires : goal.put_column-requires
put_column-requires c =
    let n = c.args.loaded.now.inputs.board.bits in
    let few : 2 * (n * n) ≤ 128 = omega (arith, area (goal.at.put_column-requires c).Start) in
    let below : c.loop-x.x < 8 = omega (arith, c.loop-x-test.true, c.requires.1) in
    let long = c.loop-x.invariant.0 in
    search rules

pub loop-x-preserved : goal.loop-x-preserved
loop-x-preserved c =
    let l = c.loop-x in
    let n = c.args.loaded.now.inputs.board.bits * c.args.loaded.now.inputs.board.bits in
    let adds = c.cell_adds.new.adds in
    let w = c.put_column.ensures in
    let last = c.put_column.new.rows in
    let f : ℕ → ℕ → ℕ → Float = λ y. adds_of (shot c.args.loaded.now.bytes.now) (c.args.first + y) in
    let inside : l.x < 8 = omega (arith, c.loop-x-test.true, c.requires.1) in (
      w.size ∙ l.invariant.0,
      below_more (λ y. Column (f y) n last y) l.x
          (λ y h. column-kept adds n l.x l.rows last w (f y) y inside (omega (arith, h, inside)) (λ e. absurd (omega (arith, h, e))) (l.invariant.1 y h))
          (column_put adds n l.x l.rows last w (f l.x) c.cell_adds.ensures),
    )
