-- `grid_alignment::alignments::cell_to_corner_alignment` meets its contract: the minima of the entries are the minimum corner of
-- the turned unit square, which is small. Assumes nothing.
use mathlib.Core.Path.{◌≡◌, refl, ap, ◌∙◌}
use Prim.Native.Nat.{◌^◌, ◌≤◌}
use native.Mathlib.Omega.{arith}
use lib.IntN.{ℤ, nat_abs, ◌+ℤ◌, ◌-ℤ◌}
use Rattle.integers.proofs.Parts.{abs_sub}
use Rattle.integers.proofs.Words.{word, word-is}
use Rattle.grid_alignment.specs.declared.Coord.{Coord}
use Rattle.grid_alignment.specs.Alignment.{lowest_point}
use Rattle.integers.proofs.Sums.{Exact, exact, exact_op}
use Rattle.grid_alignment.proofs.Entries.{minima, minima_is, lowest_small}
use Rattle.grid_alignment.proofs.alignments.cell_to_corner_alignment.Goals as goal
use Rattle.grid_alignment.proofs.alignments.cell_to_corner_alignment.Goals.{After-min-2, After-min-4, After-turn_matrix-m, Start}

module _ (c : After-turn_matrix-m) where
  abbrev shift : Coord
  shift = lowest_point 1 c.args.alignment.turn

  minima_at : minima c.turn_matrix-m.result ≡ shift
  minima_at = ap minima c.turn_matrix-m.ensures ∙ minima_is c.args.alignment.turn

  small : (nat_abs shift.u ≤ 1) × (nat_abs shift.v ≤ 1)
  small = lowest_small c.args.alignment.turn

ou : (c : After-min-2) → Exact ◌+ℤ◌ c.min.result c.min-2.result (shift c.before.before.before.before.before).u
ou c =
    exact
    ((λ i. word (c.min.ensures.value i) +ℤ word (c.min-2.ensures.value i)) ∙ (λ i. (minima_at c.before.before.before.before.before i).u))
    (omega (arith, (small c.before.before.before.before.before).0))

shifted : {q : ℤ} (t l : ℤ) → nat_abs t ≤ 2 ^ 30 → nat_abs l ≤ 1 → word q ≡ l → Exact ◌-ℤ◌ t q (t -ℤ l)
shifted t l ht hl e = exact_op ◌-ℤ◌ abs_sub t l (word-is t refl (omega arith)) e (omega arith)

module _ (c : After-min-4) where
  ov : Exact ◌+ℤ◌ c.min-3.result c.min-4.result (shift c.before.before.before.before.before.before.before.before).v
  ov =
      exact
      ((λ i. word (c.min-3.ensures.value i) +ℤ word (c.min-4.ensures.value i)) ∙ (λ i. (minima_at c.before.before.before.before.before.before.before.before i).v))
      (omega (arith, (small c.before.before.before.before.before.before.before.before).1))

  tx : Exact ◌-ℤ◌ c.args.alignment.tx (word c.min.result +ℤ word c.min-2.result)
      (c.args.alignment.tx -ℤ (shift c.before.before.before.before.before.before.before.before).u)
  tx = shifted c.args.alignment.tx (shift c.before.before.before.before.before.before.before.before).u c.requires.0 (small c.before.before.before.before.before.before.before.before).0 (ou (record { before = c.before.before.before.before; type_inv = record { m = c.struct_told-2-1.given } })).reads

  ty : Exact ◌-ℤ◌ c.args.alignment.ty (word c.min-3.result +ℤ word c.min-4.result)
      (c.args.alignment.ty -ℤ (shift c.before.before.before.before.before.before.before.before).v)
  ty = shifted c.args.alignment.ty (shift c.before.before.before.before.before.before.before.before).v c.requires.1 (small c.before.before.before.before.before.before.before.before).1 ov.reads

pub returns : goal.returns
returns c =
    λ i. record { turn = c.args.alignment.turn; tx = (tx (goal.at.returns c).After-min-4).reads i; ty = (ty (goal.at.returns c).After-min-4).reads i }

pub overflow_add-ou : goal.overflow_add-ou
overflow_add-ou c = (ou c).fits

pub overflow_add-ov : goal.overflow_add-ov
overflow_add-ov c = (ov c).fits

pub overflow_sub-result : goal.overflow_sub-result
overflow_sub-result c = (tx (goal.at.overflow_sub-result c).After-min-4).fits

pub overflow_sub-result-2 : goal.overflow_sub-result-2
overflow_sub-result-2 c = (ty (goal.at.overflow_sub-result-2 c).After-min-4).fits
