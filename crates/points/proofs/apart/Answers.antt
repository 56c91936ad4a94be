-- `points::apart` meets its contract. The loop's invariant: `met` flags the residues of the first k points, which are pairwise distinct.
-- Assumes nothing.
use mathlib.Core.Path.{◌≡◌, refl, sym, ap, ◌∙◌}
use mathlib.Core.Bool.{Bool, true, false, false≢true}
use mathlib.Core.List.{List, [], ◌∷◌}
use Prim.Native.Nat.{ℕ, zero, suc, ◌+◌, ◌<◌}
use native.Mathlib.Omega.{arith}
use lib.Dec.{eqb}
use lib.ListN.{get_or, set, replicate, length-set}
use lib.Seq.{get_or-set_same, get_or-set_other}
use borrow.Author.Count.{below_more}
use borrow.Author.Tests.{eqb-true, eqb-false}
use Rattle.sorting.proofs.Comparing.{if_repeated, different_next}
use Rattle.points.specs.Points.{residue_of, residue_in}
use Rattle.points.proofs.apart.Invariants.{Marks}
use Rattle.points.proofs.apart.Goals as goal
use Rattle.points.proofs.apart.Goals.{After-residue-at}

unmarked : (n q : ℕ) → get_or (replicate n false) q false ≡ false
unmarked zero q = refl
unmarked (suc n) zero = refl
unmarked (suc n) (suc q) = unmarked n q

no_marks : (word : ℕ → ℕ) → Marks word 0 (replicate 1024 false)
no_marks word =
    record { size = refl; marked = λ i h. absurd (omega (arith, h)); only = λ q e. absurd (false≢true (sym (unmarked 1024 q) ∙ e)) }

-- a flag stays set
still_met : (met : List Bool) (at q : ℕ) → get_or met q false ≡ true → get_or (set met at true) q false ≡ true
still_met [] at q e = e
still_met (x ∷ xs) zero zero e = refl
still_met (x ∷ xs) zero (suc q) e = e
still_met (x ∷ xs) (suc at) zero e = e
still_met (x ∷ xs) (suc at) (suc q) e = still_met xs at q e

one_mark : (word : ℕ → ℕ) (k : ℕ) (met : List Bool) (at : ℕ) → at ≡ word k → at < 1024 → Marks word k met → Marks word (k + 1) (set met at true)
one_mark word k met at is small m =
    record {
      size = length-set met at true ∙ m.size;
      marked =
          below_more (λ i. get_or (set met at true) (word i) false ≡ true) k (λ i h. still_met met at (word i) (m.marked i h))
          (ap (λ (q : ℕ). get_or (set met at true) q false) (sym is) ∙ get_or-set_same met at true false (rw m.size small));
      only = λ q e. go q e (eqb q at) refl;
    }
  where
    go : (q : ℕ) → get_or (set met at true) q false ≡ true → (b : Bool) → eqb q at ≡ b → (i : ℕ) × (i < k + 1) × (word i ≡ q)
    go q e true f = (k, omega arith, sym is ∙ sym (eqb-true q at f))
    go q e false f =
        let x = m.only q (sym (get_or-set_other met at q true false (eqb-false q at f)) ∙ e) in
        (x.0, omega (arith, x.1), x.2)

module _ (c : After-residue-at) where
  residue_is : c.residue-at.result ≡ residue_in c.args.index.now c.loop-k.k
  residue_is = c.residue-at.ensures ∙ ap residue_of c.point.ensures

  inside : c.residue-at.result < 1024
  inside = omega (arith, residue_is)

pub loop-k-init : goal.loop-k-init
loop-k-init c = (λ i j l h e. omega (arith, h), no_marks (residue_in c.args.index.now))

pub returns-then-met-at : goal.returns-then-met-at
returns-then-met-at c =
    let x = c.loop-k.invariant.1.only c.residue-at.result c.if-met-at.true in
    if_repeated (record { first = x.0; second = c.loop-k.k; order = x.1; inside = c.loop-k-test.true; equal = x.2 ∙ residue_is (goal.at.returns-then-met-at c).After-residue-at })

pub loop-k-preserved : goal.loop-k-preserved
loop-k-preserved c =
    let word = residue_in c.args.index.now in
    let met = c.loop-k.met in
    let held = c.loop-k.invariant in
    let k = c.loop-k.k in
    let is = residue_is (goal.at.loop-k-preserved c).After-residue-at in (
      different_next word k held.0
          (λ i h e. false≢true (sym c.if-met-at.false ∙ ap (λ (q : ℕ). get_or met q false) (is ∙ sym e) ∙ held.1.marked i h)),
      one_mark word k met c.residue-at.result is (inside (goal.at.loop-k-preserved c).After-residue-at) held.1,
    )
