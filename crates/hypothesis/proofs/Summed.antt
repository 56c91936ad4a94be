-- The sums and counts of a turn: 0 before the first cell, and after all cells those of its placements. Assumes nothing.
use mathlib.Core.Path.{◌≡◌, refl, ap, ap₂}
use Prim.Native.Nat.{ℕ, zero, suc, ◌+◌, ◌*◌, ◌%◌, ◌<◌}
use native.Mathlib.Nat.{mul-le-mul, le_refl, add-mul, zero-mul, mul-zero}
use native.Mathlib.Omega.{arith}
use mathlib.Core.Bool.{Bool, true, false, cond}
use mathlib.Core.List.{List, [], ◌∷◌}
use lib.Dec.{eqb, ltb}
use lib.ListN.{length, get_or}
use lib.Ieee.{Float, nan}
use borrow.Author.Tests.{lt-ltb}
use Rattle.lent_list.specs.Front.{up_to}
use Rattle.shot_record.specs.Shots.{Shot}
use Rattle.ranking.specs.declared.Evidence.TheVariants as evidence
use Rattle.hypothesis.specs.declared.framing.Turn.{Turn}
use Rattle.hypothesis.specs.declared.turns.Contributing.{Contributing}
use Rattle.hypothesis.specs.Placements.{cell_total, moves_across, moves_down, shifted}
use Rattle.hypothesis.specs.Evidence.{Contribution, contributions, reported_sum, reported_over, reported}
use Rattle.hypothesis.specs.Turns.{count_at, turn_of, Summed}
use Rattle.hypothesis.specs.Filling.{SumsTo, none_contributing, Cleared}

-- ---- no cell yet
neither : (t : Bool) → ◌≡◌ {A = ℕ} (cond t 0 0) 0
neither true = refl
neither false = refl

inside : (n d a b : ℕ) → a < n → b < d → a * d + b < n * d
inside n d a b l m = omega (arith, m, mul-le-mul {n₁ = a + 1} {m₁ = d} {n₂ = n} {m₂ = d} (omega (arith, l)) (le_refl d), add-mul a 1 d)

no_cells : (s : Shot) (r : ℕ) (sums : List Float) → Cleared (moves_across s r * moves_down s r) sums → SumsTo s r 0 sums none_contributing
unfolding up_to
no_cells s r sums clear =
    record {
      size = clear.0;
      value = λ a b l m. clear.1 (a * moves_down s r + b) (inside (moves_across s r) (moves_down s r) a b l m);
      count = λ a b l m. neither (eqb ((a + b) % 2) 0);
      few = (omega arith, omega arith);
    }

-- ---- all cells
evidence_is : (s : Shot) (r : ℕ) (cs : List Contribution) (x : Float) (n : ℕ) → x ≡ reported_sum s r cs → n ≡ length cs
    → cond (ltb 0 n) (evidence.Number x) evidence.Absent ≡ reported_over s r cs
evidence_is s r [] x n e f = rw f
evidence_is s r (c ∷ cs) x n e f = rw (f, e, lt-ltb 0 (length (c ∷ cs)) (omega arith))

pub summed : (s : Shot) (r : ℕ) (sums : List Float) (contributing : Contributing) → SumsTo s r (cell_total s) sums contributing → Summed s r sums contributing
unfolding reported
summed s r sums contributing h =
    record {
      evidence_is = λ a b l m. evidence_is s r (contributions s (shifted s r a b)) (get_or sums (a * moves_down s r + b) nan) (count_at contributing (a + b))
          (h.value a b l m) (h.count a b l m);
      count_is = h.count;
    }

-- ---- a turn of the search
pub both-above : (m n : ℕ) → (m * n ≡ 0 → ⊥) → (0 < m) × (0 < n)
both-above zero n h = absurd (h (zero-mul n))
both-above (suc m) zero h = absurd (h (mul-zero (suc m)))
both-above (suc m) (suc n) h = (omega arith, omega arith)

module _ (s : Shot) (t : Turn) (is : t ≡ turn_of s t.turn) where
  area : t.across * t.down ≡ moves_across s t.turn * moves_down s t.turn
  area = ap₂ ◌*◌ (ap (λ (y : Turn). y.across) is) (ap (λ (y : Turn). y.down) is)

  -- one without moves has no placement
  pub none_summed : t.across * t.down ≡ 0 → (sums : List Float) (contributing : Contributing) → Summed s t.turn sums contributing
  none_summed e sums contributing =
      let none : (a b : ℕ) → a < moves_across s t.turn → b < moves_down s t.turn → ⊥ =
      λ a b l m. omega (arith, e, area, inside (moves_across s t.turn) (moves_down s t.turn) a b l m) in
      record { evidence_is = λ a b l m. absurd (none a b l m); count_is = λ a b l m. absurd (none a b l m) }

  pub begins : (sums : List Float) → Cleared (t.across * t.down) sums → SumsTo s t.turn 0 sums none_contributing
  begins sums clear = no_cells s t.turn sums (rw area at clear)
