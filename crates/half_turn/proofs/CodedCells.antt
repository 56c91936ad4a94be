-- What a contributing cell adds is known by its weight, its samples and the turned code. Assumes nothing.
use mathlib.Core.Path.{◌≡◌, refl, ap, ◌∙◌}
use Prim.Native.Nat.{ℕ, zero, suc}
use mathlib.Core.List.{List, [], ◌∷◌, ◌++◌, map, map-append, foldl}
use mathlib.Core.Option.{Option as Maybe, none, some}
use lib.IntN.{ℤ, pos, ◌+ℤ◌}
use lib.Ieee.{Float, binary32, add, mul, neg}
use Rattle.floats.specs.Units.{nought}
use Rattle.score_matrix.specs.Scores.{Samples, null_score}
use Rattle.score_matrix.specs.Accuracy.{weighted, exact_weighted}
use Rattle.lent_list.specs.Front.{up_to}
use Rattle.shot_record.specs.Shots.{Shot}
use Rattle.ranking.specs.declared.Evidence.{Evidence}
use Rattle.ranking.specs.declared.Evidence.TheVariants as evidence
use Rattle.hypothesis.specs.Evidence.{Contribution, table_of, code_of, reported_over, exact_over, capacity_sum}

pub record CodedCell : Type 0 where
  pub weight : Float
  pub samples : Samples
  pub code : ℕ

abbrev pub coded_cell : Shot → ℕ → Contribution → CodedCell
coded_cell s r c = record { weight = c.weight; samples = c.samples; code = code_of s r c.id }

-- ---- lists
folded : {A B C : Type 0} (h : A → B → A) (g : C → B) (z : A) (cs : List C) → foldl (λ (x : A) (c : C). h x (g c)) z cs ≡ foldl h z (map g cs)
folded h g z [] = refl
folded h g z (c ∷ cs) = folded h g (h z (g c)) cs

pub map-up_to : {A B : Type 0} (g : A → B) (f : ℕ → List A) (n : ℕ) → map g (up_to f n) ≡ up_to (λ (k : ℕ). map g (f k)) n
unfolding up_to
map-up_to g f zero = refl
map-up_to g f (suc n) = map-append g (up_to f n) (f n) ∙ ap (λ (l : List _). l ++ map g (f n)) (map-up_to g f n)

-- ---- evidence, exact evidence and capacity by shares
module _ (table : List Float) (most : Float) where
  abbrev adds : Float → CodedCell → Float
  adds x d = add binary32 x (weighted d.weight table d.samples d.code)

  abbrev exact_adds : ℤ → CodedCell → ℤ
  exact_adds z d = z +ℤ exact_weighted d.weight table d.samples d.code

  abbrev may_add : Float → CodedCell → Float
  may_add x d = add binary32 x (mul binary32 d.weight most)

  abbrev pub evidence_of : List CodedCell → Evidence
  evidence_of [] = evidence.Absent
  evidence_of (d ∷ ds) = evidence.Number (foldl adds nought (d ∷ ds))

  abbrev pub exact_of : List CodedCell → Maybe ℤ
  exact_of [] = none
  exact_of (d ∷ ds) = some (foldl exact_adds (pos 0) (d ∷ ds))

  abbrev pub capacity_of : List CodedCell → Float
  capacity_of ds = foldl may_add nought ds

module _ (s : Shot) (r : ℕ) where
  abbrev most : Float
  most = neg (null_score s.bits)

  pub by_cells : (cs : List Contribution) → reported_over s r cs ≡ evidence_of (table_of s) most (map (coded_cell s r) cs)
  by_cells [] = refl
  by_cells (c ∷ cs) = ap evidence.Number (folded (adds (table_of s) most) (coded_cell s r) nought (c ∷ cs))

  pub exact_by_cells : (cs : List Contribution) → exact_over s r cs ≡ exact_of (table_of s) most (map (coded_cell s r) cs)
  exact_by_cells [] = refl
  exact_by_cells (c ∷ cs) = ap some (folded (exact_adds (table_of s) most) (coded_cell s r) (pos 0) (c ∷ cs))

  pub capacity_by_cells : (cs : List Contribution) → capacity_sum s cs ≡ capacity_of (table_of s) most (map (coded_cell s r) cs)
  capacity_by_cells cs = folded (may_add (table_of s) most) (coded_cell s r) nought cs
