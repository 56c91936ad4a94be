-- Best and runner-up are two of the shot's placements, with their evidence and small translations; and what the result of the search states of the
-- best and of the number of placements. Assumes nothing.
use mathlib.Core.Path.{◌≡◌, refl, sym, ap, ◌∙◌}
use Prim.Native.Nat.{ℕ, zero, suc, ◌/◌, ◌%◌, ◌≤◌, ◌<◌}
use native.Mathlib.Nat.{div-lt_iff_lt-mul, mod-lt}
use native.Mathlib.Omega.{arith}
use mathlib.Core.List.{List, [], ◌∷◌, ◌++◌, map}
use mathlib.Core.Option.{some, none-ne-some}
use lib.ListN.{length, take, drop, length-map, get_elem?}
use lib.IntN.{ℤ, pos, nat_abs, ◌-ℤ◌}
use Rattle.integers.proofs.Parts.{abs_sub}
use Rattle.grid_alignment.specs.declared.GridAlignment.{GridAlignment}
use Rattle.grid_alignment.specs.Alignment.{SmallAlignment}
use Rattle.shot_record.specs.Shots.{Shot}
use Rattle.ranking.specs.declared.Hypothesis.{Hypothesis}
use Rattle.ranking.specs.Greatest.{first_greatest, rest}
use Rattle.ranking.specs.Rules.{AllFinite, IsFirstGreatest}
use Rattle.ranking.proofs.Greatest.{empty, greatest_rule}
use Rattle.hypothesis.specs.declared.Selection.{Selection}
use Rattle.hypothesis.specs.Placements.{frame, moves_across, moves_down, placements}
use Rattle.hypothesis.specs.Evidence.{contributing_cells, reported}
use Rattle.hypothesis.specs.Search.{hypothesis, hypotheses, best, runner_up, selection, selected, enumerate}
use Rattle.hypothesis.specs.Accuracy.{Placement, RunsUp, Checked}
use Rattle.hypothesis.specs.Inputs.{PassedShot}
use Rattle.hypothesis.proofs.Sides.{near-frame}
use Rattle.hypothesis.proofs.Places.{Stands, stands}
use Rattle.hypothesis.proofs.Placements.{positive, distinct}
use Rattle.hypothesis.proofs.Turned.{across_small, down-small, all_finite}
use Rattle.std.specs.Prelude.{Option, Some, None}

-- ---- the best placement
pub record BestPlaced (s : Shot) (b : Hypothesis) : Type 0 where
  pub placement : Placement s b.alignment
  pub small : SmallAlignment 4127 b.alignment
  pub evidence_is : b.evidence ≡ reported s b.alignment
  pub count_is : b.contributing_cells ≡ contributing_cells s b.alignment

-- a hypothesis of the list: its placement has the same index
mapped : (s : Shot) (ps : List GridAlignment) (k : ℕ) (h : Hypothesis) → get_elem? (map (hypothesis s) ps) k ≡ some h → (get_elem? ps k ≡ some h.alignment)
    × (h.evidence ≡ reported s h.alignment) × (h.contributing_cells ≡ contributing_cells s h.alignment)
mapped s [] k h e = absurd (let z : ◌≡◌ {A = ℕ} 0 1 = cc in omega arith)
mapped s (p ∷ ps) zero h e =
    let q : hypothesis s p ≡ h = cc in (
      ap (λ (x : Hypothesis). some x.alignment) q,
      sym (ap (λ (x : Hypothesis). x.evidence) q) ∙ ap (λ (x : Hypothesis). reported s x.alignment) q,
      sym (ap (λ (x : Hypothesis). x.contributing_cells) q) ∙ ap (λ (x : Hypothesis). contributing_cells s x.alignment) q,
    )
mapped s (p ∷ ps) (suc k) h e = mapped s ps k h e

small_move : (a n : ℕ) (least : ℤ) → a < n → n ≤ 32 → nat_abs least ≤ 4096 → nat_abs (pos a -ℤ least) ≤ 4127
small_move a n least l m h = omega (arith, l, m, h, abs_sub (pos a) least)

module _ (s : Shot) (p : PassedShot s) where
  small_translation : (k : ℕ) (q : GridAlignment) → Stands s 4 k q → (nat_abs q.tx ≤ 4127) × (nat_abs q.ty ≤ 4127)
  small_translation k q o =
      let r = o.r in
      let d₀ = positive (moves_across s r) (moves_down s r) o.j o.inside in
      let x = small_move (o.j / moves_down s r) (moves_across s r) (frame s r).u ((div-lt_iff_lt-mul d₀).1 o.inside) (across_small s p.cols p.rows r)
      (near-frame s p r).0 in
      let y = small_move (o.j % moves_down s r) (moves_down s r) (frame s r).v (mod-lt o.j d₀) (down-small s p.cols p.rows r) (near-frame s p r).1 in
      rw o.is (x, y)

  pub small_placement : (q : GridAlignment) → Placement s q → SmallAlignment 4127 q
  unfolding placements
  small_placement q (k, e) =
      let o = stands s 4 k q e in
      let t = small_translation k q o in
      record { turn = omega (arith, ap (λ (a : GridAlignment). a.turn) o.is, o.turn); tx = t.0; ty = t.1 }

  pub best_placed : (b : Hypothesis) → best s ≡ Some b → BestPlaced s b
  best_placed b e =
      let g = greatest_rule (hypotheses s) b (all_finite s p.checked (placements s)) e in
      let m = mapped s (placements s) g.place b g.there in
      record { placement = (g.place, m.0); small = small_placement b.alignment (g.place, m.0); evidence_is = m.1; count_is = m.2 }

-- ---- the runner-up
-- an element of a list without index p is in the list, at another index
without : {A : Type 0} (xs : List A) (p k : ℕ) (x : A) → get_elem? (take p xs ++ drop (suc p) xs) k ≡ some x → (j : ℕ) × (j ≡ p → ⊥) × (get_elem? xs j ≡ some x)
without [] zero k x e = absurd (none-ne-some x e)
without [] (suc p) k x e = absurd (none-ne-some x e)
without (y ∷ xs) zero k x e = (suc k, λ z. absurd (omega (arith, z)), e)
without (y ∷ xs) (suc p) zero x e = (0, λ z. absurd (omega (arith, z)), e)
without (y ∷ xs) (suc p) (suc k) x e = let r = without xs p k x e in (suc r.0, λ z. r.1 (omega (arith, z)), r.2)

module _ (s : Shot) (c : Checked s) where
  rest_finite : (b : Hypothesis) → IsFirstGreatest (hypotheses s) b → AllFinite (rest (hypotheses s))
  rest_finite b g k h e =
      let r = without (hypotheses s) g.place k h (ap (λ (l : List Hypothesis). get_elem? l k) (sym g.others) ∙ e) in
      all_finite s c (placements s) r.0 h r.2

  pub runner_up-placed : (b g : Hypothesis) → best s ≡ Some b → runner_up s ≡ Some g → RunsUp s b g
  runner_up-placed b g is next =
      let f = greatest_rule (hypotheses s) b (all_finite s c (placements s)) is in
      let h = greatest_rule (rest (hypotheses s)) g (rest_finite b f) next in
      let r = without (hypotheses s) f.place h.place g (ap (λ (l : List Hypothesis). get_elem? l h.place) (sym f.others) ∙ h.there) in
      let m = mapped s (placements s) f.place b f.there in
      let n = mapped s (placements s) r.0 g r.2 in
      record {
        placed = (r.0, n.0);
        other = λ e. r.1 (distinct s r.0 f.place b.alignment (n.0 ∙ ap some e) m.0);
        evidence_is = n.1;
        count_is = n.2;
        not_above = f.greatest r.0 g r.2;
      }

-- ---- the result
pub record Chosen (s : Shot) (x : Selection) : Type 0 where
  pub best_is : best s ≡ Some x.best
  pub is : x ≡ selection s x.best

pub chosen : (s : Shot) (x : Selection) → enumerate s ≡ Some x → Chosen s x
unfolding enumerate
chosen s x e = go (best s) refl e
  where
    go : (c : Option Hypothesis) → best s ≡ c → selected s c ≡ Some x → Chosen s x
    go None h q = absurd (let z : ◌≡◌ {A = ℕ} 0 1 = cc in omega arith)
    go (Some b) h q =
        let i : selection s b ≡ x = cc in
        record { best_is = h ∙ ap (λ (y : Selection). Some y.best) i; is = sym i ∙ ap (λ (y : Selection). selection s y.best) i }

not_empty : (s : Shot) (ps : List GridAlignment) (b : Hypothesis) → first_greatest (map (hypothesis s) ps) ≡ Some b → 0 < length ps
unfolding first_greatest
not_empty s [] b e = absurd (let z : ◌≡◌ {A = ℕ} 0 1 = cc in omega arith)
not_empty s (p ∷ ps) b e = omega arith

pub some_placement : (s : Shot) (x : Selection) → enumerate s ≡ Some x → 0 < length (placements s)
some_placement s x e = not_empty s (placements s) x.best (chosen s x e).best_is

pub no_placement : (s : Shot) → enumerate s ≡ None → length (placements s) ≡ 0
unfolding enumerate
no_placement s e = sym (length-map (placements s) (hypothesis s)) ∙ ap length (empty (hypotheses s) (go (best s) refl e))
  where
    go : (c : Option Hypothesis) → best s ≡ c → selected s c ≡ None → best s ≡ None
    go None h q = h
    go (Some b) h q = absurd (let z : ◌≡◌ {A = ℕ} 0 1 = cc in omega arith)
