-- A ranking after all placements of a turn, from their sums, is that of the list with them appended; and the result of the search is that of the
-- ranking of all placements. Assumes nothing.
use mathlib.Core.Path.{◌≡◌, refl, sym, ap, ap₂, ◌∙◌}
use Prim.Native.Nat.{ℕ, zero, suc, ◌+◌, ◌*◌, ◌/◌, ◌%◌, ◌≤◌, ◌<◌}
use native.Mathlib.Nat.{div-lt_iff_lt-mul, mod-lt, mul-le-mul}
use native.Mathlib.Omega.{arith}
use mathlib.Core.List.{List, [], ◌∷◌, ◌++◌, map, append-nil, append_assoc}
use lib.ListN.{length-map}
use lib.Ieee.{Float}
use Rattle.grid_alignment.specs.declared.GridAlignment.{GridAlignment}
use Rattle.shot_record.specs.Shots.{Shot, list}
use Rattle.shot_record.proofs.Lists.{last_listed}
use Rattle.ranking.specs.declared.Evidence.{Evidence}
use Rattle.ranking.specs.declared.Ranking.{Ranking}
use Rattle.ranking.specs.Margin.{margin}
use Rattle.ranking.specs.Ranking.{ranking_of, ranked, ranked_to}
use Rattle.ranking.specs.Rules.{AllFinite}
use Rattle.ranking.proofs.OnePass.{pass}
use Rattle.ranking.proofs.RankedTo.{ranked-same}
use Rattle.hypothesis.specs.declared.turns.Contributing.{Contributing}
use Rattle.hypothesis.specs.Placements.{frame, moves_across, moves_down, placement_at, with_turns_below, placements}
use Rattle.hypothesis.specs.Evidence.{capacity}
use Rattle.hypothesis.specs.Search.{hypothesis, best, runner_up, selected, enumerate}
use Rattle.hypothesis.specs.Accuracy.{Checked}
use Rattle.hypothesis.specs.Turns.{turn_of, Summed, moved_to, ranked_turn, enumerated_with}
use Rattle.hypothesis.proofs.Accuracy.{reported_finite}
use Rattle.hypothesis.proofs.Places.{start, many, start_next}
use Rattle.hypothesis.proofs.Placements.{positive}
use Rattle.std.specs.Prelude.{Option, Some, None}
use Rattle.hypothesis.specs.declared.Selection.{Selection}
use Rattle.ranking.specs.declared.Hypothesis.{Hypothesis}

-- ---- lists
module _ {A B : Type 0} where
  map_last : (f : A → B) (xs : List A) (x : A) → map f (xs ++ (x ∷ [])) ≡ map f xs ++ (f x ∷ [])
  map_last f [] x = refl
  map_last f (y ∷ xs) x = ap (λ (ys : List B). f y ∷ ys) (map_last f xs x)

-- ---- the hypotheses of a shot
module _ (s : Shot) (c : Checked s) where
  pub all_finite : (ps : List GridAlignment) → AllFinite (map (hypothesis s) ps)
  all_finite [] k h e = absurd (let z : ◌≡◌ {A = ℕ} 0 1 = cc in omega arith)
  all_finite (p ∷ ps) zero h e = let q : hypothesis s p ≡ h = cc in rw (sym q) (reported_finite s c p)
  all_finite (p ∷ ps) (suc k) h e = all_finite ps k h e

  -- the ranking of a list with f 0, …, f (n − 1) appended
  listed_ranked : (ps : List GridAlignment) (f : ℕ → GridAlignment) (n : ℕ)
      → ranked_to (ranking_of (map (hypothesis s) ps)) (λ (j : ℕ). hypothesis s (f j)) n ≡ ranking_of (map (hypothesis s) (ps ++ list f n))
  unfolding ranked_to list
  listed_ranked ps f zero = ap (λ (qs : List GridAlignment). ranking_of (map (hypothesis s) qs)) (sym (append-nil ps))
  listed_ranked ps f (suc n) =
      ap (λ (k : Ranking). ranked k (hypothesis s (f n))) (listed_ranked ps f n)
      ∙ sym (pass (hypothesis s (f n)) (reported_finite s c (f n)) (map (hypothesis s) (ps ++ list f n)) (all_finite (ps ++ list f n)))
      ∙ ap ranking_of (sym (map_last (hypothesis s) (ps ++ list f n) (f n)))
      ∙ ap (λ (qs : List GridAlignment). ranking_of (map (hypothesis s) qs))
      (append_assoc ps (list f n) (f n ∷ []) ∙ ap (λ (qs : List GridAlignment). ps ++ qs) (sym (last_listed f n)))

  -- one more turn
  module _ (r : ℕ) (sums : List Float) (contributing : Contributing) (h : Summed s r sums contributing) where
    moved-is : (j : ℕ) → j < many s r → moved_to sums contributing (turn_of s r) (j / moves_down s r) (j % moves_down s r) ≡ hypothesis s (placement_at s r j)
    moved-is j l =
        let d₀ = positive (moves_across s r) (moves_down s r) j l in
        let a = j / moves_down s r in
        let b = j % moves_down s r in
        let l₁ : a < moves_across s r = (div-lt_iff_lt-mul d₀).1 l in
        let l₂ : b < moves_down s r = mod-lt j d₀ in
        ap₂ (λ (e : Evidence) (n : ℕ). record { alignment = placement_at s r j; evidence = e; contributing_cells = n })
        (h.evidence_is a b l₁ l₂) (h.count_is a b l₁ l₂)

    pub turn-ranked : (k : Ranking) → k ≡ ranking_of (map (hypothesis s) (with_turns_below s r))
        → ranked_turn k sums contributing (turn_of s r) (moves_across s r) ≡ ranking_of (map (hypothesis s) (with_turns_below s (r + 1)))
    unfolding with_turns_below
    turn-ranked k e =
        let next : suc r ≡ r + 1 = omega arith in
        rw e
        (ranked-same (ranking_of (map (hypothesis s) (with_turns_below s r)))
        (λ (j : ℕ). moved_to sums contributing (turn_of s r) (j / moves_down s r) (j % moves_down s r))
        (λ (j : ℕ). hypothesis s (placement_at s r j)) (many s r)
        moved-is
        ∙ listed_ranked (with_turns_below s r) (placement_at s r) (many s r)
        ∙ ap (λ (m : ℕ). ranking_of (map (hypothesis s) (with_turns_below s m))) next)

-- ---- their number
module _ (s : Shot) (wide : s.cols ≤ 32) (high : s.rows ≤ 32) where
  pub across_small : (r : ℕ) → moves_across s r ≤ 32
  unfolding frame
  across_small r = omega (arith, wide)

  pub down-small : (r : ℕ) → moves_down s r ≤ 32
  unfolding frame
  down-small r = omega (arith, high)

  start_small : (r : ℕ) → start s r ≤ r * 1024
  unfolding with_turns_below
  start_small zero = omega arith
  start_small (suc r) = omega (
    arith,
    start_next s r,
    start_small r,
    mul-le-mul {n₁ = moves_across s r} {m₁ = moves_down s r} {n₂ = 32} {m₂ = 32} (across_small r)
        (down-small r),
  )

  pub total-small : (r : ℕ) (k : Ranking) → k ≡ ranking_of (map (hypothesis s) (with_turns_below s r)) → k.total ≤ r * 1024
  total-small r k e = rw e (omega (arith, length-map (with_turns_below s r) (hypothesis s), start_small r))

-- ---- before the first turn, and the result after the last
pub no_turn-ranked : (s : Shot) → ranking_of [] ≡ ranking_of (map (hypothesis s) (with_turns_below s 0))
unfolding with_turns_below
no_turn-ranked s = refl

module _ (s : Shot) (k : Ranking) (e : k ≡ ranking_of (map (hypothesis s) (with_turns_below s 4))) where
  pub best-ranked : best s ≡ k.best
  unfolding placements
  best-ranked = ap (λ (x : Ranking). x.best) (sym e)

  chosen : (c : Option Hypothesis) → k.best ≡ c → enumerate s ≡ selected s c
  unfolding enumerate
  chosen c h = ap (selected s) (best-ranked ∙ h)

  -- with the capacity of its best placement
  pub enumerate-is : (capacities : GridAlignment → Float) → ((p : GridAlignment) → capacities p ≡ capacity s p)
      → enumerated_with k k.best capacities ≡ enumerate s
  unfolding placements
  enumerate-is capacities same = go k.best refl
    where
      go : (c : Option Hypothesis) → k.best ≡ c → enumerated_with k c capacities ≡ enumerate s
      go None h = sym (chosen None h)
      go (Some b) h =
          let answer : Option Hypothesis → ℕ → Float → (Option Selection) = λ next n x. Some (record {
            best = b;
            runner_up = next;
            total = n;
            margin = margin b.evidence x next;
          }) in
          ap (answer k.runner_up k.total) (same b.alignment)
          ∙ ap (λ (x : Ranking). answer x.runner_up x.total (capacity s b.alignment)) e
          ∙ ap (λ (n : ℕ). answer (runner_up s) n (capacity s b.alignment)) (length-map (placements s) (hypothesis s))
          ∙ sym (chosen (Some b) h)
