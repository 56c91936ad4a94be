-- The contributing cells of a placement: their number, and that their list has exactly the cells that contribute. So evidence is none exactly when no
-- cell contributes, and exactly when their count is 0. Assumes nothing.
use mathlib.Core.Path.{◌≡◌, refl, sym, ap, ap₂, subst, ◌∙◌}
use mathlib.Core.Logic.{◌⊎◌, inl, inr}
use mathlib.Core.Bool.{Bool, true, false, ◌&&◌, cond, and-true, and-false}
use mathlib.Core.List.Memᴰ
use mathlib.Core.List.{List, [], ◌∷◌, ◌++◌, Memᴰ}
use mathlib.Core.Option.{none, some-ne-none}
use Prim.Native.Nat.{ℕ, zero, suc, ◌+◌, ◌≤◌, ◌<◌}
use native.Mathlib.Nat.{eq-or-lt_of_le, le_of_suc-le-suc, le_step}
use native.Mathlib.Omega.{arith}
use lib.ListN.{length, length-append}
use lib.IntN.{ℤ, pos, negsuc}
use lib.Ieee.{Float, lt}
use Rattle.floats.specs.Units.{nought}
use Rattle.grid_alignment.specs.declared.GridAlignment.{GridAlignment}
use Rattle.grid_alignment.specs.Alignment.{applied}
use Rattle.board.specs.declared.Board.{Board}
use Rattle.board.specs.Numbering.{as_one, count_passing, number_if, number_at, number_atℤ}
use Rattle.board.specs.Layout.{marker_on}
use Rattle.board.proofs.Counting.{count_at-most}
use Rattle.score_matrix.specs.Scores.{Samples}
use Rattle.lent_list.specs.Front.{up_to}
use Rattle.shot_record.specs.Shots.{Shot}
use Rattle.ranking.specs.declared.Evidence.TheVariants as evidence
use Rattle.hypothesis.specs.Placements.{cell_total, cell_point}
use Rattle.hypothesis.specs.Evidence.{board_in, weight_of, samples_of, expected, Contribution, contributed_with, contributed, contributions_to, contributions}
use Rattle.hypothesis.specs.Evidence.{reported_over, reported, exact_over, exact}
use Rattle.hypothesis.specs.Rules.{Contributes, NoneRule, is_marker_square, is_contributing, CountRule}
use Rattle.std.specs.Prelude.{Option, Some, None}

-- ---- the lists f 0, …, f (n − 1)
module _ {A : Type 0} (f : ℕ → List A) (x : A) where
  given_by : (n : ℕ) → Memᴰ x (up_to f n) → (k : ℕ) × (k < n) × Memᴰ x (f k)
  unfolding up_to
  given_by zero i = absurd (Memᴰ.not-nil i)
  given_by (suc n) i = go (given_by n) (Memᴰ.append_cases (up_to f n) i)
    where
      go : (Memᴰ x (up_to f n) → (k : ℕ) × (k < n) × Memᴰ x (f k)) → Memᴰ x (up_to f n) ⊎ Memᴰ x (f n) → (k : ℕ) × (k < suc n)
          × Memᴰ x (f k)
      go earlier (inl i) = let k = earlier i in (k.0, le_step k.1, k.2)
      go earlier (inr i) = (n, omega arith, i)

  given : (n k : ℕ) → k < n → Memᴰ x (f k) → Memᴰ x (up_to f n)
  unfolding up_to
  given zero k l i = absurd (omega (arith, l))
  given (suc n) k l i = go (λ m. given n k m i) (eq-or-lt_of_le (le_of_suc-le-suc l))
    where
      go : (k < n → Memᴰ x (up_to f n)) → (k ≡ n) ⊎ (k < n) → Memᴰ x (up_to f n ++ f n)
      go earlier (inl e) = Memᴰ.append_right (up_to f n) (subst (λ (j : ℕ). Memᴰ x (f j)) e i)
      go earlier (inr m) = Memᴰ.append_left (f n) (earlier m)

-- ---- their number: a cell contributes once if its weight is above 0 and it lands on a marker square, else not
pub one_if : (t : Bool) (c : Contribution) → length {A = Contribution} (cond t (c ∷ []) []) ≡ as_one t
one_if true c = refl
one_if false c = refl

module _ (w : Float) (x : Samples) where
  by_marker : (t : Bool) (id : ℕ) → length (contributed_with w x (number_if t id)) ≡ as_one (lt nought w && t)
  by_marker true id = one_if (lt nought w) (record { weight = w; samples = x; id = id }) ∙ ap as_one (sym (and-true (lt nought w)))
  by_marker false id = ap as_one (sym (and-false (lt nought w)))

  by_square : (b : Board) (u v : ℤ) → length (contributed_with w x (marker_on b u v)) ≡ as_one (lt nought w && is_marker_square b u v)
  unfolding number_atℤ number_at
  by_square b (pos i) (pos j) = by_marker _ _
  by_square b (pos i) (negsuc j) = by_marker false 0
  by_square b (negsuc i) j = by_marker false 0

module _ (s : Shot) (p : GridAlignment) where
  count_is : (n : ℕ) → length (contributions_to s p n) ≡ count_passing (is_contributing s p) n
  unfolding up_to count_passing contributed expected
  count_is zero = refl
  count_is (suc n) =
      let q = applied p (cell_point s n) in
      length-append (contributions_to s p n) (contributed s p n)
      ∙ ap₂ ◌+◌ (count_is n) (by_square (weight_of s n) (samples_of s n) (board_in s) q.u q.v)

  pub at_most : (n : ℕ) → length (contributions_to s p n) ≤ n
  at_most n = rw (count_is n) (count_at-most (is_contributing s p) n)

  -- ---- a cell that contributes, and the elements of the list
  pub of_some_cell : (c : Contribution) → Memᴰ c (contributions s p) → (k : ℕ) × (k < cell_total s) × Memᴰ c (contributed s p k)
  of_some_cell c i = given_by (contributed s p) c (cell_total s) i

  contributes : (c : Contribution) (k : ℕ) → k < cell_total s → Memᴰ c (contributed s p k) → Contributes s p k
  unfolding contributed
  contributes c k inside i = go (expected s p k) refl (lt nought (weight_of s k)) refl i
    where
      go : (m : Option ℕ) → expected s p k ≡ m → (t : Bool) → lt nought (weight_of s k) ≡ t → Memᴰ c (contributed_with (weight_of s k) (samples_of s k) m)
          → Contributes s p k
      go None e t h i = absurd (Memᴰ.not-nil i)
      go (Some m) e true h i = record { inside = inside; id = m; marker = e; weight = h }
      go (Some m) e false h i = absurd (Memᴰ.not-nil (rw h at i))

  stands : (k : ℕ) → Contributes s p k → (c : Contribution) × Memᴰ c (contributions s p)
  unfolding contributed
  stands k h =
      let c : Contribution = record { weight = weight_of s k; samples = samples_of s k; id = h.id } in
      let one : contributed s p k ≡ c ∷ [] = ap (contributed_with (weight_of s k) (samples_of s k)) h.marker
      ∙ ap (λ (t : Bool). cond t (c ∷ []) []) h.weight in
      (c, given (contributed s p) c (cell_total s) k h.inside (subst (Memᴰ c) (sym one) (Memᴰ.head refl)))

-- ---- none exactly when no cell contributes
pub none_rule : NoneRule
unfolding reported exact
none_rule s p =
    record {
      reported_if = λ h. ap (reported_over s p.turn) (none_if h);
      reported_only_if = λ e k h. reported_none (contributions s p) e (stands s p k h);
      exact_if = λ h. ap (exact_over s p.turn) (none_if h);
      exact_only_if = λ e k h. exact_none (contributions s p) e (stands s p k h);
    }
  where
    none_if : ((k : ℕ) → Contributes s p k → ⊥) → contributions s p ≡ []
    none_if h = go (contributions s p) (λ c i. let k = of_some_cell s p c i in h k.0 (contributes s p c k.0 k.1 k.2))
      where
        go : (cs : List Contribution) → ((c : Contribution) → Memᴰ c cs → ⊥) → cs ≡ []
        go [] f = refl
        go (c ∷ cs) f = absurd (f c (Memᴰ.head refl))

    reported_none : (cs : List Contribution) → reported_over s p.turn cs ≡ evidence.Absent → (c : Contribution) × Memᴰ c cs → ⊥
    reported_none [] e c = Memᴰ.not-nil c.1
    reported_none (d ∷ cs) e c = let z : ◌≡◌ {A = ℕ} 0 1 = cc in omega arith

    exact_none : (cs : List Contribution) → exact_over s p.turn cs ≡ none → (c : Contribution) × Memᴰ c cs → ⊥
    exact_none [] e c = Memᴰ.not-nil c.1
    exact_none (d ∷ cs) e c = some-ne-none _ e

-- ---- and exactly when their count is 0
pub count_rule : CountRule
unfolding reported
count_rule s p =
    record {
      number = count_is s p (cell_total s);
      at_most = at_most s p (cell_total s);
      none_if = none_if (contributions s p);
      none_only_if = none_only_if (contributions s p);
    }
  where
    none_if : (cs : List Contribution) → length cs ≡ 0 → reported_over s p.turn cs ≡ evidence.Absent
    none_if [] e = refl
    none_if (c ∷ cs) e = absurd (omega (arith, e))

    none_only_if : (cs : List Contribution) → reported_over s p.turn cs ≡ evidence.Absent → length cs ≡ 0
    none_only_if [] e = refl
    none_only_if (c ∷ cs) e = absurd (let z : ◌≡◌ {A = ℕ} 0 1 = cc in omega arith)
