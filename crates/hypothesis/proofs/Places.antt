-- The index of each placement in the list: those of a turn follow those of the turns before it. Assumes nothing.
use mathlib.Core.Path.{◌≡◌, refl, sym, ap, ◌∙◌}
use mathlib.Core.Logic.{inl, inr}
use Prim.Native.Nat.{ℕ, zero, suc, ◌+◌, ◌-◌, ◌*◌, ◌≤◌, ◌<◌}
use native.Mathlib.Nat.{le_of_suc-le-suc, eq-or-lt_of_le}
use native.Mathlib.Omega.{arith}
use mathlib.Core.List.{List, [], ◌∷◌, ◌++◌}
use mathlib.Core.Option.{some}
use lib.ListN.{length, length-append, get_elem?}
use Rattle.integers.proofs.Distances.{lt_or_le}
use Rattle.grid_alignment.specs.declared.GridAlignment.{GridAlignment}
use Rattle.shot_record.specs.Shots.{Shot, list}
use Rattle.shot_record.proofs.Lists.{length-list, get_elem?_list, get_elem?_list_past}
use Rattle.hypothesis.specs.Placements.{moves_across, moves_down, placement_at, with_turn, with_turns_below}

-- ---- an element of the concatenation of two lists
module _ {A : Type 0} where
  get_elem?_first : (xs ys : List A) (k : ℕ) → k < length xs → get_elem? (xs ++ ys) k ≡ get_elem? xs k
  get_elem?_first [] ys k h = absurd (omega arith)
  get_elem?_first (x ∷ xs) ys zero h = refl
  get_elem?_first (x ∷ xs) ys (suc k) h = get_elem?_first xs ys k (le_of_suc-le-suc h)

  get_elem?_second : (xs ys : List A) (k : ℕ) → length xs ≤ k → get_elem? (xs ++ ys) k ≡ get_elem? ys (k - length xs)
  get_elem?_second [] ys k h = ap (get_elem? ys) (omega arith)
  get_elem?_second (x ∷ xs) ys zero h = absurd (omega arith)
  get_elem?_second (x ∷ xs) ys (suc k) h = get_elem?_second xs ys k (le_of_suc-le-suc h) ∙ ap (get_elem? ys) (omega arith)

  -- of the list f 0, …, f (n − 1)
  listed : (f : ℕ → A) (n k : ℕ) (x : A) → get_elem? (list f n) k ≡ some x → (k < n) × (x ≡ f k)
  listed f n k x e = elim (lt_or_le k n) [
    | inl l ↦ (l, let p = get_elem?_list f n k l in cc)
    | inr g ↦ absurd (let p = get_elem?_list_past f n k g in let z : ◌≡◌ {A = ℕ} 0 1 = cc in omega arith)
  ]

module _ (s : Shot) where
  -- the number of placements with a turn below r, and with turn r
  abbrev pub start : ℕ → ℕ
  start r = length (with_turns_below s r)

  abbrev pub many : ℕ → ℕ
  many r = moves_across s r * moves_down s r

  pub start_next : (r : ℕ) → start (suc r) ≡ start r + many r
  unfolding with_turns_below
  start_next r = length-append (with_turns_below s r) (with_turn s r) ∙ ap (λ (n : ℕ). start r + n) (length-list (placement_at s r) (many r))

  pub start_later : (q r : ℕ) → q < r → start q + many q ≤ start r
  start_later q zero h = absurd (omega arith)
  start_later q (suc r) h = elim (eq-or-lt_of_le (le_of_suc-le-suc h)) [
    | inl e ↦ rw e (omega (arith, start_next r))
    | inr l ↦ omega (arith, start_next r, start_later q r l)
  ]

  -- p has index k, as placement j of turn r
  pub record Stands (n k : ℕ) (p : GridAlignment) : Type 0 where
    pub r : ℕ
    pub j : ℕ
    pub turn : r < n
    pub inside : j < many r
    pub at : k ≡ start r + j
    pub is : p ≡ placement_at s r j

  pub stands : (n k : ℕ) (p : GridAlignment) → get_elem? (with_turns_below s n) k ≡ some p → Stands n k p
  unfolding with_turns_below
  stands zero k p e = absurd (let z : ◌≡◌ {A = ℕ} 0 1 = cc in omega arith)
  stands (suc n) k p e = elim (lt_or_le k (start n)) [
    | inl l ↦
        let o = stands n k p (sym (get_elem?_first (with_turns_below s n) (with_turn s n) k l) ∙ e) in
        record { r = o.r; j = o.j; turn = omega (arith, o.turn); inside = o.inside; at = o.at; is = o.is }
    | inr g ↦
        let o = listed (placement_at s n) (many n) (k - start n) p (sym (get_elem?_second (with_turns_below s n) (with_turn s n) k g) ∙ e) in
        record { r = n; j = k - start n; turn = omega arith; inside = o.0; at = omega arith; is = o.1 }
  ]

  pub stood : (n r j : ℕ) → r < n → j < many r → get_elem? (with_turns_below s n) (start r + j) ≡ some (placement_at s r j)
  unfolding with_turns_below
  stood zero r j h l = absurd (omega arith)
  stood (suc n) r j h l = elim (eq-or-lt_of_le (le_of_suc-le-suc h)) [
    | inl e ↦
        rw e
        (get_elem?_second (with_turns_below s n) (with_turn s n) (start n + j) (omega arith)
        ∙ ap (get_elem? (with_turn s n)) (omega arith)
        ∙ get_elem?_list (placement_at s n) (many n) j (rw e at l))
    | inr g ↦ get_elem?_first (with_turns_below s n) (with_turn s n) (start r + j) (omega (arith, start_later r n g)) ∙ stood n r j g l
  ]
