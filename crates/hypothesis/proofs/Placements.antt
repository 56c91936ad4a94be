-- The placements are exactly those that put every cell on the board, each once, in order, and as many as document 01 states. Assumes nothing.
use mathlib.Core.Path.{◌≡◌, refl, sym, ap, ap₂, subst, ◌∙◌}
use mathlib.Core.Logic.{◌⊎◌, inl, inr}
use Prim.Native.Nat.{ℕ, zero, suc, ◌+◌, ◌-◌, ◌*◌, ◌/◌, ◌%◌, ◌<◌}
use native.Mathlib.Nat.{eq-or-lt_of_le, div-add-mod', div-lt_iff_lt-mul, mod-lt, mul-le-mul_right, mul-zero, zero-mul}
use native.Mathlib.Omega.{arith}
use mathlib.Core.Bool.{Bool, true, false, ◌&&◌, cond}
use mathlib.Core.Option.{some}
use lib.Arith.{digits_lt, digits_div, digits_mod}
use lib.Dec.{leb}
use lib.ListN.{length, get_elem?}
use lib.IntN.{ℤ, pos, ◌-ℤ◌}
use lib.Signed.{◌<ℤ◌, lt_z_yes, <ℤ_irrefl}
use borrow.Author.Tests.{leb-true, leb-false}
use Rattle.integers.proofs.Parts.{plus, minus, sub_is_parts}
use Rattle.integers.proofs.Distances.{Lt→ltZ, lt_or_le}
use Rattle.grid_alignment.specs.declared.GridAlignment.{GridAlignment}
use Rattle.shot_record.specs.Shots.{Shot}
use Rattle.hypothesis.specs.Placements.{cell_total, frame, moves_across, moves_down, shifted, placement_at, with_turns_below, placements}
use Rattle.hypothesis.specs.Rules.{Fits, Precedes, count_with, count_of, PlacementsRule}
use Rattle.hypothesis.proofs.Frames.{moves_fit, fit_moves}
use Rattle.hypothesis.proofs.Places.{start, many, start_next, start_later, Stands, stands, stood}

-- ---- numbers of two digits, the second below d
pub positive : (a d j : ℕ) → j < a * d → 0 < d
positive a zero j h = absurd (omega arith)
positive a (suc d) j h = omega arith

lexical : (d i j : ℕ) → 0 < d → i < j → (i / d < j / d) ⊎ ((i / d ≡ j / d) × (i % d < j % d))
lexical d i j d₀ h =
    let m = mod-lt i d₀ in
    let n = mod-lt j d₀ in
    let x = div-add-mod' i d in
    let y = div-add-mod' j d in
    elim (lt_or_le (i / d) (j / d)) [
      | inl l ↦ inl l
      | inr g ↦ elim (eq-or-lt_of_le g) [
        | inl e ↦ inr (sym e, omega (arith, ap (λ (q : ℕ). q * d) e))
        | inr l ↦ absurd (omega (arith, mul-le-mul_right d l))
      ]
    ]

-- ---- in order
less : (a b : ℕ) (z : ℤ) → a < b → (pos a -ℤ z) <ℤ (pos b -ℤ z)
unfolding plus minus
less a b z h = lt_z_yes (Lt→ltZ (pos a -ℤ z) (pos b -ℤ z) (omega (arith, sub_is_parts (pos a) z, sub_is_parts (pos b) z)))

module _ (s : Shot) where
  turn-rising : (r i j : ℕ) → 0 < moves_down s r → i < j → Precedes (placement_at s r i) (placement_at s r j)
  turn-rising r i j d₀ h = inr (refl, go (lexical (moves_down s r) i j d₀ h))
    where
      d : ℕ
      d = moves_down s r

      go : (i / d < j / d) ⊎ ((i / d ≡ j / d) × (i % d < j % d))
          → ((placement_at s r i).tx <ℤ (placement_at s r j).tx) ⊎
          (((placement_at s r i).tx ≡ (placement_at s r j).tx) × ((placement_at s r i).ty <ℤ (placement_at s r j).ty))
      go (inl l) = inl (less (i / d) (j / d) (frame s r).u l)
      go (inr e) = inr (ap (λ (n : ℕ). pos n -ℤ (frame s r).u) e.0, less (i % d) (j % d) (frame s r).v e.1)

  stands-rising : (n i j : ℕ) (p q : GridAlignment) → i < j → Stands s n i p → Stands s n j q → Precedes p q
  stands-rising n i j p q h x y = rw (x.is, y.is) (elim (lt_or_le x.r y.r) [
    | inl l ↦ inl l
    | inr g ↦ elim (eq-or-lt_of_le g) [
      | inl e ↦ same x.r y.r (sym e) x.j y.j x.inside (omega (arith, x.at, y.at, ap (start s) e))
      | inr l ↦ absurd (omega (arith, x.at, y.at, y.inside, start_later s y.r x.r l))
    ]
  ])
    where
      same : (a b : ℕ) → a ≡ b → (k l : ℕ) → k < many s a → k < l → Precedes (placement_at s a k) (placement_at s b l)
      same a b e k l m h = subst (λ (c : ℕ). Precedes (placement_at s a k) (placement_at s c l)) e
          (turn-rising a k l (positive (moves_across s a) (moves_down s a) k m) h)

  -- ---- their number
  count_with_lem : (r : ℕ) → many s r ≡ count_with s r
  count_with_lem r = go (leb w s.cols) (leb h s.rows) refl refl
    where
      w : ℕ
      w = (frame s r).width

      h : ℕ
      h = (frame s r).height

      go : (x y : Bool) → leb w s.cols ≡ x → leb h s.rows ≡ y → many s r ≡ cond (x && y) ((s.cols - w + 1) * (s.rows - h + 1)) 0
      go true true p q = ap₂ (λ (a b : ℕ). a * b) (omega (arith, leb-true w s.cols p)) (omega (arith, leb-true h s.rows q))
      go true false p q = let n : moves_down s r ≡ 0 = omega (arith, leb-false h s.rows q) in ap (λ (b : ℕ). moves_across s r * b) n
          ∙ mul-zero (moves_across s r)
      go false y p q = let n : moves_across s r ≡ 0 = omega (arith, leb-false w s.cols p) in ap (λ (a : ℕ). a * moves_down s r) n ∙ zero-mul (moves_down s r)

  pub count_is : length (placements s) ≡ count_of s
  unfolding placements with_turns_below
  count_is =
      omega
      (arith, start_next s 0, start_next s 1, start_next s 2, start_next s 3, count_with_lem 0, count_with_lem 1, count_with_lem 2, count_with_lem 3)

  -- ---- exactly those that fit
  pub sound : (k : ℕ) (p : GridAlignment) → get_elem? (placements s) k ≡ some p → Fits s p
  unfolding placements
  sound k p e =
      let o = stands s 4 k p e in
      let d₀ = positive (moves_across s o.r) (moves_down s o.r) o.j o.inside in
      rw o.is
      (moves_fit s o.r o.turn (o.j / moves_down s o.r) (o.j % moves_down s o.r)
      record { columns = (div-lt_iff_lt-mul d₀).1 o.inside; rows = mod-lt o.j d₀ })

  pub complete : 0 < cell_total s → (p : GridAlignment) → Fits s p → (k : ℕ) × (get_elem? (placements s) k ≡ some p)
  unfolding placements
  complete first p f =
      let x = fit_moves s first p f in
      let r = p.turn in
      let d = moves_down s r in
      let j = x.a * d + x.b in (
        start s r + j,
        stood s 4 r j f.0 (digits_lt x.moves.columns x.moves.rows)
            ∙ ap some (ap₂ (shifted s r) (digits_div x.a x.moves.rows) (digits_mod x.a x.moves.rows) ∙ sym x.is),
      )

  pub rising : (i j : ℕ) (p q : GridAlignment) → i < j → get_elem? (placements s) i ≡ some p → get_elem? (placements s) j ≡ some q → Precedes p q
  unfolding placements
  rising i j p q h x y = stands-rising 4 i j p q h (stands s 4 i p x) (stands s 4 j q y)

-- ---- each once
not_itself : (p : GridAlignment) → Precedes p p → ⊥
not_itself p (inl l) = omega arith
not_itself p (inr (e, inl l)) = <ℤ_irrefl {a = p.tx} l
not_itself p (inr (e, inr (f, l))) = <ℤ_irrefl {a = p.ty} l

pub distinct : (s : Shot) (i j : ℕ) (p : GridAlignment) → get_elem? (placements s) i ≡ some p → get_elem? (placements s) j ≡ some p → i ≡ j
distinct s i j p x y = elim (lt_or_le i j) [
  | inl l ↦ absurd (not_itself p (rising s i j p p l x y))
  | inr g ↦ elim (eq-or-lt_of_le g) [ inl e ↦ sym e | inr l ↦ absurd (not_itself p (rising s j i p p l y x)) ]
]

pub placements_rule : PlacementsRule
placements_rule s first = record { sound = sound s; complete = complete s first; rising = rising s; count = count_is s }
