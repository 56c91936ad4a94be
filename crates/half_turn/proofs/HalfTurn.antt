-- A board turned by half: square (i, j) becomes (cols − 1 − i, rows − 1 − j), board corner (i, j) becomes (cols − i, rows − j), and number m of n becomes
-- n − 1 − m. With even rows and odd cols the markers are then on the squares of the other parity. Assumes nothing.
use mathlib.Core.Path.{◌≡◌, refl, sym, ap, ap₂, ◌∙◌}
use mathlib.Core.Bool.{Bool, true, false}
use Prim.Native.Nat.{ℕ, ◌+◌, ◌-◌, ◌*◌, ◌/◌, ◌%◌, ◌≤◌, ◌<◌}
use native.Mathlib.Omega.{arith}
use lib.IntN.{ℤ, pos, negsuc, ◌-ℤ◌}
use lib.Dec.{T, ltb, ltb→lt, eqb→eq}
use lib.Ieee.Fits.{and_l, and_r}
use borrow.Author.Tests.{eq-eqb}
use Rattle.integers.proofs.Parts.{plus, minus, ext, sub_is_parts}
use Rattle.board.specs.Numbering.{number_at, number_atℤ, number_if}
use Rattle.board.specs.Layout.{holds_marker, inner}
use Rattle.board.proofs.Places.{number-has}
use Rattle.board.proofs.Markers.{number-on}
use Rattle.board.proofs.Corners.{corner-number}
use Rattle.board.proofs.Surroundings.{inner-corner}
use Rattle.half_turn.specs.Pairs.{from_last}
use Rattle.std.specs.Prelude.{Option, Some, None}

-- ---- the place opposite to one with number m of n has number n − 1 − m, among the places that pass a test
pub record OppositePlace (t : ℕ → ℕ → Bool) (w h a b n i j m : ℕ) : Type 0 where
  pub column : i ≤ a
  pub row : j ≤ b
  pub number : number_at t w h (a - i) (b - j) ≡ Some (n - 1 - m)

record NaturalPlace (t : ℕ → ℕ → Bool) (w h : ℕ) (x y : ℤ) (m : ℕ) : Type 0 where
  i : ℕ
  j : ℕ
  column : x ≡ pos i
  row : y ≡ pos j
  number : number_at t w h i j ≡ Some m

natural_place : (t : ℕ → ℕ → Bool) (w h : ℕ) (x y : ℤ) (m : ℕ) → number_atℤ t w h x y ≡ Some m → NaturalPlace t w h x y m
unfolding number_atℤ
natural_place t w h (pos i) (pos j) m e = record { i = i; j = j; column = refl; row = refl; number = e }
natural_place t w h (pos i) (negsuc j) m e = absurd (grind arith)
natural_place t w h (negsuc i) y m e = absurd (grind arith)

-- a − i, of an integer that is i; and back
pub opposite_at : (a i : ℕ) (x : ℤ) → x ≡ pos i → i ≤ a → pos a -ℤ x ≡ pos (a - i)
unfolding plus minus
opposite_at a i x e l = ap (λ (z : ℤ). pos a -ℤ z) e ∙ ext (pos a -ℤ pos i) (pos (a - i)) (omega (arith, sub_is_parts (pos a) (pos i)))

pub opposite_from : (a i : ℕ) (x : ℤ) → pos a -ℤ x ≡ pos i → i ≤ a → x ≡ pos (a - i)
unfolding plus minus
opposite_from a i x e l = ext x (pos (a - i)) (omega (arith, sub_is_parts (pos a) x, ap plus e, ap minus e))

natural : (t : ℕ → ℕ → Bool) (w h i j : ℕ) → number_atℤ t w h (pos i) (pos j) ≡ number_at t w h i j
unfolding number_atℤ
natural t w h i j = refl

module _ (w h a b n : ℕ) where
  pub half-turn : (t t' : ℕ → ℕ → Bool) → ((i j m : ℕ) → number_at t w h i j ≡ Some m → OppositePlace t' w h a b n i j m)
      → ((i j m : ℕ) → number_at t' w h i j ≡ Some m → OppositePlace t w h a b n i j m)
      → (x y : ℤ) → number_atℤ t' w h (pos a -ℤ x) (pos b -ℤ y) ≡ from_last n (number_atℤ t w h x y)
  half-turn t t' there here x y = go (number_atℤ t w h x y) (number_atℤ t' w h (pos a -ℤ x) (pos b -ℤ y)) refl refl
    where
      go : (o o' : Option ℕ) → number_atℤ t w h x y ≡ o → number_atℤ t' w h (pos a -ℤ x) (pos b -ℤ y) ≡ o' → o' ≡ from_last n o
      go (Some m) o' e e' =
          let s = natural_place t w h x y m e in
          let g = there s.i s.j m s.number in
          sym e' ∙ ap₂ (number_atℤ t' w h) (opposite_at a s.i x s.column g.column) (opposite_at b s.j y s.row g.row)
          ∙ natural t' w h (a - s.i) (b - s.j) ∙ g.number
      go None None e e' = refl
      go None (Some m) e e' =
          let s = natural_place t' w h (pos a -ℤ x) (pos b -ℤ y) m e' in
          let g = here s.i s.j m s.number in
          let c : None ≡ Some (n - 1 - m) =
          sym e ∙ ap₂ (number_atℤ t w h) (opposite_from a s.i x s.column g.column) (opposite_from b s.j y s.row g.row)
          ∙ natural t w h (a - s.i) (b - s.j) ∙ g.number in
          absurd (grind arith)

-- ---- markers
if_id : (t : Bool) (k m : ℕ) → number_if t k ≡ Some m → T t × (k ≡ m)
if_id true k m e = (tt, cc)
if_id false k m e = absurd (grind arith)

-- two ranks, one as far from the last as the other from the first, in an even number of them
halves : (n k k' m : ℕ) → n % 2 ≡ 0 → k + k' + 1 ≡ n → k / 2 ≡ m → k' / 2 ≡ n / 2 - 1 - m
halves n k k' m even e id = omega arith

ranks : (rows w i j : ℕ) → i < w → j < rows → j * w + i + ((rows - 1 - j) * w + (w - 1 - i)) + 1 ≡ rows * w
ranks rows w i j l k =
    let all : rows ≡ rows - 1 - j + j + 1 = omega arith in
    omega (arith, ap (λ (x : ℕ). x * w) all)

even_area : (rows w : ℕ) → rows % 2 ≡ 0 → rows * w % 2 ≡ 0
even_area rows w even =
    let half : rows ≡ 2 * (rows / 2) = omega arith in
    omega (arith, ap (λ (x : ℕ). x * w) half)

-- of two numbers with an odd sum one is odd
parities : (n s s' p q : ℕ) → n % 2 ≡ 1 → s + s' + 2 ≡ n → s % 2 ≡ p → p + q ≡ 1 → s' % 2 ≡ q
parities n s s' p q odd e is other =
    let a : s ≡ 2 * (s / 2) + p = omega (arith, is) in
    let b : n ≡ 2 * (n / 2) + 1 = omega (arith, odd) in
    omega (arith, a, b, e, other)

odd_sum : (rows w : ℕ) → rows % 2 ≡ 0 → w % 2 ≡ 1 → (rows + w) % 2 ≡ 1
odd_sum rows w even odd = omega arith

module _ (rows w : ℕ) (even : rows % 2 ≡ 0) (odd : w % 2 ≡ 1) where
  marker_goes : (p q : ℕ) → p + q ≡ 1 → (i j m : ℕ) → number_at (holds_marker p) w rows i j ≡ Some m
      → OppositePlace (holds_marker q) w rows (w - 1) (rows - 1) (rows * w / 2) i j m
  marker_goes p q other i j m e =
      let s = number-has (holds_marker p) w rows i j m e in
      let l = s.column in
      let k = s.row in
      let is : (i + j) % 2 ≡ p = eqb→eq ((i + j) % 2) p s.passes in
      let id = (if_id (holds_marker p i j) ((j * w + i) / 2) m (sym (number-on p rows w i j (omega (arith, other)) l k) ∙ e)).1 in
      let i' = w - 1 - i in
      let j' = rows - 1 - j in
      let holds : holds_marker q i' j' ≡ true =
      eq-eqb ((i' + j') % 2) q (parities (rows + w) (i + j) (i' + j') p q (odd_sum rows w even odd) (omega (arith, l, k)) is other) in
      record {
        column = omega (arith, l);
        row = omega (arith, k);
        number = number-on q rows w i' j' (omega (arith, other)) (omega (arith, l)) (omega (arith, k))
            ∙ ap (λ (b : Bool). number_if b ((j' * w + i') / 2)) holds
            ∙ ap Some (halves (rows * w) (j * w + i) (j' * w + i') m (even_area rows w even) (ranks rows w i j l k) id);
      }

  pub markers-turned : (x y : ℤ) → number_atℤ (holds_marker 1) w rows (pos (w - 1) -ℤ x) (pos (rows - 1) -ℤ y)
      ≡ from_last (rows * w / 2) (number_atℤ (holds_marker 0) w rows x y)
  markers-turned = half-turn w rows (w - 1) (rows - 1) (rows * w / 2) (holds_marker 0) (holds_marker 1) (marker_goes 0 1 refl) (marker_goes 1 0 refl)

-- ---- corners, of every size
pub corner_goes : (rows w i j m : ℕ) → number_at inner w rows i j ≡ Some m → OppositePlace inner w rows w rows ((rows - 1) * (w - 1)) i j m
corner_goes rows w i j m e =
    let s = number-has inner w rows i j m e in
    let l = s.column in
    let k = s.row in
    let left = ltb→lt 0 i (and_l (ltb 0 i) (ltb 0 j) s.passes) in
    let top = ltb→lt 0 j (and_r (ltb 0 i) (ltb 0 j) s.passes) in
    let id = sym s.number ∙ corner-number w i j (omega (arith, l)) top in
    let d = w - 1 in
    let above : rows - 1 ≡ (rows - j - 1) + (j - 1) + 1 = omega (arith, k, top) in
    let area : (rows - 1) * d ≡ ((rows - j - 1) + (j - 1) + 1) * d = ap (λ (x : ℕ). x * d) above in
    record {
      column = omega (arith, l);
      row = omega (arith, k);
      number = inner-corner rows w (w - i) (rows - j) (omega (arith, l)) (omega (arith, k)) (omega (arith, l, left)) (omega (arith, k, top))
          ∙ ap Some (omega (arith, id, area, l, left));
    }

pub corners-turned : (rows w : ℕ) (x y : ℤ) → number_atℤ inner w rows (pos w -ℤ x) (pos rows -ℤ y)
    ≡ from_last ((rows - 1) * (w - 1)) (number_atℤ inner w rows x y)
corners-turned rows w = half-turn w rows w rows ((rows - 1) * (w - 1)) inner inner (corner_goes rows w) (corner_goes rows w)
