-- The formulas for markers: of each two ranks 2m and 2m + 1 one has marker m. For both parities and every size.
-- Assumes nothing.
use mathlib.Core.Path.{◌≡◌, refl, ap, ◌∙◌}
use mathlib.Core.Bool.{Bool, true, false, not, cond, ◌&&◌}
use Prim.Native.Nat.{ℕ, zero, suc, ◌+◌, ◌-◌, ◌*◌, ◌/◌, ◌%◌, ◌<◌}
use native.Mathlib.Nat.{mod-lt, div-add-mod', mul-zero}
use native.Mathlib.Numerals.{add-one}
use native.Mathlib.Omega.{arith}
use lib.Dec.{T, eqb, eqb→eq, eqb_refl, lit<}
use lib.Arith.{digits_div, digits_mod}
use Rattle.board.specs.declared.Board.{Board}
use Rattle.board.specs.Numbering.{as_one, count_passing, by_rank, number_if, number_at}
use Rattle.board.specs.Layout.{holds_marker, even_parity, odd_parity, parity_of, marker_count}
use Rattle.board.proofs.Counting.{one_false, count_suc, count_under}
use Rattle.board.proofs.Parities.{opposite}
use Rattle.board.proofs.Places.{Has, place-has, has-number, unnumbered}

-- the parity of the square of a rank
abbrev side : ℕ → ℕ → ℕ
side w k = (k % w + k / w) % 2

-- ranks 2m and 2m + 1 have different parities
alternate : (w m : ℕ) → 0 < w → side w (2 * m) + side w (2 * m + 1) ≡ 1
alternate w m some = go (w % 2) refl (mod-lt w (lit< tt))
  where
    a : ℕ
    a = 2 * m / w

    r : ℕ
    r = 2 * m % w

    whole : a * w + r ≡ 2 * m
    whole = div-add-mod' (2 * m) w

    -- an even width: the two squares are adjacent
    beside : (c : ℕ) → w ≡ 2 * c → side w (2 * m) + side w (2 * m + 1) ≡ 1
    beside c e =
        let s : r + 1 < w = omega (arith, whole, ap (λ (n : ℕ). a * n) e, mod-lt (2 * m) some) in
        let next : 2 * m + 1 ≡ a * w + (r + 1) = omega (arith, whole) in
        let column : (2 * m + 1) % w ≡ r + 1 = ap (λ (n : ℕ). n % w) next ∙ digits_mod a s in
        let row : (2 * m + 1) / w ≡ a = ap (λ (n : ℕ). n / w) next ∙ digits_div a s in
        rw (column, row) (omega arith)

    -- an odd width: a square's parity is its rank's
    apart : (c : ℕ) → w ≡ 2 * c + 1 → side w (2 * m) + side w (2 * m + 1) ≡ 1
    apart c e =
        let b = (2 * m + 1) / w in
        omega (arith, whole, div-add-mod' (2 * m + 1) w, ap (λ (n : ℕ). a * n) e, ap (λ (n : ℕ). b * n) e)

    go : (p : ℕ) → w % 2 ≡ p → p < 2 → side w (2 * m) + side w (2 * m + 1) ≡ 1
    go zero e l = beside (w / 2) (omega arith)
    go (suc zero) e l = apart (w / 2) (omega arith)
    go (suc (suc p)) e l = absurd (omega arith)

one_not : (b : Bool) → as_one (not b) + as_one b ≡ 1
one_not true = refl
one_not false = refl

-- of two different parities one is p
one_of : (x y p : ℕ) → x + y ≡ 1 → p < 2 → as_one (eqb x p) + as_one (eqb y p) ≡ 1
one_of x y p e bit = rw (opposite x y p e bit) (one_not (eqb y p))

module _ (p w : ℕ) (bit : p < 2) (some : 0 < w) where
  abbrev q : ℕ → Bool
  q = by_rank (holds_marker p) w

  passes-is : (k : ℕ) → T (q k) → side w k ≡ p
  passes-is k y = eqb→eq (side w k) p y

  is-passes : (k : ℕ) → side w k ≡ p → T (q k)
  is-passes k e = rw e (eqb_refl p)

  pub count_even : (m : ℕ) → count_passing q (2 * m) ≡ m
  unfolding count_passing
  count_even zero = refl
  count_even (suc m) =
      let two : 2 * suc m ≡ suc (suc (2 * m)) = omega arith in
      ap (count_passing q) two
      ∙ omega (arith, count_even m, one_of (side w (2 * m)) (side w (2 * m + 1)) p (alternate w m some) bit, ap (λ (n : ℕ). as_one (q n)) (add-one (2 * m)))

  -- one square on: as many, if the first of the two has no marker
  count_odd : (m : ℕ) → count_passing q (2 * m + 1) ≡ m + as_one (q (2 * m))
  count_odd m = rw add-one (omega (arith, count_suc q (2 * m), count_even m))

  -- the number of markers before a square that has one
  pub marker-number : (k : ℕ) → T (q k) → count_passing q k ≡ k / 2
  marker-number k y = go (k % 2) refl (mod-lt k (lit< tt))
    where
      go : (b : ℕ) → k % 2 ≡ b → b < 2 → count_passing q k ≡ k / 2
      go zero e l = let whole : k ≡ 2 * (k / 2) = omega arith in ap (count_passing q) whole ∙ count_even (k / 2)
      go (suc zero) e l =
          let whole : k ≡ 2 * (k / 2) + 1 = omega arith in
          let free : T (q (2 * (k / 2))) → ⊥ =
          λ z. omega (arith, alternate w (k / 2) some, passes-is (2 * (k / 2)) z, ap (side w) whole, passes-is k y) in
          ap (count_passing q) whole ∙ omega (arith, count_odd (k / 2), one_false (q (2 * (k / 2))) free)
      go (suc (suc b)) e l = absurd (omega arith)

  -- the number of markers of a board
  last_free : (rows m : ℕ) → rows * w ≡ 2 * m + 1 → side w (2 * m) ≡ 0
  last_free zero m e = absurd (omega arith)
  last_free (suc r) m e =
      let last : 2 * m ≡ r * w + (w - 1) = omega arith in
      let column : 2 * m % w ≡ w - 1 = ap (λ (n : ℕ). n % w) last ∙ digits_mod r (omega arith) in
      let row : 2 * m / w ≡ r = ap (λ (n : ℕ). n / w) last ∙ digits_div r (omega arith) in
      rw (column, row) (both (r % 2) (w % 2) refl refl (mod-lt r (lit< tt)) (mod-lt w (lit< tt)))
    where
      -- neither factor of an odd product is even
      both : (a b : ℕ) → r % 2 ≡ a → w % 2 ≡ b → a < 2 → b < 2 → (w - 1 + r) % 2 ≡ 0
      both zero (suc zero) x y l k = omega arith
      both zero zero x y l k =
          let half : w ≡ 2 * (w / 2) = omega arith in
          absurd (omega (arith, ap (λ (n : ℕ). suc r * n) half))
      both (suc zero) b x y l k =
          let half : suc r ≡ 2 * (r / 2) + 2 = omega arith in
          absurd (omega (arith, ap (λ (n : ℕ). n * w) half))
      both (suc (suc a)) b x y l k = absurd (omega arith)
      both zero (suc (suc b)) x y l k = absurd (omega arith)

  half : (rows : ℕ) → marker_count p rows w ≡ (rows * w + (1 - p)) / 2
  half rows = go (rows * w % 2) refl (mod-lt (rows * w) (lit< tt))
    where
      corner : (n : ℕ) → n < 2 → as_one (eqb 0 n) ≡ 1 - n
      corner zero l = refl
      corner (suc zero) l = refl
      corner (suc (suc n)) l = absurd (omega arith)

      go : (b : ℕ) → rows * w % 2 ≡ b → b < 2 → count_passing q (rows * w) ≡ (rows * w + (1 - p)) / 2
      go zero e l =
          let m = rows * w / 2 in
          let whole : rows * w ≡ 2 * m = omega arith in
          ap (count_passing q) whole ∙ omega (arith, count_even m)
      go (suc zero) e l =
          let m = rows * w / 2 in
          let whole : rows * w ≡ 2 * m + 1 = omega arith in
          ap (count_passing q) whole
          ∙ omega (arith, count_odd m, ap (λ (n : ℕ). as_one (eqb n p)) (last_free rows m whole), corner p bit)
      go (suc (suc b)) e l = absurd (omega arith)

  -- the square of a marker: rank 2m, or the next if that has none
  module _ (rows m : ℕ) (known : m < marker_count p rows w) where
    pub even_square : side w (2 * m) ≡ p → Has (holds_marker p) w rows (2 * m % w) (2 * m / w) m
    even_square e =
        let counted = count_even m in
        place-has (holds_marker p) w rows m (2 * m) (count_under q (2 * m) (rows * w) (omega (arith, known))) (is-passes (2 * m) e) counted

    pub odd_square : (side w (2 * m) ≡ p → ⊥) → Has (holds_marker p) w rows ((2 * m + 1) % w) ((2 * m + 1) / w) m
    odd_square free =
        let counted : count_passing q (2 * m + 1) ≡ m = omega (arith, count_odd m, one_false (q (2 * m)) (λ y. free (passes-is (2 * m) y))) in
        place-has (holds_marker p) w rows m (2 * m + 1) (count_under q (2 * m + 1) (rows * w) (omega (arith, known)))
        (is-passes (2 * m + 1) (omega (arith, alternate w m some, free))) counted

-- a board's parity is one of the two
pub parity_bit : (b : Board) → parity_of b < 2
unfolding parity_of
parity_bit b = go (b.legacy_pattern && eqb (b.rows % 2) 0)
  where
    go : (even : Bool) → cond even even_parity odd_parity < 2
    go true = lit< tt
    go false = lit< tt

-- a board of any size has half as many markers as squares, rounded down for odd and up for even
pub marker_total_lem : (p rows w : ℕ) → p < 2 → marker_count p rows w ≡ (rows * w + (1 - p)) / 2
unfolding count_passing
marker_total_lem p rows zero bit = ap (count_passing (by_rank (holds_marker p) 0)) (mul-zero rows) ∙ omega (arith, mul-zero rows)
marker_total_lem p rows (suc w) bit = half p (suc w) bit (omega arith) rows

-- a square of the board by its parity
pub number-on : (p rows w i j : ℕ) → p < 2 → i < w → j < rows → number_at (holds_marker p) w rows i j ≡ number_if (holds_marker p i j) ((j * w + i) / 2)
number-on p rows w i j bit a b = go (holds_marker p i j) refl
  where
    go : (t : Bool) → holds_marker p i j ≡ t → number_at (holds_marker p) w rows i j ≡ number_if t ((j * w + i) / 2)
    go true e =
        let y : T (holds_marker p i j) = rw e tt in
        has-number (holds_marker p) w rows i j ((j * w + i) / 2)
        (record { column = a; row = b; passes = y; number = marker-number p w bit (omega (arith, a)) (j * w + i) (rw (digits_mod j a, digits_div j a) y) })
    go false e = unnumbered (holds_marker p) w rows i j (λ c d y. rw e at y)
