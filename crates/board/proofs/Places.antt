-- Numbers and places are inverse, for every test and every size of the grid. Assumes nothing.
use mathlib.Core.Path.{◌≡◌, refl, sym, ap, ap₂, ◌∙◌}
use mathlib.Core.Logic.{◌⊎◌, inl, inr}
use mathlib.Core.Bool.{Bool, true, false, not, ◌&&◌}
use Prim.Native.Nat.{ℕ, zero, suc, ◌+◌, ◌*◌, ◌/◌, ◌%◌, ◌≤◌, ◌<◌}
use native.Mathlib.Nat.{mod-lt, div-lt_iff_lt-mul, div-add-mod', eq-or-lt_of_le, le_of_suc-le-suc, mul-le-mul_right}
use native.Mathlib.Omega.{arith}
use lib.Dec.{T, T_not, ltb, eqb, ltb→lt, lt→ltb, nltb→le, eqb→eq, eqb_refl}
use lib.Arith.{digits_lt, digits_div, digits_mod}
use lib.Ieee.Fits.{and_l, and_r, and_i}
use Rattle.board.specs.Numbering.{count_passing, by_rank, count_before, total, number_if, number_at, located_if, position, search, place_numbered}
use Rattle.board.specs.declared.Position.{Position}
use Rattle.board.proofs.Counting.{count_past, count-once, reached}
use Rattle.std.specs.Prelude.{Some, None}

-- a place that has the number m
pub record Has (t : ℕ → ℕ → Bool) (w h i j m : ℕ) : Type 0 where
  pub column : i < w
  pub row : j < h
  pub passes : T (t i j)
  pub number : count_before t w i j ≡ m

module _ (t : ℕ → ℕ → Bool) (w h i j m : ℕ) where
  pub has-number : Has t w h i j m → number_at t w h i j ≡ Some m
  unfolding number_at
  has-number p = go (ltb i w && (ltb j h && t i j)) (and_i (ltb i w) (ltb j h && t i j) (lt→ltb i w p.column)
      (and_i (ltb j h) (t i j) (lt→ltb j h p.row) p.passes))
    where
      go : (b : Bool) → T b → number_if b (count_before t w i j) ≡ Some m
      go true y = ap Some p.number
      go false y = absurd y

  pub number-has : number_at t w h i j ≡ Some m → Has t w h i j m
  unfolding number_at
  number-has e = go (ltb i w && (ltb j h && t i j)) (and_l (ltb i w) (ltb j h && t i j)) (and_r (ltb i w) (ltb j h && t i j)) e
    where
      go : (b : Bool) → (T b → T (ltb i w)) → (T b → T (ltb j h && t i j)) → number_if b (count_before t w i j) ≡ Some m → Has t w h i j m
      go true l r e =
          record { column = ltb→lt i w (l tt); row = ltb→lt j h (and_l (ltb j h) (t i j) (r tt)); passes = and_r (ltb j h) (t i j) (r tt); number = cc }
      go false l r e = let z : ◌≡◌ {A = ℕ} 0 1 = cc in absurd (omega arith)

module _ (t : ℕ → ℕ → Bool) (w h : ℕ) where
  -- a place that is off the grid or fails the test has no number
  pub unnumbered : (i j : ℕ) → (i < w → j < h → T (t i j) → ⊥) → number_at t w h i j ≡ None
  unfolding number_at
  unnumbered i j none =
      go (ltb i w && (ltb j h && t i j))
      (λ y. let r = and_r (ltb i w) (ltb j h && t i j) y in let column = ltb→lt i w (and_l (ltb i w) (ltb j h && t i j) y) in
      none column (ltb→lt j h (and_l (ltb j h) (t i j) r)) (and_r (ltb j h) (t i j) r))
    where
      go : (b : Bool) → (T b → ⊥) → number_if b (count_before t w i j) ≡ None
      go true never = absurd (never tt)
      go false never = refl

-- ---- the search finds only the place
module _ (t : ℕ → ℕ → Bool) (w m : ℕ) where
  -- rank k passes with m before it
  abbrev hit : ℕ → Bool
  hit k = by_rank t w k && eqb (count_passing (by_rank t w) k) m

  hit_is : (k : ℕ) → T (by_rank t w k) → count_passing (by_rank t w) k ≡ m → T (hit k)
  hit_is k y e = and_i (by_rank t w k) (eqb (count_passing (by_rank t w) k) m) y (rw e (eqb_refl m))

  hit_once : (n k : ℕ) → T (hit n) → T (hit k) → n ≡ k
  hit_once n k a b =
      let q = by_rank t w in
      count-once q n k (and_l (q n) (eqb (count_passing q n) m) a) (and_l (q k) (eqb (count_passing q k) m) b)
      (eqb→eq (count_passing q n) m (and_r (q n) (eqb (count_passing q n) m) a) ∙ sym (eqb→eq (count_passing q k) m (and_r (q k) (eqb (count_passing q k) m) b)))

  search_finds : (n k : ℕ) → k < n → T (hit k) → search t w m n ≡ Some (position (k % w) (k / w))
  unfolding search
  search_finds zero k l y = absurd (omega arith)
  search_finds (suc n) k l y = go (hit n) (λ x. hit_once n k x y) (T_not (hit n)) (search_finds n k)
    where
      go : (b : Bool) → (T b → n ≡ k) → (T (not b) → T (hit n) → ⊥) → (k < n → T (hit k) → search t w m n ≡ Some (position (k % w) (k / w)))
          → located_if b w n (search t w m n) ≡ Some (position (k % w) (k / w))
      go true same other below = ap (λ (x : ℕ). Some (position (x % w) (x / w))) (same tt)
      go false same other below =
          elim (eq-or-lt_of_le (le_of_suc-le-suc l)) [ inl e ↦ absurd (other tt (rw (← e) y)) | inr d ↦ below d y ]

  search_none : (n : ℕ) → ((k : ℕ) → k < n → T (hit k) → ⊥) → search t w m n ≡ None
  unfolding search
  search_none zero none = refl
  search_none (suc n) none = go (hit n) (none n (omega arith)) (search_none n (λ k l. none k (omega arith)))
    where
      go : (b : Bool) → (T b → ⊥) → search t w m n ≡ None → located_if b w n (search t w m n) ≡ None
      go true never below = absurd (never tt)
      go false never below = below

-- ---- the laws
module _ (t : ℕ → ℕ → Bool) (w h m : ℕ) where
  abbrev q : ℕ → Bool
  q = by_rank t w

  -- a rank as a place
  pub place-has : (k : ℕ) → k < h * w → T (q k) → count_passing q k ≡ m → Has t w h (k % w) (k / w) m
  place-has k l y e =
      let some : 0 < w = wide w l in
      record { column = mod-lt k some; row = (div-lt_iff_lt-mul some).1 l; passes = y; number = ap (count_passing q) (div-add-mod' k w) ∙ e }
    where
      wide : (x : ℕ) → k < h * x → 0 < x
      wide zero l = absurd (omega arith)
      wide (suc x) l = omega arith

  -- a place that has the number is the one that the search finds
  pub has-place : (i j : ℕ) → Has t w h i j m → place_numbered t w h m ≡ Some (position i j)
  has-place i j p =
      let k = j * w + i in
      let column : k % w ≡ i = digits_mod j p.column in
      let row : k / w ≡ j = digits_div j p.column in
      search_finds t w m (h * w) k (digits_lt p.row p.column) (hit_is t w m k (rw (column, row) p.passes) p.number)
      ∙ ap₂ (λ (x y : ℕ). Some (position x y)) column row

  -- a number below the total is that of exactly one place
  pub record Place : Type 0 where
    pub i : ℕ
    pub j : ℕ
    pub has : Has t w h i j m

  pub placed : m < total t w h → Place
  placed l =
      let p = reached q (h * w) m l in
      record { i = p.rank % w; j = p.rank / w; has = place-has p.rank p.below p.passes p.counted }

  pub unplaced : total t w h ≤ m → place_numbered t w h m ≡ None
  unplaced l =
      search_none t w m (h * w)
      (λ k d y. let e = eqb→eq (count_passing q k) m (and_r (q k) (eqb (count_passing q k) m) y) in let s =
      count_past q k (h * w) d (and_l (q k) (eqb (count_passing q k) m) y) in omega arith)

  pub number-below : (i j : ℕ) → Has t w h i j m → m < total t w h
  number-below i j p =
      let k = j * w + i in
      let past = count_past q k (h * w) (digits_lt p.row p.column) (rw (digits_mod j p.column, digits_div j p.column) p.passes) in
      let e = p.number in
      omega arith

  -- the number of a place and the place of a number are inverse
  pub place_of_number : (i j : ℕ) → number_at t w h i j ≡ Some m → place_numbered t w h m ≡ Some (position i j)
  place_of_number i j e = has-place i j (number-has t w h i j m e)

  pub number_of-place : (i j : ℕ) → place_numbered t w h m ≡ Some (position i j) → number_at t w h i j ≡ Some m
  number_of-place i j e = go (ltb m (total t w h)) (ltb→lt m (total t w h)) (nltb→le m (total t w h))
    where
      go : (b : Bool) → (T b → m < total t w h) → (T (not b) → total t w h ≤ m) → number_at t w h i j ≡ Some m
      go true l g =
          let p = placed (l tt) in
          let f = has-place p.i p.j p.has in
          let same : position p.i p.j ≡ position i j = cc in
          let ei : p.i ≡ i = ap (λ (q : Position). q.i) same in
          let ej : p.j ≡ j = ap (λ (q : Position). q.j) same in
          rw (← ei, ← ej) (has-number t w h p.i p.j m p.has)
      go false l g = let f = unplaced (g tt) in let z : ◌≡◌ {A = ℕ} 0 1 = cc in absurd (omega arith)

pub place-has-number : (t : ℕ → ℕ → Bool) (w h m i j : ℕ) → place_numbered t w h m ≡ Some (position i j) → Has t w h i j m
place-has-number t w h m i j e = number-has t w h i j m (number_of-place t w h m i j e)

-- distinct places have distinct numbers
pub numbers_differ : (t : ℕ → ℕ → Bool) (w h i j i' j' m : ℕ) → number_at t w h i j ≡ Some m → number_at t w h i' j' ≡ Some m → (i ≡ i') × (j ≡ j')
numbers_differ t w h i j i' j' m a b =
    let p = place_of_number t w h m i j a in
    let p' = place_of_number t w h m i' j' b in
    let same : position i j ≡ position i' j' = cc in
    (ap (λ (q : Position). q.i) same, ap (λ (q : Position). q.j) same)

-- numbers increase in row-major order
pub numbers_rise : (t : ℕ → ℕ → Bool) (w h i j i' j' m m' : ℕ) → number_at t w h i j ≡ Some m → number_at t w h i' j' ≡ Some m'
    → (j < j') ⊎ ((j ≡ j') × (i < i')) → m < m'
numbers_rise t w h i j i' j' m m' a b first =
    let p = number-has t w h i j m a in
    let p' = number-has t w h i' j' m' b in
    let passes : T (by_rank t w (j * w + i)) = rw (digits_mod j p.column, digits_div j p.column) p.passes in
    let past = count_past (by_rank t w) (j * w + i) (j' * w + i') (ranks p.column first) passes in
    omega (arith, past, p.number, p'.number)
  where
    ranks : i < w → (j < j') ⊎ ((j ≡ j') × (i < i')) → j * w + i < j' * w + i'
    ranks l (inl above) = omega (arith, l, mul-le-mul_right {m = j + 1} {n = j'} w (omega (arith, above)))
    ranks l (inr (same, left)) = rw same (omega (arith, left))
