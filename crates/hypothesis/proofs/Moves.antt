-- The moves that put a cell on a marker, in order, and the sums with the cell added to those before one of them. Assumes nothing.
use mathlib.Core.Path.{◌≡◌, refl, sym, ap, ap₂, subst, ◌∙◌}
use mathlib.Core.Logic.{inl, inr}
use mathlib.Core.Bool.{Bool, true, false, not, cond}
use mathlib.Core.List.{List}
use Prim.Native.Nat.{ℕ, ◌+◌, ◌*◌, ◌%◌, ◌/◌, ◌^◌, ◌≤◌, ◌<◌}
use native.Mathlib.Nat.{eq-or-lt_of_le}
use native.Mathlib.Numerals.{add-one}
use native.Mathlib.Omega.{arith}
use lib.Arith.{digits_lt, digits_div, digits_mod}
use lib.Dec.{ltb}
use lib.ListN.{length, get_or, set, length-set}
use lib.Seq.{get_or-set_same, get_or-set_other}
use lib.Ieee.{Float, nan}
use mir.Syntax.{w64}
use mir.Val.{Fits}
use borrow.Author.Count.{below_more}
use borrow.Author.Tests.{ltb-true, ltb-false}
use Rattle.integers.proofs.Distances.{lt_or_le}
use Rattle.board.specs.declared.Board.{Board}
use Rattle.board.specs.Numbering.{number_if, number_atℤ}
use Rattle.board.specs.Layout.{parity_of}
use Rattle.board.proofs.Markers.{parity_bit, number-on}
use Rattle.board.proofs.Parities.{agree, differ}
use Rattle.score_matrix.specs.Likelihoods.{lane_code}
use Rattle.hypothesis.specs.declared.sums.Counted.{Counted}
use Rattle.hypothesis.specs.declared.sums.Move.{Move}
use Rattle.hypothesis.specs.Sums.{plus_score, with_score, plus_marker, plus_cell, Stays, NumberOn, OfMarker, OfEight, with_code}
use Rattle.hypothesis.specs.Sums.{order, marked, OnMarker, move_from, FirstMove, next_move, move_after, Inside, AddedBefore}
use Rattle.std.specs.Prelude.{Option}

-- small numbers fit in a word
pub fits-small : (n : ℕ) → n ≤ 2048 → Fits w64 n
fits-small n h = record { fits = omega (arith, h) }

-- the id of a square's marker
pub on_square_lem : (board : Board) (i j : ℕ) → i < board.cols → j < board.rows → NumberOn board i j ((j * board.cols + i) / 2)
unfolding number_atℤ
on_square_lem board i j a b = number-on (parity_of board) board.rows board.cols i j (parity_bit board) a b

-- ---- m is the first move whose order is at least n and has the parity of p
record FirstFrom (down n p : ℕ) (m : Move) : Type 0 where
  pub row : m.b < down
  pub from : n ≤ order m
  pub same : order m % 2 ≡ p % 2
  pub none : (a b : ℕ) → b < down → n ≤ 63 * a + b → 63 * a + b < order m → (63 * a + b) % 2 ≡ (p + 1) % 2

by_test : {A : Type 0} (P : A → Type 0) (m n : ℕ) (x y : A) → (m < n → P x) → (n ≤ m → P y) → P (cond (ltb m n) x y)
by_test P m n x y f g = go (ltb m n) refl
  where
    go : (t : Bool) → ltb m n ≡ t → P (cond t x y)
    go true e = f (ltb-true m n e)
    go false e = g (ltb-false m n e)

-- a move of column a from row z on, if z is the last row
last : (a x y z : ℕ) → y ≤ z → 63 * a + z ≤ 63 * x + y → 63 * x + y < 63 * a + 63 → 63 * x + y ≡ 63 * a + z
last a x y z l m n = let e : x ≡ a = omega arith in omega arith

next_row : (a b n : ℕ) → n % 2 ≡ (63 * (a + 1) + (b + 1) % 2 + 1) % 2 → n % 2 ≡ (63 * a + b + 1) % 2
next_row a b n e = omega arith

-- ---- x moves are done, from the first one on, and all of them keep the frame on the board
pub record Walked (c : Counted) (across down : ℕ) (first : Move) (x : ℕ) (at : Move) : Type 0 where
  pub is : at ≡ move_after down first x
  pub here : OnMarker c down at
  pub later : order first + x ≤ order at
  pub inside : Inside across down first x

module _ (c : Counted) (across down : ℕ) (stays : Stays c across down) where
  move_from_lem : (a b : ℕ) → b < 2 → FirstFrom down (63 * a) (63 * a + b) (move_from down a b)
  move_from_lem a b low =
      by_test (FirstFrom down (63 * a) (63 * a + b)) b down (record { a = a; b = b }) (record { a = a + 1; b = 0 })
      (λ h. record { row = h; from = omega arith; same = refl; none = λ x y l m n. omega arith })
      (λ h. record {
        row = stays.some;
        from = omega arith;
        same = omega arith;
        none = λ x y l m n. let e = last a x y 0 (omega arith) (omega arith) (omega arith) in omega arith;
      })

  next_move_lem : (m : Move) → m.b < down → FirstFrom down (order m + 1) (order m) (next_move down m)
  next_move_lem m h =
      by_test (FirstFrom down (order m + 1) (order m)) (m.b + 2) down (record { a = m.a; b = m.b + 2 }) (move_from down (m.a + 1) ((m.b + 1) % 2))
      (λ l. record { row = l; from = omega arith; same = omega arith; none = λ x y d k n. omega arith })
      (λ l.
      let f = move_from_lem (m.a + 1) ((m.b + 1) % 2) (omega arith) in
      record {
        row = f.row;
        from = omega (arith, f.from);
        same = omega (arith, f.same);
        none = λ x y d k n. elim (lt_or_le (63 * x + y) (63 * (m.a + 1))) [
          | inl u ↦ let e = last m.a x y (m.b + 1) (omega arith) (omega arith) (omega arith) in omega arith
          | inr u ↦ next_row m.a m.b (63 * x + y) (f.none x y d u n)
        ];
      })

  -- markers alternate by the parity of the order
  landed : (n a b : ℕ) (m : Move) → marked c a b ≡ true → FirstFrom down n (63 * a + b) m → OnMarker c down m
  landed n a b m on f =
      record { row = f.row; on = agree (parity_of c.board) (c.i + a) (c.j + b) (c.i + m.a) (c.j + m.b) (omega (arith, f.same)) ∙ on }

  pub not_yet : (first : Move) → OnMarker c down first → Walked c across down first 0 first
  unfolding move_after
  not_yet first h = record { is = refl; here = h; later = omega arith; inside = λ y l. absurd (omega arith) }

  pub walked : (first : Move) (x : ℕ) (at then : Move) → Walked c across down first x at → at.a < across → then ≡ next_move down at
      → Walked c across down first (x + 1) then
  unfolding move_after
  walked first x at then w l e =
      let n = next_move_lem at w.here.row in
      rw e record {
        is = ap (next_move down) w.is ∙ ap (move_after down first) (sym (add-one x));
        here = landed (order at + 1) at.a at.b (next_move down at) w.here.on n;
        later = omega (arith, w.later, n.from);
        inside = below_more (λ y. (move_after down first y).a < across) x w.inside (rw w.is at l);
      }

  -- ---- sums: moves without a marker are skipped
  module _ (score : ℕ → Float) (entry : List Float) where
    passed : (n p : ℕ) (m : Move) (now : List Float) → OnMarker c down m → FirstFrom down n p m → AddedBefore c score across down n entry now
        → AddedBefore c score across down (order m) entry now
    passed n p m now h f u = record { size = u.size; done = done; left = λ a b l k e. u.left a b l k (omega (arith, f.from)) }
      where
        off : (a b : ℕ) → (63 * a + b) % 2 ≡ (p + 1) % 2 → marked c a b ≡ false
        off a b e =
            differ (parity_of c.board) (c.i + m.a) (c.j + m.b) (parity_bit c.board) (c.i + a) (c.j + b) (omega (arith, e, f.same)) ∙ ap not h.on

        done : (a b : ℕ) → a < across → b < down → 63 * a + b < order m
            → get_or now (a * down + b) nan ≡ plus_cell c score a b (get_or entry (a * down + b) nan)
        done a b l k e = elim (lt_or_le (63 * a + b) n) [
          | inl g ↦ u.done a b l k g
          | inr g ↦ u.left a b l k g ∙ sym (ap (λ (q : Option ℕ). plus_marker c score q (get_or entry (a * down + b) nan))
              (on_square_lem c.board (c.i + a) (c.j + b) (omega arith) (omega arith)
              ∙ ap (λ (t : Bool). number_if t (((c.j + b) * c.board.cols + (c.i + a)) / 2)) (off a b (f.none a b k g e))))
        ]

    pub begun : length entry ≡ 1024 → (m : Move) → FirstMove c down m → OnMarker c down m × AddedBefore c score across down (order m) entry entry
    begun size m r =
        let f = move_from_lem 0 r.0 r.1 in
        let h = landed 0 0 r.0 (move_from down 0 r.0) r.2 f in
        let none : AddedBefore c score across down 0 entry entry = record {
          size = size;
          done = λ a b l k n. absurd (omega arith);
          left = λ a b l k n. refl;
        } in
        rw r.3 (h, passed 0 (63 * 0 + r.0) (move_from down 0 r.0) entry h f none)

    -- one with a marker is written
    written : (m : Move) (now : List Float) (x : Float) → OnMarker c down m → m.a < across → across * down ≤ 1024 → OfMarker c score m x
        → AddedBefore c score across down (order m) entry now
        → AddedBefore c score across down (order m + 1) entry (with_score c (m.a * down + m.b) x now)
    written m now x h inside room is u =
        record { size = length-set now at y ∙ u.size; done = done; left = λ a b l k n. others a b k (λ e. omega arith) ∙ u.left a b l k (omega arith) }
      where
        at : ℕ
        at = m.a * down + m.b

        y : Float
        y = plus_score c.weight c.null x (get_or now at nan)

        others : (a b : ℕ) → b < down → (order m ≡ 63 * a + b → ⊥) → get_or (set now at y) (a * down + b) nan ≡ get_or now (a * down + b) nan
        others a b k d = get_or-set_other now at (a * down + b) y nan (λ e.
            let p : a ≡ m.a = sym (digits_div a k) ∙ ap (λ (n : ℕ). n / down) e ∙ digits_div m.a h.row in
            let q : b ≡ m.b = sym (digits_mod a k) ∙ ap (λ (n : ℕ). n % down) e ∙ digits_mod m.a h.row in
            d (omega arith))

        here : get_or (set now at y) at nan ≡ plus_cell c score m.a m.b (get_or entry at nan)
        here =
            get_or-set_same now at y nan (rw u.size (omega (arith, room, digits_lt inside h.row)))
            ∙ ap₂ (plus_score c.weight c.null) is.2 (u.left m.a m.b inside h.row (omega arith))
            ∙ sym (ap (λ (q : Option ℕ). plus_marker c score q (get_or entry at nan)) (is.1 ∙ ap (λ (t : Bool). number_if t is.0) h.on))

        done : (a b : ℕ) → a < across → b < down → 63 * a + b < order m + 1
            → get_or (set now at y) (a * down + b) nan ≡ plus_cell c score a b (get_or entry (a * down + b) nan)
        done a b l k n = elim (eq-or-lt_of_le {n = 63 * a + b} {m = order m} (omega arith)) [
          | inl e ↦ let p : a ≡ m.a = omega (arith, h.row, e) in let q : b ≡ m.b = omega (arith, e) in rw (p, q) here
          | inr e ↦ others a b k (λ f. omega arith) ∙ u.done a b l k e
        ]

    -- the step to the next one
    pub record Step (at next : Move) (then : List Float) : Type 0 where
      pub there : OnMarker c down next
      pub later : order at < order next
      pub sums : AddedBefore c score across down (order next) entry then

    pub step : (at next : Move) (x : Float) (now then : List Float) → OnMarker c down at → at.a < across → across * down ≤ 1024 → OfMarker c score at x
        → next ≡ next_move down at → then ≡ with_score c (at.a * down + at.b) x now → AddedBefore c score across down (order at) entry now → Step at next then
    step at next x now then h inside room is e f u =
        let n : FirstFrom down (order at + 1) (order at) next = rw e (next_move_lem at h.row) in
        let there = landed (order at + 1) at.a at.b next h.on n in
        record {
          there = there;
          later = omega (arith, n.from);
          sums = rw f (passed (order at + 1) (order at) next (with_score c (at.a * down + at.b) x now) there n (written at now x h inside room is u));
        }

    -- one of eight
    pub added : (v : ℕ → Float) (first : Move) (x : ℕ) (at next : Move) (now then : List Float) → OfEight c score across down first v → x < 8
        → Walked c across down first x at → Walked c across down first (x + 1) next → at.a < across → across * down ≤ 1024 → next ≡ next_move down at
        → then ≡ with_score c (at.a * down + at.b) (v x) now
        → AddedBefore c score across down (order at) entry now → AddedBefore c score across down (order next) entry then
    added v first x at next now then each l w n inside room e f u =
        (step at next (v x) now then w.here inside room (rw w.is (each x l n.inside)) e f u).sums

-- ---- the lanes below x have their codes
pub record Filled (P : ℕ → ℕ → Type 0) (lanes : List ℕ) (x : ℕ) : Type 0 where
  pub size : length lanes ≡ 16
  pub codes : (y : ℕ) → y < x → P y (lane_code lanes y)

pub filled : (P : ℕ → ℕ → Type 0) (lanes then : List ℕ) (x code : ℕ) → x < 8 → Filled P lanes x → P x code → then ≡ with_code x code lanes
    → Filled P then (x + 1)
filled P lanes then x code l f here e = rw e record {
  size = length-set half (x + 8) (code / 2 ^ 32) ∙ length-set lanes x (code % 2 ^ 32) ∙ f.size;
  codes = below_more (λ y. P y (lane_code (with_code x code lanes) y)) x
      (λ y h. subst (P y) (sym (ap₂ join (kept y (omega arith) (omega arith)) (kept (y + 8) (omega arith) (omega arith)))) (f.codes y h))
      (subst (P x) (sym (ap₂ join low high ∙ omega arith)) here);
}
  where
    join : ℕ → ℕ → ℕ
    join a b = a + 2 ^ 32 * b

    half : List ℕ
    half = set lanes x (code % 2 ^ 32)

    kept : (k : ℕ) → (k ≡ x → ⊥) → (k ≡ x + 8 → ⊥) → get_or (with_code x code lanes) k 0 ≡ get_or lanes k 0
    kept k a b = get_or-set_other half (x + 8) k (code / 2 ^ 32) 0 b ∙ get_or-set_other lanes x k (code % 2 ^ 32) 0 a

    low : get_or (with_code x code lanes) x 0 ≡ code % 2 ^ 32
    low = get_or-set_other half (x + 8) x (code / 2 ^ 32) 0 (λ e. omega arith) ∙ get_or-set_same lanes x (code % 2 ^ 32) 0 (omega (arith, f.size))

    high : get_or (with_code x code lanes) (x + 8) 0 ≡ code / 2 ^ 32
    high = get_or-set_same half (x + 8) (code / 2 ^ 32) 0 (rw (length-set lanes x (code % 2 ^ 32)) (omega (arith, f.size)))
