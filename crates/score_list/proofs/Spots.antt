-- The array of scores is written lane by lane, marker by marker and block by block: one step of each. Assumes nothing.
use mathlib.Core.Path.{◌≡◌, ap}
use mathlib.Core.Logic.{inl, inr}
use mathlib.Core.List.{List}
use Prim.Native.Nat.{ℕ, ◌+◌, ◌-◌, ◌≤◌, ◌<◌}
use native.Mathlib.Omega.{arith}
use lib.Dec.{ltb}
use mathlib.Core.Bool.{Bool, true, false}
use lib.Ieee.{Float, nan}
use borrow.Author.Tests.{ltb-true, ltb-false}
use mathlib.Core.Path.{refl}
use Rattle.lent_list.specs.Scattered.{Wrote}
use Rattle.lent_list.proofs.Scattered.{wrote_part}
use Rattle.hypothesis.specs.ScoreList.{score_place}
use Rattle.hypothesis.proofs.ScoreLists.{same-cell, same-marker}
use Rattle.score_list.specs.Filling.{Lane, LaneIn, lane_place, Spot, SpotIn, spot_place}

-- below n, or from n on
below_or : {A : Type 0} (m n : ℕ) → (m < n → A) → (n ≤ m → A) → A
below_or {A} m n f g = go (ltb m n) refl
  where
    go : (t : Bool) → ltb m n ≡ t → A
    go true e = f (ltb-true m n e)
    go false e = g (ltb-false m n e)

abbrev pub lane : ℕ → ℕ → Lane
lane x r = record { cell = x; turn = r }

abbrev pub spot : ℕ → ℕ → ℕ → Spot
spot k m r = record { cell = k; marker = m; turn = r }

-- the four turns of lane x
pub lane_step : (markers first m x : ℕ) (v : Lane → Float) (a b c : List Float) → m < markers
    → Wrote nan (LaneIn x) (lane_place markers first m) v a b
    → Wrote nan (λ (r : ℕ). r < 4) (λ (r : ℕ). lane_place markers first m (lane x r)) (λ (r : ℕ). v (lane x r)) b c
    → Wrote nan (LaneIn (x + 1)) (lane_place markers first m) v a c
lane_step markers first m x v a b c known w then =
    wrote_part (lane x) w then
    (λ p h. below_or p.cell x (λ l. inl (l, h.1))
    (λ l. inr (p.turn, h.1, ap (λ (k : ℕ). lane k p.turn) (omega (arith, h.0, l)))))
    (λ p h. (omega (arith, h.0), h.1))
    (λ r h. (omega arith, h))
    (λ p r h l e. omega (arith, h.0, same-cell markers (first + p.cell) m p.turn (first + x) m r known known h.1 l e))

-- all lanes of marker m
pub marker_step : (markers first count m : ℕ) (v : Spot → Float) (a b c : List Float) → m < markers
    → Wrote nan (SpotIn m count) (spot_place markers first) v a b
    → Wrote nan (LaneIn count) (lane_place markers first m) (λ (p : Lane). v (spot p.cell m p.turn)) b c
    → Wrote nan (SpotIn (m + 1) count) (spot_place markers first) v a c
marker_step markers first count m v a b c known w then =
    wrote_part (λ (p : Lane). spot p.cell m p.turn) w then
    (λ p h. below_or p.marker m (λ l. inl (h.0, l, h.2))
    (λ l. inr (lane p.cell p.turn, (h.0, h.2), ap (λ (n : ℕ). spot p.cell n p.turn) (omega (arith, h.1, l)))))
    (λ p h. (h.0, omega (arith, h.1), h.2))
    (λ p h. (h.0, omega arith, h.1))
    (λ p q h l e. omega (arith, h.1, same-marker markers (first + p.cell) p.marker p.turn (first + q.cell) m q.turn (omega (arith, h.1)) known h.2 l.1 e))

-- the cells of a block, from `first` on
abbrev pub whole_place : ℕ → Spot → ℕ
whole_place markers p = score_place markers p.cell p.marker p.turn

pub block_step : (markers first count : ℕ) (v : Spot → Float) (a b c : List Float)
    → Wrote nan (SpotIn markers first) (whole_place markers) v a b
    → Wrote nan (SpotIn markers count) (spot_place markers first) (λ (p : Spot). v (spot (first + p.cell) p.marker p.turn)) b c
    → Wrote nan (SpotIn markers (first + count)) (whole_place markers) v a c
block_step markers first count v a b c w then =
    wrote_part (λ (p : Spot). spot (first + p.cell) p.marker p.turn) w then
    (λ p h. below_or p.cell first (λ l. inl (l, h.1, h.2))
    (λ l. let e : first + (p.cell - first) ≡ p.cell = omega (arith, l) in
    inr (spot (p.cell - first) p.marker p.turn, (omega (arith, h.0, l), h.1, h.2), ap (λ (n : ℕ). spot n p.marker p.turn) e)))
    (λ p h. (omega (arith, h.0), h.1, h.2))
    (λ p h. (omega (arith, h.0), h.1, h.2))
    (λ p q h l e. omega (arith, h.0, same-cell markers p.cell p.marker p.turn (first + q.cell) q.marker q.turn h.1 l.1 h.2 l.2 e))
