-- The search of a shot, whatever the source of its scores: each turn is the shot's, the ranking after it that of the placements so far, and the result
-- after all turns document 01's. Assumes nothing.
use mathlib.Core.Path.{◌≡◌, sym, ap, ap₂, subst, ◌∙◌}
use mathlib.Core.List.{List, map}
use Prim.Native.Nat.{ℕ, ◌+◌, ◌-◌, ◌≤◌, ◌<◌}
use native.Mathlib.Omega.{arith}
use lib.Ieee.{Float}
use Rattle.grid_alignment.specs.declared.GridAlignment.{GridAlignment}
use Rattle.grid_alignment.specs.Alignment.{NearAlignment}
use Rattle.board.specs.declared.Board.{Board}
use Rattle.shot_record.specs.Shots.{Shot}
use Rattle.ranking.specs.declared.Hypothesis.{Hypothesis}
use Rattle.ranking.specs.declared.Ranking.{Ranking}
use Rattle.ranking.specs.Ranking.{ranking_of}
use Rattle.hypothesis.specs.declared.Inputs.{Inputs}
use Rattle.hypothesis.specs.declared.Frame.{Frame}
use Rattle.hypothesis.specs.declared.framing.Sides.{Sides}
use Rattle.hypothesis.specs.declared.framing.Turn.{Turn}
use Rattle.hypothesis.specs.declared.turns.Contributing.{Contributing}
use Rattle.hypothesis.specs.Placements.{frame, with_turns_below}
use Rattle.hypothesis.specs.Evidence.{board_in}
use Rattle.hypothesis.specs.Search.{hypothesis, enumerate}
use Rattle.hypothesis.specs.Inputs.{SearchInput}
use Rattle.hypothesis.specs.Extremes.{sides_in, frame_by}
use Rattle.hypothesis.specs.Capacity.{capacity_to}
use Rattle.hypothesis.specs.Turns.{NearFrame, turn_with, turn_of, SmallTurn, Summed, ranked_turn, enumerated_with}
use Rattle.hypothesis.proofs.IndexedCells.{board-is}
use Rattle.hypothesis.proofs.Sides.{frame-turned, near-frame, sides_are}
use Rattle.hypothesis.proofs.Capacities.{capacity-is}
use Rattle.hypothesis.proofs.Turned.{across_small, down-small, total-small, turn-ranked, best-ranked, enumerate-is}
use Rattle.hypothesis.proofs.Best.{best_placed}
use Rattle.std.specs.Prelude.{Some}

-- the ranking of the placements of the turns below r
abbrev pub ranked_below : Shot → ℕ → Ranking
ranked_below s r = ranking_of (map (hypothesis s) (with_turns_below s r))

same_turn : (b : Board) (s : Shot) (f : Frame) (r : ℕ) → b ≡ board_in s → f ≡ frame s r → turn_with b f r ≡ turn_of s r
unfolding frame
same_turn b s f r eb ef =
    let c = ap₂ (λ (x : Board) (g : Frame). x.cols + 1 - g.width) eb ef in
    let d = ap₂ (λ (x : Board) (g : Frame). x.rows + 1 - g.height) eb ef in
    let u = ap (λ (g : Frame). g.u) ef in
    let v = ap (λ (g : Frame). g.v) ef in
    cc

small : (s : Shot) (i : Inputs) (index : List ℕ) → SearchInput s i index → (r : ℕ) → ((turn_of s r).across ≤ 32) × SmallTurn (turn_of s r)
small s i index input r =
    let p = input.passed in
    let n = near-frame s p r in
    (across_small s p.cols p.rows r, record { down = down-small s p.cols p.rows r; u = omega (arith, n.0); v = omega (arith, n.1) })

-- ---- one turn
module _ (s : Shot) (i : Inputs) (index : List ℕ) (input : SearchInput s i index) (r : ℕ) (below : r < 4) (sides : Sides)
    (box : sides ≡ sides_in index i.cells) where
  frame_is : frame_by r sides ≡ frame s r
  frame_is = ap (frame_by r) (box ∙ sides_are s i index input) ∙ frame-turned s r below

  pub frame-near : NearFrame (frame_by r sides)
  frame-near = subst NearFrame (sym frame_is) (near-frame s input.passed r)

  module _ (t : Turn) (made : t ≡ turn_with i.board (frame_by r sides) r) where
    as_shot : turn_with i.board (frame_by r sides) r ≡ turn_of s r
    as_shot = same_turn i.board s (frame_by r sides) r (board-is s i input.is) frame_is

    pub turn_below : t.turn < 4
    turn_below = subst (λ (y : Turn). y.turn < 4) (sym made) below

    pub of_shot : t ≡ turn_of s t.turn
    of_shot = subst (λ (y : Turn). y ≡ turn_of s y.turn) (sym made) as_shot

    module _ (k : Ranking) (so_far : k ≡ ranked_below s r) where
      pub can_rank : (t.across ≤ 32) × SmallTurn t × (k.total ≤ 3072)
      can_rank =
          let z = subst (λ (y : Turn). (y.across ≤ 32) × SmallTurn y) (sym (made ∙ as_shot)) (small s i index input r) in
          (z.0, z.1, omega (arith, below, total-small s input.passed.cols input.passed.rows r k so_far))

      pub ranked : (sums : List Float) (contributing : Contributing) → Summed s t.turn sums contributing
          → ranked_turn k sums contributing t t.across ≡ ranked_below s (r + 1)
      ranked sums contributing summed =
          ap (λ (y : Turn). ranked_turn k sums contributing y y.across) (made ∙ as_shot)
          ∙ turn-ranked s input.passed.checked r sums contributing
          (subst (λ (y : Turn). Summed s y.turn sums contributing) made summed) k so_far

-- ---- after all turns
module _ (s : Shot) (i : Inputs) (index : List ℕ) (input : SearchInput s i index) (k : Ranking) (all : k ≡ ranked_below s 4) where
  pub best-near : (b : Hypothesis) → k.best ≡ Some b → NearAlignment b.alignment
  best-near b e =
      let p = (best_placed s input.passed b (best-ranked s k all ∙ e)).small in
      (omega (arith, p.tx), omega (arith, p.ty))

  pub result-is : enumerated_with k k.best (λ (p : GridAlignment). capacity_to i p index i.cells) ≡ enumerate s
  result-is = enumerate-is s k all (λ (p : GridAlignment). capacity_to i p index i.cells) (capacity-is s i index input)
