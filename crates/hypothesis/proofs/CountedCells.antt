-- A cell of the index as input of the sums. Assumes nothing.
use mathlib.Core.Path.{◌≡◌, refl, sym, ap, ap₂, ◌∙◌, subst}
use mathlib.Core.List.{List}
use mathlib.Core.Bool.{Bool, true, false, false≢true}
use mathlib.Core.Option.{Option, none, some}
use Prim.Native.Nat.{ℕ, ◌+◌, ◌*◌, ◌≤◌, ◌<◌}
use native.Mathlib.Nat.{mul-le-mul}
use native.Mathlib.Omega.{arith}
use lib.ListN.{length, get_or}
use lib.IntN.{ℤ, nat_abs, ◌-ℤ◌}
use lib.Ieee.{Float, lt}
use Rattle.floats.specs.Units.{nought, sum_to}
use Rattle.grid_alignment.specs.declared.Coord.{Coord}
use Rattle.grid_alignment.specs.Alignment.{point, sends}
use Rattle.board.specs.declared.Board.{Board}
use Rattle.board.specs.Layout.{marker_total}
use Rattle.score_matrix.specs.Weights.{weight}
use Rattle.score_matrix.specs.Scores.{null_score, side}
use Rattle.score_matrix.specs.Likelihoods.{HoldsLikelihoods, Sources, picked_from}
use Rattle.score_matrix.proofs.Likelihoods.{turned-score}
use Rattle.matcher.proofs.Turns.{source_bit-below}
use Rattle.shot_record.specs.Index.{u_in, v_in, border_in}
use Rattle.shot_record.specs.Shots.{Sample, Shot, first_codes}
use Rattle.shot_record.specs.Answers.{grid_with}
use Rattle.shot_record.proofs.Lists.{get_d_list}
use Rattle.hypothesis.specs.declared.Inputs.{Inputs}
use Rattle.hypothesis.specs.declared.sums.Counted.{Counted}
use Rattle.hypothesis.specs.declared.turns.Contributing.{Contributing}
use Rattle.hypothesis.specs.declared.framing.Turn.{Turn}
use Rattle.hypothesis.specs.Placements.{cell_total, cell as cell_at, cell_point, frame, moves_across, moves_down}
use Rattle.hypothesis.specs.Evidence.{board_in, table_of, weight_with, weight_of, samples_of}
use Rattle.hypothesis.specs.Inputs.{PassedShot, SearchInput}
use Rattle.hypothesis.specs.Turns.{turn_of}
use Rattle.hypothesis.specs.Sums.{Stays, Small, Added, code_score}
use Rattle.hypothesis.specs.Filling.{Turning, counted_of, SumsTo, with_counted, Counts, CellScores}
use Rattle.hypothesis.proofs.Frames.{framed}
use Rattle.hypothesis.proofs.IndexedCells.{board-is, bits_are, few, point-is, near-point, weight_is}
use Rattle.hypothesis.proofs.Sides.{near-frame}
use Rattle.hypothesis.proofs.ScoreLists.{few-markers}
use Rattle.hypothesis.proofs.Contributions.{counted_cell, stays, light}
use Rattle.hypothesis.proofs.Filled.{with_cell, passed_over}

-- from its parts
same : (s : Shot) (r k : ℕ) (i : Inputs) (t : Turn) (index : List ℕ) → sends t.turn (point (u_in index k) (v_in index k)) ≡ sends r (cell_point s k)
    → t.u ≡ (frame s r).u → t.v ≡ (frame s r).v → weight i.config (border_in index k) ≡ weight_of s k → i.board ≡ board_in s
    → counted_of i t index k ≡ counted_cell s r k
unfolding frame
same s r k i t index p u v w e =
    let a = ap₂ (λ (q : Coord) (z : ℤ). nat_abs (q.u -ℤ z)) p u in
    let d = ap₂ (λ (q : Coord) (z : ℤ). nat_abs (q.v -ℤ z)) p v in
    let n = ap (λ (b : Board). null_score b.bits) e in
    cc

-- a cell with weight above 0 is sampled, so that its grid is complete
pub whole_grid_lem : (s : Shot) (k : ℕ) → PassedShot s → lt nought (weight_of s k) ≡ true
    → length (samples_of s k).grid ≡ side s.bits s.border * side s.bits s.border
unfolding lt
whole_grid_lem s k p heavy = go (cell_at s k).sample refl heavy
  where
    go : (o : Option Sample) → (cell_at s k).sample ≡ o → lt nought (weight_with s o) ≡ true
        → length (grid_with o) ≡ side s.bits s.border * side s.bits s.border
    go none e t = absurd (false≢true t)
    go (some x) e t = p.grids k x e

-- ---- preconditions of the sums
-- a frame that fits on the board has at most 32 positions each way
pub room : (s : Shot) (r k : ℕ) → k < cell_total s → s.cols ≤ 32 → s.rows ≤ 32 → moves_across s r * moves_down s r ≤ 1024
room s r k inside c h = let f = framed s r k inside in mul-le-mul {n₁ = moves_across s r} {m₁ = moves_down s r} {n₂ = 32} {m₂ = 32} (omega (arith, c, f.wide))
    (omega (arith, h, f.high))

pub small_sources : (bits r : ℕ) (sources : List ℕ) → bits ≤ 8 → Sources bits r (bits * bits) sources → Small (bits * bits) sources
small_sources bits r sources h from k l = rw (from k l) (omega (
  arith,
  source_bit-below bits r k l,
  mul-le-mul {n₁ = bits} {m₁ = bits} {n₂ = 8} {m₂ = 8} h h,
))

-- ---- its scores, from the likelihoods of its bits
pub code-scores : (s : Shot) (r k : ℕ) (likelihoods : List Float) (sources : List ℕ)
    → HoldsLikelihoods (table_of s) (samples_of s k) (s.bits * s.bits) likelihoods
    → Sources s.bits r (s.bits * s.bits) sources
    → marker_total (board_in s) ≤ 512
    → CellScores s r k (code_score s.bits likelihoods sources (first_codes s))
code-scores s r k likelihoods sources holds from most m known =
    let first : ℕ → ℕ = λ (j : ℕ). get_or s.codes j 0 in
    ap (λ (code : ℕ). sum_to (picked_from likelihoods sources code) (s.bits * s.bits)) (get_d_list first 512 m 0 (omega (arith, most, known)))
    ∙ turned-score (table_of s) (samples_of s k) r likelihoods sources (first m) holds from

-- ---- a turn of the search
pub few_moves : (s : Shot) (i : Inputs) (index : List ℕ) → SearchInput s i index → (t : Turn) → t ≡ turn_of s t.turn → t.across * t.down ≤ 1024
few_moves s i index input t is =
    let p = input.passed in
    rw (ap (λ (y : Turn). y.across) is, ap (λ (y : Turn). y.down) is) (room s t.turn 0 p.some_cell p.cols p.rows)

-- ---- cell k of the index in a turn
module _ (s : Shot) (i : Inputs) (index : List ℕ) (t : Turn) (turning : Turning s i index t) (k : ℕ) (inside : k < cell_total s) where
  pub can_count : (nat_abs (u_in index k) ≤ 4096) × (nat_abs (v_in index k) ≤ 4096) × (nat_abs t.u ≤ 4096) × (nat_abs t.v ≤ 4096) × (k < 256)
  can_count =
      let input = turning.input in
      let cell = near-point s i index input k inside in
      let least = near-frame s input.passed t.turn in (
        cell.0,
        cell.1,
        subst (λ (y : Turn). nat_abs y.u ≤ 4096) (sym turning.is) least.0,
        subst (λ (y : Turn). nat_abs y.v ≤ 4096) (sym turning.is) least.1,
        few s i index input k inside,
      )

module _ (s : Shot) (i : Inputs) (index : List ℕ) (t : Turn) (turning : Turning s i index t) (k : ℕ) (inside : k < cell_total s) (c : Counted)
    (is : c ≡ counted_of i t index k) where
  abbrev r : ℕ
  r = t.turn

  input : SearchInput s i index
  input = turning.input

  counted : c ≡ counted_cell s r k
  counted =
      is ∙ same s r k i t index (ap (sends r) (point-is s i index input k inside)) (ap (λ (y : Turn). y.u) turning.is)
      (ap (λ (y : Turn). y.v) turning.is) (weight_is s i index input k inside) (board-is s i input.is)

  pub its_weight : c.weight ≡ weight_of s k
  its_weight = ap (λ (x : Counted). x.weight) counted

  pub its_board : c.board ≡ board_in s
  its_board = ap (λ (x : Counted). x.board) counted

  across_is : t.across ≡ moves_across s r
  across_is = ap (λ (y : Turn). y.across) turning.is

  down_is : t.down ≡ moves_down s r
  down_is = ap (λ (y : Turn). y.down) turning.is

  -- its scores, from the likelihoods of its bits
  module _ (sources : List ℕ) (from : Sources i.board.bits r (i.board.bits * i.board.bits) sources) where
    bits_is : i.board.bits ≡ s.bits
    bits_is = bits_are s i input.is

    pub sources_small : Small (c.board.bits * c.board.bits) sources
    sources_small = rw its_board (small_sources s.bits r sources input.passed.checked.small (rw bits_is at from))

    pub its_scores : (codes : List ℕ) → codes ≡ first_codes s → (l : List Float)
        → HoldsLikelihoods (table_of s) (samples_of s k) (i.board.bits * i.board.bits) l → CellScores s r k (code_score c.board.bits l sources codes)
    its_scores codes codes_are l holds =
        let p = input.passed in
        rw (its_board, codes_are) (code-scores s r k l sources (rw bits_is at holds) (rw bits_is at from) (few-markers s p.rows p.cols))

  pub stays_on : Stays c t.across t.down
  stays_on =
      let p = input.passed in
      let f = turning.fits in
      rw (counted, across_is, down_is)
      (stays s r k inside (rw across_is at f.0, rw down_is at f.1) p.checked.small p.cols p.rows)

  -- the sums with it, from any source of its scores
  pub sums_with : (score : ℕ → Float) → (lt nought c.weight ≡ true → CellScores s r k score) → (sums then : List Float)
      (contributing contributing' : Contributing) → Counts c score t.across t.down sums then contributing contributing'
      → SumsTo s r k sums contributing → SumsTo s r (k + 1) then contributing'
  sums_with score scores sums then contributing contributing' counts before = go (lt nought (weight_of s k)) refl
    where
      go : (b : Bool) → lt nought (weight_of s k) ≡ b → SumsTo s r (k + 1) then contributing'
      go true heavy =
          let light_not = ap (lt nought) its_weight ∙ heavy in
          let added : Added (counted_cell s r k) score (moves_across s r) (moves_down s r) sums then =
          rw (counted, across_is, down_is) at (counts.heavy light_not).0 in
          let after = with_cell s r k sums contributing before inside heavy score (scores light_not) then counts.size added in
          subst (SumsTo s r (k + 1) then) (sym ((counts.heavy light_not).1 ∙ ap (with_counted contributing) counted)) after
      go false light-is =
          let nothing = counts.light (ap (lt nought) its_weight ∙ light-is) in
          let after = passed_over s r k sums contributing before (λ p. light s p k light-is) in
          rw (nothing.0, nothing.1) after
