-- The placements of one turn as the search ranks them from their sums, and the result of the last ranking.
use Rattle.std.specs.Prelude.{◌≡◌, cond, List, ℕ, ◌+◌, ◌-◌, ◌*◌, ◌/◌, ◌%◌, ◌≤◌, ◌<◌, eqb, ltb, get_or, pos, nat_abs, ◌-ℤ◌, Float, Option, Some, None}
use Rattle.std.specs.Float.{nan}
use Rattle.grid_alignment.specs.declared.GridAlignment.{GridAlignment}
use Rattle.board.specs.declared.Board.{Board}
use Rattle.shot_record.specs.Shots.{Shot}
use Rattle.ranking.specs.declared.Evidence.{Evidence}
use Rattle.ranking.specs.declared.Evidence.TheVariants as evidence
use Rattle.ranking.specs.declared.Hypothesis.{Hypothesis}
use Rattle.ranking.specs.declared.Ranking.{Ranking}
use Rattle.ranking.specs.Margin.{margin}
use Rattle.ranking.specs.Ranking.{ranked_to, Held}
use Rattle.hypothesis.specs.declared.Frame.{Frame}
use Rattle.hypothesis.specs.declared.Selection.{Selection}
use Rattle.hypothesis.specs.declared.framing.Turn.{Turn}
use Rattle.hypothesis.specs.declared.turns.Contributing.{Contributing}
use Rattle.hypothesis.specs.Placements.{frame, moves_across, moves_down, shifted}
use Rattle.hypothesis.specs.Evidence.{contributing_cells, reported}

-- a frame with small coordinates
abbrev pub NearFrame : Frame → Type 0
NearFrame f = (nat_abs f.u ≤ 4096) × (nat_abs f.v ≤ 4096)

-- a turn as the search represents it: from its frame, and of a shot
abbrev pub turn_with : Board → Frame → ℕ → Turn
turn_with b f r = record { turn = r; u = f.u; v = f.v; across = b.cols + 1 - f.width; down = b.rows + 1 - f.height }

abbrev pub turn_of : Shot → ℕ → Turn
turn_of s r = record { turn = r; u = (frame s r).u; v = (frame s r).v; across = moves_across s r; down = moves_down s r }

-- at most 32 moves down, and small coordinates
pub record SmallTurn (t : Turn) : Type 0 where
  pub down : t.down ≤ 32
  pub u : nat_abs t.u ≤ 8192
  pub v : nat_abs t.v ≤ 8192

-- The number of cells that contribute to the placements that move the frame by n squares in all.
abbrev pub count_at : Contributing → ℕ → ℕ
count_at contributing n = cond (eqb (n % 2) 0) contributing.even contributing.odd

-- The evidence of the placement whose frame is moved by (a, b): with d moves down, its sum is at index a × d + b.
abbrev pub evidence_at : List Float → Contributing → ℕ → ℕ → ℕ → Evidence
evidence_at sums contributing d a b = cond (ltb 0 (count_at contributing (a + b))) (evidence.Number (get_or sums (a * d + b) nan)) evidence.Absent

-- the sums and the counts are those of all placements of turn r
pub record Summed (s : Shot) (r : ℕ) (sums : List Float) (contributing : Contributing) : Type 0 where
  pub evidence_is : (a b : ℕ) → a < moves_across s r → b < moves_down s r → evidence_at sums contributing (moves_down s r) a b ≡ reported s (shifted s r a b)
  pub count_is : (a b : ℕ) → a < moves_across s r → b < moves_down s r → count_at contributing (a + b) ≡ contributing_cells s (shifted s r a b)

-- the placement whose frame is moved by (a, b), with its evidence and its count
abbrev pub moved_to : List Float → Contributing → Turn → ℕ → ℕ → Hypothesis
moved_to sums contributing t a b =
    record {
      alignment = record { turn = t.turn; tx = pos a -ℤ t.u; ty = pos b -ℤ t.v };
      evidence = evidence_at sums contributing t.down a b;
      contributing_cells = count_at contributing (a + b);
    }

-- no placement from row m to row n of column a changes the ranking h
abbrev pub PassesOver : List Float → Contributing → ℕ → ℕ → Ranking → ℕ → ℕ → Type 0
PassesOver sums contributing d a h m n = (m ≤ n) × (n ≤ d)
    × ((k : Ranking) (t : Turn) → t.down ≡ d → Held k (moved_to sums contributing t a) m h → Held k (moved_to sums contributing t a) n h)

-- the ranking after column a of a turn, and after the columns 0 to n − 1
abbrev pub ranked_column : Ranking → List Float → Contributing → Turn → ℕ → Ranking
ranked_column k sums contributing t a = ranked_to k (moved_to sums contributing t a) t.down

abbrev pub ranked_turn : Ranking → List Float → Contributing → Turn → ℕ → Ranking
ranked_turn k sums contributing t n = ranked_to k (λ (j : ℕ). moved_to sums contributing t (j / t.down) (j % t.down)) (n * t.down)

-- the result, from the ranking of all placements
abbrev pub selection_of : Ranking → Hypothesis → Float → Selection
selection_of k b capacity =
    record { best = b; runner_up = k.runner_up; total = k.total; margin = margin b.evidence capacity k.runner_up }

abbrev pub enumerated_with : Ranking → Option Hypothesis → (GridAlignment → Float) → Option Selection
enumerated_with k None capacity = None
enumerated_with k (Some b) capacity = Some (selection_of k b (capacity b.alignment))
