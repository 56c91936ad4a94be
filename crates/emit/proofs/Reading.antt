-- The entry of a cell in the index, its candidate, and that the candidate determines what is emitted. Assumes nothing.
use mathlib.Core.Path.{◌≡◌, refl, sym, ap, ap₂, ◌∙◌}
use mathlib.Core.Bool.{Bool, cond}
use mathlib.Core.List.{List}
use mathlib.Core.Option.{Option as Maybe, none, some}
use Prim.Native.Nat.{ℕ, ◌≤◌, ◌<◌}
use native.Mathlib.Omega.{arith}
use lib.IntN.{ℤ}
use lib.ListN.{get_or}
use lib.Ieee.{Float}
use borrow.Author.Tests.{le-leb}
use Rattle.matcher.specs.Codes.{turned, turned_word}
use Rattle.grid_alignment.specs.declared.GridAlignment.{GridAlignment}
use Rattle.grid_alignment.specs.Alignment.{point, applied}
use Rattle.board.specs.Layout.{marker_on}
use Rattle.board.specs.Questions.{board_of}
use Rattle.score_matrix.specs.Scores.{samples}
use Rattle.shot_record.specs.Shots.{Sample, Cell, Shot, first_codes, shot}
use Rattle.shot_record.specs.Answers.{of_pattern, config_of, spec_of, grid_with, border_with, threshold_with}
use Rattle.shot_record.proofs.Lists.{get_d_list}
use Rattle.hypothesis.specs.Placements.{cell_total, cell}
use Rattle.hypothesis.specs.Evidence.{table_of, expected, code_of}
use Rattle.emit.specs.declared.candidates.Candidate.{Candidate}
use Rattle.emit.specs.Markers.{emitted_with, emitted}
use Rattle.emit.specs.Candidates.{candidate, candidate_with, candidate_at, OfCell, emitted_from, emitted_for}
use Rattle.std.specs.Prelude.{Option, Some, None}

-- ---- a sampled cell, from its entry in the index
pub record Sampled (x : Cell) (u v : ℤ) (fraction : Float) (threshold : ℕ) : Type 0 where
  pub sample : Sample
  pub is : x.sample ≡ some sample
  pub u-is : u ≡ x.u
  pub v-is : v ≡ x.v
  pub fraction-is : fraction ≡ of_pattern sample.fraction
  pub threshold-is : threshold ≡ sample.threshold

pub sampled : (x : Cell) (u v : ℤ) (fraction : Float) (threshold : ℕ) → u ≡ x.u → v ≡ x.v → Some fraction ≡ border_with x.sample
    → threshold ≡ threshold_with x.sample → Sampled x u v fraction threshold
sampled x u v fraction threshold eu ev e t = go x.sample refl e t
  where
    go : (o : Maybe Sample) → x.sample ≡ o → Some fraction ≡ border_with o → threshold ≡ threshold_with o
        → Sampled x u v fraction threshold
    go none q e t = let z : ◌≡◌ {A = ℕ} 0 1 = cc in absurd (omega arith)
    go (some s) q e t = record { sample = s; is = q; u-is = eu; v-is = ev; fraction-is = cc; threshold-is = t }

pub unsampled : (o : Maybe Sample) → None ≡ border_with o → o ≡ none
unsampled none e = refl
unsampled (some s) e = let z : ◌≡◌ {A = ℕ} 0 1 = cc in absurd (omega arith)

-- ---- a marker's rotated code, from the first 512
pub code_is : (bytes codes : List ℕ) (id bits turn r : ℕ) → (shot bytes).bits ≤ 8 → bits ≡ (shot bytes).bits → codes ≡ first_codes (shot bytes)
    → id < 512 → r ≡ turned_word bits turn (get_or codes id 0) → r ≡ code_of (shot bytes) turn id
code_is bytes codes id bits turn r small eb ec h e =
    let first : ℕ → ℕ = λ (k : ℕ). get_or (shot bytes).codes k 0 in
    let side = (shot bytes).bits in
    e
    ∙ ap₂ (λ (n c : ℕ). turned_word n turn c) eb (ap (λ (l : List ℕ). get_or l id 0) ec ∙ get_d_list first 512 id 0 h)
    ∙ ap (λ (t : Bool). cond t (turned side turn (first id)) 0) (le-leb side 8 small)

-- ---- the candidate of cell k, from the looked_up fields
abbrev pub made : ℕ → ℕ → ℤ → ℤ → ℕ → ℕ → Float → ℕ → Candidate
made k id u v turn code fraction threshold =
    record { cell = k; id = id; u = u; v = v; turn = turn; code = code; fraction = fraction; threshold = threshold }

module _ (s : Shot) (p : GridAlignment) (k : ℕ) where
  pub no_sample : (cell s k).sample ≡ none → None ≡ candidate_at s p k
  unfolding candidate_at
  no_sample e = sym (ap (λ (o : Maybe Sample). candidate_with s p k o (expected s p k)) e)

  module _ (u v : ℤ) (fraction : Float) (threshold : ℕ) (x : Sampled (cell s k) u v fraction threshold) where
    -- the expected marker, from the grid point
    abbrev looked : Option ℕ
    looked = marker_on (board_of (spec_of s)) (applied p (point u v)).u (applied p (point u v)).v

    same-expected : expected s p k ≡ looked
    unfolding expected
    same-expected =
        ap₂ (λ (a b : ℤ). marker_on (board_of (spec_of s)) (applied p (point a b)).u (applied p (point a b)).v) (sym x.u-is) (sym x.v-is)

    pub by_expected : (m : Option ℕ) → m ≡ looked → candidate_with s p k (some x.sample) m ≡ candidate_at s p k
    unfolding candidate_at
    by_expected m e = sym (ap₂ (candidate_with s p k) x.is (same-expected ∙ sym e))

    pub with_marker_lem : (id code : ℕ) → Some id ≡ looked → code ≡ code_of s p.turn id
        → Some (made k id u v p.turn code fraction threshold) ≡ candidate_at s p k
    with_marker_lem id code m ec =
        (λ i. Some (made k id (x.u-is i) (x.v-is i) p.turn (ec i) (x.fraction-is i) (x.threshold-is i))) ∙ by_expected (Some id) m

-- ---- what cell k emits, from its candidate
module _ (s : Shot) (p : GridAlignment) (k : ℕ) where
  pub same-emitted : emitted_for s (candidate_at s p k) ≡ emitted s p k
  unfolding candidate_at emitted
  same-emitted = go (cell s k).sample refl (expected s p k)
    where
      go : (o : Maybe Sample) → (cell s k).sample ≡ o → (m : Option ℕ) → emitted_for s (candidate_with s p k o m) ≡ emitted_with s p k o m
      go none e m = refl
      go (some x) e None = refl
      go (some x) e (Some m) =
          ap (λ (o : Maybe Sample). emitted_from (config_of s) (table_of s) (samples s.bits s.border x.threshold (grid_with o)) (candidate s p k x m)) e

  pub of_cell : k < cell_total s → OfCell s (candidate_at s p k)
  unfolding candidate_at
  of_cell h = go (cell s k).sample refl (expected s p k)
    where
      go : (o : Maybe Sample) → (cell s k).sample ≡ o → (m : Option ℕ) → OfCell s (candidate_with s p k o m)
      go none e m = tt
      go (some x) e None = tt
      go (some x) e (Some m) = (h, (x, e))
