-- Questions 12, 23 and 13 of the indexed cells are those of the shot's cells. Assumes nothing.
use mathlib.Core.Path.{◌≡◌, refl, sym, ap, ap₂, ◌∙◌}
use mathlib.Core.Bool.{Bool, ◌&&◌}
use mathlib.Core.List.{List}
use Prim.Native.Nat.{ℕ, zero, suc, ◌+◌, ◌≤◌, ◌<◌}
use native.Mathlib.Omega.{arith}
use lib.IntN.{ℤ}
use lib.ListN.{length, drop}
use borrow.Author.Tests.{eq-eqb}
use Rattle.std.proofs.lemmas.List.{length-drop, length-take-le}
use Rattle.integers.specs.Tests.{every}
use Rattle.integers.proofs.Tests.{same-answers}
use Rattle.integers.specs.Distance.{is_within}
use Rattle.grid_alignment.specs.Alignment.{point}
use Rattle.points.specs.Points.{all_apart, point_of, SmallWords}
use Rattle.points.proofs.Twice.{same_apart}
use Rattle.shot_record.specs.Fields.{bits_of, border_of, grid_size, cell_count, grid_from, sample_place}
use Rattle.lent_list.specs.Parts.{part}
use Rattle.shot_record.specs.Shots.{Cell, Shot, shot, cell_of, sample_at}
use Rattle.shot_record.specs.Answers.{border_with}
use Rattle.shot_record.specs.Index.{Entry, Index}
use Rattle.shot_record.proofs.Whole.{Whole}
use Rattle.shot_record.proofs.CellReads.{cell_count_is, cell-is, grid_lies}
use Rattle.hypothesis.specs.Placements.{no_cell, cell, cell_point}
use Rattle.board_match.specs.Questions.{placed_answer, points_answer, sample_answer, samples_answer}
use Rattle.board_match.specs.Entries.{placed_in, border_answer, sampled_in}

-- a grid that lies in the record is complete
whole_sample : (b grid at : ℕ) (bytes : List ℕ) → ((b ≡ 0 → ⊥) → grid_from at + grid ≤ length bytes)
    → border_answer (border_with (sample_at b grid at bytes)) ≡ sample_answer grid (sample_at b grid at bytes)
whole_sample zero grid at bytes h = refl
whole_sample (suc b) grid at bytes h =
    let l : grid_from at + grid ≤ length bytes = h (λ e. absurd (omega arith)) in
    let n : length (part (grid_from at) grid bytes) ≡ grid =
    length-take-le grid (drop (grid_from at) bytes) (omega (arith, l, length-drop (grid_from at) bytes)) in
    rw (eq-eqb _ grid n) refl

module _ (bytes index : List ℕ) (held : Index bytes index) (count : ℕ) (all : count ≡ cell_count bytes) (few : count ≤ 256) where
  abbrev s : Shot
  s = shot bytes

  -- of every cell
  each-cell : (f : ℕ → Bool) (g : Cell → Bool) → ((k : ℕ) → k < cell_count bytes → Entry bytes index k → f k ≡ g (cell_of bytes k))
      → every f count ≡ every (λ (k : ℕ). g (cell s k)) (length s.cells)
  each-cell f g e =
      same-answers f (λ (k : ℕ). g (cell s k)) count (λ k h.
      let l : k < cell_count bytes = omega (arith, h, all) in
      e k l (held k l (omega (arith, h, few))) ∙ ap g (sym (cell-is bytes k no_cell l)))
      ∙ ap (every (λ (k : ℕ). g (cell s k))) (all ∙ sym (cell_count_is bytes))

  pub placed-are : every (placed_in index) count ≡ every (λ (k : ℕ). placed_answer (cell s k)) (length s.cells)
  placed-are = each-cell (placed_in index) placed_answer (λ k h e. ap₂ (λ (u v : ℤ). is_within 4096 u && is_within 4096 v) e.u e.v)

  pub points_small : SmallWords index count
  points_small k h = let l : k < cell_count bytes = omega (arith, h, all) in (held k l (omega (arith, h, few))).word

  pub points_are : all_apart (point_of index) count ≡ points_answer s
  points_are =
      same_apart (point_of index) (cell_point s) count (λ k h.
      let l : k < cell_count bytes = omega (arith, h, all) in
      let e = held k l (omega (arith, h, few)) in
      ap₂ point e.u e.v ∙ ap (λ (c : Cell). point c.u c.v) (sym (cell-is bytes k no_cell l)))
      ∙ ap (all_apart (cell_point s)) (all ∙ sym (cell_count_is bytes))

  pub samples-are : Whole bytes → every (sampled_in index) count ≡ samples_answer s
  samples-are w =
      let size = grid_size (bits_of bytes) (border_of bytes) in
      each-cell (sampled_in index) (λ (c : Cell). sample_answer size c.sample)
      (λ k h e. ap border_answer e.border ∙ whole_sample _ size (sample_place bytes k) bytes (grid_lies bytes w k h))
