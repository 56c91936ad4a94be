-- One more cell in the sums and counts of a turn. Assumes nothing.
use mathlib.Core.Path.{◌≡◌, refl, sym, ap, ap₂, ◌∙◌}
use mathlib.Core.Logic.{inl, inr}
use mathlib.Core.Bool.{Bool, true, false, cond}
use mathlib.Core.List.{List, [], ◌∷◌, ◌++◌, append-nil, foldl, foldl-append}
use Prim.Native.Nat.{ℕ, ◌+◌, ◌*◌, ◌%◌, ◌<◌}
use native.Mathlib.Nat.{eq-or-lt_of_le}
use native.Mathlib.Numerals.{add-one}
use native.Mathlib.Omega.{arith}
use lib.ListN.{length, length-append, get_or}
use lib.Ieee.{Float, nan, binary32, add, lt}
use borrow.Author.Tests.{eq-eqb, ne_eqb}
use Rattle.floats.specs.Units.{nought}
use Rattle.grid_alignment.specs.declared.GridAlignment.{GridAlignment}
use Rattle.board.specs.Numbering.{as_one, number_if}
use Rattle.board.specs.Layout.{parity_of, holds_marker}
use Rattle.board.proofs.Counting.{one-small}
use Rattle.board.proofs.Parities.{moved_even, moved_odd}
use Rattle.score_matrix.specs.Scores.{null_score}
use Rattle.lent_list.specs.Front.{up_to}
use Rattle.shot_record.specs.Shots.{Shot}
use Rattle.hypothesis.specs.declared.sums.Counted.{Counted}
use Rattle.hypothesis.specs.declared.turns.Contributing.{Contributing}
use Rattle.hypothesis.specs.Placements.{cell_total, moves_across, moves_down, shifted}
use Rattle.hypothesis.specs.Evidence.{weight_of, Contribution, contributed, contributions_to, reported_term, reported_sum}
use Rattle.hypothesis.specs.Turns.{count_at}
use Rattle.hypothesis.specs.Filling.{SumsTo, with_counted, CellScores}
use Rattle.hypothesis.specs.Sums.{plus_score, plus_marker, plus_cell, Added}
use Rattle.hypothesis.proofs.Contributing.{one_if}
use Rattle.hypothesis.proofs.Contributions.{counted_cell, on, share, marker-is, id_known, counts}
use Rattle.std.specs.Prelude.{Option}

-- ---- one more cell in a sum
abbrev with_cells : Shot → ℕ → Float → List Contribution → Float
with_cells s r x cs = foldl (λ (y : Float) (c : Contribution). add binary32 y (reported_term s r c)) x cs

more : (s : Shot) (p : GridAlignment) (n : ℕ) → contributions_to s p (n + 1) ≡ contributions_to s p n ++ contributed s p n
unfolding up_to
more s p n = ap (contributions_to s p) (add-one n)

next : (s : Shot) (r : ℕ) (p : GridAlignment) (n : ℕ) → reported_sum s r (contributions_to s p (n + 1)) ≡ with_cells s r
    (reported_sum s r (contributions_to s p n)) (contributed s p n)
next s r p n =
    ap (reported_sum s r) (more s p n) ∙ foldl-append (λ (y : Float) (c : Contribution). add binary32 y (reported_term s r c)) nought (contributions_to s p n)
    (contributed s p n)

next_count : (s : Shot) (p : GridAlignment) (n : ℕ) → length (contributions_to s p (n + 1)) ≡ length (contributions_to s p n) + length (contributed s p n)
next_count s p n = ap (length {A = Contribution}) (more s p n) ∙ length-append (contributions_to s p n) (contributed s p n)

without : (s : Shot) (p : GridAlignment) (n : ℕ) → contributed s p n ≡ [] → contributions_to s p n ≡ contributions_to s p (n + 1)
without s p n e = sym (more s p n ∙ ap (λ (cs : List Contribution). contributions_to s p n ++ cs) e ∙ append-nil (contributions_to s p n))

-- ---- one more cell in a count
even_or_odd : {A : Type 0} (n : ℕ) → (n % 2 ≡ 0 → A) → (n % 2 ≡ 1 → A) → A
even_or_odd n f g = elim (eq-or-lt_of_le {n = n % 2} {m = 1} (omega arith)) [ inl e ↦ g e | inr l ↦ f (omega (arith, l)) ]

count_with_lem : (contributing : Contributing) (c : Counted) (a b : ℕ) → count_at (with_counted contributing c) (a + b) ≡
    count_at contributing (a + b) + as_one (holds_marker (parity_of c.board) (c.i + a) (c.j + b))
count_with_lem contributing c a b =
    let p = parity_of c.board in
    even_or_odd (a + b)
    (λ e. rw (eq-eqb ((a + b) % 2) 0 e) (ap (λ (t : Bool). contributing.even + as_one t) (sym (moved_even p c.i c.j a b e))))
    (λ e. rw (ne_eqb ((a + b) % 2) 0 (λ z. absurd (omega (arith, e, z)))) (ap (λ (t : Bool). contributing.odd + as_one t) (sym (moved_odd p c.i c.j a b e))))

-- ---- a turn
module _ (s : Shot) (r n : ℕ) (sums : List Float) (contributing : Contributing) (h : SumsTo s r n sums contributing) where
  -- a cell that contributes to no placement
  pub passed_over : ((p : GridAlignment) → contributed s p n ≡ []) → SumsTo s r (n + 1) sums contributing
  passed_over nothing =
      let same : (a b : ℕ) → contributions_to s (shifted s r a b) n ≡ contributions_to s (shifted s r a b) (n + 1) =
      λ a b. without s (shifted s r a b) n (nothing (shifted s r a b)) in
      record {
        size = h.size;
        value = λ a b l m. h.value a b l m ∙ ap (reported_sum s r) (same a b);
        count = λ a b l m. h.count a b l m ∙ ap (length {A = Contribution}) (same a b);
        few = (omega (arith, h.few.0), omega (arith, h.few.1));
      }

  -- a cell with weight above 0
  module _ (inside : n < cell_total s) (heavy : lt nought (weight_of s n) ≡ true) (score : ℕ → Float) (scores : CellScores s r n score) where
    abbrev counted : Counted
    counted = counted_cell s r n

    module _ (a b : ℕ) (l : a < moves_across s r) (m : b < moves_down s r) where
      abbrev t : Bool
      t = on s r n inside a b l m

      abbrev c : Contribution
      c = share s r n inside a b l m

      is : contributed s (shifted s r a b) n ≡ cond t (c ∷ []) []
      is = counts s r n inside a b l m heavy

      by_square : (u : Bool) → t ≡ u → (x : Float) → plus_marker counted score (number_if u c.id) x ≡ with_cells s r x (cond u (c ∷ []) [])
      by_square true e x = ap (λ (z : Float). plus_score (weight_of s n) (null_score s.bits) z x) (scores c.id (id_known s r n inside a b l m e))
      by_square false e x = refl

      value-is : (x : Float) → x ≡ reported_sum s r (contributions_to s (shifted s r a b) n)
          → plus_cell counted score a b x ≡ reported_sum s r (contributions_to s (shifted s r a b) (n + 1))
      value-is x e =
          ap (λ (q : Option ℕ). plus_marker counted score q x) (marker-is s r n inside a b l m)
          ∙ by_square t refl x
          ∙ ap₂ (with_cells s r) e (sym is)
          ∙ sym (next s r (shifted s r a b) n)

      count_is : (k : ℕ) → k ≡ length (contributions_to s (shifted s r a b) n) → k + as_one t ≡ length (contributions_to s (shifted s r a b) (n + 1))
      count_is k e =
          ap₂ ◌+◌ e (sym (one_if t c) ∙ ap (length {A = Contribution}) (sym is))
          ∙ sym (next_count s (shifted s r a b) n)

    pub with_cell : (then : List Float) → length then ≡ 1024 → Added counted score (moves_across s r) (moves_down s r) sums then
        → SumsTo s r (n + 1) then (with_counted contributing counted)
    with_cell then size added =
        record {
          size = size;
          value = λ a b l m. added a b l m ∙ value-is a b l m (get_or sums (a * moves_down s r + b) nan) (h.value a b l m);
          count = λ a b l m. count_with_lem contributing counted a b ∙ count_is a b l m (count_at contributing (a + b)) (h.count a b l m);
          few = (
            omega (arith, h.few.0, one-small (holds_marker (parity_of counted.board) counted.i counted.j)),
            omega (arith, h.few.1, one-small (holds_marker (parity_of counted.board) (counted.i + 1) counted.j)),
          );
        }
