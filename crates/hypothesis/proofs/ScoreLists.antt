-- The scores by their indices in the array, and what a search finds there. Assumes nothing.
use mathlib.Core.Path.{◌≡◌, refl, sym, ap, subst, ◌∙◌}
use mathlib.Core.Bool.{true, false≢true}
use mathlib.Core.Option.{Option, none, some}
use mathlib.Core.List.{List, ◌++◌}
use Prim.Native.Nat.{ℕ, zero, suc, ◌+◌, ◌*◌, ◌/◌, ◌%◌, ◌≤◌, ◌<◌}
use native.Mathlib.Nat.{mul-le-mul, div-add-mod', mod-lt, div-lt_iff_lt-mul, mul-zero}
use native.Mathlib.Omega.{arith}
use lib.Arith.{digits_lt, digits_div, digits_mod}
use lib.ListN.{length, get_or, drop, get_or-append}
use lib.Ieee.{Float, nan, lt}
use Rattle.floats.specs.Units.{nought}
use Rattle.lent_list.specs.Front.{in_front}
use Rattle.lent_list.proofs.Front.{front_is, front_length}
use Rattle.lent_list.proofs.Uniform.{up_to-length, up_to-at, in_front_lem}
use Rattle.board.specs.declared.Board.{Board}
use Rattle.board.specs.Layout.{marker_total}
use Rattle.board.proofs.Laws.{same_count}
use Rattle.score_matrix.specs.Scores.{score}
use Rattle.shot_record.specs.Shots.{Sample, Shot}
use Rattle.shot_record.proofs.Lists.{length-list, get_d_list}
use Rattle.hypothesis.specs.declared.Inputs.{Inputs}
use Rattle.hypothesis.specs.Placements.{cell_total, cell}
use Rattle.hypothesis.specs.Evidence.{board_in, table_of, weight_with, weight_of, samples_with, code_of}
use Rattle.hypothesis.specs.Inputs.{SearchInput}
use Rattle.hypothesis.specs.Filling.{CellScores}
use Rattle.hypothesis.specs.ScoreList.{marker_total_in, score_with, score_in, marker_scores, scores_of_cell, score_list, score_count, score_place, HoldsScores}
use Rattle.hypothesis.specs.ScoreList.{PlacesOfScoresRule, InScores, Scored}

-- ---- indices: equal only for the same cell, marker and turn
module _ (markers k m r k' m' r' : ℕ) (a : m < markers) (b : m' < markers) (c : r < 4) (d : r' < 4)
    (e : score_place markers k m r ≡ score_place markers k' m' r') where
  above : k * markers + m ≡ k' * markers + m'
  above = sym (digits_div (k * markers + m) c) ∙ ap (λ (n : ℕ). n / 4) e ∙ digits_div (k' * markers + m') d

  pub same-cell : k ≡ k'
  same-cell = sym (digits_div k a) ∙ ap (λ (n : ℕ). n / markers) above ∙ digits_div k' b

  pub same-marker : m ≡ m'
  same-marker = sym (digits_mod k a) ∙ ap (λ (n : ℕ). n % markers) above ∙ digits_mod k' b

  pub same_turn : r ≡ r'
  same_turn = sym (digits_mod (k * markers + m) c) ∙ ap (λ (n : ℕ). n % 4) e ∙ digits_mod (k' * markers + m') d

-- those of the cells below n end at n × markers × 4
pub place-below : (markers n k m r : ℕ) → k < n → m < markers → r < 4 → score_place markers k m r < n * markers * 4
place-below markers n k m r a b c = digits_lt (digits_lt a b) c

-- every number below that is one of them
record IsPlace (markers n i : ℕ) : Type 0 where
  pub cell : ℕ
  pub marker : ℕ
  pub turn : ℕ
  pub place : i ≡ score_place markers cell marker turn
  pub inside : (cell < n) × (marker < markers) × (turn < 4)

parts : (markers n j : ℕ) → j < n * markers → (j / markers < n) × (j % markers < markers)
parts zero n j h = absurd (omega (arith, mul-zero n))
parts (suc w) n j h = let some : 0 < suc w = omega arith in ((div-lt_iff_lt-mul some).1 h, mod-lt j some)

is-place : (markers n i : ℕ) → i < n * markers * 4 → IsPlace markers n i
is-place markers n i h =
    record {
      cell = i / 4 / markers;
      marker = i / 4 % markers;
      turn = i % 4;
      place = sym (ap (λ (x : ℕ). x * 4 + i % 4) (div-add-mod' (i / 4) markers) ∙ div-add-mod' i 4);
      inside = (inner.0, inner.1, omega arith);
    }
  where
    inner : (i / 4 / markers < n) × (i / 4 % markers < markers)
    inner = parts markers n (i / 4) (omega arith)

-- ---- the list has each score at its index
four : (s : Shot) (k m : ℕ) → length (marker_scores s k m) ≡ 4
four s k m = length-list (score_in s k m) 4

each-cell : (s : Shot) (k : ℕ) → length (scores_of_cell s k) ≡ marker_total_in s * 4
each-cell s k = up_to-length (marker_scores s k) 4 (four s k) (marker_total_in s)

pub places_of_scores : PlacesOfScoresRule
unfolding score_list
places_of_scores s =
    record {
      count = up_to-length (scores_of_cell s) (marker_total_in s * 4) (each-cell s) (cell_total s) ∙ omega arith;
      holds = λ k m r a b c.
          let place : score_place (marker_total_in s) k m r ≡ k * (marker_total_in s * 4) + (m * 4 + r) = omega arith in
          ap (λ (i : ℕ). get_or (score_list s) i nan) place
          ∙ up_to-at (scores_of_cell s) (marker_total_in s * 4) (each-cell s) nan (cell_total s) k (m * 4 + r) a (digits_lt b c)
          ∙ up_to-at (marker_scores s k) 4 (four s k) nan (marker_total_in s) m r b c
          ∙ get_d_list (score_in s k m) 4 r nan c;
    }

-- an array that has the scores, and after them what it had before, has them at its start
pub scores-in_front : (s : Shot) (lent after : List Float) → length after ≡ length lent → score_count s ≤ length lent → HoldsScores s after
    → ((i : ℕ) → score_count s ≤ i → get_or after i nan ≡ get_or lent i nan)
    → after ≡ in_front (score_list s) lent
scores-in_front s lent after size room holds kept =
    let p = places_of_scores s in
    in_front_lem nan (score_list s) lent after size (rw p.count room)
    (λ i h. let x = is-place (marker_total_in s) (cell_total s) i (rw p.count at h) in
    ap (λ (j : ℕ). get_or after j nan) x.place
    ∙ holds x.cell x.marker x.turn x.inside.0 x.inside.1 x.inside.2
    ∙ sym (p.holds x.cell x.marker x.turn x.inside.0 x.inside.1 x.inside.2)
    ∙ ap (λ (j : ℕ). get_or (score_list s) j nan) (sym x.place))
    (λ i h. kept i (rw p.count at h))

-- an array with the scores at its start has each at its index
pub front_scores : (s : Shot) (i : Inputs) (index : List ℕ) → SearchInput s i index → (lent after : List Float) → score_count s ≤ length lent
    → after ≡ in_front (score_list s) lent → Scored s i index after
front_scores s i index input lent after room e =
    let p = places_of_scores s in
    let long : length (score_list s) ≤ length lent = rw p.count room in
    let front : after ≡ score_list s ++ drop (length (score_list s)) lent = e ∙ front_is (score_list s) lent long in
    record {
      input = input;
      room = omega (arith, ap length e, front_length (score_list s) lent);
      holds = λ k m r a b c.
          let inside : score_place (marker_total_in s) k m r < length (score_list s) =
          rw p.count (place-below (marker_total_in s) (cell_total s) k m r a b c) in
          ap (λ (l : List Float). get_or l (score_place (marker_total_in s) k m r) nan) front
          ∙ get_or-append (score_list s) (drop (length (score_list s)) lent) nan (score_place (marker_total_in s) k m r) inside
          ∙ p.holds k m r a b c;
    }

-- ---- numbers of markers
pub few-markers : (s : Shot) → s.rows ≤ 32 → s.cols ≤ 32 → marker_total_in s ≤ 512
few-markers s h c = omega (arith, same_count (board_in s), mul-le-mul {n₁ = s.rows} {m₁ = s.cols} {n₂ = 32} {m₂ = 32} h c)

-- ---- what a search finds in the array: `first` is the index of the score of cell k and marker 0 after r quarter turns
module _ (s : Shot) (i : Inputs) (index : List ℕ) (scores : List Float) (scored : Scored s i index scores) (r k : ℕ) (turn : r < 4) (inside : k < cell_total s)
    (first : ℕ) (is : first ≡ 4 * (k * marker_total_in s) + r) where
  place : (m : ℕ) → first + 4 * m ≡ score_place (marker_total_in s) k m r
  place m = omega (arith, is)

  pub in_scores : (board : Board) → board ≡ board_in s → InScores board first scores
  in_scores board e m h =
      omega (arith, place m, scored.room, place-below (marker_total_in s) (cell_total s) k m r inside (subst (λ (b : Board). m < marker_total b) e h) turn)

  -- document 01's scores, of a cell with weight above 0
  pub found_scores : lt nought (weight_of s k) ≡ true → CellScores s r k (λ (m : ℕ). get_or scores (first + 4 * m) nan)
  unfolding lt score_in
  found_scores heavy m known =
      ap (λ (n : ℕ). get_or scores n nan) (place m) ∙ scored.holds k m r inside known turn ∙ go (cell s k).sample heavy
    where
      go : (o : Option Sample) → lt nought (weight_with s o) ≡ true → score_with s o (code_of s r m) ≡ score (table_of s) (samples_with s o) (code_of s r m)
      go none t = absurd (false≢true t)
      go (some x) t = refl
