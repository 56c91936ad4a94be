-- The ids of the markers emitted for a placement are distinct if no two cells have the same grid point. Assumes nothing.
use mathlib.Core.Path.{◌≡◌, refl, sym, ap, ap₂, subst, ◌∙◌}
use mathlib.Core.Bool.{Bool, true, false, ◌&&◌, cond}
use mathlib.Core.List.{List, [], ◌∷◌, ◌++◌, append-nil, append_assoc, flat_map}
use mathlib.Core.Logic.{◌⊎◌, inl, inr}
use mathlib.Core.Option.{Option as Maybe, none, some}
use Prim.Native.Nat.{ℕ, zero, suc, ◌+◌, ◌*◌, ◌≤◌, ◌<◌}
use native.Mathlib.Omega.{arith}
use lib.IntN.{pos}
use lib.ListN.{length, get_or, length-append, get_or-append}
use lib.Seq.{get_or-append_seam, get_or-append-add}
use lib.Ieee.{lt, nan}
use Rattle.floats.specs.Units.{nought}
use Rattle.integers.proofs.Distances.{lt_or_le}
use Rattle.sorting.specs.Order.{AllDifferent}
use Rattle.lent_list.specs.Front.{up_to}
use Rattle.grid_alignment.specs.declared.GridAlignment.{GridAlignment}
use Rattle.grid_alignment.specs.Alignment.{point, applied}
use Rattle.grid_alignment.proofs.Laws.{applied-once}
use Rattle.board.specs.Layout.{parity_of}
use Rattle.board.proofs.Laws.{id-once}
use Rattle.score_matrix.specs.Scores.{evidence as evidence_of}
use Rattle.shot_record.specs.Shots.{Sample, Shot}
use Rattle.hypothesis.specs.Placements.{cell_total, cell, cell_point}
use Rattle.hypothesis.specs.Evidence.{table_of, code_of, weight_with, samples_with, board_in, expected}
use Rattle.emit.specs.Markers.{Marker, marker_of, emitted_with, emitted, markers, marker_words, id_in}
use Rattle.emit.proofs.Laws.{words-length}
use Rattle.std.specs.Prelude.{Option, Some, None}

-- after the last marker
no_marker : Marker
no_marker =
    record { cell = 0; id = 0; point = point (pos 0) (pos 0); turn = 0; differing = 0; code = 0; quotient = nan; fraction = nan; corners = [] }

abbrev at : List Marker → ℕ → Marker
at ms i = get_or ms i no_marker

-- ---- in the words of all markers, with any words after them
id_word_lem : (ms : List Marker) (rest : List ℕ) (i : ℕ) → i < length ms → id_in (flat_map marker_words ms ++ rest) i ≡ (at ms i).id
unfolding marker_words flat_map
id_word_lem [] rest i h = absurd (omega (arith, h))
id_word_lem (m ∷ ms) rest zero h = refl
id_word_lem (m ∷ ms) rest (suc i) h =
    let behind = flat_map marker_words ms ++ rest in
    let further : 18 * suc i + 1 ≡ length (marker_words m) + (18 * i + 1) = omega (arith, words-length m) in
    ap₂ (λ (xs : List ℕ) (k : ℕ). get_or xs k 0) (append_assoc (marker_words m) (flat_map marker_words ms) rest) further
    ∙ get_or-append-add (marker_words m) behind (18 * i + 1) 0 ∙ id_word_lem ms rest i (omega (arith, h))

module _ (s : Shot) (p : GridAlignment) where
  -- ---- an emitted marker is expected in its cell, and cells are in ascending order
  record OfCells (ms : List Marker) (n : ℕ) : Type 0 where
    is-expected : (i : ℕ) → i < length ms → ((at ms i).cell < n) × (expected s p (at ms i).cell ≡ Some (at ms i).id)
    rise : (i j : ℕ) → i < j → j < length ms → (at ms i).cell < (at ms j).cell

  -- one marker of cell n after those of the cells before
  module _ (ms : List Marker) (n : ℕ) (o : OfCells ms n) (m : Marker) (c : m.cell ≡ n) (e : expected s p n ≡ Some m.id) where
    abbrev more : List Marker
    more = ms ++ m ∷ []

    abbrev Expected : Marker → Type 0
    Expected x = (x.cell < suc n) × (expected s p x.cell ≡ Some x.id)

    long : length more ≡ length ms + 1
    long = length-append ms (m ∷ [])

    before : (i : ℕ) → i < length ms → at more i ≡ at ms i
    before i l = get_or-append ms (m ∷ []) no_marker i l

    last : (i : ℕ) → length ms ≤ i → i < length more → at more i ≡ m
    last i l h = let is : i ≡ length ms = omega (arith, long) in ap (at more) is ∙ get_or-append_seam ms m [] no_marker

    one_behind : OfCells more (suc n)
    one_behind = record { is-expected = λ i h. expected-at i h (lt_or_le i (length ms)); rise = λ i j l h. rises i j l h (lt_or_le j (length ms)) }
      where
        expected-at : (i : ℕ) → i < length more → (i < length ms) ⊎ (length ms ≤ i) → Expected (at more i)
        expected-at i h (inl l) = let q = o.is-expected i l in subst Expected (sym (before i l)) (omega (arith, q.0), q.1)
        expected-at i h (inr l) = subst Expected (sym (last i l h)) (omega (arith, c), ap (expected s p) c ∙ e)

        rises : (i j : ℕ) → i < j → j < length more → (j < length ms) ⊎ (length ms ≤ j) → (at more i).cell < (at more j).cell
        rises i j l h (inl q) = rw (before i (omega (arith, l, q)), before j q) (o.rise i j l q)
        rises i j l h (inr q) =
            let k : i < length ms = omega (arith, l, h, long) in
            rw (before i k, last j q h, c) (o.is-expected i k).0

  -- none or one of cell n
  none_behind : (ms : List Marker) (n : ℕ) → OfCells ms n → OfCells (ms ++ []) (suc n)
  none_behind ms n o =
      subst (λ (xs : List Marker). OfCells xs (suc n)) (sym (append-nil ms))
      (record { is-expected = λ i h. let q = o.is-expected i h in (omega (arith, q.0), q.1); rise = o.rise })

  if_passed : (ms : List Marker) (n : ℕ) → OfCells ms n → (b : Bool) (m : Marker) → m.cell ≡ n → expected s p n ≡ Some m.id
      → OfCells (ms ++ cond b (m ∷ []) []) (suc n)
  if_passed ms n o true m c e = one_behind ms n o m c e
  if_passed ms n o false m c e = none_behind ms n o

  one_cell : (ms : List Marker) (n : ℕ) → OfCells ms n → OfCells (ms ++ emitted s p n) (suc n)
  unfolding emitted
  one_cell ms n o = go (cell s n).sample (expected s p n) refl
    where
      go : (x : Maybe Sample) (q : Option ℕ) → expected s p n ≡ q → OfCells (ms ++ emitted_with s p n x q) (suc n)
      go none q e = none_behind ms n o
      go (some x) None e = none_behind ms n o
      go (some x) (Some m) e =
          if_passed ms n o
          (lt nought (weight_with s (some x)) && lt nought (evidence_of (table_of s) (samples_with s (some x)) (code_of s p.turn m)))
          (marker_of s p n x m) refl e

  of_cells : (n : ℕ) → OfCells (up_to (emitted s p) n) n
  unfolding up_to
  of_cells zero = record { is-expected = λ i h. absurd (omega (arith, h)); rise = λ i j l h. omega (arith, h) }
  of_cells (suc n) = one_cell (up_to (emitted s p) n) n (of_cells n)

  -- ---- cells with distinct points have distinct squares, and these distinct ids
  pub ids_differ : ((i j : ℕ) → i < j → j < cell_total s → cell_point s i ≡ cell_point s j → ⊥) → (rest : List ℕ)
      → AllDifferent (length (markers s p)) (id_in (flat_map marker_words (markers s p) ++ rest))
  unfolding expected
  ids_differ apart rest i j l h f =
      let o = of_cells (cell_total s) in
      let e = sym (id_word_lem (markers s p) rest i (omega (arith, l, h))) ∙ f ∙ id_word_lem (markers s p) rest j h in
      let a = o.is-expected i (omega (arith, l, h)) in
      let b = o.is-expected j h in
      let c = (at (markers s p) i).cell in
      let d = (at (markers s p) j).cell in
      let x = applied p (cell_point s c) in
      let y = applied p (cell_point s d) in
      let same = id-once (parity_of (board_in s)) s.rows s.cols x.u x.v y.u y.v (at (markers s p) j).id (a.1 ∙ ap Some e) b.1 in
      apart c d (o.rise i j l h) b.0 (applied-once p (cell_point s c) (cell_point s d) (ap₂ point same.0 same.1))
