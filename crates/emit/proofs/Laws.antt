-- A marker has 18 words, and a placement has at most one marker for each cell. If a marker is emitted, some cell contributes, so the placement's
-- evidence is a number. Assumes nothing.
use mathlib.Core.Path.{◌≡◌, refl}
use mathlib.Core.Bool.{Bool, true, false, ◌&&◌, cond}
use mathlib.Core.List.{List, [], ◌∷◌, flat_map}
use mathlib.Core.Option.{Option as Maybe, none, some}
use Prim.Native.Nat.{ℕ, zero, suc, ◌*◌, ◌≤◌, ◌<◌}
use native.Mathlib.Omega.{arith}
use lib.ListN.{length, length-append}
use lib.Ieee.{Float, lt}
use Rattle.floats.specs.Units.{nought}
use Rattle.lent_list.specs.Front.{up_to}
use Rattle.lent_list.proofs.Front.{up_to-most, flat_map_length}
use Rattle.grid_alignment.specs.declared.GridAlignment.{GridAlignment}
use Rattle.score_matrix.specs.Scores.{evidence as evidence_of}
use Rattle.shot_record.specs.Shots.{Sample, Shot}
use Rattle.ranking.specs.declared.Evidence.{Evidence}
use Rattle.ranking.specs.declared.Evidence.TheVariants as evidence
use Rattle.hypothesis.specs.Placements.{cell_total, cell}
use Rattle.hypothesis.specs.Evidence.{table_of, code_of, weight_with, samples_with, expected, reported}
use Rattle.hypothesis.specs.Rules.{Contributes}
use Rattle.hypothesis.proofs.Contributing.{none_rule}
use Rattle.emit.specs.Markers.{Marker, marker_of, emitted_with, emitted, markers, marker_words}
use Rattle.std.specs.Prelude.{Option, Some, None}

-- ---- the number of words
pub words-length : (m : Marker) → length (marker_words m) ≡ 18
unfolding marker_words
words-length m = refl

pub all_words : (ms : List Marker) → length (flat_map marker_words ms) ≡ 18 * length ms
all_words ms = flat_map_length marker_words 18 words-length ms

-- ---- the number of markers
at_most_one : (b : Bool) (m : Marker) → length (cond b (m ∷ []) []) ≤ 1
at_most_one true m = omega arith
at_most_one false m = omega arith

module _ (s : Shot) (p : GridAlignment) where
  one_in_cell : (k : ℕ) → length (emitted s p k) ≤ 1
  unfolding emitted
  one_in_cell k = go (cell s k).sample (expected s p k)
    where
      go : (o : Maybe Sample) (q : Option ℕ) → length (emitted_with s p k o q) ≤ 1
      go none q = omega arith
      go (some x) None = omega arith
      go (some x) (Some m) =
          let w = weight_with s (some x) in
          let y = samples_with s (some x) in
          at_most_one (lt nought w && lt nought (evidence_of (table_of s) y (code_of s p.turn m))) (marker_of s p k x m)

  pub one_per_cell : length (markers s p) ≤ cell_total s
  one_per_cell = omega (arith, up_to-most (emitted s p) 1 (cell_total s) (λ k h. one_in_cell k))

-- ---- if there is one
first_holds : (a b : Bool) (m : Marker) → 0 < length (cond (a && b) (m ∷ []) []) → a ≡ true
first_holds true b m h = refl
first_holds false b m h = absurd (omega arith)

module _ (s : Shot) (p : GridAlignment) where
  contributes : (k : ℕ) → k < cell_total s → 0 < length (emitted s p k) → Contributes s p k
  unfolding emitted
  contributes k inside h = go (cell s k).sample refl (expected s p k) refl h
    where
      go : (o : Maybe Sample) → (cell s k).sample ≡ o → (q : Option ℕ) → expected s p k ≡ q → 0 < length (emitted_with s p k o q) → Contributes s p k
      go none is q at h = absurd (omega arith)
      go (some x) is None at h = absurd (omega arith)
      go (some x) is (Some i) at h =
          let w = weight_with s (some x) in
          let heavy = first_holds (lt nought w) (lt nought (evidence_of (table_of s) (samples_with s (some x)) (code_of s p.turn i))) _ h in
          record { inside = inside; id = i; marker = at; weight = rw is heavy }

  some_cell : (n : ℕ) → n ≤ cell_total s → 0 < length (up_to (emitted s p) n) → (k : ℕ) × Contributes s p k
  unfolding up_to
  some_cell zero l h = absurd (omega arith)
  some_cell (suc n) l h = go (some_cell n (omega (arith, l))) (length (emitted s p n)) refl
    where
      go : (0 < length (up_to (emitted s p) n) → (k : ℕ) × Contributes s p k) → (j : ℕ) → length (emitted s p n) ≡ j → (k : ℕ) × Contributes s p k
      go earlier zero e = earlier (omega (arith, length-append (up_to (emitted s p) n) (emitted s p n)))
      go earlier (suc j) e = (n, contributes n (omega (arith, l)) (omega (arith, e)))

  pub emitted-number : 0 < length (markers s p) → (y : Float) × (reported s p ≡ evidence.Number y)
  emitted-number h = go (reported s p) refl
    where
      go : (x : Evidence) → reported s p ≡ x → (y : Float) × (reported s p ≡ evidence.Number y)
      go evidence.Absent e = let k = some_cell (cell_total s) (omega arith) h in absurd ((none_rule s p).reported_only_if e k.0 k.1)
      go (evidence.Number y) e = (y, e)
