-- `emit::words::emit_marker` meets its contract: by cases of its two tests. Assumes nothing.
use mathlib.Core.Path.{◌≡◌, sym, ap, ap₂, ◌∙◌}
use mathlib.Core.Bool.{Bool, true, false, ◌&&◌, cond, and-false}
use mathlib.Core.List.{List, [], ◌∷◌, flat_map, append-nil}
use Prim.Native.Nat.{ℕ, ◌+◌, ◌*◌, ◌≤◌}
use lib.ListN.{length}
use lib.IntN.{pos}
use lib.Ieee.{Float, binary32, of_bits, of_fields, odd, of_int, sub, div, lt}
use Rattle.floats.specs.Units.{nought}
use Rattle.lent_list.proofs.Front.{nothing_put, put_as}
use Rattle.score_matrix.specs.Scores.{Samples, score, evidence, null_score, read_code}
use Rattle.score_matrix.specs.Weights.{weight}
use Rattle.hypothesis.specs.declared.Inputs.{Inputs}
use Rattle.emit.specs.declared.candidates.Candidate.{Candidate}
use Rattle.emit.specs.Markers.{Marker, quotient, marker_words}
use Rattle.emit.specs.Candidates.{marker_from, samples_in, emitted_from}
use Rattle.emit.proofs.words.emit_marker.Goals as goal
use Rattle.emit.proofs.words.emit_marker.Goals.{After-marker_words-marker}
use Rattle.std.specs.Prelude.{Some}

-- the words of what is emitted, by cases of the two tests
abbrev told_by : Bool → Bool → Marker → List ℕ
told_by a b m = flat_map marker_words (cond (a && b) (m ∷ []) [])

no_words : (a b : Bool) (m : Marker) → (a && b) ≡ false → [] ≡ told_by a b m
unfolding flat_map
no_words a b m e = ap (λ (t : Bool). flat_map marker_words (cond t (m ∷ []) [])) (sym e)

one-marker : (a b : Bool) (m : Marker) → a ≡ true → b ≡ true → marker_words m ≡ told_by a b m
unfolding flat_map
one-marker a b m e f = sym (append-nil (marker_words m)) ∙ sym (ap₂ (λ (t u : Bool). told_by t u m) e f)

-- with the inputs, the candidate, the grid and the table
module _ (i : Inputs) (c : Candidate) (grid : List ℕ) (table : List Float) where
  abbrev sampled : Samples
  sampled = samples_in i c.threshold grid

  abbrev marker : Marker
  marker = marker_from c (read_code sampled) (quotient table sampled c.code) i.config.px_per_square

  abbrev heavy : Bool
  heavy = lt nought (weight i.config (Some c.fraction))

  abbrev evident : Bool
  evident = lt nought (evidence table sampled c.code)

  abbrev written : List ℕ
  written = flat_map marker_words (emitted_from i.config table sampled c)

  -- the evidence is that of the score
  scored : (x e : Float) → x ≡ score table sampled c.code → e ≡ sub binary32 x (null_score i.board.bits) → evident ≡ lt nought e
  scored x e is_score is_evidence =
      sym (ap (lt nought) (is_evidence ∙ ap (λ (y : Float). sub binary32 y (null_score i.board.bits)) is_score))

  light : heavy ≡ false → [] ≡ written
  light e = no_words heavy evident marker (ap (λ (t : Bool). t && evident) e)

  faint : evident ≡ false → [] ≡ written
  faint e = no_words heavy evident marker (ap (λ (t : Bool). heavy && t) e ∙ and-false heavy)

  one : heavy ≡ true → evident ≡ true → marker_words marker ≡ written
  one = one-marker heavy evident marker

pub returns-then-not-weight : goal.returns-then-not-weight
unfolding of_bits of_fields odd
returns-then-not-weight c =
    let x = c.args in
    put_as (light x.inputs x.c x.grid.now x.table.now (ap (lt nought) (sym c.cell_weight-weight.ensures) ∙ c.if-not-weight.true))
    (nothing_put x.markers.now x.at)

pub returns-then-not-evidence : goal.returns-then-not-evidence
unfolding of_bits of_fields odd
returns-then-not-evidence c =
    let x = c.args in
    let e = scored x.inputs x.c x.grid.now x.table.now c.score-score.result c.evidence.result c.score-score.ensures c.evidence.ensures in
    put_as (faint x.inputs x.c x.grid.now x.table.now (e ∙ c.if-not-evidence.true)) (nothing_put x.markers.now x.at)

-- the words are those of the marker
told : (c : After-marker_words-marker) → let x = c.args in c.marker_words-marker.result ≡ written x.inputs x.c x.grid.now x.table.now
unfolding of_bits of_fields odd
told c =
    let x = c.args in
    let es = c.score-score.ensures in
    let e = scored x.inputs x.c x.grid.now x.table.now c.score-score.result c.evidence.result es c.evidence.ensures in
    let eq = c.quotient.ensures ∙ ap (λ (y : Float). div binary32 y (of_int binary32 (pos (x.inputs.board.bits * x.inputs.board.bits)))) es in
    c.marker_words-marker.ensures
    ∙ ap₂ (λ (code : ℕ) (y : Float). marker_words (marker_from x.c code y x.inputs.config.px_per_square)) c.read_code-read.ensures eq
    ∙ one x.inputs x.c x.grid.now x.table.now (ap (lt nought) (sym c.cell_weight-weight.ensures) ∙ c.if-not-weight.false) (e ∙ c.if-not-evidence.false)

pub put-requires : goal.put-requires
put-requires c =
    let x = c.args in
    room c.marker_words-marker.result (written x.inputs x.c x.grid.now x.table.now) (told (goal.at.put-requires c).After-marker_words-marker) x.at x.markers.now c.requires.c_in_bounds
  where
    room : (ws vs : List ℕ) → ws ≡ vs → (at : ℕ) (l : List ℕ) → at + length vs ≤ length l → at + length ws ≤ length l
    room ws vs e at l h = rw e h

pub returns : goal.returns
returns c = put_as (told (goal.at.returns c).After-marker_words-marker) c.put.ensures
