-- The result for a shot with a best placement, by cases of the program's tests. Assumes nothing.
use mathlib.Core.Path.{◌≡◌, sym, ap, ap₂, subst, ◌∙◌}
use mathlib.Core.Bool.{true, false}
use mathlib.Core.List.{List, [], ◌∷◌, ◌++◌, flat_map}
use mathlib.Core.Option.{none}
use Prim.Native.Nat.{ℕ, ◌*◌, ◌≤◌, ◌<◌}
use native.Mathlib.Omega.{arith}
use lib.ListN.{length}
use lib.Seq.{take-nil}
use lib.Ieee.{Float}
use Rattle.lent_list.specs.Front.{in_front}
use Rattle.refusal.specs.declared.Refusal.TheVariants as refusal
use Rattle.grid_alignment.specs.declared.GridAlignment.{GridAlignment}
use Rattle.grid_alignment.specs.Alignment.{corner_alignment, NearAlignment}
use Rattle.score_matrix.specs.declared.BoardMatchConfig.{BoardMatchConfig}
use Rattle.shot_record.specs.Shots.{Shot, shot, whole_record}
use Rattle.shot_record.specs.Answers.{config_of}
use Rattle.ranking.specs.declared.Hypothesis.{Hypothesis}
use Rattle.hypothesis.specs.declared.Selection.{Selection}
use Rattle.hypothesis.specs.Search.{enumerate}
use Rattle.hypothesis.specs.Placements.{cell_total}
use Rattle.hypothesis.specs.Inputs.{PassedShot}
use Rattle.hypothesis.proofs.Best.{best_placed, Chosen, chosen, some_placement}
use Rattle.emit.specs.Markers.{Marker, markers, marker_words}
use Rattle.board_match.specs.declared.Match.{Match}
use Rattle.board_match.specs.Questions.{asked_before15}
use Rattle.board_match.specs.Match.{margin_with, margin_passes, match_of, Gives}
use Rattle.board_match.proofs.Sound.{sound}
use Rattle.board_match.proofs.Placing.{narrow, no_markers, placed}
use Rattle.std.specs.Prelude.{Option, Some, Ok, Err}

-- ---- preconditions of emission: the best placement's translation is small, and there is room
pub near-best : (bytes : List ℕ) → PassedShot (shot bytes) → (x : Selection) → enumerate (shot bytes) ≡ Some x
    → NearAlignment x.best.alignment
near-best bytes p x e =
    let b = (best_placed (shot bytes) p x.best (chosen (shot bytes) x e).best_is).small in (omega (arith, b.tx), omega (arith, b.ty))

pub room_for : (bytes lent : List ℕ) → asked_before15 (shot bytes) (length lent) ≡ none → 18 * cell_total (shot bytes) ≤ length lent
room_for bytes lent asked = (sound (shot bytes) (length lent) asked).room

-- ---- the results
match_parts : (b : Hypothesis) {r r' : (Option Hypothesis)} {m m' : Float} {p p' : ℕ} {c c' : GridAlignment} {k k' : ℕ} → r ≡ r' → m ≡ m' → p ≡ p' → c ≡ c' → k ≡ k'
    → ◌≡◌ {A = Match} (record { best = b; runner_up = r; margin = m; placements = p; corners = c; markers = k })
    (record { best = b; runner_up = r'; margin = m'; placements = p'; corners = c'; markers = k' })
match_parts b e f g h i = cc

no_words : (found : List Marker) (lent : List ℕ) → length found ≡ 0 → in_front (flat_map marker_words found) lent ≡ lent
unfolding flat_map
no_words [] lent e = ap (λ (l : List ℕ). l ++ lent) (take-nil (length lent))
no_words (m ∷ ms) lent e = absurd (omega (arith, e))

module _ (bytes lent : List ℕ) (w : whole_record bytes ≡ true) (asked : asked_before15 (shot bytes) (length lent) ≡ none)
    (x : Selection) (e : enumerate (shot bytes) ≡ Some x)
    (config : BoardMatchConfig) (config_is : config ≡ config_of (shot bytes)) where
  abbrev s : Shot
  s = shot bytes

  here : Chosen s x
  here = chosen s x e

  margin-is : x.margin ≡ margin_with s (Some x.best)
  margin-is = ap (λ (y : Selection). y.margin) here.is

  test_is : margin_passes config x.margin ≡ margin_passes (config_of s) (margin_with s (Some x.best))
  test_is = ap₂ margin_passes config_is margin-is

  pub too_narrow : margin_passes config x.margin ≡ false → Gives bytes lent (Err (refusal.Margin x.margin)) lent
  too_narrow t =
      subst (λ (m : Float). Gives bytes lent (Err (refusal.Margin m)) lent) (sym margin-is)
      (narrow bytes lent w asked x.best here.best_is (some_placement s x e) (sym test_is ∙ t))

  module _ (wide : margin_passes config x.margin ≡ true) (n : ℕ) (exit : List ℕ) (count : n ≡ length (markers s x.best.alignment))
      (list : exit ≡ in_front (flat_map marker_words (markers s x.best.alignment)) lent) where
    enough : margin_passes (config_of s) (margin_with s (Some x.best)) ≡ true
    enough = sym test_is ∙ wide

    nothing_written : length (markers s x.best.alignment) ≡ 0 → exit ≡ lent
    nothing_written z = list ∙ no_words (markers s x.best.alignment) lent z

    pub none_emitted : n ≡ 0 → Gives bytes lent (Err refusal.NoMarkers) exit
    none_emitted z =
        let q : length (markers s x.best.alignment) ≡ 0 = sym count ∙ z in
        subst (Gives bytes lent (Err refusal.NoMarkers)) (sym (nothing_written q))
        (no_markers bytes lent w asked x.best here.best_is (some_placement s x e) enough q)

    pub emitted-some : (n ≡ 0 → ⊥) → (m : Match) → m ≡ match_of s x.best → Gives bytes lent (Ok m) exit
    emitted-some some m is =
        let h : 0 < length (markers s x.best.alignment) = subst (λ (k : ℕ). 0 < k) count (positive n some) in
        let g = placed bytes lent w asked x.best here.best_is (some_placement s x e) enough h in
        record { answers = ap Ok is ∙ g.answers; leaves = list ∙ g.leaves }
      where
        positive : (k : ℕ) → (k ≡ 0 → ⊥) → 0 < k
        positive k f = omega (arith, f)

    pub match_is : (corners : GridAlignment) → corners ≡ corner_alignment x.best.alignment
        → ◌≡◌ {A = Match} (record { best = x.best; runner_up = x.runner_up; margin = x.margin; placements = x.total; corners = corners; markers = n })
        (match_of s x.best)
    match_is corners f =
        let y = here.is in
        match_parts x.best (ap (λ (z : Selection). z.runner_up) y) margin-is (ap (λ (z : Selection). z.total) y) f count
