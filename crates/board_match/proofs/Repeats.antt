-- A shot that passes has no two cells with the same grid point, so no placement puts two on one square and no marker is emitted twice. Assumes
-- nothing.
use mathlib.Core.Path.{◌≡◌, sym, ap, subst, ◌∙◌}
use mathlib.Core.List.{List, ◌++◌, flat_map}
use mathlib.Core.Option.{Option as Maybe}
use Prim.Native.Nat.{ℕ}
use native.Mathlib.Omega.{arith}
use lib.ListN.{length, drop}
use Rattle.sorting.specs.Order.{AllDifferent}
use Rattle.refusal.specs.declared.Refusal.{Refusal}
use Rattle.lent_list.specs.Front.{in_front, at_exit}
use Rattle.lent_list.proofs.Front.{front_is}
use Rattle.grid_alignment.proofs.Laws.{applied-once}
use Rattle.shot_record.specs.Shots.{Shot, shot}
use Rattle.shot_record.proofs.Whole.{passed, parse-whole}
use Rattle.ranking.specs.declared.Hypothesis.{Hypothesis}
use Rattle.hypothesis.specs.Placements.{cell_point}
use Rattle.emit.specs.Markers.{markers, marker_words, id_in}
use Rattle.emit.proofs.Laws.{all_words, one_per_cell}
use Rattle.emit.proofs.Ids.{ids_differ}
use Rattle.board_match.specs.declared.Match.{Match}
use Rattle.board_match.specs.Match.{markers_with, markers_of, match_of, left_list, match_list}
use Rattle.board_match.specs.Repeats.{SquaresRule, IdsRule}
use Rattle.board_match.proofs.Sound.{sound}
use Rattle.board_match.proofs.Accurately.{PlacedAt, of_answer}
use Rattle.std.specs.Prelude.{Option, Result, Ok}

pub one_square_each : SquaresRule
one_square_each s words asked p i j l h e = (sound s words asked).apart i j l h (applied-once p (cell_point s i) (cell_point s j) e)

-- ---- the output array at exit
module _ (bytes lent : List ℕ) (b : Hypothesis) (p : PlacedAt bytes lent b) where
  abbrev s : Shot
  s = shot bytes

  abbrev words : List ℕ
  words = flat_map marker_words (markers s b.alignment)

  list-is : match_list bytes lent ≡ words ++ drop (length words) lent
  list-is =
      ap (λ (o : Maybe Shot). left_list o lent) (parse-whole bytes (passed bytes p.whole))
      ∙ ap (λ (o : Maybe Refusal). at_exit o (flat_map marker_words (markers_of s)) lent) p.passes_all
      ∙ ap (λ (c : Option Hypothesis). in_front (flat_map marker_words (markers_with s c)) lent) p.is
      ∙ front_is words lent
      (omega (arith, all_words (markers s b.alignment), one_per_cell s b.alignment, (sound s (length lent) p.asked).room))

  ids : (m : Match) → ◌≡◌ {A = (Result Match Refusal)} (Ok (match_of s b)) (Ok m) → AllDifferent m.markers (id_in (match_list bytes lent))
  ids m e =
      let same : match_of s b ≡ m = cc in
      subst (λ (x : Match). AllDifferent x.markers (id_in (match_list bytes lent))) same
      (subst (λ (xs : List ℕ). AllDifferent (length (markers s b.alignment)) (id_in xs)) (sym list-is)
      (ids_differ s b.alignment (sound s (length lent) p.asked).apart (drop (length words) lent)))

pub different_ids : IdsRule
different_ids bytes lent small m =
    of_answer bytes lent small (λ a. a ≡ Ok m → AllDifferent m.markers (id_in (match_list bytes lent)))
    (λ r e. absurd (grind arith)) (λ b p. ids bytes lent b p m)
