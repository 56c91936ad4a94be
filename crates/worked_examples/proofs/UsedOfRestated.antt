-- Laws of a legacy shot and the shot restated that no other proof cites, at a small board. Assumes nothing.
use mathlib.Core.Path.{◌≡◌, refl, sym, ap, ap₂, subst, ◌∙◌}
use mathlib.Core.Logic.{inl, inr}
use mathlib.Core.Bool.{Bool, true, false, false≢true}
use mathlib.Core.List.{List, [], ◌∷◌, ◌++◌, map, flat_map, reverse}
use mathlib.Core.Option.{Option, none, some, none-ne-some, some-injective}
use Prim.Native.Nat.{ℕ, zero, suc, ◌+◌, ◌-◌, ◌*◌, ◌≤◌, ◌<◌}
use native.Mathlib.Omega.{arith}
use lib.Dec.{lit<}
use lib.IntN.{ℤ, pos, ◌-ℤ◌}
use lib.ListN.{length, take, drop, get_or, get_elem?, get_or-append}
use lib.Ieee.{of_bits, of_int, neg, add, sub, mul, div, le, lt, eq}
use borrow.Author.Tests.{le-leb}
use Rattle.refusal.specs.declared.Refusal.{Refusal}
use Rattle.refusal.proofs.Questions.{rest_asked}
use Rattle.integers.specs.Least.{least_to, greatest_to}
use Rattle.integers.specs.Tests.{every, any_below}
use Rattle.floats.specs.Units.{sum_to}
use Rattle.matcher.specs.Codes.{from_bits, source}
use Rattle.grid_alignment.specs.declared.GridAlignment.{GridAlignment}
use Rattle.grid_alignment.specs.Alignment.{sends, lowest_point}
use Rattle.lent_list.specs.Front.{at_exit, up_to}
use Rattle.lent_list.proofs.Front.{front_is}
use Rattle.board.specs.Numbering.{count_passing, number_at, number_atℤ}
use Rattle.board.specs.Layout.{inner, parity_of, corner_count, marker_total}
use Rattle.board.specs.Questions.{asked_of_size, asked_of_board}
use Rattle.board.proofs.Laws.{corners}
use Rattle.board.proofs.Surroundings.{inner-corner}
use Rattle.score_matrix.specs.Table.{patterns}
use Rattle.shot_record.specs.Fields.{map_byte, number, threshold_at, px_at, table_at, least_weight_at, rows_at, cell_count_at, cell_map, cell_at}
use Rattle.shot_record.specs.Shots.{Sample, Shot, list, whole_record, parse}
use Rattle.shot_record.specs.Answers.{spec_of}
use Rattle.shot_record.specs.Writing.{little_endian, bytes_of}
use Rattle.shot_record.proofs.LittleEndian.{all_bytes}
use Rattle.ranking.specs.declared.Hypothesis.{Hypothesis}
use Rattle.ranking.specs.Greatest.{lies_below, first_greatest, rest}
use Rattle.hypothesis.specs.Placements.{frame, with_turns_below, placements}
use Rattle.hypothesis.specs.Evidence.{board_in, expected, contributed, reported, exact, capacity}
use Rattle.hypothesis.specs.Search.{hypothesis, best, runner_up}
use Rattle.hypothesis.specs.Accuracy.{Placement}
use Rattle.emit.specs.Markers.{emitted, marker_words, id_in}
use Rattle.board_match.specs.declared.Match.{Match}
use Rattle.board_match.specs.Questions.{asked_from9, asked_of_shot, asked_before15}
use Rattle.board_match.specs.Match.{markers_of, asked_from15, refused_by, match_of, match_answer, match_list}
use Rattle.board_match.proofs.Order.{shot_goes_on}
use Rattle.corner_mapping.specs.Corners.{MappedCorner, corner_words}
use Rattle.legacy_record.specs.Restated.{restated}
use Rattle.legacy_record.specs.Restating.{restated_bytes}
use Rattle.legacy_record.specs.Rules.{MayDiffer}
use Rattle.legacy_record.proofs.Laws.{restates_rule}
use Rattle.half_turn.specs.Pairs.{TurnedByHalf, paired, from_last}
use Rattle.half_turn.specs.Markers.{paired_marker}
use Rattle.half_turn.specs.Corners.{paired_mapped}
use Rattle.half_turn.specs.Ties.{Untied, NoTies}
use Rattle.half_turn.specs.Answers.{paired_match, paired_answer, OldAndNew}
use Rattle.half_turn.proofs.Pairs.{pair_rule}
use Rattle.half_turn.proofs.Results.{mapped_rule, corner_words_lem}
use Rattle.half_turn.proofs.Answers.{restated_rule, list_rule, answers_rule}
use Rattle.worked_examples.specs.Table.{align, showing}
use Rattle.worked_examples.specs.Uses.{legacy_shot, current_shot, current_record, result, OfRestated}
use Rattle.worked_examples.proofs.UsedOfRecords.{small_bytes}
use Rattle.std.specs.Prelude.{Some, Ok}

-- ---- the two records
abbrev old : Shot
old = legacy_shot

is-restated : restated old ≡ current_shot
unfolding legacy_shot current_shot list from_bits source parity_of count_passing
is-restated = refl

by_half : TurnedByHalf old
unfolding legacy_shot
by_half = record { legacy = refl; even_rows = refl; odd_cols = refl }

old_parses : parse (bytes_of 16 old) ≡ some old
unfolding legacy_shot bytes_of little_endian from_bits number threshold_at px_at table_at least_weight_at rows_at cell_count_at cell_map cell_at list whole_record parse
old_parses = refl

old_board : asked_of_board (spec_of old) old.codes none ≡ none
unfolding legacy_shot asked_of_board asked_of_size any_below from_bits source parity_of count_passing of_bits le lt eq
old_board = refl

-- ---- the four placements of the legacy shot
places : placements old ≡ align 0 (pos 0) (pos 0) ∷ align 0 (pos 0) (pos 1) ∷ align 2 (pos 2) (pos 0) ∷ align 2 (pos 2) (pos 1) ∷ []
unfolding legacy_shot placements with_turns_below list frame least_to greatest_to sends
places = refl

among : (P : GridAlignment → Type 0) → P (align 0 (pos 0) (pos 0)) → P (align 0 (pos 0) (pos 1)) → P (align 2 (pos 2) (pos 0)) → P (align 2 (pos 2) (pos 1))
    → (q : GridAlignment) → Placement old q → P q
among P a b c d q (k, at) = go k (ap (λ (ps : List GridAlignment). get_elem? ps k) (sym places) ∙ at)
  where
    go : (k : ℕ) → get_elem? (align 0 (pos 0) (pos 0) ∷ align 0 (pos 0) (pos 1) ∷ align 2 (pos 2) (pos 0) ∷ align 2 (pos 2) (pos 1) ∷ []) k ≡ some q → P q
    go zero e = subst P (some-injective (align 0 (pos 0) (pos 0)) q e) a
    go (suc zero) e = subst P (some-injective (align 0 (pos 0) (pos 1)) q e) b
    go (suc (suc zero)) e = subst P (some-injective (align 2 (pos 2) (pos 0)) q e) c
    go (suc (suc (suc zero))) e = subst P (some-injective (align 2 (pos 2) (pos 1)) q e) d
    go (suc (suc (suc (suc k)))) e = absurd (none-ne-some q e)

abbrev ranks_below : GridAlignment → GridAlignment → Bool
ranks_below p q = lies_below (reported old p) (reported old q)

-- in order: the best, one with no evidence, the runner-up, one with no evidence
below-best : (ranks_below (align 0 (pos 0) (pos 1)) (align 0 (pos 0) (pos 0)) ≡ true)
    × (ranks_below (align 2 (pos 2) (pos 0)) (align 0 (pos 0) (pos 0)) ≡ true)
    × (ranks_below (align 2 (pos 2) (pos 1)) (align 0 (pos 0) (pos 0)) ≡ true)
unfolding legacy_shot sends reported contributed expected up_to parity_of count_passing number_at number_atℤ from_bits source patterns sum_to of_bits
    of_int neg add sub mul div le lt eq
below-best = (refl, refl, refl)

below_next : (ranks_below (align 0 (pos 0) (pos 1)) (align 2 (pos 2) (pos 0)) ≡ true) × (ranks_below (align 2 (pos 2) (pos 1)) (align 2 (pos 2) (pos 0)) ≡ true)
unfolding legacy_shot sends reported contributed expected up_to parity_of count_passing number_at number_atℤ from_bits source patterns sum_to of_bits
    of_int neg add sub mul div le lt eq
below_next = (refl, refl)

best_is : best old ≡ Some (hypothesis old (align 0 (pos 0) (pos 0)))
unfolding legacy_shot placements with_turns_below list frame least_to greatest_to sends first_greatest reported contributed expected up_to parity_of count_passing
    number_at number_atℤ from_bits source patterns sum_to of_bits of_int neg add sub mul div le lt eq
best_is = refl

next_is : runner_up old ≡ Some (hypothesis old (align 2 (pos 2) (pos 0)))
unfolding legacy_shot placements with_turns_below list frame least_to greatest_to sends first_greatest rest reported contributed expected up_to parity_of
    count_passing number_at number_atℤ from_bits source patterns sum_to of_bits of_int neg add sub mul div le lt eq
next_is = refl

placed : {a b : Hypothesis} → Some a ≡ Some b → a ≡ b
placed e = cc

no_ties : NoTies old
no_ties =
    record {
      of_best = λ b e. subst (Untied old) (placed (sym best_is ∙ e)) (among (λ q. Alone q (align 0 (pos 0) (pos 0))) (λ x y. refl)
          (λ x y. absurd (false≢true (sym x ∙ below-best.0))) (λ x y. absurd (false≢true (sym x ∙ below-best.1)))
          (λ x y. absurd (false≢true (sym x ∙ below-best.2))));
      of_runner_up = λ g e. subst (Untied old) (placed (sym next_is ∙ e)) (among (λ q. Alone q (align 2 (pos 2) (pos 0)))
          (λ x y. absurd (false≢true (sym y ∙ below-best.1))) (λ x y. absurd (false≢true (sym x ∙ below_next.0))) (λ x y. refl)
          (λ x y. absurd (false≢true (sym x ∙ below_next.1))));
    }
  where
    Alone : GridAlignment → GridAlignment → Type 0
    Alone q p = ranks_below q p ≡ false → ranks_below p q ≡ false → q ≡ p

-- ---- the match
small : (i : ℕ) → get_or (bytes_of 16 old) i 0 < 256
unfolding legacy_shot bytes_of little_endian from_bits every
small = small_bytes (bytes_of 16 old) refl

writes : restated_bytes (bytes_of 16 old) old ≡ current_record
unfolding restated_bytes bytes_of
writes = ap (bytes_of 0) is-restated

old_and_new : OldAndNew (bytes_of 16 old) current_record old
old_and_new =
    subst (λ (new : List ℕ). OldAndNew (bytes_of 16 old) new old) writes
    (restated_rule (bytes_of 16 old) old (record { below = all_bytes (bytes_of 16 old) small; parses = old_parses; board = old_board }) by_half)

passes : (words : ℕ) → 36 ≤ words → asked_before15 old words ≡ none
unfolding legacy_shot asked_of_board asked_of_size any_below from_bits source parity_of count_passing asked_from9 every patterns of_bits le lt eq
passes words room = rw (le-leb 36 words room) refl

asked : asked_from15 old ≡ none
unfolding legacy_shot asked_from15 emitted placements with_turns_below list frame least_to greatest_to sends first_greatest rest reported capacity contributed
    expected up_to parity_of count_passing number_at number_atℤ from_bits source patterns sum_to of_bits of_int neg add sub mul div le lt eq
asked = refl

not_refused : (words : ℕ) → 36 ≤ words → refused_by old words ≡ none
not_refused words room = rest_asked (asked_of_shot old words) (shot_goes_on old words) (asked_from15 old) (passes words room) ∙ asked

-- the ids in the words of the paired markers
paired_words : List ℕ
paired_words = flat_map marker_words (map (paired_marker old) (markers_of old))

ids : (length paired_words ≡ 36) × (id_in paired_words 0 ≡ 2) × (id_in paired_words 1 ≡ 1)
unfolding paired_words legacy_shot flat_map marker_words emitted placements with_turns_below list frame least_to greatest_to sends first_greatest reported
    contributed expected up_to parity_of count_passing number_at number_atℤ from_bits source patterns sum_to of_bits of_int neg add sub mul div le lt eq
ids = (refl, refl, refl)

module _ (lent : List ℕ) (room : 36 ≤ length lent) where
  m : Match
  m = paired_match old (match_of old (hypothesis old (align 0 (pos 0) (pos 0))))

  old_placed : match_answer (bytes_of 16 old) lent ≡ Ok (match_of old (hypothesis old (align 0 (pos 0) (pos 0))))
  old_placed = rw (old_parses, not_refused (length lent) room, best_is) refl

  new_match : match_answer current_record lent ≡ Ok m
  unfolding m
  new_match = answers_rule (bytes_of 16 old) current_record lent old old_and_new no_ties ∙ ap (paired_answer old) old_placed

  list-is : match_list current_record lent ≡ paired_words ++ drop (length paired_words) lent
  unfolding paired_words
  list-is =
      list_rule (bytes_of 16 old) current_record lent old old_and_new no_ties.of_best
      ∙ ap (λ (o : Option Refusal). at_exit o paired_words lent) (not_refused (length lent) room)
      ∙ front_is paired_words lent (omega (arith, ids.0, room))

  id_of_lem : (i id : ℕ) → 18 * i + 1 < 36 → id_in paired_words i ≡ id → id_in (match_list current_record lent) i ≡ id
  id_of_lem i id h e = ap (λ (ws : List ℕ). id_in ws i) list-is ∙ get_or-append paired_words _ 0 (18 * i + 1) (omega (arith, ids.0, h)) ∙ e

  corners_of_lem : m.corners ≡ align 2 (pos 3) (pos 2)
  unfolding m legacy_shot lowest_point sends
  corners_of_lem = refl

  best_of : m.best.alignment ≡ align 2 (pos 2) (pos 1)
  unfolding m legacy_shot
  best_of = refl

  evidence_of_lem : m.best.evidence ≡ reported old (align 0 (pos 0) (pos 0))
  unfolding m
  evidence_of_lem = refl

-- ---- placements of every translation
pair-at : (tx ty : ℤ) → paired old (align 1 tx ty) ≡ align 3 (pos 2 -ℤ tx) (pos 1 -ℤ ty)
unfolding legacy_shot
pair-at tx ty = refl

three : marker_total (board_in old) ≡ 3
unfolding legacy_shot parity_of count_passing
three = refl

-- ---- corners
at_p3 : (s : Shot) (first second : Option Sample) (ms : List MappedCorner) → ms ≡ result 0 2 ∷ result 1 0 ∷ []
    → reverse (map (paired_mapped (board_in (showing s 2 first second))) ms) ≡ result 10 0 ∷ result 11 2 ∷ []
unfolding count_passing
at_p3 s first second ms e = rw e refl

first-corner : (rows cols : ℕ) → 2 ≤ rows → 2 ≤ cols → number_at inner cols rows 1 1 ≡ Some 0
first-corner rows cols r c = inner-corner rows cols 1 1 (lit< tt) (lit< tt) (omega (arith, c)) (omega (arith, r)) ∙ ap Some (omega arith)

last_corner : (s : Shot) (index : ℕ) → 2 ≤ s.rows → 2 ≤ s.cols
    → take 4 (corner_words (board_in (restated s)) (result (corner_count s.rows s.cols - 1) index))
    ≡ (corner_count s.rows s.cols - 1) ∷ index ∷ (s.cols - 1) ∷ (s.rows - 1) ∷ []
last_corner s index r c =
    let last : corner_count s.rows s.cols - 1 - 0 ≡ corner_count s.rows s.cols - 1 = omega arith in
    ap (λ (id : ℕ). take 4 (corner_words (board_in (restated s)) (result id index))) (sym last)
    ∙ ap (take 4) (corner_words_lem s (result 0 index) 1 1 ((corners s.rows s.cols).place_of 1 1 0 (first-corner s.rows s.cols r c)))
    ∙ ap (λ (id : ℕ). id ∷ index ∷ (s.cols - 1) ∷ (s.rows - 1) ∷ []) last

-- byte 1 is none of those that may differ: the codes are later
second-byte : (bytes : List ℕ) (s : Shot) → MayDiffer bytes s 1 → ⊥
second-byte bytes s (inl e) = omega (arith, e)
second-byte bytes s (inr (after, before)) = omega (arith, after)

pub of_restated : OfRestated
of_restated =
    record {
      restates_rule = λ bytes s o. (
        (restates_rule bytes s o).size,
        (restates_rule bytes s o).others 1 (second-byte bytes s),
        ap map_byte (restates_rule bytes s o).once,
        λ u. ap map_byte ((restates_rule bytes s o).without_flag_is u),
      );
      answers_rule = λ lent room. (
        m lent room,
        new_match lent room,
        best_of lent room,
        evidence_of_lem lent room,
        corners_of_lem lent room,
        id_of_lem lent room 0 2 (lit< tt) ids.1,
        id_of_lem lent room 1 1 (lit< tt) ids.2,
      );
      pair_rule = λ tx ty.
          let r = pair_rule old by_half (align 1 tx ty) in (
            ap₂ exact (sym is-restated) (sym (pair-at tx ty)) ∙ r.exact,
            λ k e.
                ap₂ (λ (t : Shot) (p : GridAlignment). expected t p k) (sym is-restated) (sym (pair-at tx ty)) ∙ r.ids k
                ∙ ap₂ from_last three e,
          );
      mapped_rule = λ s first second scores grid e.
          mapped_rule (showing s 2 first second) (align 0 (pos 0) (pos 0)) scores grid ∙ at_p3 s first second _ e;
      corner_words_lem = last_corner;
    }
