-- Laws of records and matches that no other proof cites, at two small records. Assumes nothing.
use mathlib.Core.Path.{◌≡◌, refl, sym, subst, ◌∙◌}
use mathlib.Core.Bool.{true, false}
use mathlib.Core.List.{List, [], ◌∷◌}
use mathlib.Core.Logic.{◌⊎◌, inl, inr}
use mathlib.Core.Option.{none, some, some-ne-none}
use Prim.Native.Nat.{ℕ, ◌+◌, ◌-◌, ◌≤◌, ◌<◌}
use native.Mathlib.Nat.{zero-add, add-sub_of_le}
use native.Mathlib.Omega.{arith}
use lib.Dec.{eqb, ltb, lit<, lit≤}
use lib.IntN.{ℤ, pos}
use lib.ListN.{length, take, drop, get_or, replicate, get_or-eq_default}
use lib.Ieee.{of_bits, of_int, neg, add, sub, mul, div, le, lt, eq}
use mir.Syntax.{w16}
use mir.Val.{SFits}
use borrow.Author.Tests.{eqb-true, ltb-true, le-leb}
use Rattle.refusal.proofs.Questions.{rest_asked}
use Rattle.integers.specs.Least.{least_to, greatest_to}
use Rattle.integers.specs.Tests.{every, any_below}
use Rattle.integers.proofs.Distances.{lt_or_le}
use Rattle.integers.proofs.Tests.{each}
use Rattle.floats.specs.Units.{sum_to}
use Rattle.matcher.specs.Codes.{from_bits, source}
use Rattle.grid_alignment.specs.declared.GridAlignment.{GridAlignment}
use Rattle.grid_alignment.specs.Alignment.{point, sends, applied, corner}
use Rattle.lent_list.specs.Front.{up_to}
use Rattle.board.specs.Numbering.{count_passing, number_at, number_atℤ}
use Rattle.board.specs.Layout.{parity_of}
use Rattle.board.specs.Questions.{asked_of_size, asked_of_board}
use Rattle.score_matrix.specs.Scores.{read_code}
use Rattle.score_matrix.specs.Table.{patterns}
use Rattle.shot_record.specs.Fields.{byte, map_byte, number, threshold_at, px_at, table_at, least_weight_at, rows_at, codes_at, code_count, cell_count_at, cell_map, cell_at, sample_place, threshold_from, grid_from}
use Rattle.shot_record.specs.Shots.{Shot, list, whole_record, parse, default_margin}
use Rattle.shot_record.specs.Answers.{grid_answer}
use Rattle.shot_record.specs.Writing.{little_endian, joined, cell_fields, bytes_of, Bytes, Fit, Sections}
use Rattle.shot_record.specs.Unchanged.{SameBetween, SameOutline, part_of}
use Rattle.shot_record.proofs.LittleEndian.{all_bytes}
use Rattle.shot_record.proofs.Whole.{parsed, parses-whole}
use Rattle.shot_record.proofs.Laws.{read_back, written_back, one_to_one}
use Rattle.shot_record.proofs.Sections.{sections}
use Rattle.shot_record.proofs.Unchanged.{unchanged}
use Rattle.ranking.specs.Greatest.{first_greatest, rest}
use Rattle.hypothesis.specs.Placements.{frame, with_turns_below, placements}
use Rattle.hypothesis.specs.Evidence.{samples_of, expected, contributed, reported, capacity}
use Rattle.hypothesis.specs.Search.{hypothesis, best}
use Rattle.hypothesis.specs.OwnBytes.{SampledCell, SameOwn}
use Rattle.hypothesis.proofs.OwnBytes.{own_bytes}
use Rattle.emit.specs.Markers.{emitted, markers}
use Rattle.board_match.specs.Questions.{asked_from9, asked_of_shot, asked_before15}
use Rattle.board_match.specs.Match.{margin_of, minimum, asked_from15, match_of, match_answer}
use Rattle.board_match.specs.Accuracy.{Gate}
use Rattle.board_match.proofs.Order.{shot_goes_on}
use Rattle.board_match.proofs.Laws.{margin_gate}
use Rattle.board_match.proofs.Repeats.{one_square_each, different_ids}
use Rattle.corner_mapping.specs.Corners.{id_at}
use Rattle.charuco.proofs.Laws.{corners_of_match}
use Rattle.worked_examples.specs.Table.{board}
use Rattle.worked_examples.specs.Uses.{greys, two_by_two, unsampled, two_sampled, pair, demanding, elsewhere, pair_record, turned_once, OfRecords}
use Rattle.std.specs.Prelude.{Some, Ok}

-- ---- the records
-- equal bytes from an offset on, below 256, where a test of them computes
same_bytes : (a b : List ℕ) (n at to : ℕ) → every (λ (i : ℕ). eqb (get_or a (at + i) 0) (get_or b (to + i) 0)) n ≡ true
    → (i : ℕ) → i < n → get_or a (at + i) 0 ≡ get_or b (to + i) 0
same_bytes a b n at to e i l = eqb-true (get_or a (at + i) 0) (get_or b (to + i) 0) (each (λ (i : ℕ). eqb (get_or a (at + i) 0) (get_or b (to + i) 0)) n e i l)

same_between : (a b : List ℕ) (first n end : ℕ) → end ≡ first + n → every (λ (i : ℕ). eqb (get_or a (first + i) 0) (get_or b (first + i) 0)) n ≡ true
    → SameBetween first end a b
same_between a b first n end is e i l h = rw (add-sub_of_le l) at (same_bytes a b n first first e (i - first) (omega arith))

pub small_bytes : (a : List ℕ) → every (λ (i : ℕ). ltb (get_or a i 0) 256) (length a) ≡ true → (i : ℕ) → get_or a i 0 < 256
small_bytes a e i = go (lt_or_le i (length a))
  where
    go : (i < length a) ⊎ (length a ≤ i) → get_or a i 0 < 256
    go (inl l) = ltb-true (get_or a i 0) 256 (each (λ (i : ℕ). ltb (get_or a i 0) 256) (length a) e i l)
    go (inr l) = rw (get_or-eq_default a 0 l) (lit< tt)

pair_small : (i : ℕ) → get_or (pair_record 200) i 0 < 256
unfolding pair bytes_of little_endian from_bits every
pair_small = small_bytes (pair_record 200) refl

demanding-small : (i : ℕ) → get_or (bytes_of 1 demanding) i 0 < 256
unfolding demanding bytes_of little_endian from_bits every
demanding-small = small_bytes (bytes_of 1 demanding) refl

pub pair-parses : parse (pair_record 200) ≡ some (pair 200)
unfolding pair bytes_of little_endian from_bits number threshold_at px_at table_at least_weight_at rows_at cell_count_at cell_map cell_at list whole_record parse
pair-parses = refl

demanding-parses : parse (bytes_of 1 demanding) ≡ some demanding
unfolding demanding bytes_of little_endian from_bits number threshold_at px_at table_at least_weight_at rows_at cell_count_at cell_map cell_at list whole_record parse
demanding-parses = refl

elsewhere-parses : parse (bytes_of 1 elsewhere) ≡ some elsewhere
unfolding elsewhere bytes_of little_endian from_bits number threshold_at px_at table_at least_weight_at rows_at cell_count_at cell_map cell_at list whole_record parse
elsewhere-parses = refl

-- ---- 2.4
near-cell : SampledCell (pair_record 200) (pair 200) 0
unfolding pair
near-cell = record { passes = pair-parses; inside = lit< tt; sampled = some-ne-none _ }

far_cell : SampledCell (bytes_of 1 elsewhere) elsewhere 2
unfolding elsewhere
far_cell = record { passes = elsewhere-parses; inside = lit< tt; sampled = some-ne-none _ }

same-table : (pair 200).table ≡ elsewhere.table
unfolding pair elsewhere
same-table = refl

same-own : SameOwn (pair_record 200) (pair 200) 0 (bytes_of 1 elsewhere) elsewhere 2
unfolding pair elsewhere bytes_of little_endian from_bits number threshold_at px_at table_at least_weight_at rows_at cell_count_at cell_map cell_at every
same-own = record { bits = refl; border = refl; threshold = refl; greys = same_bytes (pair_record 200) (bytes_of 1 elsewhere) 16 43 92 refl }

-- a cell of any record with the first cell's own bytes
near-code : read_code (samples_of (pair 200) 0) ≡ 10
unfolding pair from_bits
near-code = refl

near-greys : (i : ℕ) → i < 16 → get_or (pair_record 200) (43 + i) 0 ≡ get_or (greys 200 10 200 10) i 0
unfolding pair bytes_of little_endian from_bits every
near-greys i l = rw (zero-add i) at (same_bytes (pair_record 200) (greys 200 10 200 10) 16 43 0 refl i l)

own_as_near : (b : List ℕ) (t : Shot) (k : ℕ) → t.bits ≡ 2 → t.border ≡ 1 → byte (threshold_from (sample_place b k)) b ≡ 100
    → ((i : ℕ) → i < 16 → byte (grid_from (sample_place b k) + i) b ≡ get_or (greys 200 10 200 10) i 0) → SameOwn (pair_record 200) (pair 200) 0 b t k
unfolding pair bytes_of little_endian from_bits number threshold_at px_at table_at least_weight_at rows_at cell_count_at cell_map cell_at
own_as_near b t k bits border threshold own =
    record { bits = sym bits; border = sym border; threshold = sym threshold; greys = λ i l. near-greys i l ∙ sym (own i l) }

table_is : (pair 200).table ≡ patterns
unfolding pair
table_is = refl

-- ---- the reader
-- the sections of the record, and the byte range of its first cell's grid
outline : (b : List ℕ) → length b ≡ 84 → SameBetween 0 15 (pair_record 200) b → SameBetween 31 34 (pair_record 200) b → SameOutline (pair_record 200) b
unfolding pair bytes_of little_endian from_bits number threshold_at px_at table_at least_weight_at rows_at cell_count_at cell_map cell_at
outline b long header map = record { size = sym long; header = header; map = map }

first_part : part_of (pair_record 200) 0 ≡ record { first = 43; end = 59 }
unfolding pair bytes_of little_endian from_bits number threshold_at px_at table_at least_weight_at rows_at cell_count_at cell_map cell_at list whole_record parse
first_part = refl

first-grid : grid_answer (parse (pair_record 200)) 0 ≡ greys 200 10 200 10
unfolding pair
first-grid = rw pair-parses refl

first-unchanged : (b : List ℕ) → length b ≡ 84 → SameBetween 0 15 (pair_record 200) b → SameBetween 31 34 (pair_record 200) b
    → SameBetween 43 59 (pair_record 200) b
    → (part_of b 0 ≡ record { first = 43; end = 59 }) × (grid_answer (parse b) 0 ≡ greys 200 10 200 10)
first-unchanged b long header map own =
    let same = unchanged (pair_record 200) b (outline b long header map) 0 (rw first_part own) in
    (same.place ∙ first_part, same.grid ∙ first-grid)

-- with another last grey of the second cell
agrees : (g : ℕ)
    → (length (pair_record g) ≡ 84) × SameBetween 0 15 (pair_record 200) (pair_record g) × SameBetween 31 34 (pair_record 200) (pair_record g)
    × SameBetween 43 59 (pair_record 200) (pair_record g)
unfolding pair bytes_of little_endian from_bits every
agrees g =
    let same = same_between (pair_record 200) (pair_record g) in
    (refl, same 0 15 15 refl refl, same 31 3 34 refl refl, same 43 16 59 refl refl)

-- ---- the sections, and parsing back
pub pair_bytes : Bytes (pair_record 200)
pair_bytes = all_bytes (pair_record 200) pair_small

pair-map : map_byte (pair_record 200) ≡ 0
unfolding bytes_of
pair-map = refl

codes_at_lem : codes_at (pair_record 200) ≡ 15
unfolding bytes_of threshold_at px_at table_at least_weight_at rows_at
codes_at_lem = refl

code_count_is : code_count (pair_record 200) ≡ 2
unfolding pair bytes_of little_endian number threshold_at px_at table_at least_weight_at rows_at
code_count_is = refl

cells_at : cell_count_at (pair_record 200) ≡ 31
unfolding cell_count_at
cells_at = rw (codes_at_lem, code_count_is) refl

parts : Sections (pair_record 200) (pair 200)
parts = sections (pair_record 200) pair_bytes (pair 200) pair-parses

pair-head : take 15 (pair_record 200) ≡ 0 ∷ 2 ∷ 2 ∷ 2 ∷ 1 ∷ 0 ∷ 0 ∷ 128 ∷ 63 ∷ 0 ∷ 0 ∷ 0 ∷ 63 ∷ 2 ∷ 0 ∷ []
unfolding pair little_endian
pair-head = rw (codes_at_lem, pair-map) at parts.head

pair-codes : take 16 (drop 15 (pair_record 200)) ≡ 1 ∷ 0 ∷ 0 ∷ 0 ∷ 0 ∷ 0 ∷ 0 ∷ 0 ∷ 3 ∷ 0 ∷ 0 ∷ 0 ∷ 0 ∷ 0 ∷ 0 ∷ 0 ∷ []
unfolding pair little_endian
pair-codes = rw (codes_at_lem, code_count_is) at parts.codes

pair-cells : drop 31 (pair_record 200) ≡ joined (cell_fields (two_sampled 200))
unfolding pair
pair-cells = rw cells_at at parts.cells

unsampled-fits : (u v : ℤ) → SFits w16 u → SFits w16 v → Fit 0 (two_by_two default_margin (unsampled u v))
unfolding pair bytes_of little_endian from_bits patterns
unsampled-fits u v fu fv =
    record {
      map = lit< tt;
      margin = lit< tt;
      margin_default = refl;
      threshold = lit< tt;
      threshold_default = refl;
      px = lit< tt;
      px_default = refl;
      table = (written_back (pair_record 200) pair_bytes (pair 200) pair-parses).fits.table;
      table_size = refl;
      table_default = refl;
      least_weight_is = lit< tt;
      least_weight_default = refl;
      rows = lit< tt;
      cols = lit< tt;
      bits = lit< tt;
      border = lit< tt;
      legacy = refl;
      cell_size_is = lit< tt;
      marker_size = lit< tt;
      code_count_is = lit< tt;
      codes = (lit< tt, (lit< tt, tt));
      cell_count_is = lit< tt;
      cells = (record { u = fu; v = fv; sample = tt }, tt);
      size = lit≤ tt;
    }

-- ---- the match
pair-passes : (words : ℕ) → 36 ≤ words → asked_before15 (pair 200) words ≡ none
unfolding pair asked_of_board asked_of_size any_below from_bits source parity_of count_passing asked_from9 every patterns of_bits le lt eq
pair-passes words room = rw (le-leb 36 words room) refl

demanding-passes : (words : ℕ) → 36 ≤ words → asked_before15 demanding words ≡ none
unfolding demanding asked_of_board asked_of_size any_below from_bits source parity_of count_passing asked_from9 every patterns of_bits le lt eq
demanding-passes words room = rw (le-leb 36 words room) refl

pair-best : best (pair 200) ≡ Some (hypothesis (pair 200) turned_once)
unfolding pair placements with_turns_below list frame least_to greatest_to sends first_greatest reported contributed expected up_to parity_of count_passing
    number_at number_atℤ from_bits source patterns sum_to of_bits of_int neg add sub mul div le lt eq
pair-best = refl

pair_asked : asked_from15 (pair 200) ≡ none
unfolding pair asked_from15 emitted placements with_turns_below list frame least_to greatest_to sends first_greatest rest reported capacity contributed expected
    up_to parity_of count_passing number_at number_atℤ from_bits source patterns sum_to of_bits of_int neg add sub mul div le lt eq
pair_asked = refl

two_markers : length (markers (pair 200) turned_once) ≡ 2
unfolding pair emitted expected sends up_to parity_of count_passing number_at number_atℤ from_bits source patterns sum_to of_bits of_int neg add sub mul div le lt eq
two_markers = refl

pair-placed : (lent : List ℕ) → 36 ≤ length lent → match_answer (pair_record 200) lent ≡ Ok (match_of (pair 200) (hypothesis (pair 200) turned_once))
pair-placed lent room =
    let n = length lent in
    let asked = rest_asked (asked_of_shot (pair 200) n) (shot_goes_on (pair 200) n) (asked_from15 (pair 200)) (pair-passes n room) ∙ pair_asked in
    rw (pair-parses, asked, pair-best) refl

apart : (p : GridAlignment) → applied p (point (pos 0) (pos 0)) ≡ applied p (point (pos 1) (pos 1)) → ⊥
unfolding pair
apart p = one_square_each (pair 200) 36 (pair-passes 36 (lit≤ tt)) p 0 1 (lit< tt) (lit< tt)

-- ---- question 16
gate : (bytes : List ℕ) (s : Shot) (words : ℕ) → ((i : ℕ) → get_or bytes i 0 < 256) → parse bytes ≡ some s → asked_before15 s words ≡ none
    → 0 < length (placements s) → Gate s words
gate bytes s words small e asked fits =
    subst (λ (x : Shot). asked_before15 x words ≡ none → 0 < length (placements x) → Gate x words) (parsed bytes s e).1
    (margin_gate bytes words small (parses-whole bytes s e))
    asked
    fits

pair_fits : 0 < length (placements (pair 200))
unfolding pair placements with_turns_below list frame least_to greatest_to sends
pair_fits = lit< tt

demanding-fits : 0 < length (placements demanding)
unfolding demanding placements with_turns_below list frame least_to greatest_to sends
demanding-fits = lit< tt

above : lt (margin_of (pair 200)) (minimum (pair 200)) ≡ false
unfolding pair placements with_turns_below list frame least_to greatest_to sends first_greatest rest reported capacity contributed expected up_to parity_of
    count_passing number_at number_atℤ from_bits source patterns sum_to of_bits of_int neg add sub mul div le lt eq
above = refl

below : lt (margin_of demanding) (minimum demanding) ≡ true
unfolding demanding placements with_turns_below list frame least_to greatest_to sends first_greatest rest reported capacity contributed expected up_to parity_of
    count_passing number_at number_atℤ from_bits source patterns sum_to of_bits of_int neg add sub mul div le lt eq
below = refl

-- ---- the corner between the two cells
between : id_at (board 2 2) (corner 5 (applied turned_once (point (pos 0) (pos 0)))) ≡ Some 0
unfolding corner sends number_atℤ number_at count_passing
between = refl

at-corner : point (pos 1) (pos 1) ≡ corner 2 (point (pos 0) (pos 0))
unfolding corner
at-corner = refl

pub of_records : OfRecords
of_records =
    record {
      own_bytes =
          let same = own_bytes (pair_record 200) (bytes_of 1 elsewhere) (pair 200) elsewhere 0 2 near-cell far_cell same-table same-own in (
            same.scores,
            same.codes,
            λ b t k read inside sampled table bits border threshold own.
                let like = own_bytes (pair_record 200) b (pair 200) t 0 k near-cell (record { passes = read; inside = inside; sampled = sampled })
                (table_is ∙ sym table) (own_as_near b t k bits border threshold own) in
                sym like.codes ∙ near-code,
          );
      unchanged = (first-unchanged, λ g. let a = agrees g in (first-unchanged (pair_record g) a.0 a.1 a.2 a.3).1);
      sections = (pair-head, pair-codes, pair-cells);
      one_to_one = λ a below read map. one_to_one a (pair_record 200) below pair_bytes (pair 200) read pair-parses (map ∙ sym pair-map);
      read_back = λ u v fu fv. read_back 0 (two_by_two default_margin (unsampled u v)) (unsampled-fits u v fu fv);
      one_square_each = apart;
      margin_gate =
          λ words room.
          let refused = gate (bytes_of 1 demanding) demanding words demanding-small demanding-parses (demanding-passes words room) demanding-fits in
          let passed = gate (pair_record 200) (pair 200) words pair_small pair-parses (pair-passes words room) pair_fits in
          (refused.number, refused.refuses below, passed.lets_pass above);
      different_ids =
          λ lent room.
          different_ids (pair_record 200) lent pair_small (match_of (pair 200) (hypothesis (pair 200) turned_once)) (pair-placed lent room) 0 1 (lit< tt)
          (rw two_markers (lit< tt));
      corners_of_match =
          let lent : List ℕ = replicate 36 0 in
          let m = match_of (pair 200) (hypothesis (pair 200) turned_once) in
          let found = corners_of_match (pair_record 200) lent pair_small m (pair-placed lent (lit≤ tt)) in
          (found.pass, found.land 2, found.ids (board 2 2) (pos 1 ∷ pos 1 ∷ pos 1 ∷ []) 0 (point (pos 0) (pos 0)) 2 refl at-corner ∙ between);
    }
