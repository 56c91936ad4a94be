-- A restated record encodes the restated shot, passes the board's questions again, and differs only in its map byte and its first codes. Assumes nothing.
use mathlib.Core.Path.{◌≡◌, refl, sym, ap, ap₂, ◌∙◌, subst}
use mathlib.Core.Logic.{inl, inr}
use mathlib.Core.Bool.{Bool, true, false, not, cond, ◌&&◌}
use mathlib.Core.List.{List, ◌++◌}
use mathlib.Core.Option.{none}
use Prim.Native.Nat.{ℕ, zero, suc, ◌+◌, ◌-◌, ◌*◌, ◌^◌, ◌≤◌, ◌<◌}
use native.Mathlib.Nat.{mul-le-mul, lt_of_lt_of_le}
use native.Mathlib.Omega.{arith}
use lib.Dec.{T, ltb, eqb, ltb→lt, nltb→le}
use lib.ListN.{length, get_or, drop, get_or-append}
use lib.Pow.{pow_mono}
use lib.Seq.{get_or-append-add, get_or-take, get_or-drop}
use borrow.Author.Tests.{eqb-true, not-false}
use Rattle.lent_list.specs.Parts.{part}
use Rattle.matcher.specs.Codes.{bit, turned}
use Rattle.matcher.proofs.Turns.{turned-below}
use Rattle.board.specs.Layout.{marker_total}
use Rattle.board.specs.Questions.{board_of, asked_of_board}
use Rattle.board.proofs.Asked.{asked}
use Rattle.shot_record.specs.Fields.{byte, map_byte, codes_at}
use Rattle.score_matrix.specs.Table.{patterns}
use Rattle.shot_record.specs.Shots.{Shot, list, default_margin, default_threshold, default_px, default_least_weight, shot}
use Rattle.shot_record.specs.Answers.{spec_of}
use Rattle.shot_record.specs.Writing.{Bytes, Fit, WrittenShot, bytes_of}
use Rattle.shot_record.proofs.Whole.{Whole, parse-whole, parsed}
use Rattle.shot_record.proofs.Sequences.{list_all, all_append, all_take, all_drop, each_bytes}
use Rattle.shot_record.proofs.Laws.{kept_default, read_back, written_back}
use Rattle.legacy_record.specs.Restated.{is_even, new_code, reversed_codes, reversed_count, restated}
use Rattle.legacy_record.specs.Restating.{without_flag, restated_bytes}
use Rattle.legacy_record.specs.Rules.{OfBoard, MayDiffer, Restates, RestatesRule}
use Rattle.legacy_record.proofs.Codes.{reversed_length, none_reversed}
use Rattle.legacy_record.proofs.Bytes.{flag_apart, flag_cleared, new_bytes, new_bytes_lem, head-size, codes-size, same_size}
use Rattle.legacy_record.proofs.Again.{at_most, board_again}

-- ---- a record without the flag
module _ (bytes : List ℕ) (s : Shot) (w : WrittenShot bytes s) (u : s.legacy_pattern ≡ false) where
  same_map : without_flag (map_byte bytes) ≡ map_byte bytes
  same_map =
      let clear = eqb-true (bit (map_byte bytes) 4) 0 (not-false _ (sym w.fits.legacy ∙ u)) in
      omega (arith, clear)

  same_codes : reversed_codes s.bits (reversed_count s) s.codes ≡ s.codes
  same_codes =
      ap (λ (t : Bool). reversed_codes s.bits (cond (t && is_even s.rows) (marker_total (board_of (spec_of s))) 0) s.codes) u
      ∙ none_reversed s.bits s.codes

  same-shot : restated s ≡ s
  same-shot =
      λ i.
      record {
        minimum_margin = s.minimum_margin;
        border_threshold = s.border_threshold;
        px_per_square = s.px_per_square;
        table = s.table;
        least_weight = s.least_weight;
        rows = s.rows;
        cols = s.cols;
        bits = s.bits;
        border = s.border;
        legacy_pattern = sym u i;
        cell_size = s.cell_size;
        marker_size_rel = s.marker_size_rel;
        codes = same_codes i;
        cells = s.cells;
      }

  pub unchanged : restated_bytes bytes s ≡ bytes
  unfolding restated_bytes
  unchanged = ap₂ bytes_of same_map same-shot ∙ sym w.same

-- ---- every record whose board passes its questions
module _ (bytes : List ℕ) (b : Bytes bytes) (w : Whole bytes) where
  abbrev s : Shot
  s = shot bytes

  abbrev m : ℕ
  m = map_byte bytes

  before : WrittenShot bytes s
  before = written_back bytes b s (parse-whole bytes w)

  module _ (e : asked_of_board (spec_of s) s.codes none ≡ none) where
    abbrev few : reversed_count s ≤ length s.codes
    few = at_most s none e

    abbrev head : List ℕ
    head = part 1 (codes_at bytes - 1) bytes

    abbrev first : List ℕ
    first = new_bytes bytes b w

    abbrev tail : List ℕ
    tail = drop (codes_at bytes + 8 * reversed_count s) bytes

    new-below : Bytes (restated_bytes bytes s)
    new-below =
        subst Bytes (sym (new_bytes_lem bytes b w few)) (
          omega (arith, before.fits.map),
          all_append (λ (x : ℕ). x < 256) head (first ++ tail)
              (all_take (λ (x : ℕ). x < 256) (codes_at bytes - 1) (drop 1 bytes) (all_drop (λ (x : ℕ). x < 256) 1 bytes b))
              (all_append (λ (x : ℕ). x < 256) first tail (each_bytes 8 (list (new_code s.bits (reversed_count s) s.codes) (reversed_count s))) (all_drop (λ (x : ℕ). x < 256) (codes_at bytes + 8 * reversed_count s) bytes b)),
        )

    code_fits : (c : ℕ) → turned s.bits 2 c < 2 ^ 64
    code_fits c =
        let bits = (asked (spec_of s) s.codes none e).0.sized.in_range.bits in
        lt_of_lt_of_le (turned-below s.bits 2 c) (pow_mono {j = 64} (mul-le-mul {n₂ = 8} {m₂ = 8} bits bits))

    new-fits : Fit (without_flag m) (restated s)
    unfolding restated_bytes
    new-fits =
        let f = before.fits in
        let n = reversed_count s in
        record {
          map = omega (arith, f.map);
          margin = f.margin;
          margin_default = kept_default m (without_flag m) 0 s.minimum_margin default_margin (flag_apart m 0 tt) f.margin_default;
          threshold = f.threshold;
          threshold_default = kept_default m (without_flag m) 1 s.border_threshold default_threshold (flag_apart m 1 tt) f.threshold_default;
          px = f.px;
          px_default = kept_default m (without_flag m) 2 s.px_per_square default_px (flag_apart m 2 tt) f.px_default;
          table = f.table;
          table_size = f.table_size;
          table_default = kept_default m (without_flag m) 3 s.table patterns (flag_apart m 3 tt) f.table_default;
          least_weight_is = f.least_weight_is;
          least_weight_default = kept_default m (without_flag m) 5 s.least_weight default_least_weight (flag_apart m 5 tt) f.least_weight_default;
          rows = f.rows;
          cols = f.cols;
          bits = f.bits;
          border = f.border;
          legacy = sym (ap (λ (x : ℕ). not (eqb x 0)) (flag_cleared m));
          cell_size_is = f.cell_size_is;
          marker_size = f.marker_size;
          code_count_is = rw (reversed_length s.bits n s.codes few) f.code_count_is;
          codes =
              all_append (λ (x : ℕ). x < 2 ^ 64) (list (new_code s.bits n s.codes) n) (drop n s.codes)
              (list_all (λ (x : ℕ). x < 2 ^ 64) (new_code s.bits n s.codes) n (λ k h. code_fits (get_or s.codes (n - 1 - k) 0)))
              (all_drop (λ (x : ℕ). x < 2 ^ 64) n s.codes f.codes);
          cell_count_is = f.cell_count_is;
          cells = f.cells;
          size = subst (λ (k : ℕ). k ≤ 65535) (sym (same_size bytes b w few)) w.size;
        }

    new_record : OfBoard (restated_bytes bytes s) (restated s)
    unfolding restated_bytes
    new_record = record { below = new-below; parses = read_back (without_flag m) (restated s) new-fits; board = board_again s e }

    -- ---- the bytes that do not differ
    in_head : (i : ℕ) → i < codes_at bytes - 1 → get_or (head ++ (first ++ tail)) i 0 ≡ byte (suc i) bytes
    in_head i h =
        let place : 1 + i ≡ suc i = omega arith in
        get_or-append head (first ++ tail) 0 i (omega (arith, h, head-size bytes b w few))
        ∙ get_or-take (codes_at bytes - 1) (drop 1 bytes) i 0 h ∙ get_or-drop 1 bytes i 0 ∙ ap (λ (k : ℕ). byte k bytes) place

    in_tail : (i : ℕ) → codes_at bytes + 8 * reversed_count s ≤ suc i → get_or (head ++ (first ++ tail)) i 0 ≡ byte (suc i) bytes
    in_tail i h =
        let past = codes_at bytes + 8 * reversed_count s in
        let j = suc i - past in
        let place : i ≡ length head + (length first + j) = omega (arith, h, head-size bytes b w few, codes-size bytes b w few) in
        let there : past + j ≡ suc i = omega (arith, h) in
        ap (λ (k : ℕ). get_or (head ++ (first ++ tail)) k 0) place
        ∙ get_or-append-add head (first ++ tail) (length first + j) 0 ∙ get_or-append-add first tail j 0
        ∙ get_or-drop past bytes j 0 ∙ ap (λ (k : ℕ). byte k bytes) there

    same_bytes : (i : ℕ) → (MayDiffer bytes s i → ⊥) → byte i (restated_bytes bytes s) ≡ byte i bytes
    same_bytes zero out = absurd (out (inl refl))
    same_bytes (suc i) out = ap (byte (suc i)) (new_bytes_lem bytes b w few) ∙ go (ltb i (codes_at bytes - 1)) (ltb (suc i) past) (ltb→lt _ _) (nltb→le _ _) (ltb→lt _ _) (nltb→le _ _)
      where
        past : ℕ
        past = codes_at bytes + 8 * reversed_count s

        go : (x y : Bool) → (T x → i < codes_at bytes - 1) → (T (not x) → codes_at bytes - 1 ≤ i) → (T y → suc i < past) → (T (not y) → past ≤ suc i)
            → get_or (head ++ (first ++ tail)) i 0 ≡ byte (suc i) bytes
        go true y lt ge lt' ge' = in_head i (lt tt)
        go false true lt ge lt' ge' = absurd (out (inr (omega (arith, ge tt), lt' tt)))
        go false false lt ge lt' ge' = in_tail i (ge' tt)

    restates : Restates bytes s
    restates =
        record {
          new = new_record;
          size = same_size bytes b w few;
          others = same_bytes;
          once = unchanged (restated_bytes bytes s) (restated s) (written_back (restated_bytes bytes s) new-below (restated s) new_record.parses) refl;
          without_flag_is = unchanged bytes s before;
        }

pub restates_rule : RestatesRule
restates_rule bytes s o =
    let p = parsed bytes s o.parses in
    subst (λ (x : Shot). asked_of_board (spec_of x) x.codes none ≡ none → Restates bytes x) p.1 (restates bytes o.below p.0) o.board
