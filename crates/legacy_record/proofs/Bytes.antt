-- The bytes of a restated record: the map byte without the flag, the head as it was, the new codes, and the rest as it was. Assumes nothing.
use mathlib.Core.Path.{◌≡◌, sym, ap, ap₂, ◌∙◌}
use mathlib.Core.Bool.{not}
use mathlib.Core.List.{List, [], ◌∷◌, ◌++◌, append_assoc}
use Prim.Native.Nat.{ℕ, zero, suc, ◌+◌, ◌-◌, ◌*◌, ◌/◌, ◌%◌, ◌^◌, ◌≤◌, ◌<◌}
use native.Mathlib.Nat.{div-div-eq-div-mul}
use native.Mathlib.Omega.{arith}
use lib.Dec.{T, eqb}
use lib.ListN.{length, take, drop, length-append, length-take, length-drop}
use lib.Pow.{pow-add}
use lib.Seq.{drop-drop}
use Rattle.matcher.specs.Codes.{bit}
use Rattle.lent_list.specs.Parts.{part}
use Rattle.shot_record.specs.Fields.{map_byte, codes_at, cell_count_at}
use Rattle.shot_record.specs.Shots.{Shot, list, shot}
use Rattle.shot_record.specs.Writing.{little_endian, joined, each, head_fields, code_bytes, cell_fields, bytes_of, Bytes}
use Rattle.shot_record.proofs.Reading.{code_count_is}
use Rattle.shot_record.proofs.Lists.{length-list}
use Rattle.shot_record.proofs.Sequences.{each-length, each_append, each-drop}
use Rattle.shot_record.proofs.Whole.{Whole}
use Rattle.shot_record.proofs.WrittenBack as written
use Rattle.shot_record.proofs.Sections.{joined_append, sections}
use Rattle.shot_record.proofs.Whole.{parse-whole}
use Rattle.legacy_record.specs.Restated.{new_code, reversed_count, restated}
use Rattle.legacy_record.specs.Restating.{without_flag, restated_bytes}
use Rattle.legacy_record.proofs.Codes.{reversed_length}

-- ---- the other bits of a map byte stay
pub flag_apart : (m k : ℕ) → T (not (eqb k 4)) → bit (without_flag m) k ≡ bit m k
flag_apart m zero h = omega arith
flag_apart m (suc zero) h = omega arith
flag_apart m (suc (suc zero)) h = omega arith
flag_apart m (suc (suc (suc zero))) h = omega arith
flag_apart m (suc (suc (suc (suc zero)))) h = absurd h
flag_apart m (suc (suc (suc (suc (suc k))))) h =
    let above : without_flag m / 32 ≡ m / 32 = omega arith in
    ap (λ (x : ℕ). x % 2) (split (without_flag m) ∙ ap (λ (x : ℕ). x / 2 ^ k) above ∙ sym (split m))
  where
    split : (x : ℕ) → x / 2 ^ suc (suc (suc (suc (suc k)))) ≡ x / 32 / 2 ^ k
    split x =
        let five : suc (suc (suc (suc (suc k)))) ≡ 5 + k = omega arith in
        ap (λ (n : ℕ). x / 2 ^ n) five ∙ ap (λ (d : ℕ). x / d) (pow-add 2 5 k) ∙ sym (div-div-eq-div-mul x 32 (2 ^ k))

pub flag_cleared : (m : ℕ) → bit (without_flag m) 4 ≡ 0
flag_cleared m = omega arith

-- the bytes after the first, of those before an offset
after_first : (bytes : List ℕ) (c m : ℕ) (rest : List ℕ) → 0 < c → take c bytes ≡ m ∷ rest → part 1 (c - 1) bytes ≡ rest
after_first [] c m rest h e = absurd (omega (arith, ap length e, length-take {A = ℕ} c []))
after_first (b ∷ bs) zero m rest h e = absurd (omega arith)
after_first (b ∷ bs) (suc c) m rest h e = let less : suc c - 1 ≡ c = omega arith in ap (λ (k : ℕ). take k bs) less ∙ ap (drop 1) e

module _ (bytes : List ℕ) (b : Bytes bytes) (w : Whole bytes) where
  abbrev s : Shot
  s = shot bytes

  abbrev m : ℕ
  m = map_byte bytes

  abbrev n : ℕ
  n = reversed_count s

  abbrev pub new_bytes : List ℕ
  new_bytes = each (little_endian 8) (list (new_code s.bits n s.codes) n)

  module _ (h : n ≤ length s.codes) where
    pub inside : codes_at bytes + 8 * n ≤ length bytes
    unfolding cell_count_at
    inside = omega (arith, (written.cell_count_is bytes b w).inside, code_count_is bytes, h)

    -- the head
    head : joined (head_fields (without_flag m) (restated s)) ≡ without_flag m ∷ part 1 (codes_at bytes - 1) bytes
    head =
        rw (
          flag_apart m 0 tt,
          flag_apart m 1 tt,
          flag_apart m 2 tt,
          flag_apart m 3 tt,
          flag_apart m 5 tt,
          reversed_length s.bits n s.codes h,
        )
        (ap (λ (l : List ℕ). without_flag m ∷ l)
        (sym (after_first bytes (codes_at bytes) m (drop 1 (joined (head_fields m s))) (omega arith) (sections bytes b s (parse-whole bytes w)).head)))

    -- the rest, from the first code that keeps its place on
    rest : each (little_endian 8) (drop n s.codes) ++ joined (cell_fields s.cells) ≡ drop (codes_at bytes + 8 * n) bytes
    rest =
        sym (each-drop 8 n s.codes (joined (cell_fields s.cells)) h)
        ∙ ap (drop (8 * n)) (sym (written.codes bytes b w).holds) ∙ drop-drop (8 * n) (codes_at bytes) bytes

    pub new_bytes_lem : restated_bytes bytes s
        ≡ without_flag m ∷ (part 1 (codes_at bytes - 1) bytes ++ (new_bytes ++ drop (codes_at bytes + 8 * n) bytes))
    unfolding restated_bytes bytes_of
    new_bytes_lem =
        joined_append (head_fields (without_flag m) (restated s)) (code_bytes (restated s) ∷ cell_fields s.cells)
        ∙ ap₂ (λ (x y : List ℕ). x ++ y) head
        (ap (λ (x : List ℕ). x ++ joined (cell_fields s.cells)) (each_append 8 (list (new_code s.bits n s.codes) n) (drop n s.codes))
        ∙ append_assoc new_bytes (each (little_endian 8) (drop n s.codes)) (joined (cell_fields s.cells))
        ∙ ap (λ (x : List ℕ). new_bytes ++ x) rest)

    pub codes-size : length new_bytes ≡ 8 * n
    codes-size = each-length 8 (list (new_code s.bits n s.codes) n) ∙ ap (λ (k : ℕ). 8 * k) (length-list (new_code s.bits n s.codes) n)

    pub head-size : length (part 1 (codes_at bytes - 1) bytes) ≡ codes_at bytes - 1
    head-size = omega (arith, inside, length-take (codes_at bytes - 1) (drop 1 bytes), length-drop 1 bytes)

    pub same_size : length (restated_bytes bytes s) ≡ length bytes
    same_size =
        ap length new_bytes_lem
        ∙ omega (
          arith,
          inside,
          length-append (part 1 (codes_at bytes - 1) bytes) (new_bytes ++ drop (codes_at bytes + 8 * n) bytes),
          length-append new_bytes (drop (codes_at bytes + 8 * n) bytes),
          head-size,
          codes-size,
          length-drop (codes_at bytes + 8 * n) bytes,
        )
