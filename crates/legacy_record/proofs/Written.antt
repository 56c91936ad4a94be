-- The codes and the sections of the new record, as the functions write them. Assumes nothing.
use mathlib.Core.Path.{◌≡◌, refl, sym, ap, ap₂, ◌∙◌}
use mathlib.Core.Logic.{◌⊎◌, inl, inr}
use mathlib.Core.Bool.{Bool, cond}
use mathlib.Core.Option.{none}
use mathlib.Core.List.{List, [], ◌∷◌, ◌++◌, append-nil, append_assoc, flat_map}
use Prim.Native.Nat.{ℕ, zero, suc, ◌+◌, ◌-◌, ◌*◌, ◌≤◌, ◌<◌}
use native.Mathlib.Nat.{mul-le-mul}
use native.Mathlib.Omega.{arith}
use lib.ListN.{length, get_or, take, drop, length-drop}
use lib.Seq.{take_all}
use borrow.Author.Tests.{le-leb}
use Rattle.matcher.specs.Codes.{turned, turned_word}
use Rattle.lent_list.specs.Front.{in_front, up_to, Put}
use Rattle.lent_list.proofs.Front.{put_as, put_length, put_more, put_front, flat_map_length}
use Rattle.board.specs.declared.Board.{Board}
use Rattle.board.specs.Layout.{marker_total}
use Rattle.board.specs.Questions.{board_of, asked_of_board}
use Rattle.board.proofs.Laws.{same_count}
use Rattle.board.proofs.Asked.{Asked, made, made_if}
use Rattle.shot_record.specs.declared.record.Record.{Record}
use Rattle.shot_record.specs.Fields.{map_byte, codes_at}
use Rattle.shot_record.specs.Shots.{Shot, list, shot}
use Rattle.shot_record.specs.Answers.{spec_of}
use Rattle.shot_record.specs.Writing.{little_endian, each, Bytes}
use Rattle.shot_record.proofs.Records.{found_in}
use Rattle.shot_record.proofs.Whole.{Whole, passed}
use Rattle.shot_record.proofs.Lists.{length-list, get_d_list, last_listed, list_as}
use Rattle.shot_record.proofs.LittleEndian.{le_length, all_bytes}
use Rattle.legacy_record.specs.Restated.{new_code, reversed_on, reversed_count}
use Rattle.legacy_record.specs.Restating.{without_flag, restated_bytes}
use Rattle.legacy_record.specs.Inner.{Restatable}
use Rattle.legacy_record.proofs.Bytes as new
use Rattle.legacy_record.proofs.Again.{either, at_most}

-- ---- one element after the other
one_by_one : (f : ℕ → ℕ) (n : ℕ) → up_to (λ (k : ℕ). f k ∷ []) n ≡ list f n
unfolding up_to list
one_by_one f zero = refl
one_by_one f (suc n) = ap (λ (l : List ℕ). l ++ (f n ∷ [])) (one_by_one f n) ∙ sym (last_listed f n)

flat_each : (g : ℕ → List ℕ) (xs : List ℕ) → flat_map g xs ≡ each g xs
unfolding flat_map
flat_each g [] = refl
flat_each g (x ∷ xs) = ap (λ (l : List ℕ). g x ++ l) (flat_each g xs)

module _ (f : ℕ → ℕ) (n : ℕ) where
  pub all_listed : flat_map (little_endian 8) (up_to (λ (k : ℕ). f k ∷ []) n) ≡ each (little_endian 8) (list f n)
  all_listed = ap (flat_map (little_endian 8)) (one_by_one f n) ∙ flat_each (little_endian 8) (list f n)

  pub listed_size : length (flat_map (little_endian 8) (up_to (λ (k : ℕ). f k ∷ []) n)) ≡ 8 * n
  listed_size =
      flat_map_length (little_endian 8) 8 (le_length 8) (up_to (λ (k : ℕ). f k ∷ []) n)
      ∙ ap (λ (k : ℕ). 8 * k) (ap length (one_by_one f n) ∙ length-list f n)

pub one_code : (x : ℕ) → little_endian 8 x ≡ flat_map (little_endian 8) (x ∷ [])
unfolding flat_map
one_code x = sym (append-nil (little_endian 8 x))

-- ---- a code as the library turns it
pub turned-code : (bits n k r : ℕ) (codes : List ℕ) → bits ≤ 8 → r ≡ turned_word bits 2 (get_or codes (n - 1 - k) 0) → r ≡ new_code bits n codes k
turned-code bits n k r codes h e =
    e ∙ ap (λ (t : Bool). cond t (turned bits 2 (get_or codes (n - 1 - k) 0)) 0) (le-leb bits 8 h)

-- ---- a record whose board passed its questions
module _ (read : Record) (board : Board) (codes : List ℕ) (r : Restatable read.bytes.now board codes) where
  abbrev bytes : List ℕ
  bytes = read.bytes.now

  abbrev s : Shot
  s = shot bytes

  abbrev b : Bytes bytes
  b = all_bytes bytes read.small

  abbrev w : Whole bytes
  w = passed bytes r.whole

  abbrev passes : Asked (spec_of s) s.codes
  passes = (made (spec_of s) s.codes board r.made).0

  board-is : board ≡ board_of (spec_of s)
  board-is = (made (spec_of s) s.codes board r.made).1

  pub bits-few : board.bits ≤ 8
  bits-few = rw board-is passes.sized.in_range.bits

  count_is : reversed_on board ≡ reversed_count s
  count_is = ap reversed_on board-is

  few : reversed_count s ≤ length s.codes
  few = at_most s none (made_if (asked_of_board (spec_of s) s.codes none) (spec_of s) board r.made).0

  in_array : reversed_count s ≤ 512
  in_array = go (either (board_of (spec_of s)))
    where
      go : (reversed_count s ≡ marker_total (board_of (spec_of s))) ⊎ (reversed_count s ≡ 0) → reversed_count s ≤ 512
      go (inl all) =
          let size = passes.sized.in_range in
          omega (arith, all, same_count (board_of (spec_of s)), mul-le-mul {n₂ = 32} {m₂ = 32} size.rows size.cols)
      go (inr none_is) = omega (arith, none_is)

  pub codes_at_lem : read.fields.rows_at + 14 ≡ codes_at bytes
  codes_at_lem = ap (λ (k : ℕ). k + 14) (found_in read).rows_at

  map_is : read.fields.map ≡ map_byte bytes
  map_is = (found_in read).map

  module _ (n : ℕ) (e : n ≡ reversed_on board) where
    same-count_of-codes : n ≡ reversed_count s
    same-count_of-codes = e ∙ count_is

    pub count-few : n ≤ 512
    count-few = omega (arith, same-count_of-codes, in_array)

    pub reach : codes_at bytes + 8 * n ≤ length bytes
    reach = omega (arith, new.inside bytes b w few, same-count_of-codes)

    -- the codes are read from the array of the first 512
    same_code : (k : ℕ) → k < n → new_code board.bits n codes k ≡ new_code s.bits n s.codes k
    same_code k h =
        ap₂ (λ (m c : ℕ). turned m 2 c) (ap (λ (x : Board). x.bits) board-is)
        (ap (λ (l : List ℕ). get_or l (n - 1 - k) 0) r.first_codes_is
        ∙ get_d_list (λ (j : ℕ). get_or s.codes j 0) 512 (n - 1 - k) 0 (omega (arith, h, count-few)))

    codes_are : each (little_endian 8) (list (new_code board.bits n codes) n) ≡ new.new_bytes bytes b w
    codes_are =
        ap (each (little_endian 8)) (list_as (new_code board.bits n codes) (new_code s.bits n s.codes) n same_code)
        ∙ ap (λ (m : ℕ). each (little_endian 8) (list (new_code s.bits m s.codes) m)) same-count_of-codes

    module _ {lent l₁ : List ℕ} {i₁ : ℕ} (room : length bytes ≤ length lent) (p₁ : Put lent l₁ 0 i₁ (without_flag read.fields.map ∷ [])) where
      pub first-place : i₁ ≡ 1
      first-place = omega (arith, p₁.end)

      pub first-long : length l₁ ≡ length lent
      first-long = put_length p₁ (omega arith) (omega (arith, first-place, room, reach))

      module _ {l₂ : List ℕ} {i₂ : ℕ} (p₂ : Put l₁ l₂ i₁ i₂ (take (read.fields.rows_at + 14 - i₁) (drop i₁ bytes))) where
        head-is : take (read.fields.rows_at + 14 - i₁) (drop i₁ bytes) ≡ take (codes_at bytes - 1) (drop 1 bytes)
        head-is = ap₂ (λ (a i : ℕ). take (a - i) (drop i bytes)) codes_at_lem first-place

        pub second-place : i₂ ≡ codes_at bytes
        second-place = omega (arith, p₂.end, first-place, ap length head-is, new.head-size bytes b w few)

        pub second-long : length l₂ ≡ length l₁
        second-long = put_length p₂ (omega (arith, first-place, first-long, room, reach)) (omega (arith, second-place, first-long, room, reach))

        module _ {l₃ : List ℕ} {i₃ : ℕ} (p₃ : Put l₂ l₃ i₂ i₃ (each (little_endian 8) (list (new_code board.bits n codes) n))) where
          pub third_place : i₃ ≡ codes_at bytes + 8 * n
          third_place = omega (arith, p₃.end, second-place, ap length codes_are, new.codes-size bytes b w few, same-count_of-codes)

          tail_is : take (length bytes - i₃) (drop i₃ bytes) ≡ drop (codes_at bytes + 8 * reversed_count s) bytes
          tail_is =
              take_all (length bytes - i₃) (drop i₃ bytes) (omega (arith, length-drop i₃ bytes))
              ∙ ap (λ (k : ℕ). drop k bytes) (third_place ∙ ap (λ (m : ℕ). codes_at bytes + 8 * m) same-count_of-codes)

          pub all_put : {l₄ : List ℕ} {i₄ : ℕ} → Put l₃ l₄ i₃ i₄ (take (length bytes - i₃) (drop i₃ bytes)) → l₄ ≡ in_front (restated_bytes bytes s) lent
          all_put {l₄} {i₄} p₄ =
              let m = without_flag (map_byte bytes) ∷ [] in
              let head = take (codes_at bytes - 1) (drop 1 bytes) in
              let first = new.new_bytes bytes b w in
              let tail = drop (codes_at bytes + 8 * reversed_count s) bytes in
              let two = put_more (put_as (ap (λ (x : ℕ). without_flag x ∷ []) map_is) p₁) (omega arith) (put_as head-is p₂) in
              let three = put_more two (omega arith) (put_as codes_are p₃) in
              let four = put_more three (omega arith) (put_as tail_is p₄) in
              let whole = append_assoc (m ++ head) first tail ∙ append_assoc m head (first ++ tail) ∙ sym (new.new_bytes_lem bytes b w few) in
              put_front (omega (arith, four.end, ap length whole, new.same_size bytes b w few, room)) (put_as whole four)
