-- The laws of restating (document 02, 2.7), for every record whose board passes its questions.
use Rattle.std.specs.Prelude.{◌≡◌, ◌⊎◌, false, List, ℕ, ◌+◌, ◌*◌, ◌≤◌, ◌<◌, length, Ok}
use Rattle.std.proofs.Math.Option.{none, some}
use Rattle.board.specs.Questions.{asked_of_board}
use Rattle.shot_record.specs.Fields.{byte, codes_at}
use Rattle.shot_record.specs.Shots.{Shot, parse}
use Rattle.shot_record.specs.Answers.{spec_of}
use Rattle.shot_record.specs.Writing.{Bytes}
use Rattle.legacy_record.specs.Restated.{reversed_count, restated}
use Rattle.legacy_record.specs.Restating.{restated_bytes, restate_answer}

-- a record that encodes a shot whose board passes questions 1 to 8 and 22
pub record OfBoard (bytes : List ℕ) (s : Shot) : Type 0 where
  pub below : Bytes bytes
  pub parses : parse bytes ≡ some s
  pub board : asked_of_board (spec_of s) s.codes none ≡ none

-- the bytes that may differ: the map byte, and those of the first n codes
abbrev pub MayDiffer : List ℕ → Shot → ℕ → Type 0
MayDiffer bytes s i = (i ≡ 0) ⊎ ((codes_at bytes ≤ i) × (i < codes_at bytes + 8 * reversed_count s))

-- The new record encodes the restated shot, whose board passes its questions again; it is as long as the old one, and no other byte differs.
pub record Restates (bytes : List ℕ) (s : Shot) : Type 0 where
  pub new : OfBoard (restated_bytes bytes s) (restated s)
  pub size : length (restated_bytes bytes s) ≡ length bytes
  pub others : (i : ℕ) → (MayDiffer bytes s i → ⊥) → byte i (restated_bytes bytes s) ≡ byte i bytes
  -- restating twice is restating once
  pub once : restated_bytes (restated_bytes bytes s) (restated s) ≡ restated_bytes bytes s
  -- "A sheet without the bit comes out unchanged."
  pub without_flag_is : s.legacy_pattern ≡ false → restated_bytes bytes s ≡ bytes

abbrev pub RestatesRule : Type 0
RestatesRule = (bytes : List ℕ) (s : Shot) → OfBoard bytes s → Restates bytes s

-- the number of bytes written: as many as the record has, and the output array has room for them
abbrev pub WrittenFits : Type 0
WrittenFits = (bytes lent : List ℕ) (count : ℕ) → restate_answer bytes lent ≡ Ok count → (count ≡ length bytes) × (count ≤ length lent)
