-- The result of a C function: a number, 0 on success and else the error number, and words in an output array.
use Rattle.std.specs.Prelude.{ℕ, ◌%◌, ◌^◌, ◌≡◌, cond, List, [], ◌∷◌, eqb, Result, Ok, Err}
use Rattle.lent_list.specs.Front.{in_front}
use Rattle.refusal.specs.declared.Refusal.{Refusal}
use Rattle.refusal.specs.Numbers.{number_of, values_of}

pub record Answer : Type 0 where
  pub number : ℕ
  pub words : List ℕ

abbrev pub worked : List ℕ → Answer
worked words = record { number = 0; words = words }

-- a count in 32 bits
abbrev pub count_word : ℕ → ℕ
count_word n = n % 2 ^ 32

abbrev pub refused : Refusal → Answer
refused r = record { number = number_of r; words = values_of r }

-- of an entry point that returns a count: of whole cells, mapped corners, violations, or bytes of a converted record
abbrev pub count_told : Result ℕ Refusal → Answer
count_told (Ok n) = worked (count_word n ∷ [])
count_told (Err r) = refused r

-- the returned number and the output array at exit are those of the result
pub record Tells (a : Answer) (r : ℕ) (lent exit : List ℕ) : Type 0 where
  pub number : r ≡ a.number
  pub values : exit ≡ in_front a.words lent

-- the number of values of an error number
abbrev pub value_count : ℕ → ℕ
value_count n = cond (eqb n 7) 2 (cond (eqb n 16) 1 0)
