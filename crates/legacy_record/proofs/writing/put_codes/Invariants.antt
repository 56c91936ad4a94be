-- `legacy_record::writing::put_codes` meets its contract. The loop's invariant: the codes so far are written. Assumes nothing.
use mathlib.Core.List.{List, [], ◌∷◌, flat_map}
use Prim.Native.Nat.{ℕ}
use Rattle.lent_list.specs.Front.{up_to, Put}
use Rattle.shot_record.specs.Writing.{little_endian}
use Rattle.legacy_record.specs.Restated.{new_code}
use Rattle.legacy_record.proofs.writing.put_codes.Given as goal

abbrev pub one : ℕ → ℕ → List ℕ → ℕ → List ℕ
one bits n codes k = new_code bits n codes k ∷ []

abbrev pub invariant-loop-k : goal.invariant-loop-k
invariant-loop-k l = Put l.initial.sheet l.sheet l.at l.next (flat_map (little_endian 8) (up_to (one l.bits l.n l.codes) l.k))
