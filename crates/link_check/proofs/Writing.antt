-- A violation has twelve words. Assumes nothing.
use mathlib.Core.Path.{◌≡◌, refl}
use mathlib.Core.List.{List}
use Prim.Native.Nat.{◌*◌}
use lib.ListN.{length}
use Rattle.lent_list.proofs.Front.{flat_map_length}
use Rattle.link_check.specs.Violations.{Violation, violation_words, words_of_violations}

pub words-length : (vs : List Violation) → length (words_of_violations vs) ≡ 12 * length vs
words-length vs = flat_map_length violation_words 12 (λ v. refl) vs
