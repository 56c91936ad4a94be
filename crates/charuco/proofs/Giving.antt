-- The values of an error, and equal results. Assumes nothing.
use mathlib.Core.Path.{◌≡◌, refl, subst}
use mathlib.Core.List.{List, [], ◌∷◌}
use Prim.Native.Nat.{ℕ}
use lib.ListN.{take, get_or}
use Rattle.refusal.specs.declared.Refusal.{Refusal}
use Rattle.refusal.specs.declared.Refusal.TheVariants as refusal
use Rattle.refusal.specs.Numbers.{number_of, values_of}
use Rattle.charuco.specs.Answers.{Answer, value_count, Tells}

-- the first of two values, as many as the error number has, are those of the error
pub values-are : (r : Refusal) → take (value_count (number_of r)) (get_or (values_of r) 0 0 ∷ get_or (values_of r) 1 0 ∷ []) ≡ values_of r
-- BEGIN generated values-are
values-are refusal.InvalidSize = refl
values-are refusal.InvalidCellSize = refl
values-are refusal.InvalidMarkerSizeRel = refl
values-are refusal.InvalidBorderBits = refl
values-are refusal.EmptyDictionary = refl
values-are refusal.BoardOutOfRange = refl
values-are (refusal.NotEnoughDictionaryCodes needed available) = refl
values-are refusal.CodeOutOfRange = refl
values-are refusal.InvalidSettings = refl
values-are refusal.InvalidTable = refl
values-are refusal.NoCells = refl
values-are refusal.CellsOutOfRange = refl
values-are refusal.InvalidSample = refl
values-are refusal.ListTooShort = refl
values-are refusal.TranslationWindow = refl
values-are (refusal.Margin margin) = refl
values-are refusal.NoMarkers = refl
values-are refusal.CornersOutOfRange = refl
values-are refusal.TooManyLinks = refl
values-are refusal.TooManyCells = refl
values-are refusal.InvalidRecord = refl
values-are refusal.CodesAlike = refl
values-are refusal.RepeatedPoint = refl
values-are refusal.ScoreListTooShort = refl
values-are refusal.EvenLegacyBoard = refl

-- END generated values-are

-- equal results have equal numbers and words
pub telling : {a b : Answer} {r : ℕ} {lent exit : List ℕ} → a ≡ b → Tells a r lent exit → Tells b r lent exit
telling {a} {b} {r} {lent} {exit} e t = subst (λ (x : Answer). Tells x r lent exit) e t
