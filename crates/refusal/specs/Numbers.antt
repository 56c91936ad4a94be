-- Document 01, "The questions asked", and document 02: the error number of each refusal, and its values.
use Rattle.std.specs.Prelude.{ℕ, List, [], ◌∷◌}
use Rattle.std.specs.Float.{binary32}
use Rattle.std.specs.Float.Ieee.{to_bits}
use Rattle.refusal.specs.declared.Refusal.{Refusal}
use Rattle.refusal.specs.declared.Refusal.TheVariants.{InvalidSize, InvalidCellSize, InvalidMarkerSizeRel, InvalidBorderBits, EmptyDictionary}
use Rattle.refusal.specs.declared.Refusal.TheVariants.{BoardOutOfRange, NotEnoughDictionaryCodes, CodeOutOfRange}
use Rattle.refusal.specs.declared.Refusal.TheVariants.{InvalidSettings, InvalidTable, NoCells, CellsOutOfRange, InvalidSample, ListTooShort}
use Rattle.refusal.specs.declared.Refusal.TheVariants.{TranslationWindow, Margin, NoMarkers}
use Rattle.refusal.specs.declared.Refusal.TheVariants.{CornersOutOfRange, TooManyLinks, TooManyCells, InvalidRecord, CodesAlike, RepeatedPoint}
use Rattle.refusal.specs.declared.Refusal.TheVariants.{ScoreListTooShort, EvenLegacyBoard}

-- error number: the number of the question that failed
abbrev pub number_of : Refusal → ℕ
-- Are rows and cols at least 2?
number_of InvalidSize = 1
-- Is cell_size finite and above 0?
number_of InvalidCellSize = 2
-- Is marker_size_rel finite, above 0, at most 1?
number_of InvalidMarkerSizeRel = 3
-- Is border_bits at least 1?
number_of InvalidBorderBits = 4
-- Is there a code?
number_of EmptyDictionary = 5
-- Are rows and cols at most 32, border at most 4, bits 1 to 8, codes at most 1,024?
number_of BoardOutOfRange = 6
-- Are there at least as many codes as markers?
number_of (NotEnoughDictionaryCodes needed available) = 7
-- Is every code below 2^(bits²)?
number_of CodeOutOfRange = 8
-- Are minimum margin, border threshold and px_per_square finite?
number_of InvalidSettings = 9
-- Has the table 511 entries, each from −8 to 0?
number_of InvalidTable = 10
-- Is there a cell?
number_of NoCells = 11
-- Are there at most 256, u and v each from −4,096 to 4,096?
number_of CellsOutOfRange = 12
-- Has every sampled cell a whole grid and a fraction from 0 to 1?
number_of InvalidSample = 13
-- Has the output array as many places as the entry point needs?
number_of ListTooShort = 14
-- Does some turn and translation put every cell on the board?
number_of TranslationWindow = 15
-- Is the margin not below the minimum?
number_of (Margin margin) = 16
-- Was a marker emitted?
number_of NoMarkers = 17
-- Are the corners, inliers, turn and translation in range?
number_of CornersOutOfRange = 18
-- At most 4,096 links?
number_of TooManyLinks = 19
-- At most 256 whole cells?
number_of TooManyCells = 20
-- Is the record whole?
number_of InvalidRecord = 21
-- Are no two used codes equal up to rotation?
number_of CodesAlike = 22
-- Are the grid points of the cells distinct?
number_of RepeatedPoint = 23
-- Has the score array cells × markers × 4 elements?
number_of ScoreListTooShort = 24
-- Is it no legacy board with rows and cols both even?
number_of EvenLegacyBoard = 25

-- the values of an error: 7 needed and available, 16 the margin as its bit pattern
abbrev pub values_of : Refusal → List ℕ
values_of InvalidSize = []
values_of InvalidCellSize = []
values_of InvalidMarkerSizeRel = []
values_of InvalidBorderBits = []
values_of EmptyDictionary = []
values_of BoardOutOfRange = []
values_of (NotEnoughDictionaryCodes needed available) = needed ∷ available ∷ []
values_of CodeOutOfRange = []
values_of InvalidSettings = []
values_of InvalidTable = []
values_of NoCells = []
values_of CellsOutOfRange = []
values_of InvalidSample = []
values_of ListTooShort = []
values_of TranslationWindow = []
values_of (Margin margin) = to_bits binary32 margin ∷ []
values_of NoMarkers = []
values_of CornersOutOfRange = []
values_of TooManyLinks = []
values_of TooManyCells = []
values_of InvalidRecord = []
values_of CodesAlike = []
values_of RepeatedPoint = []
values_of ScoreListTooShort = []
values_of EvenLegacyBoard = []
