-- Document 02, 2.4, as a law of the reader: the grid of cell k does not change under any change of bytes outside it that keeps header, counts and
-- cell map.
use Rattle.std.specs.Prelude.{◌≡◌, List, ℕ, ◌≤◌, ◌<◌, length}
use Rattle.shot_record.specs.declared.cells.Part.{Part}
use Rattle.shot_record.specs.Fields.{byte, codes_at, cell_count_at, cells_at}
use Rattle.shot_record.specs.Shots.{parse}
use Rattle.shot_record.specs.Answers.{grid_answer, part_answer}

-- the same bytes between two offsets
abbrev pub SameBetween : ℕ → ℕ → List ℕ → List ℕ → Type 0
SameBetween first end a b = (i : ℕ) → first ≤ i → i < end → byte i a ≡ byte i b

-- Equal length, equal header and code count, which are all bytes before the codes, equal cell count and cell map. Codes and cells may differ.
pub record SameOutline (a b : List ℕ) : Type 0 where
  pub size : length a ≡ length b
  pub header : SameBetween 0 (codes_at a) a b
  pub map : SameBetween (cell_count_at a) (cells_at a) a b

-- the byte range of the grid of cell k
abbrev pub part_of : List ℕ → ℕ → Part
part_of bytes k = part_answer bytes (parse bytes) k

-- the byte range and the grid in it are unchanged
pub record SamePart (a b : List ℕ) (k : ℕ) : Type 0 where
  pub place : part_of b k ≡ part_of a k
  pub grid : grid_answer (parse b) k ≡ grid_answer (parse a) k

abbrev pub UnchangedRule : Type 0
UnchangedRule = (a b : List ℕ) → SameOutline a b → (k : ℕ) → SameBetween (part_of a k).first (part_of a k).end a b → SamePart a b k
