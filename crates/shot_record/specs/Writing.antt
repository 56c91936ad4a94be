-- The encoding of a shot, field after field (document 01, "The shot record"), and the laws that relate it to parsing.
use Rattle.std.specs.Prelude.{◌≡◌, ℕ, zero, suc, ◌+◌, ◌*◌, ◌/◌, ◌%◌, ◌^◌, ◌≤◌, ◌<◌, List, [], ◌∷◌, ◌++◌, map, length, get_or, take, drop}
use Rattle.std.proofs.Math.Option.{Option, none, some}
use Rattle.std.specs.Int.{w16}
use Rattle.std.proofs.Common.{SFits, of_z}
use Rattle.matcher.specs.Codes.{bit, from_bits}
use Rattle.score_matrix.specs.Table.{patterns}
use Rattle.shot_record.specs.Fields.{map_byte, is_set, code_count, codes_at, cell_count_at, map_size, grid_size}
use Rattle.shot_record.specs.Shots.{Sample, Cell, Shot, default_margin, default_threshold, default_px, default_least_weight, parse}

-- a number as n bytes, little-endian
unfoldable pub little_endian : ℕ → ℕ → List ℕ
little_endian zero x = []
little_endian (suc n) x = x % 256 ∷ little_endian n (x / 256)

-- a field with a presence flag
abbrev pub if_set : ℕ → List ℕ → List ℕ
if_set zero field = []
if_set (suc b) field = field

abbrev pub joined : List (List ℕ) → List ℕ
joined [] = []
joined (field ∷ fields) = field ++ joined fields

abbrev pub each : {A : Type 0} → (A → List ℕ) → List A → List ℕ
each f xs = joined (map f xs)

-- the cell map, lowest bit first, 1 where sampled
abbrev pub is_sampled : Option Sample → ℕ
is_sampled none = 0
is_sampled (some s) = 1

abbrev pub marks : List Cell → ℕ → ℕ
marks cells k = get_or (map (λ (c : Cell). is_sampled c.sample) cells) k 0

abbrev pub map_bytes : List Cell → List ℕ
map_bytes cells = little_endian (map_size (length cells)) (from_bits (marks cells) (length cells))

-- u and v and, if sampled, fraction, threshold byte, grid
abbrev pub sample_bytes : Option Sample → List ℕ
sample_bytes none = []
sample_bytes (some s) = little_endian 4 s.fraction ++ (s.threshold ∷ s.grid)

abbrev pub cell_bytes : Cell → List ℕ
cell_bytes c = little_endian 2 (of_z w16 c.u) ++ (little_endian 2 (of_z w16 c.v) ++ sample_bytes c.sample)

-- The record of a shot with a map byte, in three sections: the bytes before the codes, the codes, the cells.
abbrev pub head_fields : ℕ → Shot → List (List ℕ)
head_fields m s =
    (m ∷ [])
    ∷ if_set (bit m 0) (little_endian 4 s.minimum_margin)
    ∷ if_set (bit m 1) (little_endian 4 s.border_threshold)
    ∷ if_set (bit m 2) (little_endian 4 s.px_per_square)
    ∷ if_set (bit m 3) (each (little_endian 4) s.table)
    ∷ if_set (bit m 5) (little_endian 4 s.least_weight)
    ∷ (s.rows ∷ s.cols ∷ s.bits ∷ s.border ∷ [])
    ∷ little_endian 4 s.cell_size
    ∷ little_endian 4 s.marker_size_rel
    ∷ little_endian 2 (length s.codes)
    ∷ []

abbrev pub code_bytes : Shot → List ℕ
code_bytes s = each (little_endian 8) s.codes

abbrev pub cell_fields : List Cell → List (List ℕ)
cell_fields cells = little_endian 2 (length cells) ∷ map_bytes cells ∷ each cell_bytes cells ∷ []

unfoldable pub bytes_of : ℕ → Shot → List ℕ
bytes_of m s = joined (head_fields m s ++ (code_bytes s ∷ cell_fields s.cells))

-- ---- which shots a record can encode

abbrev pub All : {A : Type 0} → (A → Type 0) → List A → Type 0
All P [] = Unit
All P (x ∷ xs) = P x × All P xs

abbrev pub Bytes : List ℕ → Type 0
Bytes = All (λ (x : ℕ). x < 256)

-- a setting whose flag is 0 has its default
abbrev pub Default : {A : Type 0} → ℕ → A → A → Type 0
Default zero x default = x ≡ default
Default (suc b) x default = Unit

pub record FitSample (grid : ℕ) (s : Sample) : Type 0 where
  pub fraction : s.fraction < 2 ^ 32
  pub threshold : s.threshold < 256
  pub size : length s.grid ≡ grid
  pub greys : Bytes s.grid

abbrev pub IfSampled : ℕ → Option Sample → Type 0
IfSampled grid none = Unit
IfSampled grid (some s) = FitSample grid s

pub record FitCell (grid : ℕ) (c : Cell) : Type 0 where
  pub u : SFits w16 c.u
  pub v : SFits w16 c.v
  pub sample : IfSampled grid c.sample

pub record Fit (m : ℕ) (s : Shot) : Type 0 where
  pub map : m < 64
  pub margin : s.minimum_margin < 2 ^ 32
  pub margin_default : Default (bit m 0) s.minimum_margin default_margin
  pub threshold : s.border_threshold < 2 ^ 32
  pub threshold_default : Default (bit m 1) s.border_threshold default_threshold
  pub px : s.px_per_square < 2 ^ 32
  pub px_default : Default (bit m 2) s.px_per_square default_px
  pub table : All (λ (x : ℕ). x < 2 ^ 32) s.table
  pub table_size : length s.table ≡ 511
  pub table_default : Default (bit m 3) s.table patterns
  pub least_weight_is : s.least_weight < 2 ^ 32
  pub least_weight_default : Default (bit m 5) s.least_weight default_least_weight
  pub rows : s.rows < 256
  pub cols : s.cols < 256
  pub bits : s.bits < 256
  pub border : s.border < 256
  -- the flag is bit 4 of the map byte, which `bytes_of` is given, so that it is not written twice
  pub legacy : s.legacy_pattern ≡ is_set m 4
  pub cell_size_is : s.cell_size < 2 ^ 32
  pub marker_size : s.marker_size_rel < 2 ^ 32
  pub code_count_is : length s.codes < 65536
  pub codes : All (λ (x : ℕ). x < 2 ^ 64) s.codes
  pub cell_count_is : length s.cells < 65536
  pub cells : All (FitCell (grid_size s.bits s.border)) s.cells
  pub size : length (bytes_of m s) ≤ 65535

-- parsing the encoding of a shot returns the shot
abbrev pub ReadBack : Type 0
ReadBack = (m : ℕ) (s : Shot) → Fit m s → parse (bytes_of m s) ≡ some s

-- a well-formed record is the encoding of its shot, which fits
pub record WrittenShot (bytes : List ℕ) (s : Shot) : Type 0 where
  pub fits : Fit (map_byte bytes) s
  pub same : bytes ≡ bytes_of (map_byte bytes) s

abbrev pub WrittenBack : Type 0
WrittenBack = (bytes : List ℕ) → Bytes bytes → (s : Shot) → parse bytes ≡ some s → WrittenShot bytes s

-- The sections of a well-formed record: the bytes before its codes encode the head, and those after its codes the cells.
pub record Sections (bytes : List ℕ) (s : Shot) : Type 0 where
  pub head : take (codes_at bytes) bytes ≡ joined (head_fields (map_byte bytes) s)
  pub codes : take (8 * code_count bytes) (drop (codes_at bytes) bytes) ≡ code_bytes s
  pub cells : drop (cell_count_at bytes) bytes ≡ joined (cell_fields s.cells)

abbrev pub SectionsRule : Type 0
SectionsRule = (bytes : List ℕ) → Bytes bytes → (s : Shot) → parse bytes ≡ some s → Sections bytes s

-- Document 02, 2.8: "Without the bit the least weight is 0." With the bit and 0 a record encodes the same shot.
pub record LeastWeightLeftOut (m : ℕ) (s : Shot) : Type 0 where
  pub clear : bit m 5 ≡ 0
  pub fits : Fit m s
  pub room : length (bytes_of (m + 32) s) ≤ 65535

abbrev pub ZeroLeastWeight : Type 0
ZeroLeastWeight = (m : ℕ) (s : Shot) → LeastWeightLeftOut m s → parse (bytes_of (m + 32) s) ≡ parse (bytes_of m s)

-- parsing is injective: two records with the same shot and the same map byte are equal
abbrev pub OneToOne : Type 0
OneToOne = (a b : List ℕ) → Bytes a → Bytes b → (s : Shot) → parse a ≡ some s → parse b ≡ some s → map_byte a ≡ map_byte b → a ≡ b
