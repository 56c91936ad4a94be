-- The contracts of the inner functions: a key is the row-major index of a grid point, and a cell's words are found by keys.
use Rattle.std.specs.Prelude.{ℕ, ◌+◌, ◌*◌, ◌/◌, ◌%◌, ◌≤◌, ◌<◌, ◌≡◌, false, cond, List, [], ◌∷◌, eqb, length, get_or, ℤ, pos, ◌-ℤ◌, Option, Some, None}
use Rattle.std.proofs.Math.Option.{Option as Maybe, none, some}
use Rattle.lent_list.specs.Front.{in_front, up_to, Put}
use Rattle.sorting.specs.Order.{Rising}
use Rattle.grid_alignment.specs.declared.Coord.{Coord}
use Rattle.grid_alignment.specs.Alignment.{point}
use Rattle.marker_sampling.specs.Cells.{Corners, stands, whole_cell, whole_at, cell_words, words_of_cells}

-- the number of columns, and of rows, from −m to m
abbrev pub key_side : ℕ → ℕ
key_side m = 2 * m + 1

-- the point u columns and v rows from (−m, −m)
abbrev pub range_point : ℕ → ℕ → ℕ → Coord
range_point m u v = point (pos u -ℤ pos m) (pos v -ℤ pos m)

-- index k is at the point of its key, and at no point out of range
pub record HasKey (m : ℕ) (c : Corners) (k key : ℕ) : Type 0 where
  pub at : (u v : ℕ) → u < key_side m → v < key_side m → stands c k (range_point m u v) ≡ eqb key (v * key_side m + u)
  pub right : (u v : ℕ) → key_side m ≤ u → stands c k (range_point m u v) ≡ false
  pub under : (u v : ℕ) → key_side m ≤ v → stands c k (range_point m u v) ≡ false
  pub most : key ≤ key_side m * key_side m
  pub small : key < key_side m * key_side m → k < c.count

-- a word of the map is inlier i's: its key, and its index in the list
pub record HasWord (m : ℕ) (c : Corners) (inliers : List ℕ) (i word : ℕ) : Type 0 where
  pub key : HasKey m c (get_or inliers i 0) (word / 1024)
  pub place : word % 1024 ≡ i

-- the map of the inliers: their words, sorted
pub record MapOf (m : ℕ) (c : Corners) (inliers map : List ℕ) : Type 0 where
  pub long : length map ≡ length inliers
  pub rising : Rising map (length map)
  pub has : (i : ℕ) → i < length inliers → (j : ℕ) × (j < length map) × HasWord m c inliers i (get_or map j 0)
  pub from : (j : ℕ) → j < length map → (i : ℕ) × (i < length inliers) × HasWord m c inliers i (get_or map j 0)

-- lower bound: the first r words are below x, and no other is
pub record LowerBound (map : List ℕ) (x r : ℕ) : Type 0 where
  pub inside : r ≤ length map
  pub below : (k : ℕ) → k < r → get_or map k 0 < x
  pub above : (k : ℕ) → r ≤ k → k < length map → x ≤ get_or map k 0

-- the first p words are below x
pub record FirstBelow (map : List ℕ) (x p : ℕ) : Type 0 where
  pub inside : p ≤ length map
  pub below : (k : ℕ) → k < p → get_or map k 0 < x

-- the first n words are those of the first n inliers, in input order
abbrev pub Filled : ℕ → Corners → List ℕ → ℕ → List ℕ → Type 0
Filled m c inliers n map = (i : ℕ) → i < n → HasWord m c inliers i (get_or map i 0)

-- what a search requires of the map: at most 1,024 inliers, sorted words, keys in bounds, indices in the list, and corner indices below
-- 1,024 if there is a grid point
pub record Searchable (m : ℕ) (inliers map : List ℕ) : Type 0 where
  pub short : length inliers ≤ 1024
  pub long : length map ≡ length inliers
  pub rising : Rising map (length map)
  pub bounded : (j : ℕ) → j < length map → get_or map j 0 / 1024 ≤ key_side m * key_side m
  pub place : (j : ℕ) → j < length map → get_or map j 0 % 1024 < length inliers
  pub small : (j : ℕ) → j < length map → get_or map j 0 / 1024 < key_side m * key_side m → get_or inliers (get_or map j 0 % 1024) 0 < 1024

-- r is from `from` to `end`, and no word's key is from `from` to r − 1
pub record Next (map : List ℕ) (end from r : ℕ) : Type 0 where
  pub least : from ≤ r
  pub most : r ≤ end
  pub passed : (j : ℕ) → j < length map → get_or map j 0 / 1024 < r → get_or map j 0 / 1024 < from

-- the Option of a program
abbrev pub in_option : Maybe ℕ → Option ℕ
in_option none = None
in_option (some k) = Some k

-- six words, if the four corners are there
abbrev pub words_at : ℤ → ℤ → Option ℕ → Option ℕ → Option ℕ → Option ℕ → Option (List ℤ)
words_at u v (Some a) (Some b) (Some c) (Some d) = Some (u ∷ v ∷ pos a ∷ pos b ∷ pos c ∷ pos d ∷ [])
words_at u v _ _ _ _ = None

-- the words of a cell, if it is whole
abbrev pub words_if_whole : Corners → List ℕ → Coord → Option (List ℤ)
words_if_whole c inliers p = cond (whole_cell c inliers p) (Some (cell_words c inliers p)) None

abbrev pub with_cell : ℕ → Option (List ℤ) → ℕ
with_cell n None = n
with_cell n (Some words) = n + 1

abbrev pub words_of : Option (List ℤ) → List ℤ
words_of None = []
words_of (Some words) = words

-- the words of a cell, if it is whole, were appended to those of n cells, if there is room; r is the number of cells then
pub record CellAdded (n : ℕ) (cell : Option (List ℤ)) (before after : List ℤ) (r : ℕ) : Type 0 where
  pub count : r ≡ with_cell n cell
  pub fits : n < 256 → Put before after (6 * n) (6 * r) (words_of cell)
  pub full : 256 ≤ n → after ≡ before

-- the number of whole cells among the first places, and their words at the start of the output array, truncated to its length
pub record Collected (m : ℕ) (c : Corners) (inliers : List ℕ) (places : ℕ) (before after : List ℤ) (n : ℕ) : Type 0 where
  pub count : n ≡ length (up_to (whole_at m c inliers) places)
  pub list : after ≡ in_front (words_of_cells c inliers (up_to (whole_at m c inliers) places)) before
