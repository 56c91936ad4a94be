-- Document 02, 2.3: "two cells at one point" (duplicate position); and the points of an index.
use Rattle.std.specs.Prelude.{ℕ, ◌+◌, ◌*◌, ◌/◌, ◌%◌, ◌^◌, ◌<◌, ◌≡◌, Bool, not, ◌&&◌, List, get_or}
use Rattle.integers.specs.Distance.{same}
use Rattle.integers.specs.Tests.{every}
use Rattle.grid_alignment.specs.declared.Coord.{Coord}
use Rattle.grid_alignment.specs.Alignment.{point}
use Rattle.shot_record.specs.Index.{point_in, u_in, v_in}

abbrev pub same_point : Coord → Coord → Bool
same_point p q = same p.u q.u && same p.v q.v

-- the points of the first n places are pairwise distinct
abbrev pub all_apart : (ℕ → Coord) → ℕ → Bool
all_apart at n = every (λ (j : ℕ). every (λ (i : ℕ). not (same_point (at i) (at j))) j) n

-- ---- in an index
abbrev pub point_of : List ℕ → ℕ → Coord
point_of index k = point (u_in index k) (v_in index k)

-- the words of the first n points have 32 bits
abbrev pub SmallWords : List ℕ → ℕ → Type 0
SmallWords index n = (k : ℕ) → k < n → point_in index k < 2 ^ 32

-- 32 × (v modulo 32) + u modulo 32
abbrev pub residue_of : ℕ → ℕ
residue_of word = word / 65536 % 32 * 32 + word % 32

abbrev pub residue_in : List ℕ → ℕ → ℕ
residue_in index k = residue_of (point_in index k)

-- the first n words are those of the first n points
abbrev pub HasPoints : List ℕ → ℕ → List ℕ → Type 0
HasPoints index n words = (k : ℕ) → k < n → get_or words k 0 ≡ point_in index k
