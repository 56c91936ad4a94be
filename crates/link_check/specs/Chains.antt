-- Hash chains over the links, with keys below 4,096, in one list: index b has the first link with key b, index 4,096 + k the next link after k
-- with k's key.
use Rattle.std.specs.Prelude.{ℕ, ◌+◌, ◌*◌, ◌%◌, ◌≤◌, ◌<◌, ◌≡◌, Bool, List, length, get_or}
use Rattle.link_check.specs.declared.chains.By.{By}
use Rattle.link_check.specs.declared.chains.By.TheVariants.{Marker, MarkerAndCorner}
use Rattle.link_check.specs.Links.{link_marker, link_corner, names, reports}

-- the key (hash) of a marker, or of a marker and a corner
abbrev pub key_for : By → ℕ → ℕ → ℕ
key_for Marker m c = 61 * m % 4096
key_for MarkerAndCorner m c = (61 * m + c) % 4096

abbrev pub key_of : By → List ℕ → ℕ → ℕ
key_of by links k = key_for by (link_marker links k) (link_corner links k)

-- link j has the marker and, unless it is ignored, the corner
abbrev pub links_to : By → List ℕ → ℕ → ℕ → ℕ → Bool
links_to Marker links m c j = names links m j
links_to MarkerAndCorner links m c j = reports links m c j

-- r is the first of the links from i to n − 1 that has key b, or n
pub record LeastFrom (κ : ℕ → ℕ) (n b i r : ℕ) : Type 0 where
  pub from : i ≤ r
  pub most : r ≤ n
  pub passed : (j : ℕ) → i ≤ j → j < r → κ j ≡ b → ⊥
  pub has : r < n → κ r ≡ b

-- the links from k to n − 1 are chained
pub record ChainedFrom (κ : ℕ → ℕ) (n k : ℕ) (chain : List ℕ) : Type 0 where
  pub long : length chain ≡ 8192
  pub heads : (b : ℕ) → b < 4096 → LeastFrom κ n b k (get_or chain b 0)
  pub tails : (i : ℕ) → k ≤ i → i < n → LeastFrom κ n (κ i) (i + 1) (get_or chain (4096 + i) 0)

abbrev pub Chained : (ℕ → ℕ) → ℕ → List ℕ → Type 0
Chained κ n chain = ChainedFrom κ n 0 chain
