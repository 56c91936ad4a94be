-- The log-likelihoods of the bits of a cell as a list: bit k adds entry 2 k to the score if it is 0, and entry 2 k + 1 if it is 1.
use Rattle.std.specs.Prelude.{◌≡◌, List, ℕ, zero, suc, ◌+◌, ◌*◌, ◌^◌, ◌<◌, get_or, Float}
use Rattle.std.specs.Float.{nan}
use Rattle.matcher.specs.Codes.{bit, source_bit}
use Rattle.score_matrix.specs.Scores.{Samples, likelihood}

-- l holds them for the bits below n
abbrev pub HoldsLikelihoods : List Float → Samples → ℕ → List Float → Type 0
HoldsLikelihoods table s n l = (k : ℕ) → k < n → (get_or l (2 * k) nan ≡ likelihood table s k 0) × (get_or l (2 * k + 1) nan ≡ likelihood table s k 1)

-- the value for a bit, of those for 0 and for 1
abbrev pub by_bit : ℕ → Float → Float → Float
by_bit zero clear set = clear
by_bit (suc b) clear set = set

-- the value for bit k of a code
abbrev pub picked : List Float → ℕ → ℕ → Float
picked l code k = get_or l (2 * k + bit code k) nan

-- l holds, for each bit below n of the turned code, the bit of the code that it is; and the value for such a bit
abbrev pub Sources : ℕ → ℕ → ℕ → List ℕ → Type 0
Sources bits turn n l = (k : ℕ) → k < n → get_or l k 0 ≡ source_bit bits turn k

abbrev pub picked_from : List Float → List ℕ → ℕ → ℕ → Float
picked_from l sources code k = get_or l (2 * k + bit code (get_or sources k 0)) nan

-- the code with its low half in lane x and its high half in lane x + 8
abbrev pub lane_code : List ℕ → ℕ → ℕ
lane_code lanes x = get_or lanes x 0 + 2 ^ 32 * get_or lanes (x + 8) 0
