-- Sublists.
use Rattle.std.specs.Prelude.{◌≡◌, List, ℕ, ◌≤◌, take, drop, get_or}

-- n elements from index `at` on
abbrev pub part : {A : Type 0} → ℕ → ℕ → List A → List A
part at n list = take n (drop at list)

-- unchanged from index n on; d is the value past the end
abbrev pub KeptFrom : {A : Type 0} → A → ℕ → List A → List A → Type 0
KeptFrom d n before after = (i : ℕ) → n ≤ i → get_or after i d ≡ get_or before i d
