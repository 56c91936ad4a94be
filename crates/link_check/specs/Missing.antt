-- The missing corners of an expected marker, as the inner functions hand them on.
use Rattle.std.specs.Prelude.{ℕ, List, [], ◌∷◌, length, get_or}
use Rattle.link_check.specs.declared.words.Missing.{Missing}

-- padded with 0
abbrev pub padded : List ℕ → Missing
padded ms = record { count = length ms; corners = get_or ms 0 0 ∷ get_or ms 1 0 ∷ get_or ms 2 0 ∷ get_or ms 3 0 ∷ [] }
