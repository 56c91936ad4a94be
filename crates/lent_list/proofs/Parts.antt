-- The elements of a sublist are those of the list. Assumes nothing.
use mathlib.Core.Path.{◌≡◌, ◌∙◌}
use mathlib.Core.List.{List}
use Prim.Native.Nat.{ℕ, ◌+◌, ◌<◌}
use lib.ListN.{drop, get_or}
use lib.Seq.{get_or-take, get_or-drop}
use Rattle.lent_list.specs.Parts.{part}

pub get_d_part : (at n : ℕ) (list : List ℕ) (i : ℕ) → i < n → get_or (part at n list) i 0 ≡ get_or list (at + i) 0
get_d_part at n list i l = get_or-take n (drop at list) i 0 l ∙ get_or-drop at list i 0
