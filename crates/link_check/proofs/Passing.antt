-- Following the links of a marker skips no link that repeats one of them. Assumes nothing.
use mathlib.Core.Path.{◌≡◌, sym, ap, ◌∙◌}
use mathlib.Core.Bool.{Bool, false, ◌&&◌, cond}
use mathlib.Core.List.{List, [], ◌∷◌}
use Prim.Native.Nat.{ℕ, ◌+◌, ◌-◌}
use native.Mathlib.Omega.{arith}
use Rattle.lent_list.specs.Front.{up_to}
use Rattle.lent_list.proofs.Front.{up_to-same}
use Rattle.link_check.specs.declared.LinkViolationKind.TheVariants.{DuplicateCorner}
use Rattle.link_check.specs.declared.chains.By.TheVariants.{Marker}
use Rattle.link_check.specs.Links.{link_corner, names, repeated}
use Rattle.link_check.specs.Violations.{of_link, repeat_at}
use Rattle.link_check.proofs.Chained.{Walked}

module _ (links : List ℕ) (m : ℕ) (four : List ℕ) where
  other-marker : (k : ℕ) → names links m k ≡ false → repeat_at links m four k ≡ []
  other-marker k e =
      ap (λ (b : Bool). cond (b && repeated links k) (of_link DuplicateCorner m (link_corner links k) four ∷ []) []) e

  pub passed_over : (n i j : ℕ) → Walked Marker links n m 0 i j → up_to (repeat_at links m four) j ≡ up_to (repeat_at links m four) i
  passed_over n i j w =
      let e : i + (j - i) ≡ j = omega (arith, w.from) in
      ap (up_to (repeat_at links m four)) (sym e)
      ∙ up_to-same (repeat_at links m four) i (j - i) (λ l h g. other-marker l (w.passed l h (omega (arith, e, g))))
