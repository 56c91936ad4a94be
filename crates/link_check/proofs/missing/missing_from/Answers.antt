-- `link_check::missing::missing_from` meets its contract. The loop's invariant: the missing ones of the first corners are listed.
-- Assumes nothing.
use mathlib.Core.Path.{◌≡◌, refl, sym, ap, ◌∙◌}
use mathlib.Core.Bool.{Bool, true, false}
use mathlib.Core.List.{List, [], ◌∷◌, ◌++◌, append_assoc, append-nil}
use Prim.Native.Nat.{ℕ, ◌+◌, ◌≤◌, ◌<◌}
use native.Mathlib.Numerals.{add-one}
use native.Mathlib.Omega.{arith}
use lib.ListN.{length, get_or, take, length-append}
use lib.Seq.{take-suc}
use borrow.Author.Rules.{rules}
use Rattle.std.proofs.lemmas.List.{length-take, take_all}
use Rattle.link_check.specs.declared.words.Missing.{Missing}
use Rattle.link_check.specs.Links.{is_reported}
use Rattle.link_check.specs.Violations.{unless, without}
use Rattle.link_check.specs.Missing.{padded}
use Rattle.link_check.proofs.missing.missing_from.Goals as goal
use Rattle.link_check.proofs.missing.missing_from.Goals.{then-not-is_reported, else-not-is_reported}

at_most_one : (b : Bool) (c : ℕ) → length (unless b c) ≤ 1
at_most_one true c = omega arith
at_most_one false c = omega arith

module _ (seen : ℕ → Bool) where
  without-append : (xs ys : List ℕ) → without seen (xs ++ ys) ≡ without seen xs ++ without seen ys
  unfolding without
  without-append [] ys = refl
  without-append (x ∷ xs) ys =
      ap (λ (l : List ℕ). unless (seen x) x ++ l) (without-append xs ys) ∙ sym (append_assoc (unless (seen x) x) (without seen xs) (without seen ys))

  without-most : (xs : List ℕ) → length (without seen xs) ≤ length xs
  unfolding without
  without-most [] = omega arith
  without-most (x ∷ xs) = omega (arith, length-append (unless (seen x) x) (without seen xs), at_most_one (seen x) x, without-most xs)

  -- one corner more
  next : (four : List ℕ) (i : ℕ) → i < length four
      → without seen (take (i + 1) four) ≡ without seen (take i four) ++ unless (seen (get_or four i 0)) (get_or four i 0)
  unfolding without
  next four i l =
      let c = get_or four i 0 in
      ap (without seen) (rw add-one (take-suc four i 0 l)) ∙ without-append (take i four) (c ∷ [])
      ∙ ap (λ (l : List ℕ). without seen (take i four) ++ l) (append-nil (unless (seen c) c))

pub with-missing-requires : goal.with-missing-requires
with-missing-requires c =
    let x = c.args in
    let i = c.loop-corner.corner-index in
    omega (
      arith,
      ap (λ (m : Missing). m.count) c.loop-corner.invariant,
      without-most (is_reported x.links.words.now x.links.count x.marker) (take i x.four),
      length-take i x.four,
    )

pub loop-corner-preserved : goal.loop-corner-preserved
loop-corner-preserved c =
    let x = c.args in
    let i = c.loop-corner.corner-index in
    let seen = is_reported x.links.words.now x.links.count x.marker in
    let corner = get_or x.four i 0 in
    let ms = without seen (take i x.four) in
    let long : length x.four ≡ 4 = search rules in
    let more : (b : Bool) → seen corner ≡ b → without seen (take (i + 1) x.four) ≡ ms ++ unless b corner =
    λ b e. next seen x.four i (omega arith) ∙ ap (λ (t : Bool). ms ++ unless t corner) e in
    (elim c.if-not-is_reported.branch [
      | then-not-is_reported w ↦
          w.missing-is ∙ w.with-missing.ensures ms c.loop-corner.invariant
          ∙ ap padded (sym (more false (sym c.is_reported.ensures ∙ w.if-not-is_reported.true)))
      | else-not-is_reported w ↦
          w.missing-is ∙ c.loop-corner.invariant
          ∙ ap padded (sym (more true (sym c.is_reported.ensures ∙ w.if-not-is_reported.false) ∙ append-nil ms))
    ])

pub returns : goal.returns
returns c =
    let x = c.args in
    let long : length x.four ≡ 4 = search rules in
    c.loop-corner.invariant ∙ ap (λ (l : List ℕ). padded (without (is_reported x.links.words.now x.links.count x.marker) l)) (take_all _ x.four (omega arith))

pub loop-corner-init : goal.loop-corner-init
unfolding without
loop-corner-init c = refl
