-- `emit::words::marker_words` meets its contract: word by word, from what each call returns. Assumes nothing.
use mathlib.Core.Path.{◌≡◌, ap, ap₂, ◌∙◌}
use mathlib.Core.List.{List, [], ◌∷◌}
use Prim.Native.Nat.{ℕ, ◌/◌, ◌%◌, ◌^◌}
use native.Mathlib.Omega.{arith}
use lib.IntN.{ℤ}
use lib.Ieee.{Float}
use mir.Syntax.{w16, w32}
use mir.Val.{to_z, of_z}
use mir.ValLaws.{to_z-of_z}
use Rattle.grid_alignment.specs.declared.Coord.{Coord}
use Rattle.grid_alignment.specs.Alignment.{point, corner, rect_corners}
use Rattle.emit.specs.Markers.{corner_word, marker_words}
use Rattle.emit.proofs.words.marker_words.Goals as goal

-- a word of a corner point
at : {l m : List (List Float)} → l ≡ m → (k axis : ℕ) → corner_word l k axis ≡ corner_word m k axis
at e k axis = ap (λ (l : List (List Float)). corner_word l k axis) e

pub returns : goal.returns
unfolding marker_words
returns s =
    let x = s.args in
    let c = x.c in
    let p = s.rotate_gc_top_left-top_left.result in
    let u : to_z w16 (of_z w16 c.u) ≡ c.u = to_z-of_z w16 c.u (record { sfits = omega arith }) in
    let v : to_z w16 (of_z w16 c.v) ≡ c.v = to_z-of_z w16 c.v (record { sfits = omega arith }) in
    let top : p ≡ corner c.turn (point c.u c.v) =
    s.rotate_gc_top_left-top_left.ensures ∙ ap₂ (λ (u v : ℤ). corner c.turn (point u v)) u v in
    let rects : s.cell_rect_corners_at-corners.result ≡ rect_corners c.u c.v x.px_per_square =
    s.cell_rect_corners_at-corners.ensures ∙ ap₂ (λ (u v : ℤ). rect_corners u v x.px_per_square) u v in
    λ i.
    c.cell
    ∷ c.id
    ∷ (s.cast_unsigned.ensures ∙ ap (of_z w32) (to_z-of_z w32 p.u (record { sfits = omega arith }) ∙ ap (λ (q : Coord). q.u) top)) i
    ∷ (s.cast_unsigned-2.ensures ∙ ap (of_z w32) (to_z-of_z w32 p.v (record { sfits = omega arith }) ∙ ap (λ (q : Coord). q.v) top)) i
    ∷ c.turn % 4
    ∷ s.differing_bits.ensures i
    ∷ x.read % 2 ^ 32
    ∷ x.read / 2 ^ 32
    ∷ s.to_bits.ensures i
    ∷ s.to_bits-2.ensures i
    ∷ (s.to_bits-3.ensures ∙ at rects 0 0) i
    ∷ (s.to_bits-4.ensures ∙ at rects 0 1) i
    ∷ (s.to_bits-5.ensures ∙ at rects 1 0) i
    ∷ (s.to_bits-6.ensures ∙ at rects 1 1) i
    ∷ (s.to_bits-7.ensures ∙ at rects 2 0) i
    ∷ (s.to_bits-8.ensures ∙ at rects 2 1) i
    ∷ (s.to_bits-9.ensures ∙ at rects 3 0) i
    ∷ (s.to_bits-10.ensures ∙ at rects 3 1) i
    ∷ []
