-- `hypothesis::framing::turn_of` meets its contract. Assumes nothing.
use mathlib.Core.Path.{◌≡◌, ap, ◌∙◌}
use Prim.Native.Nat.{ℕ, ◌+◌, ◌-◌}
use native.Mathlib.Omega.{arith}
use lib.IntN.{ℤ}
use Rattle.integers.proofs.Words.{word, word-is}
use Rattle.hypothesis.specs.declared.Frame.{Frame}
use Rattle.hypothesis.specs.declared.framing.Turn.{Turn}
use Rattle.hypothesis.specs.Extremes.{frame_by}
use Rattle.hypothesis.proofs.framing.turn_of.Goals as goal

abbrev with : ℕ → ℤ → ℤ → ℕ → ℕ → Turn
with r u v n d = record { turn = r; u = u; v = v; across = n; down = d }

same : (r : ℕ) (u v x y : ℤ) (n d m e : ℕ) → u ≡ x → v ≡ y → n ≡ m → d ≡ e → with r u v n d ≡ with r x y m e
same r u v x y n d m e p q a b = cc

pub returns : goal.returns
returns c =
    let f = frame_by c.args.turn c.args.sides in
    let h = c.frame-frame.result in
    let b = c.args.board in
    let e = c.frame-frame.ensures in
    same c.args.turn (word h.u) (word h.v) f.u f.v _ _ _ _
    (word-is f.u (ap (λ (x : Frame). x.u) e) (omega (arith, c.requires.0)))
    (word-is f.v (ap (λ (x : Frame). x.v) e) (omega (arith, c.requires.1)))
    (c.moves-across.ensures ∙ ap (λ (x : Frame). b.cols + 1 - x.width) e)
    (c.moves-down.ensures ∙ ap (λ (x : Frame). b.rows + 1 - x.height) e)
