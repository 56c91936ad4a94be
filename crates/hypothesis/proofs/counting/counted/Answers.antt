-- `hypothesis::counting::counted` meets its contract. Assumes nothing.
use mathlib.Core.Path.{◌≡◌, refl, ap, ap₂, ◌∙◌}
use mathlib.Core.List.{List}
use Prim.Native.Nat.{ℕ, ◌^◌, ◌≤◌}
use native.Mathlib.Omega.{arith}
use lib.IntN.{ℤ, nat_abs, ◌-ℤ◌}
use lib.Ieee.{Float}
use mir.Syntax.{w16}
use mir.ValLaws.{to_z-of_z}
use Rattle.integers.proofs.Words.{word, word-is}
use Rattle.grid_alignment.specs.declared.Coord.{Coord}
use Rattle.grid_alignment.specs.Alignment.{point, sends}
use Rattle.grid_alignment.proofs.Entries.{sends-small}
use Rattle.score_matrix.specs.Scores.{null_score}
use Rattle.score_matrix.specs.Weights.{weight}
use Rattle.shot_record.specs.Index.{u_in, v_in, border_in}
use Rattle.hypothesis.specs.declared.Inputs.{Inputs}
use Rattle.hypothesis.specs.declared.framing.Turn.{Turn}
use Rattle.hypothesis.specs.Filling.{counted_of}
use Rattle.hypothesis.proofs.counting.counted.Goals as goal
use Rattle.hypothesis.proofs.counting.counted.Goals.{After-turned-p}

-- a small number is read back from its word
read_small : (p z : ℤ) → p ≡ z → nat_abs z ≤ 4096 → (word p ≡ z) × (nat_abs (word p) ≤ 2 ^ 29)
read_small p z e h = let w = word-is z e (omega (arith, h)) in (w, rw w (omega (arith, h)))

module _ (c : After-turned-p) where
  abbrev index : List ℕ
  index = c.args.index.now

  abbrev to : Coord
  to = sends c.args.t.turn (point (u_in index c.args.k) (v_in index c.args.k))

  is : c.turned-p.result ≡ to
  is =
      let u = c.u in
      let v = c.v in
      c.turned-p.ensures
      ∙ ap₂ (λ (x y : ℤ). sends c.args.t.turn (point x y)) (to_z-of_z w16 u.result (record { sfits = u.type_inv }) ∙ u.ensures)
      (to_z-of_z w16 v.result (record { sfits = v.type_inv }) ∙ v.ensures)

  small : (nat_abs to.u ≤ 4096) × (nat_abs to.v ≤ 4096)
  small = sends-small c.args.t.turn 4096 (point (u_in index c.args.k) (v_in index c.args.k)) c.requires.0 c.requires.1

  u : (word c.turned-p.result.u ≡ to.u) × (nat_abs (word c.turned-p.result.u) ≤ 2 ^ 29)
  u = read_small c.turned-p.result.u to.u (ap (λ (q : Coord). q.u) is) small.0

  v : (word c.turned-p.result.v ≡ to.v) × (nat_abs (word c.turned-p.result.v) ≤ 2 ^ 29)
  v = read_small c.turned-p.result.v to.v (ap (λ (q : Coord). q.v) is) small.1

  tu : (word c.args.t.u ≡ c.args.t.u) × (nat_abs (word c.args.t.u) ≤ 2 ^ 29)
  tu = read_small c.args.t.u c.args.t.u refl c.requires.2

  tv : (word c.args.t.v ≡ c.args.t.v) × (nat_abs (word c.args.t.v) ≤ 2 ^ 29)
  tv = read_small c.args.t.v c.args.t.v refl c.requires.3

-- from its parts
all : (i₀ : Inputs) (t : Turn) (index : List ℕ) (k : ℕ) (w null : Float) (i j p q : ℤ) (m n : ℕ) (r : Coord) → r ≡ sends t.turn (point (u_in index k) (v_in index k))
    → p ≡ r.u → q ≡ r.v → i ≡ t.u → j ≡ t.v → m ≡ nat_abs (p -ℤ i) → n ≡ nat_abs (q -ℤ j) → w ≡ weight i₀.config (border_in index k)
    → null ≡ null_score i₀.board.bits
    → record { i = m; j = n; weight = w; null = null; board = i₀.board } ≡ counted_of i₀ t index k
all i₀ t index k w null i j p q m n r e a b c d f g h l =
    let x = f ∙ ap₂ (λ (y z : ℤ). nat_abs (y -ℤ z)) (a ∙ ap (λ (o : Coord). o.u) e) c in
    let y = g ∙ ap₂ (λ (y z : ℤ). nat_abs (y -ℤ z)) (b ∙ ap (λ (o : Coord). o.v) e) d in
    cc

pub returns : goal.returns
returns c =
    let x = c.args in
    all x.inputs x.t c.args.index.now x.k c.cell_weight.result c.null_score.result (word x.t.u) (word x.t.v) (word c.turned-p.result.u)
    (word c.turned-p.result.v) c.distance.result c.distance-2.result (to (goal.at.returns c).After-turned-p) refl (u (goal.at.returns c).After-turned-p).0 (v (goal.at.returns c).After-turned-p).0 (tu (goal.at.returns c).After-turned-p).0 (tv (goal.at.returns c).After-turned-p).0 c.distance.ensures
    c.distance-2.ensures (c.cell_weight.ensures ∙ ap (weight x.inputs.config) c.border.ensures) c.null_score.ensures

pub border-requires : goal.border-requires
border-requires c = c.requires.4
