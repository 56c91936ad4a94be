-- `hypothesis::turns::moved_to` meets its contract. Assumes nothing.
use mathlib.Core.Path.{◌≡◌, refl, ap, ◌∙◌}
use Prim.Native.Nat.{ℕ, ◌+◌, ◌≤◌, ◌<◌}
use native.Mathlib.Omega.{arith}
use lib.IntN.{ℤ, pos, nat_abs, ◌-ℤ◌}
use Rattle.integers.proofs.Parts.{abs_sub}
use Rattle.integers.proofs.Words.{word, word-is}
use Rattle.ranking.specs.declared.Evidence.{Evidence}
use Rattle.ranking.specs.declared.Hypothesis.{Hypothesis}
use Rattle.hypothesis.specs.Turns.{count_at, evidence_at}
use Rattle.hypothesis.proofs.turns.moved_to.Goals as goal

abbrev with : ℕ → ℤ → ℤ → Evidence → ℕ → Hypothesis
with r x y e n = record { alignment = record { turn = r; tx = x; ty = y }; evidence = e; contributing_cells = n }

same : (r : ℕ) (x y p q : ℤ) (e f : Evidence) (m n : ℕ) → x ≡ p → y ≡ q → e ≡ f → m ≡ n → with r x y e m ≡ with r p q f n
same r x y p q e f m n a b c d = cc

-- a translation is read back from its word, where the least coordinate is read from one
reads : (n : ℕ) (least x : ℤ) → n < 32 → nat_abs least ≤ 8192 → x ≡ pos n -ℤ word least → word x ≡ pos n -ℤ least
reads n least x h k e =
    word-is (pos n -ℤ least) (e ∙ ap (λ (z : ℤ). pos n -ℤ z) (word-is least refl (omega (arith, k)))) (omega (arith, h, k, abs_sub (pos n) least))

pub returns : goal.returns
returns c =
    let a = c.args in
    let p = c.requires in
    let e = c.placement_sum-evidence in
    let t = c.translation in
    let t2 = c.translation-2 in
    same a.t.turn (word t.result) (word t2.result) (pos a.a -ℤ a.t.u) (pos a.b -ℤ a.t.v) e.result
    (evidence_at a.sums.now a.contributing a.t.down a.a a.b) c.count_at.result (count_at a.contributing (a.a + a.b))
    (reads a.a a.t.u t.result p.0 p.2.u t.ensures)
    (reads a.b a.t.v t2.result p.1 p.2.v t2.ensures)
    e.ensures c.count_at.ensures
