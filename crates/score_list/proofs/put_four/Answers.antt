-- `score_list::put_four` meets its contract: four elements, one after another. Assumes nothing.
use mathlib.Core.Path.{◌≡◌, ap}
use mathlib.Core.List.{List}
use Prim.Native.Nat.{ℕ, ◌+◌, ◌*◌, ◌≤◌, ◌<◌}
use native.Mathlib.Omega.{arith}
use lib.ListN.{length, get_or}
use lib.ListN.{set}
use lib.Ieee.{Float, nan}
use Rattle.lent_list.specs.Scattered.{Wrote}
use Rattle.lent_list.proofs.Scattered.{wrote_none, wrote_next}
use Rattle.score_list.proofs.put_four.Goals as goal

module _ (sums : List Float) (at x : ℕ) (scores : List Float) (room : at + 4 ≤ length scores) where
  abbrev Written : ℕ → List Float → Type 0
  Written n after = Wrote nan (λ (r : ℕ). r < n) (λ (r : ℕ). at + r) (λ (r : ℕ). get_or sums (8 * r + x) nan) scores after

  next : (n place source : ℕ) (after : List Float) → n < 4 → place ≡ at + n → source ≡ 8 * n + x → Written n after
      → Written (n + 1) (set after place (get_or sums source nan))
  next n place source after h e f w =
      rw e (wrote_next (get_or sums source nan) w (λ i l g. absurd (omega (arith, l, g))) (omega arith) (ap (λ (i : ℕ). get_or sums i nan) f))

  -- at the places and from the sources that the code has
  written : {p q u i j k : ℕ} → p ≡ at + 1 → q ≡ at + 2 → u ≡ at + 3 → i ≡ 8 + x → j ≡ 16 + x → k ≡ 24 + x
      → Written 4 (set (set (set (set scores at (get_or sums x nan)) p (get_or sums i nan)) q (get_or sums j nan)) u (get_or sums k nan))
  written {p} {q} {u} {i} {j} {k} a b c d e f =
      next 3 u k _ (omega arith) c f
      (next 2 q j _ (omega arith) b e
      (next 1 p i _ (omega arith) a d
      (next 0 at x scores (omega arith) (omega arith) (omega arith) (wrote_none scores (λ i l. absurd (omega (arith, l)))))))

pub returns : goal.returns
returns c =
    let a = c.args in
    written a.sums.now a.at a.x a.scores.now c.requires.1 (omega arith) (omega arith) (omega arith) (omega arith) (omega arith) (omega arith)
