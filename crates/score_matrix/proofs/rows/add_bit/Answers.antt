-- `score_matrix::rows::add_bit` meets its contract: each turn gets its row, and no other. Assumes nothing.
use mathlib.Core.Path.{◌≡◌, ap, ◌∙◌}
use mathlib.Core.List.{List}
use Prim.Native.Nat.{ℕ, zero, suc, ◌+◌, ◌*◌, ◌<◌}
use native.Mathlib.Omega.{arith}
use lib.ListN.{get_or}
use lib.Ieee.{Float, nan, binary32, add}
use native.Mathlib.Nat.{zero-add}
use Rattle.lent_list.specs.Scattered.{Wrote}
use Rattle.matcher.specs.Codes.{bit}
use Rattle.score_matrix.specs.Rows.{in_row, picked_row}
use Rattle.score_matrix.proofs.rows.add_bit.Goals as goal

-- a row is added to the sums of a turn
abbrev RowAdded : List Float → ℕ → ℕ → List Float → List Float → Type 0
RowAdded rows turn row before after =
    Wrote nan (λ (x : ℕ). x < 8) (λ (x : ℕ). 8 * turn + x) (λ (x : ℕ). add binary32 (get_or before (8 * turn + x) nan) (in_row rows x row)) before after

other : (rows : List Float) (turn row : ℕ) (before after : List Float) → RowAdded rows turn row before after → (r x : ℕ) → x < 8 → (r ≡ turn → ⊥)
    → get_or after (8 * r + x) nan ≡ get_or before (8 * r + x) nan
other rows turn row before after w r x h n = w.kept (8 * r + x) (λ y l e. n (omega (arith, h, l, e)))

here : (rows : List Float) (turn row : ℕ) (before after : List Float) → RowAdded rows turn row before after → (x n : ℕ) → x < 8 → row ≡ n
    → get_or after (8 * turn + x) nan ≡ add binary32 (get_or before (8 * turn + x) nan) (in_row rows x n)
here rows turn row before after w x n h e = w.done x h ∙ ap (λ (m : ℕ). add binary32 (get_or before (8 * turn + x) nan) (in_row rows x m)) e

-- the row that bit k of a code selects after a turn
abbrev row_at : List ℕ → ℕ → ℕ → ℕ → ℕ
row_at sources k code r = 2 * k + bit code (get_or sources (64 * r + k) 0)

module _ (rows : List Float) (sources : List ℕ) (k code : ℕ) (o p q s t : List Float) (n₀ n₁ n₂ n₃ : ℕ) (w₀ : RowAdded rows 0 n₀ o p)
    (w₁ : RowAdded rows 1 n₁ p q) (w₂ : RowAdded rows 2 n₂ q s) (w₃ : RowAdded rows 3 n₃ s t) (e₀ : n₀ ≡ row_at sources k code 0)
    (e₁ : n₁ ≡ row_at sources k code 1) (e₂ : n₂ ≡ row_at sources k code 2) (e₃ : n₃ ≡ row_at sources k code 3) where
  all : (r x : ℕ) → r < 4 → x < 8 → get_or t (8 * r + x) nan ≡ add binary32 (get_or o (8 * r + x) nan) (picked_row rows sources code x r k)
  all zero x h l =
      other rows 3 n₃ s t w₃ 0 x l (λ e. absurd (omega (arith, e))) ∙ other rows 2 n₂ q s w₂ 0 x l (λ e. absurd (omega (arith, e)))
      ∙ other rows 1 n₁ p q w₁ 0 x l (λ e. absurd (omega (arith, e)))
      ∙ here rows 0 n₀ o p w₀ x (row_at sources k code 0) l e₀
  all (suc zero) x h l =
      other rows 3 n₃ s t w₃ 1 x l (λ e. absurd (omega (arith, e))) ∙ other rows 2 n₂ q s w₂ 1 x l (λ e. absurd (omega (arith, e)))
      ∙ here rows 1 n₁ p q w₁ x (row_at sources k code 1) l e₁
      ∙ ap (λ (y : Float). add binary32 y (picked_row rows sources code x 1 k)) (other rows 0 n₀ o p w₀ 1 x l (λ e. absurd (omega (arith, e))))
  all (suc (suc zero)) x h l =
      other rows 3 n₃ s t w₃ 2 x l (λ e. absurd (omega (arith, e)))
      ∙ here rows 2 n₂ q s w₂ x (row_at sources k code 2) l e₂
      ∙ ap (λ (y : Float). add binary32 y (picked_row rows sources code x 2 k))
      (other rows 1 n₁ p q w₁ 2 x l (λ e. absurd (omega (arith, e))) ∙ other rows 0 n₀ o p w₀ 2 x l (λ e. absurd (omega (arith, e))))
  all (suc (suc (suc zero))) x h l =
      here rows 3 n₃ s t w₃ x (row_at sources k code 3) l e₃
      ∙ ap (λ (y : Float). add binary32 y (picked_row rows sources code x 3 k))
      (other rows 2 n₂ q s w₂ 3 x l (λ e. absurd (omega (arith, e))) ∙ other rows 1 n₁ p q w₁ 3 x l (λ e. absurd (omega (arith, e)))
      ∙ other rows 0 n₀ o p w₀ 3 x l (λ e. absurd (omega (arith, e))))
  all (suc (suc (suc (suc r)))) x h l = absurd (omega arith)

pub returns : goal.returns
returns c =
    let a = c.args in
    let first : c.row_of.result ≡ row_at a.sources.now a.k a.code 0 = c.row_of.ensures ∙ rw zero-add in
    let o = a.sums.now in
    let p = c.add_row.new.sums in
    let q = c.add_row-2.new.sums in
    let s = c.add_row-3.new.sums in
    let t = c.add_row-4.new.sums in
    all a.rows.now a.sources.now a.k a.code o p q s t c.row_of.result c.row_of-2.result c.row_of-3.result c.row_of-4.result
    c.add_row.ensures c.add_row-2.ensures c.add_row-3.ensures c.add_row-4.ensures first c.row_of-2.ensures c.row_of-3.ensures c.row_of-4.ensures
