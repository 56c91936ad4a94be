-- `shot_record::numbers::number_at` meets its contract. Assumes nothing.
use mathlib.Core.Path.{◌≡◌, refl, ap, ◌∙◌}
use Prim.Native.Nat.{ℕ, suc, ◌+◌, ◌-◌, ◌*◌, ◌^◌, ◌≤◌, ◌<◌}
use native.Mathlib.Nat.{lt_of_lt_of_le}
use native.Mathlib.Omega.{arith}
use mathlib.Core.List.{List}
use lib.Dec.{lit<}
use lib.Pow.{pow-add, pow_mono}
use Rattle.shot_record.specs.Fields.{byte, number}
use Rattle.shot_record.proofs.numbers.number_at.Goals as goal
use Rattle.shot_record.proofs.numbers.number_at.Goals.{In-loop-k}

pub loop-k-init : goal.loop-k-init
unfolding number
loop-k-init c =
    let n = c.args.n in
    let none : n - n ≡ 0 = omega arith in
    record { value = rw none refl; below = rw none (lit< tt) }

-- one more byte before the others
grown : (bytes : List ℕ) (at n k x : ℕ) → 0 < k → k ≤ n → x ≡ number (n - k) (at + k) bytes
    → x * 256 + byte (at + (k - 1)) bytes ≡ number (n - (k - 1)) (at + (k - 1)) bytes
unfolding number
grown bytes at n k x h l e =
    let more : n - (k - 1) ≡ suc (n - k) = omega arith in
    let next : suc (at + (k - 1)) ≡ at + k = omega arith in
    rw (more, next, e) (omega arith)

below : (n k x b : ℕ) → 0 < k → k ≤ n → x < 2 ^ (8 * (n - k)) → b < 256 → x * 256 + b < 2 ^ (8 * (n - (k - 1)))
below n k x b h l s t =
    let more : 8 * (n - (k - 1)) ≡ 8 * (n - k) + 8 = omega arith in
    rw (more, pow-add 2 (8 * (n - k)) 8) (omega arith)

bounded : (c : In-loop-k) → c.loop-k.x < 2 ^ 56
bounded c = lt_of_lt_of_le c.loop-k.invariant.below (pow_mono {j = 56} (omega arith))

pub overflow_mul-x : goal.overflow_mul-x
overflow_mul-x c = omega (arith, bounded c)

pub overflow_add-x : goal.overflow_add-x
overflow_add-x c = omega (arith, bounded (goal.at.overflow_add-x c).In-loop-k)

pub loop-k-preserved : goal.loop-k-preserved
loop-k-preserved c =
    let x = c.args in
    let l = c.loop-k in
    let more = grown x.bytes.now x.at x.n l.k l.x c.loop-k-test.true l.auto.k l.invariant.value in
    record {
      value = ap (λ (b : ℕ). l.x * 256 + b) c.byte_at.ensures ∙ more;
      below = below x.n l.k l.x c.byte_at.result c.loop-k-test.true l.auto.k l.invariant.below c.byte_at.type_inv;
    }
