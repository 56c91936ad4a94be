-- `board::questions::code` meets its contract: no bit from the place bits² on is set. Assumes nothing.
use mathlib.Core.Path.{◌≡◌, sym, ap, ◌∙◌}
use mathlib.Core.Bool.{Bool, true, false, not}
use Prim.Native.Nat.{ℕ, ◌*◌, ◌/◌, ◌^◌, ◌≤◌, ◌<◌}
use native.Mathlib.Nat.{le-div_iff_mul-le, div-eq_of_lt, pow-le-pow_right}
use native.Mathlib.Omega.{arith}
use lib.Dec.{T, ltb, eqb, ltb→lt, nltb→le, lit<}
use lib.Pow.{pow_pos}
use borrow.Author.Tests.{lt-ltb, eq-eqb, ne_eqb}
use Rattle.std.specs.Prelude.{Option, Some, None}
use Rattle.std.specs.Option.{SomeIff, unwrap_or}
use Rattle.board.proofs.questions.code.Goals as goal

module _ (code n : ℕ) where
  -- no bit from place n on is set exactly if the code is below 2 ^ n
  high_bits : eqb (code / 2 ^ n) 0 ≡ ltb code (2 ^ n)
  high_bits = go (ltb code (2 ^ n)) (ltb→lt code (2 ^ n)) (nltb→le code (2 ^ n))
    where
      go : (t : Bool) → (T t → code < 2 ^ n) → (T (not t) → 2 ^ n ≤ code) → eqb (code / 2 ^ n) 0 ≡ t
      go true less more = eq-eqb (code / 2 ^ n) 0 (div-eq_of_lt (less tt))
      go false less more =
          let least : 1 ≤ code / 2 ^ n = (le-div_iff_mul-le (pow_pos n)).1 (omega (arith, more tt)) in
          ne_eqb (code / 2 ^ n) 0 (λ e. omega arith)

  shifted : (o : Option ℕ) → code < 2 ^ 64 → SomeIff o (n < 64) (code / 2 ^ n) → eqb (unwrap_or o 0) 0 ≡ ltb code (2 ^ n)
  shifted (Some q) f h = ap (λ (k : ℕ). eqb k 0) h.1 ∙ high_bits
  shifted None f h =
      let past : 2 ^ 64 ≤ 2 ^ n = pow-le-pow_right {n = 2} (lit< tt) {i = 64} {j = n} (omega arith) in
      sym (lt-ltb code (2 ^ n) (omega arith))

pub returns : goal.returns
returns c =
    let bits = c.args.bits in
    ap (λ (k : ℕ). eqb k 0) c.unwrap_or.ensures
    ∙ shifted c.args.code (bits * bits) c.checked_shr.result c.ranges.code.fits (rw (c.from.ensures, c.from-2.ensures) at c.checked_shr.ensures)
