-- `alike::quarters::Quarters::least_turn` meets its contract: each turn rotates the quarters by one. Assumes nothing.
use mathlib.Core.Path.{◌≡◌, sym, ap, ap₂, subst, ◌∙◌}
use Prim.Native.Nat.{ℕ, ◌*◌, ◌^◌, ◌≤◌, ◌<◌, min}
use native.Mathlib.Nat.{mul-le-mul}
use native.Mathlib.Omega.{arith}
use lib.ListN.{get_or}
use Rattle.matcher.specs.Codes.{bit, from_bits}
use Rattle.matcher.proofs.Bits.{from_ext}
use Rattle.alike.specs.Quarters.{quarter, quarter_source, quarters, QuarterSources, moved_on}
use Rattle.alike.proofs.QuarterTurns.{quarter-small, quarter_source-below, quarters-below, moved-below, no_turn, turn_moves_on, two_turns, three_turns}
use Rattle.alike.proofs.quarters.Quarters.least_turn.Goals as goal
use Rattle.alike.proofs.quarters.Quarters.least_turn.Goals.{After-moved_on-once, After-moved_on-twice, After-picked-as_is, After-quarter-m}

module _ (c : After-quarter-m) where
  abbrev bits : ℕ
  bits = c.args.self.now.bits

  abbrev m : ℕ
  m = c.quarter-m.result

  some : 0 < bits
  some = c.args.self.now.held.0

  small : m ≤ 16
  small = subst (λ (x : ℕ). x ≤ 16) (sym c.quarter-m.ensures) (quarter-small bits c.args.self.now.held.1)

  held : QuarterSources bits (4 * m) c.args.self.now.sources
  held k l = c.args.self.now.held.2 k (subst (λ (x : ℕ). k < 4 * x) c.quarter-m.ensures l)

  source-small : (k : ℕ) → k < 4 * m → get_or c.args.self.now.sources k 0 < 64
  source-small k l =
      omega (arith, held k l, quarter_source-below bits some k, mul-le-mul {n₂ = 8} {m₂ = 8} c.args.self.now.held.1 c.args.self.now.held.1)

module _ (c : After-picked-as_is) where
  abbrev code : ℕ
  code = c.args.code

  picked-is : c.picked-as_is.result ≡ quarters c.args.self.now.bits code
  picked-is =
      c.picked-as_is.ensures
      ∙ from_ext (λ (k : ℕ). bit code (get_or c.args.self.now.sources k 0)) (λ (k : ℕ). bit code (quarter_source c.args.self.now.bits k)) (4 * c.quarter-m.result)
      (λ k l. ap (bit code) (held c.before k l))
      ∙ ap (λ (x : ℕ). from_bits (λ (k : ℕ). bit code (quarter_source c.args.self.now.bits k)) (4 * x)) c.quarter-m.ensures

  as_is-below : c.picked-as_is.result < 2 ^ (4 * c.quarter-m.result)
  as_is-below =
      subst (λ (x : ℕ). c.picked-as_is.result < 2 ^ (4 * x)) (sym c.quarter-m.ensures) (subst (λ (w : ℕ). w < 2 ^ (4 * quarter c.args.self.now.bits)) (sym picked-is) (quarters-below c.args.self.now.bits code))

module _ (c : After-moved_on-once) where
  once_is : c.moved_on-once.result ≡ moved_on (quarter c.args.self.now.bits) (quarters c.args.self.now.bits c.args.code)
  once_is = c.moved_on-once.ensures ∙ ap₂ moved_on c.quarter-m.ensures (picked-is c.before)

  once-below : c.moved_on-once.result < 2 ^ (4 * c.quarter-m.result)
  once-below =
      subst (λ (w : ℕ). w < 2 ^ (4 * c.quarter-m.result)) (sym c.moved_on-once.ensures) (moved-below c.quarter-m.result c.picked-as_is.result (as_is-below c.before))

module _ (c : After-moved_on-twice) where
  twice_is : c.moved_on-twice.result ≡ moved_on (quarter c.args.self.now.bits) (moved_on (quarter c.args.self.now.bits) (quarters c.args.self.now.bits c.args.code))
  twice_is = c.moved_on-twice.ensures ∙ ap₂ moved_on c.quarter-m.ensures (once_is c.before)

  twice_below : c.moved_on-twice.result < 2 ^ (4 * c.quarter-m.result)
  twice_below =
      subst (λ (w : ℕ). w < 2 ^ (4 * c.quarter-m.result)) (sym c.moved_on-twice.ensures) (moved-below c.quarter-m.result c.moved_on-once.result (once-below c.before))

pub returns : goal.returns
returns c =
    let quarter_is = c.quarter-m.ensures in
    let n = c.args.self.now.bits in
    let code = c.args.code in
    let some = c.args.self.now.held.0 in
    c.min-3.ensures
    ∙ ap₂ min
    (c.min.ensures ∙ ap₂ min (picked-is (goal.at.returns c).After-picked-as_is ∙ sym (no_turn n some code)) (once_is (goal.at.returns c).After-moved_on-once ∙ sym (turn_moves_on n some code)))
    (c.min-2.ensures ∙ ap₂ min (twice_is (goal.at.returns c).After-moved_on-twice ∙ sym (two_turns n some code))
    (c.moved_on-thrice.ensures ∙ ap₂ moved_on quarter_is (twice_is (goal.at.returns c).After-moved_on-twice) ∙ sym (three_turns n some code)))

pub picked-as_is-requires : goal.picked-as_is-requires
picked-as_is-requires c = (omega (arith, small c), source-small c)

pub moved_on-once-requires : goal.moved_on-once-requires
moved_on-once-requires c = (small (goal.at.moved_on-once-requires c).After-quarter-m, as_is-below c)

pub moved_on-twice-requires : goal.moved_on-twice-requires
moved_on-twice-requires c = (small (goal.at.moved_on-twice-requires c).After-quarter-m, once-below c)

pub moved_on-thrice-requires : goal.moved_on-thrice-requires
moved_on-thrice-requires c = (small (goal.at.moved_on-thrice-requires c).After-quarter-m, twice_below c)
