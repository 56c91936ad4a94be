-- `link_check::passes::put_own_entries` meets its contract. The loop's invariant: the own violations of the first k links are written.
-- Assumes nothing.
use mathlib.Core.Path.{ap₂}
use mathlib.Core.List.{List}
use Prim.Native.Nat.{ℕ, ◌+◌, ◌*◌, ◌≤◌}
use native.Mathlib.Omega.{arith}
use lib.ListN.{length}
use Rattle.lent_list.specs.Front.{up_to}
use Rattle.lent_list.proofs.Front.{put_as}
use Rattle.lent_list.proofs.Loops.{none_to, to-length, to_more}
use Rattle.std.specs.Prelude.{Result}
use Rattle.board.specs.declared.Surrounding.{Surrounding}
use Rattle.link_check.specs.declared.LinkViolationKind.{LinkViolationKind}
use Rattle.link_check.specs.Violations.{Violation, expectation, against, own, violation_words, words_of_violations}
use Rattle.link_check.proofs.Enough.{own-few}
use Rattle.link_check.proofs.Writing.{words-length}
use Rattle.link_check.proofs.passes.put_own_entries.Goals as goal
use Rattle.link_check.proofs.passes.put_own_entries.Goals.{Start}

module _ (s : Start) where
  abbrev expected : ℕ → Result Surrounding LinkViolationKind
  expected = expectation s.args.board

  abbrev entry : ℕ → List Violation
  entry = own s.args.links.words.now expected

  small : (k : ℕ) → length (words_of_violations (up_to entry k)) ≤ 12 * k
  small k = omega (arith, words-length (up_to entry k), own-few s.args.links.words.now expected k)

  room : 0 + length (words_of_violations (up_to entry s.args.links.count)) ≤ length s.args.violations.now
  room = omega (arith, small s.args.links.count)

pub loop-k-init : goal.loop-k-init
loop-k-init c =
    let s = (goal.at.loop-k-init c).Start in
    none_to violation_words (entry s) c.args.violations.now 0 c.args.links.count (room s)

pub put_own-end-requires : goal.put_own-end-requires
put_own-end-requires c =
    let s = (goal.at.put_own-end-requires c).Start in
    let l = c.loop-k in
    omega (
      arith,
      to-length violation_words (entry s) c.args.violations.now 0 c.args.links.count (room s) l.k l.invariant (omega arith),
      l.invariant.end,
      small s l.k,
    )

pub loop-k-preserved : goal.loop-k-preserved
loop-k-preserved c =
    let s = (goal.at.loop-k-preserved c).Start in
    let l = c.loop-k in
    let same = ap₂ (λ (m d : ℕ). words_of_violations (against (expected s m) m d)) c.marker_of-marker.ensures c.corner_of.ensures in
    to_more violation_words (entry s) c.args.violations.now 0 c.args.links.count (room s) l.k l.invariant (put_as same c.put_own-end.ensures)
