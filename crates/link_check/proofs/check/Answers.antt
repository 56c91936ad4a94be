-- `link_check::check` meets its contract: one pass after the other, with room for both. Assumes nothing.
use mathlib.Core.Path.{sym, ap, ◌∙◌}
use mathlib.Core.List.{List, ◌++◌}
use Prim.Native.Nat.{ℕ, ◌+◌, ◌≤◌}
use native.Mathlib.Omega.{arith}
use lib.ListN.{length, length-append}
use Rattle.lent_list.specs.Front.{up_to}
use Rattle.lent_list.proofs.Front.{put_as, put_more, put_length, flat_map_append}
use Rattle.std.specs.Prelude.{Result}
use Rattle.board.specs.declared.Surrounding.{Surrounding}
use Rattle.link_check.specs.declared.LinkViolationKind.{LinkViolationKind}
use Rattle.link_check.specs.Violations.{Violation, expectation, own, of_first, violations, violation_words, words_of_violations}
use Rattle.link_check.proofs.Enough.{enough}
use Rattle.link_check.proofs.Writing.{words-length}
use Rattle.link_check.proofs.check.Goals as goal
use Rattle.link_check.proofs.check.Goals.{Start}

module _ (s : Start) where
  abbrev expected : ℕ → Result Surrounding LinkViolationKind
  expected = expectation s.args.board

  abbrev owns : List Violation
  owns = up_to (own s.args.links.now expected) s.args.n

  abbrev grouped : List Violation
  grouped = up_to (of_first s.args.links.now s.args.n s.args.mode expected) s.args.n

  room : length (words_of_violations owns) + length (words_of_violations grouped) ≤ length s.args.violations.now
  room =
      omega (
        arith,
        s.requires.2,
        enough s.args.links.now s.args.n s.args.mode expected,
        words-length (owns ++ grouped),
        ap length (flat_map_append violation_words owns grouped),
        length-append (words_of_violations owns) (words_of_violations grouped),
      )

pub put_marker_entries-requires : goal.put_marker_entries-requires
put_marker_entries-requires c =
    let s = (goal.at.put_marker_entries-requires c).Start in
    let p = c.put_own_entries-end.ensures in
    let long = put_length p (omega arith) (omega (arith, p.end, room s)) in
    omega (arith, long, p.end, room s)

pub returns : goal.returns
returns c =
    let x = c.args in
    put_as
    (sym (flat_map_append violation_words (owns (goal.at.returns c).Start) (grouped (goal.at.returns c).Start))
    ∙ ap (λ (n : ℕ). words_of_violations (violations x.links.now n x.mode (expected (goal.at.returns c).Start))) c.requires.0)
    (put_more c.put_own_entries-end.ensures (omega arith) c.put_marker_entries.ensures)
