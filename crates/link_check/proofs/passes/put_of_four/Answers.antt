-- `link_check::passes::put_of_four` meets its contract: the repeated corners, then the missing ones. Assumes nothing.
use mathlib.Core.Path.{sym, ap}
use mathlib.Core.List.{List}
use Prim.Native.Nat.{◌+◌, ◌≤◌}
use native.Mathlib.Omega.{arith}
use lib.ListN.{length, length-append}
use Rattle.lent_list.specs.Front.{up_to}
use Rattle.lent_list.proofs.Front.{put_as, put_more, put_length, flat_map_append}
use Rattle.link_check.specs.Violations.{four_of, Violation, repeat_at, missing_of, violation_words, words_of_violations}
use Rattle.link_check.proofs.passes.put_of_four.Goals as goal
use Rattle.link_check.proofs.passes.put_of_four.Goals.{Start}

module _ (s : Start) where
  abbrev repeats : List Violation
  repeats = up_to (repeat_at s.args.links.words.now s.args.expected.marker (four_of s.args.expected.corners)) s.args.links.count

  abbrev missing : List Violation
  missing = missing_of s.args.links.words.now s.args.links.count s.args.mode s.args.expected.marker (four_of s.args.expected.corners)

  room : s.args.at + (length (words_of_violations repeats) + length (words_of_violations missing)) ≤ length s.args.violations.now
  room =
      omega
      (arith, s.requires, ap length (flat_map_append violation_words repeats missing), length-append (words_of_violations repeats) (words_of_violations missing))

pub put_repeats-end-requires : goal.put_repeats-end-requires
put_repeats-end-requires c = omega (arith, room (goal.at.put_repeats-end-requires c).Start)

pub put_missing-requires : goal.put_missing-requires
put_missing-requires c =
    let s = (goal.at.put_missing-requires c).Start in
    let p = c.put_repeats-end.ensures in
    let long = put_length p (omega (arith, room s)) (omega (arith, p.end, room s)) in
    omega (arith, long, p.end, room s)

pub returns : goal.returns
returns c =
    put_as (sym (flat_map_append violation_words (repeats (goal.at.returns c).Start) (missing (goal.at.returns c).Start)))
    (put_more c.put_repeats-end.ensures (omega (arith, room (goal.at.returns c).Start)) c.put_missing.ensures)
