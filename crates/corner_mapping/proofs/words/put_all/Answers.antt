-- `corner_mapping::words::put_all` meets its contract. The loop's invariant: the results of the ids so far are written. Assumes nothing.
use mathlib.Core.Path.{◌≡◌, subst}
use mathlib.Core.List.{List}
use Prim.Native.Nat.{ℕ, ◌+◌, ◌≤◌}
use native.Mathlib.Omega.{arith}
use lib.ListN.{length}
use Rattle.lent_list.specs.Front.{up_to}
use Rattle.lent_list.proofs.Loops.{PutTo, none_to, to_room, to_more}
use Rattle.board.specs.Layout.{corner_count}
use Rattle.corner_mapping.specs.Corners.{MappedCorner, mapped_by, corner_words, words_of_corners}
use Rattle.corner_mapping.specs.Inner.{stored}
use Rattle.corner_mapping.proofs.Writing.{enough}
use Rattle.corner_mapping.proofs.words.put_all.Goals as goal
use Rattle.corner_mapping.proofs.words.put_all.Goals.{Start}

module _ (s : Start) where
  abbrev count : ℕ
  count = corner_count s.args.board.rows s.args.board.cols

  abbrev words : MappedCorner → List ℕ
  words = corner_words s.args.board

  abbrev result : ℕ → List MappedCorner
  result = mapped_by (stored s.args.choices.now)

  room : 0 + length (words_of_corners s.args.board (up_to result count)) ≤ length s.args.corners.now
  room = omega (arith, enough s.args.board (stored s.args.choices.now) count, s.requires.1)

pub put_corner-end-requires : goal.put_corner-end-requires
put_corner-end-requires c =
    let s = (goal.at.put_corner-end-requires c).Start in
    to_room (words s) (result s) c.args.corners.now 0 (count s) (room s) c.loop-id.id c.loop-id.invariant (omega arith)

pub loop-id-init : goal.loop-id-init
loop-id-init c = let s = (goal.at.loop-id-init c).Start in none_to (words s) (result s) c.args.corners.now 0 (count s) (room s)

pub loop-id-preserved : goal.loop-id-preserved
loop-id-preserved c =
    let s = (goal.at.loop-id-preserved c).Start in
    to_more (words s) (result s) c.args.corners.now 0 (count s) (room s) c.loop-id.id c.loop-id.invariant c.put_corner-end.ensures

pub returns : goal.returns
returns c =
    let s = (goal.at.returns c).Start in
    let all : c.loop-id.id ≡ count s = omega arith in
    subst (PutTo (words s) (result s) c.args.corners.now 0 (count s) (room s) c.loop-id.corners c.loop-id.end) all c.loop-id.invariant

pub bounds-choices-id : goal.bounds-choices-id
bounds-choices-id c = omega arith
