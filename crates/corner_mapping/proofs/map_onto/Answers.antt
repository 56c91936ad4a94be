-- `corner_mapping::map_onto` meets its contract: the questions in order, then the choices and their words. Assumes nothing.
use mathlib.Core.Path.{◌≡◌, refl, sym, ◌∙◌}
use mathlib.Core.Bool.{true, false}
use Prim.Native.Nat.{◌*◌, ◌≤◌}
use native.Mathlib.Omega.{arith}
use lib.ListN.{length}
use borrow.Author.Tests.{lt-leb, le-leb}
use Rattle.refusal.specs.declared.Refusal.TheVariants as refusal
use Rattle.corner_mapping.specs.Corners.{Input}
use Rattle.corner_mapping.specs.Entry.{corner_range_answer, input}
use Rattle.corner_mapping.proofs.Ids.{few-corners}
use Rattle.corner_mapping.proofs.Answered.{count, ranged, asked, refused, mapped_all}
use Rattle.corner_mapping.proofs.map_onto.Goals as goal
use Rattle.corner_mapping.proofs.map_onto.Goals.{Else-not-in_range, Start}

module _ (s : Start) where
  abbrev from : Input
  from = input s.args.board s.args.alignment s.args.scores.now s.args.grid.now

  few : count from ≤ 961
  few = few-corners s.args.board.rows s.args.board.cols s.requires.0 s.requires.1

pub returns-then-not-in_range : goal.returns-then-not-in_range
returns-then-not-in_range c =
    let x = from (goal.at.returns-then-not-in_range c).Start in
    let r = refused x _ refusal.CornersOutOfRange (asked x _ false _ (sym c.in_range.ensures ∙ c.if-not-in_range.true) refl) in
    record { answer = r.0; list = r.1 }

in_range : (c : Else-not-in_range) → corner_range_answer c.args.scores.now c.args.grid.now c.args.alignment ≡ true
in_range c = sym c.in_range.ensures ∙ c.if-not-in_range.false

pub returns-then-corners-count : goal.returns-then-corners-count
returns-then-corners-count c =
    let x = from (goal.at.returns-then-corners-count c).Start in
    let r = refused x _ refusal.ListTooShort
    (asked x _ true false (in_range (goal.at.returns-then-corners-count c).Else-not-in_range)
    (lt-leb (6 * count x) (length c.args.corners.now) (omega arith))) in
    record { answer = r.0; list = r.1 }

pub invariant_of-input : goal.invariant_of-input
invariant_of-input c = record {
  in_range = ranged (from (goal.at.invariant_of-input c).Start) c.requires.0 c.requires.1 (in_range (goal.at.invariant_of-input c).Else-not-in_range);
}

pub put_all-end-requires : goal.put_all-end-requires
put_all-end-requires c = (omega (arith, few (goal.at.put_all-end-requires c).Start), omega arith)

pub returns : goal.returns
returns c =
    let s = (goal.at.returns c).Start in
    let x = from s in
    let enough : 6 * count x ≤ length c.args.corners.now = omega arith in
    let r = mapped_all x _ c.put_all-end.result _ _
    (asked x _ true true (in_range (goal.at.returns c).Else-not-in_range) (le-leb (6 * count x) (length c.args.corners.now) enough)) enough
    (omega (arith, few s)) c.choose-choices.ensures c.put_all-end.ensures in
    record { answer = r.0; list = r.1 }
