-- `legacy_record::writing::put_codes` meets its contract. Assumes nothing.
use Rattle.std.proofs.Common.{◌≡◌, ap, ◌∙◌, ℕ, List, ◌+◌, ◌≤◌, length, arith}
use mathlib.Core.List.{flat_map}
use Rattle.lent_list.specs.Front.{up_to}
use Rattle.lent_list.proofs.Front.{put_as}
use Rattle.lent_list.proofs.Loops.{none_to, to_room, to_more}
use Rattle.shot_record.specs.Writing.{little_endian}
use Rattle.shot_record.proofs.LittleEndian.{le_length}
use Rattle.legacy_record.specs.Restated.{new_code}
use Rattle.legacy_record.proofs.Written.{one_code, all_listed, listed_size, turned-code}
use Rattle.legacy_record.proofs.writing.put_codes.Invariants.{one}
use Rattle.legacy_record.proofs.writing.put_codes.Goals as goal
use Rattle.legacy_record.proofs.writing.put_codes.Goals.{Start}

module _ (s : Start) where
  abbrev code : ℕ → ℕ
  code = new_code s.args.bits s.args.n s.args.codes.now

  abbrev each-code : ℕ → List ℕ
  each-code = one s.args.bits s.args.n s.args.codes.now

  room : s.args.at + length (flat_map (little_endian 8) (up_to each-code s.args.n)) ≤ length s.args.sheet.now
  room = omega (arith, listed_size code s.args.n)

pub loop-k-init : goal.loop-k-init
loop-k-init c =
    let s = (goal.at.loop-k-init c).Start in
    none_to (little_endian 8) (each-code s) c.args.sheet.now c.args.at c.args.n (room s)

pub put_code-next-requires : goal.put_code-next-requires
put_code-next-requires c =
    let s = (goal.at.put_code-next-requires c).Start in
    let l = c.loop-k in
    let next = to_room (little_endian 8) (each-code s) c.args.sheet.now c.args.at c.args.n (room s) l.k l.invariant c.loop-k-test.true in
    omega (arith, next, ap length (one_code (code s l.k)), le_length 8 (code s l.k))

pub loop-k-preserved : goal.loop-k-preserved
loop-k-preserved c =
    let s = (goal.at.loop-k-preserved c).Start in
    let l = c.loop-k in
    let turned = turned-code c.args.bits c.args.n l.k c.rotate_code_u64-code.result c.args.codes.now c.requires.1 c.rotate_code_u64-code.ensures in
    let put = put_as (ap (little_endian 8) turned ∙ one_code (code s l.k)) c.put_code-next.ensures in
    to_more (little_endian 8) (each-code s) c.args.sheet.now c.args.at c.args.n (room s) l.k l.invariant put

pub returns : goal.returns
returns c =
    let s = (goal.at.returns c).Start in
    let all : c.loop-k.k ≡ c.args.n = omega arith in
    put_as (ap (λ (k : ℕ). flat_map (little_endian 8) (up_to (each-code s) k)) all ∙ all_listed (code s) c.args.n) c.loop-k.invariant
