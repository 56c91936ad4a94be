-- `place_text::writer::Page::put_all` meets its contract: byte by byte. Assumes nothing.
use native.Mathlib.Numerals.{add-one}
use lib.Seq.{take-suc, take_all}
use Rattle.place_text.proofs.Printing.{then, not_past}
use Rattle.place_text.proofs.writer.Page.put_all.Goals as goal

pub loop-byte-init : goal.loop-byte-init
loop-byte-init c = not_past c.min-self.ensures

pub loop-byte-preserved : goal.loop-byte-preserved
loop-byte-preserved c =
    let i = c.loop-byte.byte-index in
    rw (add-one i, take-suc c.args.bytes.now i 0 c.loop-byte-test.true) (then c.loop-byte.invariant c.put.ensures)

pub returns : goal.returns
returns c = rw (take_all c.loop-byte.byte-index c.args.bytes.now c.loop-byte-test.false) at c.loop-byte.invariant
