-- `place_text::writer::Page::put_all` meets its contract. The loop's invariant: the bytes so far are written. Assumes nothing.
use Rattle.std.specs.Prelude.{take}
use Rattle.place_text.specs.Writing.{Wrote}
use Rattle.place_text.proofs.writer.Page.put_all.Given as goal

abbrev pub invariant-loop-byte : goal.invariant-loop-byte
invariant-loop-byte l = Wrote (take l.byte-index l.bytes) l.fn.self l.self
