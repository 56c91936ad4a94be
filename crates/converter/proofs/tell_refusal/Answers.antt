-- `converter::tell_refusal` is safe: the printed line is a slice of its array. Assumes nothing.
use Rattle.std.proofs.Common.{sym, arith, length-take-le}
use Rattle.converter.proofs.tell_refusal.Goals as goal

pub slice_bounds-write_all-end : goal.slice_bounds-write_all-end
slice_bounds-write_all-end c =
    let put = c.put_line-length in
    sym (length-take-le put.result put.new.text (omega (arith, put.ensures.line.place, put.ensures.room)))
