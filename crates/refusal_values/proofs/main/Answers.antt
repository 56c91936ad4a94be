-- `refusal_values::main` is safe: the printed text is a slice of its array. Assumes nothing.
use Rattle.std.proofs.Common.{sym, arith, length-take-le}
use Rattle.refusal_values.proofs.main.Goals as goal

pub slice_bounds-write_all-end-2 : goal.slice_bounds-write_all-end-2
slice_bounds-write_all-end-2 c =
    let put = c.put_values-length in
    sym (length-take-le put.result put.new.text (omega (arith, put.ensures.line.place, put.ensures.room)))
