-- `shot_record::bulk::codes` meets its contract. Assumes nothing.
use Rattle.std.proofs.Common.{◌≡◌, refl, sym, ap, ◌∙◌, ℕ, ◌≤◌, ◌<◌, List, get_or, arith}
use lib.ListN.{get_or-replicate, get_or-eq_default}
use lib.Seq.{get_or-set_other}
use Rattle.shot_record.specs.Shots.{shot}
use Rattle.shot_record.proofs.Filling.{one_more, rest_filled, all_filled}
use Rattle.shot_record.proofs.Reading.{code_count_is, code_is}
use Rattle.shot_record.proofs.Records.{found_in}
use Rattle.shot_record.proofs.bulk.codes.Invariants.{code_of}
use Rattle.shot_record.proofs.bulk.codes.Goals as goal

pub loop-k-init : goal.loop-k-init
loop-k-init c =
    record {
      filled = record { size = c.told-codes; before = λ i b. absurd (omega arith) };
      clear = λ i b h. ap (λ (l : List ℕ). get_or l i 0) c.requires ∙ get_or-replicate {A = ℕ} 512 i 0 0 h;
    }

pub loop-k-preserved : goal.loop-k-preserved
loop-k-preserved c =
    let bytes = c.args.input.now.bytes.now in
    let l = c.loop-k in
    let f = found_in c.args.input.now in
    let code = c.code.ensures ∙ code_is bytes l.k (omega arith) in
    record {
      filled = one_more (code_of bytes) 0 l.codes 512 l.k c.code.result (omega arith) l.invariant.filled code;
      clear = λ i b h. get_or-set_other l.codes l.k i c.code.result 0 (λ z. absurd (omega arith)) ∙ l.invariant.clear i (omega arith) h;
    }

pub returns : goal.returns
returns c =
    let bytes = c.args.input.now.bytes.now in
    let l = c.loop-k in
    let f = found_in c.args.input.now in
    let past : (i : ℕ) → c.min-count.result ≤ i → i < 512 → code_of bytes i ≡ 0
    = λ i b h. get_or-eq_default (shot bytes).codes 0 (omega (arith, code_count_is bytes)) in
    all_filled (code_of bytes) 0 l.codes 512 512
    (rest_filled (code_of bytes) 0 l.codes 512 l.k l.invariant.filled (λ i b h. l.invariant.clear i b h ∙ sym (past i (omega arith) h))) refl
