-- The sections of a well-formed record: head, codes, cells. Assumes nothing.
use mathlib.Core.Path.{◌≡◌, refl, sym, ap, ◌∙◌, subst}
use Prim.Native.Nat.{ℕ, ◌*◌}
use native.Mathlib.Omega.{arith}
use mathlib.Core.List.{List, [], ◌∷◌, ◌++◌, append_assoc}
use lib.ListN.{length, take, length-append, length-drop}
use lib.Seq.{take_at}
use Rattle.shot_record.specs.Fields.{map_byte, code_count, codes_at}
use Rattle.shot_record.specs.Shots.{shot}
use Rattle.shot_record.specs.Writing.{joined, head_fields, code_bytes, cell_fields, bytes_of, Bytes, Sections, SectionsRule}
use Rattle.shot_record.proofs.Reading.{code_count_is}
use Rattle.shot_record.proofs.Runs.{Runs}
use Rattle.shot_record.proofs.Sequences.{each-length}
use Rattle.shot_record.proofs.Whole.{Whole, parsed}
use Rattle.shot_record.proofs.WrittenBack as written

pub joined_append : (xs ys : List (List ℕ)) → joined (xs ++ ys) ≡ joined xs ++ joined ys
joined_append [] ys = refl
joined_append (x ∷ xs) ys = ap (λ (l : List ℕ). x ++ l) (joined_append xs ys) ∙ sym (append_assoc x (joined xs) (joined ys))

-- the bytes before an offset, where the rest is known
before : (bytes first rest : List ℕ) (at : ℕ) → bytes ≡ first ++ rest → Runs bytes at rest → take at bytes ≡ first
before bytes first rest at e r =
    let size : length first ≡ at = omega (arith, r.inside, ap length r.holds, length-drop at bytes, ap length e, length-append first rest) in
    ap (take at) e ∙ take_at first rest at size

of_whole : (bytes : List ℕ) → Bytes bytes → Whole bytes → Sections bytes (shot bytes)
unfolding bytes_of
of_whole bytes b w =
    let m = map_byte bytes in
    let s = shot bytes in
    let codes = written.codes bytes b w in
    record {
      head = before bytes (joined (head_fields m s)) (joined (code_bytes s ∷ cell_fields s.cells)) (codes_at bytes)
          (written.bytes_are bytes b w ∙ joined_append (head_fields m s) (code_bytes s ∷ cell_fields s.cells)) codes;
      codes = ap (take (8 * code_count bytes)) codes.holds
          ∙ take_at (code_bytes s) (joined (cell_fields s.cells)) (8 * code_count bytes) (each-length 8 s.codes ∙ ap (λ (n : ℕ). 8 * n) (code_count_is bytes));
      cells = (written.cell_count_is bytes b w).holds;
    }

pub sections : SectionsRule
sections bytes b s e = let p = parsed bytes s e in subst (Sections bytes) p.1 (of_whole bytes b p.0)
