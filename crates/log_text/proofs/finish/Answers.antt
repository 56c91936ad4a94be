-- `log_text::finish` meets its contract: by whether there are bytes. Assumes nothing.
use mathlib.Core.Path.{◌≡◌, refl}
use mathlib.Core.List.{List, [], ◌∷◌}
use Prim.Native.Nat.{ℕ, ◌≤◌}
use native.Mathlib.Omega.{arith}
use lib.ListN.{length}
use borrow.Author.Rules.{rules}
use Rattle.place_text.proofs.Printing.{said_text, nothing, printed_length}
use Rattle.log_text.specs.Lines.{cut_line}
use Rattle.log_text.specs.Log.{rest_text}
use Rattle.log_text.proofs.finish.Goals as goal

empty_rest : (bytes : List ℕ) → length bytes ≡ 0 → [] ≡ rest_text bytes
empty_rest [] e = refl
empty_rest (b ∷ bs) e = absurd (omega (arith, e))

cut-rest : (bytes : List ℕ) → (length bytes ≡ 0 → ⊥) → cut_line (length bytes) ≡ rest_text bytes
cut-rest [] not-0 = absurd (not-0 refl)
cut-rest (b ∷ bs) not-0 = refl

pub returns-then-count-eq0 : goal.returns-then-count-eq0
returns-then-count-eq0 c =
    let bytes = c.args.bytes.now in record {
      line = λ none. said_text (empty_rest bytes c.if-count-eq0.true) (nothing (omega arith));
      room = omega arith;
    }

pub returns : goal.returns
returns c =
    let bytes = c.args.bytes.now in
    let p = c.put_cut.ensures.printed in
    let page = c.put_cut.new.page in
    let room : page.at ≤ length page.text.now = omega (arith, p.place, printed_length p) in record {
      line = λ none. search (rules, said_text (cut-rest bytes c.if-count-eq0.false) p);
      room = search (rules, room);
    }
