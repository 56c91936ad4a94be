-- `refusal_values::put_values` meets its contract: the words are those of Match's result and of the header. Assumes nothing.
use mathlib.Core.Path.{◌≡◌, ap₂, subst, ◌∙◌}
use mathlib.Core.List.{List}
use Prim.Native.Nat.{ℕ, ◌≤◌}
use lib.ListN.{length}
use Rattle.place_text.proofs.Printing.{said_text}
use Rattle.refusal_values.specs.Values.{number_in, value_in, minimum_in, words_line}
use Rattle.refusal_values.proofs.put_values.Goals as goal
use Rattle.std.specs.Prelude.{Result}
use Rattle.board_match.specs.declared.Match.{Match}
use Rattle.refusal.specs.declared.Refusal.{Refusal}
use Rattle.shot_record.specs.declared.Header.{Header}

-- the line for a result and a header
abbrev line_of : Result Match Refusal → Result Header Refusal → List ℕ
line_of a h = words_line (number_in a) (value_in a 0) (value_in a 1) (minimum_in h)

words : {k x y z : ℕ} (a : Result Match Refusal) (h : Result Header Refusal) → k ≡ number_in a → x ≡ value_in a 0 → y ≡ value_in a 1 → z ≡ minimum_in h
    → words_line k x y z ≡ line_of a h
words a h ek ex ey ez = λ i. words_line (ek i) (ex i) (ey i) (ez i)

pub returns : goal.returns
returns c =
    let own = words c.match_board-answer.result c.read_header-header.result c.number_in-number.ensures c.value_in-first.ensures
    c.value_in-second.ensures c.minimum_in.ensures in
    let same = own ∙ ap₂ line_of c.match_board-answer.ensures.answer c.read_header-header.ensures in record {
      line = said_text same c.put_words.ensures.line;
      room = subst (λ (l : List ℕ). length l ≤ 44) same c.put_words.ensures.room;
    }
