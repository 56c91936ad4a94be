-- `place_text::answer_text` meets its contract: elements are in the range of their types, so that the text fits. Assumes nothing.
use mathlib.Core.Path.{◌≡◌, ap, ap₂, subst, ◌∙◌}
use mathlib.Core.List.{List}
use Prim.Native.Nat.{ℕ, ◌^◌, ◌<◌, min}
use borrow.Author.Rules.{rules}
use lib.ListN.{length, get_or}
use Rattle.place_text.specs.Text.{text_of}
use Rattle.lent_list.specs.Front.{in_front}
use Rattle.place_text.specs.Place.{place_text}
use Rattle.place_text.proofs.Lengths.{room}
use Rattle.place_text.proofs.answer_text.Goals as goal

pub returns : goal.returns
returns c =
    let bytes = c.args.bytes.now in
    let lent = c.args.markers.now in
    let text = c.args.text.now in
    let answer = c.match_board-answer.ensures.answer in
    let list = c.match_board-answer.ensures.list in
    let same : text_of c.match_board-answer.result c.match_board-answer.new.markers ≡ place_text bytes lent = ap₂ text_of answer list in record {
      count = c.format.ensures.count ∙ ap (λ (t : List ℕ). min (length t) (length text)) same;
      text = c.format.ensures.list ∙ ap (λ (t : List ℕ). in_front t text) same;
      list = list;
      room = room bytes lent (λ i. (c.type_inv.bytes i).fits)
          (subst (λ (l : List ℕ). (k : ℕ) → get_or l k 0 < 2 ^ 32) list (λ k. search rules));
    }
