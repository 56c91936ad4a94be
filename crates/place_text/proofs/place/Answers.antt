-- `place_text::place` meets its contract: the record ends after `read` bytes or with the array, and the text of every result fits. Assumes nothing.
use mathlib.Core.Path.{◌≡◌, ap, ◌∙◌}
use mathlib.Core.List.{List}
use Prim.Native.Nat.{ℕ, min}
use native.Mathlib.Omega.{arith}
use lib.ListN.{length, take}
use borrow.Author.Rules.{rules}
use Rattle.std.proofs.lemmas.List.{take_min}
use Rattle.board_match.specs.Match.{match_list}
use Rattle.lent_list.specs.Front.{in_front}
use Rattle.place_text.specs.Place.{place_text}
use Rattle.place_text.proofs.place.Goals as goal

pub returns : goal.returns
returns c =
    let p = c.answer_text.ensures in
    let bytes = c.args.bytes.now in
    let lent = c.args.markers.now in
    let end : c.min.result ≡ min c.args.read (length bytes) = omega (arith, c.min.ensures) in
    let same : take c.min.result bytes ≡ take c.args.read bytes = ap (λ (k : ℕ). take k bytes) end ∙ take_min c.args.read bytes in
    let whole : c.answer_text.result ≡ length (place_text (take c.min.result bytes) lent) = omega (arith, p.count, p.room) in record {
      length = whole ∙ ap (λ (l : List ℕ). length (place_text l lent)) same;
      text = p.text ∙ ap (λ (l : List ℕ). in_front (place_text l lent) c.args.text.now) same;
      list = p.list ∙ ap (λ (l : List ℕ). match_list l lent) same;
      room = search rules;
    }
