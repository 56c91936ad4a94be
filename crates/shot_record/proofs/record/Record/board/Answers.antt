-- `shot_record::questions::Record::board` meets its contract: questions 1 to 7, then 8 and 22. Assumes nothing.
use Rattle.std.proofs.Common.{◌≡◌, sym, ap, ap₂, ◌∙◌, ℕ, List, not, min, length, get_or, Ok, arith}
use Rattle.std.proofs.lemmas.Result.{err_from_is_err_and}
use Rattle.board.specs.declared.CharucoBoardSpec.{CharucoBoardSpec}
use Rattle.board.specs.declared.Board.{Board}
use Rattle.alike.specs.Alike.{two_alike}
use Rattle.alike.proofs.Laws.{past_the_last}
use Rattle.board.specs.Layout.{marker_total}
use Rattle.board.specs.Questions.{sized_board, apart_answer}
use Rattle.board.proofs.Asked.{sized_bits, sized_few, sized_count, then_codes, sized_refused}
use Rattle.shot_record.specs.declared.record.Record.{Record}
use Rattle.shot_record.specs.Shots.{Shot, first_codes, shot}
use Rattle.shot_record.specs.Answers.{spec_of}
use Rattle.shot_record.proofs.Lists.{get_d_list}
use Rattle.shot_record.proofs.Reading.{code_count_is}
use Rattle.shot_record.proofs.Records.{found_in}
use Rattle.shot_record.proofs.record.Record.board.Goals as goal
use Rattle.shot_record.proofs.record.Record.board.Goals.{After-sized, In_ok-board}

abbrev codes : Record → List ℕ
codes r = (shot r.bytes.now).codes

abbrev spec : Record → CharucoBoardSpec
spec r = spec_of (shot r.bytes.now)

-- questions 1 to 7
answer : (c : After-sized) → c.sized.result ≡ sized_board (spec c.args.self.now) (length (codes c.args.self.now))
answer c =
    let r = c.args.self.now in
    c.sized.ensures ∙ ap₂ sized_board c.spec.ensures ((found_in r).code_count_is ∙ sym (code_count_is r.bytes.now))

-- the board that passed them
board-made : (c : In_ok-board) → Ok c.in_ok-board.board ≡ sized_board (spec c.args.self.now) (length (codes c.args.self.now))
board-made c = sym c.in_ok-board.was ∙ answer (goal.at.In_ok-board c).After-sized

pub codes_below-in_range-requires : goal.codes_below-in_range-requires
codes_below-in_range-requires c =
    let r = c.args.self.now in
    let bits = sized_bits (spec r) (length (codes r)) c.in_ok-board.board (sym (board-made c)) in
    (bits.0, bits.1, c.requires)

pub judged-requires : goal.judged-requires
judged-requires c =
    let r = c.args.self.now in
    sized_bits (spec r) (length (codes r)) c.in_ok-board.board (sym (board-made (goal.at.judged-requires c).In_ok-board))

-- the first 512 codes include all that markers use
apart : (s : Shot) (first : List ℕ) (b : Board) → first ≡ first_codes s → sized_board (spec_of s) (length s.codes) ≡ Ok b
    → not (two_alike b.bits first (min (marker_total b) 512)) ≡ apart_answer b s.codes
apart s first b e made =
    ap₂ (λ (l : List ℕ) (n : ℕ). not (two_alike b.bits l n)) e (sized_count (spec_of s) (length s.codes) b made)
    ∙ ap not (past_the_last b.bits (first_codes s) s.codes (marker_total b)
    (λ k l. get_d_list (λ (j : ℕ). get_or s.codes j 0) 512 k 0 (omega (arith, l, sized_few (spec_of s) (length s.codes) b made))))

pub returns : goal.returns
returns c =
    let r = c.args.self.now in
    let made = board-made (goal.at.returns c).In_ok-board in
    c.judged.ensures
    ∙ then_codes (spec r) (codes r) c.in_ok-board.board _ _ made c.codes_below-in_range.ensures (apart (shot r.bytes.now) _ c.in_ok-board.board c.requires (sym made))

pub returns-in_err-board : goal.returns-in_err-board
returns-in_err-board c =
    let r = c.args.self.now in
    let p = err_from_is_err_and c.from_residual.result c.from_residual.ensures.1 in
    rw (p.1, p.2) (sized_refused (spec r) (codes r) _ (sym c.in_err-board.was ∙ answer (goal.at.returns-in_err-board c).After-sized))
