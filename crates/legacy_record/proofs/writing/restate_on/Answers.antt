-- `legacy_record::writing::restate_on` meets its contract: by the results of questions 25 and 14. Assumes nothing.
use Rattle.std.proofs.Common.{◌≡◌, refl, sym, ◌∙◌, Bool, true, false, length, leb}
use Rattle.std.proofs.Math.Option.{Option, none, some}
use borrow.Author.Tests.{lt-leb, le-leb}
use Rattle.refusal.specs.declared.Refusal.{Refusal}
use Rattle.refusal.specs.declared.Refusal.TheVariants as refusal
use Rattle.refusal.specs.Questions.{ask}
use Rattle.lent_list.specs.Front.{at_exit}
use Rattle.shot_record.specs.Shots.{shot}
use Rattle.legacy_record.specs.Restating.{restated_bytes, sides_answer, asked_from25, converted_by}
use Rattle.legacy_record.proofs.Answered.{asked, told}
use Rattle.legacy_record.proofs.writing.restate_on.Goals as goal
use Rattle.legacy_record.proofs.writing.restate_on.Goals.{Start}

-- what was promised, from the answers of the two questions
module _ (c : Start) where
  abbrev last : Option Refusal
  last = asked_from25 c.args.board (length c.args.input.now.bytes.now) (length c.args.sheet.now)

  answered : (a b : Bool) (o : Option Refusal) → sides_answer c.args.board ≡ a → leb (length c.args.input.now.bytes.now) (length c.args.sheet.now) ≡ b
      → ask a refusal.EvenLegacyBoard (ask b refusal.ListTooShort none) ≡ o
      → (converted_by o (length c.args.input.now.bytes.now) ≡ converted_by last (length c.args.input.now.bytes.now))
      × (at_exit o (restated_bytes c.args.input.now.bytes.now (shot c.args.input.now.bytes.now)) c.args.sheet.now
      ≡ at_exit last (restated_bytes c.args.input.now.bytes.now (shot c.args.input.now.bytes.now)) c.args.sheet.now)
  answered a b o e f g =
      let bytes = c.args.input.now.bytes.now in
      let new = restated_bytes bytes (shot bytes) in
      told c.args.board (length bytes) new c.args.sheet.now o (asked c.args.board (length bytes) new c.args.sheet.now a b e f ∙ g)

pub returns-then-not-sides : goal.returns-then-not-sides
returns-then-not-sides c =
    let t = answered (goal.at.returns-then-not-sides c).Start false _ (some refusal.EvenLegacyBoard) (sym c.sides.ensures ∙ c.if-not-sides.true) refl refl in
    record { answer = t.0; list = t.1 }

pub returns-then-sheet-size : goal.returns-then-sheet-size
returns-then-sheet-size c =
    let short = lt-leb (length c.args.input.now.bytes.now) (length c.args.sheet.now) c.if-sheet-size.true in
    let t = answered (goal.at.returns-then-sheet-size c).Start true false (some refusal.ListTooShort) (sym c.sides.ensures ∙ c.if-not-sides.false) short refl in
    record { answer = t.0; list = t.1 }

pub returns : goal.returns
returns c =
    let room = le-leb (length c.args.input.now.bytes.now) (length c.args.sheet.now) c.if-sheet-size.false in
    let t = answered (goal.at.returns c).Start true true none (sym c.sides.ensures ∙ c.if-not-sides.false) room refl in
    record { answer = t.0; list = c.put_restated.ensures ∙ t.1 }
