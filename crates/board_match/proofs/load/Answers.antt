-- `board_match::load` meets its contract. Assumes nothing.
use mathlib.Core.Path.{◌≡◌, refl, ap, subst, ◌∙◌}
use mathlib.Core.Bool.{true}
use mathlib.Core.List.{List, map}
use mathlib.Core.Option.{Option as Maybe}
use Prim.Native.Nat.{ℕ}
use lib.Ieee.{Float}
use Rattle.std.specs.Prelude.{Ok, Err}
use Rattle.std.proofs.lemmas.Result.{err_from_is_err_and}
use Rattle.shot_record.specs.Shots.{Shot, first_codes, shot, whole_record}
use Rattle.shot_record.specs.Answers.{of_pattern}
use Rattle.shot_record.specs.Index.{Index}
use Rattle.shot_record.proofs.Reading.{Small}
use Rattle.shot_record.proofs.Whole.{passed, parse-whole, refused}
use Rattle.hypothesis.specs.declared.Inputs.{Inputs}
use Rattle.hypothesis.specs.Inputs.{Loaded}
use Rattle.board_match.specs.Questions.{asked_before15, after_record, asked_with}
use Rattle.board_match.proofs.Sound.{sound}
use Rattle.board_match.proofs.Answered.{told-passed, told-refused}
use Rattle.board_match.proofs.Passing.{passes}
use Rattle.board_match.proofs.load.Goals as goal
use Rattle.board_match.proofs.load.Goals.{In_ok-inputs}

-- question 21
pub returns-in_err-record-clause-refused : goal.returns-in_err-record-clause-refused
returns-in_err-record-clause-refused c =
    let p = err_from_is_err_and c.from_residual.result c.from_residual.ensures.1 in
    let e = c.in_err-record.ensures.refused in
    let bytes = c.args.bytes.now in
    rw (p.1, p.2, e.0) (ap (λ (o : Maybe Shot). after_record o c.args.words) (refused bytes e.1))

-- the questions after it
pub returns-in_err-inputs-clause-refused : goal.returns-in_err-inputs-clause-refused
returns-in_err-inputs-clause-refused c =
    let p = err_from_is_err_and c.from_residual-in_err-inputs.result c.from_residual-in_err-inputs.ensures.1 in
    let w = c.in_ok-record.ensures.whole in
    let bytes = c.args.bytes.now in
    let words = c.args.words in
    let answer = subst (λ (b : List ℕ). Err c.in_err-inputs.field-0.0 ≡ asked_with (asked_before15 (shot b) words) (shot b)) w.0 c.in_err-inputs.ensures in
    rw (p.1, p.2) (ap (λ (o : Maybe Shot). after_record o words) (parse-whole bytes (passed bytes w.1)) ∙ told-refused (shot bytes) words _ answer)

-- what was read
module _ (words : ℕ) (i : Inputs) (index : List ℕ) (table : List Float) (codes : List ℕ) where
  abbrev WasRead : List ℕ → Type 0
  WasRead bytes =
      Index bytes index × (table ≡ map of_pattern (shot bytes).table) × (codes ≡ first_codes (shot bytes))
      × (Ok i ≡ asked_with (asked_before15 (shot bytes) words) (shot bytes))

  loaded : (bytes : List ℕ) → Small bytes → whole_record bytes ≡ true → WasRead bytes → Loaded bytes i index table codes
  loaded bytes small whole r =
      let told = told-passed (shot bytes) words i r.3 in
      record {
        ready = record { passed = passes bytes small whole words (sound (shot bytes) words told.0); is = told.1; indexed = r.0; whole = whole };
        table_is = r.1;
        codes_are = r.2;
      }

was_read : (c : In_ok-inputs) → WasRead c.args.words c.in_ok-inputs.inputs c.fill.new.index c.table.new.entries c.codes.new.codes c.args.bytes.now
was_read c =
    subst (WasRead c.args.words c.in_ok-inputs.inputs c.fill.new.index c.table.new.entries c.codes.new.codes) c.in_ok-record.ensures.whole.0
    (c.fill.ensures.filled, c.table.ensures, c.codes.ensures, c.in_ok-inputs.ensures)

pub invariant_of-result : goal.invariant_of-result
invariant_of-result c =
    record {
      loaded = loaded c.args.words _ _ _ _ c.args.bytes.now (λ k. (c.type_inv.bytes k).fits) c.in_ok-record.ensures.whole.1 (was_read c);
    }

pub returns-clause-passed : goal.returns-clause-passed
returns-clause-passed c = (refl, (told-passed (shot c.args.bytes.now) c.args.words _ (was_read (goal.at.returns-clause-passed c).In_ok-inputs).3).0)
