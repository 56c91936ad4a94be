-- `board_match::questions::from_9` meets its contract: the questions in order, the rest after each that passes. Assumes nothing.
use mathlib.Core.Path.{◌≡◌, sym, ap, ◌∙◌}
use mathlib.Core.Bool.{Bool, true, false, ◌&&◌}
use mathlib.Core.List.{List}
use Prim.Native.Nat.{ℕ, ◌*◌, ◌≤◌}
use native.Mathlib.Omega.{arith}
use lib.Dec.{leb}
use lib.ListN.{length}
use borrow.Author.Tests.{lt-leb, le-leb, lt-ltb, le-ltb}
use Rattle.integers.specs.Tests.{every}
use Rattle.points.specs.Points.{all_apart, point_of}
use Rattle.shot_record.specs.declared.record.Record.{Record}
use Rattle.shot_record.specs.Fields.{cell_count}
use Rattle.shot_record.specs.Shots.{Shot, shot, whole_record}
use Rattle.shot_record.specs.Answers.{config_of}
use Rattle.shot_record.specs.Index.{Index}
use Rattle.shot_record.proofs.Reading.{found}
use Rattle.shot_record.proofs.Whole.{passed}
use Rattle.shot_record.proofs.CellReads.{cell_count_is}
use Rattle.hypothesis.specs.Placements.{cell}
use Rattle.board_match.specs.Questions.{placed_answer, settings_answer, table_answer, some_answer, cells_answer, points_answer}
use Rattle.board_match.specs.Questions.{samples_answer, asked_from9}
use Rattle.board_match.specs.Entries.{placed_in, sampled_in}
use Rattle.board_match.proofs.CellAnswers.{placed-are, points_small, points_are, samples-are}
use Rattle.board_match.proofs.questions.from_9.Goals as goal
use Rattle.board_match.proofs.questions.from_9.Goals.{Else-not-settings, Else-not-table_passes, Else-count-eq0, Else-not-all_placed, Else-not-all_different}
use Rattle.board_match.proofs.questions.from_9.Goals.{Else-not-all_sampled}

abbrev shot_in : Record → Shot
shot_in r = shot r.bytes.now

all : (r : Record) → r.fields.cell_count ≡ cell_count r.bytes.now
all r = (found r.fields r.bytes.now r.located).cell_count_is

count : (r : Record) → r.fields.cell_count ≡ length (shot_in r).cells
count r = all r ∙ sym (cell_count_is r.bytes.now)

-- ---- 9
yes9 : (c : Else-not-settings) → settings_answer (config_of (shot_in c.args.input.now)) ≡ true
yes9 c = sym (c.settings.ensures ∙ ap settings_answer c.requires.2) ∙ c.if-not-settings.false

pub returns-then-not-settings : goal.returns-then-not-settings
unfolding asked_from9
returns-then-not-settings c = rw (sym (c.settings.ensures ∙ ap settings_answer c.requires.2) ∙ c.if-not-settings.true)

-- ---- 10
yes10 : (c : Else-not-table_passes) → table_answer (shot_in c.args.input.now) ≡ true
yes10 c = sym c.table_passes.ensures ∙ c.if-not-table_passes.false

pub returns-then-not-table_passes : goal.returns-then-not-table_passes
unfolding asked_from9
returns-then-not-table_passes c =
    let g = goal.at.returns-then-not-table_passes c in
    rw (yes9 g.Else-not-settings, sym c.table_passes.ensures ∙ c.if-not-table_passes.true)

-- ---- 11
yes11 : (c : Else-count-eq0) → some_answer (shot_in c.args.input.now) ≡ true
yes11 c =
    let r = c.args.input.now in
    lt-ltb 0 (length (shot_in r).cells) (omega (arith, count r, c.if-count-eq0.false))

pub returns-then-count-eq0 : goal.returns-then-count-eq0
unfolding asked_from9
returns-then-count-eq0 c =
    let g = goal.at.returns-then-count-eq0 c in
    let r = c.args.input.now in
    rw (yes9 g.Else-not-settings, yes10 g.Else-not-table_passes, le-ltb 0 (length (shot_in r).cells) (omega (arith, count r, c.if-count-eq0.true)))

-- ---- 12
abbrev placed : Shot → Bool
placed t = every (λ (k : ℕ). placed_answer (cell t k)) (length t.cells)

too_many : (t : Shot) → leb (length t.cells) 256 ≡ false → cells_answer t ≡ false
too_many t e = ap (λ (b : Bool). b && placed t) e

few : (t : Shot) (b : Bool) → leb (length t.cells) 256 ≡ true → b ≡ placed t → cells_answer t ≡ b
few t b e p = ap (λ (a : Bool). a && placed t) e ∙ sym p

pub returns-then-count-gt256 : goal.returns-then-count-gt256
unfolding asked_from9
returns-then-count-gt256 c =
    let g = goal.at.returns-then-count-gt256 c in
    let r = c.args.input.now in
    let no = too_many (shot_in r) (lt-leb (length (shot_in r).cells) 256 (omega (arith, count r, c.if-count-gt256.true))) in
    rw (yes9 g.Else-not-settings, yes10 g.Else-not-table_passes, yes11 g.Else-count-eq0, no)

-- ---- 12, 23 and 13 of the indexed cells
module _ (r : Record) (index : List ℕ) (held : Index r.bytes.now index) (h : r.fields.cell_count ≤ 256) (b : Bool) where
  answer_12 : b ≡ every (placed_in index) r.fields.cell_count → cells_answer (shot_in r) ≡ b
  answer_12 e =
      few (shot_in r) b (le-leb (length (shot_in r).cells) 256 (omega (arith, h, count r))) (e ∙ placed-are r.bytes.now index held _ (all r) h)

  answer_23 : b ≡ all_apart (point_of index) r.fields.cell_count → points_answer (shot_in r) ≡ b
  answer_23 e = sym (e ∙ points_are r.bytes.now index held _ (all r) h)

  answer_13 : whole_record r.bytes.now ≡ true → b ≡ every (sampled_in index) r.fields.cell_count → samples_answer (shot_in r) ≡ b
  answer_13 w e = sym (e ∙ samples-are r.bytes.now index held _ (all r) h (passed r.bytes.now w))

yes12 : (c : Else-not-all_placed) → cells_answer (shot_in c.args.input.now) ≡ true
yes12 c = answer_12 c.args.input.now c.args.index.now c.requires.0 c.if-count-gt256.false _ c.all_placed.ensures ∙ c.if-not-all_placed.false

pub returns-then-not-all_placed : goal.returns-then-not-all_placed
unfolding asked_from9
returns-then-not-all_placed c =
    let g = goal.at.returns-then-not-all_placed c in
    let no = answer_12 c.args.input.now c.args.index.now c.requires.0 c.if-count-gt256.false _ c.all_placed.ensures ∙ c.if-not-all_placed.true in
    rw (yes9 g.Else-not-settings, yes10 g.Else-not-table_passes, yes11 g.Else-count-eq0, no)

pub all_different-requires : goal.all_different-requires
all_different-requires c =
    let r = c.args.input.now in
    let h = c.if-count-gt256.false in
    (h, points_small r.bytes.now c.args.index.now c.requires.0 _ (all r) h)

yes23 : (c : Else-not-all_different) → points_answer (shot_in c.args.input.now) ≡ true
yes23 c = answer_23 c.args.input.now c.args.index.now c.requires.0 c.if-count-gt256.false _ c.all_different.ensures ∙ c.if-not-all_different.false

pub returns-then-not-all_different : goal.returns-then-not-all_different
unfolding asked_from9
returns-then-not-all_different c =
    let g = goal.at.returns-then-not-all_different c in
    let no = answer_23 c.args.input.now c.args.index.now c.requires.0 c.if-count-gt256.false _ c.all_different.ensures ∙ c.if-not-all_different.true in
    rw (yes9 g.Else-not-settings, yes10 g.Else-not-table_passes, yes11 g.Else-count-eq0, yes12 g.Else-not-all_placed, no)

yes13 : (c : Else-not-all_sampled) → samples_answer (shot_in c.args.input.now) ≡ true
yes13 c = answer_13 c.args.input.now c.args.index.now c.requires.0 c.if-count-gt256.false _ c.requires.1 c.all_sampled.ensures ∙ c.if-not-all_sampled.false

pub returns-then-not-all_sampled : goal.returns-then-not-all_sampled
unfolding asked_from9
returns-then-not-all_sampled c =
    let g = goal.at.returns-then-not-all_sampled c in
    let no = answer_13 c.args.input.now c.args.index.now c.requires.0 c.if-count-gt256.false _ c.requires.1 c.all_sampled.ensures ∙ c.if-not-all_sampled.true in
    rw
    (yes9 g.Else-not-settings, yes10 g.Else-not-table_passes, yes11 g.Else-count-eq0, yes12 g.Else-not-all_placed, yes23 g.Else-not-all_different, no)

-- ---- 14
pub returns-then-words-count : goal.returns-then-words-count
unfolding asked_from9
returns-then-words-count c =
    let g = goal.at.returns-then-words-count c in
    let r = c.args.input.now in
    let no = lt-leb (18 * length (shot_in r).cells) c.args.words (omega (arith, count r, c.if-words-count.true)) in
    rw (
      yes9 g.Else-not-settings,
      yes10 g.Else-not-table_passes,
      yes11 g.Else-count-eq0,
      yes12 g.Else-not-all_placed,
      yes23 g.Else-not-all_different,
      yes13 g.Else-not-all_sampled,
      no,
    )

pub returns : goal.returns
unfolding asked_from9
returns c =
    let g = goal.at.returns c in
    let r = c.args.input.now in
    let yes = le-leb (18 * length (shot_in r).cells) c.args.words (omega (arith, count r, c.if-words-count.false)) in
    rw (
      yes9 g.Else-not-settings,
      yes10 g.Else-not-table_passes,
      yes11 g.Else-count-eq0,
      yes12 g.Else-not-all_placed,
      yes23 g.Else-not-all_different,
      yes13 g.Else-not-all_sampled,
      yes,
    )
