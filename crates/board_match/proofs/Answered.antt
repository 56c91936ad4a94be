-- The result of the questions before 15 for a shot: how the program computes it, and what it states. Assumes nothing.
use mathlib.Core.Path.{◌≡◌, refl, sym, ap, ◌∙◌}
use mathlib.Core.List.{List}
use mathlib.Core.Option.{Option as Maybe, none, some}
use Prim.Native.Nat.{ℕ}
use native.Mathlib.Omega.{arith}
use Rattle.refusal.specs.declared.Refusal.{Refusal}
use Rattle.board.specs.declared.Board.{Board}
use Rattle.board.specs.Questions.{new_board}
use Rattle.board.proofs.Asked.{made, after_made, after_refused}
use Rattle.score_matrix.specs.declared.BoardMatchConfig.{BoardMatchConfig}
use Rattle.shot_record.specs.declared.fields.Fields.{Fields}
use Rattle.shot_record.specs.Fields.{fields_of}
use Rattle.shot_record.specs.Shots.{Shot, shot}
use Rattle.shot_record.specs.Answers.{config_of, spec_of}
use Rattle.shot_record.proofs.Reading.{found}
use Rattle.shot_record.proofs.CellReads.{cell_count_is}
use Rattle.hypothesis.specs.declared.Inputs.{Inputs}
use Rattle.hypothesis.specs.Inputs.{inputs_of}
use Rattle.board_match.specs.Questions.{asked_from9, asked_before15, told_answer, asked_with}
use Rattle.std.specs.Prelude.{Result, Ok, Err}

nothing_refused : (o : Maybe Refusal) → Ok tt ≡ told_answer o → o ≡ none
nothing_refused none e = refl
nothing_refused (some r) e = absurd (grind arith)

that_refused : (o : Maybe Refusal) (r : Refusal) → Err r ≡ told_answer o → o ≡ some r
that_refused none r e = absurd (grind arith)
that_refused (some q) r e = cc

passed_if : (o : Maybe Refusal) (t : Shot) (i : Inputs) → asked_with o t ≡ Ok i → (o ≡ none) × (i ≡ inputs_of t)
passed_if none t i e = (refl, cc)
passed_if (some r) t i e = absurd (grind arith)

refused_if : (o : Maybe Refusal) (t : Shot) (r : Refusal) → asked_with o t ≡ Err r → o ≡ some r
refused_if none t r e = absurd (grind arith)
refused_if (some q) t r e = cc

same_inputs : {m n g h : ℕ} {b d : Board} {c e : BoardMatchConfig} → m ≡ n → g ≡ h → b ≡ d → c ≡ e
    → ◌≡◌ {A = Inputs} (record { cells = m; grid_size = g; board = b; config = c }) (record { cells = n; grid_size = h; board = d; config = e })
same_inputs p q u v = cc

module _ (s : Shot) (words : ℕ) where
  abbrev board : Result Board Refusal
  board = new_board (spec_of s) s.codes

  abbrev asked : Result Inputs Refusal
  asked = asked_with (asked_before15 s words) s

  -- ---- how the program computes it
  refused_with : (r : Refusal) → asked_before15 s words ≡ some r → Err r ≡ asked
  refused_with r e = sym (ap (λ (o : Maybe Refusal). asked_with o s) e)

  pub board-refused : (r : Refusal) → Err r ≡ board → Err r ≡ asked
  board-refused r e = refused_with r (after_refused (spec_of s) s.codes (asked_from9 s words none) r (sym e))

  module _ (b : Board) (e : Ok b ≡ board) where
    left : asked_before15 s words ≡ asked_from9 s words none
    left = after_made (spec_of s) s.codes (asked_from9 s words none) b (sym e)

    pub later-refused : (r : Refusal) → Err r ≡ told_answer (asked_from9 s words none) → Err r ≡ asked
    later-refused r q = refused_with r (left ∙ that_refused (asked_from9 s words none) r q)

    pub all_passed : (i : Inputs) → i ≡ inputs_of s → Ok tt ≡ told_answer (asked_from9 s words none) → Ok i ≡ asked
    all_passed i h q = ap Ok h ∙ sym (ap (λ (o : Maybe Refusal). asked_with o s) (left ∙ nothing_refused (asked_from9 s words none) q))

  -- ---- what it states
  pub told-passed : (i : Inputs) → Ok i ≡ asked → (asked_before15 s words ≡ none) × (i ≡ inputs_of s)
  told-passed i e = passed_if (asked_before15 s words) s i (sym e)

  pub told-refused : (r : Refusal) → Err r ≡ asked → asked_before15 s words ≡ some r
  told-refused r e = refused_if (asked_before15 s words) s r (sym e)

-- the inputs of the search, from the fields of the record and its board
pub inputs-are : (bytes : List ℕ) (f : Fields) → f ≡ fields_of bytes → (b : Board) → Ok b ≡ new_board (spec_of (shot bytes)) (shot bytes).codes
    → (c : BoardMatchConfig) → c ≡ config_of (shot bytes)
    → ◌≡◌ {A = Inputs} (record { cells = f.cell_count; grid_size = f.grid_size; board = b; config = c }) (inputs_of (shot bytes))
inputs-are bytes f g b e c h =
    let l = found f bytes g in
    same_inputs (l.cell_count_is ∙ sym (cell_count_is bytes)) l.grid_size_is (made (spec_of (shot bytes)) (shot bytes).codes b (sym e)).1 h
