-- `board_match::place_found` meets its contract. Assumes nothing.
use mathlib.Core.Path.{◌≡◌, refl, sym, ◌∙◌}
use Rattle.std.specs.Prelude.{Option, Some, None, Err}
use Rattle.std.specs.Option.{ok_or}
use Rattle.std.proofs.Common.{arith}
use Rattle.std.proofs.lemmas.Result.{err_from_is_err_and}
use Rattle.refusal.specs.declared.Refusal.{Refusal}
use Rattle.shot_record.specs.Shots.{shot}
use Rattle.hypothesis.specs.declared.Selection.{Selection}
use Rattle.hypothesis.proofs.Best.{no_placement}
use Rattle.board_match.proofs.Placing.{no_window}
use Rattle.board_match.proofs.place_found.Goals as goal

none_found : (found : Option Selection) (r q : Refusal) → Err r ≡ ok_or found q → (found ≡ None) × (r ≡ q)
none_found None r q e = (refl, cc)
none_found (Some x) r q e = absurd (grind arith)

pub returns-in_err-ok_or : goal.returns-in_err-ok_or
returns-in_err-ok_or c =
    let l = c.args.loaded.now in
    let p = err_from_is_err_and c.from_residual.result c.from_residual.ensures.1 in
    let none = none_found c.args.found _ _ c.in_err-ok_or.ensures.value in
    rw (p.1, p.2, none.1)
    (no_window l.bytes.now c.args.markers.now l.loaded.ready.whole c.requires.1 (no_placement (shot l.bytes.now) (sym c.requires.0 ∙ none.0)))
