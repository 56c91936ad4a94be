-- `charuco::records::charuco_grid` meets its contract. Assumes nothing.
use mathlib.Core.Path.{◌≡◌, sym, ap, ap₂, subst, ◌∙◌}
use mathlib.Core.List.{List, [], ◌∷◌}
use Prim.Native.Nat.{ℕ, ◌-◌, ◌≤◌}
use lib.ListN.{length, take, drop}
use Rattle.shot_record.specs.declared.cells.Part.{Part}
use Rattle.charuco.specs.Records.{part_words, grid_told, Lies}
use Rattle.charuco.specs.Answers.{worked}
use Rattle.charuco.proofs.Giving.{telling}
use Rattle.charuco.proofs.records.charuco_grid.Goals as goal
use Rattle.std.specs.Prelude.{Result}
use Rattle.refusal.specs.declared.Refusal.{Refusal}
use Rattle.shot_record.specs.declared.Header.{Header}

lies_there : {bytes grid : List ℕ} {p q : Part} → p ≡ q → p.end ≤ length bytes → take (p.end - p.first) (drop p.first bytes) ≡ grid → Lies bytes q grid
lies_there {bytes} {grid} {p} {q} e inside holds = subst (λ (x : Part). Lies bytes x grid) e (record { inside = inside; holds = holds })

pub returns-in-Ok : goal.returns-in-Ok
returns-in-Ok c =
    let s = c.args in
    let g = c.grid_part-part.ensures in
    let words = ap₂ (λ (x y : ℕ). x ∷ y ∷ []) c.count_word.ensures c.count_word-in-Ok.ensures in record {
      answer = telling
          (ap worked (words ∙ ap part_words g.place)
          ∙ ap (λ (h : Result Header Refusal). grid_told s.bytes.now h s.k) (sym c.in-Ok.is ∙ c.read_header-header.ensures))
          c.worked.ensures;
      grid = lies_there g.place g.lies.1 g.holds;
    }

pub returns-in-Err : goal.returns-in-Err
returns-in-Err c =
    let s = c.args in
    let g = c.grid_part-part.ensures in record {
      answer = telling (ap (λ (x : Result Header Refusal). grid_told s.bytes.now x s.k) (sym c.in-Err.is ∙ c.read_header-header.ensures)) c.refused.ensures;
      grid = lies_there g.place g.lies.1 g.holds;
    }
