-- `oracle_exports::oracle_corner_translation` meets its contract. Assumes nothing.
use mathlib.Core.Path.{ap, ap₂, ◌∙◌}
use native.Mathlib.Omega.{arith}
use mir.Syntax.{w32}
use mir.ValLaws.{to_z-of_z}
use Rattle.grid_alignment.specs.declared.Coord.{Coord}
use Rattle.grid_alignment.specs.declared.GridAlignment.{GridAlignment}
use Rattle.grid_alignment.specs.Alignment.{point, corner_alignment}
use Rattle.integers.proofs.Words.{widened, widened_fits, widened_small}
use Rattle.oracle_exports.specs.Words.{axis_of}
use Rattle.oracle_exports.proofs.oracle_corner_translation.Goals as goal

pub returns : goal.returns
returns c =
    let cells = c.cell_to_corner_alignment-corners in
    let told = c.struct_told-1.given in
    to_z-of_z w32 c.along.result (record { sfits = c.along.type_inv }) ∙ c.along.ensures
    ∙ ap (λ (p : Coord). axis_of p c.args.axis)
    (ap₂ point (to_z-of_z w32 cells.result.tx (record { sfits = told.1.0.1 })) (to_z-of_z w32 cells.result.ty (record { sfits = told.1.1.0.1 }))
    ∙ ap (λ (a : GridAlignment). point a.tx a.ty)
    (cells.ensures
    ∙ (λ i. corner_alignment (record { turn = c.args.turn; tx = widened c.args.tx c.ranges.tx i; ty = widened c.args.ty c.ranges.ty i }))))

pub overflow_cast-cells : goal.overflow_cast-cells
overflow_cast-cells c = widened_fits c.args.tx c.ranges.tx

pub overflow_cast-cells-2 : goal.overflow_cast-cells-2
overflow_cast-cells-2 c = widened_fits c.args.ty c.ranges.ty

pub cell_to_corner_alignment-corners-requires : goal.cell_to_corner_alignment-corners-requires
cell_to_corner_alignment-corners-requires c = omega (arith, widened_small c.args.tx c.ranges.tx, widened_small c.args.ty c.ranges.ty)
