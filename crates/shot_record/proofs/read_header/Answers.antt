-- `shot_record::read_header` meets its contract. Assumes nothing.
use Rattle.std.proofs.Common.{◌≡◌, refl, sym, ap, ◌∙◌, ℕ, Result, Ok}
use Rattle.std.proofs.lemmas.Result.{err_from_is_err_and}
use Rattle.board.specs.declared.CharucoBoardSpec.{CharucoBoardSpec}
use Rattle.score_matrix.specs.declared.BoardMatchConfig.{BoardMatchConfig}
use Rattle.refusal.specs.declared.Refusal.{Refusal}
use Rattle.shot_record.specs.declared.Header.{Header}
use Rattle.shot_record.specs.Fields.{map_byte}
use Rattle.shot_record.proofs.Lists.{length-list}
use Rattle.shot_record.proofs.Records.{found_in}
use Rattle.shot_record.proofs.Whole.{refused, read_as}
use Rattle.shot_record.proofs.read_header.Goals as goal

pub returns-in_err-record : goal.returns-in_err-record
returns-in_err-record c =
    let p = err_from_is_err_and c.from_residual.result c.from_residual.ensures.1 in
    let h = c.in_err-record.ensures.refused in
    rw (p.1, p.2, h.0, refused _ h.1) refl

header : ℕ → BoardMatchConfig → CharucoBoardSpec → ℕ → ℕ → Header
header map config spec codes cells = record { map = map; config = config; spec = spec; code_count = codes; cell_count = cells }

headers_alike : {map map' codes codes' cells cells' : ℕ} {config config' : BoardMatchConfig} {spec spec' : CharucoBoardSpec}
    → map ≡ map' → config ≡ config' → spec ≡ spec' → codes ≡ codes' → cells ≡ cells'
    → ◌≡◌ {A = Result Header Refusal} (Ok (header map config spec codes cells)) (Ok (header map' config' spec' codes' cells'))
headers_alike m c s n k = cc

pub returns : goal.returns
unfolding header
returns c =
    let h = c.in_ok-record.ensures.whole in
    let f = found_in c.in_ok-record.record in
    rw (read_as _ _ h.0 h.1)
    (headers_alike (f.map ∙ ap map_byte h.0) c.config.ensures c.spec.ensures (f.code_count_is ∙ sym (length-list _ _)) (f.cell_count_is ∙ sym (length-list _ _)))
