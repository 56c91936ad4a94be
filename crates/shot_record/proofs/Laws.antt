-- Parsing and encoding a record are inverse to each other; a least weight of 0 may be written or left out. Assumes nothing.
use mathlib.Core.Path.{◌≡◌, sym, ap, ◌∙◌, subst}
use Prim.Native.Nat.{ℕ, zero, suc, ◌+◌}
use native.Mathlib.Omega.{arith}
use mathlib.Core.Bool.{not}
use lib.Dec.{eqb}
use Rattle.matcher.specs.Codes.{bit}
use Rattle.matcher.proofs.Bits.{bit-under}
use Rattle.score_matrix.specs.Table.{patterns}
use Rattle.shot_record.specs.Shots.{Shot, default_margin, default_threshold, default_px, default_least_weight}
use Rattle.shot_record.specs.Writing.{bytes_of, Default, Fit, WrittenShot, ReadBack, WrittenBack, OneToOne, LeastWeightLeftOut, ZeroLeastWeight}
use Rattle.shot_record.proofs.Whole.{parsed}
use Rattle.shot_record.proofs.ReadBack.{written, written_parses}
use Rattle.shot_record.proofs.WrittenBack.{whole_written}

pub read_back : ReadBack
read_back m s f = written_parses (bytes_of m s) s (written m s f)

pub written_back : WrittenBack
written_back bytes b s e = let p = parsed bytes s e in subst (WrittenShot bytes) p.1 (whole_written bytes b p.0)

pub one_to_one : OneToOne
one_to_one a b below-a below-b s p q e =
    (written_back a below-a s p).same ∙ ap (λ (m : ℕ). bytes_of m s) e ∙ sym (written_back b below-b s q).same

-- ---- bit 5
-- a setting keeps its default under another map byte with the same flag
pub kept_default : {A : Type 0} (m n k : ℕ) (x default : A) → bit n k ≡ bit m k → Default (bit m k) x default → Default (bit n k) x default
kept_default m n k x default e = subst (λ (b : ℕ). Default b x default) (sym e)

as_default : {A : Type 0} (b : ℕ) {x default : A} → x ≡ default → Default b x default
as_default zero e = e
as_default (suc b) e = tt

module _ (m : ℕ) (s : Shot) (o : LeastWeightLeftOut m s) where
  set_fits : Fit (m + 32) s
  set_fits =
      let f = o.fits in
      record {
        map = omega (arith, f.map, o.clear);
        margin = f.margin;
        margin_default = kept_default m (m + 32) 0 s.minimum_margin default_margin (bit-under m 1 5 0 (omega arith)) f.margin_default;
        threshold = f.threshold;
        threshold_default = kept_default m (m + 32) 1 s.border_threshold default_threshold (bit-under m 1 5 1 (omega arith)) f.threshold_default;
        px = f.px;
        px_default = kept_default m (m + 32) 2 s.px_per_square default_px (bit-under m 1 5 2 (omega arith)) f.px_default;
        table = f.table;
        table_size = f.table_size;
        table_default = kept_default m (m + 32) 3 s.table patterns (bit-under m 1 5 3 (omega arith)) f.table_default;
        least_weight_is = f.least_weight_is;
        least_weight_default = as_default (bit (m + 32) 5) (subst (λ (b : ℕ). Default b s.least_weight default_least_weight) o.clear f.least_weight_default);
        rows = f.rows;
        cols = f.cols;
        bits = f.bits;
        border = f.border;
        legacy = f.legacy ∙ ap (λ (b : ℕ). not (eqb b 0)) (sym (bit-under m 1 5 4 (omega arith)));
        cell_size_is = f.cell_size_is;
        marker_size = f.marker_size;
        code_count_is = f.code_count_is;
        codes = f.codes;
        cell_count_is = f.cell_count_is;
        cells = f.cells;
        size = o.room;
      }

pub zero_least_weight : ZeroLeastWeight
zero_least_weight m s o = read_back (m + 32) s (set_fits m s o) ∙ sym (read_back m s o.fits)
