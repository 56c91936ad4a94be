-- `shot_record::index::grid` meets its contract. Assumes nothing.
use Rattle.std.proofs.Common.{◌≡◌, ap₂, ◌∙◌, ℕ, ◌+◌, ◌-◌, ◌≤◌, List, length, take, drop, arith}
use Rattle.shot_record.specs.Fields.{bits_of, border_of, grid_size, sampled, sample_place}
use Rattle.shot_record.specs.Index.{HasGrid, Entry, grid_in, place_in}
use Rattle.shot_record.proofs.Whole.{passed}
use Rattle.shot_record.proofs.CellReads.{with_grid, grid_lies}
use Rattle.shot_record.proofs.index.grid.Goals as goal

module _ (bytes index : List ℕ) (size k : ℕ) (h : HasGrid bytes size index k) where
  entry : Entry bytes index k
  entry = h.indexed k h.inside h.early

  marked : (grid_in index k ≡ 0 → ⊥) → sampled bytes k ≡ 0 → ⊥
  marked word z = word (entry.unsampled z)

  -- the grid of a sampled cell is in the record
  lies : (grid_in index k ≡ 0 → ⊥) → place_in index k + size ≤ length bytes
  lies word =
      let at = entry.place (marked word) in
      omega (arith, at, grid_lies bytes (passed bytes h.whole) k h.inside (marked word), h.size_is)

pub slice_bounds-result-end-2 : goal.slice_bounds-result-end-2
slice_bounds-result-end-2 c = omega (arith, lies c.args.bytes.now c.args.index.now c.args.size c.args.k c.requires c.if-index-k-eq0.false)

pub returns : goal.returns
returns c =
    let bytes = c.args.bytes.now in
    let index = c.args.index.now in
    let k = c.args.k in
    let size = grid_size (bits_of bytes) (border_of bytes) in
    let marked = marked bytes index c.args.size k c.requires c.if-index-k-eq0.false in
    let length : place_in index k + c.args.size - place_in index k ≡ size = omega (arith, c.requires.size_is) in
    ap₂ (λ (n at : ℕ). take n (drop at bytes)) length ((entry bytes index c.args.size k c.requires).place marked)
    ∙ with_grid (sampled bytes k) size (sample_place bytes k) bytes marked
