-- The cells of a record: parsing returns what was encoded, and encoding returns what was parsed. Assumes nothing.
use mathlib.Core.Path.{◌≡◌, refl, ap, ◌∙◌}
use Prim.Native.Nat.{ℕ, zero, suc, ◌+◌, ◌≤◌, ◌<◌}
use mathlib.Core.List.{List, [], ◌∷◌, ◌++◌, append_assoc}
use mathlib.Core.Option.{Option, none, some}
use native.Mathlib.Nat.{le_trans}
use native.Mathlib.Omega.{arith}
use lib.ListN.{length, take, drop, length-drop}
use lib.Seq.{take_at, length-take-le}
use lib.IntN.{ℤ}
use mir.Syntax.{w16}
use mir.Val.{SFits, of_z, to_z}
use mir.ValLaws.{of_z_fits, to_z-of_z, to_z-Fits, of_z-to_z}
use Rattle.shot_record.specs.Fields.{number, sample_length, cell_length, bits_of, border_of, grid_size, sampled, cell_at, Point}
use Rattle.shot_record.specs.Shots.{Sample, Cell, list, sample_at, cell_from, cell_of}
use Rattle.shot_record.specs.Writing.{little_endian, each, is_sampled, sample_bytes, cell_bytes, All, Bytes, IfSampled, FitCell}
use Rattle.shot_record.proofs.Reading.{Small, number-below, starts_rise}
use Rattle.shot_record.proofs.LittleEndian.{byte-below}
use Rattle.shot_record.proofs.Runs.{Runs, Read, after, back, byte-is, byte_written, number_read, number_written}
use Rattle.shot_record.proofs.Sequences.{Each, list_all, list_read, list_written, all_take, all_drop}

-- ---- a coordinate
coordinate_read : {bytes rest : List ℕ} {at : ℕ} (to : ℕ) (z : ℤ) → SFits w16 z → to ≡ at + 2 → Runs bytes at (little_endian 2 (of_z w16 z) ++ rest)
    → Read (to_z w16 (number 2 at bytes)) z bytes to rest
coordinate_read to z f e r =
    let n = number_read 2 to (of_z w16 z) (of_z_fits w16 z f).fits e r in
    record { value = ap (to_z w16) n.value ∙ to_z-of_z w16 z f; next = n.next }

coordinate_written : {bytes rest : List ℕ} {to : ℕ} → Small bytes → (at : ℕ) → to ≡ at + 2 → Runs bytes to rest
    → Runs bytes at (little_endian 2 (of_z w16 (to_z w16 (number 2 at bytes))) ++ rest)
coordinate_written {bytes} s at e r =
    rw (of_z-to_z w16 (number 2 at bytes) (record { fits = number-below bytes s 2 at })) (number_written s 2 at e r)

-- ---- a sample
sample_read : {bytes rest : List ℕ} (grid at : ℕ) (o : Option Sample) → IfSampled grid o → Runs bytes at (sample_bytes o ++ rest)
    → Read (sample_at (is_sampled o) grid at bytes) o bytes (at + sample_length (is_sampled o) grid) rest
sample_read grid at none f r = record { value = refl; next = after [] (at + 0) r (omega arith) }
sample_read {bytes} {rest} grid at (some s) f r =
    let fraction = number_read 4 (at + 4) s.fraction f.fraction refl
    (rw (append_assoc (little_endian 4 s.fraction) (s.threshold ∷ s.grid) rest) at r) in
    let greys = after (s.threshold ∷ []) (at + 5) fraction.next (omega arith) in
    let threshold = byte-is (at + 4) 0 (omega arith) fraction.next in
    let cut = ap (take grid) greys.holds ∙ take_at s.grid rest grid f.size in
    record {
      value = λ i. some (record { fraction = fraction.value i; threshold = threshold i; grid = cut i });
      next = after s.grid (at + (5 + grid)) greys (omega (arith, f.size));
    }

sample_written : {bytes rest : List ℕ} → Small bytes → (b grid at : ℕ) → Runs bytes (at + sample_length b grid) rest
    → Runs bytes at (sample_bytes (sample_at b grid at bytes) ++ rest)
sample_written s zero grid at r = after [] at r (omega arith)
sample_written s (suc n) grid at r =
    let greys = back (at + 5) grid r (omega arith) (λ h. refl) in
    rw append_assoc (number_written s 4 at refl (byte_written (at + 4) (omega arith) greys))

sample-fits : (bytes : List ℕ) → Bytes bytes → (b grid at : ℕ) → at + sample_length b grid ≤ length bytes → IfSampled grid (sample_at b grid at bytes)
sample-fits bytes b zero grid at h = tt
sample-fits bytes b (suc n) grid at h =
    record {
      fraction = number-below bytes (byte-below bytes b) 4 at;
      threshold = byte-below bytes b (at + 4);
      size = length-take-le grid (drop (at + 5) bytes) (omega (arith, length-drop (at + 5) bytes));
      greys = all_take (λ (x : ℕ). x < 256) grid (drop (at + 5) bytes) (all_drop (λ (x : ℕ). x < 256) (at + 5) bytes b);
    }

-- ---- a cell: its grid point, then its sample
abbrev point_at : List ℕ → ℕ → Point
point_at bytes at = record { u = number 2 at bytes; v = number 2 (at + 2) bytes }

abbrev cell_found : ℕ → ℕ → ℕ → List ℕ → Cell
cell_found b grid at bytes = cell_from (point_at bytes at) (sample_at b grid (at + 4) bytes)

cell_read_lem : {bytes rest : List ℕ} (b grid at : ℕ) (c : Cell) → FitCell grid c → b ≡ is_sampled c.sample
    → Runs bytes at (cell_bytes c ++ rest) → Read (cell_found b grid at bytes) c bytes (at + cell_length 4 b grid) rest
cell_read_lem b grid at c f e r =
    let u = coordinate_read (at + 2) c.u f.u refl (simp append_assoc at r) in
    let v = coordinate_read (at + 4) c.v f.v (omega arith) u.next in
    let s = sample_read grid (at + 4) c.sample f.sample v.next in
    rw e (record {
      value = λ i. record { u = u.value i; v = v.value i; sample = s.value i };
      next = after [] (at + cell_length 4 (is_sampled c.sample) grid) s.next (omega arith);
    })

cell_written : {bytes rest : List ℕ} → Small bytes → (b grid at : ℕ) → Runs bytes (at + cell_length 4 b grid) rest
    → Runs bytes at (cell_bytes (cell_found b grid at bytes) ++ rest)
cell_written s n grid at r =
    let sample = sample_written s n grid (at + 4) (after [] (at + 4 + sample_length n grid) r (omega arith)) in
    simp append_assoc (coordinate_written s at refl (coordinate_written s (at + 2) (omega arith) sample))

cell-fits : (bytes : List ℕ) → Bytes bytes → (b grid at : ℕ) → at + cell_length 4 b grid ≤ length bytes → FitCell grid (cell_found b grid at bytes)
cell-fits bytes b n grid at h =
    record {
      u = to_z-Fits w16 (number 2 at bytes) (record { fits = number-below bytes (byte-below bytes b) 2 at });
      v = to_z-Fits w16 (number 2 (at + 2) bytes) (record { fits = number-below bytes (byte-below bytes b) 2 (at + 2) });
      sample = sample-fits bytes b n grid (at + 4) (omega (arith, h));
    }

-- ---- all cells
abbrev size_of_grid : List ℕ → ℕ
size_of_grid bytes = grid_size (bits_of bytes) (border_of bytes)

pub cells_read : {bytes rest : List ℕ} (cells : List Cell)
    → Each (λ (k : ℕ) (c : Cell). FitCell (size_of_grid bytes) c × (sampled bytes k ≡ is_sampled c.sample)) cells
    → Runs bytes (cell_at bytes 0) (each cell_bytes cells ++ rest)
    → Read (list (cell_of bytes) (length cells)) cells bytes (cell_at bytes (length cells)) rest
unfolding cell_at
cells_read {bytes} cells =
    list_read bytes cell_bytes (λ (k : ℕ) (c : Cell). FitCell (size_of_grid bytes) c × (sampled bytes k ≡ is_sampled c.sample)) (cell_of bytes)
    (cell_at bytes) cells
    (λ k c other q r. cell_read_lem (sampled bytes k) (size_of_grid bytes) (cell_at bytes k) c q.0 q.1 r)

pub cells_written : {bytes rest : List ℕ} → Small bytes → (n : ℕ) → Runs bytes (cell_at bytes n) rest
    → Runs bytes (cell_at bytes 0) (each cell_bytes (list (cell_of bytes) n) ++ rest)
unfolding cell_at
cells_written {bytes} s n =
    list_written bytes cell_bytes (cell_of bytes) (cell_at bytes) n (λ k other r. cell_written s (sampled bytes k) (size_of_grid bytes) (cell_at bytes k) r)

pub cell_fit : (bytes : List ℕ) → Bytes bytes → (n : ℕ) → cell_at bytes n ≤ length bytes → (k : ℕ) → k < n → FitCell (size_of_grid bytes) (cell_of bytes k)
unfolding cell_at
cell_fit bytes b n h k l = cell-fits bytes b (sampled bytes k) (size_of_grid bytes) (cell_at bytes k) (le_trans (starts_rise bytes (suc k) n l) h)

pub cells_fit : (bytes : List ℕ) → Bytes bytes → (n : ℕ) → cell_at bytes n ≤ length bytes → All (FitCell (size_of_grid bytes)) (list (cell_of bytes) n)
cells_fit bytes b n h = list_all (FitCell (size_of_grid bytes)) (cell_of bytes) n (cell_fit bytes b n h)
