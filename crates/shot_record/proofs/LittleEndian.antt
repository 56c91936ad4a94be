-- A number and its bytes: `little_endian` and `number` are inverse to each other. Assumes nothing.
use mathlib.Core.Path.{◌≡◌, refl, sym, ap, ap₂, ◌∙◌}
use Prim.Native.Nat.{ℕ, zero, suc, ◌+◌, ◌*◌, ◌/◌, ◌%◌, ◌^◌, ◌≤◌, ◌<◌}
use mathlib.Core.List.{List, [], ◌∷◌, ◌++◌}
use native.Mathlib.Nat.{add-suc}
use native.Mathlib.Omega.{arith}
use lib.Dec.{lit<}
use lib.Pow.{shr_lt}
use lib.ListN.{length, take, drop}
use lib.Seq.{drop-cons, get_or-drop}
use Rattle.std.specs.Int.{w64, to_le_bytes}
use Rattle.std.proofs.Math.Nat.{div-div-eq-div-mul}
use Rattle.shot_record.specs.Fields.{number}
use Rattle.shot_record.specs.Writing.{little_endian, Bytes}
use Rattle.shot_record.proofs.Reading.{Small}

pub byte-below : (bytes : List ℕ) → Bytes bytes → Small bytes
byte-below [] b at = lit< tt
byte-below (x ∷ xs) b zero = b.0
byte-below (x ∷ xs) b (suc at) = byte-below xs b.1 at

pub all_bytes : (bytes : List ℕ) → Small bytes → Bytes bytes
all_bytes [] s = tt
all_bytes (x ∷ xs) s = (s 0, all_bytes xs (λ at. s (suc at)))

pub le_length : (n x : ℕ) → length (little_endian n x) ≡ n
unfolding little_endian
le_length zero x = refl
le_length (suc n) x = ap suc (le_length n (x / 256))

pub le_bytes : (n x : ℕ) → Bytes (little_endian n x)
unfolding little_endian
le_bytes zero x = tt
le_bytes (suc n) x = (omega arith, le_bytes n (x / 256))

-- the library's bytes of a 64-bit number
pub eight_bytes : (x : ℕ) → to_le_bytes w64 x ≡ little_endian 8 x
unfolding little_endian
eight_bytes x = simp div-div-eq-div-mul

-- ---- parsing an encoded number
number-drop : (n at k : ℕ) (bytes : List ℕ) → number n (at + k) bytes ≡ number n k (drop at bytes)
unfolding number
number-drop zero at k bytes = refl
number-drop (suc n) at k bytes =
    ap₂ (λ (a b : ℕ). a + 256 * b) (sym (get_or-drop at bytes k 0)) (ap (λ (j : ℕ). number n j bytes) (sym (add-suc at k)) ∙ number-drop n at (suc k) bytes)

read_le : (n x : ℕ) (rest : List ℕ) → x < 2 ^ (8 * n) → number n 0 (little_endian n x ++ rest) ≡ x
unfolding number little_endian
read_le zero x rest h = omega arith
read_le (suc n) x rest h =
    let more : 8 * suc n ≡ 8 * n + 8 = omega arith in
    omega (arith, number-drop n 1 0 (x % 256 ∷ (little_endian n (x / 256) ++ rest)), read_le n (x / 256) rest (shr_lt (8 * n) 8 (rw more at h)))

pub number_of_le : (n at x : ℕ) (bytes rest : List ℕ) → x < 2 ^ (8 * n) → drop at bytes ≡ little_endian n x ++ rest → number n at bytes ≡ x
number_of_le n at x bytes rest h e =
    ap (λ (k : ℕ). number n k bytes) (omega arith) ∙ number-drop n at 0 bytes ∙ ap (number n 0) e ∙ read_le n x rest h

-- ---- encoding a parsed number
pub le_of_number : (bytes : List ℕ) → Small bytes → (n at : ℕ) → at + n ≤ length bytes → take n (drop at bytes) ≡ little_endian n (number n at bytes)
unfolding number little_endian
le_of_number bytes s zero at h = refl
le_of_number bytes s (suc n) at h =
    ap (take (suc n)) (drop-cons bytes at 0 (omega arith))
    ∙ ap₂ (λ (x : ℕ) (l : List ℕ). x ∷ l) (omega (arith, s at))
    (le_of_number bytes s n (suc at) (omega arith) ∙ ap (little_endian n) (omega (arith, s at)))
