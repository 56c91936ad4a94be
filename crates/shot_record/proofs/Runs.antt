-- From an offset on the bytes are those of a field and the rest: the step to the next field, and the step back. Assumes nothing.
use mathlib.Core.Path.{◌≡◌, refl, sym, ap, ap₂, ◌∙◌}
use Prim.Native.Nat.{ℕ, zero, suc, ◌+◌, ◌*◌, ◌^◌, ◌≤◌, ◌<◌}
use mathlib.Core.List.{List, [], ◌∷◌, ◌++◌}
use native.Mathlib.Omega.{arith}
use lib.ListN.{length, take, drop, length-append, length-drop, take-append-drop}
use lib.Seq.{drop-append_seam, drop-drop, drop-length, drop-cons, get_or-drop}
use Rattle.shot_record.specs.Fields.{byte, number}
use Rattle.shot_record.specs.Shots.{setting}
use Rattle.shot_record.specs.Writing.{little_endian, if_set, Default}
use Rattle.shot_record.proofs.Reading.{Small}
use Rattle.shot_record.proofs.LittleEndian.{le_length, number_of_le, le_of_number}

-- the bytes from an offset inside the record on
pub record Runs (bytes : List ℕ) (at : ℕ) (rest : List ℕ) : Type 0 where
  pub inside : at ≤ length bytes
  pub holds : drop at bytes ≡ rest

-- past a field
pub after : {bytes rest : List ℕ} {at : ℕ} (field : List ℕ) (to : ℕ) → Runs bytes at (field ++ rest) → to ≡ at + length field → Runs bytes to rest
after {bytes} {rest} {at} field to r e =
    record {
      inside = omega (arith, r.inside, ap length r.holds, length-drop at bytes, length-append field rest);
      holds = ap (λ (k : ℕ). drop k bytes) e ∙ sym (drop-drop (length field) at bytes) ∙ ap (drop (length field)) r.holds ∙ drop-append_seam field rest;
    }

-- back over a field of w bytes
pub back : {bytes rest field : List ℕ} {to : ℕ} (at w : ℕ) → Runs bytes to rest → to ≡ at + w
    → (at + w ≤ length bytes → take w (drop at bytes) ≡ field) → Runs bytes at (field ++ rest)
back {bytes} at w r e f =
    record {
      inside = omega (arith, r.inside);
      holds =
          sym (take-append-drop w (drop at bytes))
          ∙ ap₂ (λ (a b : List ℕ). a ++ b) (f (omega (arith, r.inside))) (drop-drop w at bytes ∙ ap (λ (k : ℕ). drop k bytes) (sym e) ∙ r.holds);
    }

-- the end
pub ends : {bytes : List ℕ} {at : ℕ} → Runs bytes at [] → at ≡ length bytes
ends {bytes} {at} r = omega (arith, r.inside, ap length r.holds, length-drop at bytes)

pub at-end : {bytes : List ℕ} {at : ℕ} → at ≡ length bytes → Runs bytes at []
at-end {bytes} e = record { inside = omega arith; holds = ap (λ (k : ℕ). drop k bytes) e ∙ drop-length bytes }

pub byte-is : {bytes rest : List ℕ} {at : ℕ} (to k : ℕ) → to ≡ at + k → Runs bytes at rest → byte to bytes ≡ byte k rest
byte-is {bytes} {rest} {at} to k e r = ap (λ (j : ℕ). byte j bytes) e ∙ sym (get_or-drop at bytes k 0) ∙ ap (byte k) r.holds

pub byte_written : {bytes rest : List ℕ} {to : ℕ} (at : ℕ) → to ≡ at + 1 → Runs bytes to rest → Runs bytes at (byte at bytes ∷ rest)
byte_written {bytes} at e r = back {field = byte at bytes ∷ []} at 1 r e (λ h. ap (take 1) (drop-cons bytes at 0 (omega arith)))

-- a parsed value, and the bytes after it
pub record Read {A : Type 0} (found x : A) (bytes : List ℕ) (to : ℕ) (rest : List ℕ) : Type 0 where
  pub value : found ≡ x
  pub next : Runs bytes to rest

-- ---- a number of n bytes
pub number_read : {bytes rest : List ℕ} {at : ℕ} (n to x : ℕ) → x < 2 ^ (8 * n) → to ≡ at + n → Runs bytes at (little_endian n x ++ rest)
    → Read (number n at bytes) x bytes to rest
number_read {bytes} {rest} {at} n to x h e r =
    record { value = number_of_le n at x bytes rest h r.holds; next = after (little_endian n x) to r (omega (arith, le_length n x)) }

pub number_written : {bytes rest : List ℕ} {to : ℕ} → Small bytes → (n at : ℕ) → to ≡ at + n → Runs bytes to rest
    → Runs bytes at (little_endian n (number n at bytes) ++ rest)
number_written {bytes} s n at e r = back at n r e (le_of_number bytes s n at)

-- ---- a setting of w bytes, present if its flag is 1
pub setting_read : {A : Type 0} {bytes rest : List ℕ} {at : ℕ} (b w : ℕ) (field : List ℕ) (value default x : A) → b < 2 → length field ≡ w
    → Default b x default → (Runs bytes at (field ++ rest) → value ≡ x) → Runs bytes at (if_set b field ++ rest)
    → Read (setting b value default) x bytes (at + w * b) rest
setting_read zero w field value default x s l d f r = record { value = sym d; next = after [] _ r (omega arith) }
setting_read (suc zero) w field value default x s l d f r = record { value = f r; next = after field _ r (omega arith) }
setting_read (suc (suc b)) w field value default x s l d f r = absurd (omega arith)

pub setting_written : {A : Type 0} {bytes rest : List ℕ} (b w at : ℕ) (field : A → List ℕ) (value default : A) → b < 2
    → (Runs bytes (at + w) rest → Runs bytes at (field value ++ rest)) → Runs bytes (at + w * b) rest
    → Runs bytes at (if_set b (field (setting b value default)) ++ rest)
setting_written zero w at field value default s f r = after [] at r (omega arith)
setting_written (suc zero) w at field value default s f r = f (after [] (at + w) r (omega arith))
setting_written (suc (suc b)) w at field value default s f r = absurd (omega arith)

pub setting_default : {A : Type 0} (b : ℕ) (value default : A) → Default b (setting b value default) default
setting_default zero value default = refl
setting_default (suc b) value default = tt
