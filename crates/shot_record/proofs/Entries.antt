-- The words of a cell encode its values. Assumes nothing.
use mathlib.Core.Path.{◌≡◌, refl, sym, ap, ap₂, ◌∙◌}
use Prim.Native.Nat.{ℕ, zero, suc, ◌+◌, ◌*◌, ◌/◌, ◌%◌, ◌<◌}
use native.Mathlib.Omega.{arith}
use mathlib.Core.List.{List}
use lib.ListN.{get_or}
use mir.Syntax.{w16}
use mir.Val.{to_z}
use Rattle.shot_record.specs.Fields.{byte, bits_of, border_of, grid_size, sampled, cell_at, Point, point_of, sample_place, threshold_from, grid_from}
use Rattle.shot_record.specs.Shots.{setting, sample_at}
use Rattle.shot_record.specs.Answers.{of_pattern, border_with, threshold_with}
use Rattle.shot_record.specs.Index.{point_word, words_from, words_of, point_in, fraction_in, grid_in, Entry}
use Rattle.shot_record.proofs.Reading.{Small, number-below, setting_set}
use Rattle.std.specs.Prelude.{Option, Some, None, Float}

-- ---- the words of one cell, sampled or not
module _ (bytes : List ℕ) (s : Small bytes) (p : Point) (grid at : ℕ) where
  point_word_lem : (b : ℕ) → get_or (words_from p b at bytes) 0 0 ≡ point_word p
  point_word_lem zero = refl
  point_word_lem (suc b) = refl

  abbrev border_by : ℕ → ℕ → Option Float
  border_by n x = setting n (Some (of_pattern x)) None

  border-word : (b : ℕ) → border_by (get_or (words_from p b at bytes) 2 0) (get_or (words_from p b at bytes) 1 0) ≡ border_with (sample_at b grid at bytes)
  border-word zero = refl
  border-word (suc b) = sym (setting_set (grid_from at * 256 + byte (threshold_from at) bytes) _ _ (λ z. absurd (omega (arith, z))))

  threshold-word : (b : ℕ) → get_or (words_from p b at bytes) 2 0 % 256 ≡ threshold_with (sample_at b grid at bytes)
  threshold-word zero = refl
  threshold-word (suc b) = omega (arith, s (threshold_from at))

  no_word : (b : ℕ) → b ≡ 0 → get_or (words_from p b at bytes) 2 0 ≡ 0
  no_word b e = rw e refl

  place_word_lem : (b : ℕ) → (b ≡ 0 → ⊥) → get_or (words_from p b at bytes) 2 0 / 256 ≡ grid_from at
  place_word_lem zero h = absurd (h refl)
  place_word_lem (suc b) h = omega (arith, s (threshold_from at))

-- ---- the halves of a point's word, for coordinates of 16 bits
pub record SmallPoint (p : Point) : Type 0 where
  pub u : p.u < 65536
  pub v : p.v < 65536

pub point-small : (bytes : List ℕ) → Small bytes → (k : ℕ) → SmallPoint (point_of bytes k)
point-small bytes s k = record { u = number-below bytes s 2 (cell_at bytes k); v = number-below bytes s 2 (cell_at bytes k + 2) }

pub low_word : (p : Point) → SmallPoint p → point_word p % 65536 ≡ p.u
low_word p h = omega (arith, h.u)

pub high_word : (p : Point) → SmallPoint p → point_word p / 65536 ≡ p.v
high_word p h = omega (arith, h.u)

-- ---- an index that has these words for cell k
pub entry_of : (bytes index : List ℕ) (k : ℕ) → Small bytes → point_in index k ≡ get_or (words_of bytes k) 0 0 → fraction_in index k ≡ get_or (words_of bytes k) 1 0
    → grid_in index k ≡ get_or (words_of bytes k) 2 0 → Entry bytes index k
entry_of bytes index k s p f g =
    let b = sampled bytes k in
    let at = sample_place bytes k in
    let grid = grid_size (bits_of bytes) (border_of bytes) in
    let here = point_of bytes k in
    let small = point-small bytes s k in
    let whole : here.v % 65536 ≡ here.v = omega (arith, small.v) in
    let point : point_in index k ≡ point_word here = p ∙ point_word_lem bytes s here grid at b in
    record {
      word = rw point (omega (arith, small.u, small.v));
      u = ap (to_z w16) (ap (λ (n : ℕ). n % 65536) point ∙ low_word here small);
      v = ap (to_z w16) (ap (λ (n : ℕ). n / 65536 % 65536) point ∙ ap (λ (n : ℕ). n % 65536) (high_word here small) ∙ whole);
      border = ap₂ (border_by bytes s here grid at) g f ∙ border-word bytes s here grid at b;
      threshold = ap (λ (n : ℕ). n % 256) g ∙ threshold-word bytes s here grid at b;
      unsampled = λ e. g ∙ no_word bytes s here grid at b e;
      place = λ h. ap (λ (n : ℕ). n / 256) g ∙ place_word_lem bytes s here grid at b h;
    }
