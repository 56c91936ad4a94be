-- `score_matrix::rows::put_sources` meets its contract. Assumes nothing.
use mathlib.Core.Path.{◌≡◌}
use mathlib.Core.List.{List}
use mathlib.Core.Logic.{◌⊎◌, inl, inr}
use Prim.Native.Nat.{ℕ, ◌+◌, ◌-◌, ◌*◌, ◌≤◌, ◌<◌}
use native.Mathlib.Omega.{arith}
use lib.ListN.{length, get_or}
use borrow.Rule.Slice.PartMut.{put_mid}
use borrow.Author.Rules.{rules}
use Rattle.std.proofs.lemmas.List.{places}
use Rattle.integers.proofs.Distances.{lt_or_le}
use Rattle.lent_list.specs.Scattered.{Wrote}
use Rattle.score_matrix.proofs.rows.put_sources.Goals as goal

-- a part of a list, written over from an index on
part_wrote : {A : Type 0} (d : A) (at n : ℕ) (before words : List A) → length words ≡ n → at + n ≤ length before
    → Wrote d (λ (k : ℕ). k < n) (λ (k : ℕ). at + k) (λ (k : ℕ). get_or words k d) before (put_mid at n before words)
part_wrote {A} d at n before words l room =
    record {
      size = search (rules, places);
      done = λ k h. search (rules, places);
      kept = λ j h. go j h (lt_or_le j at) (lt_or_le j (at + n));
    }
  where
    go : (j : ℕ) → ((i : ℕ) → i < n → j ≡ at + i → ⊥) → (j < at) ⊎ (at ≤ j) → (j < at + n) ⊎ (at + n ≤ j)
        → get_or (put_mid at n before words) j d ≡ get_or before j d
    go j h (inl below) o = search (rules, places)
    go j h (inr on) (inl inside) = absurd (h (j - at) (omega arith) (omega arith))
    go j h (inr on) (inr past) = search (rules, places)

pub returns : goal.returns
returns c =
    let from = 64 * c.args.turn in
    let count : from + 64 - from ≡ 64 = omega arith in
    rw (c.copy_from_slice.ensures.after, count) (part_wrote 0 from 64 c.args.sources.now c.args.part.now c.told-part (omega arith))
