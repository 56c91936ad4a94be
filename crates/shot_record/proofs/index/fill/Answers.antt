-- `shot_record::index::fill` meets its contract. Assumes nothing.
use mathlib.Core.Path.{◌≡◌, sym, ap, ◌∙◌}
use mathlib.Core.Logic.{◌⊎◌, inl, inr}
use Prim.Native.Nat.{ℕ, ◌+◌, ◌*◌, ◌≤◌, ◌<◌}
use native.Mathlib.Nat.{eq-or-lt_of_le}
use native.Mathlib.Omega.{arith}
use mathlib.Core.List.{List}
use lib.ListN.{length, get_or, set, length-set}
use lib.Seq.{get_or-set_same, get_or-set_other}
use Rattle.shot_record.specs.declared.cells.Cursor.{Cursor}
use Rattle.shot_record.specs.Fields.{cursor_at, AtCell}
use Rattle.shot_record.specs.Index.{words_of, with_words}
use Rattle.shot_record.proofs.Records.{found_in}
use Rattle.shot_record.proofs.Walks.{at-cell}
use Rattle.shot_record.proofs.Entries.{entry_of}
use Rattle.shot_record.proofs.index.fill.Invariants.{Words}
use Rattle.shot_record.proofs.index.fill.Goals as goal
use Rattle.shot_record.proofs.index.fill.Goals.{In-loop-k}

-- an index with the words of one more cell
module _ (bytes index words : List ℕ) (k : ℕ) (inside : k < 256) (size : length index ≡ 768)
    (e : words ≡ words_of bytes k) where
  abbrev one : List ℕ
  one = set index (3 * k) (get_or words 0 0)

  abbrev two : List ℕ
  two = set one (3 * k + 1) (get_or words 1 0)

  one_size : length one ≡ 768
  one_size = length-set index (3 * k) (get_or words 0 0) ∙ size

  two_size : length two ≡ 768
  two_size = length-set one (3 * k + 1) (get_or words 1 0) ∙ one_size

  other-words : (i : ℕ) → (3 * k ≤ i → i < 3 * k + 3 → ⊥) → get_or (with_words index k words) i 0 ≡ get_or index i 0
  other-words i apart =
      get_or-set_other two (3 * k + 2) i (get_or words 2 0) 0 (λ z. apart (omega (arith, z)) (omega (arith, z)))
      ∙ get_or-set_other one (3 * k + 1) i (get_or words 1 0) 0 (λ z. apart (omega (arith, z)) (omega (arith, z)))
      ∙ get_or-set_other index (3 * k) i (get_or words 0 0) 0 (λ z. apart (omega (arith, z)) (omega (arith, z)))

  new-words : Words bytes (with_words index k words) k
  new-words =
      record {
        point = get_or-set_other two (3 * k + 2) (3 * k) (get_or words 2 0) 0 (λ z. absurd (omega arith))
            ∙ get_or-set_other one (3 * k + 1) (3 * k) (get_or words 1 0) 0 (λ z. absurd (omega arith))
            ∙ get_or-set_same index (3 * k) (get_or words 0 0) 0 (omega (arith, size)) ∙ ap (λ (l : List ℕ). get_or l 0 0) e;
        fraction = get_or-set_other two (3 * k + 2) (3 * k + 1) (get_or words 2 0) 0 (λ z. absurd (omega arith))
            ∙ get_or-set_same one (3 * k + 1) (get_or words 1 0) 0 (omega (arith, one_size)) ∙ ap (λ (l : List ℕ). get_or l 1 0) e;
        grid = get_or-set_same two (3 * k + 2) (get_or words 2 0) 0 (omega (arith, two_size)) ∙ ap (λ (l : List ℕ). get_or l 2 0) e;
      }

  one_more : ((j : ℕ) → j < k → Words bytes index j) → (j : ℕ) → j < k + 1 → Words bytes (with_words index k words) j
  one_more before j h = go (eq-or-lt_of_le (omega arith))
    where
      go : (j ≡ k) ⊎ (j < k) → Words bytes (with_words index k words) j
      go (inl z) = rw z new-words
      go (inr l) =
          let old = before j l in
          record {
            point = other-words (3 * j) (λ x y. absurd (omega arith)) ∙ old.point;
            fraction = other-words (3 * j + 1) (λ x y. absurd (omega arith)) ∙ old.fraction;
            grid = other-words (3 * j + 2) (λ x y. absurd (omega arith)) ∙ old.grid;
          }

walk : (c : In-loop-k) → AtCell c.args.input.now.bytes.now c.loop-k.c
walk c = at-cell c.args.input.now c.loop-k.c c.loop-k.k c.loop-k.invariant.cursor (omega arith)

pub words-requires : goal.words-requires
words-requires c = (walk (goal.at.words-requires c).In-loop-k, c.requires)

pub next-c-requires : goal.next-c-requires
next-c-requires c = walk (goal.at.next-c-requires c).In-loop-k

pub loop-k-preserved : goal.loop-k-preserved
loop-k-preserved c =
    let bytes = c.args.input.now.bytes.now in
    let l = c.loop-k in
    let k = l.k in
    let f = found_in c.args.input.now in
    let low : k < 256 = omega arith in
    let size : length l.index ≡ 768 = sym (simp length-set at (ap length c.put.ensures)) ∙ c.put.array_long in
    let cell = ap (λ (d : Cursor). d.cell) l.invariant.cursor in
    let found : c.words.result ≡ words_of bytes k = c.words.ensures ∙ ap (words_of bytes) cell in
    record {
      cursor = c.next-c.ensures ∙ ap (λ (n : ℕ). cursor_at bytes (n + 1)) cell;
      filled = λ j h. rw c.put.ensures (one_more bytes l.index c.words.result k low size found l.invariant.filled j h);
      kept = λ n h. ap (λ (x : List ℕ). get_or x n 0) c.put.ensures
          ∙ other-words bytes l.index c.words.result k low size found n (λ x y. absurd (omega arith))
          ∙ l.invariant.kept n h;
    }

pub returns-clause-filled : goal.returns-clause-filled
returns-clause-filled c = λ n h t.
    let r = c.args.input.now in
    let f = found_in r in
    let words = c.loop-k.invariant.filled n (omega arith) in
    entry_of r.bytes.now c.loop-k.index n r.small words.point words.fraction words.grid
