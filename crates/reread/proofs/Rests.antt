-- Bytes that are moved to the start of their array after the entries before them are printed. Assumes nothing.
use mathlib.Core.Path.{◌≡◌, refl, sym, ap, subst, ◌∙◌}
use mathlib.Core.List.{List}
use Prim.Native.Nat.{ℕ, ◌+◌, ◌-◌, ◌≤◌}
use native.Mathlib.Omega.{arith}
use lib.ListN.{length, take, drop, length-drop}
use lib.Seq.{take-add, take_at, drop_at, length-take-le}
use Rattle.lent_list.specs.Front.{Put}
use Rattle.lent_list.proofs.Front.{put_length}
use Rattle.log_text.specs.Rules.{Takes, Took}
use Rattle.log_text.proofs.Laws.{took_nothing, took_more}
use Rattle.std.specs.Prelude.{Option}

-- the first bytes without some of them
drop_of_take : (used left : ℕ) (bytes : List ℕ) → used ≤ left → left ≤ length bytes → take (left - used) (drop used bytes) ≡ drop used (take left bytes)
drop_of_take used left bytes u l =
    let e : used + (left - used) ≡ left = omega (arith, u) in
    sym (drop_at (take used bytes) (take (left - used) (drop used bytes)) used (length-take-le used bytes (omega (arith, u, l))))
    ∙ ap (drop used) (sym (take-add used (left - used) bytes))
    ∙ ap (λ (k : ℕ). drop used (take k bytes)) e

pub record Printing (h : Option ℕ) (bytes₀ : List ℕ) (count : ℕ) (bytes : List ℕ) (left : ℕ) (seen : Option ℕ) : Type 0 where
  pub size : length bytes ≡ length bytes₀
  pub within : left ≤ length bytes₀
  pub took : Took h (take count bytes₀) seen (take left bytes)

pub none_printed : (h : Option ℕ) (bytes : List ℕ) (count : ℕ) → count ≤ length bytes → Printing h bytes count bytes count h
none_printed h bytes count l = record { size = refl; within = l; took = took_nothing h (take count bytes) }

module _ {h : Option ℕ} {bytes₀ : List ℕ} {count : ℕ} {bytes : List ℕ} {left : ℕ} {seen : Option ℕ} (p : Printing h bytes₀ count bytes left seen) where
  pub more_printed : (used : ℕ) (next : Option ℕ) (lines : List ℕ) {r : ℕ} {after : List ℕ} → used ≤ length (take left bytes)
      → Takes seen (take left bytes) next (drop used (take left bytes)) lines → Put bytes after 0 r (take (left - used) (drop used bytes))
      → Printing h bytes₀ count after (left - used) next
  more_printed used next lines {r} {after} u t put =
      let l : left ≤ length bytes = omega (arith, p.size, p.within) in
      let few : used ≤ left = omega (arith, u, length-take-le left bytes l) in
      let part = take (left - used) (drop used bytes) in
      let size : length part ≡ left - used = length-take-le (left - used) (drop used bytes) (omega (arith, length-drop used bytes, l, few)) in
      let moved : take (left - used) after ≡ drop used (take left bytes) =
      ap (take (left - used)) put.list ∙ take_at part (drop r bytes) (left - used) size ∙ drop_of_take used left bytes few l in
      record {
        size = put_length put (omega arith) (omega (arith, put.end, size, l)) ∙ p.size;
        within = omega (arith, p.within);
        took = subst (Took h (take count bytes₀) next) (sym moved) (took_more p.took next (drop used (take left bytes)) lines t);
      }
