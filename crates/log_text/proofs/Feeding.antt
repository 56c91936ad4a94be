-- Entries that are read from the start of the bytes, one after the other. Assumes nothing.
use mathlib.Core.Path.{◌≡◌, refl, sym, ap, ap₂, subst, ◌∙◌}
use mathlib.Core.Bool.{Bool, true, false, cond}
use mathlib.Core.List.{List, ◌++◌, append_assoc}
use Prim.Native.Nat.{ℕ, ◌+◌, ◌-◌, ◌≤◌}
use native.Mathlib.Omega.{arith}
use lib.ListN.{length, take, drop, length-drop, length-append}
use lib.Seq.{take_at, take_all, length-take-le, drop-drop}
use borrow.Author.Tests.{leb-true}
use Rattle.place_text.specs.Writing.{Printed}
use Rattle.place_text.proofs.Printing.{printed_length}
use Rattle.log_text.specs.Lines.{entry_lines}
use Rattle.log_text.specs.Log.{entry_number, record_length, entry_end, is_whole, whole_end, first_record, raised, log_text}
use Rattle.log_text.specs.Rules.{Takes}
use Rattle.log_text.proofs.Laws.{entry_taken}
use Rattle.std.specs.Prelude.{Option, Some, None}

-- ---- what the end of the first entry tells
pub some_end : (bytes : List ℕ) (e : ℕ) → Some e ≡ whole_end bytes → (is_whole bytes ≡ true) × (e ≡ entry_end bytes)
some_end bytes e is = go (is_whole bytes) refl is
  where
    go : (w : Bool) → is_whole bytes ≡ w → Some e ≡ cond w (Some (entry_end bytes)) None → (is_whole bytes ≡ true) × (e ≡ entry_end bytes)
    go true h i = (h, cc)
    go false h i = cc

pub no_end : (bytes : List ℕ) → None ≡ whole_end bytes → is_whole bytes ≡ false
no_end bytes is = go (is_whole bytes) refl is
  where
    go : (w : Bool) → is_whole bytes ≡ w → None ≡ cond w (Some (entry_end bytes)) None → is_whole bytes ≡ false
    go true h i = cc
    go false h i = h

-- ---- lines that fit are printed whole
module _ {us : List ℕ} {at r : ℕ} {a b : List ℕ} (p : Printed us at r a b) (fits : at + length us ≤ length a) where
  pub printed_end : r ≡ at + length us
  printed_end = omega (arith, p.place, fits)

  pub printed_whole : take r b ≡ take at a ++ us
  printed_whole =
      let front = take at a ++ us in
      let all : take (length (drop at a)) us ≡ us = take_all (length (drop at a)) us (omega (arith, length-drop at a, fits)) in
      let size : length front ≡ r = length-append (take at a) us ∙ omega (arith, length-take-le at a (omega (arith, fits)), printed_end) in
      ap (take r) (p.stored ∙ ap (λ (l : List ℕ). take at a ++ (l ++ drop (length us) (drop at a))) all ∙ sym (append_assoc (take at a) us (drop (length us) (drop at a))))
      ∙ take_at front (drop (length us) (drop at a)) r size

-- ---- so far
pub record Feeding (bytes text₀ : List ℕ) (first : Option ℕ) (text : List ℕ) (used written : ℕ) (seen : Option ℕ) : Type 0 where
  pub within : used ≤ length bytes
  pub size : length text ≡ length text₀
  pub room : written ≤ length text₀
  pub started : used ≡ 0 → written ≡ 0
  pub lines : Takes first bytes seen (drop used bytes) (take written text)

module _ {bytes text₀ : List ℕ} {first : Option ℕ} {text : List ℕ} {used written : ℕ} {seen : Option ℕ} (f : Feeding bytes text₀ first text used written seen) where
  abbrev rest : List ℕ
  rest = drop used bytes

  abbrev lines_of : List ℕ
  lines_of = entry_lines seen (entry_number rest) (first_record rest)

  one_more : {after : List ℕ} {w : ℕ} → is_whole rest ≡ true → Printed lines_of written w text after → written + length lines_of ≤ length text
      → Feeding bytes text₀ first after (used + entry_end rest) w (raised seen (entry_number rest))
  one_more {after} {w} whole p fits =
      let end = leb-true (entry_end rest) (length rest) whole in
      record {
        within = omega (arith, end, length-drop used bytes, f.within);
        size = printed_length p ∙ f.size;
        room = omega (arith, printed_end p fits, fits, f.size);
        started = λ e. absurd (omega (arith, e));
        lines = λ more.
            f.lines more
            ∙ ap (λ (l : List ℕ). take written text ++ l) (entry_taken rest more whole seen)
            ∙ sym (append_assoc (take written text) lines_of (log_text (raised seen (entry_number rest)) (drop (entry_end rest) rest ++ more)))
            ∙ ap₂ (λ (a b : List ℕ). a ++ log_text (raised seen (entry_number rest)) (b ++ more))
            (sym (printed_whole p fits)) (drop-drop (entry_end rest) used bytes);
      }

  -- in the words of the program: the rest as a slice p, the end e, the number n, the record as a slice of p
  pub next_fed : (p : List ℕ) → p ≡ rest → (e : ℕ) → Some e ≡ whole_end p → (n : ℕ) → n ≡ entry_number p → {after : List ℕ} {w : ℕ}
      → Printed (entry_lines seen n (take (e - 6) (drop 6 p))) written w text after → length (entry_lines seen n (take (e - 6) (drop 6 p))) ≤ 76
      → 76 ≤ length text - written → (s : Option ℕ) → s ≡ raised seen n
      → Feeding bytes text₀ first after (used + e) w s
  next_fed p is e ends n is-n {after} {w} printed most room s is-s =
      let whole = some_end p e ends in
      let at-end : e ≡ entry_end rest = whole.1 ∙ ap entry_end is in
      let numbered : n ≡ entry_number rest = is-n ∙ ap entry_number is in
      let cut : e - 6 ≡ record_length rest = omega (arith, at-end) in
      let same : entry_lines seen n (take (e - 6) (drop 6 p)) ≡ lines_of =
      ap₂ (entry_lines seen) numbered (ap₂ (λ (k : ℕ) (l : List ℕ). take k (drop 6 l)) cut is) in
      let fits : written + length lines_of ≤ length text = omega (arith, ap length same, most, room, f.room, f.size) in
      let q = subst (λ (l : List ℕ). Printed l written w text after) same printed in
      subst (λ (k : ℕ). Feeding bytes text₀ first after k w s) (ap (λ (k : ℕ). used + k) (sym at-end))
      (subst (Feeding bytes text₀ first after (used + entry_end rest) w) (sym (is-s ∙ ap (raised seen) numbered))
      (one_more (sym (ap is_whole is) ∙ whole.0) q fits))

-- the bytes from an index on, as a slice
pub tail_part : (bytes : List ℕ) (used : ℕ) → take (length bytes - used) (drop used bytes) ≡ drop used bytes
tail_part bytes used = take_all (length bytes - used) (drop used bytes) (omega (arith, length-drop used bytes))
