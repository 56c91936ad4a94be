-- Printing twice in a row is printing the concatenation, and printing from index 0 on overwrites the start of the array. Assumes nothing.
use mathlib.Core.Path.{◌≡◌, refl, sym, ap, ◌∙◌, subst}
use mathlib.Core.List.{List, [], ◌∷◌, ◌++◌}
use Prim.Native.Nat.{ℕ, zero, suc, ◌+◌, min}
use native.Mathlib.Nat.{zero-add}
use native.Mathlib.Omega.{arith}
use lib.ListN.{length, take, drop, set, length-append, length-take, length-drop, take-append-drop}
use lib.Seq.{take-nil, drop-nil}
use Rattle.lent_list.specs.Front.{in_front}
use Rattle.lent_list.proofs.Front.{front_length}
use Rattle.place_text.specs.Writing.{printed_at, Printed, Wrote}
use Rattle.place_text.specs.declared.writer.Page.{Page}

-- an empty array stores nothing
no_place : (i : ℕ) (vs : List ℕ) → printed_at i vs [] ≡ []
no_place i vs = simp (take-nil, drop-nil)

no_bytes : (l : List ℕ) → in_front [] l ≡ l
no_bytes l = ap (λ (d : List ℕ). d ++ l) (take-nil (length l))

-- a byte is stored, if there is room
pub one_byte : (l : List ℕ) (i v : ℕ) → set l i v ≡ printed_at i (v ∷ []) l
one_byte [] i v = sym (no_place i (v ∷ []))
one_byte (x ∷ l) zero v = ap (λ (d : List ℕ). v ∷ d) (sym (no_bytes l))
one_byte (x ∷ l) (suc i) v = ap (λ (d : List ℕ). x ∷ d) (one_byte l i v)

-- the second starts where the first ends
joined : (i m : ℕ) (us vs l : List ℕ) → m ≡ min (i + length us) (length l) → printed_at m vs (printed_at i us l) ≡ printed_at i (us ++ vs) l
joined i m us vs [] e = ap (printed_at m vs) (no_place i us) ∙ no_place m vs ∙ sym (no_place i (us ++ vs))
joined zero zero [] vs (x ∷ l) e = refl
joined zero (suc m) [] vs (x ∷ l) e = absurd (omega arith)
joined zero zero (u ∷ us) vs (x ∷ l) e = absurd (omega arith)
joined zero (suc m) (u ∷ us) vs (x ∷ l) e = ap (λ (d : List ℕ). u ∷ d) (joined zero m us vs l (omega arith))
joined (suc i) zero us vs (x ∷ l) e = absurd (omega arith)
joined (suc i) (suc m) us vs (x ∷ l) e = ap (λ (d : List ℕ). x ∷ d) (joined i m us vs l (omega arith))

-- the length does not change
pub printed_length : {us : List ℕ} {at m : ℕ} {a b : List ℕ} → Printed us at m a b → length b ≡ length a
printed_length {us} {at} {m} {a} p =
    ap length p.stored ∙ length-append (take at a) (in_front us (drop at a))
    ∙ omega (arith, length-take at a, length-drop at a, front_length us (drop at a))

-- nothing is printed
pub nothing : {at r : ℕ} {a : List ℕ} → r ≡ min at (length a) → Printed [] at r a a
nothing {at} {r} {a} e = record { stored = sym (ap (λ (d : List ℕ). take at a ++ d) (no_bytes (drop at a)) ∙ take-append-drop at a); place = omega (arith, e) }

pub said_text : {us vs : List ℕ} {at r : ℕ} {a b : List ℕ} → us ≡ vs → Printed us at r a b → Printed vs at r a b
said_text {at = at} {r = r} {a = a} {b = b} e p = subst (λ (d : List ℕ). Printed d at r a b) e p

-- what is printed from index 0 on
pub whole_text : {vs : List ℕ} {r : ℕ} {a b : List ℕ} → Printed vs 0 r a b → b ≡ in_front vs a
whole_text p = p.stored

pub whole_length : {vs : List ℕ} {r : ℕ} {a b : List ℕ} → Printed vs 0 r a b → r ≡ min (length vs) (length a)
whole_length {vs} {r} {a} p = p.place ∙ ap (λ (n : ℕ). min n (length a)) (zero-add (length vs))

-- on a page one after the other
pub then : {us vs : List ℕ} {a b c : Page} → Wrote us a b → Wrote vs b c → Wrote (us ++ vs) a c
then {us} {vs} {a} v w =
    let p = v.printed in
    let q = w.printed in record {
      printed = record {
        stored = q.stored ∙ ap (printed_at _ vs) p.stored ∙ joined a.at _ us vs a.text.now p.place;
        place = omega (arith, p.place, q.place, printed_length p, length-append us vs);
      };
      same_array = w.same_array ∙ v.same_array;
    }

pub said : {us vs : List ℕ} {a b : Page} → us ≡ vs → Wrote us a b → Wrote vs a b
said {a = a} {b = b} e p = subst (λ (d : List ℕ). Wrote d a b) e p

pub byte : {u v : ℕ} {a b : Page} → u ≡ v → Wrote (u ∷ []) a b → Wrote (v ∷ []) a b
byte e p = said (ap (λ (d : ℕ). d ∷ []) e) p

-- its index is put within its array
pub not_past : {a : Page} {r : ℕ} → r ≡ min a.at (length a.text.now) → Wrote [] a (record a { at = r })
not_past e = record { printed = nothing e; same_array = refl }
