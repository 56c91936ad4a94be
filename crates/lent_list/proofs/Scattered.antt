-- Elements written in any order: none, one more, and one part after another. Assumes nothing.
use mathlib.Core.Path.{◌≡◌, refl, ◌∙◌, subst}
use mathlib.Core.Logic.{◌⊎◌, inl, inr}
use mathlib.Core.List.{List}
use Prim.Native.Nat.{ℕ, ◌+◌, ◌<◌}
use native.Mathlib.Omega.{arith}
use lib.ListN.{length, get_or, set, length-set}
use lib.Seq.{get_or-set_same, get_or-set_other}
use borrow.Author.Count.{below_more}
use Rattle.lent_list.specs.Scattered.{Wrote}

module _ {A : Type 0} {d : A} where
  pub wrote_none : {I : Type 0} {In : I → Type 0} {at : I → ℕ} {v : I → A} (l : List A) → ((i : I) → In i → ⊥) → Wrote d In at v l l
  wrote_none l none = record { size = refl; done = λ i h. absurd (none i h); kept = λ j h. refl }

  -- one more
  pub wrote_next : {at : ℕ → ℕ} {v : ℕ → A} {n : ℕ} {before after : List A} (x : A) → Wrote d (λ (i : ℕ). i < n) at v before after
      → ((i : ℕ) → i < n → at i ≡ at n → ⊥) → at n < length before → x ≡ v n
      → Wrote d (λ (i : ℕ). i < n + 1) at v before (set after (at n) x)
  wrote_next {at} {v} {n} {before} {after} x w apart room e =
      record {
        size = length-set after (at n) x ∙ w.size;
        done =
            below_more (λ i. get_or (set after (at n) x) (at i) d ≡ v i) n (λ i h. get_or-set_other after (at n) (at i) x d (λ f. apart i h f) ∙ w.done i h)
            (get_or-set_same after (at n) x d (rw w.size room) ∙ e);
        kept =
            λ j h. get_or-set_other after (at n) j x d (λ f. h n (omega arith) f) ∙ w.kept j (λ i l. h i (omega (arith, l)));
      }

  -- a part, and then another part of the same whole
  pub wrote_part : {I J : Type 0} {P R : I → Type 0} {Q : J → Type 0} {at : I → ℕ} {v : I → A} {a b c : List A} (f : J → I) → Wrote d P at v a b
      → Wrote d Q (λ (j : J). at (f j)) (λ (j : J). v (f j)) b c
      → ((i : I) → R i → P i ⊎ ((j : J) × Q j × (f j ≡ i)))
      → ((i : I) → P i → R i)
      → ((j : J) → Q j → R (f j))
      → ((i : I) (j : J) → P i → Q j → at i ≡ at (f j) → ⊥)
      → Wrote d R at v a c
  wrote_part {I} {J} {P} {R} {Q} {at} {v} {a} {b} {c} f w x into one two apart =
      record {
        size = x.size ∙ w.size;
        done = λ i h. go i (into i h);
        kept = λ j h. x.kept j (λ k q e. h (f k) (two k q) e) ∙ w.kept j (λ i p e. h i (one i p) e);
      }
    where
      go : (i : I) → P i ⊎ ((j : J) × Q j × (f j ≡ i)) → get_or c (at i) d ≡ v i
      go i (inl p) = x.kept (at i) (λ j q e. apart i j p q e) ∙ w.done i p
      go i (inr (j, q, e)) = subst (λ (k : I). get_or c (at k) d ≡ v k) e (x.done j q)

  -- equal values
  pub wrote_as : {I : Type 0} {In : I → Type 0} {at : I → ℕ} {v u : I → A} {a b : List A} → ((i : I) → In i → v i ≡ u i) → Wrote d In at v a b
      → Wrote d In at u a b
  wrote_as e w = record { size = w.size; done = λ i h. w.done i h ∙ e i h; kept = w.kept }
