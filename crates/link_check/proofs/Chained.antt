-- Hash chains: how they are filled, and that following one skips no link of the marker and the corner.
-- Assumes nothing.
use mathlib.Core.Path.{◌≡◌, refl, sym, ap, ap₂, subst, ◌∙◌}
use mathlib.Core.Logic.{◌⊎◌, inl, inr}
use mathlib.Core.Bool.{Bool, true, false}
use mathlib.Core.List.{List}
use Prim.Native.Nat.{ℕ, ◌+◌, ◌*◌, ◌%◌, ◌≤◌, ◌<◌}
use native.Mathlib.Nat.{eq-or-lt_of_le}
use native.Mathlib.Decide.{ℕ_discrete}
use native.Mathlib.Omega.{arith}
use lib.ListN.{length, get_or, set, length-set}
use lib.Seq.{get_or-set_same, get_or-set_other}
use borrow.Author.Tests.{eqb-true}
use Rattle.integers.proofs.Distances.{lt_or_le}
use Rattle.integers.proofs.Tests.{both}
use Rattle.link_check.specs.declared.chains.By.{By}
use Rattle.link_check.specs.declared.chains.By.TheVariants.{Marker, MarkerAndCorner}
use Rattle.link_check.specs.Links.{link_marker, link_corner}
use Rattle.link_check.specs.Chains.{key_for, key_of, links_to, LeastFrom, ChainedFrom, Chained}

-- ---- filling, from the last link to the first
module _ (κ : ℕ → ℕ) (n : ℕ) where
  -- the empty chains
  pub none_chained : (chain : List ℕ) → length chain ≡ 8192 → ((b : ℕ) → b < 4096 → get_or chain b 0 ≡ n) → ChainedFrom κ n n chain
  none_chained chain long all =
      record {
        long = long;
        heads = λ b h. subst (LeastFrom κ n b n) (sym (all b h)) (record
            { from = omega arith; most = omega arith; passed = λ j g l e. absurd (omega (arith, g, l)); has = λ l. absurd (omega (arith, l)) });
        tails = λ i h l. absurd (omega (arith, h, l));
      }

  -- link k is prepended to the chain of its key
  module _ (k b : ℕ) (chain : List ℕ) (c : ChainedFrom κ n (k + 1) chain) (inside : k < n) (few : n ≤ 4096) (e : b ≡ κ k) (small : b < 4096) where
    -- the chain with the next link of k
    abbrev linked : List ℕ
    linked = set chain (4096 + k) (get_or chain b 0)

    linked_long : length linked ≡ 8192
    linked_long = length-set chain (4096 + k) (get_or chain b 0) ∙ c.long

    first_of_key : (d : ℕ) → d < 4096 → Dec (d ≡ b) → LeastFrom κ n d k (get_or (set linked b k) d 0)
    first_of_key d h (yes q) =
        subst (LeastFrom κ n d k) (sym (ap (λ (i : ℕ). get_or (set linked b k) i 0) q ∙ get_or-set_same linked b k 0 (omega (arith, small, linked_long))))
        (record { from = omega arith; most = omega (arith, inside); passed = λ j g l _. absurd (omega (arith, g, l)); has = λ l. sym (q ∙ e) })
    first_of_key d h (no differs) =
        let old = c.heads d h in
        subst (LeastFrom κ n d k)
        (sym (get_or-set_other linked b d k 0 differs ∙ get_or-set_other chain (4096 + k) d (get_or chain b 0) 0 (λ q. absurd (omega (arith, h, q)))))
        (record {
          from = omega (arith, old.from);
          most = old.most;
          passed = λ j g l q. elim (eq-or-lt_of_le {n = k} {m = j} g)
              [ inl s ↦ differs (sym q ∙ ap κ (sym s) ∙ sym e) | inr s ↦ old.passed j (omega (arith, s)) l q ];
          has = old.has;
        })

    next_after : (i : ℕ) → i < n → (k ≡ i) ⊎ (k < i) → LeastFrom κ n (κ i) (i + 1) (get_or linked (4096 + i) 0)
    next_after i l (inl q) =
        subst (λ (j : ℕ). LeastFrom κ n (κ j) (j + 1) (get_or linked (4096 + j) 0)) q
        (subst (LeastFrom κ n (κ k) (k + 1)) (sym (get_or-set_same chain (4096 + k) (get_or chain b 0) 0 (omega (arith, inside, few, c.long))))
        (subst (λ (d : ℕ). LeastFrom κ n d (k + 1) (get_or chain b 0)) e (c.heads b small)))
    next_after i l (inr g) =
        subst (LeastFrom κ n (κ i) (i + 1)) (sym (get_or-set_other chain (4096 + k) (4096 + i) (get_or chain b 0) 0 (λ q. absurd (omega (arith, g, q)))))
        (c.tails i (omega (arith, g)) l)

    pub one_chained : ChainedFrom κ n k (set linked b k)
    one_chained =
        record {
          long = length-set linked b k ∙ linked_long;
          heads = λ d h. first_of_key d h (ℕ_discrete d b);
          tails = λ i h l. subst (LeastFrom κ n (κ i) (i + 1)) (sym (get_or-set_other linked b (4096 + i) k 0 (λ q. absurd (omega (arith, small, q)))))
              (next_after i l (eq-or-lt_of_le {n = k} {m = i} h));
        }

-- ---- following the chain of a marker and a corner
-- a link that has them has their key
pub same_key : (by : By) (links : List ℕ) (m c j : ℕ) → links_to by links m c j ≡ true → key_of by links j ≡ key_for by m c
same_key Marker links m c j e = ap (λ (a : ℕ). 61 * a % 4096) (eqb-true (link_marker links j) m e)
same_key MarkerAndCorner links m c j e =
    let s = both _ _ e in
    ap₂ (λ (a b : ℕ). (61 * a + b) % 4096) (eqb-true (link_marker links j) m s.0) (eqb-true (link_corner links j) c s.1)

key_small : (by : By) (m c : ℕ) → key_for by m c < 4096
key_small Marker m c = omega arith
key_small MarkerAndCorner m c = omega arith

-- Following has come from i to j: no link between has them, and j has their key or is n.
pub record Walked (by : By) (links : List ℕ) (n m c i j : ℕ) : Type 0 where
  pub from : i ≤ j
  pub most : j ≤ n
  pub passed : (l : ℕ) → i ≤ l → l < j → links_to by links m c l ≡ false
  pub keyed : j < n → key_of by links j ≡ key_for by m c

never : (b : Bool) → (b ≡ true → ⊥) → b ≡ false
never true f = absurd (f refl)
never false f = refl

module _ (by : By) (links : List ℕ) (n m c : ℕ) where
  walked : (i j : ℕ) → LeastFrom (key_of by links) n (key_for by m c) i j → Walked by links n m c i j
  walked i j r =
      record {
        from = r.from;
        most = r.most;
        passed =
            λ l h g. never (links_to by links m c l) (λ e. r.passed l h g (same_key by links m c l e));
        keyed = r.has;
      }

  -- to the first link of the key, and from a link of the key to the next
  module _ (chain : List ℕ) (chained : Chained (key_of by links) n chain) where
    pub walked_first : Walked by links n m c 0 (get_or chain (key_for by m c) 0)
    walked_first = walked 0 (get_or chain (key_for by m c) 0) (chained.heads (key_for by m c) (key_small by m c))

    pub walked_next : (j : ℕ) → j < n → key_of by links j ≡ key_for by m c → Walked by links n m c (j + 1) (get_or chain (4096 + j) 0)
    walked_next j h e =
        walked (j + 1) (get_or chain (4096 + j) 0)
        (subst (λ (b : ℕ). LeastFrom (key_of by links) n b (j + 1) (get_or chain (4096 + j) 0)) e (chained.tails j (omega arith) h))

  -- past a link of the key that does not have them
  pub walked_on : (i j r : ℕ) → Walked by links n m c i j → links_to by links m c j ≡ false → Walked by links n m c (j + 1) r
      → Walked by links n m c i r
  walked_on i j r w e v = record { from = omega (arith, w.from, v.from); most = v.most; passed = λ l h g. at l h g (lt_or_le l j); keyed = v.keyed }
    where
      at : (l : ℕ) → i ≤ l → l < r → (l < j) ⊎ (j ≤ l) → links_to by links m c l ≡ false
      at l h g (inl b) = w.passed l h b
      at l h g (inr b) =
          elim (eq-or-lt_of_le {n = j} {m = l} b) [ inl q ↦ ap (links_to by links m c) (sym q) ∙ e | inr d ↦ v.passed l (omega (arith, d)) g ]
