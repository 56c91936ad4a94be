-- Codes are equal up to rotation if and only if their canonical keys are equal, for every side above 0. Assumes nothing.
use mathlib.Core.Path.{◌≡◌, sym, ap, subst, ◌∙◌}
use mathlib.Core.Logic.{◌⊎◌, inl, inr}
use Prim.Native.Nat.{ℕ, ◌+◌, ◌*◌, ◌%◌, ◌≤◌, ◌<◌, min}
use native.Mathlib.Nat.{le_antisymm, le_of_lt, zero-add, add-mul-mod_self_right, min-eq_left, min-eq_right}
use native.Mathlib.Omega.{arith}
use Rattle.integers.proofs.Distances.{lt_or_le}
use Rattle.matcher.specs.Codes.{turned}
use Rattle.matcher.proofs.Turns.{each_turn, turned-turned, turns_mod, turned-below}
use Rattle.alike.specs.Quarters.{quarters, least_turn}
use Rattle.alike.proofs.QuarterTurns.{quarters_determine}

-- b is a after some turns
pub record Alike (n a b : ℕ) : Type 0 where
  pub turns : ℕ
  pub same : turned n turns a ≡ turned n 0 b

-- codes that have equal rotations are equal up to rotation: j turns and three times j more are none
pub met_alike : (n a b i j : ℕ) → turned n i a ≡ turned n j b → Alike n a b
met_alike n a b i j met = record {
  turns = i + 3 * j;
  same =
      sym (turned-turned n i (3 * j) a) ∙ ap (turned n (3 * j)) met ∙ turned-turned n j (3 * j) b
      ∙ sym (turns_mod n (j + 3 * j) b)
      ∙ ap (λ (k : ℕ). turned n k b) (ap (λ (k : ℕ). k % 4) (omega arith) ∙ add-mul-mod_self_right 0 j 4);
}

-- ---- the least of the four turns
one_of : (a b : ℕ) → (min a b ≡ a) ⊎ (min a b ≡ b)
one_of a b = elim (lt_or_le b a) [ inl l ↦ inr (min-eq_right (le_of_lt l)) | inr l ↦ inl (min-eq_left l) ]

module _ (n c : ℕ) where
  abbrev after : ℕ → ℕ
  after r = quarters n (turned n r c)

  after_mod : (r : ℕ) → after (r % 4) ≡ after r
  after_mod r = ap (quarters n) (turns_mod n r c)

  -- attained
  reached : (r : ℕ) × (least_turn n c ≡ after r)
  reached = elim (one_of (min (after 0) (after 1)) (min (after 2) (after 3))) [ inl e ↦ from 0 1 e | inr e ↦ from 2 3 e ]
    where
      from : (i j : ℕ) → least_turn n c ≡ min (after i) (after j) → (r : ℕ) × (least_turn n c ≡ after r)
      from i j e = elim (one_of (after i) (after j)) [ inl f ↦ (i, e ∙ f) | inr f ↦ (j, e ∙ f) ]

  -- a lower bound
  under : (r : ℕ) → least_turn n c ≤ after r
  under r =
      subst (λ (x : ℕ). least_turn n c ≤ x) (after_mod r)
      (each_turn (λ (s : ℕ). least_turn n c ≤ after s) (omega arith) (omega arith) (omega arith) (omega arith) r)

-- rotations of b are rotations of a
module _ (n a b : ℕ) (alike : Alike n a b) where
  abbrev r : ℕ
  r = alike.turns

  turns_of : (j : ℕ) → turned n j b ≡ turned n (r + j) a
  turns_of j = ap (λ (k : ℕ). turned n k b) (sym (zero-add j)) ∙ sym (turned-turned n 0 j b) ∙ ap (turned n j) (sym alike.same) ∙ turned-turned n r j a

  -- four times r turns are none
  turns_back : (i : ℕ) → turned n (3 * r + i) b ≡ turned n i a
  turns_back i =
      turns_of (3 * r + i)
      ∙ sym (turns_mod n (r + (3 * r + i)) a)
      ∙ ap (λ (k : ℕ). turned n k a) (ap (λ (k : ℕ). k % 4) (omega arith) ∙ add-mul-mod_self_right i r 4)
      ∙ turns_mod n i a

  pub alike-least : least_turn n a ≡ least_turn n b
  alike-least =
      let x = reached n a in
      let y = reached n b in
      le_antisymm
      (subst (λ (w : ℕ). least_turn n a ≤ w) (sym (y.1 ∙ ap (quarters n) (turns_of y.0))) (under n a (r + y.0)))
      (subst (λ (w : ℕ). least_turn n b ≤ w) (sym (x.1 ∙ sym (ap (quarters n) (turns_back x.0)))) (under n b (3 * r + x.0)))

pub least-alike : (n a b : ℕ) → 0 < n → least_turn n a ≡ least_turn n b → Alike n a b
least-alike n a b some e =
    let x = reached n a in
    let y = reached n b in
    let i = x.0 in
    let j = y.0 in
    met_alike n a b i j
    (quarters_determine n some (turned n i a) (turned n j b) (turned-below n i a) (turned-below n j b) (sym x.1 ∙ e ∙ y.1))
