-- The choices among the first corners, stored by id, and how corner k changes them. Assumes nothing.
use mathlib.Core.Path.{◌≡◌, refl, sym, ap, ◌∙◌}
use mathlib.Core.Bool.{Bool, true, false, ◌&&◌}
use mathlib.Core.List.{List}
use mathlib.Core.Option.{Option as Maybe, some}
use Prim.Native.Nat.{ℕ, zero, suc, ◌+◌, ◌-◌, ◌≤◌, ◌<◌}
use native.Mathlib.Numerals.{add-one}
use native.Mathlib.Omega.{arith}
use lib.Dec.{eqb}
use lib.Ieee.{Float, lt}
use lib.ListN.{length, set, replicate, get_or-replicate}
use lib.Seq.{get_or-set_same, get_or-set_other}
use borrow.Author.Tests.{eqb-true, eqb-false, eq-eqb}
use Rattle.corner_mapping.specs.Corners.{Input, id_of, is_id, bears, score_of, greater, replaced, chosen_to}
use Rattle.corner_mapping.specs.Inner.{choice_of, stored, ChoicesHeld}
use Rattle.std.specs.Prelude.{Option, Some, None}

-- ---- corner k against an earlier choice
module _ (scores : List Float) (k : ℕ) where
  abbrev next : ℕ → Maybe ℕ
  next c = replaced (greater scores (choice_of c) k) k (choice_of c)

  before : (c : ℕ) (b : Bool) → lt (score_of scores (suc c - 1)) (score_of scores k) ≡ b → lt (score_of scores c) (score_of scores k) ≡ b
  before c b e = let q : c ≡ suc c - 1 = omega arith in ap (λ (j : ℕ). lt (score_of scores j) (score_of scores k)) q ∙ e

  pub first : (c : ℕ) → c ≡ 0 → choice_of (k + 1) ≡ next c
  first zero e = ap choice_of (add-one k)
  first (suc c) e = absurd (omega arith)

  pub takes : (c : ℕ) → 0 < c → lt (score_of scores (c - 1)) (score_of scores k) ≡ true → choice_of (k + 1) ≡ next c
  takes zero h e = absurd (omega arith)
  takes (suc c) h e = ap choice_of (add-one k) ∙ sym (ap (λ (b : Bool). replaced b k (some c)) (before c true e))

  pub keeps : (c : ℕ) → 0 < c → lt (score_of scores (c - 1)) (score_of scores k) ≡ false → choice_of c ≡ next c
  keeps zero h e = absurd (omega arith)
  keeps (suc c) h e = sym (ap (λ (b : Bool). replaced b k (some c)) (before c false e))

-- ---- the choices stored
module _ (x : Input) where
  abbrev id_at : ℕ → Option ℕ
  id_at k = id_of x.board x.alignment x.grid k

  -- a choice is among the first n corners
  pub stored-below : (id n c : ℕ) → choice_of c ≡ chosen_to x id n → c ≤ n
  unfolding chosen_to
  stored-below id zero zero e = omega arith
  stored-below id zero (suc c) e = cc
  stored-below id (suc n) c e = go (stored-below id n c) (bears x n id && greater x.scores (chosen_to x id n) n) e
    where
      last : (d : ℕ) → choice_of d ≡ some n → d ≤ suc n
      last zero q = omega arith
      last (suc d) q = let r : d ≡ n = cc in omega arith

      go : (choice_of c ≡ chosen_to x id n → c ≤ n) → (b : Bool) → choice_of c ≡ replaced b n (chosen_to x id n) → c ≤ suc n
      go earlier true q = last c q
      go earlier false q = omega (arith, earlier q)

  -- corner k has another id, or none
  pub passed : (k id : ℕ) → bears x k id ≡ false → chosen_to x id (suc k) ≡ chosen_to x id k
  unfolding chosen_to
  passed k id e = ap (λ (b : Bool). replaced (b && greater x.scores (chosen_to x id k) k) k (chosen_to x id k)) e

  -- or this one
  pub met : (k id : ℕ) → bears x k id ≡ true → chosen_to x id (suc k) ≡ replaced (greater x.scores (chosen_to x id k) k) k (chosen_to x id k)
  unfolding chosen_to
  met k id e = ap (λ (b : Bool). replaced (b && greater x.scores (chosen_to x id k) k) k (chosen_to x id k)) e

  pub chosen-first : ChoicesHeld x 0 (replicate 1024 0)
  unfolding chosen_to
  chosen-first = record { at = λ id h. ap choice_of (get_or-replicate {A = ℕ} 1024 id 0 0 h) }

  module _ (k : ℕ) (choices : List ℕ) (h : ChoicesHeld x k choices) where
    pub chosen-same : id_at k ≡ None → ChoicesHeld x (k + 1) choices
    chosen-same e =
        rw (add-one k)
        (record { at = λ id l. h.at id l ∙ sym (passed k id (ap (λ (n : Option ℕ). is_id n id) e)) })

    pub chosen_more : (m c : ℕ) → length choices ≡ 1024 → id_at k ≡ Some m → m < 1024
        → choice_of c ≡ replaced (greater x.scores (stored choices m) k) k (stored choices m) → ChoicesHeld x (k + 1) (set choices m c)
    chosen_more m c long e l q =
        rw (add-one k)
        (record { at = λ id f. go id f (eqb m id) refl })
      where
        go : (id : ℕ) → id < 1024 → (b : Bool) → eqb m id ≡ b → stored (set choices m c) id ≡ chosen_to x id (suc k)
        go id f true t =
            let same : m ≡ id = eqb-true m id t in
            let here : bears x k m ≡ true = ap (λ (n : Option ℕ). is_id n m) e ∙ eq-eqb m m refl in
            ap (stored (set choices m c)) (sym same) ∙ ap choice_of (get_or-set_same choices m c 0 (omega (arith, long, l))) ∙ q
            ∙ ap (λ (o : Maybe ℕ). replaced (greater x.scores o k) k o) (h.at m l) ∙ sym (met k m here)
            ∙ ap (λ (i : ℕ). chosen_to x i (suc k)) same
        go id f false t =
            ap choice_of (get_or-set_other choices m id c 0 (λ r. eqb-false m id t (sym r))) ∙ h.at id f
            ∙ sym (passed k id (ap (λ (n : Option ℕ). is_id n id) e ∙ t))
