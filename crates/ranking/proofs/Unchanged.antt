-- A placement that replaces neither best nor runner-up changes only the count, so a loop may skip it for best and
-- runner-up. Assumes nothing.
use mathlib.Core.Path.{◌≡◌, refl, sym, ap, ◌∙◌}
use Prim.Native.Nat.{ℕ, ◌+◌}
use native.Mathlib.Omega.{arith}
use mathlib.Core.Bool.{Bool, true, false, ◌&&◌}
use borrow.Author.Tests.{not-true}
use Rattle.ranking.specs.declared.Evidence.{Evidence}
use Rattle.ranking.specs.declared.Hypothesis.{Hypothesis}
use Rattle.ranking.specs.declared.Ranking.{Ranking}
use Rattle.ranking.specs.Greatest.{lies_below}
use Rattle.ranking.specs.Ranking.{ranking, better, ranked, ranked_to, Held, keeps_place, changes_nothing}
use Rattle.ranking.proofs.Order.{clash}
use Rattle.ranking.proofs.RankedTo.{ranked_next}
use Rattle.std.specs.Prelude.{Option, Some, None}

both : (s t : Bool) → s && t ≡ true → (s ≡ true) × (t ≡ true)
both false t e = absurd (clash false refl e)
both true t e = (refl, e)

keeps : (c : Option Hypothesis) (h : Hypothesis) → keeps_place c h.evidence ≡ true → better c h ≡ c
keeps None h t = absurd (clash false refl t)
keeps (Some b) h t = rw (not-true (lies_below b.evidence h.evidence) t)

unchanged : (p q : Option Hypothesis) (n : ℕ) (h : Hypothesis) → keeps_place p h.evidence ≡ true → keeps_place q h.evidence ≡ true
    → ranked (ranking p q n) h ≡ ranking p q (n + 1)
unchanged None q n h s t = absurd (clash false refl s)
unchanged (Some b) q n h s t =
    rw (not-true (lies_below b.evidence h.evidence) s) (ap (λ (c : Option Hypothesis). ranking (Some b) c (n + 1)) (keeps q h t))

module _ (k : Ranking) (f : ℕ → Hypothesis) where
  pub held_none : Held k f 0 k
  unfolding ranked_to
  held_none = ap (ranking k.best k.runner_up) (omega arith)

  module _ (n : ℕ) (h : Ranking) (g : Held k f n h) where
    -- one more that is ranked
    pub held-ranked : (x : Hypothesis) (h' : Ranking) → x ≡ f n → h' ≡ ranked h x → Held k f (n + 1) h'
    held-ranked x h' a e = rw (e, a) (ap (ranking _ _) (omega arith) ∙ ap (λ (y : Ranking). ranked y (f n)) g ∙ ranked_next k f n)

    -- one more that changes nothing
    pub held-unchanged : (e : Evidence) → e ≡ (f n).evidence → changes_nothing h.best h.runner_up e ≡ true → Held k f (n + 1) h
    held-unchanged e a t =
        let p = h.best in
        let q = h.runner_up in
        let s = both (keeps_place q (f n).evidence) (keeps_place p (f n).evidence) (rw (sym a) t) in
        ap (ranking p q) (omega arith) ∙ sym (unchanged p q (k.total + n) (f n) s.1 s.0) ∙ ap (λ (x : Ranking). ranked x (f n)) g ∙ ranked_next k f n
