-- Laws of checks: one that passes or fails, and a sequence that goes on with a rest. Assumes nothing.
use mathlib.Core.Path.{◌≡◌, refl, sym, ap, ◌∙◌}
use mathlib.Core.Bool.{Bool, true, false}
use mathlib.Core.Option.{Option, none, some, or_else, none-ne-some}
use Rattle.refusal.specs.declared.Refusal.{Refusal}
use Rattle.refusal.specs.Questions.{ask}

-- if nothing is refused, this check passed and nothing is refused after it
pub answered : (a : Bool) (r : Refusal) (next : Option Refusal) → ask a r next ≡ none → (a ≡ true) × (next ≡ none)
answered true r next e = (refl, e)
answered false r next e = absurd (none-ne-some r (sym e))

-- checks that go on with a rest: they refuse as they do alone, else the rest decides
abbrev pub GoesOn : (Option Refusal → Option Refusal) → Type 0
GoesOn f = (rest : Option Refusal) → f rest ≡ or_else (f none) rest

pub ask-first : (a : Bool) (r : Refusal) (f : Option Refusal → Option Refusal) → GoesOn f → GoesOn (λ rest. ask a r (f rest))
unfolding or_else
ask-first true r f g rest = g rest
ask-first false r f g rest = refl

pub ask_last : (a : Bool) (r : Refusal) → GoesOn (ask a r)
unfolding or_else
ask_last true r rest = refl
ask_last false r rest = refl

pub followed_by : (f g : Option Refusal → Option Refusal) → GoesOn f → GoesOn g → GoesOn (λ rest. f (g rest))
unfolding or_else
followed_by f g cf cg rest =
    cf (g rest) ∙ ap (or_else (f none)) (cg rest) ∙ assoc (f none) ∙ sym (ap (λ (o : Option Refusal). or_else o rest) (cf (g none)))
  where
    assoc : (o : Option Refusal) → or_else o (or_else (g none) rest) ≡ or_else (or_else o (g none)) rest
    assoc none = refl
    assoc (some r) = refl

module _ (f : Option Refusal → Option Refusal) (g : GoesOn f) (rest : Option Refusal) where
  pub rest_asked : f none ≡ none → f rest ≡ rest
  unfolding or_else
  rest_asked e = g rest ∙ ap (λ (o : Option Refusal). or_else o rest) e

  pub refusal_stands : (r : Refusal) → f none ≡ some r → f rest ≡ some r
  unfolding or_else
  refusal_stands r e = g rest ∙ ap (λ (o : Option Refusal). or_else o rest) e

  pub both-passed : f rest ≡ none → (f none ≡ none) × (rest ≡ none)
  unfolding or_else
  both-passed e = go (f none) (sym (g rest) ∙ e)
    where
      go : (o : Option Refusal) → or_else o rest ≡ none → (o ≡ none) × (rest ≡ none)
      go none q = (refl, q)
      go (some r) q = absurd (none-ne-some r (sym q))
