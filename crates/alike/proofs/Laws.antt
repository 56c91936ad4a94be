-- `alike` is symmetric, codes past the last marker do not matter, and if no two codes are equal up to rotation, an exactly read code
-- is that of at most one marker at any turn. Assumes nothing.
use mathlib.Core.Path.{◌≡◌, refl, sym, ap, ap₂, ◌∙◌}
use mathlib.Core.Bool.{Bool, true, false, not, ◌&&◌, false≢true}
use mathlib.Core.List.{List}
use mathlib.Core.Logic.{◌⊎◌, inl, inr}
use Prim.Native.Nat.{ℕ, ◌*◌, ◌%◌, ◌^◌, ◌≤◌, ◌<◌}
use native.Mathlib.Nat.{mod-lt}
use native.Mathlib.Omega.{arith}
use lib.Dec.{eqb, lit<}
use lib.ListN.{get_or}
use borrow.Author.Tests.{eq-eqb, ne_eqb, eqb-true, eqb-false, not-true}
use Rattle.integers.specs.Tests.{any_below}
use Rattle.integers.proofs.Distances.{lt_or_le}
use Rattle.integers.proofs.Tests.{both, any_true, any_passes}
use Rattle.matcher.specs.Codes.{turned}
use Rattle.matcher.proofs.Turns.{turns_mod, turned_none}
use Rattle.sorting.specs.Order.{Told, word_at}
use Rattle.alike.specs.Alike.{alike, two_alike}
use Rattle.alike.specs.Quarters.{HasLeast}
use Rattle.alike.proofs.Least.{Alike, met_alike, alike-least, least-alike}

-- ---- two codes
pub alike_is : (n a b : ℕ) → alike n a b ≡ true → Alike n a b
alike_is n a b e =
    let x = any_passes (λ (turns : ℕ). eqb (turned n turns a) (turned n 0 b)) 4 e in
    record { turns = x.0; same = eqb-true (turned n x.0 a) (turned n 0 b) x.2 }

pub is-alike : (n a b : ℕ) → Alike n a b → alike n a b ≡ true
is-alike n a b x =
    let r = x.turns in
    any_true (λ (turns : ℕ). eqb (turned n turns a) (turned n 0 b)) 4 (r % 4) (mod-lt r (lit< tt))
    (eq-eqb (turned n (r % 4) a) (turned n 0 b) (turns_mod n r a ∙ x.same))

-- symmetry
alike_back : (n a b : ℕ) → Alike n a b → Alike n b a
alike_back n a b x = met_alike n b a 0 x.turns (sym x.same)

pub either_way : (n a b : ℕ) → alike n a b ≡ alike n b a
either_way n a b = go (alike n a b) (alike n b a) refl refl
  where
    go : (x y : Bool) → alike n a b ≡ x → alike n b a ≡ y → x ≡ y
    go true true e f = refl
    go false false e f = refl
    go true false e f = absurd (false≢true (sym f ∙ is-alike n b a (alike_back n a b (alike_is n a b e))))
    go false true e f = absurd (false≢true (sym e ∙ is-alike n a b (alike_back n b a (alike_is n b a f))))

-- document 02's sentence, for a code that passes question 8: a turned code of a is b
pub as_said : (n a b : ℕ) → b < 2 ^ (n * n) → alike n a b ≡ any_below (λ (turns : ℕ). eqb (turned n turns a) b) 4
as_said n a b h = ap (λ (x : ℕ). any_below (λ (turns : ℕ). eqb (turned n turns a) x) 4) (turned_none n b h)

-- ---- the codes of a board
module _ (n : ℕ) (codes : List ℕ) (count : ℕ) where
  abbrev code : ℕ → ℕ
  code k = get_or codes k 0

  abbrev pair : ℕ → ℕ → Bool
  pair a b = not (eqb a b) && alike n (code a) (code b)

  pub record TwoAlike : Type 0 where
    pub first : ℕ
    pub second : ℕ
    pub first_used : first < count
    pub second_used : second < count
    pub apart : first ≡ second → ⊥
    pub alike-codes : Alike n (code first) (code second)

  pub two_are : two_alike n codes count ≡ true → TwoAlike
  two_are e =
      let x = any_passes (λ (a : ℕ). any_below (pair a) count) count e in
      let y = any_passes (pair x.0) count x.2 in
      let h = both (not (eqb x.0 y.0)) (alike n (code x.0) (code y.0)) y.2 in
      record {
        first = x.0;
        second = y.0;
        first_used = x.1;
        second_used = y.1;
        apart = eqb-false x.0 y.0 (not-true (eqb x.0 y.0) h.0);
        alike-codes = alike_is n (code x.0) (code y.0) h.1;
      }

  pub are_two : TwoAlike → two_alike n codes count ≡ true
  are_two t =
      let a = t.first in
      let b = t.second in
      any_true (λ (k : ℕ). any_below (pair k) count) count a t.first_used
      (any_true (pair a) count b t.second_used
      (ap₂ (λ (x y : Bool). not x && y) (ne_eqb a b t.apart) (is-alike n (code a) (code b) t.alike-codes)))

  -- an exactly read code is that of at most one marker at any turn
  pub names-one : two_alike n codes count ≡ false → (read a b r s : ℕ) → a < count → b < count → turned n r (code a) ≡ read → turned n s (code b) ≡ read → a ≡ b
  names-one passed read a b r s ha hb x y = go (eqb a b) refl
    where
      go : (t : Bool) → eqb a b ≡ t → a ≡ b
      go true e = eqb-true a b e
      go false e =
          let two = are_two (record { first = a; second = b; first_used = ha; second_used = hb; apart = eqb-false a b e; alike-codes = met_alike n (code a) (code b) r s (x ∙ sym y) }) in
          absurd (false≢true (sym passed ∙ two))

  -- the answer from the canonical keys
  pub answered : (least : List ℕ) (r : Bool) → 0 < n → HasLeast n codes count least → Told count (word_at least) r → r ≡ not (two_alike n codes count)
  answered least true some has told = go (two_alike n codes count) refl
    where
      equal : (t : TwoAlike) → get_or least t.first 0 ≡ get_or least t.second 0
      equal t =
          has t.first t.first_used ∙ alike-least n (code t.first) (code t.second) t.alike-codes ∙ sym (has t.second t.second_used)

      none : TwoAlike → ⊥
      none t = order (lt_or_le t.first t.second)
        where
          order : (t.first < t.second) ⊎ (t.second ≤ t.first) → ⊥
          order (inl l) = told.different refl t.first t.second l t.second_used (equal t)
          order (inr l) = told.different refl t.second t.first (omega (arith, l, t.apart)) t.first_used (sym (equal t))

      go : (b : Bool) → two_alike n codes count ≡ b → true ≡ not b
      go true e = absurd (none (two_are e))
      go false e = refl
  answered least false some has told =
      let x = told.repeated refl in
      let a = x.first in
      let b = x.second in
      let ha : a < count = omega (arith, x.order, x.inside) in
      ap not (sym (are_two (record {
        first = a;
        second = b;
        first_used = ha;
        second_used = x.inside;
        apart = λ e. omega (arith, e, x.order);
        alike-codes = least-alike n (code a) (code b) some (sym (has a ha) ∙ x.equal ∙ has b x.inside);
      })))

-- codes past the count do not matter
pub past_the_last : (n : ℕ) (codes others : List ℕ) (count : ℕ) → ((k : ℕ) → k < count → get_or codes k 0 ≡ get_or others k 0)
    → two_alike n codes count ≡ two_alike n others count
past_the_last n codes others count e = go (two_alike n codes count) (two_alike n others count) refl refl
  where
    carried : (xs ys : List ℕ) → ((k : ℕ) → k < count → get_or xs k 0 ≡ get_or ys k 0) → TwoAlike n xs count → TwoAlike n ys count
    carried xs ys f t = record {
      first = t.first;
      second = t.second;
      first_used = t.first_used;
      second_used = t.second_used;
      apart = t.apart;
      alike-codes = rw (sym (f t.first t.first_used), sym (f t.second t.second_used)) t.alike-codes;
    }

    go : (a b : Bool) → two_alike n codes count ≡ a → two_alike n others count ≡ b → a ≡ b
    go true true f g = refl
    go false false f g = refl
    go true false f g = absurd (false≢true (sym g ∙ are_two n others count (carried codes others e (two_are n codes count f))))
    go false true f g = absurd (false≢true (sym f ∙ are_two n codes count (carried others codes (λ k l. sym (e k l)) (two_are n others count g))))
