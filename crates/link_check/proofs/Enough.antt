-- Three places for each link are enough: a link has at most one violation of its own, one as a repeated one and one as the first of its
-- marker. Assumes nothing.
use mathlib.Core.Path.{◌≡◌, refl, sym, ap}
use mathlib.Core.Bool.{Bool, true, false, not, ◌&&◌, ◌||◌, cond}
use mathlib.Core.List.{List, [], ◌∷◌}
use Prim.Native.Nat.{ℕ, zero, suc, ◌+◌, ◌*◌, ◌≤◌}
use native.Mathlib.Omega.{arith}
use lib.ListN.{length, length-append}
use borrow.Author.Tests.{eqb-true, eq-eqb}
use Rattle.std.specs.Prelude.{Result, Ok, Err}
use Rattle.lent_list.specs.Front.{up_to}
use Rattle.lent_list.proofs.Front.{up_to-most}
use Rattle.board.specs.Numbering.{as_one, count_passing}
use Rattle.board.proofs.Counting.{count_at-most}
use Rattle.board.specs.declared.Surrounding.{Surrounding}
use Rattle.link_check.specs.declared.LinkViolationKind.{LinkViolationKind}
use Rattle.link_check.specs.declared.LinkViolationKind.TheVariants.{DuplicateCorner}
use Rattle.link_check.specs.declared.LinkCheckMode.{LinkCheckMode}
use Rattle.link_check.specs.declared.LinkCheckMode.TheVariants as mode
use Rattle.integers.specs.Tests.{any_below}
use Rattle.link_check.specs.Links.{link_marker, link_corner, names, repeated, first, is_reported}
use Rattle.link_check.specs.Violations.{Violation, four_of, has, unless, against, repeat_at, missing_entry, in_mode, of_link, without}
use Rattle.link_check.specs.Violations.{own, of_marker, of_first, violations}

-- ---- counting
module _ {A : Type 0} (f : ℕ → List A) (t : ℕ → Bool) (few : (k : ℕ) → length (f k) ≤ as_one (t k)) where
  counted : (n : ℕ) → length (up_to f n) ≤ count_passing t n
  unfolding up_to count_passing
  counted zero = omega arith
  counted (suc n) = omega (arith, counted n, few n, length-append (up_to f n) (f n))

apart : (p q r : ℕ → Bool) → ((k : ℕ) → as_one (p k) + as_one (q k) ≤ as_one (r k)) → (n : ℕ) → count_passing p n + count_passing q n ≤ count_passing r n
unfolding count_passing
apart p q r h zero = omega arith
apart p q r h (suc n) = omega (arith, apart p q r h n, h n)

-- ---- the violations of one link
at_most_one : (b : Bool) (v : Violation) → length (unless b v) ≤ 1
at_most_one true v = omega arith
at_most_one false v = omega arith

own-one : (e : Result Surrounding LinkViolationKind) (m c : ℕ) → length (against e m c) ≤ 1
own-one (Err kind) m c = omega arith
own-one (Ok s) m c = at_most_one (has (four_of s) c) _

-- a link has at most one violation of its own
pub own-few : (links : List ℕ) (expected : ℕ → Result Surrounding LinkViolationKind) (n : ℕ) → length (up_to (own links expected) n) ≤ n
own-few links expected n =
    omega
    (arith, up_to-most (own links expected) 1 n (λ k h. own-one (expected (link_marker links k)) (link_marker links k) (link_corner links k)))

missing-one : (mode : LinkCheckMode) (m : ℕ) (four missing : List ℕ) → length (in_mode mode (missing_entry m four missing)) ≤ 1
missing-one mode.SubsetOk m four missing = omega arith
missing-one mode.MustMatchAll4 m four [] = omega arith
missing-one mode.MustMatchAll4 m four (c ∷ cs) = omega arith

only_one : (a b : Bool) (v : Violation) → length (cond (a && b) (v ∷ []) []) ≤ as_one a
only_one true true v = omega arith
only_one true false v = omega arith
only_one false b v = omega arith

when : (b : Bool) (vs : List Violation) (t : ℕ → Bool) (n : ℕ) → length vs ≤ count_passing t n + 1 → length (cond b vs []) ≤ count_passing (λ j. b && t j) n + 1
when true vs t n h = h
when false vs t n h = omega arith

-- s: marker seen before; f: is the first; a and b: both links have the same marker
bits : (s f a b : Bool) → (a ≡ true → b ≡ true) → (a ≡ true → f ≡ not s) → as_one s + as_one (f && a) ≤ as_one (s || b)
bits true true true b h g = let e = g refl in let z : ◌≡◌ {A = ℕ} 0 1 = cc in absurd (omega arith)
bits true true false b h g = omega arith
bits true false a b h g = omega arith
bits false true true b h g = rw (h refl) (omega arith)
bits false true false b h g = omega arith
bits false false a b h g = omega arith

module _ (links : List ℕ) (n : ℕ) (mode : LinkCheckMode) (expected : ℕ → Result Surrounding LinkViolationKind) where
  -- the violations of a marker: one for each of its links, and one
  of_marker_lem : (m : ℕ) (e : Result Surrounding LinkViolationKind) → length (of_marker links n mode m e) ≤ count_passing (names links m) n + 1
  of_marker_lem m (Err kind) = omega arith
  of_marker_lem m (Ok s) =
      let four = four_of s in
      let missing = without (is_reported links n m) four in
      omega (
        arith,
        length-append (up_to (repeat_at links m four) n) (in_mode mode (missing_entry m four missing)),
        counted (repeat_at links m four) (names links m) (λ k. only_one (names links m k) (repeated links k)
            (of_link DuplicateCorner m (link_corner links k) four)) n,
        missing-one mode m four missing,
      )

  -- link j's marker is among those of the first k links
  abbrev seen : ℕ → ℕ → Bool
  seen k j = any_below (names links (link_marker links j)) k

  -- link j has the marker of which link k is the first
  abbrev begins : ℕ → ℕ → Bool
  begins k j = first links k && names links (link_marker links k) j

  one_step : (k j : ℕ) → as_one (seen k j) + as_one (begins k j) ≤ as_one (seen (suc k) j)
  unfolding any_below
  one_step k j =
      bits (seen k j) (first links k) (names links (link_marker links k) j) (names links (link_marker links j) k)
      (λ e. eq-eqb (link_marker links k) (link_marker links j) (sym (same e)))
      (λ e. ap (λ (m : ℕ). not (any_below (names links m) k)) (sym (same e)))
    where
      same : names links (link_marker links k) j ≡ true → link_marker links j ≡ link_marker links k
      same e = eqb-true (link_marker links j) (link_marker links k) e

  begun : (k : ℕ) → length (of_first links n mode expected k) ≤ count_passing (begins k) n + 1
  begun k = when (first links k) _ (names links (link_marker links k)) n (of_marker_lem (link_marker links k) (expected (link_marker links k)))

  firsts : (k : ℕ) → length (up_to (of_first links n mode expected) k) ≤ count_passing (seen k) n + k
  unfolding up_to
  firsts zero = omega arith
  firsts (suc k) =
      omega (
        arith,
        firsts k,
        begun k,
        length-append (up_to (of_first links n mode expected) k) (of_first links n mode expected k),
        apart (seen k) (begins k) (seen (suc k)) (one_step k) n,
      )

  pub enough : length (violations links n mode expected) ≤ 3 * n
  enough =
      omega
      (arith, length-append (up_to (own links expected) n) (up_to (of_first links n mode expected) n), own-few links expected n, firsts n, count_at-most (seen n) n)
