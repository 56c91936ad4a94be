-- Document 01, Links: the violations, in order, and the 12 words of each.
use Rattle.std.specs.Prelude.{ℕ, Bool, false, ◌&&◌, ◌||◌, cond, eqb, length, get_or, Option, Some, None, Result, Ok, Err}
use mathlib.Core.List.{List, [], ◌∷◌, ◌++◌, flat_map}
use Rattle.std.proofs.Math.Option.{Option as Maybe, none, some}
use Rattle.lent_list.specs.Front.{up_to}
use Rattle.board.specs.declared.Board.{Board}
use Rattle.board.specs.Layout.{marker_square, surrounding_corners}
use Rattle.link_check.specs.declared.LinkCheckMode.{LinkCheckMode}
use Rattle.link_check.specs.declared.LinkCheckMode.TheVariants as mode
use Rattle.link_check.specs.declared.LinkViolationKind.{LinkViolationKind}
use Rattle.link_check.specs.declared.LinkViolationKind.TheVariants.{UnknownMarker, MarkerHasNoFourCorners, CornerNotInNeighborhood, DuplicateCorner}
use Rattle.link_check.specs.declared.LinkViolationKind.TheVariants.{MissingCorners}
use Rattle.link_check.specs.Links.{link_marker, link_corner, names, repeated, first, is_reported}
use Rattle.board.specs.declared.Position.{Position}
use Rattle.board.specs.declared.Surrounding.{Surrounding}

-- What the board expects of a marker: its four corners; for an unknown one or one on the rim, the kind of violation of each of its links.
abbrev pub of_corners : Option Surrounding → Result Surrounding LinkViolationKind
of_corners (Some four) = Ok four
of_corners None = Err MarkerHasNoFourCorners

abbrev pub on_square : Option Position → Option Surrounding → Result Surrounding LinkViolationKind
on_square None four = Err UnknownMarker
on_square (Some place) four = of_corners four

unfoldable pub expectation : Board → ℕ → Result Surrounding LinkViolationKind
expectation b m = on_square (marker_square b m) (surrounding_corners b m)

abbrev pub four_of : Surrounding → List ℕ
four_of s = s.top_left ∷ s.top_right ∷ s.bottom_right ∷ s.bottom_left ∷ []

-- A violation: marker, kind, reported corner if any, the expected four if any, and the missing ones.
pub record Violation : Type 0 where
  pub marker : ℕ
  pub kind : LinkViolationKind
  pub reported : Maybe ℕ
  pub expected : List ℕ
  pub missing : List ℕ

-- a violation with the corner of a link
abbrev pub of_link : LinkViolationKind → ℕ → ℕ → List ℕ → Violation
of_link kind m c four = record { marker = m; kind = kind; reported = some c; expected = four; missing = [] }

-- First, in link order: unknown marker, no four corners or corner not in neighbourhood.
abbrev pub has : List ℕ → ℕ → Bool
has [] c = false
has (x ∷ xs) c = eqb x c || has xs c

abbrev pub unless : {A : Type 0} → Bool → A → List A
unless b x = cond b [] (x ∷ [])

abbrev pub against : Result Surrounding LinkViolationKind → ℕ → ℕ → List Violation
against (Err kind) m c = of_link kind m c [] ∷ []
against (Ok s) m c = unless (has (four_of s) c) (of_link CornerNotInNeighborhood m c (four_of s))

-- Then per expected marker: each repeated corner after its first, in link order,
abbrev pub repeat_at : List ℕ → ℕ → List ℕ → ℕ → List Violation
repeat_at links m four k = cond (names links m k && repeated links k) (of_link DuplicateCorner m (link_corner links k) four ∷ []) []

-- and under `MustMatchAll4` one violation for the missing corners, if any is missing, in the order of the four.
unfoldable pub without : (ℕ → Bool) → List ℕ → List ℕ
without seen [] = []
without seen (c ∷ cs) = unless (seen c) c ++ without seen cs

abbrev pub missing_entry : ℕ → List ℕ → List ℕ → List Violation
missing_entry m four [] = []
missing_entry m four (c ∷ cs) =
    record { marker = m; kind = MissingCorners; reported = none; expected = four; missing = c ∷ cs } ∷ []

abbrev pub in_mode : LinkCheckMode → List Violation → List Violation
in_mode mode.SubsetOk vs = []
in_mode mode.MustMatchAll4 vs = vs

-- link k's own violation, by what is expected of each marker
abbrev pub own : List ℕ → (ℕ → Result Surrounding LinkViolationKind) → ℕ → List Violation
own links expected k = against (expected (link_marker links k)) (link_marker links k) (link_corner links k)

-- The links, their number, and the mode.
module _ (links : List ℕ) (n : ℕ) (mode : LinkCheckMode) where
  abbrev pub missing_of : ℕ → List ℕ → List Violation
  missing_of m four = in_mode mode (missing_entry m four (without (is_reported links n m) four))

  abbrev pub of_four : ℕ → List ℕ → List Violation
  of_four m four = up_to (repeat_at links m four) n ++ missing_of m four

  abbrev pub of_marker : ℕ → Result Surrounding LinkViolationKind → List Violation
  of_marker m (Err kind) = []
  of_marker m (Ok s) = of_four m (four_of s)

  -- the violations of link k's marker, if the link is its first
  abbrev pub of_first : (ℕ → Result Surrounding LinkViolationKind) → ℕ → List Violation
  of_first expected k = cond (first links k) (of_marker (link_marker links k) (expected (link_marker links k))) []

  abbrev pub violations : (ℕ → Result Surrounding LinkViolationKind) → List Violation
  violations expected = up_to (own links expected) n ++ up_to (of_first expected) n

-- The words: marker, kind, reported corner or 0, the expected four or 0, the number of missing corners, and these, padded with 0.
abbrev pub kind_number : LinkViolationKind → ℕ
kind_number UnknownMarker = 1
kind_number MarkerHasNoFourCorners = 2
kind_number CornerNotInNeighborhood = 3
kind_number DuplicateCorner = 4
kind_number MissingCorners = 5

abbrev pub or_nought : Maybe ℕ → ℕ
or_nought none = 0
or_nought (some c) = c

abbrev pub told : ℕ → ℕ → ℕ → List ℕ → ℕ → List ℕ → List ℕ
told m kind c four count missing =
    m ∷ kind ∷ c ∷ get_or four 0 0 ∷ get_or four 1 0 ∷ get_or four 2 0 ∷ get_or four 3 0 ∷ count ∷ get_or missing 0 0 ∷ get_or missing 1 0 ∷ get_or missing 2 0
    ∷ get_or missing 3 0 ∷ []

abbrev pub violation_words : Violation → List ℕ
violation_words v = told v.marker (kind_number v.kind) (or_nought v.reported) v.expected (length v.missing) v.missing

abbrev pub words_of_violations : List Violation → List ℕ
words_of_violations vs = flat_map violation_words vs
