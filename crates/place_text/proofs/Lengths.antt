-- The lengths of numbers and lines in bytes, and that the text of a result fits in 32 KiB. Assumes nothing.
use mathlib.Core.Path.{◌≡◌, refl}
use mathlib.Core.Bool.{Bool, true, false, cond}
use mathlib.Core.List.{List, [], ◌∷◌, ◌++◌}
use Prim.Native.Nat.{ℕ, zero, suc, ◌+◌, ◌*◌, ◌-◌, ◌/◌, ◌%◌, ◌^◌, ◌≤◌, ◌<◌}
use native.Mathlib.Nat.{pow-suc}
use native.Mathlib.Omega.{arith}
use lib.Dec.{eqb, ltb, lit<}
use lib.ListN.{length, get_or, length-append}
use lib.Ieee.{binary32, to_bits}
use lib.IntN.{ℤ, pos, negsuc, nat_abs}
use borrow.Author.Tests.{ltb-true, ltb-false}
use Rattle.lent_list.proofs.Front.{up_to-most}
use Rattle.refusal.specs.declared.Refusal.{Refusal}
use Rattle.refusal.specs.declared.Refusal.TheVariants as refusal
use Rattle.refusal.specs.Numbers.{number_of, values_of}
use Rattle.ranking.specs.declared.Evidence.{Evidence}
use Rattle.ranking.specs.declared.Evidence.TheVariants as evidence
use Rattle.ranking.specs.declared.Hypothesis.{Hypothesis}
use Rattle.grid_alignment.specs.declared.GridAlignment.{GridAlignment}
use Rattle.board_match.specs.declared.Match.{Match}
use Rattle.board_match.specs.Match.{match_answer, match_list}
use Rattle.grid_alignment.specs.Alignment.{SmallAlignment}
use Rattle.board_match.specs.Sizes.{SmallHypothesis, SmallRunnerUp, SmallMatch, SmallAnswer}
use Rattle.board_match.proofs.Sizes.{small-answer}
use Rattle.place_text.specs.Numerals.{digit, hex2, hex4, hex8, decimal, signed_decimal, signed_word}
use Rattle.place_text.specs.Text.{line, and_words, float_word, the_placed, the_best, the_next, the_margin, the_placements, the_refused, evidence_word}
use Rattle.place_text.specs.Text.{hypothesis_line, next_line, corners_line, word_of, reading, marker_line, marker_lines, match_lines, refusal_line, answer_line, text_of}
use Rattle.place_text.specs.Room.{Room}
use Rattle.place_text.proofs.Numerals.{decimal-short, decimal-long}
use Rattle.std.specs.Prelude.{Option, Result, Some, None, Ok, Err}

pub decimal-room : (k n : ℕ) → n < 10 ^ suc k → length (decimal n) ≤ suc k
decimal-room zero n h = rw (decimal-short n h) (omega arith)
decimal-room (suc k) n h = go (ltb n 10) (ltb-true n 10) (ltb-false n 10) (decimal-room k (n / 10))
  where
    go : (b : Bool) → (b ≡ true → n < 10) → (b ≡ false → 10 ≤ n) → (n / 10 < 10 ^ suc k → length (decimal (n / 10)) ≤ suc k) → length (decimal n) ≤ suc (suc k)
    go true s _ _ = rw (decimal-short n (s refl)) (omega arith)
    go false _ l shorter =
        let r = shorter (omega (arith, pow-suc 10 (suc k))) in
        rw (decimal-long n (l refl)) (omega (arith, r, length-append (decimal (n / 10)) (digit (n % 10) ∷ [])))

hex8-room : (n : ℕ) → length (hex8 n) ≡ 8
unfolding hex8 hex4 hex2
hex8-room n = refl

signed-room : (z : ℤ) → nat_abs z ≤ 4128 → length (signed_decimal z) ≤ 5
signed-room (pos n) h = omega (arith, decimal-room 3 n (omega arith))
signed-room (negsuc n) h = omega (arith, decimal-room 3 (suc n) (omega arith))

-- a turn and a translation
turn-room : (n : ℕ) → n < 4 → length (decimal n) ≤ 1
turn-room n h = decimal-room 0 n (omega arith)

signed_word-room : (n : ℕ) → n < 2 ^ 32 → length (signed_word n) ≤ 11
signed_word-room n h = go (ltb n 2147483648)
  where
    go : (b : Bool) → length (cond b (decimal n) (45 ∷ decimal (4294967296 - n))) ≤ 11
    go true = omega (arith, decimal-room 9 n (omega arith))
    go false = omega (arith, decimal-room 9 (4294967296 - n) (omega arith))

evidence-room : (e : Evidence) → length (evidence_word e) ≤ 8
evidence-room (evidence.Number x) = omega (arith, hex8-room (to_bits binary32 x))
evidence-room evidence.Absent = omega arith

hypothesis-room : (cells : ℕ) (first : List ℕ) (h : Hypothesis) → cells ≤ 256 → SmallHypothesis cells h → length (hypothesis_line first h) ≤ length first + 28
hypothesis-room cells first h few s =
    let a = h.alignment in
    let t = signed-room a.tx (omega (arith, s.alignment.tx)) in
    let v = signed-room a.ty (omega (arith, s.alignment.ty)) in
    let n = decimal-room 2 h.contributing_cells (omega (arith, s.contributing, few)) in
    simp length-append (omega (arith, turn-room a.turn s.alignment.turn, t, v, evidence-room h.evidence, n))

next_room : (cells : ℕ) (r : Option Hypothesis) → cells ≤ 256 → SmallRunnerUp cells r → length (next_line r) ≤ 32
next_room cells (Some h) few s = hypothesis-room cells the_next h few s
next_room cells None few s = omega arith

corners-room : (a : GridAlignment) → SmallAlignment 4128 a → length (corners_line a) ≤ 36
corners-room a s =
    simp length-append (omega (arith, turn-room a.turn s.turn, signed-room a.tx s.tx, signed-room a.ty s.ty))

-- the lines of a match, concatenated
seven : (a b c d e f g : List ℕ) → length a ≤ 7 → length b ≤ 32 → length c ≤ 32 → length d ≤ 16 → length e ≤ 32 → length f ≤ 36
    → length g ≤ 101 * 256 → length (a ++ (b ++ (c ++ (d ++ (e ++ (f ++ g)))))) ≤ 32768
seven a b c d e f g ha hb hc hd he hf hg = simp length-append (omega arith)

module _ (words : List ℕ) (sizes : (k : ℕ) → get_or words k 0 < 2 ^ 32) where
  unsigned_room : (k w : ℕ) → length (decimal (word_of words k w)) ≤ 10
  unsigned_room k w = decimal-room 9 (word_of words k w) (omega (arith, sizes (18 * k + w)))

  coordinate_room : (k w : ℕ) → length (signed_word (word_of words k w)) ≤ 11
  coordinate_room k w = signed_word-room (word_of words k w) (sizes (18 * k + w))

  reading-room : (k : ℕ) → length (and_words (reading words k)) ≤ 38
  unfolding reading
  reading-room k =
      simp length-append
      (omega (arith, unsigned_room k 5, hex8-room (word_of words k 6), hex8-room (word_of words k 7), hex8-room (word_of words k 8)))

  marker-room : (k : ℕ) → length (marker_line words k) ≤ 101
  unfolding marker_line
  marker-room k =
      simp length-append
      (omega (arith, unsigned_room k 0, unsigned_room k 1, coordinate_room k 2, coordinate_room k 3, unsigned_room k 4, reading-room k))

  markers-room : (k : ℕ) → length (marker_lines words k) ≤ 101 * k
  markers-room k = up_to-most (marker_line words) 101 k (λ j h. marker-room j)

  match_room : (cells : ℕ) (m : Match) → SmallMatch cells m → length (match_lines m words) ≤ 32768
  unfolding match_lines
  match_room cells m s =
      let p = decimal-room 19 m.placements (omega (arith, s.placements)) in
      let x = hex8-room (to_bits binary32 m.margin) in
      seven (line the_placed []) (hypothesis_line the_best m.best) (next_line m.runner_up) (line the_margin (float_word m.margin ∷ []))
      (line the_placements (decimal m.placements ∷ []))
      (corners_line m.corners)
      (marker_lines words m.markers)
      (omega arith)
      (hypothesis-room cells the_best m.best s.few_cells s.best)
      (next_room cells m.runner_up s.few_cells s.runner_up_is)
      (simp length-append (omega (arith, x)))
      (simp length-append (omega (arith, p)))
      (corners-room m.corners s.corners)
      (omega (arith, markers-room m.markers, s.markers, s.few_cells))

-- an error number has at most two digits
number_small : (r : Refusal) → number_of r < 10 ^ 2
-- BEGIN generated number_small
number_small refusal.InvalidSize = lit< tt
number_small refusal.InvalidCellSize = lit< tt
number_small refusal.InvalidMarkerSizeRel = lit< tt
number_small refusal.InvalidBorderBits = lit< tt
number_small refusal.EmptyDictionary = lit< tt
number_small refusal.BoardOutOfRange = lit< tt
number_small (refusal.NotEnoughDictionaryCodes needed available) = lit< tt
number_small refusal.CodeOutOfRange = lit< tt
number_small refusal.InvalidSettings = lit< tt
number_small refusal.InvalidTable = lit< tt
number_small refusal.NoCells = lit< tt
number_small refusal.CellsOutOfRange = lit< tt
number_small refusal.InvalidSample = lit< tt
number_small refusal.ListTooShort = lit< tt
number_small refusal.TranslationWindow = lit< tt
number_small (refusal.Margin margin) = lit< tt
number_small refusal.NoMarkers = lit< tt
number_small refusal.CornersOutOfRange = lit< tt
number_small refusal.TooManyLinks = lit< tt
number_small refusal.TooManyCells = lit< tt
number_small refusal.InvalidRecord = lit< tt
number_small refusal.CodesAlike = lit< tt
number_small refusal.RepeatedPoint = lit< tt
number_small refusal.ScoreListTooShort = lit< tt
number_small refusal.EvenLegacyBoard = lit< tt

-- END generated number_small

-- and 16 has a bit pattern of eight digits
pub refusal_room : (r : Refusal) → length (refusal_line r) ≤ 20
unfolding refusal_line
refusal_room r = go (eqb (number_of r) 16)
  where
    go : (b : Bool) → length (line the_refused (decimal (number_of r) ∷ cond b (hex8 (get_or (values_of r) 0 0) ∷ []) [])) ≤ 20
    go true =
        simp length-append (omega (arith, decimal-room 1 (number_of r) (number_small r), hex8-room (get_or (values_of r) 0 0)))
    go false = simp length-append (omega (arith, decimal-room 1 (number_of r) (number_small r)))

pub answer-room : (bytes : List ℕ) (a : Result Match Refusal) → SmallAnswer bytes a → length (answer_line a) ≤ 32
answer-room bytes (Ok m) s = hypothesis-room _ the_best m.best s.few_cells s.best
answer-room bytes (Err r) s = omega (arith, refusal_room r)

pub room : Room
room bytes lent small sizes = go (match_answer bytes lent) (small-answer bytes lent small)
  where
    go : (a : Result Match Refusal) → SmallAnswer bytes a → length (text_of a (match_list bytes lent)) ≤ 32768
    go (Ok m) s = match_room (match_list bytes lent) sizes _ m s
    go (Err r) s = omega (arith, refusal_room r)
