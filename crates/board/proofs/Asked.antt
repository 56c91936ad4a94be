-- What the board's questions imply for a specification and its codes, and how an entry point's own questions follow them. Assumes nothing.
use mathlib.Core.Path.{◌≡◌, refl, sym, ap, ap₂, ◌∙◌}
use mathlib.Core.Bool.{Bool, true, false, ◌&&◌}
use mathlib.Core.List.{List, [], ◌∷◌}
use mathlib.Core.Option.{Option, none, some}
use Prim.Native.Nat.{ℕ, zero, suc, ◌+◌, ◌*◌, ◌^◌, ◌≤◌, ◌<◌, min}
use native.Mathlib.Nat.{le_of_suc-le-suc, mul-le-mul, min-eq_left}
use native.Mathlib.Numerals.{add-one}
use native.Mathlib.Omega.{arith}
use lib.Dec.{leb, ltb, ltb→lt}
use lib.ListN.{length, get_or, drop}
use lib.Seq.{drop-cons}
use borrow.Author.Tests.{leb-true, not-true, lt-ltb}
use Rattle.std.specs.Bool.{MatchBool}
use Rattle.std.specs.List.{AllWithin, HoldsAt}
use Rattle.std.proofs.lemmas.Bool.{and_from}
use Rattle.alike.specs.Alike.{two_alike}
use Rattle.alike.proofs.Laws.{names-one}
use Rattle.matcher.specs.Codes.{turned}
use Rattle.refusal.specs.declared.Refusal.{Refusal}
use Rattle.refusal.specs.declared.Refusal.TheVariants as refusal
use Rattle.refusal.specs.Questions.{ask}
use Rattle.refusal.proofs.Questions.{answered, GoesOn, ask-first, ask_last, followed_by, rest_asked, refusal_stands}
use Rattle.integers.proofs.Tests.{both}
use Rattle.board.specs.declared.CharucoBoardSpec.{CharucoBoardSpec}
use Rattle.board.specs.declared.Board.{Board}
use Rattle.board.specs.Layout.{marker_total}
use Rattle.board.specs.Questions.{size_answer, cell_size_answer, marker_size_answer, range_answer, code_in_range, codes_answer, apart_answer}
use Rattle.board.proofs.Laws.{same_count}
use Rattle.board.specs.Questions.{board_of, asked_of_size, asked_of_board, made_unless, sized_board, judged_by, new_board}
use Rattle.std.specs.Prelude.{Ok, Err}

-- ---- the sequence of questions
size_goes_on : (s : CharucoBoardSpec) (count : ℕ) → GoesOn (asked_of_size s count)
unfolding asked_of_size
size_goes_on s count =
    ask-first (size_answer s.rows s.cols) _ _
    (ask-first (cell_size_answer s.cell_size) _ _
    (ask-first (marker_size_answer s.marker_size_rel) _ _
    (ask-first (leb 1 s.border_bits) _ _
    (ask-first (ltb 0 count) _ _
    (ask-first (range_answer s count) _ _
    (ask_last (leb (marker_total (board_of s)) count) _))))))

pub board_goes_on : (s : CharucoBoardSpec) (codes : List ℕ) → GoesOn (asked_of_board s codes)
unfolding asked_of_board
board_goes_on s codes =
    followed_by (asked_of_size s (length codes)) _ (size_goes_on s (length codes))
    (ask-first (codes_answer s.bits codes) _ _ (ask_last (apart_answer (board_of s) codes) refusal.CodesAlike))

-- a board was made or refused
pub made_if : (o : Option Refusal) (s : CharucoBoardSpec) (b : Board) → made_unless o s ≡ Ok b → (o ≡ none) × (b ≡ board_of s)
made_if none s b e = (refl, cc)
made_if (some r) s b e = let z : ◌≡◌ {A = ℕ} 0 1 = cc in absurd (omega arith)

pub refused_if : (o : Option Refusal) (s : CharucoBoardSpec) (r : Refusal) → made_unless o s ≡ Err r → o ≡ some r
refused_if none s r e = let z : ◌≡◌ {A = ℕ} 0 1 = cc in absurd (omega arith)
refused_if (some q) s r e = cc

-- then the rest is checked, or the refusal is the result
module _ (s : CharucoBoardSpec) (codes : List ℕ) (rest : Option Refusal) where
  pub after_made : (b : Board) → new_board s codes ≡ Ok b → asked_of_board s codes rest ≡ rest
  after_made b e = rest_asked (asked_of_board s codes) (board_goes_on s codes) rest (made_if (asked_of_board s codes none) s b e).0

  pub after_refused : (r : Refusal) → new_board s codes ≡ Err r → asked_of_board s codes rest ≡ some r
  after_refused r e = refusal_stands (asked_of_board s codes) (board_goes_on s codes) rest r (refused_if (asked_of_board s codes none) s r e)

-- ---- questions 1 to 7
pub record InRange (s : CharucoBoardSpec) (n : ℕ) : Type 0 where
  pub rows : s.rows ≤ 32
  pub cols : s.cols ≤ 32
  pub border : s.border_bits ≤ 4
  pub some_bits : 1 ≤ s.bits
  pub bits : s.bits ≤ 8
  pub codes : n ≤ 1024

pub in_range : (s : CharucoBoardSpec) (n : ℕ) → range_answer s n ≡ true → InRange s n
in_range s n e =
    let a = both (leb s.rows 32) _ e in
    let b = both (leb s.cols 32) _ a.1 in
    let c = both (leb s.border_bits 4) _ b.1 in
    let d = both (leb 1 s.bits) _ c.1 in
    let f = both (leb s.bits 8) _ d.1 in
    record {
      rows = leb-true s.rows 32 a.0;
      cols = leb-true s.cols 32 b.0;
      border = leb-true s.border_bits 4 c.0;
      some_bits = leb-true 1 s.bits d.0;
      bits = leb-true s.bits 8 f.0;
      codes = leb-true n 1024 f.1;
    }

pub record Sized (s : CharucoBoardSpec) (count : ℕ) : Type 0 where
  pub some-rows : 2 ≤ s.rows
  pub some-cols : 2 ≤ s.cols
  pub cell_size_is : cell_size_answer s.cell_size ≡ true
  pub marker_size : marker_size_answer s.marker_size_rel ≡ true
  pub some-border : 1 ≤ s.border_bits
  pub in_range : InRange s count
  pub enough : marker_total (board_of s) ≤ count

pub sized : (s : CharucoBoardSpec) (count : ℕ) (rest : Option Refusal) → asked_of_size s count rest ≡ none → Sized s count × (rest ≡ none)
unfolding asked_of_size
sized s count rest e =
    let q1 = answered _ _ _ e in
    let q2 = answered _ _ _ q1.1 in
    let q3 = answered _ _ _ q2.1 in
    let q4 = answered _ _ _ q3.1 in
    let q5 = answered (ltb 0 count) _ _ q4.1 in
    let q6 = answered _ _ _ q5.1 in
    let q7 = answered _ _ _ q6.1 in
    let size = both (leb 2 s.rows) (leb 2 s.cols) q1.0 in (
      record {
        some-rows = leb-true 2 s.rows size.0;
        some-cols = leb-true 2 s.cols size.1;
        cell_size_is = q2.0;
        marker_size = q3.0;
        some-border = leb-true 1 s.border_bits q4.0;
        in_range = in_range s count q6.0;
        enough = leb-true (marker_total (board_of s)) count q7.0;
      },
      q7.1,
    )

-- the bits of a board that passed them
pub sized_bits : (s : CharucoBoardSpec) (count : ℕ) (b : Board) → sized_board s count ≡ Ok b → (1 ≤ b.bits) × (b.bits ≤ 8)
sized_bits s count b e =
    let m = made_if (asked_of_size s count none) s b e in
    let r = (sized s count none m.0).0.in_range in
    rw m.1 (r.some_bits, r.bits)

-- and its markers: question 22 reads at most 512
pub sized_few : (s : CharucoBoardSpec) (count : ℕ) (b : Board) → sized_board s count ≡ Ok b → marker_total b ≤ 512
sized_few s count b e =
    let m = made_if (asked_of_size s count none) s b e in
    let r = (sized s count none m.0).0.in_range in
    rw m.1 (omega (arith, same_count (board_of s), mul-le-mul {n₂ = 32} {m₂ = 32} r.rows r.cols))

pub sized_count : (s : CharucoBoardSpec) (count : ℕ) (b : Board) → sized_board s count ≡ Ok b → min (marker_total b) 512 ≡ marker_total b
sized_count s count b e = min-eq_left (sized_few s count b e)

-- ---- questions 8 and 22
pub codes_step : (bits : ℕ) (codes : List ℕ) (k : ℕ) (c : Bool) → k < length codes → code_in_range bits (get_or codes k 0) ≡ c
    → codes_answer bits (drop k codes) ≡ (c && codes_answer bits (drop (k + 1) codes))
codes_step bits codes k c l e = rw (drop-cons codes k 0 l, add-one, e)

codes-below : (bits : ℕ) (codes : List ℕ) → codes_answer bits codes ≡ true → (k : ℕ) → k < length codes → get_or codes k 0 < 2 ^ (bits * bits)
codes-below bits [] e k h = absurd (omega arith)
codes-below bits (c ∷ cs) e zero h = ltb→lt c (2 ^ (bits * bits)) (rw (both (code_in_range bits c) (codes_answer bits cs) e).0 tt)
codes-below bits (c ∷ cs) e (suc k) h = codes-below bits cs (both (code_in_range bits c) (codes_answer bits cs) e).1 k (le_of_suc-le-suc h)

all-codes : (bits : ℕ) (codes : List ℕ) → ((k : ℕ) → k < length codes → code_in_range bits (get_or codes k 0) ≡ true) → codes_answer bits codes ≡ true
all-codes bits [] h = refl
all-codes bits (c ∷ cs) h = and_from (code_in_range bits c) _ (h 0 (omega arith)) (all-codes bits cs (λ k l. h (suc k) (omega arith)))

-- the answer, from every code in range or one that is not
pub codes_from_cases : (bits : ℕ) (codes : List ℕ) (r : Bool)
    → MatchBool r (AllWithin (λ x. code_in_range bits x ≡ true) codes 0 (length codes))
    ((k : ℕ) × (k < length codes) × HoldsAt (λ x. code_in_range bits x ≡ false) codes k)
    → r ≡ codes_answer bits codes
codes_from_cases bits codes true h = sym (all-codes bits codes (λ k l. h k 0 (omega arith) l))
codes_from_cases bits codes false (k, l, out) = go (codes_answer bits codes) refl
  where
    go : (t : Bool) → codes_answer bits codes ≡ t → false ≡ t
    go false e = refl
    go true e = sym (out 0) ∙ lt-ltb _ _ (codes-below bits codes e k l)

-- for a board that passed 1 to 7, and for one that did not
module _ (s : CharucoBoardSpec) (codes : List ℕ) where
  pub then_codes : (b : Board) (below apart : Bool) → Ok b ≡ sized_board s (length codes) → below ≡ codes_answer b.bits codes
      → apart ≡ apart_answer b codes → judged_by below apart b ≡ new_board s codes
  unfolding asked_of_board
  then_codes b below apart e p q =
      let m = made_if (asked_of_size s (length codes) none) s b (sym e) in
      go below apart
      (rest_asked (asked_of_size s (length codes)) (size_goes_on s (length codes)) _ m.0
      ∙ ap₂ (λ (x y : Bool). ask x refusal.CodeOutOfRange (ask y refusal.CodesAlike none))
      (sym (p ∙ ap (λ (x : Board). codes_answer x.bits codes) m.1)) (sym (q ∙ ap (λ (x : Board). apart_answer x codes) m.1)))
      m.1
    where
      go : (x y : Bool) → asked_of_board s codes none ≡ ask x refusal.CodeOutOfRange (ask y refusal.CodesAlike none) → b ≡ board_of s → judged_by x y b ≡ new_board s codes
      go true true f is = ap Ok is ∙ sym (ap (λ (o : Option Refusal). made_unless o s) f)
      go true false f is = sym (ap (λ (o : Option Refusal). made_unless o s) f)
      go false y f is = sym (ap (λ (o : Option Refusal). made_unless o s) f)

  pub sized_refused : (r : Refusal) → Err r ≡ sized_board s (length codes) → Err r ≡ new_board s codes
  unfolding asked_of_board
  sized_refused r e =
      sym
      (ap (λ (o : Option Refusal). made_unless o s)
      (refusal_stands (asked_of_size s (length codes)) (size_goes_on s (length codes)) _ r (refused_if (asked_of_size s (length codes) none) s r (sym e))))

-- ---- all of them
pub record Asked (s : CharucoBoardSpec) (codes : List ℕ) : Type 0 where
  pub sized : Sized s (length codes)
  pub below : (k : ℕ) → k < length codes → get_or codes k 0 < 2 ^ (s.bits * s.bits)
  pub apart : two_alike s.bits codes (marker_total (board_of s)) ≡ false

pub asked : (s : CharucoBoardSpec) (codes : List ℕ) (rest : Option Refusal) → asked_of_board s codes rest ≡ none → Asked s codes × (rest ≡ none)
unfolding asked_of_board
asked s codes rest e =
    let q7 = sized s (length codes) _ e in
    let q8 = answered _ _ _ q7.1 in
    let q22 = answered (apart_answer (board_of s) codes) _ _ q8.1 in
    (record { sized = q7.0; below = codes-below s.bits codes q8.0; apart = not-true _ q22.0 }, q22.1)

-- of a board that was made
pub made : (s : CharucoBoardSpec) (codes : List ℕ) (b : Board) → new_board s codes ≡ Ok b → Asked s codes × (b ≡ board_of s)
made s codes b e = let m = made_if (asked_of_board s codes none) s b e in ((asked s codes none m.0).0, m.1)

-- the purpose of question 22: on a board that was made, an exactly read code is that of at most one marker at any turn
pub reads_one : (s : CharucoBoardSpec) (codes : List ℕ) (b : Board) → new_board s codes ≡ Ok b → (read m n r t : ℕ) → m < marker_total b → n < marker_total b
    → turned b.bits r (get_or codes m 0) ≡ read → turned b.bits t (get_or codes n 0) ≡ read → m ≡ n
reads_one s codes b e read m n r t hm hn x y =
    let p = made s codes b e in
    names-one b.bits codes (marker_total b) (ap (λ (q : Board). two_alike q.bits codes (marker_total q)) p.1 ∙ p.0.apart) read m n r t hm hn x y
