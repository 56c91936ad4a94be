-- The text of a log: entry by entry, the same in whatever pieces it is read. Assumes nothing.
use mathlib.Core.Path.{◌≡◌, refl, sym, ap, ap₂, ◌∙◌}
use mathlib.Core.Bool.{Bool, true, false, cond}
use mathlib.Core.List.{List, [], ◌∷◌, ◌++◌, append_assoc, append-nil}
use mathlib.Core.Logic.{◌⊎◌, inl, inr}
use Prim.Native.Nat.{ℕ, zero, suc, ◌+◌, ◌*◌, ◌-◌, ◌≤◌, ◌<◌, max}
use native.Mathlib.Omega.{arith}
use lib.Dec.{leb}
use lib.ListN.{length, take, drop, length-drop, length-append, get_or-append, take-append-drop}
use lib.Seq.{drop-append-le, take-append-le, take_at, drop_at, drop-drop, length-take-le}
use borrow.Author.Tests.{leb-true, leb-false, le-leb}
use Rattle.shot_record.specs.Fields.{number}
use Rattle.shot_record.specs.Writing.{little_endian, All}
use Rattle.shot_record.proofs.LittleEndian.{byte-below, le_length, number_of_le, le_of_number}
use Rattle.log_text.specs.Lines.{entry_lines}
use Rattle.log_text.specs.Log.{entry_number, record_length, entry_end, is_whole, first_record, raised, rest_text, text_in, log_text}
use Rattle.log_text.specs.Rules.{Entry, FitEntry, entry_bytes, row_bytes, row_lines, highest_after, RowRule, CutRule, WholeRule}
use Rattle.log_text.specs.Rules.{IsNumber, Greatest, GreatestRule, Takes, Took, Read, Print, input, PiecesRule}
use Rattle.std.specs.Prelude.{Option, Some, None}

-- ---- the first entry
abbrev first_lines : Option ℕ → List ℕ → List ℕ
first_lines h bytes = entry_lines h (entry_number bytes) (first_record bytes)

abbrev after : Option ℕ → List ℕ → Option ℕ
after h bytes = raised h (entry_number bytes)

abbrev rest : List ℕ → List ℕ
rest bytes = drop (entry_end bytes) bytes

-- two numbers of entries that are large enough give the same text
enough : (k j : ℕ) (h : Option ℕ) (bytes : List ℕ) → length bytes ≤ k → length bytes ≤ j → text_in k h bytes ≡ text_in j h bytes
unfolding text_in number
enough zero zero h bytes a b = refl
enough zero (suc j) h [] a b = refl
enough zero (suc j) h (x ∷ xs) a b = absurd (omega (arith, a))
enough (suc k) zero h [] a b = refl
enough (suc k) zero h (x ∷ xs) a b = absurd (omega (arith, b))
enough (suc k) (suc j) h bytes a b =
    go (is_whole bytes) (leb-true (entry_end bytes) (length bytes)) (enough k j (after h bytes) (rest bytes))
  where
    go : (w : Bool) → (w ≡ true → entry_end bytes ≤ length bytes)
        → (length (rest bytes) ≤ k → length (rest bytes) ≤ j → text_in k (after h bytes) (rest bytes) ≡ text_in j (after h bytes) (rest bytes))
        → cond w (first_lines h bytes ++ text_in k (after h bytes) (rest bytes)) (rest_text bytes)
        ≡ cond w (first_lines h bytes ++ text_in j (after h bytes) (rest bytes)) (rest_text bytes)
    go true le more =
        let shorter : length (rest bytes) + 6 ≤ length bytes = omega (arith, length-drop (entry_end bytes) bytes, le refl) in
        ap (λ (l : List ℕ). first_lines h bytes ++ l) (more (omega (arith, shorter, a)) (omega (arith, shorter, b)))
    go false le more = refl

pub entry_first : (h : Option ℕ) (bytes : List ℕ) → is_whole bytes ≡ true → log_text h bytes ≡ first_lines h bytes ++ log_text (after h bytes) (rest bytes)
unfolding text_in
entry_first h bytes w =
    let le = leb-true (entry_end bytes) (length bytes) w in
    let m = length bytes - 1 in
    let s : length bytes ≡ suc m = omega (arith, le) in
    ap (λ (k : ℕ). text_in k h bytes) s
    ∙ ap (λ (b : Bool). cond b (first_lines h bytes ++ text_in m (after h bytes) (rest bytes)) (rest_text bytes)) w
    ∙ ap (λ (l : List ℕ). first_lines h bytes ++ l)
    (enough m (length (rest bytes)) (after h bytes) (rest bytes) (omega (arith, length-drop (entry_end bytes) bytes, le, s)) (omega arith))

pub none_whole : (h : Option ℕ) (bytes : List ℕ) → is_whole bytes ≡ false → log_text h bytes ≡ rest_text bytes
unfolding text_in
none_whole h bytes w = go (length bytes)
  where
    go : (k : ℕ) → text_in k h bytes ≡ rest_text bytes
    go zero = refl
    go (suc k) = ap (λ (b : Bool). cond b (first_lines h bytes ++ text_in k (after h bytes) (rest bytes)) (rest_text bytes)) w

-- ---- a whole entry, whatever follows
number_before : (n at : ℕ) (xs ys : List ℕ) → at + n ≤ length xs → number n at (xs ++ ys) ≡ number n at xs
unfolding number
number_before zero at xs ys h = refl
number_before (suc n) at xs ys h =
    ap₂ (λ (b m : ℕ). b + 256 * m) (get_or-append xs ys 0 at (omega (arith, h))) (number_before n (suc at) xs ys (omega (arith, h)))

module _ (xs ys : List ℕ) (w : is_whole xs ≡ true) where
  inside : entry_end xs ≤ length xs
  inside = leb-true (entry_end xs) (length xs) w

  same_length : record_length (xs ++ ys) ≡ record_length xs
  same_length = number_before 2 4 xs ys (omega (arith, inside))

  same_number : entry_number (xs ++ ys) ≡ entry_number xs
  same_number = number_before 4 0 xs ys (omega (arith, inside))

  still_whole : is_whole (xs ++ ys) ≡ true
  still_whole = le-leb (entry_end (xs ++ ys)) (length (xs ++ ys)) (omega (arith, inside, same_length, length-append xs ys))

  same_record : first_record (xs ++ ys) ≡ first_record xs
  same_record =
      ap₂ (λ (n : ℕ) (l : List ℕ). take n l) same_length (drop-append-le 6 xs ys (omega (arith, inside)))
      ∙ take-append-le (record_length xs) (drop 6 xs) ys (omega (arith, length-drop 6 xs, inside))

  same_rest : rest (xs ++ ys) ≡ rest xs ++ ys
  same_rest = ap (λ (n : ℕ). drop (6 + n) (xs ++ ys)) same_length ∙ drop-append-le (entry_end xs) xs ys inside

  pub entry_taken : (h : Option ℕ) → log_text h (xs ++ ys) ≡ first_lines h xs ++ log_text (after h xs) (rest xs ++ ys)
  entry_taken h =
      entry_first h (xs ++ ys) still_whole
      ∙ ap₂ (λ (a b : List ℕ). a ++ b) (ap₂ (entry_lines h) same_number same_record)
      (ap₂ (λ (n : ℕ) (l : List ℕ). log_text (raised h n) l) same_number same_rest)

-- ---- entries as bytes
module _ (e : Entry) (f : FitEntry e) (ys : List ℕ) where
  abbrev bytes : List ℕ
  bytes = entry_bytes e ++ ys

  abbrev head : List ℕ
  head = little_endian 4 e.number ++ little_endian 2 (length e.shot)

  head-length : length head ≡ 6
  head-length =
      length-append (little_endian 4 e.number) (little_endian 2 (length e.shot))
      ∙ omega (arith, le_length 4 e.number, le_length 2 (length e.shot))

  -- the header, then the record, then the rest
  in_three : bytes ≡ head ++ (e.shot ++ ys)
  in_three =
      ap (λ (l : List ℕ). l ++ ys) (sym (append_assoc (little_endian 4 e.number) (little_endian 2 (length e.shot)) e.shot))
      ∙ append_assoc head e.shot ys

  from_4 : drop 4 bytes ≡ little_endian 2 (length e.shot) ++ (e.shot ++ ys)
  from_4 =
      ap (drop 4) (in_three ∙ append_assoc (little_endian 4 e.number) (little_endian 2 (length e.shot)) (e.shot ++ ys))
      ∙ drop_at (little_endian 4 e.number) (little_endian 2 (length e.shot) ++ (e.shot ++ ys)) 4 (le_length 4 e.number)

  its_number : entry_number bytes ≡ e.number
  its_number =
      number_of_le 4 0 e.number bytes (little_endian 2 (length e.shot) ++ (e.shot ++ ys)) f.number
      (in_three ∙ append_assoc (little_endian 4 e.number) (little_endian 2 (length e.shot)) (e.shot ++ ys))

  its_length : record_length bytes ≡ length e.shot
  its_length = number_of_le 2 4 (length e.shot) bytes (e.shot ++ ys) (omega (arith, f.length)) from_4

  from_6 : drop 6 bytes ≡ e.shot ++ ys
  from_6 = ap (drop 6) in_three ∙ drop_at head (e.shot ++ ys) 6 head-length

  its_record : first_record bytes ≡ e.shot
  its_record = ap₂ (λ (n : ℕ) (l : List ℕ). take n l) its_length from_6 ∙ take_at e.shot ys (length e.shot) refl

  its_rest : rest bytes ≡ ys
  its_rest =
      ap (λ (n : ℕ). drop (6 + n) bytes) its_length
      ∙ sym (drop-drop (length e.shot) 6 bytes)
      ∙ ap (drop (length e.shot)) from_6
      ∙ drop_at e.shot ys (length e.shot) refl

  whole : is_whole bytes ≡ true
  whole =
      le-leb (entry_end bytes) (length bytes)
      (omega (arith, its_length, ap length in_three, length-append head (e.shot ++ ys), length-append e.shot ys, head-length))

  pub written_first : (h : Option ℕ) → log_text h bytes ≡ entry_lines h e.number e.shot ++ log_text (raised h e.number) ys
  written_first h =
      entry_first h bytes whole
      ∙ ap₂ (λ (a b : List ℕ). a ++ b) (ap₂ (entry_lines h) its_number its_record) (ap₂ (λ (n : ℕ) (l : List ℕ). log_text (raised h n) l) its_number its_rest)

pub row_text : RowRule
row_text h [] f ys = refl
row_text h (e ∷ es) f ys =
    ap (log_text h) (append_assoc (entry_bytes e) (row_bytes es) ys)
    ∙ written_first e f.0 (row_bytes es ++ ys) h
    ∙ ap (λ (l : List ℕ). entry_lines h e.number e.shot ++ l) (row_text (raised h e.number) es f.1 ys)
    ∙ sym (append_assoc (entry_lines h e.number e.shot) (row_lines (raised h e.number) es) (log_text (highest_after h (e ∷ es)) ys))

pub cut_between : CutRule
unfolding text_in
cut_between h es f ys =
    let alone : log_text h (row_bytes es) ≡ row_lines h es =
    ap (log_text h) (sym (append-nil (row_bytes es))) ∙ row_text h es f [] ∙ append-nil (row_lines h es) in
    row_text h es f ys ∙ ap (λ (l : List ℕ). l ++ log_text (highest_after h es) ys) (sym alone)

-- ---- bytes with a whole entry
pub whole_written : WholeRule
whole_written bytes b w =
    let small = byte-below bytes b in
    let long = leb-true (entry_end bytes) (length bytes) w in
    let n = little_endian 4 (entry_number bytes) in
    let k = little_endian 2 (length (first_record bytes)) in
    let size : length (first_record bytes) ≡ record_length bytes = length-take-le (record_length bytes) (drop 6 bytes) (omega (arith, length-drop 6 bytes, long)) in
    let from_0 : take 4 bytes ≡ n = le_of_number bytes small 4 0 (omega (arith, long)) in
    let from_4 : take 2 (drop 4 bytes) ≡ k = le_of_number bytes small 2 4 (omega (arith, long)) ∙ ap (little_endian 2) (sym size) in
    let after_6 : drop 6 bytes ≡ first_record bytes ++ rest bytes =
    sym (take-append-drop (record_length bytes) (drop 6 bytes)) ∙ ap (λ (l : List ℕ). first_record bytes ++ l) (drop-drop (record_length bytes) 6 bytes) in
    let after_4 : drop 4 bytes ≡ k ++ (first_record bytes ++ rest bytes) =
    sym (take-append-drop 2 (drop 4 bytes)) ∙ ap₂ (λ (x y : List ℕ). x ++ y) from_4 (drop-drop 2 4 bytes ∙ after_6) in
    sym (take-append-drop 4 bytes)
    ∙ ap₂ (λ (x y : List ℕ). x ++ y) from_0 after_4
    ∙ ap (λ (l : List ℕ). n ++ l) (sym (append_assoc k (first_record bytes) (rest bytes)))
    ∙ sym (append_assoc n (k ++ first_record bytes) (rest bytes))

-- ---- the highest number
-- after entries that follow a number m
abbrev GreatestFrom : ℕ → List Entry → Option ℕ → Type 0
GreatestFrom m es None = ⊥
GreatestFrom m es (Some n) = (m ≤ n) × (All (λ (e : Entry). e.number ≤ n) es × ((n ≡ m) ⊎ IsNumber n es))

greater_of : (k m n : ℕ) → k ≡ max m n → (k ≡ m) ⊎ (k ≡ n)
greater_of k m n e = go (leb m n) (leb-true m n) (leb-false m n)
  where
    go : (b : Bool) → (b ≡ true → m ≤ n) → (b ≡ false → n < m) → (k ≡ m) ⊎ (k ≡ n)
    go true le lt = inr (omega (arith, e, le refl))
    go false le lt = inl (omega (arith, e, lt refl))

greatest-from : (m : ℕ) (es : List Entry) → GreatestFrom m es (highest_after (Some m) es)
greatest-from m [] = (omega arith, (tt, inl refl))
greatest-from m (e ∷ es) = go (highest_after (Some (max m e.number)) es) (greatest-from (max m e.number) es)
  where
    which : (k : ℕ) → (k ≡ m) ⊎ (k ≡ e.number) → (k ≡ m) ⊎ ((k ≡ e.number) ⊎ IsNumber k es)
    which k (inl i) = inl i
    which k (inr i) = inr (inl i)

    whose : (k : ℕ) → (k ≡ max m e.number) ⊎ IsNumber k es → (k ≡ m) ⊎ ((k ≡ e.number) ⊎ IsNumber k es)
    whose k (inl i) = which k (greater_of k m e.number i)
    whose k (inr i) = inr (inr i)

    go : (h : Option ℕ) → GreatestFrom (max m e.number) es h → GreatestFrom m (e ∷ es) h
    go None g = g
    go (Some k) g = (omega (arith, g.0), ((omega (arith, g.0), g.1.0), whose k g.1.1))

pub greatest_before : GreatestRule
greatest_before [] = refl
greatest_before (e ∷ es) = go (highest_after (Some e.number) es) (greatest-from e.number es)
  where
    go : (h : Option ℕ) → GreatestFrom e.number es h → Greatest (e ∷ es) h
    go None g = absurd g
    go (Some k) g = ((g.0, g.1.0), g.1.1)

-- ---- pieces
pub took_nothing : (h : Option ℕ) (held : List ℕ) → Took h held h held
took_nothing h held = record { lines = []; takes = λ more. refl }

pub took_more : {h k : Option ℕ} {a b : List ℕ} → Took h a k b → (m : Option ℕ) (c lines : List ℕ) → Takes k b m c lines → Took h a m c
took_more t m c lines s =
    record {
      lines = t.lines ++ lines;
      takes = λ more.
          t.takes more ∙ ap (λ (l : List ℕ). t.lines ++ l) (s more) ∙ sym (append_assoc t.lines lines (log_text m (c ++ more)));
    }

pub empty_not_whole : is_whole [] ≡ false
unfolding number
empty_not_whole = refl

pub pieces_same : PiecesRule
pieces_same h held [] w = sym (ap (log_text h) (append-nil held) ∙ none_whole h held w)
pieces_same h held (Read piece ∷ steps) s = pieces_same h (held ++ piece) steps s ∙ ap (log_text h) (append_assoc held piece (input steps))
pieces_same h held (Print next rest lines ∷ steps) s =
    ap (λ (l : List ℕ). lines ++ l) (pieces_same next rest steps s.1) ∙ sym (s.0 (input steps))
