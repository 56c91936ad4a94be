-- The laws of a log's text.
use Rattle.std.specs.Prelude.{◌≡◌, true, false, ◌⊎◌, ℕ, ◌^◌, ◌≤◌, ◌<◌, List, [], ◌∷◌, ◌++◌, length, get_or, drop, Option, Some, None}
use Rattle.shot_record.specs.Writing.{little_endian, All, Bytes}
use Rattle.board_match.specs.Accuracy.{Accuracy}
use Rattle.log_text.specs.Lines.{entry_lines, shot_answer}
use Rattle.log_text.specs.Log.{entry_number, first_record, entry_end, is_whole, raised, rest_text, log_text}

-- ---- entries as bytes
pub record Entry : Type 0 where
  pub number : ℕ
  pub shot : List ℕ

pub record FitEntry (e : Entry) : Type 0 where
  pub number : e.number < 2 ^ 32
  pub length : length e.shot < 65536

abbrev pub entry_bytes : Entry → List ℕ
entry_bytes e = little_endian 4 e.number ++ (little_endian 2 (length e.shot) ++ e.shot)

-- one after the other: their bytes, their lines after entries with the highest number h, and the highest number after them
abbrev pub row_bytes : List Entry → List ℕ
row_bytes [] = []
row_bytes (e ∷ es) = entry_bytes e ++ row_bytes es

abbrev pub row_lines : Option ℕ → List Entry → List ℕ
row_lines h [] = []
row_lines h (e ∷ es) = entry_lines h e.number e.shot ++ row_lines (raised h e.number) es

abbrev pub highest_after : Option ℕ → List Entry → Option ℕ
highest_after h [] = h
highest_after h (e ∷ es) = highest_after (raised h e.number) es

-- a row of entries has the lines of each, and then the text of what follows, whatever it is
abbrev pub RowRule : Type 0
RowRule = (h : Option ℕ) (es : List Entry) → All FitEntry es → (rest : List ℕ)
    → log_text h (row_bytes es ++ rest) ≡ row_lines h es ++ log_text (highest_after h es) rest

-- a log that is cut between two entries and read in two parts, with the highest number carried over, has the same text
abbrev pub CutRule : Type 0
CutRule = (h : Option ℕ) (es : List Entry) → All FitEntry es → (rest : List ℕ)
    → log_text h (row_bytes es ++ rest) ≡ log_text h (row_bytes es) ++ log_text (highest_after h es) rest

-- bytes with a whole entry are the entry's and the rest
abbrev pub WholeRule : Type 0
WholeRule = (bytes : List ℕ) → Bytes bytes → is_whole bytes ≡ true
    → bytes ≡ entry_bytes (record { number = entry_number bytes; shot = first_record bytes }) ++ drop (entry_end bytes) bytes

-- the number carried over is that of an entry before, and no entry before has a greater one
abbrev pub IsNumber : ℕ → List Entry → Type 0
IsNumber n [] = ⊥
IsNumber n (e ∷ es) = (n ≡ e.number) ⊎ IsNumber n es

abbrev pub Greatest : List Entry → Option ℕ → Type 0
Greatest es None = es ≡ []
Greatest es (Some n) = All (λ (e : Entry). e.number ≤ n) es × IsNumber n es

abbrev pub GreatestRule : Type 0
GreatestRule = (es : List Entry) → Greatest es (highest_after None es)

-- ---- a log that is read in pieces
-- These lines are those of entries at the start of the bytes held; the rest is still to be read, whatever follows it.
abbrev pub Takes : Option ℕ → List ℕ → Option ℕ → List ℕ → List ℕ → Type 0
Takes h held next rest lines = (more : List ℕ) → log_text h (held ++ more) ≡ lines ++ log_text next (rest ++ more)

-- the same with some lines
pub record Took (h : Option ℕ) (held : List ℕ) (next : Option ℕ) (rest : List ℕ) : Type 0 where
  pub lines : List ℕ
  pub takes : Takes h held next rest lines

-- a step of a program: it reads a piece, or prints the lines of entries and keeps the rest
pub data Step : Type 0 where
  Read : (piece : List ℕ) → Step
  Print : (next : Option ℕ) (rest lines : List ℕ) → Step

-- from the bytes held at first: each print is as above, and at the end no entry is whole
abbrev pub Steps : Option ℕ → List ℕ → List Step → Type 0
Steps h held [] = is_whole held ≡ false
Steps h held (Read piece ∷ steps) = Steps h (held ++ piece) steps
Steps h held (Print next rest lines ∷ steps) = Takes h held next rest lines × Steps next rest steps

abbrev pub input : List Step → List ℕ
input [] = []
input (Read piece ∷ steps) = piece ++ input steps
input (Print next rest lines ∷ steps) = input steps

-- the lines, and at the end that of a cut entry
abbrev pub output : List ℕ → List Step → List ℕ
output held [] = rest_text held
output held (Read piece ∷ steps) = output (held ++ piece) steps
output held (Print next rest lines ∷ steps) = lines ++ output rest steps

-- whatever the pieces are, the output is the text of the whole log
abbrev pub PiecesRule : Type 0
PiecesRule = (h : Option ℕ) (held : List ℕ) (steps : List Step) → Steps h held steps → output held steps ≡ log_text h (held ++ input steps)

-- ---- sizes
abbrev pub SmallHighest : Option ℕ → Type 0
SmallHighest None = Unit {0}
SmallHighest (Some h) = h < 2 ^ 32

-- the lines of an entry have at most 76 bytes
abbrev pub RoomRule : Type 0
RoomRule = (h : Option ℕ) (n : ℕ) (shot : List ℕ) → SmallHighest h → n < 2 ^ 32 → ((i : ℕ) → get_or shot i 0 < 256) → length (entry_lines h n shot) ≤ 76

-- an entry has at most 65,541 bytes, so that a program that holds as many has a whole one
abbrev pub FullRule : Type 0
FullRule = (bytes : List ℕ) → ((i : ℕ) → get_or bytes i 0 < 256) → is_whole bytes ≡ false → length bytes < 65541

-- "The demands on a single shot stand for each entry."
abbrev pub DemandsRule : Type 0
DemandsRule = (shot : List ℕ) → ((i : ℕ) → get_or shot i 0 < 256) → Accuracy shot (shot_answer shot)
