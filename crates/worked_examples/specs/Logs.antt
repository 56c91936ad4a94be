-- Document 02, 2.9: the text of a small log, and uses of the laws of logs.
use Rattle.std.specs.Prelude.{◌≡◌, true, false, List, [], ◌∷◌, ◌++◌, ◌⊎◌, ℕ, ◌≤◌, ◌<◌, length, get_or, drop, Option, Some, None, Ok}
use Rattle.shot_record.specs.Shots.{shot}
use Rattle.shot_record.specs.Writing.{little_endian, Bytes}
use Rattle.hypothesis.specs.Rules.{count_of}
use Rattle.board_match.specs.declared.Match.{Match}
use Rattle.log_text.specs.Lines.{shot_answer, entry_lines}
use Rattle.log_text.specs.Log.{entry_number, entry_end, is_whole, first_record, rest_text, log_text}
use Rattle.log_text.specs.Rules.{Entry, FitEntry, row_bytes, highest_after, Takes}

-- an entry with an empty record
abbrev pub empty_entry : ℕ → Entry
empty_entry n = record { number = n; shot = [] }

-- four such entries, with the numbers 7, 10, 9 and 12, and three bytes of a header with the number 99
abbrev pub small_log : List ℕ
small_log =
    7 ∷ 0 ∷ 0 ∷ 0 ∷ 0 ∷ 0 ∷ 10 ∷ 0 ∷ 0 ∷ 0 ∷ 0 ∷ 0 ∷ 9 ∷ 0 ∷ 0 ∷ 0 ∷ 0 ∷ 0 ∷ 12 ∷ 0 ∷ 0 ∷ 0 ∷ 0 ∷ 0 ∷ 99 ∷ 0 ∷ 0 ∷ []

-- ` refused 21` and a line feed
abbrev pub refused21 : List ℕ
refused21 = 32 ∷ 114 ∷ 101 ∷ 102 ∷ 117 ∷ 115 ∷ 101 ∷ 100 ∷ 32 ∷ 50 ∷ 49 ∷ 10 ∷ []

-- `entry 7 refused 21`, `gap 8 9`, `entry 10 refused 21`, `backward`, `entry 9 refused 21`, `gap 11 11`, `entry 12 refused 21`, `refused 26 3`
abbrev pub small_text : List ℕ
small_text =
    (101 ∷ 110 ∷ 116 ∷ 114 ∷ 121 ∷ 32 ∷ 55 ∷ refused21)
    ++ (103 ∷ 97 ∷ 112 ∷ 32 ∷ 56 ∷ 32 ∷ 57 ∷ 10 ∷ [])
    ++ (101 ∷ 110 ∷ 116 ∷ 114 ∷ 121 ∷ 32 ∷ 49 ∷ 48 ∷ refused21)
    ++ (98 ∷ 97 ∷ 99 ∷ 107 ∷ 119 ∷ 97 ∷ 114 ∷ 100 ∷ 10 ∷ [])
    ++ (101 ∷ 110 ∷ 116 ∷ 114 ∷ 121 ∷ 32 ∷ 57 ∷ refused21)
    ++ (103 ∷ 97 ∷ 112 ∷ 32 ∷ 49 ∷ 49 ∷ 32 ∷ 49 ∷ 49 ∷ 10 ∷ [])
    ++ (101 ∷ 110 ∷ 116 ∷ 114 ∷ 121 ∷ 32 ∷ 49 ∷ 50 ∷ refused21)
    ++ (114 ∷ 101 ∷ 102 ∷ 117 ∷ 115 ∷ 101 ∷ 100 ∷ 32 ∷ 50 ∷ 54 ∷ 32 ∷ 51 ∷ 10 ∷ [])

pub record OfLogs : Type 0 where
  pub small_log_lem : log_text None small_log ≡ small_text
  pub empty_log : log_text None [] ≡ []
  -- a log cut after two entries, and read in two parts
  pub cut_between :
      (e f : Entry) → FitEntry e → FitEntry f → (rest : List ℕ)
      → log_text None (row_bytes (e ∷ f ∷ []) ++ rest)
      ≡ log_text None (row_bytes (e ∷ f ∷ [])) ++ log_text (highest_after None (e ∷ f ∷ [])) rest
  -- the number carried over is the greater of two
  pub greatest_before :
      (e f : Entry) (n : ℕ) → highest_after None (e ∷ f ∷ []) ≡ Some n
      → (e.number ≤ n) × (f.number ≤ n) × ((n ≡ e.number) ⊎ (n ≡ f.number))
  -- bytes with a whole entry, field by field
  pub whole_written :
      (bytes : List ℕ) → Bytes bytes → is_whole bytes ≡ true
      → bytes
      ≡ (little_endian 4 (entry_number bytes) ++ (little_endian 2 (length (first_record bytes)) ++ first_record bytes)) ++ drop (entry_end bytes) bytes
  -- a program that reads two pieces, prints once, and has bytes without a whole entry left
  pub pieces_same :
      (a b lines rest : List ℕ) (next : Option ℕ) → Takes None (a ++ b) next rest lines → is_whole rest ≡ false
      → lines ++ rest_text rest ≡ log_text None (a ++ b)
  pub lines_room :
      (h n : ℕ) (shot : List ℕ) → h < 4294967296 → n < 4294967296 → ((i : ℕ) → get_or shot i 0 < 256)
      → length (entry_lines (Some h) n shot) ≤ 76
  -- of demand 3: the number of placements of a placed entry is that of document 01's formula
  pub demands_stand :
      (bytes : List ℕ) → ((i : ℕ) → get_or bytes i 0 < 256) → (m : Match) → shot_answer bytes ≡ Ok m → m.placements ≡ count_of (shot bytes)
