-- Document 02, 2.9: "A log is a row of entries: sequence number as u32, length as u16, then one shot record, all little-endian." The text of every
-- list of bytes as a log.
use Rattle.std.specs.Prelude.{ℕ, zero, suc, ◌+◌, max, Bool, cond, List, [], ◌∷◌, ◌++◌, leb, length, take, drop, Option, Some, None}
use Rattle.shot_record.specs.Fields.{number}
use Rattle.log_text.specs.Lines.{entry_lines, cut_line}

-- The first entry of the bytes: its number, the length of its record, where it ends, and its record. A byte past the end counts as 0, so that an
-- entry with a cut header is not whole either.
abbrev pub entry_number : List ℕ → ℕ
entry_number bytes = number 4 0 bytes

abbrev pub record_length : List ℕ → ℕ
record_length bytes = number 2 4 bytes

abbrev pub entry_end : List ℕ → ℕ
entry_end bytes = 6 + record_length bytes

abbrev pub is_whole : List ℕ → Bool
is_whole bytes = leb (entry_end bytes) (length bytes)

-- where it ends, if it is whole
abbrev pub whole_end : List ℕ → Option ℕ
whole_end bytes = cond (is_whole bytes) (Some (entry_end bytes)) None

abbrev pub first_record : List ℕ → List ℕ
first_record bytes = take (record_length bytes) (drop 6 bytes)

-- the highest number after an entry: "After a backward entry the highest number seen so far remains the one compared with."
abbrev pub raised : Option ℕ → ℕ → Option ℕ
raised None n = Some n
raised (Some h) n = Some (max h n)

-- bytes without a whole entry: "An empty log prints nothing. An entry cut off at the end stops the reading with one line."
abbrev pub rest_text : List ℕ → List ℕ
rest_text [] = []
rest_text (b ∷ bs) = cut_line (length (b ∷ bs))

-- the text of bytes of at most k entries
unfoldable pub text_in : ℕ → Option ℕ → List ℕ → List ℕ
text_in zero h bytes = rest_text bytes
text_in (suc k) h bytes =
    cond (is_whole bytes)
    (entry_lines h (entry_number bytes) (first_record bytes) ++ text_in k (raised h (entry_number bytes)) (drop (entry_end bytes) bytes))
    (rest_text bytes)

-- of any bytes after entries with the highest number h; an entry has at least one byte
abbrev pub log_text : Option ℕ → List ℕ → List ℕ
log_text h bytes = text_in (length bytes) h bytes
