-- Document 02, 2.7: "corner id c of C becomes C − 1 − c". Neither the legacy flag nor the codes decide on corners, so this holds of boards of every size.
use Rattle.std.specs.Prelude.{◌≡◌, List, [], ◌∷◌, map, reverse, ℕ, ◌+◌, ◌-◌, ◌%◌, ◌<◌, ℤ, pos, ◌-ℤ◌, Float, Some}
use Rattle.grid_alignment.specs.declared.GridAlignment.{GridAlignment}
use Rattle.grid_alignment.specs.Alignment.{corner_alignment}
use Rattle.board.specs.declared.Board.{Board}
use Rattle.board.specs.Numbering.{position}
use Rattle.board.specs.Layout.{corner_count, corner_place}
use Rattle.shot_record.specs.Shots.{Shot}
use Rattle.corner_mapping.specs.Corners.{MappedCorner, chosen, mapped, corner_words}
use Rattle.corner_mapping.specs.Entry.{input}
use Rattle.corner_mapping.specs.Rules.{along}
use Rattle.hypothesis.specs.Evidence.{board_in}
use Rattle.legacy_record.specs.Restated.{restated}
use Rattle.half_turn.specs.Pairs.{paired}

-- turn r and corner translation t pair with turn (r + 2) mod 4 and (cols, rows) − t
abbrev pub paired_corners : Board → GridAlignment → GridAlignment
paired_corners b a = record { turn = (a.turn + 2) % 4; tx = pos b.cols -ℤ a.tx; ty = pos b.rows -ℤ a.ty }

-- the corner alignment of a placement's pair
abbrev pub AlignmentRule : Type 0
AlignmentRule = (s : Shot) (p : GridAlignment) → 0 < s.rows → 0 < s.cols → corner_alignment (paired s p) ≡ paired_corners (board_in s) (corner_alignment p)

-- the input corner that is chosen for an id
abbrev pub ChosenRule : Type 0
ChosenRule = (s : Shot) (a : GridAlignment) (scores : List Float) (grid : List ℤ) (c : ℕ) → c < corner_count s.rows s.cols
    → chosen (input (board_in (restated s)) (paired_corners (board_in s) a) scores grid) (corner_count s.rows s.cols - 1 - c)
    ≡ chosen (input (board_in s) a scores grid) c

-- a result, with the same input corner; the results are by increasing id, so in reverse order
abbrev pub paired_mapped : Board → MappedCorner → MappedCorner
paired_mapped b m = record { id = corner_count b.rows b.cols - 1 - m.id; index = m.index }

abbrev pub MappedRule : Type 0
MappedRule = (s : Shot) (a : GridAlignment) (scores : List Float) (grid : List ℤ)
    → mapped (input (board_in (restated s)) (paired_corners (board_in s) a) scores grid)
    ≡ reverse (map (paired_mapped (board_in s)) (mapped (input (board_in s) a scores grid)))

-- its six words: board corner (i, j) becomes (cols − i, rows − j)
abbrev pub CornerWordsRule : Type 0
CornerWordsRule = (s : Shot) (m : MappedCorner) (i j : ℕ) → corner_place s.rows s.cols m.id ≡ Some (position i j)
    → corner_words (board_in (restated s)) (paired_mapped (board_in s) m)
    ≡ (corner_count s.rows s.cols - 1 - m.id) ∷ m.index ∷ (s.cols - i) ∷ (s.rows - j)
    ∷ along (board_in s).cell_size (s.cols - i) ∷ along (board_in s).cell_size (s.rows - j) ∷ []
