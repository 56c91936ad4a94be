-- The lengths of an entry's lines and of an entry, and demand 3 for each entry. Assumes nothing.
use mathlib.Core.Path.{subst}
use mathlib.Core.Bool.{Bool, true, false, cond}
use mathlib.Core.List.{List, [], ◌∷◌}
use Prim.Native.Nat.{ℕ, ◌+◌, ◌-◌, ◌^◌, ◌≤◌, ◌<◌}
use native.Mathlib.Omega.{arith}
use lib.Dec.{leb, ltb}
use lib.ListN.{length, replicate, length-append, length-replicate}
use borrow.Author.Tests.{leb-false}
use Rattle.shot_record.specs.Shots.{parse}
use Rattle.shot_record.proofs.Reading.{Small, number-below}
use Rattle.board_match.specs.Match.{matched_shot}
use Rattle.board_match.specs.Accuracy.{Accuracy}
use Rattle.board_match.specs.Sizes.{SmallAnswer}
use Rattle.board_match.proofs.Accurately.{match_accurate}
use Rattle.board_match.proofs.Sizes.{small-answer}
use Rattle.place_text.specs.Numerals.{decimal}
use Rattle.place_text.specs.Text.{line}
use Rattle.place_text.proofs.Lengths.{decimal-room, answer-room}
use Rattle.log_text.specs.Lines.{the_gap, the_backward, step_line, order_line, entry_line, shot_answer, entry_lines}
use Rattle.log_text.specs.Log.{entry_end}
use Rattle.log_text.specs.Rules.{SmallHighest, RoomRule, FullRule, DemandsRule}
use Rattle.std.specs.Prelude.{Option, Result, Some, None}
use Rattle.board_match.specs.declared.Match.{Match}
use Rattle.refusal.specs.declared.Refusal.{Refusal}

-- Match with any output array of 4,608 words
with_array : (P : Result Match Refusal → Type 0) (shot : List ℕ) → ((lent : List ℕ) → P (matched_shot (parse shot) (length lent))) → P (shot_answer shot)
with_array P shot all = subst (λ (n : ℕ). P (matched_shot (parse shot) n)) (length-replicate {A = ℕ} 4608 0) (all (replicate 4608 0))

pub demands_stand : DemandsRule
demands_stand shot small = with_array (Accuracy shot) shot (λ lent. match_accurate shot lent small)

pub step_room : (h n : ℕ) → h < 2 ^ 32 → n < 2 ^ 32 → length (step_line h n) ≤ 26
step_room h n a b = go (leb n h) (ltb (h + 1) n)
  where
    go : (x y : Bool) → length (cond x (line the_backward []) (cond y (line the_gap (decimal (h + 1) ∷ decimal (n - 1) ∷ [])) [])) ≤ 26
    go true y = omega arith
    go false true = simp length-append (omega (arith, decimal-room 9 (h + 1) (omega (arith, a)), decimal-room 9 (n - 1) (omega (arith, b))))
    go false false = omega arith

order-room : (h : Option ℕ) (n : ℕ) → SmallHighest h → n < 2 ^ 32 → length (order_line h n) ≤ 26
order-room None n a b = omega arith
order-room (Some h) n a b = step_room h n a b

pub entry-room : (n : ℕ) (shot : List ℕ) → n < 2 ^ 32 → Small shot → length (entry_line n (shot_answer shot)) ≤ 50
entry-room n shot b small =
    let answer = answer-room shot (shot_answer shot) (with_array (SmallAnswer shot) shot (λ lent. small-answer shot lent small)) in
    simp length-append (omega (arith, decimal-room 9 n (omega (arith, b)), answer))

pub lines_room : RoomRule
unfolding entry_lines
lines_room h n shot a b small =
    omega (arith, length-append (order_line h n) (entry_line n (shot_answer shot)), order-room h n a b, entry-room n shot b small)

pub full-has-entry : FullRule
full-has-entry bytes small w = omega (arith, leb-false (entry_end bytes) (length bytes) w, number-below bytes small 2 4)
