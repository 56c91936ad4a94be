-- Printing to an output array: bytes from an index on, truncated to the array's length; the other elements do not change.
use Rattle.std.specs.Prelude.{ℕ, ◌+◌, min, ◌≡◌, List, ◌++◌, length, take, drop}
use Rattle.lent_list.specs.Front.{in_front}
use Rattle.place_text.specs.declared.writer.Page.{Page}

abbrev pub printed_at : ℕ → List ℕ → List ℕ → List ℕ
printed_at at bytes lent = take at lent ++ in_front bytes (drop at lent)

-- `next` is the index after them
pub record Printed (bytes : List ℕ) (at next : ℕ) (before after : List ℕ) : Type 0 where
  pub stored : after ≡ printed_at at bytes before
  pub place : next ≡ min (at + length bytes) (length before)

-- A page keeps its array, and its index is that after what is written.
pub record Wrote (bytes : List ℕ) (before after : Page) : Type 0 where
  pub printed : Printed bytes before.at after.at before.text.now after.text.now
  pub same_array : after.text.ghost_name ≡ before.text.ghost_name
