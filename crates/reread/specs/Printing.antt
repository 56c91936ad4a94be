-- What is left of a log's bytes after the lines of its whole entries are printed.
use Rattle.std.specs.Prelude.{ℕ, ◌<◌, ◌≡◌, false, List, take, Option}
use Rattle.log_text.specs.Log.{is_whole}
use Rattle.log_text.specs.Rules.{Took}
use Rattle.reread.specs.declared.Left.{Left}

-- of the first `count` bytes, after entries with the highest number h: the first bytes of the array at exit, without a whole entry
pub record Rest (h : Option ℕ) (bytes : List ℕ) (count : ℕ) (exit : List ℕ) (left : Left) : Type 0 where
  pub took : Took h (take count bytes) left.highest (take left.count exit)
  pub none_whole : is_whole (take left.count exit) ≡ false
  pub few : left.count < 65541
