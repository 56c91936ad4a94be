-- Document 02, 2.2: "two of different ids are equal after some number of quarter turns".
use Rattle.std.specs.Prelude.{ℕ, Bool, not, ◌&&◌, List, eqb, get_or}
use Rattle.integers.specs.Tests.{any_below}
use Rattle.matcher.specs.Codes.{turned}

-- Is b equal to a up to rotation? Turn 0 drops bits beyond those of the side (codes with such bits fail question 8).
abbrev pub alike : ℕ → ℕ → ℕ → Bool
alike n a b = any_below (λ (turns : ℕ). eqb (turned n turns a) (turned n 0 b)) 4

-- Are two of the first `count` codes equal up to rotation? A code past the last is 0.
abbrev pub two_alike : ℕ → List ℕ → ℕ → Bool
two_alike n codes count =
    any_below (λ (a : ℕ). any_below (λ (b : ℕ). not (eqb a b) && alike n (get_or codes a 0) (get_or codes b 0)) count) count
