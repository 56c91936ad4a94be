-- `refusal_values::put_words` meets its contract: word by word, and a 32-bit word has at most ten digits. Assumes nothing.
use Prim.Native.Nat.{ℕ, ◌^◌, ◌≤◌, ◌<◌}
use mathlib.Core.List.{[], ◌∷◌}
use native.Mathlib.Omega.{arith}
use lib.ListN.{length, length-append}
use borrow.Author.Rules.{rules}
use Rattle.place_text.specs.Numerals.{decimal}
use Rattle.place_text.specs.Text.{and_words}
use Rattle.place_text.proofs.Printing.{then}
use Rattle.place_text.proofs.Lengths.{decimal-room}
use Rattle.refusal_values.specs.Values.{words_line}
use Rattle.refusal_values.proofs.put_words.Goals as goal

digits : (n : ℕ) → n < 2 ^ 32 → length (decimal n) ≤ 10
digits n h = decimal-room 9 n (omega arith)

room : (k x y z : ℕ) → k < 2 ^ 32 → x < 2 ^ 32 → y < 2 ^ 32 → z < 2 ^ 32 → length (words_line k x y z) ≤ 44
unfolding words_line
room k x y z hk hx hy hz =
    omega (
      arith,
      digits k hk,
      digits x hx,
      digits y hy,
      digits z hz,
      length-append (decimal k) (and_words (decimal x ∷ decimal y ∷ decimal z ∷ [])),
      length-append (decimal x) (and_words (decimal y ∷ decimal z ∷ [])),
      length-append (decimal y) (and_words (decimal z ∷ [])),
      length-append (decimal z) (and_words []),
    )

pub returns : goal.returns
unfolding words_line
returns c =
    let p = then c.put_decimal.ensures (then c.and_decimal.ensures (then c.and_decimal-2.ensures (then c.and_decimal-3.ensures c.put.ensures))) in
    record {
      line = search (rules, p.printed);
      room = room c.args.number c.args.first c.args.second c.args.minimum c.ranges.number.fits c.ranges.first.fits
          c.ranges.second.fits c.ranges.minimum.fits;
    }
