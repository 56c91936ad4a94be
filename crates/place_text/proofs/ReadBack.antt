-- Numbers are read back from their digits, decimal and hexadecimal, and a two's complement word has the text of its integer. Assumes nothing.
use mathlib.Core.Path.{◌≡◌, refl, sym, ap, ◌∙◌}
use mathlib.Core.Bool.{Bool, true, false, cond}
use mathlib.Core.List.{List, [], ◌∷◌, ◌++◌, append_assoc, append-nil}
use Prim.Native.Nat.{ℕ, zero, suc, ◌+◌, ◌*◌, ◌-◌, ◌/◌, ◌%◌, ◌^◌, ◌≤◌, ◌<◌}
use native.Mathlib.Omega.{arith}
use lib.Dec.{ltb}
use lib.IntN.{ℤ, pos, negsuc}
use mir.Syntax.{w32}
use mir.Val.{SFits, of_z}
use borrow.Author.Tests.{lt-ltb, le-ltb, ltb-true, ltb-false}
use Rattle.place_text.specs.Numerals.{digit, hex2, hex4, hex8, decimal, signed_decimal, signed_word}
use Rattle.place_text.specs.ReadBack.{digits_value, number_after, read_number}
use Rattle.place_text.proofs.Numerals.{decimal-short, decimal-long}

digit_value : (d : ℕ) → d < 16 → digits_value (digit d) ≡ d
digit_value d h = go (ltb d 10) (ltb-true d 10) (ltb-false d 10)
  where
    go : (b : Bool) → (b ≡ true → d < 10) → (b ≡ false → 10 ≤ d) → digits_value (cond b (48 + d) (55 + d)) ≡ d
    go true s _ = let l = s refl in rw (lt-ltb (48 + d) 58 (omega (arith, l))) (omega arith)
    go false _ s = let l = s refl in rw (le-ltb (55 + d) 58 (omega (arith, l))) (omega arith)

-- one more digit
one_more : (b n : ℕ) (cs : List ℕ) (c : ℕ) → number_after b n (cs ++ (c ∷ [])) ≡ b * number_after b n cs + digits_value c
unfolding number_after
one_more b n [] c = refl
one_more b n (d ∷ cs) c = one_more b (b * n + digits_value d) cs c

short_back : (n : ℕ) → n < 10 → read_number 10 (decimal n) ≡ n
unfolding number_after
short_back n h = ap (read_number 10) (decimal-short n h) ∙ omega (arith, digit_value n (omega arith))

long_back : (n : ℕ) → 10 ≤ n → read_number 10 (decimal (n / 10)) ≡ n / 10 → read_number 10 (decimal n) ≡ n
long_back n h e =
    ap (read_number 10) (decimal-long n h) ∙ one_more 10 0 (decimal (n / 10)) (digit (n % 10)) ∙ omega (arith, e, digit_value (n % 10) (omega arith))

back_within : (k n : ℕ) → n ≤ k → read_number 10 (decimal n) ≡ n
back_within zero n h = short_back n (omega arith)
back_within (suc k) n h = go (ltb n 10) (ltb-true n 10) (ltb-false n 10) (back_within k (n / 10))
  where
    go : (b : Bool) → (b ≡ true → n < 10) → (b ≡ false → 10 ≤ n) → (n / 10 ≤ k → read_number 10 (decimal (n / 10)) ≡ n / 10) → read_number 10 (decimal n) ≡ n
    go true s _ _ = short_back n (s refl)
    go false _ l tenth = let m = l refl in long_back n m (tenth (omega (arith, m)))

pub decimal_back : (n : ℕ) → read_number 10 (decimal n) ≡ n
decimal_back n = back_within n n (omega arith)

-- hexadecimal digits after those of m, and before others
hex2_after : (m n : ℕ) (cs : List ℕ) → n < 2 ^ 8 → number_after 16 m (hex2 n ++ cs) ≡ number_after 16 (256 * m + n) cs
unfolding number_after hex2
hex2_after m n cs h =
    ap (λ (x : ℕ). number_after 16 x cs) (omega (arith, digit_value (n / 16) (omega arith), digit_value (n % 16) (omega arith)))

hex4_after : (m n : ℕ) (cs : List ℕ) → n < 2 ^ 16 → number_after 16 m (hex4 n ++ cs) ≡ number_after 16 (65536 * m + n) cs
unfolding hex4
hex4_after m n cs h =
    ap (number_after 16 m) (append_assoc (hex2 (n / 256)) (hex2 (n % 256)) cs)
    ∙ hex2_after m (n / 256) (hex2 (n % 256) ++ cs) (omega arith)
    ∙ hex2_after (256 * m + n / 256) (n % 256) cs (omega arith)
    ∙ ap (λ (x : ℕ). number_after 16 x cs) (omega arith)

hex8_after : (m n : ℕ) (cs : List ℕ) → n < 2 ^ 32 → number_after 16 m (hex8 n ++ cs) ≡ number_after 16 (4294967296 * m + n) cs
unfolding hex8
hex8_after m n cs h =
    ap (number_after 16 m) (append_assoc (hex4 (n / 65536)) (hex4 (n % 65536)) cs)
    ∙ hex4_after m (n / 65536) (hex4 (n % 65536) ++ cs) (omega arith)
    ∙ hex4_after (65536 * m + n / 65536) (n % 65536) cs (omega arith)
    ∙ ap (λ (x : ℕ). number_after 16 x cs) (omega arith)

pub hex8_back : (n : ℕ) → n < 2 ^ 32 → read_number 16 (hex8 n) ≡ n
unfolding number_after
hex8_back n h = ap (read_number 16) (sym (append-nil (hex8 n))) ∙ hex8_after 0 n [] h ∙ omega arith

-- a code of two words
pub hex16_back : (high low : ℕ) → high < 2 ^ 32 → low < 2 ^ 32 → read_number 16 (hex8 high ++ hex8 low) ≡ 4294967296 * high + low
unfolding number_after
hex16_back high low h l =
    hex8_after 0 high (hex8 low) h
    ∙ ap (number_after 16 (4294967296 * 0 + high)) (sym (append-nil (hex8 low)))
    ∙ hex8_after (4294967296 * 0 + high) low [] l
    ∙ omega arith

-- the two's complement word of an integer has its text
pub word_text : (z : ℤ) → SFits w32 z → signed_word (of_z w32 z) ≡ signed_decimal z
word_text (pos n) f = rw (lt-ltb n 2147483648 f.sfits)
word_text (negsuc k) f =
    let e : 4294967296 - (4294967296 - suc k) ≡ suc k = omega (arith, f.sfits) in
    rw (le-ltb (4294967296 - suc k) 2147483648 (omega (arith, f.sfits)), e)
