-- What question 21 checks, and the parse of a record that passes. Assumes nothing.
use mathlib.Core.Path.{◌≡◌, refl, sym, subst}
use Prim.Native.Nat.{ℕ, ◌^◌, ◌≤◌, ◌<◌}
use mathlib.Core.Bool.{Bool, true, false, cond}
use mathlib.Core.List.{List}
use mathlib.Core.Option.{none, some, none-ne-some, some-injective}
use lib.Dec.{T, eqb, leb→le, le→leb, ltb→lt, lt→ltb, eqb→eq, eqb_refl}
use lib.ListN.{length}
use lib.Ieee.Fits.{and_i, and_l, and_r}
use Rattle.shot_record.specs.Fields.{map_byte, cell_count, cell_map, cell_at}
use Rattle.shot_record.specs.Shots.{Shot, shot, whole_record, parse}

pub record Whole (bytes : List ℕ) : Type 0 where
  pub size : length bytes ≤ 65535
  pub map : map_byte bytes < 64
  pub cell_map_is : cell_map bytes < 2 ^ cell_count bytes
  pub end : cell_at bytes (cell_count bytes) ≡ length bytes

whole-passes : (bytes : List ℕ) → Whole bytes → T (whole_record bytes)
unfolding whole_record
whole-passes bytes w = search (
  and_i,
  le→leb (length bytes) 65535 w.size,
  lt→ltb (map_byte bytes) 64 w.map,
  lt→ltb (cell_map bytes) (2 ^ cell_count bytes) w.cell_map_is,
  ended,
)
  where
    ended : T (eqb (cell_at bytes (cell_count bytes)) (length bytes))
    ended = subst (λ (n : ℕ). T (eqb (cell_at bytes (cell_count bytes)) n)) w.end (eqb_refl (cell_at bytes (cell_count bytes)))

passes-whole : (bytes : List ℕ) → T (whole_record bytes) → Whole bytes
unfolding whole_record
passes-whole bytes t =
    record {
      size = leb→le (length bytes) 65535 (search and_l);
      map = ltb→lt (map_byte bytes) 64 (search (and_l, and_r));
      cell_map_is = ltb→lt (cell_map bytes) (2 ^ cell_count bytes) (search (and_l, and_r));
      end = eqb→eq (cell_at bytes (cell_count bytes)) (length bytes) (search (and_l, and_r));
    }

shot_if : (t : Bool) (s : Shot) → T t → cond t (some s) none ≡ some s
shot_if true s h = refl
shot_if false s h = absurd h

if_shot : (t : Bool) (s r : Shot) → cond t (some s) none ≡ some r → T t × (s ≡ r)
if_shot true s r e = (tt, some-injective s r e)
if_shot false s r e = absurd (none-ne-some r e)

pub parse-whole : (bytes : List ℕ) → Whole bytes → parse bytes ≡ some (shot bytes)
unfolding parse
parse-whole bytes w = shot_if (whole_record bytes) (shot bytes) (whole-passes bytes w)

pub parsed : (bytes : List ℕ) (s : Shot) → parse bytes ≡ some s → Whole bytes × (shot bytes ≡ s)
unfolding parse
parsed bytes s e = let p = if_shot (whole_record bytes) (shot bytes) s e in (passes-whole bytes p.0, p.1)

-- ---- from the result of question 21
pub refused : (bytes : List ℕ) → whole_record bytes ≡ false → parse bytes ≡ none
unfolding parse
refused bytes e = rw e refl

pub passed : (bytes : List ℕ) → whole_record bytes ≡ true → Whole bytes
passed bytes e = passes-whole bytes (subst T (sym e) tt)

-- the same bytes, as a parsed record has them
pub read_as : (read bytes : List ℕ) → read ≡ bytes → whole_record bytes ≡ true → parse bytes ≡ some (shot read)
read_as read bytes e w = rw e (parse-whole bytes (passed bytes w))

pub parses-whole : (bytes : List ℕ) (s : Shot) → parse bytes ≡ some s → whole_record bytes ≡ true
unfolding parse
parses-whole bytes s = go (whole_record bytes)
  where
    go : (t : Bool) → cond t (some (shot bytes)) none ≡ some s → t ≡ true
    go true e = refl
    go false e = absurd (none-ne-some s e)
