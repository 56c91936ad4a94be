-- The whole cells among the first places: places that are no key add none, and a place that is one adds its words. Assumes nothing.
use mathlib.Core.Path.{◌≡◌, refl, sym, ap, ◌∙◌}
use mathlib.Core.Bool.{Bool, true, false, cond}
use mathlib.Core.List.{List, [], ◌∷◌, ◌++◌, flat_map}
use mathlib.Core.Option.{Option as Maybe, none, some}
use Prim.Native.Nat.{ℕ, ◌+◌, ◌-◌, ◌*◌, ◌/◌, ◌%◌, ◌≤◌, ◌<◌}
use native.Mathlib.Nat.{div-add-mod'}
use native.Mathlib.Numerals.{add-one}
use native.Mathlib.Omega.{arith}
use lib.Dec.{eqb, leb}
use lib.ListN.{length, get_or, length-append}
use lib.IntN.{ℤ, pos, ◌-ℤ◌}
use borrow.Author.Tests.{ne_eqb, leb-true, leb-false}
use Rattle.lent_list.specs.Front.{in_front, up_to}
use Rattle.lent_list.proofs.Front.{front_is, put_in_front, front_full, up_to-same, flat_map_append, flat_map_length}
use Rattle.grid_alignment.specs.declared.Coord.{Coord}
use Rattle.grid_alignment.specs.Alignment.{corner}
use Rattle.marker_sampling.specs.Cells.{Corners, holder, whole_cell, point_at, whole_at, cell_words, words_of_cells}
use Rattle.marker_sampling.specs.Keys.{key_side, range_point, MapOf, Next, in_option, words_at, words_if_whole, with_cell, words_of, CellAdded, Collected}
use Rattle.std.specs.Prelude.{Option, Some, None}
use Rattle.marker_sampling.proofs.Keyed.{column, row, corner_0, corner_1, corner_2, corner_3}
use Rattle.marker_sampling.proofs.Holders.{nobody}

pub words-length : (c : Corners) (inliers : List ℕ) (ps : List Coord) → length (words_of_cells c inliers ps) ≡ 6 * length ps
words-length c inliers ps = flat_map_length (cell_words c inliers) 6 (λ p. refl) ps

-- ---- the words of a cell
words_by : (c : Corners) (inliers : List ℕ) (p : Coord) (a b d e : Maybe ℕ) → holder c inliers (corner 0 p) ≡ a → holder c inliers (corner 1 p) ≡ b
    → holder c inliers (corner 2 p) ≡ d → holder c inliers (corner 3 p) ≡ e
    → words_at p.u p.v (in_option a) (in_option b) (in_option d) (in_option e) ≡ words_if_whole c inliers p
words_by c inliers p none b d e ea eb ed ee = rw ea
words_by c inliers p (some k0) none d e ea eb ed ee = rw (ea, eb)
words_by c inliers p (some k0) (some k1) none e ea eb ed ee = rw (ea, eb, ed)
words_by c inliers p (some k0) (some k1) (some k2) none ea eb ed ee = rw (ea, eb, ed, ee)
words_by c inliers p (some k0) (some k1) (some k2) (some k3) ea eb ed ee = rw (ea, eb, ed, ee)

-- those of what the searches found at the four points
pub words_found : (m : ℕ) (c : Corners) (inliers : List ℕ) (u v : ℕ) {x y : ℤ} {a b d e : Option ℕ} → x ≡ pos u -ℤ pos m → y ≡ pos v -ℤ pos m
    → a ≡ in_option (holder c inliers (range_point m u v)) → b ≡ in_option (holder c inliers (range_point m (u + 1) v))
    → d ≡ in_option (holder c inliers (range_point m (u + 1) (v + 1))) → e ≡ in_option (holder c inliers (range_point m u (v + 1)))
    → words_at x y a b d e ≡ words_if_whole c inliers (range_point m u v)
words_found m c inliers u v ex ey ea eb ed ee =
    rw (ex, ey, ea, eb, ed, ee)
    (words_by c inliers (range_point m u v) _ _ _ _ (ap (holder c inliers) (corner_0 m u v)) (ap (holder c inliers) (corner_1 m u v))
    (ap (holder c inliers) (corner_2 m u v)) (ap (holder c inliers) (corner_3 m u v)))

module _ (c : Corners) (inliers : List ℕ) (p : Coord) where
  not_whole : holder c inliers p ≡ none → whole_cell c inliers p ≡ false
  unfolding corner
  not_whole e = rw e

-- ---- the walk
-- a cell adds at most one
pub added_most : {n r : ℕ} {cell : Option (List ℤ)} {before after : List ℤ} → CellAdded n cell before after r → r ≤ n + 1
added_most {n} {r} {cell} p = go cell p.count
  where
    go : (o : Option (List ℤ)) → r ≡ with_cell n o → r ≤ n + 1
    go None e = omega arith
    go (Some words) e = omega arith

module _ (m : ℕ) (c : Corners) (inliers : List ℕ) where
  abbrev at_place : ℕ → List Coord
  at_place = whole_at m c inliers

  module _ (map : List ℕ) (k : MapOf m c inliers map) where
    -- a place that is no inlier's key
    empty : (r : ℕ) → r < key_side m * key_side m → ((j : ℕ) → j < length map → get_or map j 0 / 1024 ≡ r → ⊥) → at_place r ≡ []
    empty r h none_there =
        ap (λ (b : Bool). cond b (point_at m r ∷ []) [])
        (not_whole c inliers (point_at m r)
        (nobody c (point_at m r) inliers
        (λ i l.
        let w = k.has i l in
        w.2.key.at (r % key_side m) (r / key_side m) (column m h) (row m h)
        ∙ ap (eqb (get_or map w.0 0 / 1024)) (div-add-mod' r (key_side m))
        ∙ ne_eqb (get_or map w.0 0 / 1024) r (none_there w.0 w.1))))

    pub passes : (from r : ℕ) → Next map (key_side m * key_side m) from r → up_to at_place r ≡ up_to at_place from
    passes from r n =
        let e : r ≡ from + (r - from) = omega (arith, n.least) in
        ap (up_to at_place) e
        ∙ up_to-same at_place from (r - from)
        (λ j a b. empty j (omega (arith, n.most, n.least)) (λ i l q. omega (arith, n.passed i l (omega (arith, n.least)))))

  -- the words and the number of the cells at a point
  cell_words_lem : (q : Coord) → words_of_cells c inliers (cond (whole_cell c inliers q) (q ∷ []) []) ≡ words_of (words_if_whole c inliers q)
  unfolding flat_map
  cell_words_lem q = go (whole_cell c inliers q)
    where
      go : (b : Bool) → words_of_cells c inliers (cond b (q ∷ []) []) ≡ words_of (cond b (Some (cell_words c inliers q)) None)
      go true = refl
      go false = refl

  cell_counted : (n : ℕ) (q : Coord) → with_cell n (words_if_whole c inliers q) ≡ n + length (cond (whole_cell c inliers q) (q ∷ []) [])
  cell_counted n q = go (whole_cell c inliers q)
    where
      go : (b : Bool) → with_cell n (cond b (Some (cell_words c inliers q)) None) ≡ n + length (cond b (q ∷ []) [])
      go true = refl
      go false = omega arith

  pub collect_first : (lent : List ℤ) → Collected m c inliers 0 lent lent 0
  unfolding up_to flat_map
  collect_first lent = record { count = refl; list = sym (front_is [] lent (omega arith)) }

  pub collect_on : {from r n : ℕ} {lent after : List ℤ} → up_to at_place r ≡ up_to at_place from → Collected m c inliers from lent after n
      → Collected m c inliers r lent after n
  collect_on {lent = lent} e h =
      record {
        count = h.count ∙ ap length (sym e);
        list = h.list ∙ ap (λ (ps : List Coord). in_front (words_of_cells c inliers ps) lent) (sym e);
      }

  pub collect_next : (key : ℕ) {n r : ℕ} {cell : Option (List ℤ)} {lent mid after : List ℤ} → length lent ≡ 1536
      → cell ≡ words_if_whole c inliers (point_at m key)
      → Collected m c inliers key lent mid n → CellAdded n cell mid after r → Collected m c inliers (key + 1) lent after r
  unfolding up_to
  collect_next key {n} {r} {cell} {lent} {mid} {after} long e h p =
      record { count = counted; list = go (leb 256 n) (leb-true 256 n) (leb-false 256 n) ∙ ap (λ (l : List ℤ). in_front l lent) (sym told) }
    where
      q : Coord
      q = point_at m key

      ps : List Coord
      ps = up_to at_place key

      ws : List ℤ
      ws = words_of cell

      more : up_to at_place (key + 1) ≡ ps ++ at_place key
      more = ap (up_to at_place) (add-one key)

      told : words_of_cells c inliers (up_to at_place (key + 1)) ≡ words_of_cells c inliers ps ++ ws
      told =
          ap (words_of_cells c inliers) more ∙ flat_map_append (cell_words c inliers) ps (at_place key)
          ∙ ap (λ (l : List ℤ). words_of_cells c inliers ps ++ l) (cell_words_lem q ∙ ap words_of (sym e))

      counted : r ≡ length (up_to at_place (key + 1))
      counted =
          p.count
          ∙ ap (with_cell n) e
          ∙ cell_counted n q
          ∙ ap (λ (k : ℕ). k + length (at_place key)) h.count
          ∙ sym (ap length more ∙ length-append ps (at_place key))

      six : 6 * n ≡ length (words_of_cells c inliers ps)
      six = ap (λ (k : ℕ). 6 * k) h.count ∙ sym (words-length c inliers ps)

      go : (b : Bool) → (b ≡ true → 256 ≤ n) → (b ≡ false → n < 256) → after ≡ in_front (words_of_cells c inliers ps ++ ws) lent
      go true f _ = p.full (f refl) ∙ h.list ∙ front_full (words_of_cells c inliers ps) ws lent (omega (arith, f refl, six, long))
      go false _ f = put_in_front (words_of_cells c inliers ps) lent h.list six (omega (arith, f refl, added_most p, long)) (p.fits (f refl))
