-- `link_check::missing::put_missing` meets its contract: by the mode, and by whether a corner is missing. Assumes nothing.
use mathlib.Core.Path.{◌≡◌, refl, sym, ap, ◌∙◌}
use mathlib.Core.List.{List, [], ◌∷◌, flat_map}
use Prim.Native.Nat.{ℕ}
use native.Mathlib.Omega.{arith}
use lib.ListN.{length}
use Rattle.lent_list.proofs.Front.{nothing_put, put_as}
use Rattle.link_check.specs.declared.LinkCheckMode.{LinkCheckMode}
use Rattle.link_check.specs.declared.LinkCheckMode.TheVariants as mode
use Rattle.link_check.specs.declared.words.Missing.{Missing}
use Rattle.link_check.specs.Links.{is_reported}
use Rattle.link_check.specs.Violations.{four_of, without, missing_entry, in_mode, told, words_of_violations}
use Rattle.link_check.specs.Missing.{padded}
use Rattle.link_check.proofs.missing.put_missing.Goals as goal
use Rattle.link_check.proofs.missing.put_missing.Goals.{After-missing_from-missing}

module _ (m : ℕ) (four : List ℕ) where
  none_missing : (ms : List ℕ) → length ms ≡ 0 → missing_entry m four ms ≡ []
  none_missing [] e = refl
  none_missing (c ∷ cs) e = absurd (omega (arith, e))

  some-missing : (ms : List ℕ) (asked : LinkCheckMode) → asked ≡ mode.MustMatchAll4 → (length ms ≡ 0 → ⊥)
      → told m 5 0 four (padded ms).count (padded ms).corners ≡ words_of_violations (in_mode asked (missing_entry m four ms))
  unfolding flat_map
  some-missing [] asked e d = absurd (d refl)
  some-missing (c ∷ cs) asked e d = rw e

-- if the mode requires all four
module _ (c : After-missing_from-missing) where
  abbrev found : Missing
  found = c.missing_from-missing.result

  abbrev marker : ℕ
  marker = c.args.expected.marker

  abbrev four : List ℕ
  four = four_of c.args.expected.corners

  abbrev missing : List ℕ
  missing = without (is_reported c.args.links.words.now c.args.links.count marker) four

  found_is : found ≡ padded missing
  found_is = rw c.four-four.ensures at c.missing_from-missing.ensures

  count_is : found.count ≡ length missing
  count_is = ap (λ (f : Missing). f.count) found_is

  told_is : (found.count ≡ 0 → ⊥)
      → told marker 5 0 c.four-four.result found.count found.corners ≡ words_of_violations (in_mode c.args.mode (missing_entry marker four missing))
  told_is d =
      ap (λ (f : List ℕ). told marker 5 0 f found.count found.corners) c.four-four.ensures
      ∙ ap (λ (f : Missing). told marker 5 0 four f.count f.corners) found_is
      ∙ some-missing marker four missing c.args.mode c.in-MustMatchAll4.is (λ z. d (count_is ∙ z))

pub returns-then-missing-eq0 : goal.returns-then-missing-eq0
unfolding flat_map
returns-then-missing-eq0 c =
    let x = c.args in
    let m = (goal.at.returns-then-missing-eq0 c).After-missing_from-missing in
    rw (c.in-MustMatchAll4.is, none_missing x.expected.marker (four m) (missing m) (sym (count_is m) ∙ c.if-missing-eq0.true))
    (nothing_put x.violations.now x.at)

pub put_violation-requires : goal.put_violation-requires
put_violation-requires c =
    omega (arith, c.requires, ap length (told_is (goal.at.put_violation-requires c).After-missing_from-missing c.if-missing-eq0.false))

pub returns-in-SubsetOk : goal.returns-in-SubsetOk
unfolding flat_map
returns-in-SubsetOk c =
    let x = c.args in
    rw c.in-SubsetOk.is (nothing_put x.violations.now x.at)

pub returns-else-missing-eq0 : goal.returns-else-missing-eq0
returns-else-missing-eq0 c =
    put_as (told_is (goal.at.returns-else-missing-eq0 c).After-missing_from-missing c.if-missing-eq0.false) c.put_violation.ensures
