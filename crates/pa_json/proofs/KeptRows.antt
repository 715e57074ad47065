-- As long as there are not too many, what is kept of rows is each row where it first stands.
use Rattle.std.proofs.Common.{◌≡◌, ◌≤◌, Bool, true, false, cond, List, [], ◌∷◌, ◌++◌, length, arith, refl, ap, ◌∙◌}
use Rattle.std.specs.Prelude.{nat_lt}
use Rattle.std.specs.List.{list_any}
use Rattle.std.proofs.lemmas.Bool.{le-ltb}
use Rattle.std.proofs.lemmas.List.{length_push}
use Rattle.pa_math.specs.Lists.{with_new, union, without_repeats}
use Rattle.pa_meaning.specs.Rows.{Row}
use Rattle.pa_row.specs.Same.{same_row}
use Rattle.pa_json.specs.Kept.{kept_with, kept_all}
use Rattle.pa_json.specs.declared.limits.TheConstants.{MOST_CONTRACT_ROWS}

new_grows : (rows : List Row) (row : Row) → length rows ≤ length (with_new same_row rows row)
new_grows rows row = by (list_any (same_row row) rows)
  where
    by : (b : Bool) → length rows ≤ length (cond b rows (rows ++ row ∷ []))
    by true = omega arith
    by false = let n = length_push rows row in omega arith

with_grows : (rows : List Row) (row : Row) → length rows ≤ length (kept_with rows row)
with_grows rows row = by (nat_lt MOST_CONTRACT_ROWS (length rows))
  where
    by : (b : Bool) → length rows ≤ length (cond b rows (with_new same_row rows row))
    by true = omega arith
    by false = new_grows rows row

all_grow : (rows more : List Row) → length rows ≤ length (kept_all rows more)
all_grow rows [] = omega arith
all_grow rows (row ∷ more) = let one = with_grows rows row in let rest = all_grow (kept_with rows row) more in omega arith

union_grows : (rows more : List Row) → length rows ≤ length (union same_row rows more)
union_grows rows [] = omega arith
union_grows rows (row ∷ more) = let one = new_grows rows row in let rest = union_grows (with_new same_row rows row) more in omega arith

with_is : (rows : List Row) (row : Row) → length rows ≤ MOST_CONTRACT_ROWS → kept_with rows row ≡ with_new same_row rows row
with_is rows row few = ap (λ b. cond b rows (with_new same_row rows row)) (le-ltb MOST_CONTRACT_ROWS (length rows) few)

all_was : (rows more : List Row) → length (kept_all rows more) ≤ MOST_CONTRACT_ROWS → kept_all rows more ≡ union same_row rows more
all_was rows [] few = refl
all_was rows (row ∷ more) few =
    let before : length rows ≤ length (kept_all rows (row ∷ more)) = all_grow rows (row ∷ more) in
    let short : length rows ≤ MOST_CONTRACT_ROWS = omega arith in
    all_was (kept_with rows row) more few ∙ ap (λ rows. union same_row rows more) (with_is rows row short)

all_are : (rows more : List Row) → length (union same_row rows more) ≤ MOST_CONTRACT_ROWS → kept_all rows more ≡ union same_row rows more
all_are rows [] few = refl
all_are rows (row ∷ more) few =
    let before : length rows ≤ length (union same_row rows (row ∷ more)) = union_grows rows (row ∷ more) in
    let short : length rows ≤ MOST_CONTRACT_ROWS = omega arith in
    ap (λ rows. kept_all rows more) (with_is rows row short) ∙ all_are (with_new same_row rows row) more few

-- where few are kept
pub kept_was : (rows : List Row) → length (kept_all [] rows) ≤ MOST_CONTRACT_ROWS → kept_all [] rows ≡ without_repeats same_row rows
kept_was rows few = all_was [] rows few

-- where few are different
pub kept_is : (rows : List Row) → length (without_repeats same_row rows) ≤ MOST_CONTRACT_ROWS → kept_all [] rows ≡ without_repeats same_row rows
kept_is rows few = all_are [] rows few
