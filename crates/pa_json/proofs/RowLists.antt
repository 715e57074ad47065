-- Rows that are kept are different, few, and have their columns; and the contract of such rows is well-formed.
use Rattle.std.proofs.Common.{◌≡◌, inl, inr, ℕ, ◌≤◌, List, [], ◌∷◌, ◌++◌, map, take, drop, length, All, sym, ap, ◌∙◌}
use Rattle.std.proofs.Common.{subst, arith, cond}
use Rattle.std.specs.List.{list_any, IsDistinct}
use Rattle.std.specs.Str.{bytes_eq}
use Rattle.std.specs.Cmp.{IsEquivalence}
use Rattle.std.proofs.lemmas.Bool.{cases_lt, lt-ltb, le-ltb, cond_both}
use Rattle.std.proofs.lemmas.List.{length_push, length-take-le, take-append-drop}
use Rattle.std.proofs.lemmas.List.Elements.{All-push, All-head, All-tail, All-nil}
use Rattle.std.proofs.lemmas.Cmp.{and_equiv, on_equiv, lists_equiv, int_eq_equiv}
use Rattle.std.proofs.lemmas.Map.Keys.{IsDistinct-push}
use Rattle.pa_math.specs.Lists.{with_new}
use Rattle.pa_math.proofs.Unions.{distinct-nil}
use Rattle.pa_meaning.specs.Rows.{Row}
use Rattle.pa_meaning.specs.Contracts.{Name}
use Rattle.pa_names.specs.Names.{most_ports}
use Rattle.pa_row.specs.Same.{same_row}
use Rattle.pa_contract.specs.Make.{first_columns}
use Rattle.pa_contract.proofs.Results.{fronts_fit as contract_fronts_fit}
use Rattle.pa_contract.specs.WellFormed.{IsRowList, IsWellFormed}
use Rattle.pa_json.specs.declared.limits.TheConstants.{MOST_CONTRACT_ROWS}
use Rattle.pa_json.specs.Kept.{kept_with, kept_all, IsKept}

same_row_equiv : IsEquivalence same_row
same_row_equiv = and_equiv (on_equiv (λ (r : Row). r.c) (lists_equiv int_eq_equiv)) (on_equiv (λ (r : Row). r.b) int_eq_equiv)

pub none_kept : (columns : ℕ) (rows : List Row) → rows ≡ [] → IsKept columns rows
none_kept columns rows is = subst (IsKept columns) (sym is) (All-nil (λ r. length r.c ≡ columns), distinct-nil same_row, omega arith)

kept_with-kept : (columns : ℕ) (rows : List Row) (row : Row) → IsKept columns rows → length row.c ≡ columns → IsKept columns (kept_with rows row)
kept_with-kept columns rows row kept fits = elim (cases_lt MOST_CONTRACT_ROWS (length rows)) [
  | inl full ↦ subst (IsKept columns) (ap (λ b. cond b rows (with_new same_row rows row)) (sym (lt-ltb MOST_CONTRACT_ROWS (length rows) full))) kept
  | inr few ↦ subst (IsKept columns) (ap (λ b. cond b rows (with_new same_row rows row)) (sym (le-ltb MOST_CONTRACT_ROWS (length rows) few)))
      (cond_both (list_any (same_row row) rows) rows (rows ++ row ∷ []) (IsKept columns) (λ _. kept) (λ new. (
        All-push (λ r. length r.c ≡ columns) rows row kept.0 fits,
        IsDistinct-push same_row_equiv rows row kept.1 new,
        omega (arith, length_push rows row),
      )))
]

-- more rows with the same columns
pub kept_all-kept : (columns : ℕ) (rows more : List Row) → IsKept columns rows → All (λ r. length r.c ≡ columns) more → IsKept columns (kept_all rows more)
kept_all-kept columns rows [] kept fit = kept
kept_all-kept columns rows (row ∷ more) kept fit =
    kept_all-kept columns (kept_with rows row) more
    (kept_with-kept columns rows row kept (All-head (λ r. length r.c ≡ columns) row more fit))
    (All-tail (λ r. length r.c ≡ columns) row more fit)

row_list : (columns : ℕ) (rows : List Row) → IsKept columns rows → IsRowList columns rows
row_list columns rows kept = record { columns_fit = kept.0; distinct = kept.1; few = omega (arith, kept.2) }

-- the contract of ports, the first of which are its inputs, and of rows that are kept
pub well_formed : (n : ℕ) (names inputs outputs : List Name) (assumptions guarantees : List Row) → IsDistinct bytes_eq names → length names ≤ most_ports
    → n ≤ length names → inputs ≡ take n names → outputs ≡ drop n names → IsKept n assumptions → IsKept (length names) guarantees
    → IsWellFormed (record { inputs = inputs; outputs = outputs; assumptions = assumptions; guarantees = guarantees })
well_formed n names inputs outputs assumptions guarantees distinct few within first rest assumed promised =
    let whole : inputs ++ outputs ≡ names = ap (λ i. i ++ outputs) first ∙ ap (λ o. take n names ++ o) rest ∙ take-append-drop n names in
    let count : length inputs ≡ n = ap length first ∙ length-take-le n names within in
    record {
      distinct = subst (IsDistinct bytes_eq) (sym whole) distinct;
      few = omega (arith, ap length whole, few);
      assumptions = subst (λ k. IsRowList k assumptions) (sym count) (row_list n assumptions assumed);
      guarantees = subst (λ k. IsRowList k guarantees) (sym (ap length whole)) (row_list (length names) guarantees promised);
    }

-- rows over the first of their columns
pub fronts_fit : (columns : ℕ) (rows list : List Row) → All (λ r. columns ≤ length r.c) rows → list ≡ map (first_columns columns) rows
    → All (λ r. length r.c ≡ columns) list
fronts_fit columns rows list wide is = subst (All (λ r. length r.c ≡ columns)) (sym is) (contract_fronts_fit columns rows wide)
