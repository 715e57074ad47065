-- The rows at the places of an equality.
use Rattle.std.proofs.Common.{◌≡◌, ◌<◌, ◌∙◌, ℕ, sym, ap, subst, arith, length, get_or, map, ◌++◌, [], All, List, Some, Result, Ok}
use Rattle.std.proofs.lemmas.Int.{ints}
use lib.IntN.{pos}
use lib.Signed.{◌<ℤ◌}
use Rattle.pa_ring.specs.Sums.{number_at}
use Rattle.pa_math.specs.Answers.{IsAnswer, given}
use Rattle.pa_meaning.specs.Rows.{Row, row_at}
use Rattle.pa_row.proofs.Turns.{row_at_read}
use Rattle.pa_fourier.specs.declared.fault.StepFault.{StepFault}
use Rattle.pa_fourier.specs.declared.fault.StepFault.TheVariants.{Memory}
use Rattle.pa_witness.specs.Steps.{Version, kept_at, others_at, equality_in}
use Rattle.pa_fourier.specs.StepFaults.{made_with, pairs_due, substituted_due, substituted_without, step_in}
use Rattle.pa_witness.proofs.Substitution.{IsEqualityAt, All-row_at, number_at-negative}

pub columns_there : (columns : ℕ) (rows : List Row) (i : ℕ) (r : Row) → i < length rows → r ≡ get_or rows i r → All (λ (r : Row). length r.c ≡ columns) rows
    → length r.c ≡ columns
columns_there columns rows i r l is h =
    subst (λ (r : Row). length r.c ≡ columns) (row_at_read rows i r l ∙ sym is) (All-row_at (λ (r : Row). length r.c ≡ columns) rows i l h)

pub positive_there : (k : ℕ) (rows : List Row) (i j : ℕ) (p : Row) → IsEqualityAt k rows i j → p ≡ get_or rows i p → pos 0 <ℤ number_at p.c k
positive_there k rows i j p is at = subst (λ (r : Row). pos 0 <ℤ number_at r.c k) (row_at_read rows i p is.first ∙ sym at) is.positive

pub negative_there : (k : ℕ) (rows : List Row) (i j : ℕ) (n : Row) → IsEqualityAt k rows i j → n ≡ get_or rows j n → number_at n.c k <ℤ pos 0
negative_there k rows i j n is at =
    let below : number_at (row_at rows j).c k <ℤ pos 0 = let e = ap (λ (r : Row). number_at r.c k) is.opposite ∙ number_at-negative k (row_at rows i) in
    let up = is.positive in omega (arith, ints) in
    subst (λ (r : Row). number_at r.c k <ℤ pos 0) (row_at_read rows j n is.second ∙ sym at) below

-- the answer with these two rows is that of the step
pub substituted_answer : (v : Version) (k : ℕ) (rows : List Row) (i j : ℕ) (p n : Row) (made : List Row) (result : Result (List Row) StepFault)
    → IsEqualityAt k rows i j → p ≡ get_or rows i p → n ≡ get_or rows j n
    → equality_in v k rows ≡ Some (i, j) → kept_at k rows ≡ made
    → IsAnswer Memory (made_with made (map (substituted_without k p n) (others_at k i j rows))) result → IsAnswer Memory (step_in v k rows) result
substituted_answer v k rows i j p n made result is p_is n_is some kept h =
    let p_at : p ≡ row_at rows i = p_is ∙ sym (row_at_read rows i p is.first) in
    let n_at : n ≡ row_at rows j = n_is ∙ sym (row_at_read rows j n is.second) in
    let due : step_in v k rows ≡ made_with made (map (substituted_without k p n) (others_at k i j rows)) =
    ap (λ o. made_with (kept_at k rows) (given (pairs_due k rows) o (substituted_due k rows))) some
    ∙ ap (λ m. made_with m (substituted_due k rows (i, j))) kept
    ∙ ap (λ (r : Row). made_with made (map (substituted_without k r (row_at rows j)) (others_at k i j rows))) (sym p_at)
    ∙ ap (λ (r : Row). made_with made (map (substituted_without k p r) (others_at k i j rows))) (sym n_at) in
    subst (λ t. IsAnswer Memory t result) (sym due) h

pub kept_is : (none kept all : List Row) → none ≡ [] → ◌≡◌ {A = Result (List Row) StepFault} (Ok (none ++ kept)) (Ok all) → kept ≡ all
kept_is none kept all e h = let same : none ++ kept ≡ all = cc in sym (ap (λ t. t ++ kept) e) ∙ same
