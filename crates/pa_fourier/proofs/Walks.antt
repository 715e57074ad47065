-- A walk along the chain of a group compares the same rows in the same order as one over all rows: a row of another group stands in for none.
use Rattle.std.proofs.Common.{◌≡◌, refl, sym, ap, ap₂, ◌∙◌, subst, ℕ, zero, suc, ◌+◌, ◌-◌, ◌<◌, ◌≤◌, Bool, true, false, not, ◌&&◌, cond, List, drop}
use Rattle.std.proofs.Common.{length, get_or, nat_eq, nat_lt, Result, Ok, Err, arith}
use Rattle.std.proofs.lemmas.Bool.Decides.{Decides-eqb}
use Rattle.pa_math.specs.Answers.{and_then}
use Rattle.pa_math.specs.Rational.{ℚ}
use Rattle.pa_frac.specs.declared.wide.Wide.{Wide}
use Rattle.pa_frac.specs.Operations.{comparison_in}
use Rattle.pa_meaning.specs.Rows.{Row, row_at}
use Rattle.pa_witness.specs.Thinning.{is_constant, are_parallel}
use Rattle.pa_fourier.specs.Bounds.{AreBounds, bound_at, stands_by}
use Rattle.pa_fourier.specs.Chains.{IsNext, AreLinked}
use Rattle.pa_fourier.specs.Cleaning.{bound_of, stands_in, replaced_by, replaced_in}
use Rattle.pa_fourier.specs.Groups.{AreGroups}
use Rattle.pa_fourier.proofs.Cleaned.{parallel_solid}
use Rattle.pa_fourier.proofs.CleanTurns.{replaced_turn}

-- ---- rows that are not parallel
passed_over : (i : ℕ) (r : Row) (k : ℕ) (s : Row) → are_parallel r s ≡ false → replaced_by i r k s ≡ Ok false
passed_over i r k s h = by (nat_eq k i) (are_parallel r s) h
  where
    by : (x p : Bool) → p ≡ false
        → cond (not x && p) (and_then (comparison_in 126 (bound_of r) (bound_of s)) (λ order. Ok (stands_in (nat_lt k i) order))) (Ok false)
        ≡ Ok false
    by true p h = refl
    by false true h = absurd (cc)
    by false false h = refl

skipped : (i : ℕ) (r : Row) (rows : List Row) (d from to : ℕ) → from + d ≡ to → to ≤ length rows
    → ((k : ℕ) → from ≤ k → k < to → are_parallel r (row_at rows k) ≡ false)
    → replaced_in i r from (drop from rows) ≡ replaced_in i r to (drop to rows)
skipped i r rows zero from to e l h = let same : from ≡ to = omega arith in ap (λ n. replaced_in i r n (drop n rows)) same
skipped i r rows (suc d) from to e l h =
    replaced_turn i r rows from (omega arith)
    ∙ ap (λ t. and_then t (λ replaced. cond replaced (Ok true) (replaced_in i r (from + 1) (drop (from + 1) rows))))
    (passed_over i r from (row_at rows from) (h from (omega arith) (omega arith)))
    ∙ skipped i r rows d (from + 1) to (omega arith) l (λ k a b. h k (omega arith) b)

pub walked : (rows : List Row) (groups : List ℕ) (i from to : ℕ) → AreGroups rows groups → i < length rows → IsNext groups (get_or groups i 0) from to →
    replaced_in i (row_at rows i) from (drop from rows) ≡ replaced_in i (row_at rows i) to (drop to rows)
walked rows groups i from to are h is =
    let few : to ≤ length rows = let w = is.within in let c = are.count in omega arith in
    skipped i (row_at rows i) rows (to - from) from to (let b = is.behind in omega arith) few (λ k a b. sym (are.same k i (omega arith) h) ∙ is.least k a b)

-- ---- rows of the group
in_group : (i : ℕ) (r : Row) (j : ℕ) (s : Row) (p q : ℚ) → are_parallel r s ≡ true → p ≡ bound_of r → q ≡ bound_of s → replaced_by i r j s ≡ stands_by i p j q
in_group i r j s p q h p_is q_is =
    by (nat_eq j i) (are_parallel r s) h
    ∙ ap₂ (λ p q. cond (nat_eq j i) (Ok false) (and_then (comparison_in 126 p q) (λ order. Ok (stands_in (nat_lt j i) order)))) (sym p_is) (sym q_is)
  where
    by : (x t : Bool) → t ≡ true
        → cond (not x && t) (and_then (comparison_in 126 (bound_of r) (bound_of s)) (λ order. Ok (stands_in (nat_lt j i) order))) (Ok false)
        ≡ cond x (Ok false) (and_then (comparison_in 126 (bound_of r) (bound_of s)) (λ order. Ok (stands_in (nat_lt j i) order)))
    by true t h = refl
    by false true h = refl
    by false false h = absurd (cc)

compared : (rows : List Row) (groups : List ℕ) (bounds : List ℚ) (i j : ℕ) → AreGroups rows groups → AreBounds rows bounds → i < length rows
    → j < length rows → is_constant (row_at rows i) ≡ false
    → get_or groups j 0 ≡ get_or groups i 0 → replaced_by i (row_at rows i) j (row_at rows j) ≡ stands_by i (bound_at bounds i) j (bound_at bounds j)
compared rows groups bounds i j are known hi hj solid e =
    let parallel : are_parallel (row_at rows i) (row_at rows j) ≡ true = sym (are.same j i hj hi) ∙ (Decides-eqb (get_or groups j 0) (get_or groups i 0)).1 e in
    in_group i (row_at rows i) j (row_at rows j) (bound_at bounds i) (bound_at bounds j) parallel (known.bound i hi solid)
    (known.bound j hj (parallel_solid (row_at rows i) (row_at rows j) solid parallel))

-- one row of the walk
pub walk_turn : (rows : List Row) (groups : List ℕ) (bounds : List ℚ) (i j to : ℕ) → AreGroups rows groups → AreBounds rows bounds → i < length rows
    → j < length rows → is_constant (row_at rows i) ≡ false
    → get_or groups j 0 ≡ get_or groups i 0 → IsNext groups (get_or groups j 0) (j + 1) to
    → replaced_in i (row_at rows i) j (drop j rows)
    ≡ and_then (stands_by i (bound_at bounds i) j (bound_at bounds j)) (λ replaced. cond replaced (Ok true) (replaced_in i (row_at rows i) to (drop to rows)))
walk_turn rows groups bounds i j to are known hi hj solid e is =
    replaced_turn i (row_at rows i) rows j hj
    ∙ ap₂ (λ t u. and_then t (λ replaced. cond replaced (Ok true) u)) (compared rows groups bounds i j are known hi hj solid e)
    (walked rows groups i (j + 1) to are hi (subst (λ g. IsNext groups g (j + 1) to) e is))

-- the same, to the next place of the chain
pub walk_next : (rows : List Row) (groups heads next : List ℕ) (bounds : List ℚ) (i j : ℕ)
    → AreGroups rows groups → AreLinked groups heads next 0 → AreBounds rows bounds
    → i < length rows → j < length rows → is_constant (row_at rows i) ≡ false → get_or groups j 0 ≡ get_or groups i 0
    → replaced_in i (row_at rows i) j (drop j rows)
    ≡ and_then (stands_by i (bound_at bounds i) j (bound_at bounds j))
    (λ replaced. cond replaced (Ok true) (replaced_in i (row_at rows i) (get_or next j 0) (drop (get_or next j 0) rows)))
walk_next rows groups heads next bounds i j are linked known hi hj solid e =
    walk_turn rows groups bounds i j (get_or next j 0) are known hi hj solid e (linked.behind j (omega arith) (let n = are.count in omega arith))

-- what one comparison tells of all
pub stood_in : (whole one rest : Result Bool Wide) → whole ≡ and_then one (λ replaced. cond replaced (Ok true) rest) → Ok true ≡ one → Ok true ≡ whole
stood_in whole one rest turn h = sym (turn ∙ ap (λ t. and_then t (λ replaced. cond replaced (Ok true) rest)) (sym h))

pub not_stood_in : (whole one rest : Result Bool Wide) → whole ≡ and_then one (λ replaced. cond replaced (Ok true) rest) → Ok false ≡ one → whole ≡ rest
not_stood_in whole one rest turn h = turn ∙ ap (λ t. and_then t (λ replaced. cond replaced (Ok true) rest)) (sym h)

pub too_wide : (whole one rest : Result Bool Wide) (e : Wide) → whole ≡ and_then one (λ replaced. cond replaced (Ok true) rest) → Err e ≡ one → Err e ≡ whole
too_wide whole one rest e turn h = sym (turn ∙ ap (λ t. and_then t (λ replaced. cond replaced (Ok true) rest)) (sym h))
