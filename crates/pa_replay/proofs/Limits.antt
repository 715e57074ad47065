-- The limit of pivots comes only after one more different bases than pivots, and so never where there are not so many.
use Rattle.std.proofs.Common.{◌≡◌, ℕ, ◌<◌, ◌≤◌, ◌+◌, ◌-◌, ◌⊎◌, inl, inr, Bool, true, false, if◌then◌else◌, nat_le, Ok, Err, refl, sym, ap, subst, ◌∙◌, arith}
use Rattle.pa_ring.specs.Choices.{SameElements, choices}
use Rattle.pa_math.specs.Rational.{ℚ}
use Rattle.pa_row.proofs.Dots.{ok_same}
use Rattle.pa_tableau.specs.Arithmetic.{Arithmetic}
use Rattle.pa_tableau.specs.Tableau.{Tableau}
use Rattle.pa_replay.specs.declared.«end».SolveFault.TheVariants.{PivotLimit}
use Rattle.pa_replay.specs.Replay.{Ended, run_from}
use Rattle.pa_replay.specs.Limits.{most_bases}
use Rattle.pa_replay.proofs.Bridges.{IsSound}
use Rattle.pa_replay.proofs.Runs.{IsFeasible}
use Rattle.pa_replay.proofs.Theorems.{HoldsProblem}
use Rattle.pa_replay.proofs.Trails.{History, run_history}
use Rattle.pa_replay.proofs.Apart.{bases_apart, pivots_below}

below_or_not : (i k : ℕ) → (i < k) ⊎ (k ≤ i)
below_or_not i k = search arith

-- No basis comes twice: a run that the limit of i pivots stops and a run with more pivots end with different sets of basic columns.
pub no_basis_twice : (A : Arithmetic) (n m i j : ℕ) (sign : ℕ → ℚ) (row : ℕ → ℕ → ℚ) (target bound : ℕ → ℚ) (loaded : Tableau) (a b : Ended) → IsSound A
    → HoldsProblem n m sign row target bound loaded → IsFeasible n m loaded loaded → i < j → Ok a ≡ run_from A n m i loaded → a.answer ≡ Err PivotLimit
    → Ok b ≡ run_from A n m j loaded → SameElements a.table.basis b.table.basis → ⊥
no_basis_twice A n m i j sign row target bound loaded a b s p f less ha limit hb same = by_count (run_history A n m j sign row target bound loaded b s p f hb)
  where
    by_place : (h : History n m 0 j loaded loaded b (λ x. run_from A n m x loaded)) → (i < h.made) ⊎ (h.made ≤ i) → ⊥
    by_place h (inl before) =
        let here : a.table ≡ h.tables i =
        ap (λ (a : Ended). a.table) (ok_same a (record { answer = Err PivotLimit; table = h.tables i }) (ha ∙ h.limits i before)) in
        let there : b.table ≡ h.tables h.made = sym h.ends in
        bases_apart n m 0 j sign row target bound loaded loaded b (λ x. run_from A n m x loaded) p h i h.made before (omega arith)
        (subst (λ (t : Tableau). SameElements (h.tables i).basis t.basis) there (subst (λ (t : Tableau). SameElements t.basis b.table.basis) here same))
    by_place h (inr past) =
        let some : h.over ≡ 0 → ⊥ = λ none. (let count = h.count in absurd (omega (arith, none, count, past, less))) in
        let place : h.made + (i - h.made) ≡ i = omega (arith, past) in
        let equal : a ≡ b = ok_same a b (ha ∙ ap (λ x. run_from A n m x loaded) (sym place) ∙ h.beyond some (i - h.made)) in
        some (h.limit (ap (λ (a : Ended). a.answer) (sym equal) ∙ limit))

    by_count : History n m 0 j loaded loaded b (λ x. run_from A n m x loaded) → ⊥
    by_count h = by_place h (below_or_not i h.made)

-- Where the limit stops a run, the limit stops the run with fewer pivots too: there are `most + 1` different bases, and another one is to come.
pub limit_before : (A : Arithmetic) (n m most i : ℕ) (sign : ℕ → ℚ) (row : ℕ → ℕ → ℚ) (target bound : ℕ → ℚ) (loaded : Tableau) (a : Ended) → IsSound A
    → HoldsProblem n m sign row target bound loaded → IsFeasible n m loaded loaded → Ok a ≡ run_from A n m most loaded → a.answer ≡ Err PivotLimit → i < most
    → (t : Tableau) × (run_from A n m i loaded ≡ Ok (record { answer = Err PivotLimit; table = t }))
limit_before A n m most i sign row target bound loaded a s p f ha limit low =
    let h = run_history A n m most sign row target bound loaded a s p f ha in
    let over : h.over ≡ 0 = h.limit limit in
    let count = h.count in
    (h.tables i, h.limits i (omega (arith, over, count, low)))

-- So where the limit stops a run, there are more choices of n of the columns than pivots.
pub limit_choices : (A : Arithmetic) (n m most : ℕ) (sign : ℕ → ℚ) (row : ℕ → ℕ → ℚ) (target bound : ℕ → ℚ) (loaded : Tableau) (a : Ended) → IsSound A
    → HoldsProblem n m sign row target bound loaded → IsFeasible n m loaded loaded → Ok a ≡ run_from A n m most loaded → a.answer ≡ Err PivotLimit
    → most + 1 ≤ choices (n + m) n
limit_choices A n m most sign row target bound loaded a s p f ha limit =
    let h = run_history A n m most sign row target bound loaded a s p f ha in
    let below : h.made < choices (n + m) n = pivots_below n m 0 most sign row target bound loaded loaded a (λ x. run_from A n m x loaded) p h in
    let over : h.over ≡ 0 = h.limit limit in
    let count = h.count in
    omega (arith, below, over, count)

-- And it never comes where there are at most 4,096 choices, and no more than pivots.
pub no_limit : (A : Arithmetic) (n m most : ℕ) (sign : ℕ → ℚ) (row : ℕ → ℕ → ℚ) (target bound : ℕ → ℚ) (loaded : Tableau) (a : Ended) → IsSound A
    → HoldsProblem n m sign row target bound loaded → IsFeasible n m loaded loaded → Ok a ≡ run_from A n m most loaded → most_bases m n ≤ 4096
    → most_bases m n ≤ most → a.answer ≡ Err PivotLimit → ⊥
no_limit A n m most sign row target bound loaded a s p f ha small enough limit = by_size (nat_le (choices (m + n) n) 4096) refl small enough
  where
    more : most + 1 ≤ choices (m + n) n
    more =
        let turned : n + m ≡ m + n = omega arith in
        subst (λ k. most + 1 ≤ choices k n) turned (limit_choices A n m most sign row target bound loaded a s p f ha limit)

    by_size : (b : Bool) → nat_le (choices (m + n) n) 4096 ≡ b → (if b then choices (m + n) n else 4097) ≤ 4096 → (if b then choices (m + n) n else 4097) ≤ most
        → ⊥
    by_size true e small enough = (let more = more in absurd (omega (arith, more, enough)))
    by_size false e small enough = absurd (omega (arith, small))
