-- The three ends of a run, and what each of them gives.
use Rattle.std.proofs.Common.{◌≡◌, ℕ, ◌+◌, Bool, true, false, if◌then◌else◌, None, Result, Ok, Err, refl, sym, ap, subst, arith}
use Rattle.pa_math.specs.Answers.{and_then, given}
use Rattle.pa_math.specs.Rational.{ℚ}
use Rattle.pa_frac.specs.Operations.{is_zero}
use Rattle.pa_row.proofs.Dots.{and_then_ok, ok_same}
use Rattle.pa_tableau.specs.Arithmetic.{Arithmetic}
use Rattle.pa_tableau.specs.Tableau.{Tableau, cell}
use Rattle.pa_replay.specs.declared.«end».End.{End}
use Rattle.pa_replay.specs.declared.«end».End.TheVariants.{Least, NoWeights, Endless}
use Rattle.pa_replay.specs.declared.«end».SolveFault.{SolveFault}
use Rattle.pa_replay.specs.declared.«end».SolveFault.TheVariants.{PivotLimit}
use Rattle.pa_replay.specs.declared.next.Next.{Next}
use Rattle.pa_replay.specs.declared.next.Next.TheVariants.{Settled, Falls, Enters}
use Rattle.pa_replay.specs.Replay.{Stop, Ended, next_in, entering_column, phase, driven_out, second_answer, second_phase, after_first, run_from}
use Rattle.pa_replay.proofs.Bridges.{IsSound}
use Rattle.pa_replay.proofs.Runs.{IsFeasible, phase_feasible}
use Rattle.pa_replay.proofs.Clean.{IsClean, artificial_zero}
use Rattle.pa_replay.proofs.Second.{driven_clean, phase_clean}
use Rattle.pa_replay.proofs.Theorems.{HoldsProblem}

-- what is known of the tableau at each end
pub record IsSettledFirst (n m : ℕ) (loaded t : Tableau) : Type 0 where
  pub feasible : IsFeasible n m loaded t
  pub settled : next_in n m n t ≡ Settled
  pub left_over : is_zero (cell t n (n + m)) ≡ false

pub record IsSecond (n m : ℕ) (loaded t : Tableau) (next : Next) : Type 0 where
  pub feasible : IsFeasible n m loaded t
  pub clean : IsClean n m n t
  pub comes : next_in n m (n + 1) t ≡ next

abbrev pub Known : ℕ → ℕ → Tableau → Tableau → Result End SolveFault → Type 0
Known n m loaded t (Ok Least) = IsSecond n m loaded t Settled
Known n m loaded t (Ok NoWeights) = IsSettledFirst n m loaded t
Known n m loaded t (Ok (Endless c)) = IsSecond n m loaded t (Falls c)
Known n m loaded t (Err fault) = Unit {0}

abbrev pub KnownAt : ℕ → ℕ → Tableau → Ended → Type 0
KnownAt n m loaded ended = Known n m loaded ended.table ended.answer

limit_known : (n m : ℕ) (loaded t : Tableau) (ended : Ended) → ended ≡ record { answer = Err PivotLimit; table = t } → KnownAt n m loaded ended
limit_known n m loaded t ended e = subst (KnownAt n m loaded) (sym e) tt

-- phase 2
second_known : (A : Arithmetic) (n m : ℕ) (loaded : Tableau) (stop : Stop) (ended : Ended) → IsSound A →
    IsFeasible n m loaded stop.table × IsClean n m n stop.table →
    Ok ended ≡ and_then (phase A n m (n + 1) stop.made stop.left stop.table) (λ stop. Ok (record { answer = second_answer stop.next; table = stop.table })) →
    KnownAt n m loaded ended
second_known A n m loaded stop ended s both h =
    let (last, first, made) = and_then_ok (phase A n m (n + 1) stop.made stop.left stop.table)
    (λ stop. Ok (record { answer = second_answer stop.next; table = stop.table })) ended h in
    let (f, next) = phase_feasible A n m (n + 1) stop.made stop.left loaded stop.table last s both.0 first in
    let clean : IsClean n m n last.table = phase_clean A n m (n + 1) stop.made stop.left loaded stop.table last s both.0 both.1 first in
    subst (KnownAt n m loaded) (sym (ok_same ended (record { answer = second_answer last.next; table = last.table }) made))
    (by_next last.table last.next f clean (sym next))
  where
    by_next : (t : Tableau) (next : Next) → IsFeasible n m loaded t → IsClean n m n t → next_in n m (n + 1) t ≡ next → Known n m loaded t (second_answer next)
    by_next t Settled f clean e = record { feasible = f; clean = clean; comes = e }
    by_next t (Falls c) f clean e = record { feasible = f; clean = clean; comes = e }
    by_next t (Enters c) f clean e = tt

-- from the end of phase 1 on
first_known : (A : Arithmetic) (n m : ℕ) (sign : ℕ → ℚ) (row : ℕ → ℕ → ℚ) (target bound : ℕ → ℚ) (loaded : Tableau) (stop : Stop) (ended : Ended) →
    IsSound A → HoldsProblem n m sign row target bound loaded → IsFeasible n m loaded stop.table →
    stop.next ≡ next_in n m n stop.table → ((c : ℕ) → next_in n m n stop.table ≡ Falls c → ⊥) → Ok ended ≡ after_first A n m stop → KnownAt n m loaded ended
first_known A n m sign row target bound loaded stop ended s p f next never h = by_next stop.next (sym next) h
  where
    by_stop : (second : Stop) (next : Next) → second.next ≡ next →
        (entering_column second.next ≡ None → IsFeasible n m loaded second.table × IsClean n m n second.table) →
        Ok ended ≡ given (and_then (phase A n m (n + 1) second.made second.left second.table)
        (λ stop. Ok (record { answer = second_answer stop.next; table = stop.table })))
        (entering_column next) (λ c. Ok (record { answer = Err PivotLimit; table = second.table })) → KnownAt n m loaded ended
    by_stop second Settled e both k = second_known A n m loaded second ended s (both (ap entering_column e)) k
    by_stop second (Falls c) e both k = second_known A n m loaded second ended s (both (ap entering_column e)) k
    by_stop second (Enters c) e both k = limit_known n m loaded second.table ended (ok_same ended (record { answer = Err PivotLimit; table = second.table }) k)

    by_test : (b : Bool) → is_zero (cell stop.table n (n + m)) ≡ b → next_in n m n stop.table ≡ Settled →
        Ok ended ≡ (if b then and_then (driven_out A m 0 n stop.made stop.left stop.table) (second_phase A n m) else Ok
        (record { answer = Ok NoWeights; table = stop.table })) → KnownAt n m loaded ended
    by_test false e settled k =
        subst (KnownAt n m loaded) (sym (ok_same ended (record { answer = Ok NoWeights; table = stop.table }) k))
        (record { feasible = f; settled = settled; left_over = e })
    by_test true e settled k =
        let (second, first, made) = and_then_ok (driven_out A m 0 n stop.made stop.left stop.table) (second_phase A n m) ended k in
        by_stop second second.next refl
        (λ none. driven_clean A n m 0 n stop.made stop.left loaded stop.table second s (omega arith) f
        (record {
          cells = λ k low high j inside. absurd (omega
              (arith, low));
          values = artificial_zero n m sign row target bound loaded stop.table p f e;
        }) first none) made

    by_next : (next : Next) → next_in n m n stop.table ≡ next →
        Ok ended ≡ given (if is_zero (cell stop.table n (n + m)) then and_then (driven_out A m 0 n stop.made stop.left stop.table)
        (second_phase A n m) else Ok (record { answer = Ok NoWeights; table = stop.table }))
        (entering_column next) (λ c. Ok (record { answer = Err PivotLimit; table = stop.table })) → KnownAt n m loaded ended
    by_next Settled e k = by_test (is_zero (cell stop.table n (n + m))) refl e k
    by_next (Falls c) e k = absurd (never c e)
    by_next (Enters c) e k = limit_known n m loaded stop.table ended (ok_same ended (record { answer = Err PivotLimit; table = stop.table }) k)

-- The run from a loaded tableau: what is known at its end.
pub run_known : (A : Arithmetic) (n m most : ℕ) (sign : ℕ → ℚ) (row : ℕ → ℕ → ℚ) (target bound : ℕ → ℚ) (loaded : Tableau) (ended : Ended) → IsSound A →
    HoldsProblem n m sign row target bound loaded → IsFeasible n m loaded loaded →
    ((c : ℕ) (t : Tableau) → IsFeasible n m loaded t → next_in n m n t ≡ Falls c → ⊥) → Ok ended ≡ run_from A n m most loaded → KnownAt n m loaded ended
run_known A n m most sign row target bound loaded ended s p f never h =
    let (stop, first, made) = and_then_ok (phase A n m n 0 most loaded) (after_first A n m) ended h in
    let (g, next) = phase_feasible A n m n 0 most loaded loaded stop s f first in
    first_known A n m sign row target bound loaded stop ended s p g next (λ c e. never c stop.table g e) made
