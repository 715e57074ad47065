-- What a replay's bases are like.
use Rattle.std.proofs.Common.{◌≡◌, ℕ, ◌≤◌, ◌+◌, length, Result, Ok, Err, refl, sym, ap, subst, ◌∙◌, arith}
use Rattle.pa_ring.specs.Choices.{choices}
use Rattle.pa_row.proofs.Dots.{and_then_ok, ok_same}
use Rattle.pa_tableau.specs.Arithmetic.{Arithmetic, at_width, exact}
use Rattle.pa_tableau.specs.Tableau.{Tableau}
use Rattle.pa_replay.specs.declared.«end».End.{End}
use Rattle.pa_replay.specs.declared.«end».SolveFault.{SolveFault}
use Rattle.pa_replay.specs.declared.«end».SolveFault.TheVariants.{PivotLimit}
use Rattle.pa_replay.specs.Problem.{Problem, loaded}
use Rattle.pa_replay.specs.Replay.{ended, Ended, run_from, replay}
use Rattle.pa_replay.specs.Limits.{most_bases, IsFixedByBasis, HasNoBasisTwice}
use Rattle.pa_replay.proofs.Bridges.{IsSound, at_width_sound, exact_sound}
use Rattle.pa_replay.proofs.Kept.{IsReached}
use Rattle.pa_replay.proofs.Loads.{start_reached}
use Rattle.pa_replay.proofs.LoadedFacts.{IsFaithful, at_width_faithful}
use Rattle.pa_replay.proofs.LoadedStart.{loaded_start, loaded_problem}
use Rattle.pa_replay.proofs.Trails.{run_history}
use Rattle.pa_replay.proofs.Fixed.{fixed_line}
use Rattle.pa_replay.proofs.Limits as limits

exact_faithful : IsFaithful exact
exact_faithful x z h = ok_same z x h

-- the loaded tableau and the run from there
replay_parts : (A : Arithmetic) (p : Problem) (most : ℕ) (ended : Ended) → Ok ended ≡ replay A p most
    → (t : Tableau) × (Ok t ≡ loaded A p) × (Ok ended ≡ run_from A (length p.target) (length p.rows) most t)
replay_parts A p most ended h = and_then_ok (loaded A p) (run_from A (length p.target) (length p.rows) most) ended h

same_loaded : (A : Arithmetic) (p : Problem) (t u : Tableau) → Ok t ≡ loaded A p → Ok u ≡ loaded A p → u ≡ t
same_loaded A p t u h k = ok_same u t (k ∙ sym h)

-- the tableau where a run stops is reached
run_reached : (A : Arithmetic) (p : Problem) (most : ℕ) (t : Tableau) (ended : Ended) → IsSound A → IsFaithful A → Ok t ≡ loaded A p
    → Ok ended ≡ run_from A (length p.target) (length p.rows) most t
    → IsReached (length p.target) (length p.rows) (length p.target + length p.rows + 1) t ended.table
run_reached A p most t ended s f h k =
    let path =
    run_history A (length p.target) (length p.rows) most _ _ _ _ t ended s (loaded_problem A p t s f h)
    (start_reached (length p.target) (length p.rows) t (loaded_start A p t s f h)) k in
    subst (λ (u : Tableau). IsReached (length p.target) (length p.rows) (length p.target + length p.rows + 1) t u) path.ends
    (path.feasible path.made (omega arith)).reached

pub replay_fixed : (A : Arithmetic) (p : Problem) → IsSound A → IsFaithful A → IsFixedByBasis A p
replay_fixed A p s f i j a b ha hb same k l low below e =
    let (t, ht, ra) = replay_parts A p i a ha in
    let (u, hu, rb) = replay_parts A p j b hb in
    let here : Ok b ≡ run_from A (length p.target) (length p.rows) j t =
    subst (λ (u : Tableau). Ok b ≡ run_from A (length p.target) (length p.rows) j u) (same_loaded A p t u ht hu) rb in
    fixed_line (length p.target) (length p.rows) t a.table b.table (run_reached A p i t a s f ht ra) (run_reached A p j t b s f ht here) same k l low below e

pub replay_apart : (A : Arithmetic) (p : Problem) → IsSound A → IsFaithful A → HasNoBasisTwice A p
replay_apart A p s f i j a b less ha limit hb same =
    let (t, ht, ra) = replay_parts A p i a ha in
    let (u, hu, rb) = replay_parts A p j b hb in
    let here : Ok b ≡ run_from A (length p.target) (length p.rows) j t =
    subst (λ (u : Tableau). Ok b ≡ run_from A (length p.target) (length p.rows) j u) (same_loaded A p t u ht hu) rb in
    limits.no_basis_twice A (length p.target) (length p.rows) i j _ _ _ _ t a b s (loaded_problem A p t s f ht)
    (start_reached (length p.target) (length p.rows) t (loaded_start A p t s f ht)) less ra limit here same

-- for the replay itself, over fractions of any size
pub exact_fixed : (p : Problem) → IsFixedByBasis exact p
exact_fixed p = replay_fixed exact p exact_sound exact_faithful

pub exact_apart : (p : Problem) → HasNoBasisTwice exact p
exact_apart p = replay_apart exact p exact_sound exact_faithful

-- The limit comes only where there are more choices than pivots.
pub replay_choices : (A : Arithmetic) (p : Problem) (most : ℕ) (ended : Ended) → IsSound A → IsFaithful A → Ok ended ≡ replay A p most
    → ended.answer ≡ Err PivotLimit → most + 1 ≤ choices (length p.target + length p.rows) (length p.target)
replay_choices A p most ended s f h limit =
    let (t, ht, r) = replay_parts A p most ended h in
    limits.limit_choices A (length p.target) (length p.rows) most _ _ _ _ t ended s (loaded_problem A p t s f ht)
    (start_reached (length p.target) (length p.rows) t (loaded_start A p t s f ht)) r limit

pub replay_unlimited : (A : Arithmetic) (p : Problem) (most : ℕ) (ended : Ended) → IsSound A → IsFaithful A → Ok ended ≡ replay A p most →
    most_bases (length p.rows) (length p.target) ≤ 4096 → most_bases (length p.rows) (length p.target) ≤ most → ended.answer ≡ Err PivotLimit → ⊥
replay_unlimited A p most ended s f h small enough limit =
    let (t, ht, r) = replay_parts A p most ended h in
    limits.no_limit A (length p.target) (length p.rows) most _ _ _ _ t ended s (loaded_problem A p t s f ht)
    (start_reached (length p.target) (length p.rows) t (loaded_start A p t s f ht)) r small enough limit

-- the same of what a call answers at a width
pub answer_unlimited : (w : ℕ) (p : Problem) (most : ℕ) (answer : Result End SolveFault) (t : Tableau) → ended answer t ≡ replay (at_width w) p most →
    most_bases (length p.rows) (length p.target) ≤ 4096 → most_bases (length p.rows) (length p.target) ≤ most → answer ≡ Err PivotLimit → ⊥
answer_unlimited w p most answer t h small enough limit =
    replay_unlimited (at_width w) p most (record { answer = Err PivotLimit; table = t }) (at_width_sound w) (at_width_faithful w)
    (ap (λ answer. ended answer t) (sym limit) ∙ h) small enough refl
