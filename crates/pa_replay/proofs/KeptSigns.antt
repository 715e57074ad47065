-- A run keeps the signs of the lines.
use Rattle.std.proofs.Common.{◌≡◌, ℕ, zero, suc, ◌+◌, Bool, true, false, if◌then◌else◌, length, get_or, Option, Some, None, Ok, Err, ap, ◌∙◌, zero-add}
use Rattle.std.proofs.lemmas.List.FromFn.{get_or-map-range_with_len}
use Rattle.pa_math.specs.Answers.{and_then, given}
use Rattle.pa_frac.specs.Operations.{is_zero}
use Rattle.pa_row.proofs.Dots.{and_then_ok, ok_same}
use Rattle.pa_tableau.specs.Arithmetic.{Arithmetic}
use Rattle.pa_tableau.specs.Tableau.{Tableau, cell, lines_pivoted, pivoted}
use Rattle.std.specs.List.{slice_set}
use Rattle.pa_replay.specs.declared.«end».End.TheVariants.{NoWeights}
use Rattle.pa_replay.specs.declared.«end».SolveFault.TheVariants.{PivotLimit}
use Rattle.pa_replay.specs.declared.next.Next.TheVariants.{Settled, Enters}
use Rattle.pa_replay.specs.Problem.{Problem, is_turned, loaded}
use Rattle.pa_replay.specs.Replay.{Candidate, Ended, Stop, after_first, by_left, driven, driven_out, entered, entering_column}
use Rattle.pa_replay.specs.Replay.{leaving_from, next_in, phase, replay, run_from, second_answer, second_phase}
use Rattle.pa_replay.proofs.LoadedFacts.{IsLoaded, loaded_parts}
use Rattle.pa_replay.proofs.WholePoints.{HasSigns}

pivot_signs : (A : Arithmetic) (pivot l c : ℕ) (t u : Tableau) → Ok u ≡ pivoted A pivot l c t → u.turned ≡ t.turned
pivot_signs A pivot l c t u h =
    let (lines, some, made) = and_then_ok (lines_pivoted A pivot l c t.lines) (λ lines. Ok (record t { lines = lines; basis = slice_set t.basis l c })) u h in
    ap (λ (t : Tableau). t.turned) (ok_same u (record t { lines = lines; basis = slice_set t.basis l c }) made)

entered_signs : (A : Arithmetic) (pivot n m c : ℕ) (t u : Tableau) → Ok u ≡ entered A pivot n m c t → u.turned ≡ t.turned
entered_signs A pivot n m c t u h =
    let (best, some, made) = and_then_ok (leaving_from A pivot (n + m) c t 0 n None) (λ best. given (Ok t) best (λ best. pivoted A pivot best.0 c t)) u h in
    by_best best made
  where
    by_best : (best : Option Candidate) → Ok u ≡ given (Ok t) best (λ best. pivoted A pivot best.0 c t) → u.turned ≡ t.turned
    by_best None e = ap (λ (t : Tableau). t.turned) (ok_same u t e)
    by_best (Some best) e = pivot_signs A pivot best.0 c t u e

phase_signs : (A : Arithmetic) (n m cost made left : ℕ) (t : Tableau) (stop : Stop) → Ok stop ≡ phase A n m cost made left t → stop.table.turned ≡ t.turned
phase_signs A n m cost made zero t stop h = ap (λ (s : Stop). s.table.turned)
    (ok_same stop (record { made = made; left = 0; table = t; next = next_in n m cost t }) h)
phase_signs A n m cost made (suc left) t stop h = by_column (entering_column (next_in n m cost t)) h (λ u. phase_signs A n m cost (suc made) left u stop)
  where
    by_column : (o : Option ℕ) → Ok stop ≡ given (Ok (record { made = made; left = suc left; table = t; next = next_in n m cost t })) o
        (λ c. and_then (entered A (suc made) n m c t) (λ u. phase A n m cost (suc made) left u)) →
        ((u : Tableau) → Ok stop ≡ phase A n m cost (suc made) left u → stop.table.turned ≡ u.turned) → stop.table.turned ≡ t.turned
    by_column None e more = ap (λ (s : Stop). s.table.turned) (ok_same stop (record { made = made; left = suc left; table = t; next = next_in n m cost t }) e)
    by_column (Some c) e more =
        let (u, first, rest) = and_then_ok (entered A (suc made) n m c t) (λ u. phase A n m cost (suc made) left u) stop e in
        more u rest ∙ entered_signs A (suc made) n m c t u first

drive_signs : (A : Arithmetic) (m i k made left : ℕ) (t : Tableau) (stop : Stop) → Ok stop ≡ driven_out A m i k made left t → stop.table.turned ≡ t.turned
drive_signs A m i zero made left t stop h = ap (λ (s : Stop). s.table.turned) (ok_same stop (record { made = made; left = left; table = t; next = Settled }) h)
drive_signs A m i (suc k) made left t stop h = by_column (driven m i t) h (λ made left u. drive_signs A m (suc i) k made left u stop)
  where
    by_pivots : (c left : ℕ) → ((made left : ℕ) (u : Tableau) → Ok stop ≡ driven_out A m (suc i) k made left u → stop.table.turned ≡ u.turned) →
        Ok stop ≡ by_left left (Ok (record { made = made; left = 0; table = t; next = Enters c }))
        (λ left. and_then (pivoted A (suc made) i c t) (λ u. driven_out A m (suc i) k (suc made) left u)) →
        stop.table.turned ≡ t.turned
    by_pivots c zero more e = ap (λ (s : Stop). s.table.turned) (ok_same stop (record { made = made; left = 0; table = t; next = Enters c }) e)
    by_pivots c (suc left) more e =
        let (u, first, rest) = and_then_ok (pivoted A (suc made) i c t) (λ u. driven_out A m (suc i) k (suc made) left u) stop e in
        more (suc made) left u rest ∙ pivot_signs A (suc made) i c t u first

    by_column : (o : Option ℕ) → Ok stop ≡ given (driven_out A m (suc i) k made left t) o
        (λ c. by_left left (Ok (record { made = made; left = 0; table = t; next = Enters c }))
        (λ left. and_then (pivoted A (suc made) i c t) (λ u. driven_out A m (suc i) k (suc made) left u))) →
        ((made left : ℕ) (u : Tableau) → Ok stop ≡ driven_out A m (suc i) k made left u → stop.table.turned ≡ u.turned) → stop.table.turned ≡ t.turned
    by_column None e more = more made left t e
    by_column (Some c) e more = by_pivots c left more e

second_signs : (A : Arithmetic) (n m : ℕ) (stop : Stop) (ended : Ended) → Ok ended ≡ second_phase A n m stop → ended.table.turned ≡ stop.table.turned
second_signs A n m stop ended h = by_column (entering_column stop.next) h
  where
    by_column : (o : Option ℕ) → Ok ended ≡ given (and_then (phase A n m (n + 1) stop.made stop.left stop.table)
        (λ stop. Ok (record { answer = second_answer stop.next; table = stop.table }))) o
        (λ c. Ok (record { answer = Err PivotLimit; table = stop.table })) → ended.table.turned ≡ stop.table.turned
    by_column None e =
        let (last, first, made) = and_then_ok (phase A n m (n + 1) stop.made stop.left stop.table)
        (λ stop. Ok (record { answer = second_answer stop.next; table = stop.table })) ended e in
        ap (λ (e : Ended). e.table.turned) (ok_same ended (record { answer = second_answer last.next; table = last.table }) made)
        ∙ phase_signs A n m (n + 1) stop.made stop.left stop.table last first
    by_column (Some c) e = ap (λ (e : Ended). e.table.turned) (ok_same ended (record { answer = Err PivotLimit; table = stop.table }) e)

first_signs : (A : Arithmetic) (n m : ℕ) (stop : Stop) (ended : Ended) → Ok ended ≡ after_first A n m stop → ended.table.turned ≡ stop.table.turned
first_signs A n m stop ended h = by_column (entering_column stop.next) h
  where
    by_test : (b : Bool) → Ok ended ≡ (if b then and_then (driven_out A m 0 n stop.made stop.left stop.table) (second_phase A n m) else Ok
        (record { answer = Ok NoWeights; table = stop.table })) →
        ended.table.turned ≡ stop.table.turned
    by_test true e =
        let (second, first, rest) = and_then_ok (driven_out A m 0 n stop.made stop.left stop.table) (second_phase A n m) ended e in
        second_signs A n m second ended rest ∙ drive_signs A m 0 n stop.made stop.left stop.table second first
    by_test false e = ap (λ (e : Ended). e.table.turned) (ok_same ended (record { answer = Ok NoWeights; table = stop.table }) e)

    by_column : (o : Option ℕ) → Ok ended ≡ given (if is_zero (cell stop.table n (n + m)) then and_then (driven_out A m 0 n stop.made stop.left stop.table)
        (second_phase A n m) else Ok (record { answer = Ok NoWeights; table = stop.table })) o
        (λ c. Ok (record { answer = Err PivotLimit; table = stop.table })) → ended.table.turned ≡ stop.table.turned
    by_column None e = by_test (is_zero (cell stop.table n (n + m))) e
    by_column (Some c) e = ap (λ (e : Ended). e.table.turned) (ok_same ended (record { answer = Err PivotLimit; table = stop.table }) e)

-- where a replay stops, the signs are those of the problem
pub replay_signs : (A : Arithmetic) (p : Problem) (most : ℕ) (ended : Ended) → Ok ended ≡ replay A p most → HasSigns p ended.table
replay_signs A p most ended h k low =
    let n : ℕ = length p.target in
    let m : ℕ = length p.rows in
    let (start, start_is, rest) = and_then_ok (loaded A p) (run_from A n m most) ended h in
    let (stop, first, last) = and_then_ok (phase A n m n 0 most start) (after_first A n m) ended rest in
    let parts : IsLoaded A p start = loaded_parts A p start start_is in
    ap (λ turned. get_or turned k false) (first_signs A n m stop ended last ∙ phase_signs A n m n 0 most start stop first
    ∙ ap (λ (t : Tableau). t.turned) parts.table)
    ∙ get_or-map-range_with_len (is_turned p.target) 0 n k k false low (zero-add k)
