-- A replay without a width is never refused.
use Rattle.std.proofs.Common.{◌≡◌, ◌==◌, ℕ, zero, suc, ◌+◌, List, [], ◌∷◌, Bool, true, false, if◌then◌else◌}
use Rattle.std.proofs.Common.{Option, Some, None, Result, Ok, Err, refl, subst, pos, ℤ, length}
use Rattle.std.specs.List.{range_with_len}
use Rattle.pa_math.specs.Answers.{and_then, given}
use Rattle.pa_math.specs.Rational.{ℚ, whole, ◌/ℚ◌, ◌+ℚ◌}
use Rattle.pa_frac.specs.declared.wide.Wide.{Wide}
use Rattle.pa_frac.specs.Operations.{is_zero}
use Rattle.pa_tableau.specs.declared.wide_at.WideAt.{WideAt}
use Rattle.pa_tableau.specs.Arithmetic.{exact, each}
use Rattle.pa_tableau.specs.Tableau.{Tableau, number_at, line_at, cell, told_at, divided, other_reduced, reduced, lines_pivoted, pivoted}
use Rattle.pa_replay.specs.Problem.{Problem, bounds, line_numbers, loaded_numbers, loaded_line, running_sum, cost_in, first_costs, loaded}
use Rattle.pa_replay.specs.declared.next.Next.TheVariants.{Enters}
use Rattle.pa_replay.specs.declared.«end».End.TheVariants.{NoWeights}
use Rattle.pa_replay.specs.declared.«end».SolveFault.TheVariants.{PivotLimit}
use Rattle.pa_replay.specs.Replay.{Candidate, Stop, Ended, by_left, driven, driven_out, is_positive, next_in, entering_column, tested}
use Rattle.pa_replay.specs.Replay.{better, leaving_from, entered, phase, second_answer, second_phase, after_first, run_from, replay}

-- it gives something
abbrev pub Gives : {A E : Type 0} → Result A E → Type 0
Gives {A} r = (x : A) × (Ok x ≡ r)

gives_then : {A B E : Type 0} (r : Result A E) (f : A → Result B E) → Gives r → ((x : A) → Gives (f x)) → Gives (and_then r f)
gives_then {A} {B} {E} r f (x, e) h = subst (λ (r : Result A E). Gives (and_then r f)) e (h x)

told_gives : {A : Type 0} (pivot row column : ℕ) (r : Result A Wide) → Gives r → Gives (told_at pivot row column r)
told_gives {A} pivot row column r (x, e) = subst (λ (r : Result A Wide). Gives (told_at pivot row column r)) e (x, refl)

each_gives : {A B E : Type 0} (step : ℕ → A → Result B E) → ((i : ℕ) (x : A) → Gives (step i x)) → (i : ℕ) (xs : List A) → Gives (each step i xs)
each_gives step h i [] = ([], refl)
each_gives {A} {B} {E} step h i (x ∷ xs) =
    gives_then (step i x) (λ y. and_then (each step (suc i) xs) (λ ys. Ok (y ∷ ys))) (h i x)
    (λ y. gives_then (each step (suc i) xs) (λ ys. Ok (y ∷ ys)) (each_gives step h (suc i) xs) (λ ys. (y ∷ ys, refl)))

line_gives : (pivot l c : ℕ) (ps : List ℚ) (i : ℕ) (line : List ℚ) → Gives (other_reduced exact pivot l c ps i line)
line_gives pivot l c ps i line =
    elim (i == l) as (λ b. Gives (if b then Ok line else each (λ j x. told_at pivot i j (reduced exact x (number_at line c) (number_at ps j))) 0 line))
    [ true ↦ (line, refl) | false ↦ each_gives (λ j x. told_at pivot i j (reduced exact x (number_at line c) (number_at ps j))) (λ j x. (_, refl)) 0 line ]

pivoted_gives : (pivot l c : ℕ) (t : Tableau) → Gives (pivoted exact pivot l c t)
pivoted_gives pivot l c t =
    gives_then (lines_pivoted exact pivot l c t.lines) (λ lines. Ok _)
    (gives_then (divided exact pivot l (cell t l c) (line_at t l)) _
    (each_gives (λ j x. told_at pivot l j (exact.quotient x (cell t l c))) (λ j x. (_, refl)) 0 (line_at t l))
    (λ ps. each_gives (other_reduced exact pivot l c ps) (line_gives pivot l c ps) 0 _))
    (λ lines. (_, refl))

tested_gives : (pivot value c : ℕ) (t : Tableau) (i : ℕ) (best : Option Candidate) → Gives (tested exact pivot value c t i best)
tested_gives pivot value c t i best =
    elim (is_positive (cell t i c)) as (λ b. Gives (if b then told_at pivot i (suc value) (better exact t best i (cell t i value /ℚ cell t i c)) else Ok best))
    [ true ↦ told_gives pivot i (suc value) _ (by_best best (cell t i value /ℚ cell t i c)) | false ↦ (best, refl) ]
  where
    by_best : (best : Option Candidate) (r : ℚ) → Gives (better exact t best i r)
    by_best None r = (_, refl)
    by_best (Some best) r = (_, refl)

leaving_gives : (pivot value c : ℕ) (t : Tableau) (i k : ℕ) (best : Option Candidate) → Gives (leaving_from exact pivot value c t i k best)
leaving_gives pivot value c t i zero best = (best, refl)
leaving_gives pivot value c t i (suc k) best =
    gives_then (tested exact pivot value c t i best) (leaving_from exact pivot value c t (suc i) k) (tested_gives pivot value c t i best)
    (leaving_gives pivot value c t (suc i) k)

entered_gives : (pivot n m c : ℕ) (t : Tableau) → Gives (entered exact pivot n m c t)
entered_gives pivot n m c t =
    gives_then (leaving_from exact pivot (n + m) c t 0 n None) (λ best. given (Ok t) best (λ best. pivoted exact pivot best.0 c t))
    (leaving_gives pivot (n + m) c t 0 n None) by_best
  where
    by_best : (best : Option Candidate) → Gives (given (Ok t) best (λ best. pivoted exact pivot best.0 c t))
    by_best None = (t, refl)
    by_best (Some best) = pivoted_gives pivot best.0 c t

phase_gives : (n m q made left : ℕ) (t : Tableau) → Gives (phase exact n m q made left t)
phase_gives n m q made zero t = (_, refl)
phase_gives n m q made (suc left) t = by_column (entering_column (next_in n m q t)) (λ u. phase_gives n m q (suc made) left u)
  where
    by_column : (o : Option ℕ) → ((u : Tableau) → Gives (phase exact n m q (suc made) left u))
        → Gives (given (Ok (record { made = made; left = suc left; table = t; next = next_in n m q t })) o
        (λ c. and_then (entered exact (suc made) n m c t) (λ u. phase exact n m q (suc made) left u)))
    by_column None more = (_, refl)
    by_column (Some c) more = gives_then (entered exact (suc made) n m c t) (λ u. phase exact n m q (suc made) left u) (entered_gives (suc made) n m c t) more

driven_gives : (m i k made left : ℕ) (t : Tableau) → Gives (driven_out exact m i k made left t)
driven_gives m i zero made left t = (_, refl)
driven_gives m i (suc k) made left t = by_column (driven m i t) (driven_gives m (suc i) k made left t) (λ left u. driven_gives m (suc i) k (suc made) left u)
  where
    by_spare : (left c : ℕ) → ((left : ℕ) (u : Tableau) → Gives (driven_out exact m (suc i) k (suc made) left u))
        → Gives (by_left left (Ok (record { made = made; left = 0; table = t; next = Enters c }))
        (λ left. and_then (pivoted exact (suc made) i c t) (λ u. driven_out exact m (suc i) k (suc made) left u)))
    by_spare zero c more = (_, refl)
    by_spare (suc left) c more =
        gives_then (pivoted exact (suc made) i c t) (λ u. driven_out exact m (suc i) k (suc made) left u) (pivoted_gives (suc made) i c t) (more left)

    by_column : (o : Option ℕ) → Gives (driven_out exact m (suc i) k made left t)
        → ((left : ℕ) (u : Tableau) → Gives (driven_out exact m (suc i) k (suc made) left u))
        → Gives (given (driven_out exact m (suc i) k made left t) o
        (λ c. by_left left (Ok (record { made = made; left = 0; table = t; next = Enters c }))
        (λ left. and_then (pivoted exact (suc made) i c t) (λ u. driven_out exact m (suc i) k (suc made) left u))))
    by_column None alone more = alone
    by_column (Some c) alone more = by_spare left c more

second_gives : (n m : ℕ) (stop : Stop) → Gives (second_phase exact n m stop)
second_gives n m stop = by_column (entering_column stop.next)
  where
    by_column : (o : Option ℕ)
        → Gives {A = Ended} {E = WideAt}
        (given (and_then (phase exact n m (n + 1) stop.made stop.left stop.table)
        (λ stop. Ok (record { answer = second_answer stop.next; table = stop.table }))) o
        (λ c. Ok (record { answer = Err PivotLimit; table = stop.table })))
    by_column None =
        gives_then (phase exact n m (n + 1) stop.made stop.left stop.table) _ (phase_gives n m (n + 1) stop.made stop.left stop.table) (λ stop. (_, refl))
    by_column (Some c) = (_, refl)

-- the run from a loaded tableau gives an end, or the limit
pub run_gives_end : (n m most : ℕ) (t : Tableau) → Gives (run_from exact n m most t)
run_gives_end n m most t = gives_then (phase exact n m n 0 most t) (after_first exact n m) (phase_gives n m n 0 most t) after
  where
    by_value : (stop : Stop) (b : Bool)
        → Gives {A = Ended} {E = WideAt}
        (if b then and_then (driven_out exact m 0 n stop.made stop.left stop.table) (second_phase exact n m)
        else Ok (record { answer = Ok NoWeights; table = stop.table }))
    by_value stop true =
        gives_then (driven_out exact m 0 n stop.made stop.left stop.table) (second_phase exact n m) (driven_gives m 0 n stop.made stop.left stop.table)
        (second_gives n m)
    by_value stop false = (_, refl)

    by_column : (stop : Stop) (o : Option ℕ)
        → Gives {A = Ended} {E = WideAt}
        (given (if is_zero (cell stop.table n (n + m)) then and_then (driven_out exact m 0 n stop.made stop.left stop.table) (second_phase exact n m)
        else Ok (record { answer = Ok NoWeights; table = stop.table })) o
        (λ c. Ok (record { answer = Err PivotLimit; table = stop.table })))
    by_column stop None = by_value stop (is_zero (cell stop.table n (n + m)))
    by_column stop (Some c) = (_, refl)

    after : (stop : Stop) → Gives (after_first exact n m stop)
    after stop = by_column stop (entering_column stop.next)

-- ---- the load
numbers_give : (row : ℕ) (numbers : List ℤ) → Gives (loaded_numbers exact row numbers)
numbers_give row numbers = each_gives (λ j z. told_at 0 row j (exact.fraction (whole z))) (λ j z. (_, refl)) 0 numbers

loaded_line_gives : (p : Problem) (i : ℕ) → Gives (loaded_line exact p i)
loaded_line_gives p i = gives_then (loaded_numbers exact i (line_numbers p i)) _ (numbers_give i (line_numbers p i)) (λ own. (_, refl))

sum_gives : (row column : ℕ) (sum : ℚ) (lines : List (List ℚ)) → Gives (running_sum exact row column sum lines)
sum_gives row column sum [] = (sum, refl)
sum_gives row column sum (line ∷ lines) = sum_gives row column (sum +ℚ number_at line column) lines

cost_gives : (n : ℕ) (lines : List (List ℚ)) (j : ℕ) → Gives (cost_in exact n lines j)
cost_gives n lines j = gives_then (running_sum exact n j (whole (pos 0)) lines) _ (sum_gives n j (whole (pos 0)) lines) (λ sum. (_, refl))

costs_give : (n m : ℕ) (lines : List (List ℚ)) → Gives (first_costs exact n m lines)
costs_give n m lines =
    gives_then (each (λ i j. cost_in exact n lines j) 0 (range_with_len 0 m)) _
    (each_gives (λ i j. cost_in exact n lines j) (λ i j. cost_gives n lines j) 0 (range_with_len 0 m))
    (λ own. gives_then (cost_in exact n lines (n + m)) _ (cost_gives n lines (n + m)) (λ value. (_, refl)))

loaded_gives : (p : Problem) → Gives (loaded exact p)
loaded_gives p =
    gives_then (each (λ i row. loaded_line exact p i) 0 (range_with_len 0 (length p.target))) _
    (each_gives (λ i row. loaded_line exact p i) (λ i row. loaded_line_gives p i) 0 (range_with_len 0 (length p.target)))
    (λ lines. gives_then (loaded_numbers exact (length p.target + 1) (bounds p)) _ (numbers_give (length p.target + 1) (bounds p))
    (λ costs. gives_then (first_costs exact (length p.target) (length p.rows) lines) _ (costs_give (length p.target) (length p.rows) lines)
    (λ first. (_, refl))))

-- A replay without a width is never refused.
pub replay_gives_end : (p : Problem) (most : ℕ) → Gives (replay exact p most)
replay_gives_end p most =
    gives_then (loaded exact p) (run_from exact (length p.target) (length p.rows) most) (loaded_gives p) (run_gives_end (length p.target) (length p.rows) most)
