-- The simplex method in two phases, with Bland's rule for the columns (R. G. Bland, New finite pivoting rules for the simplex method,
-- 1977). It is one run over an arithmetic that may refuse an operation: where the run stops, or the first refusal.
use Rattle.std.specs.Prelude.{ℕ, zero, suc, ◌+◌, pos, int_lt, length, Bool, true, false, not, Option}
use Rattle.std.specs.Prelude.{None, Some, Result, Ok, Err, if◌then◌else◌, nat_lt, is_some}
use Rattle.std.specs.List.{slice_index_or}
use Rattle.std.specs.declared.cmp.Ordering.{Ordering}
use Rattle.std.specs.declared.cmp.Ordering.TheVariants.{Less, Equal, Greater}
use Rattle.pa_math.specs.Answers.{and_then, given}
use Rattle.pa_math.specs.Rational.{ℚ}
use Rattle.pa_frac.specs.declared.wide.Wide.{Wide}
use Rattle.pa_frac.specs.Operations.{is_zero}
use Rattle.pa_tableau.specs.declared.wide_at.WideAt.{WideAt}
use Rattle.pa_tableau.specs.Arithmetic.{Arithmetic}
use Rattle.pa_tableau.specs.Tableau.{Tableau, cell, told_at, pivoted}
use Rattle.pa_replay.specs.declared.«end».End.{End}
use Rattle.pa_replay.specs.declared.«end».End.TheVariants.{Least, NoWeights, Endless}
use Rattle.pa_replay.specs.declared.«end».SolveFault.{SolveFault}
use Rattle.pa_replay.specs.declared.«end».SolveFault.TheVariants.{PivotLimit, Wide as WideFault}
use Rattle.pa_replay.specs.declared.next.Next.{Next}
use Rattle.pa_replay.specs.declared.next.Next.TheVariants.{Settled, Falls, Enters}
use Rattle.pa_replay.specs.Problem.{Problem, loaded}

abbrev pub is_negative : ℚ → Bool
is_negative q = int_lt q.num (pos 0)

abbrev pub is_positive : ℚ → Bool
is_positive q = int_lt (pos 0) q.num

-- the first place with a property among n places from place i on
abbrev pub first_from : (ℕ → Bool) → ℕ → ℕ → Option ℕ
first_from p i zero = None
first_from p i (suc n) = if p i then Some i else first_from p (suc i) n

-- ---- one pivot of a phase; there are n lines and m columns of their own
-- the entering column: the first one that is negative in the cost row
abbrev pub entering : ℕ → ℕ → Tableau → Option ℕ
entering m cost t = first_from (λ j. is_negative (cell t cost j)) 0 m

-- some line has a positive cell in the column
abbrev pub can_leave : ℕ → ℕ → Tableau → Bool
can_leave n c t = is_some (first_from (λ i. is_positive (cell t i c)) 0 n)

-- a line with its ratio of value to cell
abbrev pub Candidate : Type 0
Candidate = ℕ × ℚ

-- the lesser ratio comes first, and among equal ones the lesser basic column
abbrev pub comes_first : Ordering → ℕ → ℕ → Bool
comes_first Less basic other = true
comes_first Equal basic other = nat_lt basic other
comes_first Greater basic other = false

-- the basic column of a line
abbrev pub basic : Tableau → ℕ → ℕ
basic t i = slice_index_or t.basis i 0

-- the better one of the best line so far and another line
abbrev pub better : Arithmetic → Tableau → Option Candidate → ℕ → ℚ → Result (Option Candidate) Wide
better A t None i ratio = Ok (Some (i, ratio))
better A t (Some best) i ratio =
    and_then (A.comparison ratio best.1) (λ order. Ok (Some (if comes_first order (basic t i) (basic t best.0) then (i, ratio) else best)))

-- the ratio test on one line, which takes part where its cell in the column is positive. The operations have the place of a column
-- behind the value column.
abbrev pub tested : Arithmetic → ℕ → ℕ → ℕ → Tableau → ℕ → Option Candidate → Result (Option Candidate) WideAt
tested A pivot value c t i best =
    if is_positive (cell t i c) then told_at pivot i (suc value) (and_then (A.quotient (cell t i value) (cell t i c)) (better A t best i))
    else Ok best

-- the ratio test on k lines from line i on
abbrev pub leaving_from : Arithmetic → ℕ → ℕ → ℕ → Tableau → ℕ → ℕ → Option Candidate → Result (Option Candidate) WideAt
leaving_from A pivot value c t i zero best = Ok best
leaving_from A pivot value c t i (suc k) best = and_then (tested A pivot value c t i best) (leaving_from A pivot value c t (suc i) k)

-- the pivot on the entering column
abbrev pub entered : Arithmetic → ℕ → ℕ → ℕ → ℕ → Tableau → Result Tableau WideAt
entered A pivot n m c t = and_then (leaving_from A pivot (n + m) c t 0 n None) (λ best. given (Ok t) best (λ best. pivoted A pivot best.0 c t))

-- ---- the phases
-- what comes next: nothing, a column that lowers the cost without end, or a pivot on a column
abbrev pub next_in : ℕ → ℕ → ℕ → Tableau → Next
next_in n m cost t = given Settled (entering m cost t) (λ c. if can_leave n c t then Enters c else Falls c)

abbrev pub entering_column : Next → Option ℕ
entering_column Settled = None
entering_column (Falls c) = None
entering_column (Enters c) = Some c

-- where a part of the run stops: how many pivots were made and may still be made, the tableau, and what would come next
pub record Stop : Type 0 where
  pub made : ℕ
  pub left : ℕ
  pub table : Tableau
  pub next : Next

-- a phase by a cost row, with `left` pivots to make at most
abbrev pub phase : Arithmetic → ℕ → ℕ → ℕ → ℕ → ℕ → Tableau → Result Stop WideAt
phase A n m cost made zero t = Ok (record { made = made; left = 0; table = t; next = next_in n m cost t })
phase A n m cost made (suc left) t =
    given (Ok (record { made = made; left = suc left; table = t; next = next_in n m cost t })) (entering_column (next_in n m cost t)) (λ c.
    and_then (entered A (suc made) n m c t) (λ u. phase A n m cost (suc made) left u))

-- the column on which an artificial column is driven out of a line: the first one with a cell other than 0
abbrev pub driven : ℕ → ℕ → Tableau → Option ℕ
driven m i t = if nat_lt (basic t i) m then None else first_from (λ j. not (is_zero (cell t i j))) 0 m

-- one of n pivots is made, or none is left
abbrev pub by_left : {R : Type 0} → ℕ → R → (ℕ → R) → R
by_left zero none made = none
by_left (suc n) none made = made n

-- the artificial columns are driven out of k lines from line i on
abbrev pub driven_out : Arithmetic → ℕ → ℕ → ℕ → ℕ → ℕ → Tableau → Result Stop WideAt
driven_out A m i zero made left t = Ok (record { made = made; left = left; table = t; next = Settled })
driven_out A m i (suc k) made left t =
    given (driven_out A m (suc i) k made left t) (driven m i t) (λ c.
    by_left left (Ok (record { made = made; left = 0; table = t; next = Enters c })) (λ left.
    and_then (pivoted A (suc made) i c t) (λ u. driven_out A m (suc i) k (suc made) left u)))

-- ---- the run
-- where the run stops: its end, or the limit of pivots
pub record Ended : Type 0 where
  pub answer : Result End SolveFault
  pub table : Tableau

-- where the run stops, as an answer and a tableau tell it
abbrev pub ended : Result End SolveFault → Tableau → Result Ended WideAt
ended (Ok answer) t = Ok (record { answer = Ok answer; table = t })
ended (Err PivotLimit) t = Ok (record { answer = Err PivotLimit; table = t })
ended (Err (WideFault wide)) t = Err wide

abbrev pub second_answer : Next → Result End SolveFault
second_answer Settled = Ok Least
second_answer (Falls c) = Ok (Endless c)
second_answer (Enters c) = Err PivotLimit

-- phase 2, after the artificial columns were driven out
abbrev pub second_phase : Arithmetic → ℕ → ℕ → Stop → Result Ended WideAt
second_phase A n m stop =
    given (and_then (phase A n m (n + 1) stop.made stop.left stop.table) (λ stop. Ok (record { answer = second_answer stop.next; table = stop.table })))
    (entering_column stop.next) (λ c. Ok (record { answer = Err PivotLimit; table = stop.table }))

-- from the end of phase 1 on
abbrev pub after_first : Arithmetic → ℕ → ℕ → Stop → Result Ended WideAt
after_first A n m stop =
    given
    (if is_zero (cell stop.table n (n + m)) then and_then (driven_out A m 0 n stop.made stop.left stop.table) (second_phase A n m)
    else Ok (record { answer = Ok NoWeights; table = stop.table }))
    (entering_column stop.next) (λ c. Ok (record { answer = Err PivotLimit; table = stop.table }))

-- the run from a loaded tableau on
abbrev pub run_from : Arithmetic → ℕ → ℕ → ℕ → Tableau → Result Ended WideAt
run_from A n m most t = and_then (phase A n m n 0 most t) (after_first A n m)

-- the run on a problem, with at most this many pivots
abbrev pub replay : Arithmetic → Problem → ℕ → Result Ended WideAt
replay A p most = and_then (loaded A p) (run_from A (length p.target) (length p.rows) most)
