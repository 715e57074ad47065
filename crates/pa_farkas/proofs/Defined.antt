-- What the definitions answer is true of the rows, also where no call has computed it, and their faults are at the task that
-- was asked for: never want of memory, and never at the spot where costs are made.
use Rattle.std.proofs.Common.{◌≡◌, refl, sym, ap, ◌∙◌, subst, ℕ, ◌≤◌, List, [], ◌∷◌, length, replicate, All, Option, Some, None, Result, Ok, Err, IfOk, IfErr}
use Rattle.std.proofs.Common.{Bool, true, false, cond, map, arith}
use Rattle.std.proofs.lemmas.Int.{ints}
use Rattle.std.proofs.lemmas.List.{length-replicate}
use Rattle.std.proofs.lemmas.List.Elements.{All-nil, All-cons, All-head, All-tail}
use Rattle.std.specs.declared.cmp.Ordering.{Ordering}
use lib.IntN.{ℤ, pos}
use lib.Signed.{◌<ℤ◌}
use Rattle.pa_math.specs.Answers.{and_then, given, told_as}
use Rattle.pa_math.proofs.Answers.{and_then_ok, ok_same}
use Rattle.pa_math.proofs.Divisors.{Divides_refl, Divides_trans}
use Rattle.pa_math.proofs.CommonMultiples.{lcm_ℤ_left, lcm_ℤ_right}
use Rattle.pa_frac.specs.declared.wide.Wide.{Wide}
use Rattle.pa_frac.specs.Width.{within}
use Rattle.pa_frac.proofs.Width.{within_ok}
use Rattle.pa_math.specs.Rational.{ℚ}
use Rattle.pa_math.specs.Divisors.{Divides, lcm_ℤ}
use Rattle.pa_tableau.specs.Arithmetic.{at_width}
use Rattle.pa_tableau.specs.Tableau.{Tableau}
use Rattle.pa_tableau.specs.declared.wide_at.WideAt.{WideAt}
use Rattle.pa_meaning.specs.Rows.{Row, Point}
use Rattle.pa_meaning.specs.Weights.{Weights}
use Rattle.pa_row.specs.declared.place.Task.{Task}
use Rattle.pa_row.specs.declared.place.Sub.{Sub}
use Rattle.pa_row.specs.declared.place.Sub.TheVariants.{Main, Base}
use Rattle.pa_row.specs.declared.place.Spot.{Spot}
use Rattle.pa_row.specs.declared.place.Spot.TheVariants as spot
use Rattle.pa_row.specs.declared.place.Halt.{Halt}
use Rattle.pa_row.specs.declared.place.Halt.TheVariants as halt
use Rattle.pa_row.specs.Fractions.{IsCommonMultiple, common_from, over_common, point_in, weights_in}
use Rattle.pa_row.specs.Sums.{covers_in, meets_in}
use Rattle.pa_row.proofs.CommonDenominators.{common_positive, over_numerators, over_length}
use Rattle.pa_replay.specs.declared.«end».End.{End}
use Rattle.pa_replay.specs.declared.«end».End.TheVariants as ends
use Rattle.pa_replay.specs.declared.«end».SolveFault.{SolveFault}
use Rattle.pa_replay.specs.Problem.{Problem}
use Rattle.pa_replay.specs.Readings.{LeastRead, direction_answer, endless_answer, least_answer, numbers_in, point_read, value_read, weights_read}
use Rattle.pa_replay.specs.Replay.{Ended, replay}
use Rattle.pa_replay.specs.Shown.{ShowsLeast, ShowsNoWeights}
use Rattle.pa_bland.specs.declared.answer.Answer.{Answer}
use Rattle.pa_bland.specs.declared.answer.Answer.TheVariants.{Least, NoWeights, Endless}
use Rattle.pa_bland.specs.declared.answer.SolveError.{SolveError}
use Rattle.pa_bland.specs.declared.answer.SolveError.TheVariants as errors
use Rattle.pa_bland.specs.declared.answer.Spot.{Spot as SolveSpot}
use Rattle.pa_bland.specs.declared.answer.Spot.TheVariants as spots
use Rattle.pa_bland.specs.Answered.{Shows, answer_of, answer_read, at_cell, at_read}
use Rattle.pa_bland.proofs.Meant.{read_shows}
use Rattle.pa_replay.proofs.KeptSigns.{replay_signs}
use Rattle.pa_replay.proofs.Solved.{width_solved}
use Rattle.pa_farkas.specs.Alternatives.{IsCover, IsVerdict, IsFeasibility, ShowsImplied, ShowsUnmet, BreaksAt, IsMetAt}
use Rattle.pa_farkas.specs.Seen.{IsCompared, IsFound, IsPointOf, IsAwayFrom}
use Rattle.pa_farkas.specs.declared.implication.Verdict.{Verdict}
use Rattle.pa_farkas.specs.declared.implication.Verdict.TheVariants.{Yes, Empty, No}
use Rattle.pa_farkas.specs.declared.base.Feasibility.{Feasibility}
use Rattle.pa_farkas.specs.declared.base.Feasibility.TheVariants as feasible
use Rattle.pa_farkas.specs.Answered as spec
use Rattle.pa_farkas.proofs.Comparisons.{compared_meant}
use Rattle.pa_farkas.proofs.PivotsFit.{cell_pivot}
use Rattle.pa_farkas.proofs.Walks.{away_is}
use Rattle.pa_farkas.proofs.Shown.{of_row, of_zeros, least_beyond, least_implies, endless_unmet, base_columns, base_met, base_unmet}
use Rattle.pa_farkas.proofs.Shown.{base_has_weights, base_breaks, least_covers, least_uncovers, endless_covers, none_covers}

-- ---- what holds of the answer and of the refusal of a chain of steps
pub record Holds {A E : Type 0} (P : A → Type 0) (Q : E → Type 0) (r : Result A E) : Type 0 where
  pub ok : IfOk r P
  pub err : IfErr r Q

module _ {E : Type 0} (Q : E → Type 0) where
  pub then : {A B : Type 0} (P : B → Type 0) (r : Result A E) (next : A → Result B E) → IfErr r Q → ((a : A) → r ≡ Ok a → Holds P Q (next a))
      → Holds P Q (and_then r next)
  then P (Ok a) next h k = k a refl
  then P (Err e) next h k = record { ok = tt; err = h }

  pub told : {A F : Type 0} (tell : F → E) (r : Result A F) → ((e : F) → r ≡ Err e → Q (tell e)) → IfErr (told_as tell r) Q
  told tell (Ok a) h = tt
  told tell (Err e) h = h e refl

  pub answered : {A : Type 0} (P : A → Type 0) (a : A) → P a → Holds P Q (Ok a)
  answered P a p = record { ok = p; err = tt }

pub told_ok : {A E F : Type 0} (tell : E → F) (r : Result A E) (a : A) → told_as tell r ≡ Ok a → r ≡ Ok a
told_ok tell (Ok x) a h = ap Ok (ok_same x a h)
told_ok tell (Err e) a h = absurd (cc)

-- ---- what is read at the least end
-- each fraction has a positive denominator
abbrev pub HasDenominators : List (ℤ × ℤ) → Type 0
HasDenominators fs = All (λ (f : ℤ × ℤ). pos 0 <ℤ f.1) fs

abbrev pub HasAll : Answer → Type 0
HasAll (Least a) = HasDenominators a.point
HasAll (NoWeights d) = Unit {0}
HasAll (Endless a) = Unit {0}

-- a common denominator is positive, and each denominator divides it
record IsCommon (q : ℤ) (fs : List (ℤ × ℤ)) (r : ℤ) : Type 0 where
  positive : pos 0 <ℤ r
  before : Divides q r
  multiple : IsCommonMultiple fs r

common_is : (q : ℤ) (fs : List (ℤ × ℤ)) (r : ℤ) → pos 0 <ℤ q → HasDenominators fs → Ok r ≡ common_from q fs → IsCommon q fs r
common_is q [] r up h e = subst (IsCommon q []) (sym (ok_same r q e))
    (record { positive = up; before = Divides_refl q; multiple = All-nil (λ (f : ℤ × ℤ). Divides f.1 q) })
common_is q (f ∷ fs) r up h e =
    let (m, is, rest) = and_then_ok (within 126 (lcm_ℤ q f.1)) (λ next. common_from next fs) r e in
    let same : m ≡ lcm_ℤ q f.1 = (within_ok 126 m (lcm_ℤ q f.1) is).1 in
    let grown = common_is m fs r (common_positive q f.1 m up (All-head (λ (f : ℤ × ℤ). pos 0 <ℤ f.1) f fs h) (sym is))
    (All-tail (λ (f : ℤ × ℤ). pos 0 <ℤ f.1) f fs h) rest in
    record {
      positive = grown.positive;
      before = Divides_trans (subst (Divides q) (sym same) (lcm_ℤ_left q f.1)) grown.before;
      multiple = All-cons (λ (f : ℤ × ℤ). Divides f.1 r) f fs (Divides_trans (subst (Divides f.1) (sym same) (lcm_ℤ_right q f.1)) grown.before)
          grown.multiple;
    }

pub point_of : (a : LeastRead) → HasDenominators a.point → (x : Point) → point_in a.point ≡ Ok x → IsPointOf a x
point_of a dens x h =
    let (q, common, rest) = and_then_ok (common_from (pos 1) a.point) (λ q. and_then (over_common q a.point) (λ ns. Ok (record { p = ns; q = q }))) x (sym h) in
    let (ns, numerators, is) = and_then_ok (over_common q a.point) (λ ns. Ok (record { p = ns; q = q })) x rest in
    let grown = common_is (pos 1) a.point q (omega (arith, ints)) dens common in
    let over = (over_numerators q a.point ns grown.multiple (sym numerators)).over in
    subst (IsPointOf a) (sym (ok_same x (record { p = ns; q = q }) is))
    (record { positive = grown.positive; over = over; columns = over_length q a.point ns over })

found_is : (row : Row) (a : LeastRead) → pos 0 <ℤ a.value.1 → HasDenominators a.point → (found : Option Point) → spec.point_above row a ≡ Ok found
    → IsFound row a found
found_is row a up dens found h =
    let (order, compared, rest) = and_then_ok (spec.compared_in row a)
    (λ order. cond (spec.is_above order) (and_then (point_in a.point) (λ x. Ok (Some x))) (Ok None)) found (sym h) in
    let meant : IsCompared row a order = compared_meant row a (Ok order) up compared in
    by order meant (spec.is_above order) refl rest
  where
    by : (order : Ordering) → IsCompared row a order → (above : Bool) → spec.is_above order ≡ above
        → Ok found ≡ cond above (and_then (point_in a.point) (λ x. Ok (Some x))) (Ok None) → IsFound row a found
    by order meant false low h = subst (IsFound row a) (sym (ok_same found None h)) (meant.within low)
    by order meant true high h =
        let (x, point, is) = and_then_ok (point_in a.point) (λ x. Ok (Some x)) found h in
        subst (IsFound row a) (sym (ok_same found (Some x) is)) (meant.beyond high, point_of a dens x (sym point))

-- ---- the answer to a problem
-- what is read is told as it is, and nothing of it is want of memory
never_memory : {X : Type 0} (make : X → Answer) (r : Result X Wide) → told_as at_read (and_then r (λ read. Ok (make read))) ≡ Err errors.Memory → ⊥
never_memory make (Ok x) h = cc
never_memory make (Err wide) h = cc

-- the rows have the target's columns
abbrev AreOver : Problem → Type 0
AreOver p = All (λ (r : Row). length r.c ≡ length p.target) p.rows

zeros_over : (n : ℕ) (rows : List Row) → All (λ (r : Row). length r.c ≡ n) rows → AreOver (of_zeros rows n)
zeros_over n rows columns = subst (λ k. All (λ (r : Row). length r.c ≡ k) rows) (sym (length-replicate n (pos 0))) columns

module _ (p : Problem) where
  abbrev read_at : Result End SolveFault → Tableau → Result Answer SolveError
  read_at answer t = answer_read (length p.target) (length p.rows) answer t

  read_no_memory : (answer : Result End SolveFault) (t : Tableau) → read_at answer t ≡ Err errors.Memory → ⊥
  read_no_memory (Ok ends.Least) t h = never_memory Least (least_answer (length p.target) (length p.rows) t) h
  read_no_memory (Ok ends.NoWeights) t h = never_memory NoWeights (direction_answer (length p.target) (length p.rows) t) h
  read_no_memory (Ok (ends.Endless c)) t h = never_memory Endless (endless_answer (length p.target) (length p.rows) c t) h
  read_no_memory (Err fault) t h = cc

  abbrev answer_by : Result Ended WideAt → Result Answer SolveError
  answer_by run = and_then (told_as at_cell run) (λ ended. read_at ended.answer ended.table)

  no_memory_by : (run : Result Ended WideAt) → answer_by run ≡ Err errors.Memory → ⊥
  no_memory_by (Ok ended) h = read_no_memory ended.answer ended.table h
  no_memory_by (Err wide) h = cc

  answer_no_memory : (w most : ℕ) → answer_of (at_width w) p most ≡ Err errors.Memory → ⊥
  answer_no_memory w most h = no_memory_by (replay (at_width w) p most) h

  module _ (w most : ℕ) (a : Answer) where
    ended_shows : AreOver p → (answer : Result End SolveFault) (t : Tableau) → Ok (record { answer = answer; table = t }) ≡ replay (at_width w) p most
        → read_at answer t ≡ Ok a → Shows p a
    ended_shows columns answer t is h =
        let stop : Ended = record { answer = answer; table = t } in
        read_shows p answer stop a columns (width_solved w p most stop is) (replay_signs (at_width w) p most stop is) refl h

    shows_by : AreOver p → (run : Result Ended WideAt) → run ≡ replay (at_width w) p most → answer_by run ≡ Ok a → Shows p a
    shows_by columns (Ok ended) is h = ended_shows columns ended.answer ended.table is h
    shows_by columns (Err wide) is h = absurd (cc)

    numbers_positive : (qs : List ℚ) → HasDenominators (map numbers_in qs)
    numbers_positive [] = All-nil (λ (f : ℤ × ℤ). pos 0 <ℤ f.1)
    numbers_positive (q ∷ qs) = All-cons (λ (f : ℤ × ℤ). pos 0 <ℤ f.1) (numbers_in q) (map numbers_in qs) (omega (arith, ints)) (numbers_positive qs)

    made_has : {X : Type 0} (make : X → Answer) → ((x : X) → HasAll (make x)) → (r : Result X Wide)
        → told_as at_read (and_then r (λ read. Ok (make read))) ≡ Ok a → HasAll a
    made_has make h (Ok x) is = subst HasAll (ok_same (make x) a is) (h x)
    made_has make h (Err wide) is = absurd (cc)

    least_has : (t : Tableau) → told_as at_read (and_then (least_answer (length p.target) (length p.rows) t) (λ read. Ok (Least read))) ≡ Ok a → HasAll a
    least_has t is = by (weights_in (weights_read (length p.target) (length p.rows) t)) is
      where
        by : (r : Result Weights Wide) → told_as at_read (and_then (and_then r (λ weights. Ok (record {
          weights = weights;
          point = map numbers_in (point_read (length p.target) (length p.rows) t);
          value = numbers_in (value_read (length p.target) (length p.rows) t);
        }))) (λ read. Ok (Least read))) ≡ Ok a → HasAll a
        by (Ok weights) is = subst HasAll (ok_same _ a is) (numbers_positive (point_read (length p.target) (length p.rows) t))
        by (Err wide) is = absurd (cc)

    read_has : (answer : Result End SolveFault) (t : Tableau) → read_at answer t ≡ Ok a → HasAll a
    read_has (Ok ends.Least) t is = least_has t is
    read_has (Ok ends.NoWeights) t is = made_has NoWeights (λ x. tt) (direction_answer (length p.target) (length p.rows) t) is
    read_has (Ok (ends.Endless c)) t is = made_has Endless (λ x. tt) (endless_answer (length p.target) (length p.rows) c t) is
    read_has (Err fault) t is = absurd (cc)

    has_by : (run : Result Ended WideAt) → answer_by run ≡ Ok a → HasAll a
    has_by (Ok ended) is = read_has ended.answer ended.table is
    has_by (Err wide) is = absurd (cc)

    pub answer_has : answer_of (at_width w) p most ≡ Ok a → HasAll a
    answer_has h = has_by (replay (at_width w) p most) h

    pub answer_shows : AreOver p → answer_of (at_width w) p most ≡ Ok a → Shows p a
    answer_shows columns h = shows_by columns (replay (at_width w) p most) refl h

-- ---- faults
-- a spot of a problem, whose pivots are at most this many, or of a check
abbrev pub IsSolved : ℕ → Spot → Type 0
IsSolved most spot.Load = ⊥
IsSolved most (spot.Pivot pivot row column) = pivot ≤ most
IsSolved most spot.Read = Unit {0}
IsSolved most spot.Check = Unit {0}

-- the fault has this task, and its spot is not where costs are made
abbrev pub IsOf : ℕ → Task → Halt → Type 0
IsOf most t halt.Memory = ⊥
IsOf most t (halt.PivotLimit p) = p.task ≡ t
IsOf most t (halt.Wide p) = (p.task ≡ t) × IsSolved most p.spot

-- the same at the problem with the task's own target
abbrev pub IsMainOf : ℕ → Task → Halt → Type 0
IsMainOf most t halt.Memory = ⊥
IsMainOf most t (halt.PivotLimit p) = (p.task ≡ t) × (p.sub ≡ Main)
IsMainOf most t (halt.Wide p) = (p.task ≡ t) × (p.sub ≡ Main) × IsSolved most p.spot

module _ (most : ℕ) (t : Task) where
  solved_spot : (p : Problem) (s : SolveSpot) → answer_of (at_width 126) p most ≡ Err (errors.Wide s) → IsSolved most (spec.spot_of s)
  solved_spot p (spots.Cell at) is = cell_pivot (at_width 126) p most at is
  solved_spot p spots.Read is = tt

  problem_fault : (sub : Sub) (p : Problem) (e : SolveError) → answer_of (at_width 126) p most ≡ Err e → IsOf most t (spec.halt_of t sub e)
  problem_fault sub p errors.Memory is = answer_no_memory p 126 most is
  problem_fault sub p errors.PivotLimit is = refl
  problem_fault sub p (errors.Wide s) is = (refl, solved_spot p s is)

  pub problem_faults : (sub : Sub) (rows : List Row) (target : List ℤ) → IfErr (spec.solved_for t sub rows target most) (IsOf most t)
  problem_faults sub rows target =
      told (IsOf most t) (spec.halt_of t sub) _ (problem_fault sub (record { rows = rows; target = target }))

  pub wide_faults : {A : Type 0} (sub : Sub) (s : Spot) (r : Result A Wide) → IsSolved most s → IfErr (told_as (spec.wide_in t sub s) r) (IsOf most t)
  wide_faults sub s r solved = told (IsOf most t) (spec.wide_in t sub s) r (λ e is. (refl, solved))

  main_fault : (p : Problem) (e : SolveError) → answer_of (at_width 126) p most ≡ Err e → IsMainOf most t (spec.halt_of t Main e)
  main_fault p errors.Memory is = answer_no_memory p 126 most is
  main_fault p errors.PivotLimit is = (refl, refl)
  main_fault p (errors.Wide s) is = (refl, refl, solved_spot p s is)

  main_faults : (rows : List Row) (target : List ℤ) → IfErr (spec.solved_for t Main rows target most) (IsMainOf most t)
  main_faults rows target = told (IsMainOf most t) (spec.halt_of t Main) _ (main_fault (record { rows = rows; target = target }))

  main_wide : {A : Type 0} (s : Spot) (r : Result A Wide) → IsSolved most s → IfErr (told_as (spec.wide_in t Main s) r) (IsMainOf most t)
  main_wide s r solved = told (IsMainOf most t) (spec.wide_in t Main s) r (λ e is. (refl, refl, solved))

  module _ {A : Type 0} (P : A → Type 0) where
    -- what is checked and then handed on
    checked : {W : Type 0} (sub : Sub) (r : Result Bool Wide) (w : W) (next : W → Result A Halt) → Holds P (IsOf most t) (next w)
        → Holds P (IsOf most t) (and_then (told_as (spec.wide_in t sub spot.Check) (and_then r (λ shown. Ok w))) next)
    checked sub (Ok shown) w next h = h
    checked sub (Err e) w next h = record { ok = tt; err = (refl, tt) }

  pub solved_shows : (sub : Sub) (p : Problem) → AreOver p → (a : Answer) → spec.solved_for t sub p.rows p.target most ≡ Ok a → Shows p a
  solved_shows sub p columns a is =
      answer_shows p 126 most a columns (told_ok (spec.halt_of t sub) (answer_of (at_width 126) p most) a is)

  pub solved_has : (sub : Sub) (p : Problem) (a : Answer) → spec.solved_for t sub p.rows p.target most ≡ Ok a → HasAll a
  solved_has sub p a is = answer_has p 126 most a (told_ok (spec.halt_of t sub) (answer_of (at_width 126) p most) a is)

  abbrev pub IsAnswer : (rows : List Row) (row : Row) → Result Verdict Halt → Type 0
  IsAnswer rows row r = Holds (IsVerdict rows row) (IsOf most t) r

  -- ---- of a row that is asked about
  module _ (rows : List Row) (row : Row) (columns : All (λ (r : Row). length r.c ≡ length row.c) rows) where
    yes_is : (w : Weights) → ShowsImplied rows row w → IsAnswer rows row (spec.yes_of rows row t w)
    yes_is w h = checked (IsVerdict rows row) Main _ w (λ w. Ok (Yes w)) (answered (IsOf most t) (IsVerdict rows row) (Yes w) h)

    empty_is : (sub : Sub) (w : Weights) → ShowsUnmet (length row.c) rows w → IsAnswer rows row (spec.empty_of rows row t sub w)
    empty_is sub w h = checked (IsVerdict rows row) sub _ w (λ w. Ok (Empty w)) (answered (IsOf most t) (IsVerdict rows row) (Empty w) h)

    no_is : (sub : Sub) (x : Point) → BreaksAt rows row x → IsAnswer rows row (spec.no_of rows row t sub x)
    no_is sub x h = by (spec.tested_in x rows)
      where
        last : (r : Result Bool Wide) → IsAnswer rows row
            (and_then (and_then (Ok x) (λ x. told_as (spec.wide_in t sub spot.Check) (and_then r (λ met. Ok x)))) (λ x. Ok (No x)))
        last (Ok met) = answered (IsOf most t) (IsVerdict rows row) (No x) h
        last (Err e) = record { ok = tt; err = (refl, tt) }

        by : (r : Result Bool Wide) → IsAnswer rows row
            (and_then (and_then (told_as (spec.wide_in t sub spot.Check) (and_then r (λ met. Ok x)))
            (λ x. told_as (spec.wide_in t sub spot.Check) (and_then (meets_in row x) (λ met. Ok x)))) (λ x. Ok (No x)))
        by (Ok met) = last (meets_in row x)
        by (Err e) = record { ok = tt; err = (refl, tt) }

    least_is : (a : LeastRead) → ShowsLeast (of_row rows row) a → HasDenominators a.point → IsAnswer rows row (spec.by_value rows row t a)
    least_is a s dens =
        then (IsOf most t) (IsVerdict rows row) (told_as (spec.wide_in t Main spot.Read) (spec.point_above row a)) _
        (wide_faults Main spot.Read (spec.point_above row a) tt)
        (λ found is. by found (found_is row a s.positive dens found (told_ok (spec.wide_in t Main spot.Read) (spec.point_above row a) found is)))
      where
        by : (found : Option Point) → IsFound row a found → IsAnswer rows row (given (spec.yes_of rows row t a.weights) found (spec.no_of rows row t Main))
        by None low = yes_is a.weights (least_implies rows row a s low)
        by (Some x) (beyond, is) = no_is Main x (least_beyond rows row a x s beyond is)

    -- where no weights make the row
    base_is : (d : List ℤ) → ShowsNoWeights (of_row rows row) d → (a : Answer) → Shows (of_zeros rows (length row.c)) a → HasAll a
        → IsAnswer rows row (spec.by_base rows row t d a)
    base_is d stuck (Least a) s dens =
        then (IsOf most t) (IsVerdict rows row)
        (told_as (spec.wide_in t Base spot.Read) (and_then (point_in a.point) (λ x. spec.away_in row x d))) _
        (wide_faults Base spot.Read (and_then (point_in a.point) (λ x. spec.away_in row x d)) tt)
        (λ y is. no_is Base y (base_breaks rows row a d y s stuck
        (away_from a s dens y (told_ok (spec.wide_in t Base spot.Read) (and_then (point_in a.point) (λ x. spec.away_in row x d)) y is))))
      where
        away_from : (a : LeastRead) → ShowsLeast (of_zeros rows (length row.c)) a → HasDenominators a.point → (y : Point)
            → and_then (point_in a.point) (λ x. spec.away_in row x d) ≡ Ok y → IsAwayFrom row a d y
        away_from a s dens y is =
            let (x, point, away) = and_then_ok (point_in a.point) (λ x. spec.away_in row x d) y (sym is) in
            let of = point_of a dens x (sym point) in
            let columns = of.columns ∙ base_columns rows (length row.c) a s in
            (x, of, away_is row x d y of.positive (columns ∙ sym stuck.columns) stuck.sticks.rises away)
    base_is d stuck (Endless a) s dens = empty_is Base a.ray (base_unmet rows (length row.c) a s)
    base_is d stuck (NoWeights none) s dens = absurd (base_has_weights rows (length row.c) none s)

    main_is : (a : Answer) → Shows (of_row rows row) a → HasAll a
        → IsAnswer rows row (spec.by_main rows row most t a)
    main_is (Least a) s dens = least_is a s dens
    main_is (Endless a) s dens = empty_is Main a.ray (endless_unmet (of_row rows row) a s)
    main_is (NoWeights d) s dens =
        then (IsOf most t) (IsVerdict rows row) (spec.solved_for t Base rows (replicate (length row.c) (pos 0)) most) _
        (problem_faults Base rows (replicate (length row.c) (pos 0)))
        (λ a is.
        base_is d s a (solved_shows Base (of_zeros rows (length row.c)) (zeros_over (length row.c) rows columns) a is)
        (solved_has Base (of_zeros rows (length row.c)) a is))

    pub implied_is : IsAnswer rows row (spec.implied_of rows row most t)
    implied_is =
        then (IsOf most t) (IsVerdict rows row) (spec.solved_for t Main rows row.c most) _ (problem_faults Main rows row.c)
        (λ a is. main_is a (solved_shows Main (of_row rows row) columns a is) (solved_has Main (of_row rows row) a is))

    -- ---- which weights cover it
    abbrev Covers : Result (Option Weights) Halt → Type 0
    Covers r = Holds (IsCover rows row) (IsMainOf most t) r

    cover_is : (w : Weights) → IsCover rows row (Some w) → Covers (spec.found_of rows row t w)
    cover_is w h = by (covers_in rows row w)
      where
        by : (r : Result Bool Wide) → Covers (and_then (told_as (spec.wide_in t Main spot.Check) (and_then r (λ shown. Ok w))) (λ w. Ok (Some w)))
        by (Ok shown) = record { ok = h; err = tt }
        by (Err e) = record { ok = tt; err = (refl, refl, tt) }

    least_cover : (a : LeastRead) → ShowsLeast (of_row rows row) a → Covers (spec.covered_by rows row t (Least a))
    least_cover a s =
        then (IsMainOf most t) (IsCover rows row) (told_as (spec.wide_in t Main spot.Read) (spec.compared_in row a)) _
        (main_wide spot.Read (spec.compared_in row a) tt)
        (λ order is. by order (compared_meant row a (Ok order) s.positive (sym (told_ok (spec.wide_in t Main spot.Read) (spec.compared_in row a) order is))))
      where
        by : (order : Ordering) → IsCompared row a order → Covers (cond (spec.is_above order) (Ok None) (spec.found_of rows row t a.weights))
        by order meant = above (spec.is_above order) refl
          where
            above : (b : Bool) → spec.is_above order ≡ b → Covers (cond b (Ok None) (spec.found_of rows row t a.weights))
            above true high = record { ok = least_uncovers rows row a order s meant high; err = tt }
            above false low = cover_is a.weights (least_covers rows row a order s meant low)

    cover_by : (a : Answer) → Shows (of_row rows row) a → Covers (spec.covered_by rows row t a)
    cover_by (Least a) s = least_cover a s
    cover_by (Endless a) s = cover_is a.ray (endless_covers rows row a s)
    cover_by (NoWeights d) s = record { ok = none_covers rows row d s; err = tt }

    pub covered_is : Covers (spec.covered_of rows row most t)
    covered_is =
        then (IsMainOf most t) (IsCover rows row) (spec.solved_for t Main rows row.c most) _ (main_faults rows row.c)
        (λ a is. cover_by a (solved_shows Main (of_row rows row) columns a is))

  -- ---- of rows alone
  module _ (n : ℕ) (rows : List Row) where
    abbrev pub IsPoint : Result Feasibility Halt → Type 0
    IsPoint r = Holds (IsFeasibility n rows) (IsOf most t) r

    point_is : (x : Point) → IsMetAt n rows x → IsPoint (and_then (spec.point_checked rows t Base x) (λ x. Ok (feasible.Point x)))
    point_is x h = checked (IsFeasibility n rows) Base (spec.tested_in x rows) x (λ x. Ok (feasible.Point x))
        (answered (IsOf most t) (IsFeasibility n rows) (feasible.Point x) h)

    by_is : (a : Answer) → Shows (of_zeros rows n) a → HasAll a → IsPoint (spec.feasible_by n rows t a)
    by_is (Least a) s dens =
        then (IsOf most t) (IsFeasibility n rows) (told_as (spec.wide_in t Base spot.Read) (point_in a.point)) _
        (wide_faults Base spot.Read (point_in a.point) tt)
        (λ x is. point_is x (base_met rows n a x s (point_of a dens x (told_ok (spec.wide_in t Base spot.Read) (point_in a.point) x is))))
    by_is (Endless a) s dens = checked (IsFeasibility n rows) Base _ a.ray (λ w. Ok (feasible.Empty w))
        (answered (IsOf most t) (IsFeasibility n rows) (feasible.Empty a.ray) (base_unmet rows n a s))
    by_is (NoWeights none) s dens = absurd (base_has_weights rows n none s)

    pub feasible_is : All (λ (r : Row). length r.c ≡ n) rows → IsPoint (spec.feasible_of n rows most t)
    feasible_is columns =
        then (IsOf most t) (IsFeasibility n rows) (spec.solved_for t Base rows (replicate n (pos 0)) most) _
        (problem_faults Base rows (replicate n (pos 0)))
        (λ a is. by_is a (solved_shows Base (of_zeros rows n) (zeros_over n rows columns) a is) (solved_has Base (of_zeros rows n) a is))
