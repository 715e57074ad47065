-- The pivots of a run, one after another.
use Rattle.std.proofs.Common.{◌≡◌, ℕ, zero, suc, ◌<◌, ◌≤◌, ◌+◌, ◌⊎◌, inl, inr, Bool, true, false, if◌then◌else◌, Option, Some}
use Rattle.std.proofs.Common.{None, Result, Ok, Err, get_or, refl, sym, ap, subst, ◌∙◌, arith, pos, is_some, [], ◌∷◌}
use Rattle.std.proofs.lemmas.List.{get_or-set_same, get_or-set_other}
use Rattle.pa_math.specs.Answers.{and_then, given}
use Rattle.pa_math.specs.Rational.{ℚ, whole, reciprocal}
use Rattle.pa_math.specs.RationalOrder.{◌≤ℚ◌, ◌<ℚ◌}
use Rattle.pa_math.proofs.RationalOrders.{≤ℚ_antisym}
use Rattle.pa_math.proofs.Reciprocals.{nonzero_from_positive, reciprocal_positive}
use Rattle.pa_math.proofs.RationalTactics.{by_equations, null, ◌⋆◌, ◌·◌, weak, reads}
use Rattle.pa_frac.specs.Operations.{is_zero}
use Rattle.pa_frac.proofs.Signs.{nonzero_test}
use Rattle.pa_row.proofs.Dots.{and_then_ok, ok_same}
use Rattle.pa_tableau.specs.declared.wide_at.WideAt.{WideAt}
use Rattle.pa_tableau.specs.Arithmetic.{Arithmetic}
use Rattle.pa_tableau.specs.Tableau.{Tableau, cell, pivoted}
use Rattle.pa_replay.specs.declared.next.Next.{Next}
use Rattle.pa_replay.specs.declared.next.Next.TheVariants.{Settled, Falls, Enters}
use Rattle.pa_replay.specs.declared.«end».End.{End}
use Rattle.pa_replay.specs.declared.«end».End.TheVariants.{NoWeights}
use Rattle.pa_replay.specs.declared.«end».SolveFault.{SolveFault}
use Rattle.pa_replay.specs.declared.«end».SolveFault.TheVariants.{PivotLimit}
use Rattle.pa_replay.specs.Replay.{Ended, second_answer, second_phase, after_first, run_from, Candidate, Stop, basic, by_left, driven, driven_out}
use Rattle.pa_replay.specs.Replay.{first_from, is_negative, is_positive, entering, can_leave, next_in, entering_column, leaving_from, entered, phase}
use Rattle.pa_replay.proofs.Bridges.{IsSound, cells_of, pivot_of_cells, pivoted_parts}
use Rattle.pa_replay.proofs.Kept.{IsReached}
use Rattle.pa_replay.proofs.Ratios.{ratio, IsBest, IsBestSoFar, leaving_best}
use Rattle.pa_replay.proofs.Runs.{IsFeasible, first_present, positive_sign, sign_positive, not_negative_sign, enters_inside, entered_feasible, phase_feasible}
use Rattle.pa_replay.proofs.Never.{negative_sign}
use Rattle.pa_replay.proofs.Theorems.{HoldsProblem}
use Rattle.pa_replay.proofs.Clean.{IsClean, artificial_zero, drive_clean}
use Rattle.pa_replay.proofs.Second.{left_alone, driven_at, driven_clean, entered_clean}
use Rattle.pa_replay.proofs.Ties.{IsFirst, leaving_first}
use Rattle.pa_replay.proofs.Cycles.{IsTurn, IsBland}

-- ---- one pivot of the lists
-- no place before the first one has the property
first_before : (p : ℕ → Bool) (i n c : ℕ) → first_from p i n ≡ Some c → (j : ℕ) → i ≤ j → j < c → p j ≡ false
first_before p i zero c h j le low = absurd (cc h)
first_before p i (suc n) c h j le low = by_test (p i) refl h (λ e more. first_before p (suc i) n c e j more low) (start_or_more i j le)
  where
    start_or_more : (i j : ℕ) → i ≤ j → (i ≡ j) ⊎ (suc i ≤ j)
    start_or_more i j h = search arith

    by_test : (b : Bool) → p i ≡ b → (if b then Some i else first_from p (suc i) n) ≡ Some c → (first_from p (suc i) n ≡ Some c → suc i ≤ j → p j ≡ false)
        → (i ≡ j) ⊎ (suc i ≤ j) → p j ≡ false
    by_test true e h rest place = absurd (let same : i ≡ c = cc h in omega (arith, same, le, low))
    by_test false e h rest (inl same) = subst (λ j. p j ≡ false) same e
    by_test false e h rest (inr more) = rest h more

-- what is known where a column enters
pub record EntersAt (n m q c : ℕ) (t : Tableau) : Type 0 where
  pub column : c < m
  pub falls : is_negative (cell t q c) ≡ true
  pub first : (j : ℕ) → j < c → is_negative (cell t q j) ≡ false
  pub leaves : can_leave n c t ≡ true

pub enters_there : (n m q c : ℕ) (t : Tableau) → next_in n m q t ≡ Enters c → EntersAt n m q c t
enters_there n m q c t h = by_column (entering m q t) refl h
  where
    by_leave : (b : Bool) (j : ℕ) → can_leave n j t ≡ b → (j < m) × (is_negative (cell t q j) ≡ true) × ((i : ℕ) → i < j → is_negative (cell t q i) ≡ false)
        → (if b then Enters j else Falls j) ≡ Enters c → EntersAt n m q c t
    by_leave true j e (low, down, before) k =
        let same : j ≡ c = cc k in
        subst (λ c. EntersAt n m q c t) same (record { column = low; falls = down; first = before; leaves = e })
    by_leave false j e known k = absurd (cc k)

    by_column : (o : Option ℕ) → entering m q t ≡ o → given Settled o (λ c. if can_leave n c t then Enters c else Falls c) ≡ Enters c → EntersAt n m q c t
    by_column None e k = absurd (cc k)
    by_column (Some j) e k =
        let (low, down) = first_present (λ j. is_negative (cell t q j)) 0 m j e in
        by_leave (can_leave n j t) j refl (omega (arith, low), down, λ i before. first_before (λ j. is_negative (cell t q j)) 0 m j e i (omega arith) before) k

-- a pivot of the lists as one of cells and basic columns
pub turn_of : (A : Arithmetic) (n m pivot l c : ℕ) (loaded t u : Tableau) → IsSound A → IsReached n m (n + m + 1) loaded t → l < n → c < m
    → is_zero (cell t l c) ≡ false → Ok u ≡ pivoted A pivot l c t → IsTurn n m (cells_of t) (cells_of u) (basic t) (basic u) l c
turn_of A n m pivot l c loaded t u s r low column nonzero h =
    let parts = pivoted_parts A pivot l c t u h in
    record {
      pivot = pivot_of_cells A pivot l c (n + m + 1) t u s r.rectangle (omega (arith, low, r.count)) nonzero h;
      line = low;
      column = column;
      here = ap (λ b. get_or b l 0) parts.basis ∙ get_or-set_same t.basis l c 0 (omega (arith, low, r.basis));
      there = λ k d. ap (λ b. get_or b k 0) parts.basis ∙ get_or-set_other t.basis l k c 0 d;
    }

-- a pivot of a phase
pub entered_turn : (A : Arithmetic) (pivot n m q c : ℕ) (loaded t u : Tableau) → IsSound A → IsFeasible n m loaded t → next_in n m q t ≡ Enters c
    → Ok u ≡ entered A pivot n m c t → (l : ℕ) × IsTurn n m (cells_of t) (cells_of u) (basic t) (basic u) l c × IsBland n (n + m) q (cells_of t) (basic t) l c
entered_turn A pivot n m q c loaded t u s f next h =
    let known = enters_there n m q c t next in
    let (best, first, made) = and_then_ok (leaving_from A pivot (n + m) c t 0 n None) (λ best. given (Ok t) best (λ best. pivoted A pivot best.0 c t)) u h in
    by_best best known
    (subst (λ k. IsBestSoFar t (n + m) c k best) (zero_plus n) (leaving_best A pivot (n + m) c t 0 n None best s first (λ k low. absurd (omega arith))))
    (subst (λ k. IsFirst t (n + m) c k best) (zero_plus n) (leaving_first A pivot (n + m) c t 0 n None best s first (λ k low. absurd (omega arith)) tt)) made
  where
    zero_plus : (n : ℕ) → 0 + n ≡ n
    zero_plus n = omega arith

    none_leaves : ((k : ℕ) → k < n → is_positive (cell t k c) ≡ false) → (o : Option ℕ) → first_from (λ i. is_positive (cell t i c)) 0 n ≡ o → is_some o ≡ true
        → ⊥
    none_leaves none None e k = cc k
    none_leaves none (Some i) e k =
        let (low, up) = first_present (λ i. is_positive (cell t i c)) 0 n i e in
        cc (sym up ∙ none i (omega (arith, low)))

    -- where the value is 0, the ratio is 0, and so the least one
    least_ratio : (best : Candidate) → IsBest t (n + m) c n best → whole (pos 0) <ℚ cell t best.0 c → (k : ℕ) → k < n → whole (pos 0) <ℚ cell t k c
        → cell t k (n + m) ≡ whole (pos 0) → ratio t (n + m) c k ≡ best.1
    least_ratio best b up k low more none =
        let is_zero_ratio : ratio t (n + m) c k ≡ whole (pos 0) =
        by_equations (cell t k (n + m) ∷ reciprocal (cell t k c) ∷ []) (reciprocal (cell t k c) ⋆ null none) (search reads depth 40) tt in
        let under : best.1 ≤ℚ ratio t (n + m) c k = b.least k low (sign_positive (cell t k c) more) in
        let over : whole (pos 0) ≤ℚ best.1 = subst (λ x. whole (pos 0) ≤ℚ x) (sym b.is) (f.values best.0 b.inside · weak (reciprocal_positive up)) in
        ≤ℚ_antisym (subst (λ x. x ≤ℚ best.1) (sym is_zero_ratio) over) under

    by_best : (best : Option Candidate) → EntersAt n m q c t → IsBestSoFar t (n + m) c n best → IsFirst t (n + m) c n best
        → Ok u ≡ given (Ok t) best (λ best. pivoted A pivot best.0 c t)
        → (l : ℕ) × IsTurn n m (cells_of t) (cells_of u) (basic t) (basic u) l c × IsBland n (n + m) q (cells_of t) (basic t) l c
    by_best None known b first k = absurd (none_leaves b (first_from (λ i. is_positive (cell t i c)) 0 n) refl known.leaves)
    by_best (Some best) known b first k =
        let up : whole (pos 0) <ℚ cell t best.0 c = positive_sign (cell t best.0 c) b.positive in
        let nonzero : is_zero (cell t best.0 c) ≡ false = nonzero_test (cell t best.0 c) (nonzero_from_positive up) in (
          best.0,
          turn_of A n m pivot best.0 c loaded t u s f.reached b.inside known.column nonzero k,
          record {
            falls = negative_sign (cell t q c) known.falls;
            first = λ j before. not_negative_sign (cell t q j) (known.first j before);
            up = up;
            least = λ i low more none. first i low (sign_positive (cell t i c) more) (least_ratio best b up i low more none);
          },
        )

-- ---- the pivots of a part of the run
-- A pivot of phase 1 (kind 0), of the drive-out (kind 1) or of phase 2 (kind 2).
pub record IsStep (n m kind : ℕ) (t u : Tableau) (l c : ℕ) : Type 0 where
  pub turn : IsTurn n m (cells_of t) (cells_of u) (basic t) (basic u) l c
  pub known : kind ≤ 2
  pub first : kind ≡ 0 → IsBland n (n + m) n (cells_of t) (basic t) l c
  pub driven : kind ≡ 1 → m ≤ basic t l
  pub second : kind ≡ 2 → IsBland n (n + m) (n + 1) (cells_of t) (basic t) l c × IsClean n m n u

-- The pivots of the run from t on, all of a kind of `least` or more, where `left` may be made. `most` gives the run from t on with any
-- other number of pivots that may be made.
pub record History (n m least left : ℕ) (loaded t : Tableau) (ended : Ended) (most : ℕ → Result Ended WideAt) : Type 0 where
  pub made : ℕ
  pub over : ℕ
  pub count : made + over ≡ left
  pub tables : ℕ → Tableau
  pub kinds : ℕ → ℕ
  pub lines : ℕ → ℕ
  pub columns : ℕ → ℕ
  pub starts : tables 0 ≡ t
  pub ends : tables made ≡ ended.table
  pub steps : (s : ℕ) → s < made → IsStep n m (kinds s) (tables s) (tables (suc s)) (lines s) (columns s)
  pub feasible : (s : ℕ) → s ≤ made → IsFeasible n m loaded (tables s)
  pub above : (s : ℕ) → s < made → least ≤ kinds s
  pub order : (s r : ℕ) → s < r → r < made → kinds s ≤ kinds r
  -- the limit comes only where all pivots were made
  pub limit : ended.answer ≡ Err PivotLimit → over ≡ 0
  -- with fewer pivots the limit comes, at the tableau after these
  pub limits : (s : ℕ) → s < made → most s ≡ Ok (record { answer = Err PivotLimit; table = tables s })
  -- where not all pivots were made, the run ends there with as many or more
  pub beyond : (over ≡ 0 → ⊥) → (x : ℕ) → most (made + x) ≡ Ok ended

-- no pivot may be made, though another is to come
pub halted : (n m least : ℕ) (loaded t : Tableau) (ended : Ended) (most : ℕ → Result Ended WideAt) → IsFeasible n m loaded t → ended.table ≡ t
    → History n m least 0 loaded t ended most
halted n m least loaded t ended most f e = record {
  made = 0;
  over = 0;
  count = refl;
  tables = λ s. t;
  kinds = λ s. 0;
  lines = λ s. 0;
  columns = λ s. 0;
  starts = refl;
  ends = sym e;
  steps = λ s low. absurd (omega (arith, low));
  feasible = λ s low. f;
  above = λ s low. absurd (omega (arith, low));
  order = λ s r less low. absurd (omega (arith, low));
  limit = λ e. refl;
  limits = λ s low. absurd (omega (arith, low));
  beyond = λ some. absurd (some refl);
}

-- no pivot is to come
pub finished : (n m least left : ℕ) (loaded t : Tableau) (ended : Ended) (most : ℕ → Result Ended WideAt) → IsFeasible n m loaded t → ended.table ≡ t
    → (ended.answer ≡ Err PivotLimit → ⊥) → ((x : ℕ) → most x ≡ Ok ended) → History n m least left loaded t ended most
finished n m least left loaded t ended most f e other same = record {
  made = 0;
  over = left;
  count = omega arith;
  tables = λ s. t;
  kinds = λ s. 0;
  lines = λ s. 0;
  columns = λ s. 0;
  starts = refl;
  ends = sym e;
  steps = λ s low. absurd (omega (arith, low));
  feasible = λ s low. f;
  above = λ s low. absurd (omega (arith, low));
  order = λ s r less low. absurd (omega (arith, low));
  limit = λ e. absurd (other e);
  limits = λ s low. absurd (omega (arith, low));
  beyond = λ some x. same (0 + x);
}

-- the same pivots, told in other words
pub weaker : (n m least more left : ℕ) (loaded t : Tableau) (ended : Ended) (most others : ℕ → Result Ended WideAt) → least ≤ more
    → ((x : ℕ) → others x ≡ most x) → History n m more left loaded t ended most → History n m least left loaded t ended others
weaker n m least more left loaded t ended most others le same h = record {
  made = h.made;
  over = h.over;
  count = h.count;
  tables = h.tables;
  kinds = h.kinds;
  lines = h.lines;
  columns = h.columns;
  starts = h.starts;
  ends = h.ends;
  steps = h.steps;
  feasible = h.feasible;
  above = λ s low. (let a = h.above s low in omega (arith, le, a));
  order = h.order;
  limit = h.limit;
  limits = λ s low. same s ∙ h.limits s low;
  beyond = λ some x. same (h.made + x) ∙ h.beyond some x;
}

abbrev prepend : {A : Type 0} → A → (ℕ → A) → ℕ → A
prepend x f zero = x
prepend x f (suc s) = f s

-- a pivot before others
pub one_more : (n m kind left l c : ℕ) (loaded t u : Tableau) (ended : Ended) (most others : ℕ → Result Ended WideAt) → IsFeasible n m loaded t
    → IsStep n m kind t u l c → others 0 ≡ Ok (record { answer = Err PivotLimit; table = t }) → ((x : ℕ) → others (suc x) ≡ most x)
    → History n m kind left loaded u ended most → History n m kind (suc left) loaded t ended others
one_more n m kind left l c loaded t u ended most others f step none same h = record {
  made = suc h.made;
  over = h.over;
  count = (let e = h.count in omega (arith, e));
  tables = prepend t h.tables;
  kinds = prepend kind h.kinds;
  lines = prepend l h.lines;
  columns = prepend c h.columns;
  starts = refl;
  ends = h.ends;
  steps = steps;
  feasible = feasible;
  above = above;
  order = order;
  limit = h.limit;
  limits = limits;
  beyond = λ some x. (let e : suc h.made + x ≡ suc (h.made + x) = omega arith in ap others e ∙ same (h.made + x) ∙ h.beyond some x);
}
  where
    steps : (s : ℕ) → s < suc h.made
        → IsStep n m (prepend kind h.kinds s) (prepend t h.tables s) (prepend t h.tables (suc s)) (prepend l h.lines s) (prepend c h.columns s)
    steps zero low = subst (λ (u : Tableau). IsStep n m kind t u l c) (sym h.starts) step
    steps (suc s) low = h.steps s (omega (arith, low))

    feasible : (s : ℕ) → s ≤ suc h.made → IsFeasible n m loaded (prepend t h.tables s)
    feasible zero low = f
    feasible (suc s) low = h.feasible s (omega (arith, low))

    above : (s : ℕ) → s < suc h.made → kind ≤ prepend kind h.kinds s
    above zero low = omega arith
    above (suc s) low = h.above s (omega (arith, low))

    order : (s r : ℕ) → s < r → r < suc h.made → prepend kind h.kinds s ≤ prepend kind h.kinds r
    order s zero less low = absurd (omega (arith, less))
    order zero (suc r) less low = h.above r (omega (arith, low))
    order (suc s) (suc r) less low = h.order s r (omega (arith, less)) (omega (arith, low))

    limits : (s : ℕ) → s < suc h.made → others s ≡ Ok (record { answer = Err PivotLimit; table = prepend t h.tables s })
    limits zero low = none
    limits (suc s) low = same s ∙ h.limits s (omega (arith, low))

-- ---- a phase
-- where no pivot is to come, a phase stops with any number of pivots that may be made
phase_settled : (A : Arithmetic) (n m q made : ℕ) (t : Tableau) (next : Next) → next_in n m q t ≡ next → entering_column next ≡ None → (x : ℕ) →
    phase A n m q made x t ≡ Ok (record { made = made; left = x; table = t; next = next })
phase_settled A n m q made t next e none zero = ap (λ next. Ok (record { made = made; left = 0; table = t; next = next })) e
phase_settled A n m q made t next e none (suc x) =
    ap (λ next. given (Ok (record { made = made; left = suc x; table = t; next = next })) (entering_column next)
    (λ c. and_then (entered A (suc made) n m c t) (λ u. phase A n m q (suc made) x u))) e
    ∙ ap (λ (o : Option ℕ). given (Ok (record { made = made; left = suc x; table = t; next = next })) o
    (λ c. and_then (entered A (suc made) n m c t) (λ u. phase A n m q (suc made) x u))) none

-- and else it goes on from the next tableau
phase_more : (A : Arithmetic) (n m q made c : ℕ) (t u : Tableau) → next_in n m q t ≡ Enters c → Ok u ≡ entered A (suc made) n m c t → (x : ℕ)
    → phase A n m q made (suc x) t ≡ phase A n m q (suc made) x u
phase_more A n m q made c t u e h x =
    ap (λ next. given (Ok (record { made = made; left = suc x; table = t; next = next })) (entering_column next)
    (λ c. and_then (entered A (suc made) n m c t) (λ u. phase A n m q (suc made) x u))) e
    ∙ ap (λ (r : Result Tableau WideAt). and_then r (λ u. phase A n m q (suc made) x u)) (sym h)

-- where a phase stops and no pivot is to come
phase_stands : (A : Arithmetic) (n m kind q made left : ℕ) (loaded t : Tableau) (ended : Ended) (stop : Stop) (next : Next) (rest : Stop → Result Ended WideAt)
    → next_in n m q t ≡ next → entering_column next ≡ None → stop ≡ record { made = made; left = left; table = t; next = next }
    → (entering_column stop.next ≡ None
    → History n m kind stop.left loaded stop.table ended (λ x. rest (record { made = stop.made; left = x; table = stop.table; next = stop.next })))
    → History n m kind left loaded t ended (λ x. and_then (phase A n m q made x t) rest)
phase_stands A n m kind q made left loaded t ended stop next rest is none e later =
    weaker n m kind kind left loaded t ended (λ x. rest (record { made = made; left = x; table = t; next = next }))
    (λ x. and_then (phase A n m q made x t) rest) (omega arith)
    (λ x. ap (λ (r : Result Stop WideAt). and_then r rest) (phase_settled A n m q made t next is none x))
    (subst (λ (stop : Stop). entering_column stop.next ≡ None
    → History n m kind stop.left loaded stop.table ended (λ x. rest (record { made = stop.made; left = x; table = stop.table; next = stop.next })))
    e later none)

-- The pivots of a phase, and those from where it stops on.
pub phase_history : (A : Arithmetic) (n m kind q made left : ℕ) (loaded t : Tableau) (ended : Ended) (stop : Stop) (rest : Stop → Result Ended WideAt)
    (Keeps : Tableau → Type 0)
    → ((made c : ℕ) (t : Tableau) → rest (record { made = made; left = 0; table = t; next = Enters c }) ≡ Ok (record { answer = Err PivotLimit; table = t }))
    → ((pivot c : ℕ) (t u : Tableau) → IsFeasible n m loaded t → Keeps t → next_in n m q t ≡ Enters c → Ok u ≡ entered A pivot n m c t
    → IsFeasible n m loaded u × Keeps u × (l : ℕ) × IsStep n m kind t u l c)
    → IsFeasible n m loaded t → Keeps t → Ok stop ≡ phase A n m q made left t → Ok ended ≡ rest stop
    → (entering_column stop.next ≡ None
    → History n m kind stop.left loaded stop.table ended (λ x. rest (record { made = stop.made; left = x; table = stop.table; next = stop.next })))
    → History n m kind left loaded t ended (λ x. and_then (phase A n m q made x t) rest)
phase_history A n m kind q made zero loaded t ended stop rest Keeps at_limit step f k h last later =
    by_next (next_in n m q t) refl (ok_same stop (record { made = made; left = 0; table = t; next = next_in n m q t }) h)
  where
    by_next : (next : Next) → next_in n m q t ≡ next → stop ≡ record { made = made; left = 0; table = t; next = next }
        → History n m kind 0 loaded t ended (λ x. and_then (phase A n m q made x t) rest)
    by_next Settled is e = phase_stands A n m kind q made 0 loaded t ended stop Settled rest is refl e later
    by_next (Falls c) is e = phase_stands A n m kind q made 0 loaded t ended stop (Falls c) rest is refl e later
    by_next (Enters c) is e =
        halted n m kind loaded t ended (λ x. and_then (phase A n m q made x t) rest) f
        (ap (λ (ended : Ended). ended.table) (ok_same ended (record { answer = Err PivotLimit; table = t }) (last ∙ ap rest e ∙ at_limit made c t)))
phase_history A n m kind q made (suc left) loaded t ended stop rest Keeps at_limit step f k h last later =
    by_next (next_in n m q t) refl h (λ u g d e. phase_history A n m kind q (suc made) left loaded u ended stop rest Keeps at_limit step g d e last later)
  where
    by_next : (next : Next) → next_in n m q t ≡ next
        → Ok stop
        ≡ given (Ok (record { made = made; left = suc left; table = t; next = next })) (entering_column next)
        (λ c. and_then (entered A (suc made) n m c t) (λ u. phase A n m q (suc made) left u))
        → ((u : Tableau) → IsFeasible n m loaded u → Keeps u → Ok stop ≡ phase A n m q (suc made) left u
        → History n m kind left loaded u ended (λ x. and_then (phase A n m q (suc made) x u) rest))
        → History n m kind (suc left) loaded t ended (λ x. and_then (phase A n m q made x t) rest)
    by_next Settled is e more = phase_stands A n m kind q made (suc left) loaded t ended stop Settled rest is refl (ok_same stop _ e) later
    by_next (Falls c) is e more = phase_stands A n m kind q made (suc left) loaded t ended stop (Falls c) rest is refl (ok_same stop _ e) later
    by_next (Enters c) is e more =
        let (u, first, others) = and_then_ok (entered A (suc made) n m c t) (λ u. phase A n m q (suc made) left u) stop e in
        let (g, d, l, taken) = step (suc made) c t u f k is first in
        one_more n m kind left l c loaded t u ended (λ x. and_then (phase A n m q (suc made) x u) rest) (λ x. and_then (phase A n m q made x t) rest) f taken
        (ap (λ next. rest (record { made = made; left = 0; table = t; next = next })) is ∙ at_limit made c t)
        (λ x. ap (λ (r : Result Stop WideAt). and_then r rest) (phase_more A n m q made c t u is first x)) (more u g d others)

-- phase 1
pub first_history : (A : Arithmetic) (n m made left : ℕ) (loaded t : Tableau) (ended : Ended) (stop : Stop) (rest : Stop → Result Ended WideAt)
    → ((made c : ℕ) (t : Tableau) → rest (record { made = made; left = 0; table = t; next = Enters c }) ≡ Ok (record { answer = Err PivotLimit; table = t }))
    → IsSound A → IsFeasible n m loaded t → Ok stop ≡ phase A n m n made left t → Ok ended ≡ rest stop
    → (entering_column stop.next ≡ None
    → History n m 0 stop.left loaded stop.table ended (λ x. rest (record { made = stop.made; left = x; table = stop.table; next = stop.next })))
    → History n m 0 left loaded t ended (λ x. and_then (phase A n m n made x t) rest)
first_history A n m made left loaded t ended stop rest at_limit s f h last later =
    phase_history A n m 0 n made left loaded t ended stop rest (λ t. Unit {0}) at_limit step f tt h last later
  where
    step : (pivot c : ℕ) (t u : Tableau) → IsFeasible n m loaded t → Unit {0} → next_in n m n t ≡ Enters c → Ok u ≡ entered A pivot n m c t
        → IsFeasible n m loaded u × Unit {0} × (l : ℕ) × IsStep n m 0 t u l c
    step pivot c t u f k next h =
        let (l, turn, bland) = entered_turn A pivot n m n c loaded t u s f next h in (
          entered_feasible A pivot n m c loaded t u s (enters_inside n m n c t next) f h,
          tt,
          l,
          record { turn = turn; known = omega arith; first = λ e. bland; driven = λ e. absurd (omega (arith, e)); second = λ e. absurd (omega (arith, e)) },
        )

-- phase 2
pub second_history : (A : Arithmetic) (n m made left : ℕ) (loaded t : Tableau) (ended : Ended) (stop : Stop) (rest : Stop → Result Ended WideAt)
    → ((made c : ℕ) (t : Tableau) → rest (record { made = made; left = 0; table = t; next = Enters c }) ≡ Ok (record { answer = Err PivotLimit; table = t }))
    → IsSound A → IsFeasible n m loaded t → IsClean n m n t → Ok stop ≡ phase A n m (n + 1) made left t → Ok ended ≡ rest stop
    → (entering_column stop.next ≡ None
    → History n m 2 stop.left loaded stop.table ended (λ x. rest (record { made = stop.made; left = x; table = stop.table; next = stop.next })))
    → History n m 2 left loaded t ended (λ x. and_then (phase A n m (n + 1) made x t) rest)
second_history A n m made left loaded t ended stop rest at_limit s f clean h last later =
    phase_history A n m 2 (n + 1) made left loaded t ended stop rest (IsClean n m n) at_limit step f clean h last later
  where
    step : (pivot c : ℕ) (t u : Tableau) → IsFeasible n m loaded t → IsClean n m n t → next_in n m (n + 1) t ≡ Enters c → Ok u ≡ entered A pivot n m c t →
        IsFeasible n m loaded u × IsClean n m n u × (l : ℕ) × IsStep n m 2 t u l c
    step pivot c t u f k next h =
        let (l, turn, bland) = entered_turn A pivot n m (n + 1) c loaded t u s f next h in
        let column : c < m = enters_inside n m (n + 1) c t next in
        let clean : IsClean n m n u = entered_clean A pivot n m c loaded t u s column f k h in (
          entered_feasible A pivot n m c loaded t u s column f h,
          clean,
          l,
          record {
            turn = turn;
            known = omega arith;
            first = λ e. absurd (omega (arith, e));
            driven = λ e. absurd (omega (arith, e));
            second = λ e. (bland, clean);
          },
        )

-- ---- the drive-out
-- a line that stays as it is
drive_past : (A : Arithmetic) (m i k made : ℕ) (t : Tableau) → driven m i t ≡ None → (x : ℕ)
    → driven_out A m i (suc k) made x t ≡ driven_out A m (suc i) k made x t
drive_past A m i k made t e x =
    ap (λ o. given (driven_out A m (suc i) k made x t) o (λ c.
    by_left x (Ok (record { made = made; left = 0; table = t; next = Enters c }))
    (λ left. and_then (pivoted A (suc made) i c t) (λ u. driven_out A m (suc i) k (suc made) left u)))) e

-- a line with a pivot, where none may be made, and where one is made
drive_limit : (A : Arithmetic) (m i k made c : ℕ) (t : Tableau) → driven m i t ≡ Some c
    → driven_out A m i (suc k) made 0 t ≡ Ok (record { made = made; left = 0; table = t; next = Enters c })
drive_limit A m i k made c t e =
    ap (λ o. given (driven_out A m (suc i) k made 0 t) o (λ c.
    by_left 0 (Ok (record { made = made; left = 0; table = t; next = Enters c }))
    (λ left. and_then (pivoted A (suc made) i c t) (λ u. driven_out A m (suc i) k (suc made) left u)))) e

drive_more : (A : Arithmetic) (m i k made c : ℕ) (t u : Tableau) → driven m i t ≡ Some c → Ok u ≡ pivoted A (suc made) i c t → (x : ℕ)
    → driven_out A m i (suc k) made (suc x) t ≡ driven_out A m (suc i) k (suc made) x u
drive_more A m i k made c t u e h x =
    ap (λ o. given (driven_out A m (suc i) k made (suc x) t) o (λ c.
    by_left (suc x) (Ok (record { made = made; left = 0; table = t; next = Enters c }))
    (λ left. and_then (pivoted A (suc made) i c t) (λ u. driven_out A m (suc i) k (suc made) left u)))) e
    ∙ ap (λ (r : Result Tableau WideAt). and_then r (λ u. driven_out A m (suc i) k (suc made) x u)) (sym h)

pub drive_history : (A : Arithmetic) (n m i k made left : ℕ) (loaded t : Tableau) (ended : Ended) (stop : Stop) (rest : Stop → Result Ended WideAt)
    → ((made c : ℕ) (t : Tableau) → rest (record { made = made; left = 0; table = t; next = Enters c }) ≡ Ok (record { answer = Err PivotLimit; table = t }))
    → IsSound A → i + k ≡ n → IsFeasible n m loaded t → IsClean n m i t → Ok stop ≡ driven_out A m i k made left t → Ok ended ≡ rest stop
    → (entering_column stop.next ≡ None
    → History n m 1 stop.left loaded stop.table ended (λ x. rest (record { made = stop.made; left = x; table = stop.table; next = stop.next })))
    → History n m 1 left loaded t ended (λ x. and_then (driven_out A m i k made x t) rest)
drive_history A n m i zero made left loaded t ended stop rest at_limit s all f clean h last later =
    subst (λ (stop : Stop). entering_column stop.next ≡ None
    → History n m 1 stop.left loaded stop.table ended (λ x. rest (record { made = stop.made; left = x; table = stop.table; next = stop.next })))
    (ok_same stop (record { made = made; left = left; table = t; next = Settled }) h) later refl
drive_history A n m i (suc k) made left loaded t ended stop rest at_limit s all f clean h last later =
    by_column (driven m i t) refl h
    (λ g e. drive_history A n m (suc i) k made left loaded t ended stop rest at_limit s (omega (arith, all)) f (left_alone n m i t g clean) e last later)
    (λ left u both e. drive_history A n m (suc i) k (suc made) left loaded u ended stop rest at_limit s (omega (arith, all)) both.0 both.1 e last later)
  where
    by_spare : (left c : ℕ) → driven m i t ≡ Some c
        → Ok stop
        ≡ by_left left (Ok (record { made = made; left = 0; table = t; next = Enters c }))
        (λ left. and_then (pivoted A (suc made) i c t) (λ u. driven_out A m (suc i) k (suc made) left u))
        → ((left : ℕ) (u : Tableau) → IsFeasible n m loaded u × IsClean n m (suc i) u → Ok stop ≡ driven_out A m (suc i) k (suc made) left u
        → History n m 1 left loaded u ended (λ x. and_then (driven_out A m (suc i) k (suc made) x u) rest))
        → History n m 1 left loaded t ended (λ x. and_then (driven_out A m i (suc k) made x t) rest)
    by_spare zero c e g more =
        halted n m 1 loaded t ended (λ x. and_then (driven_out A m i (suc k) made x t) rest) f
        (ap (λ (ended : Ended). ended.table)
        (ok_same ended (record { answer = Err PivotLimit; table = t })
        (last ∙ ap rest (ok_same stop (record { made = made; left = 0; table = t; next = Enters c }) g) ∙ at_limit made c t)))
    by_spare (suc left) c e g more =
        let (u, first, others) = and_then_ok (pivoted A (suc made) i c t) (λ u. driven_out A m (suc i) k (suc made) left u) stop g in
        let (high, column, nonzero) = driven_at m i c t e in
        let low : i < n = omega (arith, all) in
        let after : IsFeasible n m loaded u × IsClean n m (suc i) u = drive_clean A n m (suc made) i c loaded t u s f clean low high column nonzero first in
        one_more n m 1 left i c loaded t u ended (λ x. and_then (driven_out A m (suc i) k (suc made) x u) rest)
        (λ x. and_then (driven_out A m i (suc k) made x t) rest) f
        (record {
          turn = turn_of A n m (suc made) i c loaded t u s f.reached low column nonzero first;
          known = omega arith;
          first = λ e. absurd (omega (arith, e));
          driven = λ e. high;
          second = λ e. absurd (omega (arith, e));
        })
        (ap (λ (r : Result Stop WideAt). and_then r rest) (drive_limit A m i k made c t e) ∙ at_limit made c t)
        (λ x. ap (λ (r : Result Stop WideAt). and_then r rest) (drive_more A m i k made c t u e first x)) (more left u after others)

    by_column : (o : Option ℕ) → driven m i t ≡ o
        → Ok stop
        ≡ given (driven_out A m (suc i) k made left t) o
        (λ c. by_left left (Ok (record { made = made; left = 0; table = t; next = Enters c }))
        (λ left. and_then (pivoted A (suc made) i c t) (λ u. driven_out A m (suc i) k (suc made) left u)))
        → (driven m i t ≡ None → Ok stop ≡ driven_out A m (suc i) k made left t
        → History n m 1 left loaded t ended (λ x. and_then (driven_out A m (suc i) k made x t) rest))
        → ((left : ℕ) (u : Tableau) → IsFeasible n m loaded u × IsClean n m (suc i) u → Ok stop ≡ driven_out A m (suc i) k (suc made) left u
        → History n m 1 left loaded u ended (λ x. and_then (driven_out A m (suc i) k (suc made) x u) rest))
        → History n m 1 left loaded t ended (λ x. and_then (driven_out A m i (suc k) made x t) rest)
    by_column None e g alone more =
        weaker n m 1 1 left loaded t ended (λ x. and_then (driven_out A m (suc i) k made x t) rest) (λ x. and_then (driven_out A m i (suc k) made x t) rest)
        (omega arith)
        (λ x. ap (λ (r : Result Stop WideAt). and_then r rest) (drive_past A m i k made t e x)) (alone e g)
    by_column (Some c) e g alone more = by_spare left c e g more

-- ---- a run
limit_apart : (a : Result End SolveFault) → ((e : End) → a ≡ Ok e → a ≡ Err PivotLimit → ⊥)
limit_apart a e same other = cc (sym same ∙ other)

-- The pivots of a run.
pub run_history : (A : Arithmetic) (n m most : ℕ) (sign : ℕ → ℚ) (row : ℕ → ℕ → ℚ) (target bound : ℕ → ℚ) (loaded : Tableau) (ended : Ended) → IsSound A
    → HoldsProblem n m sign row target bound loaded → IsFeasible n m loaded loaded → Ok ended ≡ run_from A n m most loaded
    → History n m 0 most loaded loaded ended (λ x. run_from A n m x loaded)
run_history A n m most sign row target bound loaded ended s p f h =
    let (stop, first, rest) = and_then_ok (phase A n m n 0 most loaded) (after_first A n m) ended h in
    let (g, next) = phase_feasible A n m n 0 most loaded loaded stop s f first in
    first_history A n m 0 most loaded loaded ended stop (after_first A n m) (λ made c t. refl) s f first rest (λ none. after stop g none rest)
  where
    -- from the end of phase 2 on
    closed : (t : Tableau) (left : ℕ) (next : Next) → IsFeasible n m loaded t → entering_column next ≡ None
        → ended ≡ record { answer = second_answer next; table = t }
        → History n m 2 left loaded t ended (λ x. Ok (record { answer = second_answer next; table = t }))
    closed t left next f none e =
        finished n m 2 left loaded t ended (λ x. Ok (record { answer = second_answer next; table = t })) f (ap (λ (ended : Ended). ended.table) e)
        (λ other. never next none (sym (ap (λ (ended : Ended). ended.answer) e) ∙ other)) (λ x. ap Ok (sym e))
      where
        never : (next : Next) → entering_column next ≡ None → second_answer next ≡ Err PivotLimit → ⊥
        never Settled none other = cc other
        never (Falls c) none other = cc other
        never (Enters c) none other = cc none

    -- from the start of phase 2 on
    second : (stop : Stop) → IsFeasible n m loaded stop.table → IsClean n m n stop.table → entering_column stop.next ≡ None → Ok ended ≡ second_phase A n m stop
        → History n m 2 stop.left loaded stop.table ended
        (λ x. second_phase A n m (record { made = stop.made; left = x; table = stop.table; next = stop.next }))
    second stop g clean none k =
        let here : Ok ended
        ≡ and_then (phase A n m (n + 1) stop.made stop.left stop.table) (λ stop. Ok (record { answer = second_answer stop.next; table = stop.table })) =
        k
        ∙ ap (λ o. given
        (and_then (phase A n m (n + 1) stop.made stop.left stop.table) (λ stop. Ok (record { answer = second_answer stop.next; table = stop.table }))) o
        (λ c. Ok (record { answer = Err PivotLimit; table = stop.table }))) none in
        let (last, first, rest) =
        and_then_ok (phase A n m (n + 1) stop.made stop.left stop.table) (λ stop. Ok (record { answer = second_answer stop.next; table = stop.table }))
        ended here in
        let (f, next) = phase_feasible A n m (n + 1) stop.made stop.left loaded stop.table last s g first in
        weaker n m 2 2 stop.left loaded stop.table ended
        (λ x. and_then (phase A n m (n + 1) stop.made x stop.table) (λ stop. Ok (record { answer = second_answer stop.next; table = stop.table })))
        (λ x. second_phase A n m (record { made = stop.made; left = x; table = stop.table; next = stop.next })) (omega arith)
        (λ x. ap (λ o. given
        (and_then (phase A n m (n + 1) stop.made x stop.table) (λ stop. Ok (record { answer = second_answer stop.next; table = stop.table }))) o
        (λ c. Ok (record { answer = Err PivotLimit; table = stop.table }))) none)
        (second_history A n m stop.made stop.left loaded stop.table ended last (λ stop. Ok (record { answer = second_answer stop.next; table = stop.table }))
        (λ made c t. refl) s g clean first rest
        (λ none. closed last.table last.left last.next f none (ok_same ended (record { answer = second_answer last.next; table = last.table }) rest)))

    -- from the end of phase 1 on
    by_value : (stop : Stop) (b : Bool) → is_zero (cell stop.table n (n + m)) ≡ b → IsFeasible n m loaded stop.table
        → Ok ended
        ≡ (if b then and_then (driven_out A m 0 n stop.made stop.left stop.table) (second_phase A n m)
        else Ok (record { answer = Ok NoWeights; table = stop.table }))
        → History n m 0 stop.left loaded stop.table ended
        (λ x. if b then and_then (driven_out A m 0 n stop.made x stop.table) (second_phase A n m)
        else Ok (record { answer = Ok NoWeights; table = stop.table }))
    by_value stop false e g k =
        let same : ended ≡ record { answer = Ok NoWeights; table = stop.table } = ok_same ended (record { answer = Ok NoWeights; table = stop.table }) k in
        finished n m 0 stop.left loaded stop.table ended (λ x. Ok (record { answer = Ok NoWeights; table = stop.table })) g
        (ap (λ (ended : Ended). ended.table) same)
        (λ other. limit_apart ended.answer NoWeights (ap (λ (ended : Ended). ended.answer) same) other) (λ x. sym k)
    by_value stop true e g k =
        let (last, first, rest) = and_then_ok (driven_out A m 0 n stop.made stop.left stop.table) (second_phase A n m) ended k in
        let clean : IsClean n m 0 stop.table =
        record { cells = λ k low high j inside. absurd (omega (arith, low)); values = artificial_zero n m sign row target bound loaded stop.table p g e } in
        weaker n m 0 1 stop.left loaded stop.table ended (λ x. and_then (driven_out A m 0 n stop.made x stop.table) (second_phase A n m))
        (λ x. and_then (driven_out A m 0 n stop.made x stop.table) (second_phase A n m)) (omega arith) (λ x. refl)
        (drive_history A n m 0 n stop.made stop.left loaded stop.table ended last (second_phase A n m) (λ made c t. refl) s (omega arith) g clean first rest
        (λ none.
        (let both = driven_clean A n m 0 n stop.made stop.left loaded stop.table last s (omega arith) g clean first none in
        weaker n m 1 2 last.left loaded last.table ended (λ x. second_phase A n m (record { made = last.made; left = x; table = last.table; next = last.next }))
        (λ x. second_phase A n m (record { made = last.made; left = x; table = last.table; next = last.next })) (omega arith) (λ x. refl)
        (second last both.0 both.1 none rest))))

    after : (stop : Stop) → IsFeasible n m loaded stop.table → entering_column stop.next ≡ None → Ok ended ≡ after_first A n m stop →
        History n m 0 stop.left loaded stop.table ended (λ x. after_first A n m (record { made = stop.made; left = x; table = stop.table; next = stop.next }))
    after stop g none k =
        let here : Ok ended
        ≡ (if is_zero (cell stop.table n (n + m)) then and_then (driven_out A m 0 n stop.made stop.left stop.table) (second_phase A n m)
        else Ok (record { answer = Ok NoWeights; table = stop.table })) =
        k
        ∙ ap (λ o. given (if is_zero (cell stop.table n (n + m)) then and_then (driven_out A m 0 n stop.made stop.left stop.table) (second_phase A n m)
        else Ok (record { answer = Ok NoWeights; table = stop.table })) o
        (λ c. Ok (record { answer = Err PivotLimit; table = stop.table }))) none in
        weaker n m 0 0 stop.left loaded stop.table ended
        (λ x. if is_zero (cell stop.table n (n + m)) then and_then (driven_out A m 0 n stop.made x stop.table) (second_phase A n m)
        else Ok (record { answer = Ok NoWeights; table = stop.table }))
        (λ x. after_first A n m (record { made = stop.made; left = x; table = stop.table; next = stop.next })) (omega arith)
        (λ x. ap (λ o. given (if is_zero (cell stop.table n (n + m)) then and_then (driven_out A m 0 n stop.made x stop.table) (second_phase A n m)
        else Ok (record { answer = Ok NoWeights; table = stop.table })) o
        (λ c. Ok (record { answer = Err PivotLimit; table = stop.table }))) none)
        (by_value stop (is_zero (cell stop.table n (n + m))) refl g here)
