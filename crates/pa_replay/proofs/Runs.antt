-- A phase keeps what a run keeps, and values that are not negative. Where it settles, no column of the rows lowers the cost.
use Rattle.std.proofs.Common.{◌≡◌, ℕ, zero, suc, ◌<◌, ◌+◌, Bool, true, false, if◌then◌else◌, Option, Some, None, Ok, refl, sym, subst, arith, pos, int_lt}
use Rattle.std.proofs.lemmas.Int.{ints}
use lib.IntN.{ℤ}
use lib.Signed.{◌<ℤ◌, ◌≤ℤ◌}
use Rattle.pa_math.specs.Answers.{and_then, given}
use Rattle.pa_math.specs.Rational.{ℚ, whole, ◌/ℚ◌}
use Rattle.pa_math.specs.RationalOrder.{◌≤ℚ◌, ◌<ℚ◌}
use Rattle.pa_math.proofs.RationalOrders.{positive_from_num, positive_num, nonneg_from_num}
use Rattle.pa_frac.specs.Operations.{is_zero}
use Rattle.pa_frac.proofs.Signs.{nonzero_test}
use Rattle.pa_math.proofs.Reciprocals.{nonzero_from_positive}
use Rattle.pa_row.proofs.Dots.{and_then_ok, ok_same}
use Rattle.pa_tableau.specs.Arithmetic.{Arithmetic}
use Rattle.pa_tableau.specs.Tableau.{Tableau, cell, pivoted}
use Rattle.pa_replay.specs.declared.next.Next.{Next}
use Rattle.pa_replay.specs.declared.next.Next.TheVariants.{Settled, Falls, Enters}
use Rattle.pa_replay.specs.Replay.{Candidate, Stop, first_from, is_negative, is_positive, entering}
use Rattle.pa_replay.specs.Replay.{can_leave, next_in, entering_column, leaving_from, entered, phase}
use Rattle.pa_replay.proofs.Bridges.{IsSound, cells_of, pivot_of_cells}
use Rattle.pa_replay.proofs.Kept.{IsReached, reached_after}
use Rattle.pa_replay.proofs.Ratios.{IsBestSoFar, leaving_best, values_stay}

-- ---- signs
pub positive_sign : (q : ℚ) → is_positive q ≡ true → whole (pos 0) <ℚ q
positive_sign q h = positive_from_num (positive_int q.num h)
  where
    positive_int : (z : ℤ) → int_lt (pos 0) z ≡ true → pos 0 <ℤ z
    positive_int z h = grind (arith, ints, h)

pub sign_positive : (q : ℚ) → whole (pos 0) <ℚ q → is_positive q ≡ true
sign_positive q h = int_positive q.num (positive_num h)
  where
    int_positive : (z : ℤ) → pos 0 <ℤ z → int_lt (pos 0) z ≡ true
    int_positive z h = grind (arith, ints, h)

pub not_negative_sign : (q : ℚ) → is_negative q ≡ false → whole (pos 0) ≤ℚ q
not_negative_sign q h = nonneg_from_num (nonneg_int q.num h)
  where
    nonneg_int : (z : ℤ) → int_lt z (pos 0) ≡ false → pos 0 ≤ℤ z
    nonneg_int z h = grind (arith, ints, h)

-- ---- the first place
-- where there is none, the property holds nowhere
pub first_absent : (p : ℕ → Bool) (i n : ℕ) → first_from p i n ≡ None → (k : ℕ) → k < n → p (i + k) ≡ false
first_absent p i zero h k low = absurd (omega arith)
first_absent p i (suc n) h k low = by_test (p i) refl h (λ e k low. first_absent p (suc i) n e k low) k low
  where
    by_test : (b : Bool) → p i ≡ b → (if b then Some i else first_from p (suc i) n) ≡ None →
        (first_from p (suc i) n ≡ None → (k : ℕ) → k < n → p (suc i + k) ≡ false) → (k : ℕ) → k < suc n → p (i + k) ≡ false
    by_test true e h rest k low = absurd (cc h)
    by_test false e h rest zero low = subst (λ i. p i ≡ false) (omega arith) e
    by_test false e h rest (suc k) low = subst (λ i. p i ≡ false) (omega arith) (rest h k (omega arith))

-- where there is one, it is in range
pub first_present : (p : ℕ → Bool) (i n c : ℕ) → first_from p i n ≡ Some c → (c < i + n) × (p c ≡ true)
first_present p i zero c h = absurd (cc h)
first_present p i (suc n) c h = by_test (p i) refl h (λ e. first_present p (suc i) n c e)
  where
    by_test : (b : Bool) → p i ≡ b → (if b then Some i else first_from p (suc i) n) ≡ Some c →
        (first_from p (suc i) n ≡ Some c → (c < suc i + n) × (p c ≡ true)) → (c < i + suc n) × (p c ≡ true)
    by_test true e h rest = let same : i ≡ c = cc h in (omega (arith, same), subst (λ i. p i ≡ true) same e)
    by_test false e h rest = let (low, yes_there) = rest h in (omega (arith, low), yes_there)

-- ---- what comes next
pub enters_inside : (n m cost c : ℕ) (t : Tableau) → next_in n m cost t ≡ Enters c → c < m
enters_inside n m cost c t h = by_column (entering m cost t) refl h
  where
    by_leave : (b : Bool) (j : ℕ) → j < m → (if b then Enters j else Falls j) ≡ Enters c → c < m
    by_leave true j low k = let same : j ≡ c = cc k in subst (λ j. j < m) same low
    by_leave false j low k = absurd (cc k)

    by_column : (o : Option ℕ) → entering m cost t ≡ o → given Settled o (λ c. if can_leave n c t then Enters c else Falls c) ≡ Enters c → c < m
    by_column None e k = absurd (cc k)
    by_column (Some j) e k = by_leave (can_leave n j t) j (let low = (first_present (λ j. is_negative (cell t cost j)) 0 m j e).0 in omega (arith, low)) k

-- where a phase settles, the cost row is not negative in the rows' columns
pub settled_costs : (n m cost : ℕ) (t : Tableau) → next_in n m cost t ≡ Settled → (j : ℕ) → j < m → whole (pos 0) ≤ℚ cell t cost j
settled_costs n m cost t h j low = not_negative_sign (cell t cost j) (by_column (entering m cost t) refl h)
  where
    by_leave : (b : Bool) (j : ℕ) → (if b then Enters j else Falls j) ≡ Settled → ⊥
    by_leave true j k = cc k
    by_leave false j k = cc k

    by_column : (o : Option ℕ) → entering m cost t ≡ o → given Settled o (λ c. if can_leave n c t then Enters c else Falls c) ≡ Settled →
        is_negative (cell t cost j) ≡ false
    by_column None e k = subst (λ j. is_negative (cell t cost j) ≡ false) (omega arith) (first_absent (λ j. is_negative (cell t cost j)) 0 m e j low)
    by_column (Some c) e k = absurd (by_leave (can_leave n c t) c k)

-- ---- one pivot of a phase
-- a tableau that is reached, with values that are not negative
pub record IsFeasible (n m : ℕ) (loaded t : Tableau) : Type 0 where
  pub reached : IsReached n m (n + m + 1) loaded t
  pub values : (i : ℕ) → i < n → whole (pos 0) ≤ℚ cell t i (n + m)

pub entered_feasible : (A : Arithmetic) (pivot n m c : ℕ) (loaded t u : Tableau) → IsSound A → c < m → IsFeasible n m loaded t →
    Ok u ≡ entered A pivot n m c t → IsFeasible n m loaded u
entered_feasible A pivot n m c loaded t u s column f h =
    let (best, first, made) = and_then_ok (leaving_from A pivot (n + m) c t 0 n None) (λ best. given (Ok t) best (λ best. pivoted A pivot best.0 c t)) u h in
    by_best best (subst (λ k. IsBestSoFar t (n + m) c k best) (zero_plus n)
    (leaving_best A pivot (n + m) c t 0 n None best s first (λ k low. absurd (omega arith)))) made
  where
    zero_plus : (n : ℕ) → 0 + n ≡ n
    zero_plus n = omega arith

    by_best : (best : Option Candidate) → IsBestSoFar t (n + m) c n best → Ok u ≡ given (Ok t) best (λ best. pivoted A pivot best.0 c t) →
        IsFeasible n m loaded u
    by_best None b k = subst (IsFeasible n m loaded) (sym (ok_same u t k)) f
    by_best (Some best) b k =
        let up : whole (pos 0) <ℚ cell t best.0 c = positive_sign (cell t best.0 c) b.positive in
        let nonzero : is_zero (cell t best.0 c) ≡ false = nonzero_test (cell t best.0 c) (nonzero_from_positive up) in
        record {
          reached = reached_after A n m (n + m + 1) pivot best.0 c loaded t u s f.reached b.inside (omega arith) nonzero k;
          values = values_stay n (n + m) c best.0 (cells_of t) (cells_of u)
              (pivot_of_cells A pivot best.0 c (n + m + 1) t u s f.reached.rectangle (omega (arith, b.inside, f.reached.count)) nonzero k)
              b.inside up f.values
              (λ i low more. subst (λ q. q ≤ℚ (cell t i (n + m) /ℚ cell t i c)) b.is (b.least i low (sign_positive (cell t i c) more)));
        }

-- ---- a phase
pub phase_feasible : (A : Arithmetic) (n m cost made left : ℕ) (loaded t : Tableau) (stop : Stop) → IsSound A → IsFeasible n m loaded t →
    Ok stop ≡ phase A n m cost made left t →
    IsFeasible n m loaded stop.table × (stop.next ≡ next_in n m cost stop.table)
phase_feasible A n m cost made zero loaded t stop s f h = stands (ok_same stop _ h)
  where
    stands : stop ≡ record { made = made; left = 0; table = t; next = next_in n m cost t } →
        IsFeasible n m loaded stop.table × (stop.next ≡ next_in n m cost stop.table)
    stands e = subst (λ (stop : Stop). IsFeasible n m loaded stop.table × (stop.next ≡ next_in n m cost stop.table)) (sym e) (f, refl)
phase_feasible A n m cost made (suc left) loaded t stop s f h = by_next (next_in n m cost t) refl h
    (λ u g k. phase_feasible A n m cost (suc made) left loaded u stop s g k)
  where
    stands : (next : Next) → next_in n m cost t ≡ next → stop ≡ record { made = made; left = suc left; table = t; next = next } →
        IsFeasible n m loaded stop.table × (stop.next ≡ next_in n m cost stop.table)
    stands next is e = subst (λ (stop : Stop). IsFeasible n m loaded stop.table × (stop.next ≡ next_in n m cost stop.table)) (sym e) (f, sym is)

    by_next : (next : Next) → next_in n m cost t ≡ next →
        Ok stop ≡ given (Ok (record { made = made; left = suc left; table = t; next = next })) (entering_column next)
        (λ c. and_then (entered A (suc made) n m c t) (λ u. phase A n m cost (suc made) left u)) →
        ((u : Tableau) → IsFeasible n m loaded u → Ok stop ≡ phase A n m cost (suc made) left u →
        IsFeasible n m loaded stop.table × (stop.next ≡ next_in n m cost stop.table)) →
        IsFeasible n m loaded stop.table × (stop.next ≡ next_in n m cost stop.table)
    by_next Settled is k rest = stands Settled is (ok_same stop _ k)
    by_next (Falls c) is k rest = stands (Falls c) is (ok_same stop _ k)
    by_next (Enters c) is k rest =
        let (u, first, more) = and_then_ok (entered A (suc made) n m c t) (λ u. phase A n m cost (suc made) left u) stop k in
        rest u (entered_feasible A (suc made) n m c loaded t u s (enters_inside n m cost c t is) f first) more
