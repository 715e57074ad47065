-- The drive-out and phase 2, from a feasible tableau on.
use Rattle.std.proofs.Common.{◌≡◌, ℕ, zero, suc, ◌<◌, ◌≤◌, ◌+◌, ◌⊎◌, inl, inr, Bool, true, false, not, if◌then◌else◌}
use Rattle.std.proofs.Common.{Option, Some, None, Ok, refl, sym, ap, subst, ◌∙◌, arith, pos, nat_lt}
use Rattle.pa_math.specs.Answers.{and_then, given}
use Rattle.pa_math.specs.Rational.{whole}
use Rattle.pa_frac.specs.Operations.{is_zero}
use Rattle.pa_frac.proofs.Signs.{zero_value, nonzero_test}
use Rattle.pa_math.proofs.Reciprocals.{nonzero_from_positive}
use Rattle.pa_row.proofs.Dots.{and_then_ok, ok_same}
use Rattle.pa_tableau.specs.Arithmetic.{Arithmetic}
use Rattle.pa_tableau.specs.Tableau.{Tableau, cell, pivoted}
use Rattle.pa_replay.specs.declared.next.Next.{Next}
use Rattle.pa_replay.specs.declared.next.Next.TheVariants.{Settled, Falls, Enters}
use Rattle.pa_replay.specs.Replay.{Candidate, Stop, first_from, basic, by_left, driven, driven_out, next_in, entering_column, leaving_from, entered, phase}
use Rattle.pa_replay.proofs.Bridges.{IsSound}
use Rattle.pa_replay.proofs.Ratios.{IsBestSoFar, leaving_best}
use Rattle.pa_replay.proofs.Runs.{IsFeasible, first_absent, first_present, positive_sign, enters_inside, entered_feasible}
use Rattle.pa_replay.proofs.Clean.{IsClean, clean_after, drive_clean}

-- ---- the drive-out
not_true : (b : Bool) → not b ≡ false → b ≡ true
not_true true h = refl
not_true false h = absurd (cc h)

not_false : (b : Bool) → not b ≡ true → b ≡ false
not_false true h = absurd (cc h)
not_false false h = refl

-- a line that is left as it is
pub left_alone : (n m i : ℕ) (t : Tableau) → driven m i t ≡ None → IsClean n m i t → IsClean n m (suc i) t
left_alone n m i t h clean = record { cells = λ k below high j inside. by_place k high j inside (below_suc k i below); values = clean.values }
  where
    below_suc : (k i : ℕ) → k < suc i → (k < i) ⊎ (k ≡ i)
    below_suc k i h = search arith

    by_basis : (b : Bool) → nat_lt (basic t i) m ≡ b → (if b then None else first_from (λ j. not (is_zero (cell t i j))) 0 m) ≡ None → m ≤ basic t i →
        (j : ℕ) → j < m → cell t i j ≡ whole (pos 0)
    by_basis true e k high j inside = absurd (grind (arith, e, high))
    by_basis false e k high j inside =
        zero_value (cell t i j) (not_true (is_zero (cell t i j))
        (subst (λ j. not (is_zero (cell t i j)) ≡ false) (omega arith) (first_absent (λ j. not (is_zero (cell t i j))) 0 m k j inside)))

    by_place : (k : ℕ) → m ≤ basic t k → (j : ℕ) → j < m → (k < i) ⊎ (k ≡ i) → cell t k j ≡ whole (pos 0)
    by_place k high j inside (inl before) = clean.cells k before high j inside
    by_place k high j inside (inr e) =
        ap (λ k. cell t k j) e ∙ by_basis (nat_lt (basic t i) m) refl h (subst (λ k. m ≤ basic t k) e high) j inside

-- a line that is pivoted on
pub driven_at : (m i c : ℕ) (t : Tableau) → driven m i t ≡ Some c → (m ≤ basic t i) × (c < m) × (is_zero (cell t i c) ≡ false)
driven_at m i c t h = by_basis (nat_lt (basic t i) m) refl h
  where
    by_basis : (b : Bool) → nat_lt (basic t i) m ≡ b → (if b then None else first_from (λ j. not (is_zero (cell t i j))) 0 m) ≡ Some c →
        (m ≤ basic t i) × (c < m) × (is_zero (cell t i c) ≡ false)
    by_basis true e k = absurd (cc k)
    by_basis false e k =
        let (low, there) = first_present (λ j. not (is_zero (cell t i j))) 0 m c k in
        (grind (arith, e), omega (arith, low), not_false (is_zero (cell t i c)) there)

pub driven_clean : (A : Arithmetic) (n m i k made left : ℕ) (loaded t : Tableau) (stop : Stop) → IsSound A → i + k ≡ n → IsFeasible n m loaded t →
    IsClean n m i t → Ok stop ≡ driven_out A m i k made left t →
    entering_column stop.next ≡ None → IsFeasible n m loaded stop.table × IsClean n m n stop.table
driven_clean A n m i zero made left loaded t stop s all f clean h settled =
    let same : stop.table ≡ t = ap (λ (stop : Stop). stop.table) (ok_same stop (record { made = made; left = left; table = t; next = Settled }) h) in
    (subst (IsFeasible n m loaded) (sym same) f, subst (IsClean n m n) (sym same) (subst (λ i. IsClean n m i t) (omega (arith, all)) clean))
driven_clean A n m i (suc k) made left loaded t stop s all f clean h settled =
    by_column (driven m i t) refl h
    (λ g. driven_clean A n m (suc i) k made left loaded t stop s (omega (arith, all)) f (left_alone n m i t g clean))
    (λ left u both. driven_clean A n m (suc i) k (suc made) left loaded u stop s (omega (arith, all)) both.0 both.1)
  where
    by_spare : (left : ℕ) (c : ℕ) → driven m i t ≡ Some c →
        Ok stop ≡ by_left left (Ok (record { made = made; left = 0; table = t; next = Enters c }))
        (λ left. and_then (pivoted A (suc made) i c t) (λ u. driven_out A m (suc i) k (suc made) left u)) →
        ((left : ℕ) (u : Tableau) → IsFeasible n m loaded u × IsClean n m (suc i) u → Ok stop ≡ driven_out A m (suc i) k (suc made) left u →
        entering_column stop.next ≡ None → IsFeasible n m loaded stop.table × IsClean n m n stop.table) →
        IsFeasible n m loaded stop.table × IsClean n m n stop.table
    by_spare zero c e g rest = absurd (cc (sym (ap (λ (stop : Stop). entering_column stop.next)
        (ok_same stop (record { made = made; left = 0; table = t; next = Enters c }) g)) ∙ settled))
    by_spare (suc left) c e g rest =
        let (u, first, more) = and_then_ok (pivoted A (suc made) i c t) (λ u. driven_out A m (suc i) k (suc made) left u) stop g in
        let (high, column, nonzero) = driven_at m i c t e in
        rest left u (drive_clean A n m (suc made) i c loaded t u s f clean (omega (arith, all)) high column nonzero first) more settled

    by_column : (o : Option ℕ) → driven m i t ≡ o →
        Ok stop ≡ given (driven_out A m (suc i) k made left t) o
        (λ c. by_left left (Ok (record { made = made; left = 0; table = t; next = Enters c }))
        (λ left. and_then (pivoted A (suc made) i c t) (λ u. driven_out A m (suc i) k (suc made) left u))) →
        (driven m i t ≡ None → Ok stop ≡ driven_out A m (suc i) k made left t → entering_column stop.next ≡ None →
        IsFeasible n m loaded stop.table × IsClean n m n stop.table) →
        ((left : ℕ) (u : Tableau) → IsFeasible n m loaded u × IsClean n m (suc i) u → Ok stop ≡ driven_out A m (suc i) k (suc made) left u →
        entering_column stop.next ≡ None → IsFeasible n m loaded stop.table × IsClean n m n stop.table) →
        IsFeasible n m loaded stop.table × IsClean n m n stop.table
    by_column None e g alone rest = alone e g settled
    by_column (Some c) e g alone rest = by_spare left c e g rest

-- ---- phase 2
pub entered_clean : (A : Arithmetic) (pivot n m c : ℕ) (loaded t u : Tableau) → IsSound A → c < m → IsFeasible n m loaded t → IsClean n m n t →
    Ok u ≡ entered A pivot n m c t → IsClean n m n u
entered_clean A pivot n m c loaded t u s column f clean h =
    let (best, first, made) = and_then_ok (leaving_from A pivot (n + m) c t 0 n None) (λ best. given (Ok t) best (λ best. pivoted A pivot best.0 c t)) u h in
    by_best best (subst (λ k. IsBestSoFar t (n + m) c k best) (zero_plus n)
    (leaving_best A pivot (n + m) c t 0 n None best s first (λ k low. absurd (omega arith)))) made
  where
    zero_plus : (n : ℕ) → 0 + n ≡ n
    zero_plus n = omega arith

    by_best : (best : Option Candidate) → IsBestSoFar t (n + m) c n best → Ok u ≡ given (Ok t) best (λ best. pivoted A pivot best.0 c t) → IsClean n m n u
    by_best None b k = subst (IsClean n m n) (sym (ok_same u t k)) clean
    by_best (Some best) b k =
        clean_after A n m pivot best.0 c loaded t u s f.reached clean b.inside column
        (nonzero_test (cell t best.0 c) (nonzero_from_positive (positive_sign (cell t best.0 c) b.positive))) k

pub phase_clean : (A : Arithmetic) (n m cost made left : ℕ) (loaded t : Tableau) (stop : Stop) → IsSound A → IsFeasible n m loaded t → IsClean n m n t →
    Ok stop ≡ phase A n m cost made left t → IsClean n m n stop.table
phase_clean A n m cost made zero loaded t stop s f clean h =
    subst (IsClean n m n) (sym (ap (λ (stop : Stop). stop.table)
    (ok_same stop (record { made = made; left = 0; table = t; next = next_in n m cost t }) h))) clean
phase_clean A n m cost made (suc left) loaded t stop s f clean h = by_next (next_in n m cost t) refl h
    (λ u g d k. phase_clean A n m cost (suc made) left loaded u stop s g d k)
  where
    by_next : (next : Next) → next_in n m cost t ≡ next →
        Ok stop ≡ given (Ok (record { made = made; left = suc left; table = t; next = next })) (entering_column next)
        (λ c. and_then (entered A (suc made) n m c t) (λ u. phase A n m cost (suc made) left u)) →
        ((u : Tableau) → IsFeasible n m loaded u → IsClean n m n u → Ok stop ≡ phase A n m cost (suc made) left u → IsClean n m n stop.table) →
        IsClean n m n stop.table
    by_next Settled is k rest = subst (IsClean n m n) (sym (ap (λ (stop : Stop). stop.table)
        (ok_same stop (record { made = made; left = suc left; table = t; next = Settled }) k))) clean
    by_next (Falls c) is k rest = subst (IsClean n m n) (sym (ap (λ (stop : Stop). stop.table)
        (ok_same stop (record { made = made; left = suc left; table = t; next = Falls c }) k))) clean
    by_next (Enters c) is k rest =
        let (u, first, more) = and_then_ok (entered A (suc made) n m c t) (λ u. phase A n m cost (suc made) left u) stop k in
        rest u (entered_feasible A (suc made) n m c loaded t u s (enters_inside n m cost c t is) f first)
        (entered_clean A (suc made) n m c loaded t u s (enters_inside n m cost c t is) f clean first) more
