-- What one arithmetic does not refuse, another one gives too: so a run that is not refused at a width is the run without a width.
use Rattle.std.proofs.Common.{◌≡◌, ℕ, zero, suc, ◌+◌, ◌==◌, Bool, true, false, if◌then◌else◌, List, [], ◌∷◌, Option, Some, None, Result, Ok, Err, ap, ◌∙◌}
use Rattle.std.specs.List.{slice_index_or, slice_set}
use Rattle.std.specs.declared.cmp.Ordering.{Ordering}
use Rattle.pa_math.specs.Answers.{and_then, given}
use Rattle.pa_math.specs.Rational.{ℚ, den}
use Rattle.pa_frac.specs.declared.wide.Wide.{Wide}
use Rattle.pa_frac.specs.Operations.{is_zero, fraction_in}
use Rattle.pa_frac.proofs.Width.{exact_value}
use Rattle.pa_row.proofs.Dots.{and_then_ok}
use Rattle.pa_tableau.specs.Arithmetic.{Arithmetic, at_width, exact, each}
use Rattle.pa_tableau.specs.Tableau.{Tableau, cell, number_at, told_at, divided, reduced, line_reduced, other_reduced, lines_pivoted, pivoted}
use Rattle.pa_replay.specs.declared.«end».End.TheVariants.{NoWeights}
use Rattle.pa_replay.specs.declared.«end».SolveFault.TheVariants.{PivotLimit}
use Rattle.pa_replay.specs.declared.next.Next.TheVariants.{Settled, Enters}
use Rattle.pa_replay.specs.Replay.{Candidate, Stop, Ended, is_positive, better, tested, leaving_from, entered, next_in, entering_column, phase}
use Rattle.pa_replay.specs.Replay.{by_left, driven, driven_out, second_phase, after_first, run_from, comes_first, basic, second_answer}
use Rattle.pa_replay.proofs.Bridges.{told_ok, IsSound, at_width_sound}

pub record Agrees (A B : Arithmetic) : Type 0 where
  pub fraction : (x z : ℚ) → Ok z ≡ A.fraction x → Ok z ≡ B.fraction x
  pub sum : (x y z : ℚ) → Ok z ≡ A.sum x y → Ok z ≡ B.sum x y
  pub difference : (x y z : ℚ) → Ok z ≡ A.difference x y → Ok z ≡ B.difference x y
  pub product : (x y z : ℚ) → Ok z ≡ A.product x y → Ok z ≡ B.product x y
  pub quotient : (x y z : ℚ) → Ok z ≡ A.quotient x y → Ok z ≡ B.quotient x y
  pub comparison : (x y : ℚ) (o : Ordering) → Ok o ≡ A.comparison x y → Ok o ≡ B.comparison x y

-- the second answer gives what the first one gives
abbrev pub Gives : {X E : Type 0} → Result X E → Result X E → Type 0
Gives {X} {E} r s = (x : X) → Ok x ≡ r → Ok x ≡ s

pub then_gives : {X Y E : Type 0} (r s : Result X E) (f g : X → Result Y E) → Gives r s → ((x : X) → Gives (f x) (g x)) → Gives (and_then r f) (and_then s g)
then_gives {X} {Y} {E} r s f g h k y e =
    let (x, first, more) = and_then_ok r f y e in
    k x y more ∙ ap (λ (r : Result X E). and_then r g) (h x first)

pub told_gives : {X : Type 0} (pivot row column : ℕ) (r s : Result X Wide) → Gives r s → Gives (told_at pivot row column r) (told_at pivot row column s)
told_gives pivot row column r s h x e = ap (told_at pivot row column) (h x (told_ok pivot row column r x e))

if_gives : {X E : Type 0} (b : Bool) (r s u v : Result X E) → Gives r s → Gives u v → Gives (if b then r else u) (if b then s else v)
if_gives true r s u v h k = h
if_gives false r s u v h k = k

given_gives : {X Y E : Type 0} (o : Option X) (r s : Result Y E) (f g : X → Result Y E) → Gives r s → ((x : X) → Gives (f x) (g x)) →
    Gives (given r o f) (given s o g)
given_gives None r s f g h k = h
given_gives (Some x) r s f g h k = k x

pub same_gives : {X E : Type 0} (r : Result X E) → Gives r r
same_gives r x e = e

pub each_gives : {X Y E : Type 0} (f g : ℕ → X → Result Y E) (i : ℕ) (xs : List X) → ((i : ℕ) (x : X) → Gives (f i x) (g i x)) →
    Gives (each f i xs) (each g i xs)
each_gives f g i [] h = same_gives (Ok [])
each_gives f g i (x ∷ xs) h =
    then_gives (f i x) (g i x) (λ y. and_then (each f (suc i) xs) (λ ys. Ok (y ∷ ys))) (λ y. and_then (each g (suc i) xs) (λ ys. Ok (y ∷ ys))) (h i x)
    (λ y. then_gives (each f (suc i) xs) (each g (suc i) xs) (λ ys. Ok (y ∷ ys)) (λ ys. Ok (y ∷ ys)) (each_gives f g (suc i) xs h)
    (λ ys. same_gives (Ok (y ∷ ys))))

-- ---- a pivot
reduced_gives : (A B : Arithmetic) (x f p : ℚ) → Agrees A B → Gives (reduced A x f p) (reduced B x f p)
reduced_gives A B x f p a = then_gives (A.product f p) (B.product f p) (λ y. A.difference x y) (λ y. B.difference x y) (a.product f p) (a.difference x)

divided_gives : (A B : Arithmetic) (pivot row : ℕ) (p : ℚ) (line : List ℚ) → Agrees A B → Gives (divided A pivot row p line) (divided B pivot row p line)
divided_gives A B pivot row p line a =
    each_gives (λ j x. told_at pivot row j (A.quotient x p)) (λ j x. told_at pivot row j (B.quotient x p)) 0 line
    (λ j x. told_gives pivot row j (A.quotient x p) (B.quotient x p) (a.quotient x p))

line_gives : (A B : Arithmetic) (pivot row : ℕ) (f : ℚ) (ps line : List ℚ) → Agrees A B →
    Gives (line_reduced A pivot row f ps line) (line_reduced B pivot row f ps line)
line_gives A B pivot row f ps line a =
    each_gives (λ j x. told_at pivot row j (reduced A x f (number_at ps j))) (λ j x. told_at pivot row j (reduced B x f (number_at ps j))) 0 line
    (λ j x. told_gives pivot row j (reduced A x f (number_at ps j)) (reduced B x f (number_at ps j)) (reduced_gives A B x f (number_at ps j) a))

pub pivoted_gives : (A B : Arithmetic) (pivot l c : ℕ) (t : Tableau) → Agrees A B → Gives (pivoted A pivot l c t) (pivoted B pivot l c t)
pivoted_gives A B pivot l c t a =
    then_gives (lines_pivoted A pivot l c t.lines) (lines_pivoted B pivot l c t.lines)
    (λ lines. Ok (record t { lines = lines; basis = slice_set t.basis l c })) (λ lines. Ok (record t { lines = lines; basis = slice_set t.basis l c }))
    (then_gives (divided A pivot l (number_at (slice_index_or t.lines l []) c) (slice_index_or t.lines l []))
    (divided B pivot l (number_at (slice_index_or t.lines l []) c) (slice_index_or t.lines l []))
    (λ ps. each (other_reduced A pivot l c ps) 0 (slice_set t.lines l ps)) (λ ps. each (other_reduced B pivot l c ps) 0 (slice_set t.lines l ps))
    (divided_gives A B pivot l (number_at (slice_index_or t.lines l []) c) (slice_index_or t.lines l []) a)
    (λ ps. each_gives (other_reduced A pivot l c ps) (other_reduced B pivot l c ps) 0 (slice_set t.lines l ps)
    (λ i line. if_gives (i == l) (Ok line) (Ok line) (line_reduced A pivot i (number_at line c) ps line) (line_reduced B pivot i (number_at line c) ps line)
    (same_gives (Ok line)) (line_gives A B pivot i (number_at line c) ps line a))))
    (λ lines. same_gives (Ok (record t { lines = lines; basis = slice_set t.basis l c })))

-- ---- the ratio test
better_gives : (A B : Arithmetic) (t : Tableau) (best : Option Candidate) (i : ℕ) (r : ℚ) → Agrees A B → Gives (better A t best i r) (better B t best i r)
better_gives A B t None i r a = same_gives (Ok (Some (i, r)))
better_gives A B t (Some best) i r a =
    then_gives (A.comparison r best.1) (B.comparison r best.1)
    (λ order. Ok (Some (if comes_first order (basic t i) (basic t best.0) then (i, r) else best)))
    (λ order. Ok (Some (if comes_first order (basic t i) (basic t best.0) then (i, r) else best)))
    (a.comparison r best.1) (λ order. same_gives (Ok (Some (if comes_first order (basic t i) (basic t best.0) then (i, r) else best))))

tested_gives : (A B : Arithmetic) (pivot value c : ℕ) (t : Tableau) (i : ℕ) (best : Option Candidate) → Agrees A B →
    Gives (tested A pivot value c t i best) (tested B pivot value c t i best)
tested_gives A B pivot value c t i best a =
    if_gives (is_positive (cell t i c))
    (told_at pivot i (suc value) (and_then (A.quotient (cell t i value) (cell t i c)) (better A t best i)))
    (told_at pivot i (suc value) (and_then (B.quotient (cell t i value) (cell t i c)) (better B t best i)))
    (Ok best) (Ok best)
    (told_gives pivot i (suc value) (and_then (A.quotient (cell t i value) (cell t i c)) (better A t best i))
    (and_then (B.quotient (cell t i value) (cell t i c)) (better B t best i))
    (then_gives (A.quotient (cell t i value) (cell t i c)) (B.quotient (cell t i value) (cell t i c)) (better A t best i) (better B t best i)
    (a.quotient (cell t i value) (cell t i c)) (λ r. better_gives A B t best i r a)))
    (same_gives (Ok best))

leaving_gives : (A B : Arithmetic) (pivot value c : ℕ) (t : Tableau) (i k : ℕ) (best : Option Candidate) → Agrees A B →
    Gives (leaving_from A pivot value c t i k best) (leaving_from B pivot value c t i k best)
leaving_gives A B pivot value c t i zero best a = same_gives (Ok best)
leaving_gives A B pivot value c t i (suc k) best a =
    then_gives (tested A pivot value c t i best) (tested B pivot value c t i best) (leaving_from A pivot value c t (suc i) k)
    (leaving_from B pivot value c t (suc i) k)
    (tested_gives A B pivot value c t i best a) (λ next. leaving_gives A B pivot value c t (suc i) k next a)

entered_gives : (A B : Arithmetic) (pivot n m c : ℕ) (t : Tableau) → Agrees A B → Gives (entered A pivot n m c t) (entered B pivot n m c t)
entered_gives A B pivot n m c t a =
    then_gives (leaving_from A pivot (n + m) c t 0 n None) (leaving_from B pivot (n + m) c t 0 n None)
    (λ best. given (Ok t) best (λ best. pivoted A pivot best.0 c t)) (λ best. given (Ok t) best (λ best. pivoted B pivot best.0 c t))
    (leaving_gives A B pivot (n + m) c t 0 n None a)
    (λ best. given_gives best (Ok t) (Ok t) (λ best. pivoted A pivot best.0 c t) (λ best. pivoted B pivot best.0 c t) (same_gives (Ok t))
    (λ best. pivoted_gives A B pivot best.0 c t a))

-- ---- the phases
phase_gives : (A B : Arithmetic) (n m cost made left : ℕ) (t : Tableau) → Agrees A B → Gives (phase A n m cost made left t) (phase B n m cost made left t)
phase_gives A B n m cost made zero t a = same_gives (Ok (record { made = made; left = 0; table = t; next = next_in n m cost t }))
phase_gives A B n m cost made (suc left) t a =
    given_gives (entering_column (next_in n m cost t))
    (Ok (record { made = made; left = suc left; table = t; next = next_in n m cost t }))
    (Ok (record { made = made; left = suc left; table = t; next = next_in n m cost t }))
    (λ c. and_then (entered A (suc made) n m c t) (λ u. phase A n m cost (suc made) left u))
    (λ c. and_then (entered B (suc made) n m c t) (λ u. phase B n m cost (suc made) left u))
    (same_gives (Ok (record { made = made; left = suc left; table = t; next = next_in n m cost t })))
    (λ c. then_gives (entered A (suc made) n m c t) (entered B (suc made) n m c t) (λ u. phase A n m cost (suc made) left u)
    (λ u. phase B n m cost (suc made) left u)
    (entered_gives A B (suc made) n m c t a) (λ u. phase_gives A B n m cost (suc made) left u a))

by_left_gives : {X E : Type 0} (left : ℕ) (none : Result X E) (f g : ℕ → Result X E) → ((k : ℕ) → Gives (f k) (g k)) →
    Gives (by_left left none f) (by_left left none g)
by_left_gives zero none f g h = same_gives none
by_left_gives (suc k) none f g h = h k

drive_gives : (A B : Arithmetic) (m i k made left : ℕ) (t : Tableau) → Agrees A B → Gives (driven_out A m i k made left t) (driven_out B m i k made left t)
drive_gives A B m i zero made left t a = same_gives (Ok (record { made = made; left = left; table = t; next = Settled }))
drive_gives A B m i (suc k) made left t a =
    given_gives (driven m i t) (driven_out A m (suc i) k made left t) (driven_out B m (suc i) k made left t)
    (λ c. by_left left (Ok (record { made = made; left = 0; table = t; next = Enters c }))
    (λ left. and_then (pivoted A (suc made) i c t) (λ u. driven_out A m (suc i) k (suc made) left u)))
    (λ c. by_left left (Ok (record { made = made; left = 0; table = t; next = Enters c }))
    (λ left. and_then (pivoted B (suc made) i c t) (λ u. driven_out B m (suc i) k (suc made) left u)))
    (drive_gives A B m (suc i) k made left t a)
    (λ c. by_left_gives left (Ok (record { made = made; left = 0; table = t; next = Enters c }))
    (λ left. and_then (pivoted A (suc made) i c t) (λ u. driven_out A m (suc i) k (suc made) left u))
    (λ left. and_then (pivoted B (suc made) i c t) (λ u. driven_out B m (suc i) k (suc made) left u))
    (λ left. then_gives (pivoted A (suc made) i c t) (pivoted B (suc made) i c t) (λ u. driven_out A m (suc i) k (suc made) left u)
    (λ u. driven_out B m (suc i) k (suc made) left u)
    (pivoted_gives A B (suc made) i c t a) (λ u. drive_gives A B m (suc i) k (suc made) left u a)))

second_gives : (A B : Arithmetic) (n m : ℕ) (stop : Stop) → Agrees A B → Gives (second_phase A n m stop) (second_phase B n m stop)
second_gives A B n m stop a =
    given_gives (entering_column stop.next)
    (and_then (phase A n m (n + 1) stop.made stop.left stop.table) (λ stop. Ok (record { answer = second_answer stop.next; table = stop.table })))
    (and_then (phase B n m (n + 1) stop.made stop.left stop.table) (λ stop. Ok (record { answer = second_answer stop.next; table = stop.table })))
    (λ c. Ok (record { answer = Err PivotLimit; table = stop.table })) (λ c. Ok (record { answer = Err PivotLimit; table = stop.table }))
    (then_gives (phase A n m (n + 1) stop.made stop.left stop.table) (phase B n m (n + 1) stop.made stop.left stop.table)
    (λ stop. Ok (record { answer = second_answer stop.next; table = stop.table }))
    (λ stop. Ok (record { answer = second_answer stop.next; table = stop.table }))
    (phase_gives A B n m (n + 1) stop.made stop.left stop.table a) (λ stop. same_gives (Ok (record { answer = second_answer stop.next; table = stop.table }))))
    (λ c. same_gives (Ok (record { answer = Err PivotLimit; table = stop.table })))

-- the run from a loaded tableau
pub run_gives : (A B : Arithmetic) (n m most : ℕ) (t : Tableau) → Agrees A B → Gives (run_from A n m most t) (run_from B n m most t)
run_gives A B n m most t a =
    then_gives (phase A n m n 0 most t) (phase B n m n 0 most t) (after_first A n m) (after_first B n m) (phase_gives A B n m n 0 most t a)
    (λ stop. given_gives (entering_column stop.next)
    (if is_zero (cell stop.table n (n + m)) then and_then (driven_out A m 0 n stop.made stop.left stop.table) (second_phase A n m) else Ok
    (record { answer = Ok NoWeights; table = stop.table }))
    (if is_zero (cell stop.table n (n + m)) then and_then (driven_out B m 0 n stop.made stop.left stop.table) (second_phase B n m) else Ok
    (record { answer = Ok NoWeights; table = stop.table }))
    (λ c. Ok (record { answer = Err PivotLimit; table = stop.table })) (λ c. Ok (record { answer = Err PivotLimit; table = stop.table }))
    (if_gives (is_zero (cell stop.table n (n + m))) (and_then (driven_out A m 0 n stop.made stop.left stop.table) (second_phase A n m))
    (and_then (driven_out B m 0 n stop.made stop.left stop.table) (second_phase B n m))
    (Ok (record { answer = Ok NoWeights; table = stop.table })) (Ok (record { answer = Ok NoWeights; table = stop.table }))
    (then_gives (driven_out A m 0 n stop.made stop.left stop.table) (driven_out B m 0 n stop.made stop.left stop.table) (second_phase A n m)
    (second_phase B n m)
    (drive_gives A B m 0 n stop.made stop.left stop.table a) (λ stop. second_gives A B n m stop a))
    (same_gives (Ok (record { answer = Ok NoWeights; table = stop.table }))))
    (λ c. same_gives (Ok (record { answer = Err PivotLimit; table = stop.table }))))

fraction_value : (w : ℕ) (x z : ℚ) → Ok z ≡ fraction_in w x → z ≡ x
unfolding fraction_in
fraction_value w x z h = exact_value w (x.num ∷ den x ∷ []) z x h

-- a width gives what no width gives
pub exact_agrees : (w : ℕ) → Agrees (at_width w) exact
exact_agrees w =
    let s : IsSound (at_width w) = at_width_sound w in
    record {
      fraction = λ x z h. ap Ok (fraction_value w x z h);
      sum = λ x y z h. ap Ok (s.sum x y z h);
      difference = λ x y z h. ap Ok (s.difference x y z h);
      product = λ x y z h. ap Ok (s.product x y z h);
      quotient = λ x y z h. ap Ok (s.quotient x y z h);
      comparison = λ x y o h. ap Ok (s.comparison x y o h);
    }

-- so a run that is not refused at a width is the run over fractions of any size
pub run_exact : (w n m most : ℕ) (t : Tableau) (ended : Ended) → Ok ended ≡ run_from (at_width w) n m most t → Ok ended ≡ run_from exact n m most t
run_exact w n m most t ended h = run_gives (at_width w) exact n m most t (exact_agrees w) ended h
