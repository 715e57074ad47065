-- What the ends of the problem show of the given rows and the term.
use Rattle.std.proofs.Common.{◌≡◌, refl, sym, ap, ap₂, ◌∙◌, subst, ℕ, ◌+◌, ◌-ℤ◌, ◌<◌, ◌≤◌, List, [], ◌∷◌, drop}
use Rattle.std.proofs.Common.{length, map, All, true, int_div, ◌-◌, arith, rules}
use Rattle.std.proofs.lemmas.Int.{ints}
use Rattle.std.proofs.lemmas.List.{length-drop, length-map}
use Rattle.std.proofs.lemmas.List.Elements.{All-nil, All-cons, All-head, All-tail, All-weaker}
use lib.IntN.{ℤ, pos, negsuc, ◌+ℤ◌, ◌*ℤ◌, neg_ℤ}
use lib.Signed.{◌≤ℤ◌, ◌<ℤ◌}
use Rattle.pa_ring.specs.Sums.{SameNumbers, dot, number_at, times}
use Rattle.pa_ring.proofs.Integers.{null, ◌⋆◌, ◌⊞◌, ◌⊙◌, *ℤ_cancel}
use Rattle.pa_ring.proofs.IntegerTactics.{by_equations, by_ring, reads}
use Rattle.pa_ring.proofs.Sums.{dot_same, dot-times, number_at-sum_of, number_at-times}
use Rattle.pa_math.specs.Divisors.{gcd_all}
use Rattle.pa_meaning.specs.Rows.{Row, Point, Meets}
use Rattle.pa_meaning.specs.Weights.{Weights, combined}
use Rattle.pa_meaning.specs.Directions.{Makes}
use Rattle.pa_meaning.specs.Shifting.{Leaves, less_weighted, shifted}
use Rattle.pa_meaning.proofs.PrimitiveRows.{Meets-primitive, number_at-quotients, zero_quotient}
use Rattle.pa_meaning.proofs.Shifting.{Meets-shifted, drop_number}
use Rattle.pa_witness.specs.Shifts.{ShiftHolds}
use Rattle.pa_witness.proofs.Widths.{shifted_length}
use Rattle.pa_row.specs.Fractions.{AreOver, IsFraction}
use Rattle.pa_row.specs.Width.{IsCanonical}
use Rattle.pa_row.proofs.Quotients.{gcd_all_one}
use Rattle.pa_row.proofs.WeightedSums.{Decides-zeros}
use Rattle.pa_frac.specs.Width.{Fits}
use Rattle.pa_replay.specs.Problem.{IsPosed, Problem}
use Rattle.pa_replay.specs.Readings.{EndlessRead, LeastRead}
use Rattle.pa_replay.specs.Shown.{ShowsEndless, ShowsLeast, ShowsNoWeights, asked}
use Rattle.pa_farkas.proofs.Defined.{HasDenominators}
use Rattle.pa_shift.specs.Meant.{CanShift, IsExactAt, ShowsLeft, ShowsStuck, back_row}
use Rattle.pa_shift.specs.Seen.{AreCosts}
use Rattle.pa_shift.specs.Shifting.{Premises, are_zero, no_weights, target_of}
use Rattle.pa_shift.proofs.Costs.{behind, behind_all, bound_priced, combined_priced, costs_are, priced}
use Rattle.pa_shift.proofs.Nominal.{IsTight, exact_by, joined, joined_all, joined_extends, joined_sum}

-- the problem in the columns that go
abbrev pub of_term : Premises → List Row → Row → Problem
of_term given costs t = record { rows = costs; target = target_of given.nominal t }

-- ---- weights that leave nothing of the term in the columns that go
-- what is made primitive has 0 there too
shift_from_leaves : (n : ℕ) (rows : List Row) (t : Row) (w : Weights) → Leaves n rows t w → ShiftHolds n rows t w
shift_from_leaves n rows t w h =
    let r : Row = less_weighted t rows w in
    let g : ℤ = gcd_all (r.b ∷ r.c) in
    record {
      positive = h.positive;
      weights = h.weights;
      places = h.places;
      gone = λ i. drop_number n i (shifted t rows w).c ∙ number_at-quotients g r.c (i + n) ∙ ap (λ z. int_div z g) (sym (drop_number n i r.c) ∙ h.gone i)
          ∙ zero_quotient g;
    }

-- a number of what is left behind the first columns
left_number : (n : ℕ) (rows : List Row) (t : Row) (w : Weights) (i : ℕ)
    → number_at (drop n (less_weighted t rows w).c) i
    ≡ w.den *ℤ number_at (drop n t.c) i -ℤ number_at (drop n (combined w.parts rows).c) i
left_number n rows t w i =
    let s : Row = combined w.parts rows in
    drop_number n i (less_weighted t rows w).c
    ∙ number_at-sum_of (times w.den t.c) (times (negsuc 0) s.c) (i + n)
    ∙ ap₂ ◌+ℤ◌ (number_at-times w.den t.c (i + n)) (number_at-times (negsuc 0) s.c (i + n))
    ∙ by_ring (w.den ∷ number_at t.c (i + n) ∷ number_at s.c (i + n) ∷ []) (search reads depth 40) tt
    ∙ ap₂ (λ a b. w.den *ℤ a -ℤ b) (sym (drop_number n i t.c)) (sym (drop_number n i s.c))

module _ (given : Premises) (t : Row) where
  abbrev x : Point
  x = given.nominal

  abbrev n : ℕ
  n = length given.nominal.p

  abbrev priced_rows : List Row
  priced_rows = map (priced given.nominal) given.rows

  abbrev problem : Problem
  problem = of_term given priced_rows t

  -- weights make the term's numbers there of the rows with their costs exactly where they leave nothing of it
  made_leaves : (w : Weights) → Makes w priced_rows (asked problem) → Leaves n given.rows t w
  made_leaves w m = record {
    positive = m.positive;
    weights = m.weights;
    places = subst (λ k. All (λ (part : ℕ × ℤ). part.0 < k) w.parts) (length-map given.rows (priced x)) m.places;
    gone = λ i.
        let same : number_at (drop n (combined w.parts given.rows).c) i ≡ w.den *ℤ number_at (drop n t.c) i =
        sym (combined_priced x given.rows w.parts i) ∙ m.coefficients i ∙ number_at-times w.den (drop n t.c) i in
        left_number n given.rows t w i ∙ ap (λ z. w.den *ℤ number_at (drop n t.c) i -ℤ z) same
        ∙ by_ring (w.den ∷ number_at (drop n t.c) i ∷ []) (search reads depth 40) tt;
  }

  leaves_made : (w : Weights) → Leaves n given.rows t w → Makes w priced_rows (asked problem)
  leaves_made w l = record {
    positive = l.positive;
    weights = l.weights;
    places = subst (λ k. All (λ (part : ℕ × ℤ). part.0 < k) w.parts) (sym (length-map given.rows (priced x))) l.places;
    coefficients = λ i.
        let none : w.den *ℤ number_at (drop n t.c) i -ℤ number_at (drop n (combined w.parts given.rows).c) i ≡ pos 0 =
        sym (left_number n given.rows t w i) ∙ l.gone i in
        combined_priced x given.rows w.parts i
        ∙ by_equations (w.den ∷ number_at (drop n t.c) i ∷ number_at (drop n (combined w.parts given.rows).c) i ∷ []) (negsuc 0 ⋆ null none)
        (search reads depth 40) tt
        ∙ sym (number_at-times w.den (drop n t.c) i);
  }

  -- ---- the least end
  -- at a point of the least end the weighted rows are met exactly
  least_tight : (a : LeastRead) → ShowsLeast problem a → (y : Point) → pos 0 <ℤ y.q → AreOver y.q a.point y.p
      → IsTight given.rows a.weights (joined x y)
  least_tight a s y up over =
      let w : Weights = a.weights in
      let sum : Row = combined w.parts given.rows in
      let sum_behind : Row = combined w.parts priced_rows in
      let takes : a.value.1 *ℤ dot (drop n t.c) y.p ≡ y.q *ℤ a.value.0 = s.takes y up over in
      let made : dot (drop n sum.c) y.p ≡ w.den *ℤ dot (drop n t.c) y.p =
      dot_same (drop n sum.c) sum_behind.c y.p (λ i. sym (combined_priced x given.rows w.parts i))
      ∙ dot_same sum_behind.c (times w.den (drop n t.c)) y.p s.makes.coefficients ∙ dot-times w.den (drop n t.c) y.p in
      let cost : sum_behind.b ≡ x.q *ℤ sum.b -ℤ dot sum.c x.p = bound_priced x given.rows w.parts in
      let whole : (w.den *ℤ dot (drop n t.c) y.p) *ℤ a.value.1 ≡ (y.q *ℤ sum_behind.b) *ℤ a.value.1 =
      by_equations (w.den ∷ dot (drop n t.c) y.p ∷ a.value.1 ∷ a.value.0 ∷ y.q ∷ sum_behind.b ∷ [])
      (w.den ⋆ null takes ⊞ neg_ℤ y.q ⋆ null s.sum) (search reads depth 40) tt in
      let same : w.den *ℤ dot (drop n t.c) y.p ≡ y.q *ℤ sum_behind.b =
      *ℤ_cancel (w.den *ℤ dot (drop n t.c) y.p) (y.q *ℤ sum_behind.b) a.value.1 s.positive whole in
      joined_sum x y sum.c
      ∙ ap (λ z. y.q *ℤ dot sum.c x.p +ℤ z) (made ∙ same)
      ∙ ap (λ z. y.q *ℤ dot sum.c x.p +ℤ y.q *ℤ z) cost
      ∙ by_ring (y.q ∷ x.q ∷ sum.b ∷ dot sum.c x.p ∷ []) (search reads depth 40) tt

-- fractions with positive denominators have a common one
pub record IsCommon (fs : List (ℤ × ℤ)) (y : Point) : Type 0 where
  pub positive : pos 0 <ℤ y.q
  pub over : AreOver y.q fs y.p

more_over : (k q : ℤ) (fs : List (ℤ × ℤ)) (ns : List ℤ) → AreOver q fs ns → AreOver (q *ℤ k) fs (times k ns)
more_over k q [] [] h = h
more_over k q [] (n ∷ ns) h = h
more_over k q (f ∷ fs) [] h = h
more_over k q (f ∷ fs) (n ∷ ns) h =
    (by_equations (k ∷ q ∷ n ∷ f.0 ∷ f.1 ∷ []) (k ⋆ null h.0) (search reads depth 40) tt, more_over k q fs ns h.1)

pub common_point : (fs : List (ℤ × ℤ)) → HasDenominators fs → (y : Point) × IsCommon fs y
common_point [] h = (record { p = []; q = pos 1 }, record { positive = omega (arith, ints); over = tt })
common_point (f ∷ fs) h =
    let (y, is) = common_point fs (All-tail (λ (f : ℤ × ℤ). pos 0 <ℤ f.1) f fs h) in
    let up : pos 0 <ℤ f.1 = All-head (λ (f : ℤ × ℤ). pos 0 <ℤ f.1) f fs h in (
      record { p = (f.0 *ℤ y.q) ∷ times f.1 y.p; q = y.q *ℤ f.1 },
      record {
        positive = is.positive ⊙ up;
        over = (by_ring (f.0 ∷ f.1 ∷ y.q ∷ []) (search reads depth 40) tt, more_over f.1 y.q fs y.p is.over);
      },
    )

pub fractions_have : (fs : List (ℤ × ℤ)) → All IsFraction fs → HasDenominators fs
fractions_have fs h = All-weaker IsFraction (λ (f : ℤ × ℤ). pos 0 <ℤ f.1) (λ f is. is.reduced.positive) fs h

-- ---- the problem is posed
columns_priced : (x : Point) (n : ℕ) (rows : List Row) → All (λ (r : Row). length r.c ≡ n) rows
    → All (λ (r : Row). length r.c ≡ n - length x.p) (map (priced x) rows)
columns_priced x n [] h = All-nil (λ (r : Row). length r.c ≡ n - length x.p)
columns_priced x n (row ∷ rows) h =
    All-cons (λ (r : Row). length r.c ≡ n - length x.p) (priced x row) (map (priced x) rows)
    (length-drop (length x.p) row.c ∙ ap (λ k. k - length x.p) (All-head (λ (r : Row). length r.c ≡ n) row rows h))
    (columns_priced x n rows (All-tail (λ (r : Row). length r.c ≡ n) row rows h))

-- the rows have as many columns as the target
pub costs_over : (given : Premises) (costs : List Row) (t : Row) → All (λ (r : Row). length r.c ≡ length t.c) given.rows → AreCosts given costs
    → All (λ (r : Row). length r.c ≡ length (target_of given.nominal t)) costs
costs_over given costs t columns are =
    subst (λ k. All (λ (r : Row). length r.c ≡ k) costs) (sym (length-drop (length given.nominal.p) t.c))
    (subst (λ rows. All (λ (r : Row). length r.c ≡ length t.c - length given.nominal.p) rows) (sym (costs_are given costs are))
    (columns_priced given.nominal (length t.c) given.rows columns))

pub as_many : (given : Premises) (costs : List Row) → AreCosts given costs → length costs ≡ length given.rows
as_many given costs are = ap length (costs_are given costs are) ∙ length-map given.rows (priced given.nominal)

pub costs_posed : (given : Premises) (costs : List Row) (t : Row) (target : List ℤ) → CanShift given t → AreCosts given costs
    → target ≡ target_of given.nominal t → All (Fits 126) target → IsPosed (record { rows = costs; target = target })
costs_posed given costs t target can are is narrow = record {
  few = subst (λ k. k ≤ 4096) (sym (as_many given costs are)) can.few;
  short =
      let long : length target ≡ length t.c - length given.nominal.p = ap length is ∙ length-drop (length given.nominal.p) t.c in
      let most : length t.c ≤ 128 = can.short in
      omega (arith, long, most);
  columns = subst (λ ns. All (λ (r : Row). length r.c ≡ length ns) costs) (sym is) (costs_over given costs t can.columns are);
  narrow = narrow;
}

-- the direction has a number for each of their columns
pub direction_columns : (given : Premises) (costs : List Row) (t : Row) (d : List ℤ) → CanShift given t → AreCosts given costs
    → ShowsNoWeights (of_term given costs t) d → All (λ (r : Row). length r.c ≤ length d) costs
direction_columns given costs t d can are s =
    All-weaker (λ (r : Row). length r.c ≡ length (target_of given.nominal t)) (λ (r : Row). length r.c ≤ length d)
    (λ r same. let long : length d ≡ length (target_of given.nominal t) = s.columns in omega (arith, same, long)) costs
    (costs_over given costs t can.columns are)

-- ---- what the ends show
pub least_shift : (given : Premises) (costs : List Row) (t : Row) (a : LeastRead) → AreCosts given costs → ShowsLeast (of_term given costs t) a
    → ShiftHolds (length given.nominal.p) given.rows t a.weights
least_shift given costs t a are s = shift_from_leaves (length given.nominal.p) given.rows t a.weights
    (made_leaves given t a.weights (subst (λ rows. ShowsLeast (of_term given rows t) a) (costs_are given costs are) s).makes)

pub least_exact : (given : Premises) (costs : List Row) (t : Row) (a : LeastRead) → pos 0 <ℤ given.nominal.q → HasDenominators a.point → AreCosts given costs
    → ShowsLeast (of_term given costs t) a → IsExactAt given t (shifted t given.rows a.weights)
least_exact given costs t a up dens are shows =
    let s = subst (λ rows. ShowsLeast (of_term given rows t) a) (costs_are given costs are) shows in
    let (y, is) = common_point a.point dens in
    exact_by given t a.weights up (made_leaves given t a.weights s.makes)
    (λ z e m. (
      joined given.nominal y,
      record {
        extends = joined_extends given.nominal y up is.positive;
        meets = joined_all given.nominal y given.rows (s.meets y is.positive is.over);
        tight = least_tight given t a s y is.positive is.over;
      },
    ))

pub endless_shift : (given : Premises) (costs : List Row) (t : Row) (a : EndlessRead) → AreCosts given costs → ShowsEndless (of_term given costs t) a
    → ShiftHolds (length given.nominal.p) given.rows t a.last
endless_shift given costs t a are s = shift_from_leaves (length given.nominal.p) given.rows t a.last
    (made_leaves given t a.last (subst (λ rows. ShowsEndless (of_term given rows t) a) (costs_are given costs are) s).makes)

-- no extension of the nominal point meets the rows
pub endless_exact : (given : Premises) (costs : List Row) (t : Row) (a : EndlessRead) → pos 0 <ℤ given.nominal.q → AreCosts given costs
    → ShowsEndless (of_term given costs t) a → IsExactAt given t (shifted t given.rows a.last)
endless_exact given costs t a up are shows =
    let s = subst (λ rows. ShowsEndless (of_term given rows t) a) (costs_are given costs are) shows in
    λ y e m. absurd (s.unmet (behind given.nominal y) e.positive (behind_all given.nominal y given.rows up e m))

-- a term with nothing in the columns that go is left as it is
settled_leaves : (n : ℕ) (rows : List Row) (t : Row) → SameNumbers (drop n t.c) [] → Leaves n rows t no_weights
settled_leaves n rows t h = record {
  positive = omega (arith, ints);
  weights = All-nil (λ (part : ℕ × ℤ). pos 0 ≤ℤ part.1);
  places = All-nil (λ (part : ℕ × ℤ). part.0 < length rows);
  gone = λ i. left_number n rows t no_weights i ∙ ap (λ z. pos 1 *ℤ z -ℤ number_at (drop n []) i) (h i)
      ∙ ap (λ z. pos 1 *ℤ pos 0 -ℤ z) (drop_number n i []);
}

pub settled_shift : (given : Premises) (t : Row) → are_zero (target_of given.nominal t) ≡ true
    → ShiftHolds (length given.nominal.p) given.rows t no_weights
settled_shift given t h = shift_from_leaves (length given.nominal.p) given.rows t no_weights
    (settled_leaves (length given.nominal.p) given.rows t ((Decides-zeros (drop (length given.nominal.p) t.c)).0 h))

pub settled_exact : (given : Premises) (t : Row) → pos 0 <ℤ given.nominal.q → are_zero (target_of given.nominal t) ≡ true
    → IsExactAt given t (shifted t given.rows no_weights)
settled_exact given t up h = exact_by given t no_weights up
    (settled_leaves (length given.nominal.p) given.rows t ((Decides-zeros (drop (length given.nominal.p) t.c)).0 h))
    (λ y e m. (y, record { extends = e; meets = m; tight = sym (zero_product y.q) }))
  where
    zero_product : (z : ℤ) → pos 0 *ℤ z ≡ pos 0
    zero_product z = by_ring (z ∷ []) (search reads depth 40) tt

-- ---- what answers say
pub left_shows : (given : Premises) (t row : Row) (w : Weights) → CanShift given t → ShiftHolds (length given.nominal.p) given.rows t w
    → IsExactAt given t (shifted t given.rows w) → row ≡ shifted t given.rows w → ShowsLeft given t row w
left_shows given t row w can holds exact is = record {
  holds = holds;
  left = is;
  columns = ap (λ (r : Row). length r.c) is ∙ shifted_length (length t.c) t given.rows w refl can.columns;
  enough = λ y met m. Meets-shifted t given.rows w y holds.positive holds.weights met
      ((Meets-primitive (less_weighted t given.rows w) y).0 (subst (λ r. Meets r y) is m));
  exact = subst (λ r. IsExactAt given t r) (sym is) exact;
}

level_back : (x : Point) (d : List ℤ) (rows : List Row) → All (λ (r : Row). dot r.c d ≤ℤ pos 0) (map (priced x) rows)
    → All (λ (r : Row). dot r.c d ≤ℤ pos 0) (map (back_row (length x.p)) rows)
level_back x d [] h = All-nil (λ (r : Row). dot r.c d ≤ℤ pos 0)
level_back x d (row ∷ rows) h =
    All-cons (λ (r : Row). dot r.c d ≤ℤ pos 0) (back_row (length x.p) row) (map (back_row (length x.p)) rows)
    (All-head (λ (r : Row). dot r.c d ≤ℤ pos 0) (priced x row) (map (priced x) rows) h)
    (level_back x d rows (All-tail (λ (r : Row). dot r.c d ≤ℤ pos 0) (priced x row) (map (priced x) rows) h))

pub stuck_shows : (given : Premises) (costs : List Row) (t : Row) (d : List ℤ) → CanShift given t → AreCosts given costs
    → ShowsNoWeights (of_term given costs t) d → ShowsStuck given t d
stuck_shows given costs t d can are shows =
    let s = subst (λ rows. ShowsNoWeights (of_term given rows t) d) (costs_are given costs are) shows in
    let long : length d ≡ length t.c - length given.nominal.p = s.columns ∙ length-drop (length given.nominal.p) t.c in
    let nominal : length given.nominal.p ≤ length t.c = can.nominal in
    record {
      columns = omega (arith, long, nominal);
      sticks = record { level = level_back given.nominal d given.rows s.sticks.level; rises = s.sticks.rises };
      none = λ w l. s.none w (leaves_made given t w l);
    }

-- no weights have numbers that share a divisor
pub none_canonical : (parts : List (ℕ × ℤ)) → parts ≡ [] → IsCanonical (record { den = pos 1; parts = parts })
none_canonical parts e = rw e empty
  where
    empty : IsCanonical (record { den = pos 1; parts = [] })
    empty = record {
      positive = search rules;
      denominator = search rules;
      ascending = search rules;
      numerators = search rules;
      numbers = search rules;
      reduced = gcd_all_one [];
    }
