-- The weights and the ray that are read are weights: positive fractions at ascending places below the number of rows. Whether the
-- fractions fit is a matter of the arithmetic that the tableau came from, and is asked for here.
use Rattle.std.proofs.Common.{◌≡◌, ℕ, zero, suc, ◌<◌, ◌≤◌, ◌+◌, ◌==◌, Bool, true, false, if◌then◌else◌, ℤ, pos, Option, Some, None}
use Rattle.std.proofs.Common.{List, [], ◌∷◌, ◌++◌, flat_map, length, map, get_or, All, AllPairs, Ok, refl, sym, subst, ◌∙◌, ◌⊎◌, inl, inr, arith}
use Rattle.std.specs.List.{range_with_len}
use Rattle.std.proofs.lemmas.Int.{ints}
use Rattle.std.proofs.lemmas.List.Elements.{All-nil, All-cons}
use Rattle.std.proofs.lemmas.Bool.Decides.{Decides-int_eq}
use Rattle.std.specs.Ordering.{int_eq}
use lib.IntN.{◌*ℤ◌}
use lib.Signed.{◌<ℤ◌, ◌≤ℤ◌}
use Rattle.pa_math.specs.Answers.{given}
use Rattle.pa_math.specs.Rational.{ℚ, den, whole, neg_ℚ}
use Rattle.pa_math.specs.RationalOrder.{◌≤ℚ◌}
use Rattle.pa_math.proofs.RationalOrders.{nonneg_num, whole-≤ℤ}
use Rattle.pa_math.proofs.RationalTactics.{by_le, gap, reads}
use Rattle.pa_frac.specs.Operations.{is_zero}
use Rattle.pa_ring.proofs.Integers.{positive-*ℤ, <ℤ-≤ℤ, ≤ℤ-*ℤ_cancel}
use Rattle.pa_meaning.specs.Weights.{NoneNegative}
use Rattle.pa_row.specs.Fractions.{AreOver, AreWeights, IsFraction, WeightPart, fraction_of, placed}
use Rattle.pa_tableau.specs.Tableau.{Tableau, cell}
use Rattle.pa_replay.specs.declared.«end».End.TheVariants.{Least, Endless}
use Rattle.pa_replay.specs.Problem.{Problem}
use Rattle.pa_replay.specs.Readings.{IsAscending, line_of, ray_read, weight_at, weights_read}
use Rattle.pa_replay.specs.Replay.{Ended, basic, can_leave, first_from}
use Rattle.pa_replay.proofs.Ended.{Known}
use Rattle.pa_replay.proofs.Never.{falls_at}
use Rattle.pa_replay.proofs.Runs.{first_present}
use Rattle.pa_replay.proofs.Solved.{IsSolved}
use Rattle.pa_replay.proofs.Weighted.{never_leaves}
use Rattle.pa_replay.proofs.WeightSums.{ArePositive}

from_later : (a b z : ℕ) (parts : List WeightPart) → a ≤ b → IsAscending b z parts → IsAscending a z parts
from_later a b z [] low h = tt
from_later a b z (part ∷ parts) low h = (let after = h.0 in omega (arith, low, after), h.1, h.2, h.3)

-- ---- what stands at one place is followed by what stands at the later ones
abbrev pub Leads : ℕ → ℕ → List WeightPart → Type 0
Leads z j front = (parts : List WeightPart) → IsAscending (j + 1) z parts → IsAscending j z (front ++ parts)

leads_none : (z j : ℕ) → Leads z j []
leads_none z j parts h = from_later j (j + 1) z parts (omega arith) h

positive_number : (n : ℤ) → pos 0 ≤ℤ n → int_eq n (pos 0) ≡ false → pos 0 <ℤ n
positive_number n up nonzero = by_order (search (arith, ints))
  where
    by_order : (pos 0 <ℤ n) ⊎ (n ≡ pos 0) → pos 0 <ℤ n
    by_order (inl low) = low
    by_order (inr none) = absurd (cc (sym nonzero ∙ (Decides-int_eq n (pos 0)).1 none))

leads_weight : (z j : ℕ) (q : ℚ) → j < z → whole (pos 0) ≤ℚ q → Leads z j (weight_at j q)
leads_weight z j q low up parts h = by_zero (is_zero q) refl
  where
    by_zero : (b : Bool) → is_zero q ≡ b → IsAscending j z ((if b then [] else (j, q.num, den q) ∷ []) ++ parts)
    by_zero true e = leads_none z j parts h
    by_zero false e = (omega arith, low, positive_number q.num (nonneg_num up) e, h)

-- what stands in the line in which a column is basic
leads_line : (n z j : ℕ) (t : Tableau) (v : ℕ → ℚ) → j < z → ((k : ℕ) → k < n → whole (pos 0) ≤ℚ v k) →
    Leads z j (given [] (line_of n t j) (λ k. weight_at j (v k)))
leads_line n z j t v low up = by_line (line_of n t j) refl
  where
    by_line : (o : Option ℕ) → first_from (λ k. basic t k == j) 0 n ≡ o → Leads z j (given [] o (λ k. weight_at j (v k)))
    by_line None e = leads_none z j
    by_line (Some k) e =
        let found = first_present (λ k. basic t k == j) 0 n k e in
        leads_weight z j (v k) low (up k (let below = found.0 in omega (arith, below)))

ascending_range : (g : ℕ → List WeightPart) (z a m : ℕ) → a + m ≤ z → ((j : ℕ) → j < z → Leads z j (g j)) →
    IsAscending a z (flat_map g (range_with_len a m))
ascending_range g z a zero room h = tt
ascending_range g z a (suc m) room h =
    h a (omega arith) (flat_map g (range_with_len (a + 1) m)) (ascending_range g z (a + 1) m (omega arith) h)

-- ---- the two readings
pub weights_ascending : (n m : ℕ) (t : Tableau) → ((k : ℕ) → k < n → whole (pos 0) ≤ℚ cell t k (n + m)) → IsAscending 0 m (weights_read n m t)
weights_ascending n m t up =
    ascending_range (λ j. given [] (line_of n t j) (λ k. weight_at j (cell t k (n + m)))) m 0 m (omega arith)
    (λ j low. leads_line n m j t (λ k. cell t k (n + m)) low up)

pub ray_ascending : (n m c : ℕ) (t : Tableau) → can_leave n c t ≡ false → IsAscending 0 m (ray_read n m c t)
ray_ascending n m c t stuck =
    ascending_range (λ j. if j == c then weight_at j (whole (pos 1)) else given [] (line_of n t j) (λ k. weight_at j (neg_ℚ (cell t k c)))) m 0 m (omega arith)
    (λ j low. by_test j low (j == c))
  where
    raised : (k : ℕ) → k < n → whole (pos 0) ≤ℚ neg_ℚ (cell t k c)
    raised k low = by_le (cell t k c ∷ []) (gap (never_leaves n c t stuck k low)) (search reads depth 40) tt

    by_test : (j : ℕ) → j < m → (b : Bool) →
        Leads m j (if b then weight_at j (whole (pos 1)) else given [] (line_of n t j) (λ k. weight_at j (neg_ℚ (cell t k c))))
    by_test j low true = leads_weight m j (whole (pos 1)) low (whole-≤ℤ (search (arith, ints)))
    by_test j low false = leads_line n m j t (λ k. neg_ℚ (cell t k c)) low raised

-- ---- so they are weights
all_positive : (a z : ℕ) (parts : List WeightPart) → IsAscending a z parts → All (λ (part : WeightPart). pos 0 <ℤ part.1) parts
all_positive a z [] h = All-nil (λ (part : WeightPart). pos 0 <ℤ part.1)
all_positive a z (part ∷ parts) h = All-cons (λ (part : WeightPart). pos 0 <ℤ part.1) part parts h.2 (all_positive (part.0 + 1) z parts h.3)

pub all_placed : (a z : ℕ) (parts : List WeightPart) → IsAscending a z parts → All (λ (part : WeightPart). part.0 < z) parts
all_placed a z [] h = All-nil (λ (part : WeightPart). part.0 < z)
all_placed a z (part ∷ parts) h = All-cons (λ (part : WeightPart). part.0 < z) part parts h.1 (all_placed (part.0 + 1) z parts h.3)

-- the same of their numerators over a denominator
pub numbers_placed : (a z : ℕ) (parts : List WeightPart) (ns : List ℤ) → IsAscending a z parts → All (λ (part : ℕ × ℤ). part.0 < z) (placed parts ns)
numbers_placed a z [] ns h = All-nil (λ (part : ℕ × ℤ). part.0 < z)
numbers_placed a z (part ∷ parts) [] h = All-nil (λ (part : ℕ × ℤ). part.0 < z)
numbers_placed a z (part ∷ parts) (n ∷ ns) h =
    All-cons (λ (part : ℕ × ℤ). part.0 < z) (part.0, n) (placed parts ns) h.1 (numbers_placed (part.0 + 1) z parts ns h.3)

from_first : (a z : ℕ) (parts : List WeightPart) → IsAscending a z parts → (j : ℕ) (d : WeightPart) → j < length parts → a ≤ (get_or parts j d).0
from_first a z [] h j d low = absurd (omega (arith, low))
from_first a z (part ∷ parts) h zero d low = h.0
from_first a z (part ∷ parts) h (suc j) d low =
    let later : part.0 + 1 ≤ (get_or parts j d).0 = from_first (part.0 + 1) z parts h.3 j d (omega (arith, low)) in
    let here = h.0 in
    omega (arith, later, here)

all_ascending : (a z : ℕ) (parts : List WeightPart) → IsAscending a z parts → AllPairs (λ (x y : WeightPart). x.0 < y.0) parts
all_ascending a z [] h i j d less low = absurd (omega (arith, low))
all_ascending a z (part ∷ parts) h i zero d less low = absurd (omega (arith, less))
all_ascending a z (part ∷ parts) h zero (suc j) d less low =
    let later : part.0 + 1 ≤ (get_or parts j d).0 = from_first (part.0 + 1) z parts h.3 j d (omega (arith, low)) in
    omega (arith, later)
all_ascending a z (part ∷ parts) h (suc i) (suc j) d less low =
    all_ascending (part.0 + 1) z parts h.3 i j d (omega (arith, less)) (omega (arith, low))

pub are_weights : (a z : ℕ) (parts : List WeightPart) → IsAscending a z parts → All (λ part. IsFraction (fraction_of part)) parts → AreWeights parts
are_weights a z parts h fit = record {
  fractions = fit;
  positive = all_positive a z parts h;
  ascending = all_ascending a z parts h;
}

-- ---- at the ends of a run
pub least_ascending : (p : Problem) (ended : Ended) → IsSolved p ended → ended.answer ≡ Ok Least →
    IsAscending 0 (length p.rows) (weights_read (length p.target) (length p.rows) ended.table)
least_ascending p ended s e =
    let known : Known (length p.target) (length p.rows) s.start ended.table (Ok Least) =
    subst (Known (length p.target) (length p.rows) s.start ended.table) e s.known in
    weights_ascending (length p.target) (length p.rows) ended.table known.feasible.values

pub last_ascending : (p : Problem) (ended : Ended) (c : ℕ) → IsSolved p ended → ended.answer ≡ Ok (Endless c) →
    IsAscending 0 (length p.rows) (weights_read (length p.target) (length p.rows) ended.table)
last_ascending p ended c s e =
    let known : Known (length p.target) (length p.rows) s.start ended.table (Ok (Endless c)) =
    subst (Known (length p.target) (length p.rows) s.start ended.table) e s.known in
    weights_ascending (length p.target) (length p.rows) ended.table known.feasible.values

pub endless_inside : (p : Problem) (ended : Ended) (c : ℕ) → IsSolved p ended → ended.answer ≡ Ok (Endless c) → c < length p.rows
endless_inside p ended c s e =
    let known : Known (length p.target) (length p.rows) s.start ended.table (Ok (Endless c)) =
    subst (Known (length p.target) (length p.rows) s.start ended.table) e s.known in
    (falls_at (length p.target) (length p.rows) (length p.target + 1) c ended.table known.comes).0

pub endless_ascending : (p : Problem) (ended : Ended) (c : ℕ) → IsSolved p ended → ended.answer ≡ Ok (Endless c) →
    IsAscending 0 (length p.rows) (ray_read (length p.target) (length p.rows) c ended.table)
endless_ascending p ended c s e =
    let known : Known (length p.target) (length p.rows) s.start ended.table (Ok (Endless c)) =
    subst (Known (length p.target) (length p.rows) s.start ended.table) e s.known in
    let (inside, down, stuck) = falls_at (length p.target) (length p.rows) (length p.target + 1) c ended.table known.comes in
    ray_ascending (length p.target) (length p.rows) c ended.table stuck

-- and so are their numerators over a positive denominator
not_below : (n d num q : ℤ) → pos 0 <ℤ d → pos 0 <ℤ num → pos 0 <ℤ q → n *ℤ d ≡ num *ℤ q → pos 0 ≤ℤ n
not_below n d num q d_up num_up up e =
    let high : pos 0 ≤ℤ (n *ℤ d) = subst (λ t. pos 0 ≤ℤ t) (sym e) (<ℤ-≤ℤ (positive-*ℤ num q num_up up)) in
    ≤ℤ-*ℤ_cancel (pos 0) n d d_up (subst (λ t. t ≤ℤ (n *ℤ d)) (omega (arith, ints)) high)

pub none_negative : (a z : ℕ) (parts : List WeightPart) (q : ℤ) (ns : List ℤ) → IsAscending a z parts → ArePositive parts → pos 0 <ℤ q →
    AreOver q (map fraction_of parts) ns → NoneNegative (placed parts ns)
none_negative a z [] q ns h dens up over = All-nil (λ (part : ℕ × ℤ). pos 0 ≤ℤ part.1)
none_negative a z (part ∷ parts) q [] h dens up over = absurd over
none_negative a z (part ∷ parts) q (n ∷ ns) h dens up over =
    All-cons (λ (part : ℕ × ℤ). pos 0 ≤ℤ part.1) (part.0, n) (placed parts ns) (not_below n part.2 part.1 q dens.0 h.2 up over.0)
    (none_negative (part.0 + 1) z parts q ns h.3 dens.1 up over.1)
