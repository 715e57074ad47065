-- Wrong answers that the definitions exclude, each on a small contract or for all.
use Rattle.std.proofs.Common.{◌≡◌, refl, sym, ap, ◌∙◌, subst, ℕ, zero, suc, ◌<◌, List, [], ◌∷◌, map, All, arith}
use Rattle.std.proofs.lemmas.Int.{ints}
use Rattle.std.proofs.lemmas.List.Elements.{All-nil, All-cons, All-head, All-tail}
use lib.IntN.{ℤ, pos, negsuc, ◌*ℤ◌, *ℤ-zero}
use Rattle.pa_ring.specs.Sums.{dot}
use Rattle.pa_meaning.specs.Rows.{Row, Meets, row_at}
use Rattle.pa_meaning.specs.Weights.{Weights, combined, impossible}
use Rattle.pa_meaning.specs.Contracts.{Name, Contract, Behaviour, coefficient_at, point_over, MeetsAssumptions, MeetsGuarantees, Keeps}
use Rattle.pa_meaning.specs.Merge.{IsMerge}
use Rattle.pa_meaning.specs.Refinement.{Refines, BreaksGuarantee}
use Rattle.pa_meaning.specs.Shifting.{less_weighted}
use Rattle.pa_meaning.specs.Composition.{Stuck, IsCircle, DischargesParts, ProjectsExactly}
use Rattle.pa_meaning.specs.Quotient.{AsksBy, QuotientLaw}
use Rattle.pa_meaning.proofs.Extensions.{extends_itself}

abbrev row : List ℤ → ℤ → Row
row c b = record { c = c; b = b }

abbrev contract : List Name → List Name → List Row → List Row → Contract
contract inputs outputs assumptions guarantees =
    record { inputs = inputs; outputs = outputs; assumptions = assumptions; guarantees = guarantees }

-- every name has this whole number
abbrev all_at : ℤ → Behaviour
all_at k = record { value = λ n. k; den = pos 1; positive = omega (arith, ints) }

-- a list of one row that is met
one_met : (names : List Name) (v : Behaviour) (r : Row) → Meets r (point_over names v) → All (λ r. Meets r (point_over names v)) (r ∷ [])
one_met names v r h = All-cons (λ r. Meets r (point_over names v)) r [] h (All-nil (λ r. Meets r (point_over names v)))

one_is_met : (names : List Name) (v : Behaviour) (r : Row) → All (λ r. Meets r (point_over names v)) (r ∷ []) → Meets r (point_over names v)
one_is_met names v r h = All-head (λ r. Meets r (point_over names v)) r [] h

-- the names a, b, x, y and z
abbrev a : Name
a = 97 ∷ []

abbrev b : Name
b = 98 ∷ []

abbrev x : Name
x = 120 ∷ []

abbrev y : Name
y = 121 ∷ []

abbrev z : Name
z = 122 ∷ []

-- ---- a merge whose assumptions are met where those of one of the two are
-- A behaviour that breaks b's assumptions breaks the merge's, also where it meets a's.
pub either_is_not_enough : (c other m : Contract) → IsMerge c other m → (v : Behaviour) → ¬ MeetsAssumptions other v → ¬ MeetsAssumptions m v
either_is_not_enough c other m h v broken met = broken ((h.assumptions v).0 met).1

-- ---- a refinement whose assumptions stand the other way round
-- assumes `x <= 1`, and `x <= 2`
abbrev narrow : Contract
narrow = contract (x ∷ []) (y ∷ []) (row (pos 1 ∷ []) (pos 1) ∷ []) []

abbrev wide : Contract
wide = contract (x ∷ []) (y ∷ []) (row (pos 1 ∷ []) (pos 2) ∷ []) []

-- x = 2 meets the wider assumption alone
pub assumptions_are_not_narrowed : ¬ Refines narrow wide
assumptions_are_not_narrowed h =
    let met : MeetsAssumptions wide (all_at (pos 2)) =
    All-cons (λ r. Meets r (point_over (x ∷ []) (all_at (pos 2)))) (row (pos 1 ∷ []) (pos 2)) [] (record { meets = omega (arith, ints) })
    (All-nil (λ r. Meets r (point_over (x ∷ []) (all_at (pos 2))))) in
    let one = (All-head (λ r. Meets r (point_over (x ∷ []) (all_at (pos 2)))) (row (pos 1 ∷ []) (pos 1)) [] (h.assumptions (all_at (pos 2)) met)).meets in
    absurd (omega (arith, ints, one))

-- ---- a no by a point outside the other contract's assumptions
-- whatever the row, a behaviour that shows that it is broken meets what the other contract assumes
pub outside_shows_nothing : (c other : Contract) (i : ℕ) (v : Behaviour) → ¬ MeetsAssumptions other v → ¬ BreaksGuarantee c other i v
outside_shows_nothing c other i v outside h = outside h.assumed

-- ---- guarantees that are used before the assumptions are met
-- `a <= 1` gives `b <= 1`, and `b <= 1` gives `a <= 1`
abbrev first : Contract
first = contract (a ∷ []) (b ∷ []) (row (pos 1 ∷ []) (pos 1) ∷ []) (row (pos 0 ∷ pos 1 ∷ []) (pos 1) ∷ [])

abbrev second : Contract
second = contract (b ∷ []) (a ∷ []) (row (pos 1 ∷ []) (pos 1) ∷ []) (row (pos 0 ∷ pos 1 ∷ []) (pos 1) ∷ [])

-- at 2 and 2 both parts keep their contracts, since neither's assumption is met
one_at_most : (n : Name) → ¬ All (λ r. Meets r (point_over (n ∷ []) (all_at (pos 2)))) (row (pos 1 ∷ []) (pos 1) ∷ [])
one_at_most n h = let one = (All-head (λ r. Meets r (point_over (n ∷ []) (all_at (pos 2)))) (row (pos 1 ∷ []) (pos 1)) [] h).meets in absurd
    (omega (arith, ints, one))

-- so no contract without assumptions is a composite of them
pub circle_needs_assumptions : (c : Contract) → c.assumptions ≡ [] → ¬ DischargesParts (first ∷ second ∷ []) c
circle_needs_assumptions c none h =
    let met : MeetsAssumptions c (all_at (pos 2)) = met_none in
    let kept : All (λ p. Keeps p (all_at (pos 2))) (first ∷ second ∷ []) =
    All-cons (λ p. Keeps p (all_at (pos 2))) first (second ∷ []) (λ k. absurd (one_at_most a k))
    (All-cons (λ p. Keeps p (all_at (pos 2))) second [] (λ k. absurd (one_at_most b k)) (All-nil (λ p. Keeps p (all_at (pos 2))))) in
    one_at_most a (All-head (λ p. MeetsAssumptions p (all_at (pos 2)) × MeetsGuarantees p (all_at (pos 2))) first (second ∷ []) (h (all_at (pos 2)) met kept)).0
  where
    met_none : MeetsAssumptions c (all_at (pos 2))
    met_none = subst (All (λ r. Meets r (point_over c.inputs (all_at (pos 2))))) (sym none) (All-nil (λ r. Meets r (point_over c.inputs (all_at (pos 2)))))

-- ---- a projection that leaves out rows with the name that goes
-- `z <= x` and `x <= 5`, of which x goes: what is left has to say `z <= 5`
abbrev stacked : Contract
stacked = contract [] (x ∷ z ∷ []) [] (row (negsuc 0 ∷ pos 1 ∷ []) (pos 0) ∷ row (pos 1 ∷ pos 0 ∷ []) (pos 5) ∷ [])

pub rows_are_not_deleted : ¬ ProjectsExactly (stacked ∷ []) (contract [] (z ∷ []) [] [])
rows_are_not_deleted h =
    let (w, e, met) = (h (all_at (pos 6))).0 (All-nil (λ r. Meets r (point_over (z ∷ []) (all_at (pos 6))))) in
    let six : w.value z *ℤ pos 1 ≡ pos 6 *ℤ w.den = All-head (λ n. w.value n *ℤ pos 1 ≡ pos 6 *ℤ w.den) z [] e in
    let both : MeetsGuarantees stacked w = All-head (λ p. MeetsGuarantees p w) stacked [] met in
    let below = (All-head (λ r. Meets r (point_over (x ∷ z ∷ []) w)) (row (negsuc 0 ∷ pos 1 ∷ []) (pos 0)) (row (pos 1 ∷ pos 0 ∷ []) (pos 5) ∷ [])
    both).meets in
    let rest = All-tail (λ r. Meets r (point_over (x ∷ z ∷ []) w)) (row (negsuc 0 ∷ pos 1 ∷ []) (pos 0)) (row (pos 1 ∷ pos 0 ∷ []) (pos 5) ∷ []) both in
    let five = (All-head (λ r. Meets r (point_over (x ∷ z ∷ []) w)) (row (pos 1 ∷ pos 0 ∷ []) (pos 5)) [] rest).meets in
    let up = w.positive in absurd (omega (arith, ints, six, below, five, up))

-- ---- a projection that lets fewer behaviours through
-- at 0 everywhere both rows are met, so what is left may not be `0 <= -1`
pub no_more_is_guaranteed : ¬ ProjectsExactly (stacked ∷ []) (contract [] (z ∷ []) [] (impossible 1 ∷ []))
no_more_is_guaranteed h =
    let zeros : Behaviour = all_at (pos 0) in
    let met : MeetsGuarantees stacked zeros = All-cons (λ r. Meets r (point_over (x ∷ z ∷ []) zeros)) (row (negsuc 0 ∷ pos 1 ∷ []) (pos 0))
    (row (pos 1 ∷ pos 0 ∷ []) (pos 5) ∷ []) (record { meets = omega (arith, ints) })
    (one_met (x ∷ z ∷ []) zeros (row (pos 1 ∷ pos 0 ∷ []) (pos 5)) (record { meets = omega (arith, ints) })) in
    let none = (one_is_met (z ∷ []) zeros (impossible 1) ((h zeros).1 (
      zeros,
      extends_itself (z ∷ []) zeros,
      All-cons (λ p. MeetsGuarantees p zeros) stacked [] met (All-nil (λ p. MeetsGuarantees p zeros)),
    ))).meets in
    absurd (omega (arith, ints, none))

-- ---- a composite that leaves out what a part assumes
-- `a <= b` is guaranteed, and a second part assumes `b <= 1`
abbrev rising : List Contract
rising = contract (a ∷ []) (b ∷ []) [] (row (pos 1 ∷ negsuc 0 ∷ []) (pos 0) ∷ []) ∷ contract (b ∷ []) [] (row (pos 1 ∷ []) (pos 1) ∷ []) [] ∷ []

-- at 2 and 2 both parts keep their contracts, and the second part's assumption is broken
pub no_assumption_is_left_out : ¬ DischargesParts rising (contract (a ∷ []) [] [] [])
no_assumption_is_left_out h =
    let twos : Behaviour = all_at (pos 2) in
    let first_part : Contract = contract (a ∷ []) (b ∷ []) [] (row (pos 1 ∷ negsuc 0 ∷ []) (pos 0) ∷ []) in
    let second_part : Contract = contract (b ∷ []) [] (row (pos 1 ∷ []) (pos 1) ∷ []) [] in
    let kept : All (λ p. Keeps p twos) rising = All-cons (λ p. Keeps p twos) first_part (second_part ∷ [])
    (λ k. one_met (a ∷ b ∷ []) twos (row (pos 1 ∷ negsuc 0 ∷ []) (pos 0)) (record { meets = omega (arith, ints) }))
    (All-cons (λ p. Keeps p twos) second_part [] (λ k. All-nil (λ r. Meets r (point_over (b ∷ []) twos))) (All-nil (λ p. Keeps p twos))) in
    let all = All-tail (λ p. MeetsAssumptions p twos × MeetsGuarantees p twos) first_part (second_part ∷ [])
    (h twos (All-nil (λ r. Meets r (point_over (a ∷ []) twos))) kept) in
    one_at_most b (All-head (λ p. MeetsAssumptions p twos × MeetsGuarantees p twos) second_part [] all).0

-- ---- circles of no part, and of a part that stands twice
pub no_circle_of_none : (parts : List Contract) → ¬ IsCircle parts []
no_circle_of_none parts h = absurd (omega (arith, h.some))

pub no_part_stands_twice : (parts : List Contract) (s t : Stuck) → s.part ≡ t.part → ¬ IsCircle parts (s ∷ t ∷ [])
no_part_stands_twice parts s t same h =
    let less : s.part < t.part = h.ascending 0 1 s (omega arith) (omega arith) in absurd (omega (arith, less, same))

-- ---- quotients that guarantee too much or too little
-- `x <= 8` gives `y <= 10`, and a part gives `y <= 2 x`
abbrev whole : Contract
whole = contract (x ∷ []) (y ∷ []) (row (pos 1 ∷ []) (pos 8) ∷ []) (row (pos 0 ∷ pos 1 ∷ []) (pos 10) ∷ [])

abbrev doubling : Row
doubling = row (negsuc 1 ∷ pos 1 ∷ []) (pos 0)

abbrev part : Contract
part = contract (x ∷ []) (y ∷ []) [] (doubling ∷ [])

-- at 0 everywhere a sum of products is 0, and so is the bound of any sum of rows whose bounds are 0
dot_at_zeros : (cs : List ℤ) (names : List Name) → dot cs (map (λ n. pos 0) names) ≡ pos 0
dot_at_zeros [] names = refl
dot_at_zeros (c ∷ cs) [] = refl
dot_at_zeros (c ∷ cs) (n ∷ names) = let first : c *ℤ pos 0 ≡ pos 0 = *ℤ-zero c in let rest = dot_at_zeros cs names in omega (arith, ints, first, rest)

no_bound_at : (i : ℕ) → (row_at (doubling ∷ []) i).b ≡ pos 0
no_bound_at zero = refl
no_bound_at (suc i) = refl

no_bound : (parts : List (ℕ × ℤ)) → (combined parts (doubling ∷ [])).b ≡ pos 0
no_bound [] = refl
no_bound (w ∷ ws) =
    let first : w.1 *ℤ (row_at (doubling ∷ []) w.0).b ≡ pos 0 = ap (λ t. w.1 *ℤ t) (no_bound_at w.0) ∙ *ℤ-zero w.1 in
    let rest = no_bound ws in omega (arith, ints, first, rest)

-- Whatever the weights, at 0 everywhere what is left of `y <= 10` is met, so the quotient may not guarantee `0 <= -1`.
pub impossible_is_not_asked : (ws : List Weights) → ¬ AsksBy whole part (contract (x ∷ []) [] (row (pos 1 ∷ []) (pos 8) ∷ []) (impossible 1 ∷ [])) ws
impossible_is_not_asked [] h = absurd h.leaves
impossible_is_not_asked (w ∷ []) h =
    let zeros : Behaviour = all_at (pos 0) in
    let up = h.leaves.0.positive in
    let bound = no_bound w.parts in
    let sum = dot_at_zeros (less_weighted (row (pos 0 ∷ pos 1 ∷ []) (pos 10)) (doubling ∷ []) w).c (x ∷ y ∷ []) in
    let left : Meets (less_weighted (row (pos 0 ∷ pos 1 ∷ []) (pos 10)) (doubling ∷ []) w) (point_over (x ∷ y ∷ []) zeros) =
    record { meets = omega (arith, ints, up, bound, sum) } in
    let asked = (h.asks zeros (one_met (x ∷ []) zeros (row (pos 1 ∷ []) (pos 8)) (record { meets = omega (arith, ints) }))).1
    (All-nil (λ r. Meets r (point_over (x ∷ []) zeros)), (left, tt)) in
    let none = (one_is_met (x ∷ []) zeros (impossible 1) asked).meets in
    absurd (omega (arith, ints, none))
impossible_is_not_asked (w ∷ u ∷ ws) h = absurd h.leaves.1

-- x is 6 and y is 12
abbrev six_and_twelve : Behaviour
six_and_twelve = record { value = coefficient_at (x ∷ y ∷ []) (pos 6 ∷ pos 12 ∷ []); den = pos 1; positive = omega (arith, ints) }

-- there the part is kept, and the whole's guarantee is broken: so a quotient asks for something
pub something_is_asked : ¬ QuotientLaw whole part (contract (x ∷ []) [] (row (pos 1 ∷ []) (pos 8) ∷ []) [])
something_is_asked h =
    let v : Behaviour = six_and_twelve in
    let all = h v (one_met (x ∷ []) v (row (pos 1 ∷ []) (pos 8)) (record { meets = omega (arith, ints) }))
    (λ k. one_met (x ∷ y ∷ []) v doubling (record { meets = omega (arith, ints) })) (λ k. All-nil (λ r. Meets r (point_over (x ∷ []) v))) in
    let ten = (one_is_met (x ∷ y ∷ []) v (row (pos 0 ∷ pos 1 ∷ []) (pos 10)) all.1).meets in
    absurd (omega (arith, ints, ten))

-- the same part, which assumes `x <= 4`
abbrev choosy_part : Contract
choosy_part = contract (x ∷ []) (y ∷ []) (row (pos 1 ∷ []) (pos 4) ∷ []) (doubling ∷ [])

-- `x <= 5` is not enough: at 5 everywhere the part may do as it likes
pub assumptions_are_asked : ¬ QuotientLaw whole choosy_part (contract (x ∷ []) [] (row (pos 1 ∷ []) (pos 8) ∷ []) (row (pos 1 ∷ []) (pos 5) ∷ []))
assumptions_are_asked h =
    let v : Behaviour = all_at (pos 5) in
    let all = h v (one_met (x ∷ []) v (row (pos 1 ∷ []) (pos 8)) (record { meets = omega (arith, ints) }))
    (λ k. one_met (x ∷ y ∷ []) v doubling (record { meets = omega (arith, ints) }))
    (λ k. one_met (x ∷ []) v (row (pos 1 ∷ []) (pos 5)) (record { meets = omega (arith, ints) })) in
    let four = (one_is_met (x ∷ []) v (row (pos 1 ∷ []) (pos 4)) all.0).meets in
    absurd (omega (arith, ints, four))
