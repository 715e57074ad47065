-- A number less products, step by step, and what is left where it is not `Wide`.
use Rattle.std.proofs.Common.{◌≡◌, ℕ, zero, suc, ◌<◌, ◌≤◌, ◌+◌, ◌-ℤ◌, List, [], ◌∷◌, drop, length}
use Rattle.std.proofs.Common.{get_or, Result, Ok, Err, refl, sym, ap, subst, ◌∙◌, arith, add-one}
use Rattle.std.proofs.lemmas.Int.{ints}
use lib.IntN.{ℤ, pos, ◌+ℤ◌, ◌*ℤ◌, neg_ℤ}
use Rattle.pa_ring.specs.Sums.{dot}
use Rattle.pa_math.specs.Answers.{and_then}
use Rattle.pa_math.proofs.Answers.{and_then_assoc, and_then_ok, ok_same}
use Rattle.pa_frac.specs.Width.{within}
use Rattle.pa_frac.proofs.Width.{within_ok, fits_from_answer}
use Rattle.pa_frac.specs.declared.wide.Wide.{Wide}
use Rattle.pa_row.specs.Sums.{less_dot_from, slack_in}
use Rattle.pa_row.specs.Loops.{less_next_in}
use Rattle.pa_row.specs.Width.{Fits}

less_dot_suc : (left : ℤ) (cs ps : List ℤ) (i : ℕ) → i < length cs → i < length ps
    → less_dot_from left (drop i cs) (drop i ps)
    ≡ and_then (less_next_in left (get_or cs i (pos 0)) (get_or ps i (pos 0))) (λ next. less_dot_from next (drop (suc i) cs) (drop (suc i) ps))
less_dot_suc left [] ps i h k = absurd (omega arith)
less_dot_suc left (c ∷ cs) [] i h k = absurd (omega arith)
less_dot_suc left (c ∷ cs) (p ∷ ps) zero h k =
    sym (and_then_assoc (within 126 (c *ℤ p)) (λ product. within 126 (left -ℤ product)) (λ next. less_dot_from next cs ps))
less_dot_suc left (c ∷ cs) (p ∷ ps) (suc i) h k = less_dot_suc left cs ps i (omega arith) (omega arith)

-- what is left from a place on: less the product there, and then from the next place
pub less_dot_next : (left : ℤ) (cs ps : List ℤ) (i : ℕ) → i < length cs → i < length ps
    → less_dot_from left (drop i cs) (drop i ps)
    ≡ and_then (less_next_in left (get_or cs i (pos 0)) (get_or ps i (pos 0))) (λ next. less_dot_from next (drop (i + 1) cs) (drop (i + 1) ps))
less_dot_next left cs ps i h k = rw add-one (less_dot_suc left cs ps i h k)

-- the same, where the numbers and what is left have names
pub less_turn : (left a b : ℤ) (cs ps : List ℤ) (i : ℕ) (turn : Result ℤ Wide) → i < length cs → i < length ps → a ≡ get_or cs i (pos 0)
    → b ≡ get_or ps i (pos 0) → turn ≡ less_next_in left a b
    → less_dot_from left (drop i cs) (drop i ps) ≡ and_then turn (λ next. less_dot_from next (drop (i + 1) cs) (drop (i + 1) ps))
less_turn left a b cs ps i turn h k a_is b_is turn_is = rw (turn_is, a_is, b_is) (less_dot_next left cs ps i h k)

less_nothing : (left : ℤ) (cs : List ℤ) → less_dot_from left cs [] ≡ Ok left
less_nothing left [] = refl
less_nothing left (c ∷ cs) = refl

-- past the last product nothing is taken off
pub less_dot_end : (left : ℤ) (cs ps : List ℤ) (i : ℕ) → length ps ≤ i → less_dot_from left (drop i cs) (drop i ps) ≡ Ok left
less_dot_end left [] ps zero h = refl
less_dot_end left [] ps (suc i) h = refl
less_dot_end left (c ∷ cs) [] zero h = less_nothing left (c ∷ cs)
less_dot_end left (c ∷ cs) [] (suc i) h = less_nothing left (drop i cs)
less_dot_end left (c ∷ cs) (p ∷ ps) zero h = absurd (omega arith)
less_dot_end left (c ∷ cs) (p ∷ ps) (suc i) h = less_dot_end left cs ps i (omega arith)

-- a difference is a sum with the opposite number
pub less_next_of : (left a b product less : ℤ) (r : Result ℤ Wide) → Ok product ≡ within 126 (a *ℤ b) → less ≡ neg_ℤ product → r ≡ within 126 (left +ℤ less)
    → r ≡ less_next_in left a b
less_next_of left a b product less r e f h = h ∙ ap (λ t. within 126 (left +ℤ t)) f ∙ ap (λ t. and_then t (λ product. within 126 (left -ℤ product))) e

-- ---- the exact value
less_dot_exact : (left : ℤ) (cs ps : List ℤ) (v : ℤ) → Ok v ≡ less_dot_from left cs ps → v ≡ left -ℤ dot cs ps
less_dot_exact left [] ps v h = ok_same v left h ∙ omega (arith, ints)
less_dot_exact left (c ∷ cs) [] v h = ok_same v left h ∙ omega (arith, ints)
less_dot_exact left (c ∷ cs) (p ∷ ps) v h =
    let (product, f, e) = and_then_ok (within 126 (c *ℤ p)) (λ product. and_then (within 126 (left -ℤ product)) (λ next. less_dot_from next cs ps)) v h in
    let (next, l, k) = and_then_ok (within 126 (left -ℤ product)) (λ next. less_dot_from next cs ps) v e in
    let rest : v ≡ next -ℤ dot cs ps = less_dot_exact next cs ps v k in
    let next_is : next ≡ left -ℤ product = (within_ok 126 next (left -ℤ product) l).1 in
    let product_is : product ≡ c *ℤ p = (within_ok 126 product (c *ℤ p) f).1 in
    omega (arith, ints, rest, next_is, product_is)

-- an answer that is not `Wide` is the bound times the denominator, less the sum of the products
pub slack_exact : (q b : ℤ) (cs ps : List ℤ) (v : ℤ) → Ok v ≡ slack_in q b cs ps → v ≡ q *ℤ b -ℤ dot cs ps
slack_exact q b cs ps v h =
    let (left, e, k) = and_then_ok (within 126 (q *ℤ b)) (λ left. less_dot_from left cs ps) v h in
    less_dot_exact left cs ps v k ∙ ap (λ t. t -ℤ dot cs ps) (within_ok 126 left (q *ℤ b) e).1

less_dot_fits : (left : ℤ) (cs ps : List ℤ) (v : ℤ) → Fits left → Ok v ≡ less_dot_from left cs ps → Fits v
less_dot_fits left [] ps v k h = subst Fits (sym (ok_same v left h)) k
less_dot_fits left (c ∷ cs) [] v k h = subst Fits (sym (ok_same v left h)) k
less_dot_fits left (c ∷ cs) (p ∷ ps) v k h =
    let (product, f, e) = and_then_ok (within 126 (c *ℤ p)) (λ product. and_then (within 126 (left -ℤ product)) (λ next. less_dot_from next cs ps)) v h in
    let (next, m, l) = and_then_ok (within 126 (left -ℤ product)) (λ next. less_dot_from next cs ps) v e in
    less_dot_fits next cs ps v (fits_from_answer 126 next (left -ℤ product) m) l

-- and it is narrow
pub slack_fits : (q b : ℤ) (cs ps : List ℤ) (v : ℤ) → Ok v ≡ slack_in q b cs ps → Fits v
slack_fits q b cs ps v h =
    let (left, e, k) = and_then_ok (within 126 (q *ℤ b)) (λ left. less_dot_from left cs ps) v h in
    less_dot_fits left cs ps v (fits_from_answer 126 left (q *ℤ b) e) k
