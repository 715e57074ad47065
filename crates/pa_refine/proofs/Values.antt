-- What the end of the target's problem shows of the goal: a value with weights and a point, a direction, or no behaviour.
use Rattle.std.proofs.Common.{◌≡◌, ◌∙◌, ap, ap₂, sym, refl, subst, ℕ, zero, suc, ◌+◌, ◌<◌, ◌^◌, Bool, true, false, List, [], ◌∷◌, ◌++◌}
use Rattle.std.proofs.Common.{length, map, drop, get_or, inr, All, IfOk, neg_ℤ, Result, Ok, Err, arith}
use Rattle.std.proofs.lemmas.Int.{ints}
use Rattle.std.proofs.lemmas.List.{length-map}
use Rattle.std.proofs.lemmas.List.Elements.{All-map, All-weaker}
use Rattle.std.specs.Ordering.{int_eq}
use lib.IntN.{ℤ, pos, ◌+ℤ◌, ◌-ℤ◌, ◌*ℤ◌}
use lib.Signed.{◌<ℤ◌}
use Rattle.pa_ring.specs.Sums.{SameNumbers, dot, number_at, times}
use Rattle.pa_ring.proofs.Integers.{*ℤ_cancel, abs-neg_ℤ, null, ◌⋆◌, ◌⊞◌}
use Rattle.pa_ring.proofs.IntegerTactics.{by_equations, by_ring, reads}
use Rattle.pa_ring.proofs.Sums.{number_at-times}
use Rattle.pa_math.specs.Answers.{IsAnswer, and_then, told_as}
use Rattle.pa_math.proofs.Answers.{and_then_ok, ok_same}
use Rattle.pa_math.specs.Rational.{ℚ, den, over, whole, reciprocal, ◌+ℚ◌, ◌*ℚ◌}
use Rattle.pa_math.proofs.Rationals.{IsRatio, den_positive, ratio_neg, ratio_over, ratio_product, ratio_sum, ratio_whole, whole_numbers}
use Rattle.pa_math.proofs.Reciprocals.{ratio_reciprocal}
use Rattle.pa_frac.specs.declared.wide.Wide.{Wide}
use Rattle.pa_frac.specs.Width.{Fits}
use Rattle.pa_frac.specs.Operations.{common_den, crossed_den, crossed_num, is_zero, product_in, scaled_num, sum_in}
use Rattle.pa_frac.proofs.Width.{exact_value}
use Rattle.pa_meaning.specs.Rows.{Row, Point}
use Rattle.pa_meaning.specs.Weights.{combined}
use Rattle.pa_replay.specs.Problem.{IsPosed}
use Rattle.pa_replay.specs.Readings.{EndlessRead, LeastRead, numbers_in}
use Rattle.pa_replay.specs.Shown.{ShowsEndless, ShowsLeast, ShowsNoWeights}
use Rattle.pa_holds.specs.Bounded.{GetsBetter, turned}
use Rattle.pa_check.specs.Directions.{Improves}
use Rattle.pa_farkas.specs.Alternatives.{IsMetAt, ShowsUnmet}
use Rattle.pa_contract.proofs.Steps.{mapped_more}
use Rattle.pa_farkas.proofs.Shown.{endless_unmet}
use Rattle.pa_farkas.specs.Answered.{wide_in}
use Rattle.pa_row.specs.Answers.{as_fault}
use Rattle.pa_row.specs.declared.place.Task.TheVariants as task
use Rattle.pa_row.specs.declared.place.Sub.TheVariants.{Main}
use Rattle.pa_row.specs.declared.place.Spot.TheVariants.{Read}
use Rattle.pa_row.specs.declared.place.Halt.{Halt}
use Rattle.pa_row.specs.declared.place.Halt.TheVariants as halt
use Rattle.pa_refine.specs.declared.answer.Bounded.{Bounded}
use Rattle.pa_refine.specs.Bounding.{Asked, by_least, over_denominator, target_of, turned_value, value_checked, value_numbers, value_of, value_read}
use Rattle.pa_refine.specs.Seen.{CanAsk, IsGoalValue, IsValueRead, ShowsUnbounded, ShowsValue}

-- ---- fractions
pub whole_not_zero : (q : ℤ) → pos 0 <ℤ q → is_zero (whole q) ≡ false
whole_not_zero q up = ap (λ n. int_eq n (pos 0)) (whole_numbers q).0 ∙ apart
  where
    apart : int_eq q (pos 0) ≡ false
    apart = grind (arith, ints)

sum_is : (q r s : ℚ) → Ok s ≡ sum_in 126 q r → s ≡ q +ℚ r
unfolding sum_in
sum_is q r s h = exact_value 126 (scaled_num q r ∷ scaled_num r q ∷ common_den q r ∷ (q +ℚ r).num ∷ []) s (q +ℚ r) h

product_is : (q r s : ℚ) → Ok s ≡ product_in 126 q r → s ≡ q *ℚ r
unfolding product_in
product_is q r s h = exact_value 126 ((crossed_num q r *ℤ crossed_num r q) ∷ (crossed_den r q *ℤ crossed_den q r) ∷ []) s (q *ℚ r) h

turned_ratio : (least : Bool) (n d : ℤ) → pos 0 <ℤ d → IsRatio (turned_value least (over n d)) (turned least n) d
turned_ratio true n d up = ratio_neg (ratio_over n d up)
turned_ratio false n d up = ratio_over n d up

-- the value over the denominators of its parts
value_is_ratio : (least : Bool) (b q : ℤ) (a : LeastRead) (v : ℚ) → pos 0 <ℤ q → pos 0 <ℤ a.value.1 → Ok v ≡ value_of least b q a
    → IsRatio v ((turned least a.value.0 *ℤ pos 1 +ℤ b *ℤ a.value.1) *ℤ pos 1) ((a.value.1 *ℤ pos 1) *ℤ q)
value_is_ratio least b q a v up positive h =
    let (s, e, k) = and_then_ok (sum_in 126 (turned_value least (over a.value.0 a.value.1)) (whole b)) (λ sum. over_denominator sum q) v h in
    let sum = ratio_sum (turned_ratio least a.value.0 a.value.1 positive) (ratio_whole b) in
    let sum_ratio : IsRatio s (turned least a.value.0 *ℤ pos 1 +ℤ b *ℤ a.value.1) (a.value.1 *ℤ pos 1) =
    subst (λ t. IsRatio t (turned least a.value.0 *ℤ pos 1 +ℤ b *ℤ a.value.1) (a.value.1 *ℤ pos 1))
    (sym (sum_is (turned_value least (over a.value.0 a.value.1)) (whole b) s e)) sum in
    subst (λ t. IsRatio t ((turned least a.value.0 *ℤ pos 1 +ℤ b *ℤ a.value.1) *ℤ pos 1) ((a.value.1 *ℤ pos 1) *ℤ q))
    (sym (product_is s (reciprocal (whole q)) v k)) (ratio_product sum_ratio (ratio_reciprocal (ratio_whole q) up))

pub value_ratio : (least : Bool) (b q : ℤ) (a : LeastRead) (v : ℚ) → pos 0 <ℤ q → pos 0 <ℤ a.value.1 → Ok v ≡ value_of least b q a
    → v.num *ℤ (q *ℤ a.value.1) ≡ den v *ℤ (turned least a.value.0 +ℤ b *ℤ a.value.1)
value_ratio least b q a v up positive h =
    let r = value_is_ratio least b q a v up positive h in
    by_equations (v.num ∷ den v ∷ q ∷ a.value.1 ∷ turned least a.value.0 ∷ b ∷ []) (null r.cross) (search reads depth 40) tt

-- a sum that passes the width
pub sum_refused : (least : Bool) (b q : ℤ) (a : LeastRead) (t w : ℚ) (e : Wide) → t ≡ turned_value least (over a.value.0 a.value.1) → w ≡ whole b
    → Err e ≡ sum_in 126 t w → Err e ≡ value_of least b q a
sum_refused least b q a t w e is was h = ap (λ r. and_then r (λ s. over_denominator s q)) (h ∙ ap₂ (sum_in 126) is was)

pub numbers_meant : (asked : Asked) (a : LeastRead) (result : Result (ℤ × ℤ) Wide) → pos 0 <ℤ asked.q → pos 0 <ℤ a.value.1
    → result ≡ value_numbers asked a → IfOk result (IsGoalValue asked a)
numbers_meant asked a (Err e) up positive h = tt
numbers_meant asked a (Ok n) up positive h =
    let (v, e, k) = and_then_ok (value_of asked.least asked.b asked.q a) (λ value. Ok (numbers_in value)) n h in
    subst (IsGoalValue asked a) (sym (ok_same n (numbers_in v) k))
    (record { positive = den_positive v; ratio = value_ratio asked.least asked.b asked.q a v up positive e })

-- ---- the target
number_at-negated : (xs : List ℤ) (i : ℕ) → number_at (map neg_ℤ xs) i ≡ neg_ℤ (number_at xs i)
number_at-negated [] i = refl
number_at-negated (x ∷ xs) zero = refl
number_at-negated (x ∷ xs) (suc i) = number_at-negated xs i

dot-negated : (cs ps : List ℤ) → dot (map neg_ℤ cs) ps ≡ neg_ℤ (dot cs ps)
dot-negated [] ps = refl
dot-negated (c ∷ cs) [] = refl
dot-negated (c ∷ cs) (p ∷ ps) =
    by_equations (c ∷ p ∷ dot cs ps ∷ dot (map neg_ℤ cs) ps ∷ []) (null (dot-negated cs ps)) (search reads depth 40) tt

pub target_length : (least : Bool) (goals : List ℤ) → length (target_of least goals) ≡ length goals
target_length true goals = length-map goals neg_ℤ
target_length false goals = refl

target_dot : (least : Bool) (goals ps : List ℤ) → dot (target_of least goals) ps ≡ turned least (dot goals ps)
target_dot true goals ps = dot-negated goals ps
target_dot false goals ps = refl

target_times : (least : Bool) (k : ℤ) (goals : List ℤ) → SameNumbers (times k (target_of least goals)) (times (turned least k) goals)
target_times true k goals i =
    number_at-times k (map neg_ℤ goals) i ∙ ap (λ z. k *ℤ z) (number_at-negated goals i)
    ∙ by_ring (k ∷ number_at goals i ∷ []) (search reads depth 40) tt ∙ sym (number_at-times (neg_ℤ k) goals i)
target_times false k goals i = refl

turned_twice : (least : Bool) (z : ℤ) → turned least (turned least z) ≡ z
turned_twice true z = omega (arith, ints)
turned_twice false z = refl

turned_product : (least : Bool) (k z : ℤ) → k *ℤ turned least z ≡ turned least (k *ℤ z)
turned_product true k z = by_ring (k ∷ z ∷ []) (search reads depth 40) tt
turned_product false k z = refl

-- ---- the value
-- where y over k is the target's value, turned back, y with the constant is the goal's
equation : (y k t d b q num den : ℤ) → pos 0 <ℤ d → d *ℤ y ≡ k *ℤ t → num *ℤ (q *ℤ d) ≡ den *ℤ (t +ℤ b *ℤ d) → den *ℤ (y +ℤ b *ℤ k) ≡ num *ℤ q *ℤ k
equation y k t d b q num den up e f =
    *ℤ_cancel (den *ℤ (y +ℤ b *ℤ k)) (num *ℤ q *ℤ k) d up
    (by_equations (y ∷ k ∷ t ∷ d ∷ b ∷ q ∷ num ∷ den ∷ []) (den ⋆ null e ⊞ (pos 0 -ℤ k) ⋆ null f) (search reads depth 40) tt)

pub value_shown : (asked : Asked) (a : LeastRead) (read : (ℤ × ℤ) × Point)
    → ShowsLeast (record { rows = asked.rows; target = target_of asked.least asked.goals }) a → IsValueRead asked a read
    → ShowsValue asked read.0.0 read.0.1 a.weights read.1
value_shown asked a read s r =
    let x : Point = read.1 in
    let goals : List ℤ = asked.goals in
    let least : Bool = asked.least in
    record {
      positive = r.0.positive;
      weights = record {
        positive = s.makes.positive;
        weights = s.makes.weights;
        places = s.makes.places;
        coefficients = λ i. s.makes.coefficients i ∙ target_times least a.weights.den goals i;
        value = equation (turned least (combined a.weights.parts asked.rows).b) a.weights.den (turned least a.value.0) a.value.1 asked.b asked.q
            read.0.0 read.0.1 s.positive
            (turned_product least a.value.1 (combined a.weights.parts asked.rows).b ∙ ap (turned least) s.sum
            ∙ sym (turned_product least a.weights.den a.value.0)) r.0.ratio;
      };
      met = record {
        positive = r.1.positive;
        columns = r.1.columns ∙ s.columns ∙ target_length least goals;
        meets = s.meets x r.1.positive r.1.over;
      };
      value = equation (dot goals x.p) x.q (turned least a.value.0) a.value.1 asked.b asked.q read.0.0 read.0.1 s.positive
          (ap (λ z. a.value.1 *ℤ z) (sym (turned_twice least (dot goals x.p)) ∙ ap (turned least) (sym (target_dot least goals x.p)))
          ∙ turned_product least a.value.1 (dot (target_of least goals) x.p) ∙ ap (turned least) (s.takes x r.1.positive r.1.over)
          ∙ sym (turned_product least x.q a.value.0)) r.0.ratio;
    }

told_ok : {A : Type 0} (r : Result A Wide) (x : A) → told_as as_fault r ≡ Ok x → r ≡ Ok x
told_ok (Ok y) x h = ap Ok (ok_same y x h)
told_ok (Err e) x h = absurd (cc)

answer_same : (due result : Result Bounded Halt) → due ≡ result → IsAnswer halt.Memory due result
answer_same due (Ok bounded) h = h
answer_same due (Err fault) h = inr h

-- what is read decides the answer
pub least_answered : (asked : Asked) (a : LeastRead) (read : (ℤ × ℤ) × Point) (result : Result Bounded Halt)
    → told_as as_fault (value_read asked a) ≡ Ok read → result ≡ value_checked asked read.0.0 read.0.1 a.weights read.1
    → IsAnswer halt.Memory (by_least asked a) result
least_answered asked a read result h e = answer_same (by_least asked a) result
    (ap (λ r. and_then (told_as (wide_in task.Goal Main Read) r) (λ (read : (ℤ × ℤ) × Point). value_checked asked read.0.0 read.0.1 a.weights read.1))
    (told_ok (value_read asked a) read h) ∙ sym e)

-- ---- a direction, or a ray
better_from : (least : Bool) (goals d : List ℤ) → pos 0 <ℤ dot (target_of least goals) d → GetsBetter least goals d
better_from true goals d up =
    let same = dot-negated goals d in
    omega (arith, ints, up, same)
better_from false goals d up = up

pub direction_columns : (asked : Asked) (d : List ℤ) → ShowsNoWeights (record { rows = asked.rows; target = target_of asked.least asked.goals }) d
    → length d ≡ length asked.goals
direction_columns asked d s = s.columns ∙ target_length asked.least asked.goals

direction_improves : (asked : Asked) (d : List ℤ) → ShowsNoWeights (record { rows = asked.rows; target = target_of asked.least asked.goals }) d
    → Improves asked.least d asked.rows asked.goals
direction_improves asked d s = record { level = s.sticks.level; better = better_from asked.least asked.goals d s.sticks.rises }

pub direction_shown : (asked : Asked) (x : Point) (d : List ℤ) → IsMetAt (length asked.goals) asked.rows x
    → ShowsNoWeights (record { rows = asked.rows; target = target_of asked.least asked.goals }) d → ShowsUnbounded asked x d
direction_shown asked x d m s = record { met = m; columns = direction_columns asked d s; improves = direction_improves asked d s }

pub ray_unmet : (asked : Asked) (a : EndlessRead) → ShowsEndless (record { rows = asked.rows; target = target_of asked.least asked.goals }) a
    → ShowsUnmet (length asked.goals) asked.rows a.ray
ray_unmet asked a s = subst (λ n. ShowsUnmet n asked.rows a.ray) (target_length asked.least asked.goals)
    (endless_unmet (record { rows = asked.rows; target = target_of asked.least asked.goals }) a s)

-- ---- the target's problem
target_narrow : (least : Bool) (goals : List ℤ) → All (Fits 126) goals → All (Fits 126) (target_of least goals)
target_narrow true goals h =
    All-map (Fits 126) neg_ℤ goals (All-weaker (Fits 126) (λ z. Fits 126 (neg_ℤ z)) (λ z f. subst (λ a. a < 2 ^ 126) (sym (abs-neg_ℤ z)) f) goals h)
target_narrow false goals h = h

pub target_posed : (asked : Asked) (target : List ℤ) → CanAsk asked → target ≡ target_of asked.least asked.goals
    → IsPosed (record { rows = asked.rows; target = target })
target_posed asked target can is =
    let same : length target ≡ length asked.goals = ap length is ∙ target_length asked.least asked.goals in
    record {
      few = can.few;
      short = omega (arith, same, can.short);
      columns = subst (λ n. All (λ (r : Row). length r.c ≡ n) asked.rows) (sym same) can.columns;
      narrow = subst (All (Fits 126)) (sym is) (target_narrow asked.least asked.goals can.narrow);
    }

-- ---- numbers that are turned one after another
pub negated_more : (xs : List ℤ) (i : ℕ) (x y : ℤ) (made more : List ℤ) → i < length xs → x ≡ get_or xs i x → y ≡ neg_ℤ x → more ≡ made ++ y ∷ []
    → made ++ map neg_ℤ (drop i xs) ≡ map neg_ℤ xs → more ++ map neg_ℤ (drop (i + 1) xs) ≡ map neg_ℤ xs
negated_more xs i x y made more h is negative all so_far =
    ap (λ t. t ++ map neg_ℤ (drop (i + 1) xs)) (all ∙ ap (λ z. made ++ z ∷ []) negative)
    ∙ mapped_more neg_ℤ xs i x made (map neg_ℤ xs) h is so_far
