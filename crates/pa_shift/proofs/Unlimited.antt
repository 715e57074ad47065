-- Where the problem of a shift has no more bases than the limit of pivots, no shift uses the pivots up: nothing but that problem uses any.
use Rattle.std.proofs.Common.{◌≡◌, inl, inr, refl, sym, ap, ◌∙◌, subst, ℕ, ◌-◌, List, length, Bool, true, false, cond, Result, Ok, Err}
use Rattle.std.proofs.lemmas.List.{length-drop, length-map}
use lib.IntN.{ℤ}
use Rattle.pa_math.specs.Answers.{IsAnswer, and_then, told_as}
use Rattle.pa_frac.specs.declared.wide.Wide.{Wide}
use Rattle.pa_meaning.specs.Rows.{Row}
use Rattle.pa_meaning.specs.Weights.{Weights}
use Rattle.pa_row.specs.declared.place.Place.{Place}
use Rattle.pa_row.specs.declared.place.Task.{Task}
use Rattle.pa_row.specs.declared.place.Sub.TheVariants.{Main}
use Rattle.pa_row.specs.declared.place.Spot.TheVariants.{Check, Load}
use Rattle.pa_row.specs.declared.place.Halt.{Halt}
use Rattle.pa_row.specs.declared.place.Halt.TheVariants as halt
use Rattle.pa_row.specs.Sums.{shifted_in}
use Rattle.pa_bland.specs.declared.answer.Answer.{Answer}
use Rattle.pa_bland.specs.declared.answer.Answer.TheVariants.{Least, NoWeights, Endless}
use Rattle.pa_farkas.specs.Answered.{solved_for, wide_in}
use Rattle.pa_farkas.specs.FewBases.{HasFewBases, IsNotLimited}
use Rattle.pa_farkas.proofs.Unlimited.{next_not_limited, solved_not_limited, wide_not_limited}
use Rattle.pa_shift.specs.declared.shifting.Shifted.{Shifted}
use Rattle.pa_shift.specs.declared.shifting.Shifted.TheVariants.{Term, Ray}
use Rattle.pa_shift.specs.Shifting.{Premises, are_zero, by_answer, by_costs, by_problem, costed_in, left_by, no_weights, rise_in, shifted_of, target_of}
use Rattle.pa_shift.proofs.Costs.{costs_are, priced}

module _ (given : Premises) (t : Row) (most : ℕ) (task : Task) (few : HasFewBases (length given.rows) (length t.c - length given.nominal.p) most) where
  left_not_limited : (w : Weights) → IsNotLimited (left_by given.rows t task w)
  left_not_limited w = wide_not_limited task Main Check (and_then (shifted_in t given.rows w) (λ row. Ok (Term row w)))

  answered_not_limited : (costed : List Row) (a : Answer) → IsNotLimited (by_answer given costed t task a)
  answered_not_limited costed (Least a) = left_not_limited a.weights
  answered_not_limited costed (Endless a) = left_not_limited a.last
  answered_not_limited costed (NoWeights d) =
      wide_not_limited task Main Check (and_then (rise_in d (target_of given.nominal t) costed) (λ rise. Ok (Ray d)))

  problem_not_limited : (costed : List Row) → costed_in given.nominal given.rows ≡ Ok costed → IsNotLimited (by_problem given t most task costed)
  problem_not_limited costed is =
      let rows : length costed ≡ length given.rows =
      ap (λ (xs : List Row). length xs) (costs_are given costed is) ∙ length-map given.rows (priced given.nominal) in
      let columns : length (target_of given.nominal t) ≡ length t.c - length given.nominal.p = length-drop (length given.nominal.p) t.c in
      next_not_limited (solved_for task Main costed (target_of given.nominal t) most) (by_answer given costed t task)
      (solved_not_limited task Main costed (target_of given.nominal t) most
      (subst (λ n. HasFewBases n (length (target_of given.nominal t)) most) (sym rows)
      (subst (λ k. HasFewBases (length given.rows) k most) (sym columns) few)))
      (answered_not_limited costed)

  costs_not_limited : IsNotLimited (by_costs given t most task)
  costs_not_limited = by (costed_in given.nominal given.rows) refl
    where
      by : (r : Result (List Row) Wide) → costed_in given.nominal given.rows ≡ r
          → IsNotLimited (and_then (told_as (wide_in task Main Load) r) (by_problem given t most task))
      by (Ok costed) is place h = problem_not_limited costed is place h
      by (Err wide) is place h = cc

  shifted_not_limited : IsNotLimited (shifted_of given t most task)
  shifted_not_limited = by (are_zero (target_of given.nominal t))
    where
      by : (b : Bool) → IsNotLimited (cond b (left_by given.rows t task no_weights) (by_costs given t most task))
      by true = left_not_limited no_weights
      by false = costs_not_limited

err_same : {A E : Type 0} (x y : E) → (let r : Result A E = Err x in r) ≡ Err y → x ≡ y
err_same x y h = cc

pub shifted_unlimited : (given : Premises) (t : Row) (most : ℕ) (task : Task) (result : Result Shifted Halt)
    → IsAnswer halt.Memory (shifted_of given t most task) result → HasFewBases (length given.rows) (length t.c - length given.nominal.p) most
    → IsNotLimited result
shifted_unlimited given t most task (Ok v) answer few place h = cc
shifted_unlimited given t most task (Err e) (inl free) few place h = wrong (sym free ∙ err_same {A = Shifted} e (halt.PivotLimit place) h)
  where
    wrong : halt.Memory ≡ halt.PivotLimit place → ⊥
    wrong h = cc
shifted_unlimited given t most task (Err e) (inr is) few place h = shifted_not_limited given t most task few place (is ∙ h)
