-- Where no problem of a quotient has more bases than the limit of pivots, no quotient uses the pivots up.
use Rattle.std.proofs.Common.{◌≡◌, inl, inr, refl, sym, ap, subst, ◌∙◌, ℕ, ◌+◌, ◌-◌, ◌≤◌, true, false, Bool, cond, nat_lt, List, length, map, arith}
use Rattle.std.proofs.Common.{length-append, Option, Some, None, Result, Ok, Err}
use Rattle.std.proofs.lemmas.List.Elements.{All-append}
use Rattle.pa_math.specs.Answers.{IsAnswer, and_then, given, told_as}
use Rattle.pa_frac.specs.declared.wide.Wide.{Wide}
use Rattle.pa_meaning.specs.Rows.{Row, Point}
use Rattle.pa_meaning.specs.Contracts.{Name, Contract}
use Rattle.pa_meaning.specs.Composition.{assumptions_over, guarantees_over}
use Rattle.pa_meaning.specs.Quotient.{quotient_outputs, quotient_ports, quotient_names}
use Rattle.pa_names.specs.Names.{most_ports}
use Rattle.pa_contract.specs.Merge.{row_count, most_rows}
use Rattle.pa_contract.specs.Nominal.{Nominal, IsNominal, value_of}
use Rattle.pa_contract.specs.WellFormed.{IsWellFormed}
use Rattle.pa_row.specs.declared.place.Group.TheVariants.{Thin}
use Rattle.pa_row.specs.declared.place.Place.{Place}
use Rattle.pa_row.specs.declared.place.Task.TheVariants as task
use Rattle.pa_row.specs.declared.place.Sub.TheVariants.{Main}
use Rattle.pa_row.specs.declared.place.Spot.TheVariants.{Check}
use Rattle.pa_row.specs.declared.place.Halt.{Halt}
use Rattle.pa_row.specs.declared.place.Halt.TheVariants as halt
use Rattle.pa_row.specs.Fractions.{point_in}
use Rattle.pa_cert.specs.Lists.{DividedAnswer}
use Rattle.pa_holds.specs.Refusals.{first_shared, due_quotient}
use Rattle.pa_farkas.specs.FewBases.{HasFewBases, IsNotLimited}
use Rattle.pa_farkas.specs.Answered.{thinned_of, wide_in}
use Rattle.pa_farkas.proofs.FilterTurns.{can_start}
use Rattle.pa_farkas.proofs.Unlimited.{fewer_bases, thinned_unlimited}
use Rattle.pa_parts.proofs.Rows.{assumptions_long, assumptions_count, guarantees_long, guarantees_count}
use Rattle.pa_trial.specs.declared.trial.Trial.{Trial}
use Rattle.pa_trial.specs.declared.trial.Trial.TheVariants.{Through, Stopped}
use Rattle.pa_trial.specs.declared.trial.Turn.TheVariants.{InRound}
use Rattle.pa_trial.specs.Lefts.{Lefts}
use Rattle.pa_trial.specs.Trying.{tried_of}
use Rattle.pa_trial.proofs.NominalPoints.{nominal_formed}
use Rattle.pa_trial.proofs.Unlimited.{tried_not_limited}
use Rattle.pa_quotient.specs.declared.fault.QuotientFault.{QuotientFault}
use Rattle.pa_quotient.specs.declared.fault.QuotientFault.TheVariants as fault
use Rattle.pa_quotient.specs.Dividing.{answer_with, asked_with, divided_of, divided_with, halted, lefts_by, lefts_of, lefts_over, premises_of, thinned_with}
use Rattle.pa_quotient.specs.Limited.{DividesByFewBases}
use Rattle.pa_quotient.specs.Seen.{AreLeft}
use Rattle.pa_quotient.proofs.Defined.{left_found, none_due}

-- the answer is not that the pivots were used up
abbrev IsNotUsedUp : {A : Type 0} → Result A QuotientFault → Type 0
IsNotUsedUp r = (place : Place) → r ≡ Err (fault.PivotLimit place) → ⊥

err_same : {A E : Type 0} (x y : E) → (let r : Result A E = Err x in r) ≡ Err y → x ≡ y
err_same x y h = cc

after_halts : {A B : Type 0} (r : Result A Halt) (next : A → Result B QuotientFault) → IsNotLimited r → ((a : A) → IsNotUsedUp (next a))
    → IsNotUsedUp (and_then (told_as halted r) next)
after_halts (Ok a) next not later place h = later a place h
after_halts (Err halt.Memory) next not later place h = cc
after_halts (Err (halt.PivotLimit p)) next not later place h = not p refl
after_halts (Err (halt.Wide p)) next not later place h = cc

module _ (whole part : Contract) (nominal : Nominal) (most : ℕ) (whole_formed : IsWellFormed whole) (part_formed : IsWellFormed part)
    (values : IsNominal nominal) (bases : DividesByFewBases whole part most) where
  -- ---- the shifts
  module _ (x : Point) (made : point_in (map (value_of nominal) (quotient_ports whole part)) ≡ Ok x) where
    shift_few : HasFewBases (length (guarantees_over (quotient_names whole part) part)) (length (quotient_names whole part) - length x.p) most
    shift_few =
        let both = length-append (quotient_ports whole part) part.outputs in
        let long = (nominal_formed nominal (quotient_ports whole part) x values made).1 in
        let outputs : length part.outputs ≡ length (quotient_names whole part) - length x.p = omega (arith, both, long) in
        subst (λ k. HasFewBases (length (guarantees_over (quotient_names whole part) part)) k most) outputs
        (subst (λ m. HasFewBases m (length part.outputs) most) (sym (guarantees_count (quotient_names whole part) part)) bases.0)

    lefts_over_not : IsNotUsedUp (lefts_over whole part most x)
    lefts_over_not =
        after_halts (tried_of (premises_of whole part x) most (InRound 0) 0 (guarantees_over (quotient_names whole part) whole)) lefts_by
        (tried_not_limited (premises_of whole part x) most (InRound 0) 0 (length (quotient_names whole part)) shift_few
        (guarantees_over (quotient_names whole part) whole) (guarantees_long (quotient_names whole part) whole)) by
      where
        by : (t : Trial) → IsNotUsedUp (lefts_by t)
        by (Through l) place h = cc
        by (Stopped row d) place h = cc

  lefts_not : IsNotUsedUp (lefts_of whole part nominal most)
  lefts_not = by (point_in (map (value_of nominal) (quotient_ports whole part))) refl
    where
      by : (r : Result Point Wide) → point_in (map (value_of nominal) (quotient_ports whole part)) ≡ r
          → IsNotUsedUp (and_then (told_as halted (told_as (wide_in task.Nominal Main Check) r)) (λ x. lefts_over whole part most x))
      by (Ok x) made = lefts_over_not x made
      by (Err wide) made = λ place h. cc

  -- ---- the thinning
  module _ (short : length (quotient_names whole part) ≤ 128) (few : row_count whole + row_count part ≤ 4096) where
    thins_not : (left : List Row) → AreLeft whole part left
        → IsNotLimited (thinned_of (length (quotient_ports whole part)) (asked_with whole part left) (assumptions_over (quotient_ports whole part) whole)
        most Thin)
    thins_not left are place h =
        let at_ports : List Name = quotient_ports whole part in
        let n : ℕ = length at_ports in
        let both = length-append (quotient_ports whole part) part.outputs in
        let all = length-append (assumptions_over at_ports part) left in
        let mine = assumptions_count at_ports part in
        let context = assumptions_count at_ports whole in
        let fewer = are.fewer in
        thinned_unlimited n (asked_with whole part left) (assumptions_over at_ports whole) most Thin (Err (halt.PivotLimit place)) (inr h)
        (can_start n (asked_with whole part left) (assumptions_over at_ports whole)
        (All-append (λ (r : Row). length r.c ≡ n) (assumptions_over at_ports part) left (assumptions_long at_ports part) are.columns)
        (assumptions_long at_ports whole) (omega (arith, all, mine, context, fewer, few)) (omega (arith, both, short)))
        (fewer_bases (length (asked_with whole part left) + length (assumptions_over at_ports whole))
        ((length part.assumptions + length whole.guarantees) + length whole.assumptions) n most (omega (arith, all, mine, context, fewer)) bases.1) place refl

    -- ---- all of it
    divided_not : due_quotient whole part ≡ None → IsNotUsedUp (divided_with whole part nominal most)
    divided_not none = by (lefts_of whole part nominal most) refl lefts_not
      where
        by : (r : Result Lefts QuotientFault) → lefts_of whole part nominal most ≡ r → IsNotUsedUp r
            → IsNotUsedUp (and_then r (λ l. and_then (thinned_with whole part most l.rows) (λ t.
            Ok (answer_with whole (quotient_outputs whole part) l.weights t))))
        by (Ok l) is not = after_halts
            (thinned_of (length (quotient_ports whole part)) (asked_with whole part l.rows) (assumptions_over (quotient_ports whole part) whole) most Thin) _
            (thins_not l.rows (left_found whole part nominal most whole_formed part_formed none values l is)) (λ t place h. cc)
        by (Err e) is not = λ place h. not place (ap Err (err_same {A = DividedAnswer} e (fault.PivotLimit place) h))

  by_tests : (shared : Option Name) (wide long : Bool) → first_shared whole.inputs part.outputs ≡ shared
      → nat_lt most_ports (length (quotient_names whole part)) ≡ wide → nat_lt most_rows (row_count whole + row_count part) ≡ long
      → IsNotUsedUp (given (cond wide (Err (fault.VariableLimit (length (quotient_names whole part))))
      (cond long (Err (fault.Load (row_count whole + row_count part))) (divided_with whole part nominal most)))
      shared (λ name. Err (fault.PortClash name)))
  by_tests (Some name) wide long clash names rows = λ place h. cc
  by_tests None true long clash names rows = λ place h. cc
  by_tests None false true clash names rows = λ place h. cc
  by_tests None false false clash names rows =
      let short : length (quotient_names whole part) ≤ 128 = grind (arith) in
      let few : row_count whole + row_count part ≤ 4096 = grind (arith) in
      divided_not short few (none_due whole part clash short few)

  quotient_not_limited : IsNotUsedUp (divided_of whole part nominal most)
  quotient_not_limited =
      by_tests (first_shared whole.inputs part.outputs) (nat_lt most_ports (length (quotient_names whole part)))
      (nat_lt most_rows (row_count whole + row_count part)) refl refl refl

  -- nor does the answer of a call
  pub quotient_unlimited : (result : Result DividedAnswer QuotientFault) → IsAnswer fault.Memory (divided_of whole part nominal most) result
      → IsNotUsedUp result
  quotient_unlimited (Ok a) answer place h = cc
  quotient_unlimited (Err e) (inl free) place h = wrong (sym free ∙ err_same {A = DividedAnswer} e (fault.PivotLimit place) h)
    where
      wrong : fault.Memory ≡ fault.PivotLimit place → ⊥
      wrong h = cc
  quotient_unlimited (Err e) (inr is) place h = quotient_not_limited place (is ∙ h)
