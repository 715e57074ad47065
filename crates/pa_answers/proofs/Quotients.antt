-- What a quotient tells holds as it is printed, and each refusal is the one that is due, or at a place that the operation has under the limits in force.
use Rattle.std.proofs.Common.{◌≡◌, sym, subst, ap, ◌∙◌, inl, inr, length, Result, Ok, Err, IfOk, IfErr}
use Rattle.std.specs.Prelude.{IsErrOf}
use Rattle.std.specs.List.{IsDistinct}
use Rattle.std.specs.Str.{bytes_eq}
use Rattle.pa_math.specs.Answers.{IsAnswer}
use Rattle.pa_math.proofs.Unions.{IsDistinct-right}
use Rattle.pa_meaning.specs.Contracts.{Contract}
use Rattle.pa_meaning.specs.Quotient.{IsStuckGuarantee}
use Rattle.pa_contract.specs.Nominal.{IsNominal, Nominal}
use Rattle.pa_contract.specs.WellFormed.{IsWellFormed}
use Rattle.pa_cert.specs.Tables.{Limits}
use Rattle.pa_cert.specs.Lists.{DividedAnswer}
use Rattle.pa_cert.specs.declared.answer.LineAnswer.{LineAnswer}
use Rattle.pa_holds.specs.Questions.{Dividing}
use Rattle.pa_quotient.specs.declared.fault.QuotientFault.{QuotientFault}
use Rattle.pa_quotient.specs.declared.fault.QuotientFault.TheVariants as dividing
use Rattle.pa_quotient.specs.Dividing.{divided_of}
use Rattle.pa_quotient.specs.Meant.{IsTrueRefusal}
use Rattle.pa_quotient.proofs.Defined.{QuotientTells, quotient_tells}
use Rattle.pa_answers.specs.Answers.{HasOutputs, heading_of, quotient_answer}
use Rattle.pa_answers.proofs.Headings.{heading_over, heading_along}
use Rattle.pa_answers.proofs.Questions.{HoldsTo}

module _ (most : Limits) (whole part : Contract) (nominal : Nominal) where
  quotient_by : (r : Result DividedAnswer QuotientFault) → IsDistinct bytes_eq part.outputs → QuotientTells most whole part nominal r
      → HoldsTo most (Dividing whole part) (quotient_answer part r)
  quotient_by (Ok a) apart h = (h.0, h.1)
  quotient_by (Err dividing.Memory) apart h = absurd h
  quotient_by (Err (dividing.PortClash name)) apart h = h
  quotient_by (Err (dividing.VariableLimit count)) apart h = h
  quotient_by (Err (dividing.Load count)) apart h = h
  quotient_by (Err (dividing.NoMultipliers row d)) apart (none, h) = (
    none,
    (
      subst (IsStuckGuarantee whole part row) (sym (heading_over part.outputs d apart h.numbers)) h.stuck,
      heading_along part.outputs d apart h.numbers,
    ),
  )
  quotient_by (Err (dividing.PivotLimit p)) apart h = h
  quotient_by (Err (dividing.Wide p)) apart h = h

  pub quotient_told : IsWellFormed whole → IsWellFormed part → IsNominal nominal
      → HoldsTo most (Dividing whole part) (quotient_answer part (divided_of whole part nominal most.pivots))
  quotient_told whole_formed part_formed fractions =
      quotient_by (divided_of whole part nominal most.pivots) (IsDistinct-right bytes_eq part.inputs part.outputs part_formed.distinct)
      (quotient_tells most whole part nominal whole_formed part_formed fractions)

-- ---- of a call's result
-- a direction that is told has a number for each output of the part
numbers_of : (whole part : Contract) (f : QuotientFault) → IsTrueRefusal whole part f → HasOutputs part f
numbers_of whole part dividing.Memory h = tt
numbers_of whole part (dividing.PortClash name) h = tt
numbers_of whole part (dividing.VariableLimit count) h = tt
numbers_of whole part (dividing.Load count) h = tt
numbers_of whole part (dividing.NoMultipliers row d) h = h.numbers
numbers_of whole part (dividing.PivotLimit p) h = tt
numbers_of whole part (dividing.Wide p) h = tt

pub have_outputs : (whole part : Contract) (r : Result DividedAnswer QuotientFault) → IfErr r (IsTrueRefusal whole part) → IfErr r (HasOutputs part)
have_outputs whole part (Ok a) h = tt
have_outputs whole part (Err f) h = numbers_of whole part f h

-- the answer that is due, where it is settled
pub quotient_answered : {E : Type 0} (part : Contract) (due r : Result DividedAnswer QuotientFault) → IsAnswer dividing.Memory due r
    → (t : Result LineAnswer E) → IfOk t (λ x. x ≡ quotient_answer part r) → IfOk t (λ _. ¬ IsErrOf r dividing.Memory)
    → IfOk t (λ x. x ≡ quotient_answer part due)
quotient_answered part due (Ok a) h (Ok x) is settled = is ∙ ap (quotient_answer part) (sym h)
quotient_answered part due (Err f) (inl free) (Ok x) is settled = absurd (settled (ap Err free))
quotient_answered part due (Err f) (inr same) (Ok x) is settled = is ∙ ap (quotient_answer part) (sym same)
quotient_answered part due r h (Err e) is settled = tt
