-- What a quotient that is told is: a call's answer is the one of the definition, or want of memory, and so true of the whole and the part.
use Rattle.std.proofs.Common.{◌≡◌, inl, inr, sym, subst, ℕ, None, Result, Ok, Err, IfOk, IfErr}
use Rattle.pa_math.specs.Answers.{IsAnswer}
use Rattle.pa_meaning.specs.Contracts.{Contract}
use Rattle.pa_meaning.specs.Quotient.{IsQuotient}
use Rattle.pa_contract.specs.Nominal.{Nominal, IsNominal}
use Rattle.pa_contract.specs.WellFormed.{IsWellFormed}
use Rattle.pa_cert.specs.Tables.{Limits}
use Rattle.pa_cert.specs.Lists.{DividedAnswer}
use Rattle.pa_holds.specs.Divided.{HoldsAsDivided}
use Rattle.pa_holds.specs.Refusals.{due_quotient}
use Rattle.pa_holds.proofs.Divided.{divided_is_true}
use Rattle.pa_holds.proofs.Refusals.{quotient_clear}
use Rattle.pa_quotient.specs.declared.fault.QuotientFault.{QuotientFault}
use Rattle.pa_quotient.specs.declared.fault.QuotientFault.TheVariants as fault
use Rattle.pa_quotient.specs.Dividing.{divided_of}
use Rattle.pa_quotient.specs.Meant.{AreExactAtNominal, IsTrueRefusal}
use Rattle.pa_quotient.proofs.Defined.{QuotientTells, quotient_tells}

-- an answer that holds as it is printed is the quotient
pub quotient_is : (whole part : Contract) (a : DividedAnswer) → IsWellFormed whole → IsWellFormed part → due_quotient whole part ≡ None
    → HoldsAsDivided whole part a → IsQuotient whole part a.contract a.narrow
quotient_is whole part a whole_formed part_formed none h =
    divided_is_true whole part whole_formed.distinct part_formed.distinct (quotient_clear whole part none) a h

-- a refusal that is told is true
pub refusal_is : (most : Limits) (whole part : Contract) (nominal : Nominal) (e : QuotientFault)
    → QuotientTells most whole part nominal (Err e) → IsTrueRefusal whole part e
refusal_is most whole part nominal fault.Memory h = absurd h
refusal_is most whole part nominal (fault.PortClash name) h = tt
refusal_is most whole part nominal (fault.VariableLimit count) h = tt
refusal_is most whole part nominal (fault.Load count) h = tt
refusal_is most whole part nominal (fault.NoMultipliers row d) h = h.1
refusal_is most whole part nominal (fault.PivotLimit p) h = tt
refusal_is most whole part nominal (fault.Wide p) h = tt

-- ---- of a call's result
-- the definition under this limit of pivots; the limit of rows is not asked for
tells_at : (whole part : Contract) (nominal : Nominal) (most : ℕ) → IsWellFormed whole → IsWellFormed part → IsNominal nominal
    → QuotientTells (record { rows = 0; pivots = most }) whole part nominal (divided_of whole part nominal most)
tells_at whole part nominal most whole_formed part_formed is =
    quotient_tells (record { rows = 0; pivots = most }) whole part nominal whole_formed part_formed is

module _ (whole part : Contract) (nominal : Nominal) (most : ℕ) (result : Result DividedAnswer QuotientFault) (whole_formed : IsWellFormed whole)
    (part_formed : IsWellFormed part) (values : IsNominal nominal) (answer : IsAnswer fault.Memory (divided_of whole part nominal most) result) where
  abbrev limits : Limits
  limits = record { rows = 0; pivots = most }

  -- what holds of each answer of the definition holds of each answer of the call
  given_ok : (P : DividedAnswer → Type 0) → ((a : DividedAnswer) → QuotientTells limits whole part nominal (Ok a) → P a) → IfOk result P
  given_ok P h = by result answer
    where
      by : (r : Result DividedAnswer QuotientFault) → IsAnswer fault.Memory (divided_of whole part nominal most) r → IfOk r P
      by (Ok a) is = h a (subst (QuotientTells limits whole part nominal) is (tells_at whole part nominal most whole_formed part_formed values))
      by (Err e) is = tt

  pub refused_told : IfOk result (λ a. due_quotient whole part ≡ None)
  refused_told = given_ok (λ a. due_quotient whole part ≡ None) (λ a told. told.0)

  pub printed_told : IfOk result (HoldsAsDivided whole part)
  printed_told = given_ok (HoldsAsDivided whole part) (λ a told. told.1)

  pub exact_told : IfOk result (λ a. AreExactAtNominal whole part nominal a.shifts)
  exact_told = given_ok (λ a. AreExactAtNominal whole part nominal a.shifts) (λ a told. told.2)

  pub quotient_told : IfOk result (λ a. IsQuotient whole part a.contract a.narrow)
  quotient_told = given_ok (λ a. IsQuotient whole part a.contract a.narrow)
      (λ a told. quotient_is whole part a whole_formed part_formed told.0 told.1)

  pub refusal_told : IfErr result (IsTrueRefusal whole part)
  refusal_told = by result answer
    where
      by : (r : Result DividedAnswer QuotientFault) → IsAnswer fault.Memory (divided_of whole part nominal most) r → IfErr r (IsTrueRefusal whole part)
      by (Ok a) is = tt
      by (Err e) (inl free) = subst (IsTrueRefusal whole part) (sym free) tt
      by (Err e) (inr is) = refusal_is limits whole part nominal e
          (subst (QuotientTells limits whole part nominal) is (tells_at whole part nominal most whole_formed part_formed values))
