-- What a composition that is told is: a call's answer is the one of the definition, or want of memory, and so true of the parts.
use Rattle.std.proofs.Common.{◌≡◌, inl, inr, sym, subst, ℕ, ◌≤◌, List, All, None, Result, Ok, Err, IfOk, IfErr}
use Rattle.std.proofs.lemmas.List.Elements.{All-weaker}
use Rattle.std.specs.List.{IsDistinct}
use Rattle.std.specs.Str.{bytes_eq}
use Rattle.pa_math.specs.Answers.{IsAnswer}
use Rattle.pa_meaning.specs.Contracts.{Name, Contract, ports}
use Rattle.pa_meaning.specs.Composition.{IsComposite}
use Rattle.pa_witness.specs.Steps.{Two}
use Rattle.pa_contract.specs.Nominal.{IsNominal, Nominal}
use Rattle.pa_contract.specs.WellFormed.{IsWellFormed}
use Rattle.pa_cert.specs.Tables.{Limits}
use Rattle.pa_cert.specs.Lists.{ComposedAnswer}
use Rattle.pa_holds.specs.Composed.{HoldsAsComposed}
use Rattle.pa_holds.specs.Refusals.{due_compose}
use Rattle.pa_holds.proofs.Composed.{composed_is_true}
use Rattle.pa_holds.proofs.Refusals.{compose_distinct}
use Rattle.pa_discharge.specs.Meant.{AreExactAtNominal, AreRounds}
use Rattle.pa_compose.specs.declared.compose_fault.ComposeFault.{ComposeFault}
use Rattle.pa_compose.specs.declared.compose_fault.ComposeFault.TheVariants as fault
use Rattle.pa_compose.specs.Composing.{composed_of}
use Rattle.pa_compose.specs.Composite.{IsTrueRefusal}
use Rattle.pa_compose.proofs.ComposeDefined.{ComposeTells, compose_tells}

-- an answer that holds as it is printed is the composite
pub composite_is : (most : Limits) (parts : List Contract) (keep : List Name) (a : ComposedAnswer) → All IsWellFormed parts → due_compose parts keep ≡ None
    → HoldsAsComposed Two most.rows parts keep a → IsComposite parts keep a.contract
composite_is most parts keep a formed none h =
    composed_is_true Two most.rows parts keep a (All-weaker IsWellFormed (λ p. IsDistinct bytes_eq (ports p)) (λ p w. w.distinct) parts formed)
    (compose_distinct parts keep none) h

-- a refusal that is told is true
pub refusal_is : (most : Limits) (parts : List Contract) (keep : List Name) (nominal : Nominal) (e : ComposeFault)
    → ComposeTells most parts keep nominal (Err e) → IsTrueRefusal parts e
refusal_is most parts keep nominal fault.Memory h = absurd h
refusal_is most parts keep nominal (fault.PortClash name) h = tt
refusal_is most parts keep nominal (fault.NotOutput name) h = tt
refusal_is most parts keep nominal (fault.VariableLimit count) h = tt
refusal_is most parts keep nominal (fault.Load count) h = tt
refusal_is most parts keep nominal (fault.NoMultipliers s) h = h.1
refusal_is most parts keep nominal (fault.Circle ss) h = h.1
refusal_is most parts keep nominal (fault.RowLimit step count) h = tt
refusal_is most parts keep nominal (fault.PivotLimit p) h = tt
refusal_is most parts keep nominal (fault.Wide p) h = tt

module _ (most : Limits) (parts : List Contract) (keep : List Name) (nominal : Nominal) (due : Result ComposedAnswer ComposeFault)
    (tells : ComposeTells most parts keep nominal due) where
  answer_tells : (a : ComposedAnswer) → due ≡ Ok a → ComposeTells most parts keep nominal (Ok a)
  answer_tells a is = subst (ComposeTells most parts keep nominal) is tells

  pub refused_told : (result : Result ComposedAnswer ComposeFault) → IsAnswer fault.Memory due result → IfOk result (λ a. due_compose parts keep ≡ None)
  refused_told (Ok a) is = (answer_tells a is).0
  refused_told (Err e) is = tt

  pub printed_told : (result : Result ComposedAnswer ComposeFault) → IsAnswer fault.Memory due result
      → IfOk result (HoldsAsComposed Two most.rows parts keep)
  printed_told (Ok a) is = (answer_tells a is).1
  printed_told (Err e) is = tt

  pub rounds_told : (result : Result ComposedAnswer ComposeFault) → IsAnswer fault.Memory due result → IfOk result (λ a. AreRounds parts a.discharges)
  rounds_told (Ok a) is = (answer_tells a is).2
  rounds_told (Err e) is = tt

  pub exact_told : (result : Result ComposedAnswer ComposeFault) → IsAnswer fault.Memory due result
      → IfOk result (λ a. AreExactAtNominal parts nominal a.discharges)
  exact_told (Ok a) is = (answer_tells a is).3
  exact_told (Err e) is = tt

  pub composite_told : All IsWellFormed parts → (result : Result ComposedAnswer ComposeFault) → IsAnswer fault.Memory due result
      → IfOk result (λ a. IsComposite parts keep a.contract)
  composite_told formed (Ok a) is = let told = answer_tells a is in composite_is most parts keep a formed told.0 told.1
  composite_told formed (Err e) is = tt

  pub refusal_told : (result : Result ComposedAnswer ComposeFault) → IsAnswer fault.Memory due result → IfErr result (IsTrueRefusal parts)
  refusal_told (Ok a) is = tt
  refusal_told (Err e) (inl free) = subst (IsTrueRefusal parts) (sym free) tt
  refusal_told (Err e) (inr is) = refusal_is most parts keep nominal e (subst (ComposeTells most parts keep nominal) is tells)

-- what a call's answer says, within limits of rows and of pivots
module _ (rows pivots : ℕ) (parts : List Contract) (keep : List Name) (nominal : Nominal) (small : rows ≤ 4096) (formed : All IsWellFormed parts)
    (values : IsNominal nominal) (result : Result ComposedAnswer ComposeFault)
    (is : IsAnswer fault.Memory (composed_of parts keep nominal rows pivots) result) where
  abbrev limits : Limits
  limits = record { rows = rows; pivots = pivots }

  tells : ComposeTells limits parts keep nominal (composed_of parts keep nominal rows pivots)
  tells = compose_tells limits parts keep nominal small formed values

  pub call_refused : IfOk result (λ a. due_compose parts keep ≡ None)
  call_refused = refused_told limits parts keep nominal (composed_of parts keep nominal rows pivots) tells result is

  pub call_printed : IfOk result (HoldsAsComposed Two rows parts keep)
  call_printed = printed_told limits parts keep nominal (composed_of parts keep nominal rows pivots) tells result is

  pub call_rounds : IfOk result (λ a. AreRounds parts a.discharges)
  call_rounds = rounds_told limits parts keep nominal (composed_of parts keep nominal rows pivots) tells result is

  pub call_exact : IfOk result (λ a. AreExactAtNominal parts nominal a.discharges)
  call_exact = exact_told limits parts keep nominal (composed_of parts keep nominal rows pivots) tells result is

  pub call_composite : IfOk result (λ a. IsComposite parts keep a.contract)
  call_composite = composite_told limits parts keep nominal (composed_of parts keep nominal rows pivots) tells formed result is

  pub call_refusal : IfErr result (IsTrueRefusal parts)
  call_refusal = refusal_told limits parts keep nominal (composed_of parts keep nominal rows pivots) tells result is
