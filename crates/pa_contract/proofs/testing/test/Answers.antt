-- The answer is the one that is due for the contract, and what is due is true of it.
use Rattle.std.proofs.Common.{◌≡◌, ◌∙◌, ap, subst, Result}
use Rattle.pa_math.specs.Answers.{IsAnswer}
use Rattle.pa_meaning.specs.Contracts.{Contract}
use Rattle.pa_contract.specs.Testing.{Tested, IsTested, SaysOfBehaviours, rows_tested, tested}
use Rattle.pa_contract.specs.WellFormed.{IsWellFormed}
use Rattle.pa_contract.specs.declared.fault.TestFault.{TestFault}
use Rattle.pa_contract.specs.declared.fault.TestFault.TheVariants.{Memory}
use Rattle.pa_contract.proofs.Words.{answer_says, tested_is_tested, tested_says}
use Rattle.pa_contract.proofs.testing.test.Goals as goal

pub returns : goal.returns
returns c =
    let contract = c.args.contract.now in
    let x = c.args.at.now in
    let rows : c.deref.result.now ≡ contract.assumptions = c.deref.ensures.value ∙ ap (λ (v : Contract). v.assumptions) c.contract.view_is in
    let others : c.deref-2.result.now ≡ contract.guarantees = c.deref-2.ensures.value ∙ ap (λ (v : Contract). v.guarantees) c.contract.view_is in
    let due : Result Tested TestFault → Type 0 = λ r. IsAnswer Memory r c.rows_tested.result in
    let answer : IsAnswer Memory (tested contract x) c.rows_tested.result = subst due (λ i. rows_tested (rows i) (others i) x) c.rows_tested.ensures in
    record {
      answer = answer;
      truth = answer_says (IsTested contract x) Memory (tested contract x) c.rows_tested.result answer (tested_is_tested contract x);
      behaviours = answer_says (SaysOfBehaviours contract x) Memory (tested contract x) c.rows_tested.result answer
          (λ t. tested_says contract x t (subst IsWellFormed c.contract.view_is c.contract.invariant) c.requires);
    }
