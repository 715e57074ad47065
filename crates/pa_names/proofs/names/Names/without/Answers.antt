use Rattle.std.proofs.Common.{ℕ, ◌≤◌, List, length, Result, arith, subst}
use Rattle.pa_math.specs.Answers.{IsAnswer}
use Rattle.pa_names.specs.Names.{most_names}
use Rattle.pa_names.specs.declared.fault.NameFault.{NameFault}
use Rattle.pa_names.specs.declared.fault.NameFault.TheVariants.{Memory}
use Rattle.pa_names.proofs.Kept.{kept_alone}
use Rattle.pa_names.proofs.names.Names.without.Goals as goal

pub returns-in-Ok : goal.returns-in-Ok
returns-in-Ok c =
    let short : length c.args.self.now ≤ most_names = omega arith in
    let due : Result (List (List ℕ)) NameFault → Type 0 = λ answer. IsAnswer Memory answer c.with_all_but.result in
    subst due (kept_alone c.args.self.now c.args.other.now _ c.in-Ok.ensures.empty c.len.ensures.distinct short) c.with_all_but.ensures
