-- The rows and the goal are those of the contract.
use Rattle.std.proofs.Common.{ap, sym, ◌∙◌}
use Rattle.pa_math.specs.Answers.{told_as}
use Rattle.pa_refine.specs.Bounding.{best_of, bound_fault}
use Rattle.pa_refine.proofs.bounding.best_over.Goals as goal

pub returns-in-Ok-best-clause-exact : goal.returns-in-Ok-best-clause-exact
returns-in-Ok-best-clause-exact c =
    ap (told_as bound_fault) (ap (λ a. best_of a c.args.most) (sym c.in-Ok.ensures.value) ∙ c.in-Ok-best.ensures.exact)
