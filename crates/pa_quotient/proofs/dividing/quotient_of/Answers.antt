use Rattle.std.proofs.Common.{ap}
use Rattle.std.specs.Option.{option_copied}
use Rattle.pa_quotient.proofs.DueTests.{unshared}
use Rattle.pa_quotient.proofs.dividing.quotient_of.Goals as goal

pub quotient_apart-requires-clause-apart : goal.quotient_apart-requires-clause-apart
quotient_apart-requires-clause-apart c =
    unshared c.args.whole.now c.args.part.now _ _ _ c.whole.view_is c.part.view_is c.first_shared_name.ensures (ap option_copied c.in_default.is)
