use Rattle.std.proofs.Common.{◌∙◌, ap, inr}
use Rattle.std.specs.Prelude.{position}
use Rattle.pa_contract.specs.Testing.{passes_at, sum_place}
use Rattle.pa_contract.specs.declared.fault.TestFault.TheVariants.{Wide}
use Rattle.pa_contract.proofs.Words.{first_here}
use Rattle.pa_contract.proofs.testing.words.Goals as goal

-- the row that passes is the first, since the first stands in the rest
pub returns-in-Err-clause-wide : goal.returns-in-Err-clause-wide
returns-in-Err-clause-wide c =
    let passes = passes_at c.args.at.now in
    inr (
      c.loop-row.row-index,
      first_here passes c.args.rows.now c.loop-row.row-index c.row-item.result
          (position passes c.args.rows.now) c.loop-row-test.true c.row-item.is c.in-Err.ensures.wide.0 c.loop-row.invariant.rest,
      c.in-Err.ensures.wide.1 ∙ ap (λ number. Wide (sum_place number)) c.loop-row.invariant.number,
    )
