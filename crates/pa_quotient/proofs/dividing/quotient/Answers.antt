-- What the definition answers is true of the whole and the part, and the call answers what the definition does, or want of memory.
use Rattle.pa_quotient.proofs.Told.{exact_told, printed_told, quotient_told, refusal_told, refused_told}
use Rattle.pa_quotient.proofs.Unlimited.{quotient_unlimited}
use Rattle.pa_quotient.proofs.dividing.quotient.Goals as goal

pub returns-clause-truth : goal.returns-clause-truth
returns-clause-truth c =
    quotient_told c.args.whole.now c.args.part.now c.args.nominal.now c.args.limits.pivots c.quotient_of.result c.show_well_formed.ensures
    c.show_well_formed-2.ensures c.show_nominal.ensures c.quotient_of.ensures

pub returns-clause-printed : goal.returns-clause-printed
returns-clause-printed c =
    printed_told c.args.whole.now c.args.part.now c.args.nominal.now c.args.limits.pivots c.quotient_of.result c.show_well_formed.ensures
    c.show_well_formed-2.ensures c.show_nominal.ensures c.quotient_of.ensures

pub returns-clause-nominal : goal.returns-clause-nominal
returns-clause-nominal c =
    exact_told c.args.whole.now c.args.part.now c.args.nominal.now c.args.limits.pivots c.quotient_of.result c.show_well_formed.ensures
    c.show_well_formed-2.ensures c.show_nominal.ensures c.quotient_of.ensures

pub returns-clause-refusals : goal.returns-clause-refusals
returns-clause-refusals c =
    refusal_told c.args.whole.now c.args.part.now c.args.nominal.now c.args.limits.pivots c.quotient_of.result c.show_well_formed.ensures
    c.show_well_formed-2.ensures c.show_nominal.ensures c.quotient_of.ensures

pub returns-clause-refused : goal.returns-clause-refused
returns-clause-refused c =
    refused_told c.args.whole.now c.args.part.now c.args.nominal.now c.args.limits.pivots c.quotient_of.result c.show_well_formed.ensures
    c.show_well_formed-2.ensures c.show_nominal.ensures c.quotient_of.ensures

pub returns-clause-unlimited : goal.returns-clause-unlimited
returns-clause-unlimited c bases =
    quotient_unlimited c.args.whole.now c.args.part.now c.args.nominal.now c.args.limits.pivots c.show_well_formed.ensures c.show_well_formed-2.ensures
    c.show_nominal.ensures bases c.quotient_of.result c.quotient_of.ensures
