-- What the definition answers is true of the parts, and the call answers what the definition does, or want of memory.
use Rattle.pa_discharge.specs.Discharging.{discharged_of}
use Rattle.pa_discharge.proofs.Defined.{discharge_tells}
use Rattle.pa_discharge.proofs.Told.{refusal_told, truth_told}
use Rattle.pa_discharge.proofs.Unlimited.{discharge_unlimited}
use Rattle.pa_discharge.proofs.discharged.discharge.Goals as goal

pub returns-clause-truth : goal.returns-clause-truth
returns-clause-truth c =
    truth_told c.args.most c.args.parts.now c.args.nominal.now (discharged_of c.args.parts.now c.args.nominal.now c.args.most) c.discharged_parts.result
    (discharge_tells c.args.parts.now c.args.nominal.now c.args.most c.show_formed.ensures c.requires.apart c.requires.few c.requires.short
    c.show_nominal.ensures) c.discharged_parts.ensures.exact

pub returns-clause-refusals : goal.returns-clause-refusals
returns-clause-refusals c =
    refusal_told c.args.most c.args.parts.now c.args.nominal.now (discharged_of c.args.parts.now c.args.nominal.now c.args.most) c.discharged_parts.result
    (discharge_tells c.args.parts.now c.args.nominal.now c.args.most c.show_formed.ensures c.requires.apart c.requires.few c.requires.short
    c.show_nominal.ensures) c.discharged_parts.ensures.exact

pub returns-clause-unlimited : goal.returns-clause-unlimited
returns-clause-unlimited c bases =
    discharge_unlimited c.args.parts.now c.args.nominal.now c.args.most c.discharged_parts.result c.discharged_parts.ensures.exact bases
