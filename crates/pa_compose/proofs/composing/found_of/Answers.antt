-- What the rounds leave of the assumptions are few rows over the external inputs, for which the work has room.
use Rattle.std.proofs.Common.{◌∙◌, ◌+◌, ap, ap₂, length}
use Rattle.pa_parts.specs.Composing.{Ports}
use Rattle.pa_discharge.specs.Rounds.{Discharged}
use Rattle.pa_compose.proofs.ComposeCalls.{left_few, left_fit, room_for_left}
use Rattle.pa_compose.proofs.composing.found_of.Goals as goal

pub assumptions_of-requires-clause-columns : goal.assumptions_of-requires-clause-columns
assumptions_of-requires-clause-columns c =
    left_fit c.args.parts.now c.args.keep.now c.args.ports.now c.requires.can c.args.nominal.now c.in_ok-discharged.discharged c.in_ok-discharged.ensures.truth
    c.deref.result.now (c.deref.ensures.value ∙ ap (λ (d : Discharged). d.assumptions) c.discharged-2.view_is) c.len-3.result
    (c.len-3.ensures.value ∙ ap (λ (ps : Ports). length ps.external) c.ports.view_is)

pub assumptions_of-requires-clause-few : goal.assumptions_of-requires-clause-few
assumptions_of-requires-clause-few c =
    left_few c.args.parts.now c.args.keep.now c.args.ports.now c.requires.can c.args.nominal.now c.in_ok-discharged.discharged c.in_ok-discharged.ensures.truth
    c.deref.result.now (c.deref.ensures.value ∙ ap (λ (d : Discharged). d.assumptions) c.discharged-2.view_is) c.len-3.result
    (c.len-3.ensures.value ∙ ap (λ (ps : Ports). length ps.external) c.ports.view_is)

pub assumptions_of-requires-clause-room : goal.assumptions_of-requires-clause-room
assumptions_of-requires-clause-room c =
    room_for_left c.args.parts.now c.args.keep.now c.args.ports.now c.requires.can c.args.nominal.now c.in_ok-discharged.discharged
    c.in_ok-discharged.ensures.truth c.deref.result.now (c.deref.ensures.value ∙ ap (λ (d : Discharged). d.assumptions) c.discharged-2.view_is) c.len-3.result
    (c.len-3.ensures.value ∙ ap (λ (ps : Ports). length ps.external) c.ports.view_is) (c.len.result + c.len-2.result) c.row_count.result
    c.in-Ok.work c.discharged.new.work
    (ap₂ (λ m n. m + n) (c.len.ensures.value ∙ ap (λ (ps : Ports). length ps.external) c.ports.view_is)
    (c.len-2.ensures.value ∙ ap (λ (ps : Ports). length ps.outputs) c.ports.view_is))
    c.row_count.ensures c.in-Ok.ensures c.discharged.ensures.room
