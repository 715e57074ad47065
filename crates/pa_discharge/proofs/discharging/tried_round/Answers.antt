-- The premises are the guarantees of the discharged parts, so the round is the one that is due, and keeps what was discharged before it.
use Rattle.std.proofs.Common.{◌∙◌, ◌≤◌, ap₂, sym, subst, length, List}
use Rattle.pa_math.specs.Answers.{IsAnswer}
use Rattle.pa_meaning.specs.Rows.{Row}
use Rattle.pa_meaning.specs.Composition.{names_of}
use Rattle.pa_holds.specs.Composed.{all_guarantees}
use Rattle.pa_tableau.specs.Work.{HasRoom}
use Rattle.pa_row.specs.declared.place.Halt.TheVariants.{Memory}
use Rattle.pa_discharge.specs.Discharging.{round_of}
use Rattle.pa_discharge.specs.Seen.{CanTryEach, Composition, IsAfter}
use Rattle.pa_discharge.proofs.OneRound.{if_ok, round_after}
use Rattle.pa_discharge.proofs.Room.{can_try_discharged, discharged_fewer, room_for_fewer, terms_count}
use Rattle.pa_discharge.proofs.discharging.tried_round.Goals as goal

pub round_of-requires-clause-can : goal.round_of-requires-clause-can
round_of-requires-clause-can c =
    subst (λ n. CanTryEach n c.args.premises.now c.terms.result.now) (sym c.columns.ensures)
    (subst (CanTryEach c.args.composition.now.columns c.args.premises.now) (sym c.terms.ensures)
    (can_try_discharged c.args.composition.now c.args.premises.now c.args.standing c.requires.can c.requires.standing.nominal c.requires.standing.rows))

pub round_of-requires-clause-room : goal.round_of-requires-clause-room
round_of-requires-clause-room c =
    let composed : Composition = c.args.composition.now in
    let few : length c.args.premises.now.rows ≤ length (all_guarantees composed.parts) =
    subst (λ (rows : List Row). length rows ≤ length (all_guarantees composed.parts)) (sym c.requires.standing.rows)
    (discharged_fewer (names_of composed.parts) composed.parts c.args.standing) in
    subst (λ n. HasRoom n (length c.args.premises.now.rows) c.args.work.now) (sym c.columns.ensures)
    (room_for_fewer composed.columns (length (all_guarantees composed.parts)) (length c.args.premises.now.rows) c.args.work.now few c.requires.room)

pub returns-clause-exact : goal.returns-clause-exact
returns-clause-exact c =
    subst (λ due. IsAnswer Memory due c.round_of.result)
    (ap₂ (λ rows terms. round_of (record { nominal = c.args.premises.now.nominal; rows = rows }) c.args.most c.args.round terms c.args.standing)
    c.requires.standing.rows (c.terms.ensures ∙ c.requires.can.rows)) c.round_of.ensures.exact

pub returns-clause-after : goal.returns-clause-after
returns-clause-after c =
    if_ok Memory _ c.round_of.result (λ r. IsAfter c.args.round c.args.standing r.brought)
    (λ r turns. round_after c.args.premises.now c.args.most c.args.round c.terms.result.now c.args.standing r
    (terms_count c.args.composition.now c.terms.result.now c.args.standing c.requires.can c.terms.ensures c.requires.standing.parts)
    c.requires.standing.rounds turns) c.round_of.ensures.exact
