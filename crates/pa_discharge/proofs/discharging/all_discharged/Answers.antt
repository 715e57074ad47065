-- No part is discharged at the start; each round leads to the next, or its refusal is the whole's; and where all parts are discharged no round follows.
use Rattle.std.proofs.Common.{◌≡◌, ◌∙◌, ◌⊎◌, ap, refl, sym, subst, arith, length, Ok, Err}
use Rattle.pa_discharge.specs.declared.fault.DischargeFault.TheVariants as fault
use Rattle.pa_discharge.specs.Discharging.{round_in}
use Rattle.pa_discharge.specs.Seen.{Composition, Discharging, asked_by, start_of}
use Rattle.pa_discharge.proofs.AllRounds.{rounds_done, rounds_more, rounds_start, rounds_stop, start_stands}
use Rattle.pa_discharge.proofs.discharging.all_discharged.Goals as goal

pub loop-round-init : goal.loop-round-init
loop-round-init c =
    let composed : Composition = c.args.composition.now in
    let start : c.in-Ok.state ≡ start_of (length composed.parts) c.args.nominal =
    c.in-Ok.ensures ∙ ap (λ n. start_of n c.args.nominal) c.len-count.ensures in
    record {
      exact = rounds_start (asked_by composed c.args.nominal c.args.most) c.args.nominal c.in-Ok.state start;
      standing = start_stands composed c.args.nominal c.in-Ok.state c.requires.nominal start;
      nominal = ap (λ (d : Discharging). d.premises.nominal) start;
      room = record { lines = refl; rows = refl };
    }

pub returns-then-is_done-clause-exact : goal.returns-then-is_done-clause-exact
returns-then-is_done-clause-exact c =
    c.loop-round.invariant.exact ∙ rounds_done (asked_by c.args.composition.now c.args.nominal c.args.most) c.loop-round.round _ c.loop-round.state.brought
    (sym c.is_done.ensures ∙ c.if-is_done.true)

pub returns-in-Err-after_round-clause-exact : goal.returns-in-Err-after_round-clause-exact
returns-in-Err-after_round-clause-exact c =
    let due = c.in-Err-after_round.fault in
    rounds_stop (asked_by c.args.composition.now c.args.nominal c.args.most) c.loop-round.round (length c.args.composition.now.parts)
    c.loop-round.state.brought (omega (arith, c.loop-round-test.true, c.len-count.ensures)) (sym c.is_done.ensures ∙ c.if-is_done.false) _ due
    c.loop-round.invariant.exact
    (subst (λ x. (due ≡ fault.Memory) ⊎ (round_in (asked_by c.args.composition.now x c.args.most) c.loop-round.round c.loop-round.state.brought ≡ Err due))
    c.loop-round.invariant.nominal c.in-Err-after_round.ensures.exact)

pub loop-round-preserved : goal.loop-round-preserved
loop-round-preserved c =
    let next : Discharging = c.in-Ok-after_round.next in
    record {
      exact = c.loop-round.invariant.exact
          ∙ rounds_more (asked_by c.args.composition.now c.args.nominal c.args.most) c.loop-round.round (length c.args.composition.now.parts)
          c.loop-round.state.brought (omega (arith, c.loop-round-test.true, c.len-count.ensures)) (sym c.is_done.ensures ∙ c.if-is_done.false) next.brought
          (subst (λ x. round_in (asked_by c.args.composition.now x c.args.most) c.loop-round.round c.loop-round.state.brought ≡ Ok next.brought)
          c.loop-round.invariant.nominal c.in-Ok-after_round.ensures.exact);
      standing = c.in-Ok-after_round.ensures.standing;
      nominal = c.in-Ok-after_round.ensures.nominal ∙ c.loop-round.invariant.nominal;
      room = record {
        lines = c.after_round.ensures.room.lines ∙ c.loop-round.invariant.room.lines;
        rows = c.after_round.ensures.room.rows ∙ c.loop-round.invariant.room.rows;
      };
    }
