-- A place in turn is one of the columns that are left, so no turn comes when none is left; and each turn is the next step.
use Rattle.std.proofs.Common.{◌≡◌, ◌∙◌, ◌+◌, ◌∷◌, ℕ, List, drop, get_or, arith}
use Rattle.std.proofs.lemmas.List.{drop_more}
use Rattle.pa_elim.specs.Projecting.{Projection}
use Rattle.pa_elim.proofs.OneMore.{can_go_on, early, leads_on, soon, turn_goes_on, turns_left}
use Rattle.pa_elim.proofs.projecting.after_steps.Goals as goal

pub overflow_cast-step : goal.overflow_cast-step
overflow_cast-step c =
    let before = soon c.args.columns c.loop-i.i c.args.places.now c.requires.can.short c.loop-i-test.true c.loop-i.invariant.turns in omega (arith, before)

pub overflow_add-step : goal.overflow_add-step
overflow_add-step c =
    let before = soon c.args.columns c.loop-i.i c.args.places.now c.requires.can.short c.loop-i-test.true c.loop-i.invariant.turns in omega (arith, before)

pub overflow_cast-left : goal.overflow_cast-left
overflow_cast-left c =
    let before = soon c.args.columns c.loop-i.i c.args.places.now c.requires.can.short c.loop-i-test.true c.loop-i.invariant.turns in omega (arith, before)

pub overflow_sub-left : goal.overflow_sub-left
overflow_sub-left c =
    let before = early c.args.columns c.loop-i.i c.args.places.now c.loop-i-test.true c.loop-i.invariant.turns in omega (arith, before)

pub loop-i-preserved : goal.loop-i-preserved
loop-i-preserved c =
    let limit : ℕ = c.args.limits.rows in
    let most : ℕ = c.args.limits.pivots in
    let n : ℕ = c.args.columns in
    let i : ℕ = c.loop-i.i in
    let places : List ℕ = c.args.places.now in
    let k : ℕ = get_or places i 0 in
    let p : Projection = c.loop-i.projected in
    let here : drop i places ≡ k ∷ drop (i + 1) places = drop_more places i 0 c.loop-i-test.true in
    let now = c.loop-i.invariant in
    record {
      exact = now.exact ∙ turn_goes_on limit most n i k places p here c.in-Ok.next c.in-Ok.ensures.answer;
      leads = λ new f. now.leads new (leads_on limit most n i k places p here c.in-Ok.next new c.in-Ok.ensures.next f);
      can = can_go_on limit most n i k places p here now.turns c.in-Ok.next c.in-Ok.ensures.next c.args.limits.rows_in_range.greatest now.can;
      turns = turns_left limit most n i k places p here now.turns;
      room = record {
        lines = c.after_step.ensures.room.lines ∙ now.room.lines;
        rows = c.after_step.ensures.room.rows ∙ now.room.rows;
      };
    }
