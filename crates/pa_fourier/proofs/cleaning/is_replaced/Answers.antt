-- The walk begins at the first place of the group, and each turn passes over rows of other groups alone.
use Rattle.std.proofs.Common.{◌≡◌, ◌∙◌, map, get_or, true, false, rules, arith, Ok, Err}
use Rattle.pa_fourier.specs.Bounds.{bound_at, fraction, stands_by}
use Rattle.pa_fourier.proofs.Walks.{walked, walk_turn, walk_next, stood_in, not_stood_in, too_wide}
use Rattle.pa_fourier.proofs.cleaning.is_replaced.Goals as goal

pub loop-other-init : goal.loop-other-init
loop-other-init c = record {
  within = let w = c.first-other.ensures.within in let n = c.requires.groups.count in omega arith;
  group = λ h. c.first-other.ensures.has (let n = c.requires.groups.count in omega arith);
  told = walked c.args.rows.now c.args.chains.now.groups.items c.args.place 0 c.first-other.result c.requires.groups c.requires.place c.first-other.ensures;
}

pub returns-in-Ok-true : goal.returns-in-Ok-true
returns-in-Ok-true c =
    let bounds = map fraction c.args.bounds.now in
    let one : Ok true ≡ stands_by c.args.place (bound_at bounds c.args.place) c.loop-other.other (bound_at bounds c.loop-other.other) = search rules in
    stood_in _ _ _
    (c.loop-other.invariant.told
    ∙ walk_next c.args.rows.now c.args.chains.now.groups.items c.args.chains.now.heads.items c.args.chains.now.next.items bounds c.args.place c.loop-other.other
    c.requires.groups c.requires.linked c.requires.bounds c.requires.place c.loop-other-test.true c.requires.solid
    (c.loop-other.invariant.group c.loop-other-test.true))
    one

pub returns-in-Err : goal.returns-in-Err
returns-in-Err c =
    let bounds = map fraction c.args.bounds.now in
    let one : Err c.in-Err.wide ≡ stands_by c.args.place (bound_at bounds c.args.place) c.loop-other.other (bound_at bounds c.loop-other.other) =
    search rules in
    too_wide _ _ _ c.in-Err.wide
    (c.loop-other.invariant.told
    ∙ walk_next c.args.rows.now c.args.chains.now.groups.items c.args.chains.now.heads.items c.args.chains.now.next.items bounds c.args.place c.loop-other.other
    c.requires.groups c.requires.linked c.requires.bounds c.requires.place c.loop-other-test.true c.requires.solid
    (c.loop-other.invariant.group c.loop-other-test.true))
    one

pub loop-other-preserved : goal.loop-other-preserved
loop-other-preserved c =
    let bounds = map fraction c.args.bounds.now in
    let one : Ok false ≡ stands_by c.args.place (bound_at bounds c.args.place) c.loop-other.other (bound_at bounds c.loop-other.other) = search rules in
    let same : get_or c.args.chains.now.groups.items c.loop-other.other 0 ≡ get_or c.args.chains.now.groups.items c.args.place 0
    = c.loop-other.invariant.group c.loop-other-test.true in
    record {
      within = let w = c.after-other.ensures.within in let n = c.requires.groups.count in omega arith;
      group = λ h. c.after-other.ensures.has (let n = c.requires.groups.count in omega arith) ∙ same;
      told = not_stood_in _ _ _
          (c.loop-other.invariant.told
          ∙ walk_turn c.args.rows.now c.args.chains.now.groups.items bounds c.args.place c.loop-other.other c.after-other.result
          c.requires.groups c.requires.bounds c.requires.place c.loop-other-test.true c.requires.solid same c.after-other.ensures)
          one;
    }
