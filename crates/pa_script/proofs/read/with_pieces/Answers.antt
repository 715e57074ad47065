use Rattle.std.proofs.Common.{◌+◌, ◌∷◌, map, drop, ap, sym, ◌∙◌}
use Rattle.pa_script.specs.declared.fault.ScriptFault.TheVariants.{Memory}
use Rattle.pa_script.specs.Script.{with_line, numbered}
use Rattle.pa_script.proofs.Numbered.{numbered_at}
use Rattle.pa_script.proofs.Turns.{turn_taken, turn_refused}
use Rattle.pa_script.proofs.read.with_pieces.Goals as goal

-- the line of this turn is the first of those that are left
pub loop-place-preserved : goal.loop-place-preserved
loop-place-preserved c =
    let place = c.loop-place.place in
    let rest = numbered (place + 1 + 1) (map (λ piece. piece.now) (drop (place + 1) c.args.pieces.now)) in
    turn_taken with_line _ _ _ _ _ _ c.in-Ok.ensures
    (numbered_at (λ piece. piece.now) c.args.pieces.now place (place + 1) _ c.loop-place-test.true ∙ ap (λ line. (place + 1, line) ∷ rest) (sym
    c.line_of-line.ensures))
    c.loop-place.invariant

pub returns-in-Err : goal.returns-in-Err
returns-in-Err c =
    let place = c.loop-place.place in
    let rest = numbered (place + 1 + 1) (map (λ piece. piece.now) (drop (place + 1) c.args.pieces.now)) in
    turn_refused with_line _ _ _ _ _ Memory _ c.in-Err.ensures
    (numbered_at (λ piece. piece.now) c.args.pieces.now place (place + 1) _ c.loop-place-test.true ∙ ap (λ line. (place + 1, line) ∷ rest) (sym
    c.line_of-line.ensures))
    c.loop-place.invariant
