-- A row that is positive is looked up, and found exactly where its negative is there.
use Rattle.std.proofs.Common.{◌∙◌, ◌<◌, ap, sym, length, arith, rules}
use Rattle.std.proofs.lemmas.Int.{ints}
use Rattle.std.specs.Option.{option_copied}
use Rattle.pa_fourier.proofs.Opposites.{equality_none, equality_passed}
use Rattle.pa_fourier.proofs.equality.equality_of.Goals as goal
use Rattle.pa_fourier.proofs.equality.equality_of.Goals.{then-number_in-gt0+in_default, else-number_in-gt0}

pub loop-place-preserved : goal.loop-place-preserved
loop-place-preserved c =
    let within : c.loop-place.place < length c.args.rows.now = search rules in
    let v = c.number_in.ensures.value in
    c.loop-place.invariant
    ∙ (elim c.if-number_in-gt0.branch [
      | then-number_in-gt0+in_default w ↦
          equality_none c.args.column c.args.rows.now c.loop-place.place c.index-rows-place.result within c.index-rows-place.is
          (sym (c.in_ok-opposites.ensures c.index-rows-place.result (let t = w.if-number_in-gt0 in omega (arith, ints)))
          ∙ sym w.get.ensures.value ∙ ap option_copied w.in_default.is)
      | else-number_in-gt0 w ↦
          equality_passed c.args.column c.args.rows.now c.loop-place.place c.index-rows-place.result within c.index-rows-place.is
          (let t = w.if-number_in-gt0 in omega (arith, ints))
    ])
