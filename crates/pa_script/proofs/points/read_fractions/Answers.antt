use Rattle.pa_script.proofs.Short.{short_at}
use Rattle.pa_script.proofs.points.read_fractions.Goals as goal

pub with_fraction-requires : goal.with_fraction-requires
with_fraction-requires c = short_at (λ word. word.now) c.args.words.now c.loop-word.word-index _ c.loop-word-test.true c.requires
