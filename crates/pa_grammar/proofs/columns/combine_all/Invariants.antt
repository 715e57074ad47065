use Rattle.std.proofs.Common.{◌≡◌, map, drop}
use Rattle.pa_grammar.specs.Seen.{fraction}
use Rattle.pa_grammar.specs.Values.{combined_all}
use Rattle.pa_grammar.proofs.Changes.{combined_from}
use Rattle.pa_grammar.proofs.columns.combine_all.Given as goal

-- the columns so far, and the rest combined, are all combined
abbrev pub invariant-loop-i : goal.invariant-loop-i
invariant-loop-i l = combined_from l.sign l.i (map fraction l.vector) (map fraction (drop l.i l.more))
    ≡ combined_all l.sign (map fraction l.fn.vector) (map fraction l.more)
