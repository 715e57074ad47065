use Rattle.std.proofs.Common.{◌≡◌, drop, map}
use Rattle.pa_grammar.specs.Seen.{seen_side}
use Rattle.pa_grammar.specs.Chosen.{added_to, chain_of, chained_rows}
use Rattle.pa_grammar.proofs.rows.chain_rows.Given as goal

-- the rows so far, and those of the sides that are left, are all
abbrev pub invariant-loop-next : goal.invariant-loop-next
invariant-loop-next l =
    added_to l.rows.items (chained_rows l.relation (seen_side l.side) (map seen_side (drop l.next-index l.others)))
    ≡ chain_of l.relation (map seen_side l.sides)
