use Rattle.std.proofs.Common.{◌≡◌, ◌++◌, None, drop, option_map}
use Rattle.pa_contract.specs.Named.{contracts_named}
use Rattle.pa_answers.specs.Answers.{first_unknown}
use Rattle.pa_answers.proofs.composing.parts_named.Given as goal

-- the parts so far and those of the names that are left are all, and each name that is left is known
abbrev pub invariant-loop-name : goal.invariant-loop-name
invariant-loop-name l =
    (option_map (λ rest. l.parts ++ rest) (contracts_named l.table.contracts (drop l.name-index l.names)) ≡ contracts_named l.table.contracts l.names)
    × (first_unknown l.table (drop l.name-index l.names) ≡ None)
