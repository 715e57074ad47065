-- Contracts by their names.
use Rattle.std.specs.Prelude.{List, [], ◌∷◌, Option, Some, option_map, option_and_then, find, map}
use Rattle.std.specs.Str.{bytes_eq}
use Rattle.pa_math.specs.Lists.{AreApart}
use Rattle.pa_meaning.specs.Contracts.{Name, Contract, Named}

-- none of the others has a name of these contracts
abbrev pub AreNew : List Named → List Named → Type 0
AreNew contracts others = AreApart bytes_eq (map (λ n. n.name) others) (map (λ n. n.name) contracts)

-- the contract of a name, which is the first one of that name
abbrev pub contract_named : List Named → Name → Option Contract
contract_named contracts name = option_map (λ n. n.contract) (find (λ n. bytes_eq name n.name) contracts)

-- the contracts of the names, where each is there
abbrev pub contracts_named : List Named → List Name → Option (List Contract)
contracts_named contracts [] = Some []
contracts_named contracts (n ∷ ns) = option_and_then (λ c. option_map (λ cs. c ∷ cs) (contracts_named contracts ns)) (contract_named contracts n)
