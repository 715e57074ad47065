-- When a quotient never uses its pivots up.
use Rattle.std.specs.Prelude.{ℕ, ◌+◌, length}
use Rattle.pa_meaning.specs.Contracts.{Contract}
use Rattle.pa_meaning.specs.Quotient.{quotient_ports}
use Rattle.pa_farkas.specs.FewBases.{HasFewBases}

-- No problem has more bases than the limit of pivots: neither one of the part's guarantees with a column for each of its outputs, nor one of the part's
-- assumptions, the whole's guarantees and the whole's assumptions together over the quotient's ports.
abbrev pub DividesByFewBases : Contract → Contract → ℕ → Type 0
DividesByFewBases whole part most =
    HasFewBases (length part.guarantees) (length part.outputs) most
    × HasFewBases ((length part.assumptions + length whole.guarantees) + length whole.assumptions) (length (quotient_ports whole part)) most
