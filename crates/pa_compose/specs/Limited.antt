-- When a composition never uses its pivots up.
use Rattle.std.specs.Prelude.{ℕ, List, length}
use Rattle.pa_meaning.specs.Contracts.{Name, Contract}
use Rattle.pa_meaning.specs.Composition.{all_outputs, external_inputs, internal_outputs, names_of}
use Rattle.pa_holds.specs.Limits.{assumption_count, guarantee_count}
use Rattle.pa_farkas.specs.FewBases.{HasFewBases}
use Rattle.pa_elim.specs.FewBases.{HaveFewBases}

-- No problem has more bases than the limit of pivots: neither one of all guarantees with a column for each output, nor one of all assumptions over the
-- external inputs, nor those of the elimination of the internal outputs from all guarantees.
abbrev pub ComposesByFewBases : List Contract → List Name → ℕ → ℕ → Type 0
ComposesByFewBases parts keep limit most =
    HasFewBases (guarantee_count parts) (length (all_outputs parts)) most
    × HasFewBases (assumption_count parts) (length (external_inputs parts)) most
    × HaveFewBases (guarantee_count parts) (length (names_of parts)) (length (internal_outputs parts keep)) limit most
