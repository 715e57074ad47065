-- The test of a printed point's names.
use Rattle.std.specs.Prelude.{List, ◌+◌, length, take, drop, nat_eq, Bool, ◌&&◌}
use Rattle.std.specs.Cmp.Lexicographic.{pointwise}
use Rattle.std.specs.Str.{bytes_eq}
use Rattle.pa_meaning.specs.Contracts.{Name}

-- whether these are the names of one list and then of the other
abbrev pub are_ports_in : List Name → List Name → List Name → Bool
are_ports_in names inputs outputs =
    nat_eq (length names) (length inputs + length outputs) && pointwise bytes_eq (take (length inputs) names) inputs
    && pointwise bytes_eq (drop (length inputs) names) outputs
