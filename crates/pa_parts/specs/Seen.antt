-- What private functions of the names find. No public clause names one of these.
use Rattle.std.specs.Prelude.{List, [], ◌∷◌, ◌++◌, filter, Bool, true, false, not, Result, Ok, Err, if◌then◌else◌}
use Rattle.std.specs.Str.{bytes_eq}
use Rattle.pa_math.specs.Lists.{union}
use Rattle.pa_meaning.specs.Contracts.{Name, Contract}
use Rattle.pa_meaning.specs.Composition.{is_among, all_outputs}
use Rattle.pa_parts.specs.declared.fault.PortsFault.{PortsFault}
use Rattle.pa_parts.specs.declared.fault.PortsFault.TheVariants as fault

-- the outputs so far and these others in order, or the first of these that is there already
abbrev pub outputs_more : List Name → List Name → Result (List Name) PortsFault
outputs_more names [] = Ok names
outputs_more names (n ∷ ns) = if is_among names n then Err (fault.PortClash n) else outputs_more (names ++ n ∷ []) ns

abbrev pub outputs_of : List Contract → Result (List Name) PortsFault
outputs_of parts = outputs_more [] (all_outputs parts)

-- the external inputs so far, and those of these inputs that are no output and new
abbrev pub external_more : List Name → List Name → List Name → List Name
external_more outputs names inputs = union bytes_eq names (filter (λ name. not (is_among outputs name)) inputs)

-- whether a name that passes the test is asked for, or one that does not
abbrev pub chosen : Bool → Bool → Bool
chosen true passes = passes
chosen false passes = not passes

-- the names that pass a test, or those that do not
abbrev pub selected : Bool → (Name → Bool) → List Name → List Name
selected kept test names = filter (λ name. chosen kept (test name)) names
