-- The refusals by name of an operation on contracts: which is due first, where one is.
use Rattle.std.specs.Prelude.{ℕ, ◌+◌, List, [], ◌∷◌, ◌++◌, length, Option, Some, None, option_map, find, sum_by, nat_lt, Bool, not, ◌&&◌, if◌then◌else◌}
use Rattle.std.specs.List.{list_all}
use Rattle.pa_meaning.specs.Contracts.{Name, Contract, ports}
use Rattle.pa_meaning.specs.Composition.{is_among, all_outputs, names_of}
use Rattle.pa_meaning.specs.Quotient.{quotient_names}
use Rattle.pa_names.specs.Names.{most_ports}
use Rattle.pa_contract.specs.Merge.{merged, first_clash, row_count, most_rows}
use Rattle.pa_cert.specs.declared.refusal.NameRefusal.{NameRefusal}
use Rattle.pa_cert.specs.declared.refusal.NameRefusal.TheVariants.{UnknownPort, PortClash, NotOutput, PortsDiffer, Variables, Rows}

-- the first that is due, else the second
abbrev pub or_due : Option NameRefusal → Option NameRefusal → Option NameRefusal
or_due (Some r) other = Some r
or_due None other = other

-- the first of the second names that is not among the first
abbrev pub first_missing : List Name → List Name → Option Name
first_missing names asked = find (λ n. not (is_among names n)) asked

-- the first of the second names that is among the first
abbrev pub first_shared : List Name → List Name → Option Name
first_shared names asked = find (is_among names) asked

-- the first name that is among those before it
abbrev pub first_repeat : List Name → List Name → Option Name
first_repeat before [] = None
first_repeat before (n ∷ ns) = if is_among before n then Some n else first_repeat (before ++ n ∷ []) ns

abbrev pub are_same_names : List Name → List Name → Bool
are_same_names xs ys = list_all (is_among ys) xs && list_all (is_among xs) ys

abbrev pub too_many_names : List Name → Option NameRefusal
too_many_names names = if nat_lt most_ports (length names) then Some (Variables (length names)) else None

abbrev pub too_many_rows : ℕ → Option NameRefusal
too_many_rows n = if nat_lt most_rows n then Some (Rows n) else None

-- ---- the first refusal of each operation
abbrev pub due_merge : Contract → Contract → Option NameRefusal
due_merge c other =
    or_due (option_map PortClash (first_clash c other))
    (or_due (too_many_names (ports (merged c other))) (too_many_rows (row_count c + row_count other)))

abbrev pub due_test : Contract → List Name → Option NameRefusal
due_test c names = option_map UnknownPort (first_missing (ports c) names)

abbrev pub due_refine : Contract → Contract → Option NameRefusal
due_refine c other =
    if are_same_names c.inputs other.inputs && are_same_names c.outputs other.outputs then too_many_rows (row_count c + row_count other) else Some PortsDiffer

abbrev pub due_bound : Contract → List Name → Option NameRefusal
due_bound c names = or_due (option_map UnknownPort (first_missing (ports c) names)) (too_many_rows (row_count c))

abbrev pub due_hide : Contract → List Name → Option NameRefusal
due_hide c names = or_due (option_map NotOutput (first_missing c.outputs names)) (too_many_rows (row_count c))

abbrev pub due_compose : List Contract → List Name → Option NameRefusal
due_compose parts keep =
    or_due (option_map PortClash (first_repeat [] (all_outputs parts)))
    (or_due (option_map NotOutput (first_missing (all_outputs parts) keep))
    (or_due (too_many_names (names_of parts)) (too_many_rows (sum_by row_count parts))))

abbrev pub due_quotient : Contract → Contract → Option NameRefusal
due_quotient whole part =
    or_due (option_map PortClash (first_shared whole.inputs part.outputs))
    (or_due (too_many_names (quotient_names whole part)) (too_many_rows (row_count whole + row_count part)))
