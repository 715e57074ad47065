-- Names with their values, as the members `nominal` and `constants` give them.
use Rattle.std.specs.Prelude.{ℕ, ℤ, pos, List, [], map, length, nat_lt, Option, None, option_map, option_and_then, Result, Ok, Err}
use Rattle.std.specs.Prelude.{if◌then◌else◌}
use Rattle.std.specs.Result.{result_ok}
use Rattle.serde_json.specs.Data.{Data, null, boolean, number, string, array, object}
use Rattle.serde_json.specs.Find.{as_object, as_i64}
use Rattle.pa_math.specs.Answers.{and_then, needed, given}
use Rattle.pa_meaning.specs.Contracts.{Name}
use Rattle.pa_names.specs.Names.{is_name, most_names}
use Rattle.pa_contract.specs.Nominal.{Nominal}
use Rattle.pa_grammar.specs.Lexer.{most_text}
use Rattle.pa_grammar.specs.Read.{value_answer}
use Rattle.pa_json.specs.Members.{collected}
use Rattle.pa_json.specs.declared.fault.DiagramFault.{DiagramFault}
use Rattle.pa_json.specs.declared.fault.DiagramFault.TheVariants.{Shape, Limit}

-- the fraction that a text is
abbrev pub text_value : List ℕ → Option (ℤ × ℤ)
text_value text = if nat_lt most_text (length text) then None else result_ok (value_answer text)

-- the fraction that a value is: a whole number within 64 bits, or a text
abbrev pub fraction_of : Data → Option (ℤ × ℤ)
fraction_of null = None
fraction_of (boolean b) = None
fraction_of (number n) = option_map (λ z. (z, pos 1)) (as_i64 n)
fraction_of (string text) = text_value text
fraction_of (array ds) = None
fraction_of (object ms) = None

-- the fraction of a member, whose key is a name
abbrev pub named_fraction : List ℕ → Data → Option (Name × (ℤ × ℤ))
named_fraction key d = if is_name key then option_map (λ value. (key, value)) (fraction_of d) else None

-- the names, and their values
abbrev pub values_from : List (Name × (ℤ × ℤ)) → Nominal
values_from pairs = record { names = map (λ pair. pair.0) pairs; values = map (λ pair. pair.1) pairs }

abbrev pub no_values : Nominal
no_values = record { names = []; values = [] }

-- the fractions of an object's members
abbrev pub pairs_of : List ℕ → Data → Result (List (Name × (ℤ × ℤ))) DiagramFault
pairs_of path d = needed (Shape path) (option_and_then (collected named_fraction) (as_object d))

-- the names and values of a member at the path, where it is there
abbrev pub values_of : List ℕ → Option Data → Result Nominal DiagramFault
values_of path found = given (Ok no_values) found (λ d.
    and_then (pairs_of path d) (λ pairs.
    if nat_lt most_names (length pairs) then Err (Limit path) else Ok (values_from pairs)))
