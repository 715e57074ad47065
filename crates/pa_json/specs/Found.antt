-- What is found in a tree: lists, texts, names, values and rows.
use Rattle.std.specs.Prelude.{◌≡◌, ◌≤◌, ℕ, ℤ, pos, List, [], ◌∷◌, ◌++◌, codes, length, true, Option, Some, None, option_and_then, ⊤}
use Rattle.serde_json.specs.Data.{Data, null, boolean, number, string, array, object, Items, no_items, item, Members, no_members, member}
use Rattle.serde_json.specs.Find.{get, as_str, as_array, as_object, as_number, as_u64, as_i64}
use Rattle.pa_meaning.specs.Rows.{Row}
use Rattle.pa_meaning.specs.Contracts.{Name}
use Rattle.pa_names.specs.Names.{is_name, most_names}
use Rattle.pa_contract.specs.Nominal.{Nominal}
use Rattle.pa_grammar.specs.Lexer.{Scope, most_text}
use Rattle.pa_grammar.specs.Read.{IsValueOf}
use Rattle.pa_grammar.specs.Texts.{AreRowsOf}
use Rattle.pa_json.specs.Values.{no_values, values_from}

-- the items are these, one after another
abbrev pub Are : {X : Type 0} → (Data → X → Type 0) → Items → List X → Type 0
Are Is no_items [] = ⊤
Are Is no_items (x ∷ xs) = ⊥
Are Is (item d ds) [] = ⊥
Are Is (item d ds) (x ∷ xs) = Is d x × Are Is ds xs

-- what is found is a list of these
abbrev pub IsList : {X : Type 0} → (Data → X → Type 0) → Option Data → List X → Type 0
IsList Is found xs = (items : Items) × (option_and_then as_array found ≡ Some items) × Are Is items xs

-- what is found is this text
abbrev pub IsText : Option Data → List ℕ → Type 0
IsText found text = option_and_then as_str found ≡ Some text

-- what is found is this name
abbrev pub IsName : Option Data → Name → Type 0
IsName found name = IsText found name × (is_name name ≡ true)

-- a value is this fraction: a whole number within 64 bits, or a text that is a value
abbrev pub IsFractionOf : Data → ℤ × ℤ → Type 0
IsFractionOf null value = ⊥
IsFractionOf (boolean b) value = ⊥
IsFractionOf (number n) value = (z : ℤ) × (as_i64 n ≡ Some z) × (value ≡ (z, pos 1))
IsFractionOf (string text) value = (length text ≤ most_text) × IsValueOf text value
IsFractionOf (array ds) value = ⊥
IsFractionOf (object ms) value = ⊥

-- the members are these names with their fractions, one after another
abbrev pub ArePairs : Members → List (Name × (ℤ × ℤ)) → Type 0
ArePairs no_members [] = ⊤
ArePairs no_members (pair ∷ pairs) = ⊥
ArePairs (member key d ms) [] = ⊥
ArePairs (member key d ms) (pair ∷ pairs) = (pair.0 ≡ key) × (is_name key ≡ true) × IsFractionOf d pair.1 × ArePairs ms pairs

-- the values of a member, none where it is not there: at most 4,096 names with their fractions
abbrev pub AreValues : Option Data → Nominal → Type 0
AreValues None values = values ≡ no_values
AreValues (Some d) values = (ms : Members) × (as_object d ≡ Some ms) × (pairs : List (Name × (ℤ × ℤ))) × ArePairs ms pairs
    × (length pairs ≤ most_names) × (values ≡ values_from pairs)

-- the member `version`, where it is a whole number
abbrev pub version_of : Data → Option ℕ
version_of d = option_and_then as_u64 (option_and_then as_number (get (codes "version") d))

-- the rows are those of the texts, one text after another
abbrev pub AreSaid : Scope → List (List ℕ) → List Row → Type 0
AreSaid s [] rows = rows ≡ []
AreSaid s (text ∷ texts) rows = (first : List Row) × (others : List Row) × (length text ≤ most_text) × AreRowsOf s text first × AreSaid s texts others
    × (rows ≡ first ++ others)

-- what is found is a list of texts that say these rows
abbrev pub Says : Scope → Option Data → List Row → Type 0
Says s found rows = (texts : List (List ℕ)) × IsList (λ d text. IsText (Some d) text) found texts × AreSaid s texts rows
