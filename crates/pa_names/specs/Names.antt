-- Names, and lists of distinct names with their places.
use Rattle.std.specs.Prelude.{ℕ, ◌&&◌, ◌||◌, ◌==◌, List, [], ◌∷◌, length, slice_index, filter, map}
use Rattle.std.specs.Prelude.{Bool, not, nat_lt, nat_le, codes, Result, Ok, Err, if◌then◌else◌}
use Rattle.std.specs.List.{list_all, list_any}
use Rattle.std.specs.Str.{bytes_eq}
use Rattle.std.specs.Char.{is_ascii_alphabetic, is_ascii_alphanumeric}
use Rattle.pa_math.specs.Lists.{union}
use Rattle.pa_names.specs.declared.fault.NameFault.{NameFault}
use Rattle.pa_names.specs.declared.fault.NameFault.TheVariants.{Bad, Taken, Limit}

-- a letter or `_`
abbrev pub begins_name : ℕ → Bool
begins_name b = is_ascii_alphabetic b || b == 95

-- a letter, a digit or `_`
abbrev pub continues_name : ℕ → Bool
continues_name b = is_ascii_alphanumeric b || b == 95

-- how many bytes a name has at most
abbrev pub most_name_bytes : ℕ
most_name_bytes = 64

-- 1 to 64 bytes: a letter or `_`, then letters, digits and `_`, and not the word `keep`
abbrev pub is_name : List ℕ → Bool
is_name bytes = nat_le 1 (length bytes) && nat_le (length bytes) most_name_bytes && begins_name (slice_index bytes 0)
    && list_all continues_name bytes && not (bytes_eq bytes (codes "keep"))

-- the name that the bytes are
abbrev pub name_of : List ℕ → Result (List ℕ) NameFault
name_of bytes = if is_name bytes then Ok bytes else Err Bad

-- how many names a list holds at most
abbrev pub most_names : ℕ
most_names = 4096

-- how many ports a contract, and how many variables one operation, has at most
abbrev pub most_ports : ℕ
most_ports = 128

-- the place of a name that is added, or why it is not
abbrev pub added_place : List (List ℕ) → List ℕ → Result ℕ NameFault
added_place names name = if list_any (bytes_eq name) names then Err Taken
    else if nat_lt (length names) most_names then Ok (length names) else Err Limit

-- the union of two lists of names, where it is no longer than a list may be
abbrev pub union_of : List (List ℕ) → List (List ℕ) → Result (List (List ℕ)) NameFault
union_of names others = if nat_le (length (union bytes_eq names others)) most_names then Ok (union bytes_eq names others) else Err Limit

-- the names of the first list that the second has not, in order
abbrev pub names_without : List (List ℕ) → List (List ℕ) → List (List ℕ)
names_without names others = filter (λ name. not (list_any (bytes_eq name) others)) names

-- the second name of the first pair that has this name first, or the name itself
abbrev pub renamed : List (List ℕ × List ℕ) → List ℕ → List ℕ
renamed [] name = name
renamed (pair ∷ pairs) name = if bytes_eq name pair.0 then pair.1 else renamed pairs name

-- the names in order, each renamed
abbrev pub all_renamed : List (List ℕ × List ℕ) → List (List ℕ) → List (List ℕ)
all_renamed pairs names = map (renamed pairs) names

-- the names that the pairs have first
abbrev pub first_names : List (List ℕ × List ℕ) → List (List ℕ)
first_names pairs = map (λ pair. pair.0) pairs
