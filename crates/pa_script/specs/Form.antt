-- Lines that are read back.
use Rattle.std.specs.Prelude.{◌≡◌, ℕ, ◌≤◌, List, [], ◌∷◌, ◌++◌, length, All, Ok, true, false}
use Rattle.std.specs.Str.{bytes_eq}
use Rattle.pa_names.specs.Names.{is_name, most_names}
use Rattle.pa_script.specs.declared.op.Op.{Op}
use Rattle.pa_script.specs.LineText.{op_text}
use Rattle.pa_script.specs.Lines.{op_of, most_line}

abbrev pub AreNames : List (List ℕ) → Type 0
AreNames names = All (λ name. is_name name ≡ true) names

-- the canonical text of the operation, where it is no longer than a line may be, is read as the operation
abbrev pub IsReadBack : Op → Type 0
IsReadBack op = (number : ℕ) → length (op_text op) ≤ most_line → op_of number (op_text op) ≡ Ok op

-- no name stands before
abbrev pub AreNew : List (List ℕ) → List (List ℕ) → Type 0
AreNew before [] = Unit {0}
AreNew before (name ∷ names) = All (λ other. bytes_eq name other ≡ false) before × AreNew (before ++ name ∷ []) names

-- at most as many names as a list holds, and no two of them are equal
abbrev pub AreDifferent : List (List ℕ) → Type 0
AreDifferent names = AreNew [] names × (length names ≤ most_names)
