-- Words with a space before each are read back.
use Rattle.std.proofs.Common.{◌≡◌, ℕ, ◌+◌, ◌<◌, ◌≤◌, List, [], ◌∷◌, ◌++◌, length, refl, ap, sym, ◌∙◌, Bool, true, false, Ok, Err, append_assoc, arith}
use Rattle.std.specs.Prelude.{All, filter, not, nat_lt, if◌then◌else◌}
use Rattle.std.specs.List.{slice_split, list_any}
use Rattle.std.specs.Str.{bytes_eq}
use Rattle.std.proofs.lemmas.Bool.{cond-true, cond-false, lt-ltb}
use Rattle.std.proofs.lemmas.List.{append-nil, length-append}
use Rattle.std.proofs.lemmas.List.Elements.{All-head, All-tail, All-weaker}
use Rattle.std.proofs.lemmas.List.Folds.{list_any_none}
use Rattle.std.proofs.lemmas.List.Splits.{slice_split_none, slice_split_at}
use Rattle.pa_math.specs.Answers.{and_then, told_as}
use Rattle.pa_names.specs.declared.fault.NameFault.TheVariants.{Taken, Limit}
use Rattle.pa_names.specs.Names.{is_name, added_place, most_names}
use Rattle.pa_script.specs.declared.fault.ScriptFault.TheVariants.{Line}
use Rattle.pa_script.specs.declared.fault.LineKind.TheVariants as kind
use Rattle.pa_script.specs.Form.{AreNames, AreNew}
use Rattle.pa_script.specs.Steps.{each}
use Rattle.pa_script.specs.Words.{is_blank, in_word, is_there, words_of}
use Rattle.pa_script.specs.Lines.{with_name, names_at, with_new_name, different}
use Rattle.pa_script.specs.LineText.{words_text}
use Rattle.pa_script.proofs.Cursor.{Ends, name_word, name_there}

abbrev Named : List ℕ → Type 0
Named name = is_name name ≡ true

not_blank : (b : Bool) → not b ≡ true → b ≡ false
not_blank true is = sym is
not_blank false is = refl

unparted : (name : List ℕ) → Named name → All (λ b. is_blank b ≡ false) name
unparted name is = All-weaker (λ b. in_word b ≡ true) (λ b. is_blank b ≡ false) (λ b inside. not_blank (is_blank b) inside) name (name_word name is).each

-- the pieces between spaces
pieces_back : (name : List ℕ) (names : List (List ℕ)) → AreNames (name ∷ names) → slice_split is_blank (name ++ words_text names) ≡ name ∷ names
pieces_back name [] each =
    ap (slice_split is_blank) (append-nil name) ∙ slice_split_none is_blank name (unparted name (All-head Named name [] each))
pieces_back name (next ∷ names) each =
    slice_split_at is_blank name 32 (next ++ words_text names) (unparted name (All-head Named name (next ∷ names) each)) refl
    ∙ ap (λ rest. name ∷ rest) (pieces_back next names (All-tail Named name (next ∷ names) each))

all_there : (names : List (List ℕ)) → AreNames names → filter is_there names ≡ names
all_there [] each = refl
all_there (name ∷ names) each =
    cond-true (is_there name) (name ∷ filter is_there names) (filter is_there names) (name_there name (All-head Named name names each))
    ∙ ap (λ rest. name ∷ rest) (all_there names (All-tail Named name names each))

pub words_back : (names : List (List ℕ)) → AreNames names → words_of (words_text names) ≡ names
words_back [] each = refl
words_back (name ∷ names) each = ap (λ pieces. filter is_there ([] ∷ pieces)) (pieces_back name names each) ∙ all_there (name ∷ names) each

-- a word ends before them
pub ends_words : (names : List (List ℕ)) → Ends (words_text names)
ends_words [] = refl
ends_words (name ∷ names) = refl

-- ---- names

names_from : (n : ℕ) (before names : List (List ℕ)) → AreNames names → each (with_name n) before names ≡ Ok (before ++ names)
names_from n before [] named = ap Ok (sym (append-nil before))
names_from n before (name ∷ names) named =
    ap (λ r. and_then (and_then r (λ x. Ok (before ++ x ∷ []))) (λ b. each (with_name n) b names))
    (cond-true (is_name name) (Ok name) (Err (Line n kind.Name)) (All-head Named name names named))
    ∙ names_from n (before ++ name ∷ []) names (All-tail Named name names named)
    ∙ ap Ok (append_assoc before (name ∷ []) names)

pub names_back : (n : ℕ) (names : List (List ℕ)) → AreNames names → names_at n names ≡ Ok names
names_back n names named = names_from n [] names named

place_back : (before : List (List ℕ)) (name : List ℕ) → All (λ other. bytes_eq name other ≡ false) before → length before < most_names
    → added_place before name ≡ Ok (length before)
place_back before name new room =
    cond-false (list_any (bytes_eq name) before) (Err Taken) (if nat_lt (length before) most_names then Ok (length before) else Err Limit)
    (list_any_none (bytes_eq name) before new)
    ∙ cond-true (nat_lt (length before) most_names) (Ok (length before)) (Err Limit) (lt-ltb (length before) most_names room)

different_from : (n : ℕ) (before names : List (List ℕ)) → AreNew before names → length before + length names ≤ most_names
    → each (with_new_name n) before names ≡ Ok (before ++ names)
different_from n before [] new room = ap Ok (sym (append-nil before))
different_from n before (name ∷ names) new room =
    ap (λ r. and_then (and_then (told_as (λ fault. Line n kind.Repeat) r) (λ place. Ok (before ++ name ∷ []))) (λ b. each (with_new_name n) b names))
    (place_back before name new.0 (omega (arith, room)))
    ∙ different_from n (before ++ name ∷ []) names new.1 (omega (arith, room, length-append before (name ∷ [])))
    ∙ ap Ok (append_assoc before (name ∷ []) names)

pub different_back : (n : ℕ) (names : List (List ℕ)) → AreNew [] names → length names ≤ most_names → different n names ≡ Ok names
different_back n names new room = different_from n [] names new (omega (arith, room))
