-- The operation that a line asks for, or its first kind of fault. A line is read from its words in order: first their
-- form, then the names, then the numbers, then what stands twice.
use Rattle.std.specs.Prelude.{ℕ, ◌+◌, ◌&&◌, ◌==◌, List, [], ◌∷◌, ◌++◌, length, take, drop, map, codes, nat_le, nat_lt, Bool, true, false, not, Result, Ok}
use Rattle.std.specs.Prelude.{Err, if◌then◌else◌}
use Rattle.std.specs.List.{list_all, prefix_len}
use Rattle.std.specs.Str.{bytes_eq}
use Rattle.pa_math.specs.Answers.{and_then, needed, told_as}
use Rattle.pa_meaning.specs.Contracts.{Name}
use Rattle.pa_names.specs.Names.{is_name, added_place}
use Rattle.pa_script.specs.declared.fault.ScriptFault.{ScriptFault}
use Rattle.pa_script.specs.declared.fault.ScriptFault.TheVariants.{Line}
use Rattle.pa_script.specs.declared.fault.LineKind.TheVariants as kind
use Rattle.pa_script.specs.declared.lines.TheConstants.{MOST_LINE, MOST_PARTS}
use Rattle.pa_script.specs.declared.op.Op.{Op}
use Rattle.pa_script.specs.declared.op.Op.TheVariants.{LimitRows, LimitPivots, Merge, Test, Refine, Bound, Hide, Compose, Quotient}
use Rattle.pa_grammar.specs.Plains.{Linear, plain_answer}
use Rattle.pa_script.specs.Words.{is_there, first_word, after_word, words_of}
use Rattle.pa_script.specs.Values.{limit_in}
use Rattle.pa_script.specs.Steps.{each}
use Rattle.pa_script.specs.Points.{has_equals, name_part, point_at}

-- how many bytes a line, and how many parts a composition, has at most
abbrev pub most_line : ℕ
most_line = MOST_LINE

abbrev pub most_parts : ℕ
most_parts = MOST_PARTS

-- the name that a word is
abbrev pub name_at : ℕ → List ℕ → Result Name ScriptFault
name_at number word = if is_name word then Ok word else Err (Line number kind.Name)

-- the names so far with that of one more word, and those of all words
abbrev pub with_name : ℕ → List Name → List ℕ → Result (List Name) ScriptFault
with_name number names word = and_then (name_at number word) (λ name. Ok (names ++ name ∷ []))

abbrev pub names_at : ℕ → List (List ℕ) → Result (List Name) ScriptFault
names_at number words = each (with_name number) [] words

-- the different names so far with one more, and all names, where none stands twice
abbrev pub with_new_name : ℕ → List Name → Name → Result (List Name) ScriptFault
with_new_name number names name = and_then (told_as (λ fault. Line number kind.Repeat) (added_place names name)) (λ place. Ok (names ++ name ∷ []))

abbrev pub different : ℕ → List Name → Result (List Name) ScriptFault
different number names = each (with_new_name number) [] names

-- whether nothing is left of a text but spaces and tabs
abbrev pub is_spent : List ℕ → Bool
is_spent text = not (is_there (first_word text))

-- the number that a limit line sets
abbrev pub limit_at : ℕ → List ℕ → Result ℕ ScriptFault
limit_at number word = needed (Line number kind.Number) (limit_in word)

-- `rows N` or `pivots N`
abbrev pub limit_op : ℕ → List ℕ → Result Op ScriptFault
limit_op number text =
    let of = first_word text in
    let word = first_word (after_word text) in
    if is_there word && is_spent (after_word (after_word text)) then
    (if bytes_eq of (codes "rows") then and_then (limit_at number word) (λ most. Ok (LimitRows most))
    else if bytes_eq of (codes "pivots") then and_then (limit_at number word) (λ most. Ok (LimitPivots most))
    else Err (Line number kind.Shape))
    else Err (Line number kind.Shape)

-- what follows a text `R =`, and whether that stands there
abbrev pub after_equals : List ℕ → List ℕ
after_equals text = after_word (after_word text)

abbrev pub has_result : List ℕ → Bool
has_result text = bytes_eq (first_word (after_word text)) (codes "=")

-- whether a text is two words
abbrev pub is_pair : List ℕ → Bool
is_pair text = is_there (first_word (after_word text)) && is_spent (after_word (after_word text))

-- two words that are names
abbrev pub two_names : ℕ → List ℕ → List ℕ → Result (Name × Name) ScriptFault
two_names number left right = and_then (name_at number left) (λ a. and_then (name_at number right) (λ b. Ok (a, b)))

-- three words that are names
abbrev pub names_of : ℕ → List ℕ → List ℕ → List ℕ → Result (Name × Name × Name) ScriptFault
names_of number name left right = and_then (name_at number name) (λ r. and_then (name_at number left) (λ a. and_then (name_at number right) (λ b. Ok (
  r,
  a,
  b,
))))

-- `A B` behind `R =`, of three names
abbrev pub pair_named : ℕ → List ℕ → List ℕ → Result (Name × Name × Name) ScriptFault
pair_named number name text = if is_pair text then names_of number name (first_word text) (first_word (after_word text)) else Err (Line number kind.Shape)

-- `R = A B`, of three names
abbrev pub three_names : ℕ → List ℕ → Result (Name × Name × Name) ScriptFault
three_names number text = if has_result text then pair_named number (first_word text) (after_equals text) else Err (Line number kind.Shape)

abbrev pub merge_op : ℕ → List ℕ → Result Op ScriptFault
merge_op number text = and_then (three_names number text) (λ names. Ok (Merge names.0 names.1 names.2))

abbrev pub quotient_op : ℕ → List ℕ → Result Op ScriptFault
quotient_op number text = and_then (three_names number text) (λ names. Ok (Quotient names.0 names.1 names.2))

-- `A B`
abbrev pub refine_op : ℕ → List ℕ → Result Op ScriptFault
refine_op number text = if is_pair text then
    and_then (two_names number (first_word text) (first_word (after_word text))) (λ both. Ok (Refine both.0 both.1))
    else Err (Line number kind.Shape)

-- `C at x=V ..`
abbrev pub test_words : ℕ → List ℕ → List (List ℕ) → Result Op ScriptFault
test_words number of words = if list_all has_equals words then
    and_then (name_at number of) (λ name.
    and_then (names_at number (map name_part words)) (λ names.
    and_then (point_at number words) (λ point.
    and_then (different number names) (λ others. Ok (Test name others point)))))
    else Err (Line number kind.Shape)

abbrev pub test_op : ℕ → List ℕ → Result Op ScriptFault
test_op number text = if bytes_eq (first_word (after_word text)) (codes "at")
    then test_words number (first_word text) (words_of (after_word (after_word text)))
    else Err (Line number kind.Shape)

-- `C max E` or `C min E`, where E is all of the rest
abbrev pub goal_at : ℕ → List ℕ → Result Linear ScriptFault
goal_at number text = told_as (λ fault. Line number kind.Number) (plain_answer text)

abbrev pub goal_of : ℕ → List ℕ → Bool → List ℕ → Result Op ScriptFault
goal_of number of least text = and_then (name_at number of) (λ name. and_then (goal_at number text) (λ goal. Ok (Bound name least goal)))

abbrev pub bound_of : ℕ → List ℕ → Bool → List ℕ → Result Op ScriptFault
bound_of number of least text = if is_there (first_word text) then goal_of number of least text else Err (Line number kind.Shape)

abbrev pub bound_op : ℕ → List ℕ → Result Op ScriptFault
bound_op number text =
    if bytes_eq (first_word (after_word text)) (codes "max") then bound_of number (first_word text) false (after_word (after_word text))
    else if bytes_eq (first_word (after_word text)) (codes "min") then bound_of number (first_word text) true (after_word (after_word text))
    else Err (Line number kind.Shape)

-- `R = C x ..`
abbrev pub hide_words : ℕ → List ℕ → List ℕ → List (List ℕ) → Result Op ScriptFault
hide_words number result of words = if nat_le 1 (length words) then
    and_then (name_at number result) (λ r.
    and_then (name_at number of) (λ c.
    and_then (names_at number words) (λ names.
    and_then (different number names) (λ others. Ok (Hide r c others)))))
    else Err (Line number kind.Shape)

abbrev pub hide_op : ℕ → List ℕ → Result Op ScriptFault
hide_op number text = if has_result text
    then hide_words number (first_word text) (first_word (after_equals text)) (words_of (after_word (after_equals text)))
    else Err (Line number kind.Shape)

-- the words before the first `keep`, and those behind it
abbrev pub is_before_keep : List ℕ → Bool
is_before_keep word = not (bytes_eq word (codes "keep"))

abbrev pub parts_count : List (List ℕ) → ℕ
parts_count words = prefix_len is_before_keep words

-- the composition of parts, where some outputs are kept
abbrev pub composed : ℕ → List ℕ → List (List ℕ) → List (List ℕ) → Result Op ScriptFault
composed number result parts keep =
    and_then (name_at number result) (λ r.
    and_then (names_at number parts) (λ ps.
    and_then (names_at number keep) (λ names.
    and_then (different number names) (λ others. Ok (Compose r ps others)))))

-- `A ..` and then `keep x ..`, where the first has 1 to 32 words and the second is absent or has names
abbrev pub compose_words : ℕ → List ℕ → List (List ℕ) → Result Op ScriptFault
compose_words number result words =
    if nat_lt most_parts (parts_count words) then Err (Line number kind.Limit)
    else if nat_le 1 (parts_count words) && not (length words == parts_count words + 1) then
    composed number result (take (parts_count words) words) (drop (parts_count words + 1) words)
    else Err (Line number kind.Shape)

abbrev pub compose_op : ℕ → List ℕ → Result Op ScriptFault
compose_op number text = if has_result text
    then compose_words number (first_word text) (words_of (after_equals text))
    else Err (Line number kind.Shape)

-- the operation of a verb, with the rest of its line
abbrev pub later_op : ℕ → List ℕ → List ℕ → Result Op ScriptFault
later_op number verb text =
    if bytes_eq verb (codes "bound") then bound_op number text
    else if bytes_eq verb (codes "hide") then hide_op number text
    else if bytes_eq verb (codes "compose") then compose_op number text
    else if bytes_eq verb (codes "quotient") then quotient_op number text
    else Err (Line number kind.Word)

abbrev pub op_named : ℕ → List ℕ → List ℕ → Result Op ScriptFault
op_named number verb text =
    if bytes_eq verb (codes "limit") then limit_op number text
    else if bytes_eq verb (codes "merge") then merge_op number text
    else if bytes_eq verb (codes "test") then test_op number text
    else if bytes_eq verb (codes "refine") then refine_op number text
    else later_op number verb text

-- the operation that a line asks for, by its first word
abbrev pub op_of : ℕ → List ℕ → Result Op ScriptFault
op_of number line = if nat_lt most_line (length line) then Err (Line number kind.Limit) else op_named number (first_word line) (after_word line)
