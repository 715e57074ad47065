-- The canonical text of a line is read back as that line.
use Rattle.std.proofs.Common.{◌≡◌, ℕ, ◌≤◌, List, [], ◌∷◌, ◌++◌, length, refl, ap, ap₂, ◌∙◌, true, Result, Ok, Err, append_assoc}
use Rattle.std.specs.Prelude.{◌&&◌, codes, decimal, nat_le, nat_lt, if◌then◌else◌}
use Rattle.std.specs.Str.{bytes_eq}
use Rattle.std.proofs.lemmas.Bool.{cond-true, cond-false, le-ltb, le-leb}
use Rattle.pa_math.specs.Answers.{and_then, needed}
use Rattle.pa_script.specs.declared.values.TheConstants.{MOST_LIMIT}
use Rattle.pa_script.proofs.LimitBack.{limit_in_back, decimal_word}
use Rattle.pa_meaning.specs.Contracts.{Name}
use Rattle.pa_names.specs.Names.{is_name}
use Rattle.pa_script.specs.declared.fault.ScriptFault.{ScriptFault}
use Rattle.pa_script.specs.declared.fault.ScriptFault.TheVariants.{Line}
use Rattle.pa_script.specs.declared.fault.LineKind.TheVariants as kind
use Rattle.pa_script.specs.declared.op.Op.{Op}
use Rattle.pa_script.specs.declared.op.Op.TheVariants.{LimitRows, LimitPivots, Merge, Refine, Hide, Quotient}
use Rattle.pa_script.specs.Words.{first_word, after_word, is_there, words_of}
use Rattle.pa_script.specs.Lines.{limit_at, name_at, names_at, different, hide_words, names_of, two_names, pair_named, three_names, is_spent, op_named}
use Rattle.pa_script.specs.Lines.{op_of, most_line}
use Rattle.pa_script.specs.LineText.{op_text, words_text}
use Rattle.pa_script.specs.Form.{AreNames, AreDifferent, IsReadBack}
use Rattle.std.proofs.lemmas.List.Elements.{All-head, All-tail}
use Rattle.pa_script.proofs.ListBack.{words_back, ends_words, names_back, different_back}
use Rattle.pa_script.proofs.Cursor.{first_at, after_at, first_last, after_last, name_word, name_there}

abbrev Named : List ℕ → Type 0
Named name = is_name name ≡ true

-- ---- names

name_back : (n : ℕ) (name : List ℕ) → is_name name ≡ true → name_at n name ≡ Ok name
name_back n name is = cond-true (is_name name) (Ok name) (Err (Line n kind.Name)) is

two_back : (n : ℕ) (a b : List ℕ) → is_name a ≡ true → is_name b ≡ true → two_names n a b ≡ Ok (a, b)
two_back n a b is_a is_b =
    ap (λ r. and_then r (λ x. and_then (name_at n b) (λ y. Ok (x, y)))) (name_back n a is_a)
    ∙ ap (λ r. and_then r (λ y. Ok (a, y))) (name_back n b is_b)

three_back : (n : ℕ) (r a b : List ℕ) → is_name r ≡ true → is_name a ≡ true → is_name b ≡ true → names_of n r a b ≡ Ok (r, a, b)
three_back n r a b is_r is_a is_b =
    ap (λ x. and_then x (λ p. and_then (name_at n a) (λ q. and_then (name_at n b) (λ s. Ok (p, q, s))))) (name_back n r is_r)
    ∙ ap (λ x. and_then x (λ q. and_then (name_at n b) (λ s. Ok (r, q, s)))) (name_back n a is_a)
    ∙ ap (λ x. and_then x (λ s. Ok (r, a, s))) (name_back n b is_b)

-- ---- two words behind a verb

abbrev when_last : {T : Type 0} → ℕ → List ℕ → List ℕ → Result T ScriptFault → Result T ScriptFault
when_last n word rest due = if is_there word && is_spent rest then due else Err (Line n kind.Shape)

last_due : {T : Type 0} (n : ℕ) (word : List ℕ) (due : Result T ScriptFault) → is_there word ≡ true → when_last n word [] due ≡ due
last_due n word due is = cond-true (is_there word && true) due (Err (Line n kind.Shape)) (ap (λ x. x && true) is)

-- the text of two words, and what is made of them
abbrev pair_text : List ℕ → List ℕ → List ℕ
pair_text a b = 32 ∷ (a ++ (32 ∷ b))

pair_back : {T : Type 0} (n : ℕ) (a b : List ℕ) (next : List ℕ → List ℕ → Result T ScriptFault) → is_name a ≡ true → is_name b ≡ true
    → when_last n (first_word (after_word (pair_text a b))) (after_word (after_word (pair_text a b))) (next (first_word (pair_text a b)) (first_word
    (after_word (pair_text a b))))
    ≡ next a b
pair_back n a b next is_a is_b =
    let first = first_at a (32 ∷ b) (name_word a is_a) refl in
    let after = after_at a (32 ∷ b) (name_word a is_a) refl in
    ap₂ (λ x t. when_last n (first_word t) (after_word t) (next x (first_word t))) first after
    ∙ ap₂ (λ y t. when_last n y t (next a y)) (first_last b (name_word b is_b)) (after_last b (name_word b is_b))
    ∙ last_due n b (next a b) (name_there b is_b)

-- ---- `R = A B`

abbrev three_words : List ℕ → List ℕ → List ℕ → List ℕ
three_words r a b = 32 ∷ (r ++ (32 ∷ (61 ∷ pair_text a b)))

abbrev three_from : ℕ → List ℕ → List ℕ → Result (Name × Name × Name) ScriptFault
three_from n r t = if bytes_eq (first_word t) (codes "=") then pair_named n r (after_word t) else Err (Line n kind.Shape)

three_names_back : (n : ℕ) (r a b : List ℕ) → is_name r ≡ true → is_name a ≡ true → is_name b ≡ true → three_names n (three_words r a b) ≡ Ok (r, a, b)
three_names_back n r a b is_r is_a is_b =
    ap₂ (λ x t. three_from n x t) (first_at r (32 ∷ (61 ∷ pair_text a b)) (name_word r is_r) refl) (after_at r (32 ∷ (61 ∷ pair_text a b)) (name_word r
    is_r) refl)
    ∙ pair_back n a b (λ x y. names_of n r x y) is_a is_b ∙ three_back n r a b is_r is_a is_b

-- ---- lines

regrouped : (v r e a s b : List ℕ) → v ++ r ++ e ++ a ++ s ++ b ≡ v ++ (r ++ (e ++ (a ++ (s ++ b))))
regrouped v r e a s b =
    append_assoc (v ++ r ++ e ++ a) s b ∙ append_assoc (v ++ r ++ e) a (s ++ b) ∙ append_assoc (v ++ r) e (a ++ (s ++ b)) ∙ append_assoc v r (e ++ (a ++ (s
    ++ b)))

-- a line that is not too long is read by its first word
by_word : (n : ℕ) (line : List ℕ) → length line ≤ most_line → op_of n line ≡ op_named n (first_word line) (after_word line)
by_word n line short = cond-false (nat_lt most_line (length line)) (Err (Line n kind.Limit)) (op_named n (first_word line) (after_word line)) (le-ltb
    most_line (length line) short)

pub merge_back : (n : ℕ) (r a b : List ℕ) → length (op_text (Merge r a b)) ≤ most_line → is_name r ≡ true → is_name a ≡ true → is_name b ≡ true
    → op_of n (op_text (Merge r a b)) ≡ Ok (Merge r a b)
merge_back n r a b short is_r is_a is_b =
    by_word n (op_text (Merge r a b)) short
    ∙ ap (λ t. op_named n (first_word t) (after_word t)) (regrouped (codes "merge ") r (codes " = ") a (codes " ") b)
    ∙ ap (λ x. and_then x (λ names. Ok (Merge names.0 names.1 names.2))) (three_names_back n r a b is_r is_a is_b)

pub quotient_back : (n : ℕ) (r c d : List ℕ) → length (op_text (Quotient r c d)) ≤ most_line → is_name r ≡ true → is_name c ≡ true → is_name d ≡ true
    → op_of n (op_text (Quotient r c d)) ≡ Ok (Quotient r c d)
quotient_back n r c d short is_r is_c is_d =
    by_word n (op_text (Quotient r c d)) short
    ∙ ap (λ t. op_named n (first_word t) (after_word t)) (regrouped (codes "quotient ") r (codes " = ") c (codes " ") d)
    ∙ ap (λ x. and_then x (λ names. Ok (Quotient names.0 names.1 names.2))) (three_names_back n r c d is_r is_c is_d)

pub refine_back : (n : ℕ) (a b : List ℕ) → length (op_text (Refine a b)) ≤ most_line → is_name a ≡ true → is_name b ≡ true
    → op_of n (op_text (Refine a b)) ≡ Ok (Refine a b)
refine_back n a b short is_a is_b =
    by_word n (op_text (Refine a b)) short
    ∙ ap (λ t. op_named n (first_word t) (after_word t)) (append_assoc (codes "refine " ++ a) (codes " ") b ∙ append_assoc (codes "refine ") a (codes " " ++ b))
    ∙ pair_back n a b (λ x y. and_then (two_names n x y) (λ both. Ok (Refine both.0 both.1))) is_a is_b
    ∙ ap (λ x. and_then x (λ both. Ok (Refine both.0 both.1))) (two_back n a b is_a is_b)

-- ---- limits

limit_at_back : (n most : ℕ) → 1 ≤ most → most ≤ MOST_LIMIT → limit_at n (decimal most) ≡ Ok most
limit_at_back n most least le = ap (needed (Line n kind.Number)) (limit_in_back most least le)

abbrev limit_from : ℕ → (ℕ → Op) → List ℕ → List ℕ → Result Op ScriptFault
limit_from n set word rest = when_last n word rest (and_then (limit_at n word) (λ most. Ok (set most)))

limit_from_back : (n : ℕ) (set : ℕ → Op) (most : ℕ) → 1 ≤ most → most ≤ MOST_LIMIT
    → limit_from n set (first_word (32 ∷ decimal most)) (after_word (32 ∷ decimal most)) ≡ Ok (set most)
limit_from_back n set most least le =
    let word = decimal_word most le in
    ap₂ (λ w t. limit_from n set w t) (first_last (decimal most) word) (after_last (decimal most) word)
    ∙ last_due n (decimal most) (and_then (limit_at n (decimal most)) (λ m. Ok (set m))) (le-leb 1 (length (decimal most)) word.there)
    ∙ ap (λ r. and_then r (λ m. Ok (set m))) (limit_at_back n most least le)

pub rows_back : (most : ℕ) → 1 ≤ most → most ≤ MOST_LIMIT → IsReadBack (LimitRows most)
rows_back most least le = λ n short. by_word n (op_text (LimitRows most)) short ∙ limit_from_back n (λ m. LimitRows m) most least le

pub pivots_back : (most : ℕ) → 1 ≤ most → most ≤ MOST_LIMIT → IsReadBack (LimitPivots most)
pivots_back most least le = λ n short. by_word n (op_text (LimitPivots most)) short ∙ limit_from_back n (λ m. LimitPivots m) most least le

-- ---- hiding

abbrev hide_from : ℕ → List ℕ → List ℕ → Result Op ScriptFault
hide_from n r t = if bytes_eq (first_word t) (codes "=") then hide_words n r (first_word (after_word t)) (words_of (after_word (after_word t))) else Err
    (Line n kind.Shape)

hide_words_back : (n : ℕ) (r of : List ℕ) (names : List (List ℕ)) → is_name r ≡ true → is_name of ≡ true → AreNames names → 1 ≤ length names → AreDifferent
    names
    → hide_words n r of names ≡ Ok (Hide r of names)
hide_words_back n r of names is_r is_of named some others =
    cond-true (nat_le 1 (length names)) _ _ (le-leb 1 (length names) some)
    ∙ ap (λ x. and_then x (λ p. and_then (name_at n of) (λ q. and_then (names_at n names) (λ ns. and_then (different n ns) (λ ds. Ok (Hide p q ds))))))
    (name_back n r is_r)
    ∙ ap (λ x. and_then x (λ q. and_then (names_at n names) (λ ns. and_then (different n ns) (λ ds. Ok (Hide r q ds))))) (name_back n of is_of)
    ∙ ap (λ x. and_then x (λ ns. and_then (different n ns) (λ ds. Ok (Hide r of ds)))) (names_back n names named)
    ∙ ap (λ x. and_then x (λ ds. Ok (Hide r of ds))) (different_back n names others.0 others.1)

pub hide_back : (r of : List ℕ) (names : List (List ℕ)) → AreNames (r ∷ of ∷ names) → 1 ≤ length names → AreDifferent names → IsReadBack (Hide r of names)
hide_back r of names each some others =
    let is_r = All-head Named r (of ∷ names) each in
    let is_of = All-head Named of names (All-tail Named r (of ∷ names) each) in
    let named = All-tail Named of names (All-tail Named r (of ∷ names) each) in
    let words = words_text names in
    let behind = 32 ∷ (61 ∷ (32 ∷ (of ++ words))) in
    λ n short. by_word n (op_text (Hide r of names)) short
    ∙ ap (λ t. op_named n (first_word t) (after_word t))
    (append_assoc (codes "hide " ++ r ++ codes " = ") of words ∙ append_assoc (codes "hide " ++ r) (codes " = ") (of ++ words) ∙ append_assoc (codes
    "hide ") r (codes " = " ++ (of ++ words)))
    ∙ ap₂ (λ x t. hide_from n x t) (first_at r behind (name_word r is_r) refl) (after_at r behind (name_word r is_r) refl)
    ∙ ap₂ (λ x t. hide_words n r x (words_of t)) (first_at of words (name_word of is_of) (ends_words names)) (after_at of words (name_word of is_of)
    (ends_words names))
    ∙ ap (hide_words n r of) (words_back names named)
    ∙ hide_words_back n r of names is_r is_of named some others

-- ---- the laws

pub merge_law : (r a b : List ℕ) → AreNames (r ∷ a ∷ b ∷ []) → IsReadBack (Merge r a b)
merge_law r a b each =
    let others = All-tail Named r (a ∷ b ∷ []) each in
    λ n short. merge_back n r a b short (All-head Named r (a ∷ b ∷ []) each) (All-head Named a (b ∷ []) others) (All-head Named b [] (All-tail Named a (b ∷
    []) others))

pub quotient_law : (r c d : List ℕ) → AreNames (r ∷ c ∷ d ∷ []) → IsReadBack (Quotient r c d)
quotient_law r c d each =
    let others = All-tail Named r (c ∷ d ∷ []) each in
    λ n short. quotient_back n r c d short (All-head Named r (c ∷ d ∷ []) each) (All-head Named c (d ∷ []) others) (All-head Named d [] (All-tail Named c (d
    ∷ []) others))

pub refine_law : (a b : List ℕ) → AreNames (a ∷ b ∷ []) → IsReadBack (Refine a b)
refine_law a b each =
    λ n short. refine_back n a b short (All-head Named a (b ∷ []) each) (All-head Named b [] (All-tail Named a (b ∷ []) each))
