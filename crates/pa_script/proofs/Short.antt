-- The words of a line are no longer than the line.
use Rattle.std.proofs.Common.{◌≡◌, ℕ, ◌+◌, ◌≤◌, ◌<◌, List, [], ◌∷◌, map, length, get_or, Bool, true, false, subst, sym, refl, arith}
use Rattle.std.specs.Prelude.{All}
use Rattle.std.specs.List.{slice_split, onto_first}
use Rattle.std.proofs.lemmas.List.{length-map, get_or-map}
use Rattle.std.proofs.lemmas.List.Elements.{All-nil, All-cons, All-head, All-tail, All-weaker, All-filter, All-get_or}
use Rattle.std.proofs.lemmas.List.Splits.{slice_split-cons_yes, slice_split-cons_no}
use Rattle.pa_grammar.specs.Lexer.{most_text}
use Rattle.pa_script.specs.Words.{is_blank, is_there, words_of, AreShort}

abbrev AreWithin : ℕ → List (List ℕ) → Type 0
AreWithin n words = All (λ word. length word ≤ n) words

more_within : (m n : ℕ) (words : List (List ℕ)) → m ≤ n → AreWithin m words → AreWithin n words
more_within m n words le each = All-weaker (λ word. length word ≤ m) (λ word. length word ≤ n) (λ word short. omega (arith, le, short)) words each

onto_within : (x n : ℕ) (parts : List (List ℕ)) → AreWithin n parts → AreWithin (n + 1) (onto_first x parts)
onto_within x n [] each = All-cons (λ word. length word ≤ n + 1) (x ∷ []) [] (omega arith) (All-nil (λ word. length word ≤ n + 1))
onto_within x n (part ∷ parts) each =
    let first : length part ≤ n = All-head (λ word. length word ≤ n) part parts each in
    All-cons (λ word. length word ≤ n + 1) (x ∷ part) parts (omega (arith, first))
    (more_within n (n + 1) parts (omega arith) (All-tail (λ word. length word ≤ n) part parts each))

-- whether or not the byte parts, the pieces are within the longer text
split_more : (p : ℕ → Bool) (x : ℕ) (xs : List ℕ) (parts : Bool) → p x ≡ parts → AreWithin (length xs) (slice_split p xs)
    → AreWithin (length (x ∷ xs)) (slice_split p (x ∷ xs))
split_more p x xs true is each =
    subst (AreWithin (length (x ∷ xs))) (sym (slice_split-cons_yes p x xs is))
    (All-cons (λ word. length word ≤ length (x ∷ xs)) [] (slice_split p xs) (omega arith) (more_within (length xs) (length (x ∷ xs)) (slice_split p xs) (omega
    arith) each))
split_more p x xs false is each =
    subst (AreWithin (length (x ∷ xs))) (sym (slice_split-cons_no p x xs is))
    (more_within (length xs + 1) (length (x ∷ xs)) (onto_first x (slice_split p xs)) (omega arith) (onto_within x (length xs) (slice_split p xs) each))

split_within : (p : ℕ → Bool) (xs : List ℕ) → AreWithin (length xs) (slice_split p xs)
split_within p [] = All-cons (λ word. length word ≤ 0) [] [] (omega arith) (All-nil (λ word. length word ≤ 0))
split_within p (x ∷ xs) = split_more p x xs (p x) refl (split_within p xs)

pub words_short : (text : List ℕ) → length text ≤ most_text → AreShort (words_of text)
words_short text le =
    All-filter is_there (λ word. length word ≤ most_text) (slice_split is_blank text)
    (more_within (length text) most_text (slice_split is_blank text) le (split_within is_blank text))

-- one of short words
pub short_at : {A : Type 0} (f : A → List ℕ) (xs : List A) (i : ℕ) (d : A) → i < length xs → AreShort (map f xs) → length (f (get_or xs i d)) ≤ most_text
short_at f xs i d within each =
    let inside : i < length (map f xs) = omega (arith, within, length-map xs f) in
    subst (λ word. length word ≤ most_text) (get_or-map f xs i d [] within) (All-get_or (λ word. length word ≤ most_text) (map f xs) i [] inside each)
