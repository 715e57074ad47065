-- Texts of lists, one by one.
use Rattle.std.proofs.Common.{◌≡◌, ℕ, ◌+◌, ◌≤◌, ◌&&◌, List, ◌∷◌, ◌++◌, drop, length, Bool, ap, sym, ◌∙◌, append_assoc}
use Rattle.std.specs.Prelude.{unsigned_abs, ◌==◌, slice_get, Some}
use Rattle.std.proofs.lemmas.List.{drop_more, drop_all}
use Rattle.std.proofs.lemmas.Option.{slice_get_within, get_or_from_slice_get}
use Rattle.pa_ring.specs.Sums.{number_at}
use Rattle.pa_meaning.specs.Rows.{Point}
use Rattle.pa_grammar.specs.Plains.{Linear}
use Rattle.pa_script.specs.LineText.{value_text, values_text, term_text, terms_text, constant_text, word_text, words_text}

-- the list from a place on begins with the one that stands there
begins_at : (names : List (List ℕ)) (i : ℕ) (name : List ℕ) → slice_get names i ≡ Some name → drop i names ≡ name ∷ drop (i + 1) names
begins_at names i name found =
    drop_more names i name (slice_get_within names i name found) ∙ ap (λ x. x ∷ drop (i + 1) names) (get_or_from_slice_get names i name name found)

-- what is written, one piece more, and the text of what is left make the whole
one_more : (before piece rest left after all : List ℕ) → after ≡ before ++ piece → left ≡ piece ++ rest → before ++ left ≡ all → after ++ rest ≡ all
one_more before piece rest left after all after_is left_is so_far =
    ap (λ xs. xs ++ rest) after_is ∙ append_assoc before piece rest ∙ ap (λ xs. before ++ xs) (sym left_is) ∙ so_far

pub word_more : (names : List (List ℕ)) (i : ℕ) (name before after all : List ℕ) → slice_get names i ≡ Some name → after ≡ before ++ word_text name
    → before ++ words_text (drop i names) ≡ all → after ++ words_text (drop (i + 1) names) ≡ all
word_more names i name before after all found after_is so_far =
    one_more before (word_text name) (words_text (drop (i + 1) names)) (words_text (drop i names)) after all after_is (ap words_text (begins_at names i name
    found)) so_far

pub value_more : (names : List (List ℕ)) (at : Point) (i : ℕ) (name before after all : List ℕ) → slice_get names i ≡ Some name
    → after ≡ before ++ value_text name (number_at at.p i) at.q
    → before ++ values_text i (drop i names) at ≡ all → after ++ values_text (i + 1) (drop (i + 1) names) at ≡ all
value_more names at i name before after all found after_is so_far =
    one_more before (value_text name (number_at at.p i) at.q) (values_text (i + 1) (drop (i + 1) names) at) (values_text i (drop i names) at) after all
    after_is (ap (λ ns. values_text i ns at) (begins_at names i name found)) so_far

pub term_more : (names : List (List ℕ)) (goal : Linear) (i : ℕ) (first still : Bool) (name before after all : List ℕ) → slice_get names i ≡ Some name
    → still ≡ first && (unsigned_abs (number_at goal.c i) == 0)
    → after ≡ before ++ term_text first name (number_at goal.c i) goal.q
    → before ++ terms_text first i (drop i names) goal ≡ all → after ++ terms_text still (i + 1) (drop (i + 1) names) goal ≡ all
term_more names goal i first still name before after all found still_is after_is so_far =
    ap (λ s. after ++ terms_text s (i + 1) (drop (i + 1) names) goal) still_is
    ∙ one_more before (term_text first name (number_at goal.c i) goal.q) (terms_text (first && (unsigned_abs (number_at goal.c i) == 0)) (i + 1) (drop (i +
    1) names) goal)
    (terms_text first i (drop i names) goal) after all
    after_is (ap (λ ns. terms_text first i ns goal) (begins_at names i name found)) so_far

-- behind the last name the constant is left
pub goal_done : (names : List (List ℕ)) (goal : Linear) (i : ℕ) (first : Bool) (before after all : List ℕ) → length names ≤ i
    → after ≡ before ++ constant_text first goal.b goal.q → before ++ terms_text first i (drop i names) goal ≡ all → after ≡ all
goal_done names goal i first before after all past after_is so_far =
    after_is ∙ ap (λ ns. before ++ terms_text first i ns goal) (sym (drop_all i names past)) ∙ so_far
