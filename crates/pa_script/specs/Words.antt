-- The words of a line, which spaces and tabs part.
use Rattle.std.specs.Prelude.{ℕ, ◌||◌, ◌==◌, List, take, drop, length, filter, Bool, not, nat_le, All, ◌≤◌}
use Rattle.std.specs.List.{slice_split, prefix_len}
use Rattle.pa_grammar.specs.Lexer.{most_text}

-- a space or a tab
abbrev pub is_blank : ℕ → Bool
is_blank b = b == 32 || b == 9

abbrev pub in_word : ℕ → Bool
in_word b = not (is_blank b)

-- whether there are any bytes
abbrev pub is_there : List ℕ → Bool
is_there word = nat_le 1 (length word)

-- the text from its first byte on that is no blank
abbrev pub unblanked : List ℕ → List ℕ
unblanked text = drop (prefix_len is_blank text) text

-- the first word of a text, without bytes where it has none
abbrev pub first_word : List ℕ → List ℕ
first_word text = take (prefix_len in_word (unblanked text)) (unblanked text)

-- what stands behind the first word
abbrev pub after_word : List ℕ → List ℕ
after_word text = drop (prefix_len in_word (unblanked text)) (unblanked text)

-- all words of a text, in order
abbrev pub words_of : List ℕ → List (List ℕ)
words_of text = filter is_there (slice_split is_blank text)

-- each word is no longer than a line
abbrev pub AreShort : List (List ℕ) → Type 0
AreShort words = All (λ word. length word ≤ most_text) words
