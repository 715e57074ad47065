-- The names that a text mentions, one token after another, and those that are kept.
use Rattle.std.proofs.Common.{◌≡◌, ◌≤◌, ◌<◌, ◌+◌, ◌-◌, ℕ, zero, suc, Bool, true, false, List, [], ◌∷◌, ◌++◌, length, drop, get_or, refl, ap, sym}
use Rattle.std.proofs.Common.{◌∙◌, subst, append_assoc, arith}
use Rattle.std.specs.Prelude.{ℤ, pos, All, Some, slice_get, if◌then◌else◌, ◌&&◌}
use Rattle.std.specs.Ordering.{int_eq}
use Rattle.std.specs.List.{list_any, IsDistinct, AllByRecursion}
use Rattle.std.specs.Str.{bytes_eq}
use Rattle.std.proofs.lemmas.Bool.{cond_both}
use Rattle.std.proofs.lemmas.List.{drop_more, drop_all, length_push, append-nil}
use Rattle.std.proofs.lemmas.List.Elements.{All-nil, All-cons, All-head, All-tail}
use Rattle.std.proofs.lemmas.Option.{slice_get_within, get_or_from_slice_get}
use Rattle.std.proofs.lemmas.Map.Keys.{IsDistinct-cons, IsDistinct-head, IsDistinct-tail}
use Rattle.pa_ring.specs.Sums.{number_at}
use Rattle.pa_math.specs.Lists.{with_new, union}
use Rattle.pa_names.specs.Names.{is_name}
use Rattle.pa_names.proofs.Unions.{union_of_none}
use Rattle.pa_frac.specs.Width.{Fits}
use Rattle.pa_meaning.specs.Rows.{Point}
use Rattle.pa_row.specs.Width.{IsNarrowPoint}
use Rattle.pa_grammar.specs.declared.token.Placed.{Placed}
use Rattle.pa_grammar.specs.Lexer.{Scope, Lexeme, lexeme_at, is_blank, is_bad, tokens_from}
use Rattle.pa_grammar.specs.Plains.{is_named, word_at, with_name, with_names, with_kept, with_number, names_from, numbers_from, kept_names, kept_numbers}
use Rattle.pa_grammar.specs.Plains.{linear_with, Linear, IsNarrowLinear}

-- ---- tokens

-- a text has no more tokens than bytes
pub tokens_few : (s : Scope) (skip at : ℕ) (text : List ℕ) → length (tokens_from s skip at text) ≤ length text
tokens_few s skip at [] = omega arith
tokens_few s (suc skip) at (b ∷ bs) = omega (arith, tokens_few s skip (suc at) bs)
tokens_few s zero at (b ∷ bs) =
    let l : Lexeme = lexeme_at s b bs in
    cond_both (is_blank b) _ _ (λ placed. length placed ≤ length (b ∷ bs))
    (λ _. omega (arith, tokens_few s zero (suc at) bs))
    (λ _. cond_both (is_bad l.token) [] (tokens_from s (l.len - 1) (suc at) bs) (λ placed. suc (length placed) ≤ length (b ∷ bs)) (λ _. omega arith)
    (λ _. omega (arith, tokens_few s (l.len - 1) (suc at) bs)))

one_more : (names : List (List ℕ)) (x : List ℕ) → length (with_new bytes_eq names x) ≤ suc (length names)
one_more names x = cond_both (list_any (bytes_eq x) names) names (names ++ x ∷ []) (λ ns. length ns ≤ suc (length names))
    (λ _. omega arith) (λ _. omega (arith, length_push names x))

name_more : (text : List ℕ) (names : List (List ℕ)) (p : Placed) → length (with_name text names p) ≤ suc (length names)
name_more text names p =
    cond_both (is_named p.token && is_name (word_at text p.at)) (with_new bytes_eq names (word_at text p.at)) names (λ ns. length ns ≤ suc (length names))
    (λ _. one_more names (word_at text p.at)) (λ _. omega arith)

pub few_more : (text : List ℕ) (names next : List (List ℕ)) (p : Placed) (i : ℕ) → next ≡ with_name text names p → length names ≤ i → length next ≤ i + 1
few_more text names next p i is few = omega (arith, ap length is, name_more text names p, few)

-- the next token's name
pub next_name : (text : List ℕ) (names next all : List (List ℕ)) (placed : List Placed) (i : ℕ) (p : Placed) → next ≡ with_name text names p
    → drop i placed ≡ p ∷ drop (i + 1) placed → with_names text names (drop i placed) ≡ all → with_names text next (drop (i + 1) placed) ≡ all
next_name text names next all placed i p is head so_far =
    ap (λ ns. with_names text ns (drop (i + 1) placed)) is ∙ sym (ap (with_names text names) head) ∙ so_far

-- ---- what is kept

-- the next name is kept where its number is not 0
name_on : (x : List ℕ) (kept rest : List (List ℕ)) (b : Bool)
    → union bytes_eq (if b then kept else with_new bytes_eq kept x) rest ≡ union bytes_eq kept (if b then rest else x ∷ rest)
name_on x kept rest true = refl
name_on x kept rest false = refl

number_on : (n : ℤ) (c rest : List ℤ) (b : Bool) → (if b then c else c ++ n ∷ []) ++ rest ≡ c ++ (if b then rest else n ∷ rest)
number_on n c rest true = refl
number_on n c rest false = append_assoc c (n ∷ []) rest

head_of : (names : List (List ℕ)) (i : ℕ) (x : List ℕ) → slice_get names i ≡ Some x → drop i names ≡ x ∷ drop (suc i) names
head_of names i x found =
    let more : drop i names ≡ x ∷ drop (i + 1) names =
    drop_more names i x (slice_get_within names i x found) ∙ ap (λ y. y ∷ drop (i + 1) names) (get_or_from_slice_get names i x x found) in
    more ∙ ap (λ k. x ∷ drop k names) (let e : i + 1 ≡ suc i = omega arith in e)

-- a number behind the last one is 0
pub past_numbers : (ns : List ℤ) (i : ℕ) → length ns ≤ i → number_at ns i ≡ pos 0
past_numbers [] i past = refl
past_numbers (n ∷ ns) zero past = absurd (omega (arith, past))
past_numbers (n ∷ ns) (suc i) past = past_numbers ns i (omega (arith, past))

pub number_is : (ns : List ℤ) (i : ℕ) (d : ℤ) → i < length ns → number_at ns i ≡ get_or ns i d
number_is [] i d within = absurd (omega (arith, within))
number_is (n ∷ ns) zero d within = refl
number_is (n ∷ ns) (suc i) d within = number_is ns i d (omega (arith, within))

pub next_kept : (names : List (List ℕ)) (ns : List ℤ) (i : ℕ) (x : List ℕ) (kept next all : List (List ℕ)) → slice_get names i ≡ Some x
    → next ≡ with_kept kept x (number_at ns i) → union bytes_eq kept (names_from i (drop i names) ns) ≡ all
    → union bytes_eq next (names_from (i + 1) (drop (i + 1) names) ns) ≡ all
next_kept names ns i x kept next all found is so_far =
    let e : i + 1 ≡ suc i = omega arith in
    ap (λ k. union bytes_eq next (names_from k (drop k names) ns)) e
    ∙ ap (λ ms. union bytes_eq ms (names_from (suc i) (drop (suc i) names) ns)) is
    ∙ name_on x kept (names_from (suc i) (drop (suc i) names) ns) (int_eq (number_at ns i) (pos 0))
    ∙ sym (ap (λ ms. union bytes_eq kept (names_from i ms ns)) (head_of names i x found)) ∙ so_far

pub next_number : (names : List (List ℕ)) (ns : List ℤ) (i : ℕ) (x : List ℕ) (c next all : List ℤ) → slice_get names i ≡ Some x
    → next ≡ with_number c (number_at ns i) → c ++ numbers_from i (drop i names) ns ≡ all → next ++ numbers_from (i + 1) (drop (i + 1) names) ns ≡ all
next_number names ns i x c next all found is so_far =
    let e : i + 1 ≡ suc i = omega arith in
    ap (λ k. next ++ numbers_from k (drop k names) ns) e
    ∙ ap (λ ms. ms ++ numbers_from (suc i) (drop (suc i) names) ns) is
    ∙ number_on (number_at ns i) c (numbers_from (suc i) (drop (suc i) names) ns) (int_eq (number_at ns i) (pos 0))
    ∙ sym (ap (λ ms. c ++ numbers_from i ms ns) (head_of names i x found)) ∙ so_far

pub kept_more : (kept : List (List ℕ)) (x : List ℕ) (n : ℤ) → length (with_kept kept x n) ≤ suc (length kept)
kept_more kept x n = cond_both (int_eq n (pos 0)) kept (with_new bytes_eq kept x) (λ ns. length ns ≤ suc (length kept)) (λ _. omega arith)
    (λ _. one_more kept x)

-- names that differ still do where some are left out
apart_from : (x : List ℕ) (i : ℕ) (names : List (List ℕ)) (ns : List ℤ) → AllByRecursion (λ y. bytes_eq x y ≡ false) names
    → AllByRecursion (λ y. bytes_eq x y ≡ false) (names_from i names ns)
apart_from x i [] ns apart = apart
apart_from x i (y ∷ ys) ns apart =
    cond_both (int_eq (number_at ns i) (pos 0)) (names_from (suc i) ys ns) (y ∷ names_from (suc i) ys ns) (AllByRecursion (λ z. bytes_eq x z ≡ false))
    (λ _. apart_from x (suc i) ys ns apart.1) (λ _. (apart.0, apart_from x (suc i) ys ns apart.1))

distinct_from : (i : ℕ) (names : List (List ℕ)) (ns : List ℤ) → IsDistinct bytes_eq names → IsDistinct bytes_eq (names_from i names ns)
distinct_from i [] ns distinct = distinct
distinct_from i (x ∷ xs) ns distinct =
    cond_both (int_eq (number_at ns i) (pos 0)) (names_from (suc i) xs ns) (x ∷ names_from (suc i) xs ns) (IsDistinct bytes_eq)
    (λ _. distinct_from (suc i) xs ns (IsDistinct-tail bytes_eq x xs distinct))
    (λ _. IsDistinct-cons bytes_eq x (names_from (suc i) xs ns) (apart_from x (suc i) xs ns (IsDistinct-head bytes_eq x xs distinct))
    (distinct_from (suc i) xs ns (IsDistinct-tail bytes_eq x xs distinct)))

-- once no name is left, what is held is what is kept
pub all_kept : (names held : List (List ℕ)) (ns : List ℤ) (place : ℕ) → IsDistinct bytes_eq names → length names ≤ place
    → union bytes_eq held (names_from place (drop place names) ns) ≡ union bytes_eq [] (kept_names names ns) → held ≡ kept_names names ns
all_kept names held ns place distinct done so_far =
    sym (ap (λ ms. union bytes_eq held (names_from place ms ns)) (drop_all place names done)) ∙ so_far
    ∙ union_of_none (kept_names names ns) (distinct_from 0 names ns distinct)

pub all_numbers : (names : List (List ℕ)) (held : List ℤ) (ns : List ℤ) (place : ℕ) → length names ≤ place
    → held ++ numbers_from place (drop place names) ns ≡ kept_numbers names ns → held ≡ kept_numbers names ns
all_numbers names held ns place done so_far =
    sym (append-nil held) ∙ sym (ap (λ ms. held ++ numbers_from place ms ns) (drop_all place names done)) ∙ so_far

-- ---- the sum's numbers

same_length : (i : ℕ) (names : List (List ℕ)) (ns : List ℤ) → length (numbers_from i names ns) ≡ length (names_from i names ns)
same_length i [] ns = refl
same_length i (x ∷ xs) ns = by_case (int_eq (number_at ns i) (pos 0)) x (number_at ns i) (names_from (suc i) xs ns) (numbers_from (suc i) xs ns)
    (same_length (suc i) xs ns)
  where
    by_case : (b : Bool) (x : List ℕ) (n : ℤ) (xs : List (List ℕ)) (ns : List ℤ) → length ns ≡ length xs
        → length (if b then ns else n ∷ ns) ≡ length (if b then xs else x ∷ xs)
    by_case true x n xs ns same = same
    by_case false x n xs ns same = ap suc same

number_fits : (ns : List ℤ) (i : ℕ) → All (Fits 126) ns → Fits 126 (number_at ns i)
number_fits [] i all = omega arith
number_fits (n ∷ ns) zero all = All-head (Fits 126) n ns all
number_fits (n ∷ ns) (suc i) all = number_fits ns i (All-tail (Fits 126) n ns all)

numbers_fit : (i : ℕ) (names : List (List ℕ)) (ns : List ℤ) → All (Fits 126) ns → All (Fits 126) (numbers_from i names ns)
numbers_fit i [] ns all = All-nil (Fits 126)
numbers_fit i (x ∷ xs) ns all =
    cond_both (int_eq (number_at ns i) (pos 0)) (numbers_from (suc i) xs ns) (number_at ns i ∷ numbers_from (suc i) xs ns) (All (Fits 126))
    (λ _. numbers_fit (suc i) xs ns all) (λ _. All-cons (Fits 126) (number_at ns i) (numbers_from (suc i) xs ns) (number_fits ns i all)
    (numbers_fit (suc i) xs ns all))

linear_narrow : (names : List (List ℕ)) (x : Point) → IsNarrowPoint x → IsNarrowLinear (linear_with names x)
linear_narrow names x narrow = record {
  columns = same_length 0 names x.p;
  positive = narrow.positive;
  numbers = numbers_fit 0 names x.p narrow.numbers;
  constant = number_fits x.p (length names) narrow.numbers;
  denominator = narrow.denominator;
}

abbrev with_parts : List (List ℕ) → List ℤ → ℤ → ℤ → Linear
with_parts names c b q = record { names = names; c = c; b = b; q = q }

pub narrow_as : (names : List (List ℕ)) (x : Point) (kept : List (List ℕ)) (c : List ℤ) (b q : ℤ) → IsNarrowPoint x → kept ≡ kept_names names x.p
    → c ≡ kept_numbers names x.p → b ≡ number_at x.p (length names) → q ≡ x.q → IsNarrowLinear (with_parts kept c b q)
narrow_as names x kept c b q narrow names_are numbers_are constant_is q_is =
    subst (λ k. IsNarrowLinear (with_parts k c b q)) (sym names_are)
    (subst (λ k. IsNarrowLinear (with_parts (kept_names names x.p) k b q)) (sym numbers_are)
    (subst (λ k. IsNarrowLinear (with_parts (kept_names names x.p) (kept_numbers names x.p) k q)) (sym constant_is)
    (subst (λ k. IsNarrowLinear (with_parts (kept_names names x.p) (kept_numbers names x.p) (number_at x.p (length names)) k)) (sym q_is)
    (linear_narrow names x narrow))))
