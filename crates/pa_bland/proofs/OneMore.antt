-- What is read place by place and line by line, by one more.
use Rattle.std.proofs.Common.{◌≡◌, ℕ, suc, ◌<◌, ◌≤◌, ◌+◌, List, [], ◌∷◌, ◌++◌, flat_map, length, drop, map, Result, Ok, Err, sym, ap, ◌∙◌}
use Rattle.std.proofs.Common.{add-one, zero-add, drop-cons}
use Rattle.std.specs.List.{range_with_len}
use Rattle.std.proofs.lemmas.List.{append-nil, drop_all, flat_map_more, map_push}
use Rattle.std.proofs.lemmas.List.FromFn.{get_or-range_with_len, length-range_with_len}
use Rattle.pa_tableau.specs.Arithmetic.{each}
use Rattle.pa_tableau.proofs.Fillings.{range_more}
use Rattle.pa_tableau.proofs.Walks.{behind, behind_fault, behind_more}

range_one_more : (n : ℕ) → range_with_len 0 n ++ n ∷ [] ≡ range_with_len 0 (n + 1)
range_one_more n = ap (λ k. range_with_len 0 n ++ k ∷ []) (sym (zero-add n)) ∙ range_more 0 n ∙ ap (range_with_len 0) (sym (add-one n))

-- one place more
pub place_more : {A : Type 0} (f : ℕ → List A) (n : ℕ) (xs ys : List A) → xs ≡ flat_map f (range_with_len 0 n) → ys ≡ xs ++ f n →
    ys ≡ flat_map f (range_with_len 0 (n + 1))
place_more f n xs ys h e = e ∙ ap (λ xs. xs ++ f n) h ∙ flat_map_more f [] (range_with_len 0 n) n ∙ ap (flat_map f) (range_one_more n)

-- one line more
pub line_more : {A B : Type 0} (g : A → B) (f : ℕ → A) (n : ℕ) (xs : List B) (y : B) → xs ≡ map g (map f (range_with_len 0 n)) → y ≡ g (f n) →
    xs ++ y ∷ [] ≡ map g (map f (range_with_len 0 (n + 1)))
line_more g f n xs y h e =
    ap (λ y. xs ++ y ∷ []) e ∙ ap (λ xs. xs ++ g (f n) ∷ []) h ∙ sym (map_push g (map f (range_with_len 0 n)) (f n))
    ∙ ap (map g) (sym (map_push f (range_with_len 0 n) n) ∙ ap (map f) (range_one_more n))

-- ---- what may be refused at each line: what is read so far and what the other lines give is what all give
abbrev pub from_line : {B E : Type 0} → (ℕ → Result B E) → ℕ → ℕ → List B → Result (List B) E
from_line f n line done = behind done (each (λ i k. f k) line (drop line (range_with_len 0 n)))

next_line : (n line : ℕ) → line < n → drop line (range_with_len 0 n) ≡ line ∷ drop (suc line) (range_with_len 0 n)
next_line n line low =
    let here : line < length (range_with_len 0 n) = rw length-range_with_len low in
    drop-cons (range_with_len 0 n) line 0 here
    ∙ ap (λ k. k ∷ drop (suc line) (range_with_len 0 n)) (get_or-range_with_len 0 n line 0 low ∙ zero-add line)

pub read_more : {B E : Type 0} (f : ℕ → Result B E) (n line : ℕ) (done : List B) (y : B) → line < n → f line ≡ Ok y →
    from_line f n line done ≡ from_line f n (line + 1) (done ++ y ∷ [])
read_more f n line done y low e =
    ap (λ ks. behind done (each (λ i k. f k) line ks)) (next_line n line low)
    ∙ behind_more (λ i k. f k) done line line (drop (suc line) (range_with_len 0 n)) y e
    ∙ ap (λ next. from_line f n next (done ++ y ∷ [])) (sym (add-one line))

pub read_refused : {B E : Type 0} (f : ℕ → Result B E) (n line : ℕ) (done : List B) (fault : E) → line < n → f line ≡ Err fault →
    from_line f n line done ≡ Err fault
read_refused f n line done fault low e =
    ap (λ ks. behind done (each (λ i k. f k) line ks)) (next_line n line low)
    ∙ behind_fault (λ i k. f k) done line line (drop (suc line) (range_with_len 0 n)) fault e

pub read_all : {B E : Type 0} (f : ℕ → Result B E) (n line : ℕ) (done : List B) → n ≤ line → from_line f n line done ≡ Ok done
read_all f n line done high =
    ap (λ ks. behind done (each (λ i k. f k) line ks)) (drop_all line (range_with_len 0 n) (rw length-range_with_len high))
    ∙ ap Ok (append-nil done)
