-- A walk over a list that is written in place: what is written so far and what the other steps give is what all steps give.
use Rattle.std.proofs.Common.{◌≡◌, ℕ, suc, ◌<◌, ◌≤◌, ◌+◌, List, [], ◌∷◌, ◌++◌, append_assoc, map, length, get_or, take, drop, set}
use Rattle.std.proofs.Common.{Result, Ok, Err, refl, sym, ap, ◌∙◌, arith, add-one, drop-cons, take-suc-set, drop-set-lt, take_all}
use Rattle.std.proofs.lemmas.List.{drop_all, append-nil}
use Rattle.pa_math.specs.Answers.{and_then}
pub use Rattle.pa_math.specs.Steps.{behind}
pub use Rattle.pa_math.proofs.Answers.{ok_same}
use Rattle.pa_tableau.specs.Arithmetic.{each, left_by}

pub behind_none : {B E : Type 0} (r : Result (List B) E) → behind [] r ≡ r
behind_none (Ok ys) = refl
behind_none (Err e) = refl

-- a step that gives a value
pub behind_more : {A B E : Type 0} (step : ℕ → A → Result B E) (done : List B) (i : ℕ) (x : A) (xs : List A) (y : B) → step i x ≡ Ok y →
    behind done (each step i (x ∷ xs)) ≡ behind (done ++ y ∷ []) (each step (suc i) xs)
behind_more {A} {B} {E} step done i x xs y h =
    ap (λ (r : Result B E). behind done (and_then r (λ y. and_then (each step (suc i) xs) (λ ys. Ok (y ∷ ys))))) h ∙ shifted (each step (suc i) xs)
  where
    shifted : (r : Result (List B) E) → behind done (and_then r (λ ys. Ok (y ∷ ys))) ≡ behind (done ++ y ∷ []) r
    shifted (Ok ys) = ap Ok (sym (append_assoc done (y ∷ []) ys))
    shifted (Err e) = refl

-- a step that is refused
pub behind_fault : {A B E : Type 0} (step : ℕ → A → Result B E) (done : List B) (i : ℕ) (x : A) (xs : List A) (e : E) → step i x ≡ Err e →
    behind done (each step i (x ∷ xs)) ≡ Err e
behind_fault {A} {B} {E} step done i x xs e h = ap (λ (r : Result B E). behind done (and_then r (λ y. and_then (each step (suc i) xs) (λ ys. Ok (y ∷ ys))))) h

-- ---- the list in place: its front is written, its rest is not
abbrev pub walked : {F A E : Type 0} → (F → A) → (ℕ → A → Result A E) → ℕ → List F → Result (List A) E
walked value step i now = behind (map value (take i now)) (each step i (map value (drop i now)))

-- ---- a list that is not seen through a value
abbrev pub walk : {A E : Type 0} → (ℕ → A → Result A E) → ℕ → List A → Result (List A) E
walk step i now = behind (take i now) (each step i (drop i now))

pub walk_start : {A E : Type 0} (step : ℕ → A → Result A E) (now : List A) → each step 0 now ≡ walk step 0 now
walk_start step now = sym (behind_none (each step 0 now))

pub walk_turn : {A E : Type 0} (step : ℕ → A → Result A E) (i : ℕ) (now : List A) (d y : A) → i < length now → step i (get_or now i d) ≡ Ok y →
    walk step i now ≡ walk step (i + 1) (set now i y)
walk_turn step i now d y h e =
    ap (λ xs. behind (take i now) (each step i xs)) (drop-cons now i d h)
    ∙ behind_more step (take i now) i (get_or now i d) (drop (suc i) now) y e
    ∙ rw (add-one, drop-set-lt (suc i) now i y (omega arith), take-suc-set now i y h) refl

pub walk_fault : {A E : Type 0} (step : ℕ → A → Result A E) (i : ℕ) (now : List A) (d : A) (e : E) → i < length now → step i (get_or now i d) ≡ Err e
    → walk step i now ≡ Err e
walk_fault step i now d e h k =
    ap (λ xs. behind (take i now) (each step i xs)) (drop-cons now i d h) ∙ behind_fault step (take i now) i (get_or now i d) (drop (suc i) now) e k

pub walk_end : {A E : Type 0} (step : ℕ → A → Result A E) (i : ℕ) (now : List A) → length now ≤ i → walk step i now ≡ Ok now
walk_end step i now h = rw (drop_all i now h, take_all i now h) (ap Ok (append-nil now))

-- ---- a turn whose call says what it left behind in the whole list
pub walk_left : {A E : Type 0} (step : ℕ → A → Result A E) (i : ℕ) (now next : List A) (d : A) (done : Unit {0}) → i < length now →
    left_by (Ok done) next ≡ and_then (step i (get_or now i d)) (λ y. Ok (set now i y)) → walk step i now ≡ walk step (i + 1) next
walk_left {A} {E} step i now next d done h e = by_answer (step i (get_or now i d)) refl e
  where
    by_answer : (s : Result A E) → step i (get_or now i d) ≡ s → Ok next ≡ and_then s (λ y. Ok (set now i y)) → walk step i now ≡ walk step (i + 1) next
    by_answer (Ok y) is same = walk_turn step i now d y h is ∙ ap (walk step (i + 1)) (sym (ok_same next (set now i y) same))
    by_answer (Err fault) is same = absurd (cc same)

pub walk_left_fault : {A E : Type 0} (step : ℕ → A → Result A E) (i : ℕ) (now next : List A) (d : A) (fault : E) → i < length now →
    left_by {A = List A} (Err fault) next ≡ and_then (step i (get_or now i d)) (λ y. Ok (set now i y)) → walk step i now ≡ Err fault
walk_left_fault {A} {E} step i now next d fault h e = by_answer (step i (get_or now i d)) refl e
  where
    by_answer : (s : Result A E) → step i (get_or now i d) ≡ s → Err fault ≡ and_then {B = List A} s (λ y. Ok (set now i y)) → walk step i now ≡ Err fault
    by_answer (Ok y) is same = absurd (cc same)
    by_answer (Err other) is same = walk_fault step i now d other h is ∙ sym same
