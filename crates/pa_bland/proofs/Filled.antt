-- A line of a work that is written from its front on, number by number.
use Rattle.std.proofs.Common.{◌≡◌, ℕ, suc, ◌<◌, ◌≤◌, ◌+◌, ◌-◌, List, [], ◌++◌, length, get_or, take, drop, set, replicate, Result}
use Rattle.std.proofs.Common.{Ok, Err, ℤ, refl, sym, ap, ◌∙◌, arith, add-one, pos, drop-cons, take-suc-set, drop-set-lt}
use Rattle.std.proofs.lemmas.List.{drop_all, append-nil, set-get_or, get_or-set_same, set-set, length-set}
use Rattle.std.proofs.lemmas.List.{length-replicate, take-append-drop, drop-drop, drop-replicate}
use Rattle.pa_math.specs.Answers.{and_then}
use Rattle.pa_math.specs.Rational.{ℚ, whole}
use Rattle.pa_tableau.specs.declared.wide_at.WideAt.{WideAt}
use Rattle.pa_tableau.specs.Arithmetic.{Arithmetic, each, left_by}
use Rattle.pa_tableau.specs.Tableau.{line_at, told_at}
use Rattle.pa_tableau.specs.Work.{Work}
use Rattle.pa_tableau.proofs.Walks.{behind, behind_none, behind_more, behind_fault, ok_same}
use Rattle.pa_bland.specs.Seen.{KeepsShape, with_line, with_cell}

-- the front of the line has what the steps gave so far, and its rest is 0
pub record IsFilling {X : Type 0} (f : ℕ → X → Result ℚ WideAt) (xs : List X) (start now : Work) (line j : ℕ) : Type 0 where
  pub others : now ≡ with_line start line (line_at now.table line)
  pub inside : line < length start.table.lines
  pub room : length xs ≤ start.columns
  pub rest : drop j (line_at now.table line) ≡ replicate (start.columns - j) (whole (pos 0))
  pub long : length (line_at now.table line) ≡ start.columns
  pub exact : each f 0 xs ≡ behind (take j (line_at now.table line)) (each f j (drop j xs))

pub filling_starts : {X : Type 0} (f : ℕ → X → Result ℚ WideAt) (xs : List X) (start : Work) (line : ℕ) → line < length start.table.lines →
    length xs ≤ start.columns →
    line_at start.table line ≡ replicate start.columns (whole (pos 0)) → IsFilling f xs start start line 0
filling_starts f xs start line inside room clear = record {
  others = ap (λ lines. record start { table = record start.table { lines = lines } }) (sym (set-get_or start.table.lines line []));
  inside = inside;
  room = room;
  rest = clear ∙ ap (λ k. replicate k (whole (pos 0))) (omega arith);
  long = ap length clear ∙ length-replicate start.columns (whole (pos 0));
  exact = sym (behind_none (each f 0 xs));
}

-- the rest after one item more
pub rest_after : {X : Type 0} (j columns : ℕ) (line : List X) (empty : X) → drop j line ≡ replicate (columns - j) empty →
    drop (suc j) line ≡ replicate (columns - suc j) empty
rest_after j columns line empty rest =
    let next : j + 1 ≡ suc j = omega arith in
    let left : columns - j - 1 ≡ columns - suc j = omega arith in
    ap (λ k. drop k line) (sym next) ∙ sym (drop-drop 1 j line) ∙ ap (drop 1) rest ∙ drop-replicate 1 (columns - j) empty ∙ ap (λ k. replicate k empty) left

-- the line that is written over
line_written : (work : Work) (line : ℕ) (cells : List ℚ) → line < length work.table.lines → line_at (with_line work line cells).table line ≡ cells
line_written work line cells inside = get_or-set_same work.table.lines line cells [] inside

pub filling_turns : {X : Type 0} (f : ℕ → X → Result ℚ WideAt) (xs : List X) (start now next : Work) (line j : ℕ) (d : X) (done : Unit {0}) →
    IsFilling f xs start now line j → j < length xs →
    left_by (Ok done) next ≡ and_then (f j (get_or xs j d)) (λ q. Ok (with_cell now line j q)) → IsFilling f xs start next line (j + 1)
filling_turns {X} f xs start now next line j d done h low e = by_answer (f j (get_or xs j d)) refl e
  where
    by_answer : (r : Result ℚ WideAt) → f j (get_or xs j d) ≡ r → Ok next ≡ and_then r (λ q. Ok (with_cell now line j q)) →
        IsFilling f xs start next line (j + 1)
    by_answer (Err wide) is same = absurd (cc same)
    by_answer (Ok q) is same =
        let old : List ℚ = line_at now.table line in
        let next_is : next ≡ with_cell now line j q = ok_same next (with_cell now line j q) same in
        let count : length now.table.lines ≡ length start.table.lines = ap (λ (w : Work). length w.table.lines) h.others
        ∙ length-set start.table.lines line old in
        let line_is : line_at next.table line ≡ set old j q = ap (λ (w : Work). line_at w.table line) next_is
        ∙ line_written now line (set old j q) (omega (arith, count, h.inside)) in
        let long : j < length old = (let room = h.room in let l = h.long in omega (arith, room, l, low)) in
        record {
          others = next_is ∙ ap (λ (w : Work). with_line w line (set old j q)) h.others
              ∙ ap (λ lines. record start { table = record start.table { lines = lines } }) (set-set start.table.lines line old (set old j q))
              ∙ ap (with_line start line) (sym line_is);
          inside = h.inside;
          room = h.room;
          rest = rw (line_is, add-one, drop-set-lt (suc j) old j q (omega arith)) (rest_after j start.columns old (whole (pos 0)) h.rest);
          long = ap length line_is ∙ length-set old j q ∙ h.long;
          exact = h.exact
              ∙ ap (λ ys. behind (take j old) (each f j ys)) (drop-cons xs j d low)
              ∙ behind_more f (take j old) j (get_or xs j d) (drop (suc j) xs) q is
              ∙ rw (line_is, add-one, take-suc-set old j q long) refl;
        }

pub filling_refused : {X : Type 0} (f : ℕ → X → Result ℚ WideAt) (xs : List X) (start now next : Work) (line j : ℕ) (d : X) (wide : WideAt) →
    IsFilling f xs start now line j → j < length xs →
    left_by {A = Work} (Err wide) next ≡ and_then (f j (get_or xs j d)) (λ q. Ok (with_cell now line j q)) → each f 0 xs ≡ Err wide
filling_refused {X} f xs start now next line j d wide h low e = by_answer (f j (get_or xs j d)) refl e
  where
    by_answer : (r : Result ℚ WideAt) → f j (get_or xs j d) ≡ r → left_by {A = Work} (Err wide) next ≡ and_then r (λ q. Ok (with_cell now line j q)) →
        each f 0 xs ≡ Err wide
    by_answer (Ok q) is same = absurd (cc same)
    by_answer (Err other) is same =
        h.exact ∙ ap (λ ys. behind (take j (line_at now.table line)) (each f j ys)) (drop-cons xs j d low)
        ∙ behind_fault f (take j (line_at now.table line)) j (get_or xs j d) (drop (suc j) xs) other is ∙ sym (cc same)

pub filling_ends : {X : Type 0} (f : ℕ → X → Result ℚ WideAt) (xs : List X) (start now : Work) (line j : ℕ) → IsFilling f xs start now line j → j ≡ length xs →
    Ok now ≡ and_then (each f 0 xs) (λ own. Ok (with_line start line (own ++ replicate (start.columns - length xs) (whole (pos 0)))))
filling_ends f xs start now line j h e =
    let cells : List ℚ = line_at now.table line in
    let all : each f 0 xs ≡ Ok (take j cells) =
    h.exact ∙ ap (λ ys. behind (take j cells) (each f j ys)) (drop_all j xs (omega (arith, e))) ∙ ap Ok (append-nil (take j cells)) in
    let whole_line : cells ≡ take j cells ++ replicate (start.columns - length xs) (whole (pos 0)) =
    sym (take-append-drop j cells) ∙ ap (λ ys. take j cells ++ ys) (h.rest ∙ ap (λ k. replicate (start.columns - k) (whole (pos 0))) e) in
    ap Ok (h.others ∙ ap (with_line start line) whole_line)
    ∙ sym (ap (λ r. and_then r (λ own. Ok (with_line start line (own ++ replicate (start.columns - length xs) (whole (pos 0)))))) all)

-- the step of a whole number
abbrev pub number_step : Arithmetic → ℕ → ℕ → ℤ → Result ℚ WideAt
number_step A line j z = told_at 0 line j (A.fraction (whole z))

-- the shape stays from call to call
pub shape_after : (old now next : Work) → KeepsShape old now → KeepsShape now next → KeepsShape old next
shape_after old now next h k = record {
  room = record { lines = k.room.lines ∙ h.room.lines; rows = k.room.rows ∙ h.room.rows };
  lines = k.lines ∙ h.lines;
  columns = k.columns ∙ h.columns;
}
