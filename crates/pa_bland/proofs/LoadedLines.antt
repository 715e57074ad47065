-- A line of a loaded tableau, as it is written.
use Rattle.std.proofs.Common.{◌≡◌, ℕ, ◌<◌, ◌+◌, ◌-◌, ◌==◌, ◌⊎◌, inl, inr, true, false, if◌then◌else◌, ℤ, List, [], ◌∷◌}
use Rattle.std.proofs.Common.{◌++◌, length, get_or, set, replicate, Result, Ok, refl, sym, ap, ap₂, ◌∙◌, arith, pos}
use Rattle.std.proofs.lemmas.List.{append_assoc, ext_get_or, get_or-replicate, get_or-set_same, get_or-set_other}
use Rattle.std.proofs.lemmas.List.{length-replicate, length-set, replicate_more, set-append_left, set-append_right, set-set}
use Rattle.std.proofs.lemmas.List.FromFn.{get_or-map-range_with_len, length-map-range_with_len}
use Rattle.pa_ring.specs.Sums.{number_at}
use Rattle.pa_math.specs.Answers.{and_then}
use Rattle.pa_math.specs.Rational.{ℚ, whole}
use Rattle.pa_row.proofs.Dots.{and_then_assoc, and_then_ok}
use Rattle.pa_tableau.specs.declared.wide_at.WideAt.{WideAt}
use Rattle.pa_tableau.specs.Arithmetic.{Arithmetic, left_by}
use Rattle.pa_tableau.specs.Tableau.{told_at}
use Rattle.pa_tableau.specs.Work.{Work}
use Rattle.pa_tableau.proofs.Walks.{ok_same}
use Rattle.pa_replay.specs.Problem.{Problem, is_turned, loaded_line, loaded_numbers, numbers_of, turned_number, unit_numbers}
use Rattle.pa_bland.specs.Seen.{IsBegun, with_cell, with_line, with_sign}
use Rattle.pa_replay.proofs.Bridges.{each_length}
use Rattle.pa_bland.proofs.Filled.{number_step}
use Rattle.pa_replay.proofs.Numbers.{length_numbers, own_numbers}

same_or_not : (i l : ℕ) → (i ≡ l) ⊎ (i ≡ l → ⊥)
same_or_not i l = search arith

-- 1 among n zeros
unit_written : (n i : ℕ) → i < n → set (replicate n (whole (pos 0))) i (whole (pos 1)) ≡ unit_numbers n i
unit_written n i low =
    ext_get_or (whole (pos 0)) (set (replicate n (whole (pos 0))) i (whole (pos 1))) (unit_numbers n i)
    (length-set (replicate n (whole (pos 0))) i (whole (pos 1)) ∙ length-replicate n (whole (pos 0)) ∙ sym (length-map-range_with_len one_at 0 n))
    (λ k inside. (let below : k < n = (let same : length (set (replicate n (whole (pos 0))) i (whole (pos 1))) ≡ n = rw
    (length-set, length-replicate) refl in omega (arith, inside, same)) in
    by_place k below (same_or_not k i) ∙ sym (get_or-map-range_with_len one_at 0 n k k (whole (pos 0)) below (omega arith))))
  where
    one_at : ℕ → ℚ
    one_at k = if k == i then whole (pos 1) else whole (pos 0)

    by_place : (k : ℕ) → k < n → (k ≡ i) ⊎ (k ≡ i → ⊥) → get_or (set (replicate n (whole (pos 0))) i (whole (pos 1))) k (whole (pos 0)) ≡ one_at k
    by_place k below (inl e) =
        let test : (k == i) ≡ true = search (arith, e) in
        ap (λ k. get_or (set (replicate n (whole (pos 0))) i (whole (pos 1))) k (whole (pos 0))) e
        ∙ get_or-set_same (replicate n (whole (pos 0))) i (whole (pos 1)) (whole (pos 0)) (rw length-replicate low)
        ∙ sym (ap (λ b. if b then whole (pos 1) else whole (pos 0)) test)
    by_place k below (inr d) =
        let test : (k == i) ≡ false = grind (arith, d) in
        get_or-set_other (replicate n (whole (pos 0))) i k (whole (pos 1)) (whole (pos 0)) d
        ∙ get_or-replicate n k (whole (pos 0)) (whole (pos 0)) below
        ∙ sym (ap (λ b. if b then whole (pos 1) else whole (pos 0)) test)

-- the cells of the whole line
line_made : (n m i : ℕ) (own : List ℚ) (q : ℚ) → length own ≡ m → i < n →
    set (set (own ++ replicate (n + 1) (whole (pos 0))) (m + i) (whole (pos 1))) (n + m) q ≡ own ++ unit_numbers n i ++ q ∷ []
line_made n m i own q long low =
    let zeros : replicate (n + 1) (whole (pos 0)) ≡ replicate n (whole (pos 0)) ++ whole (pos 0) ∷ [] = sym (replicate_more n (whole (pos 0))) in
    let place : m + i - m ≡ i = omega arith in
    let last : n + m - m ≡ n = omega arith in
    let end : n - n ≡ 0 = omega arith in
    let units : length (unit_numbers n i) ≡ n = length-map-range_with_len _ 0 n in
    ap (λ zs. set (set (own ++ zs) (m + i) (whole (pos 1))) (n + m) q) zeros
    ∙ ap (λ xs. set xs (n + m) q)
    (set-append_right own (replicate n (whole (pos 0)) ++ whole (pos 0) ∷ []) m (m + i) (whole (pos 1)) long (omega arith)
    ∙ ap (λ k. own ++ set (replicate n (whole (pos 0)) ++ whole (pos 0) ∷ []) k (whole (pos 1))) place
    ∙ ap (λ xs. own ++ xs) (set-append_left (replicate n (whole (pos 0))) (whole (pos 0) ∷ []) i (whole (pos 1)) (rw length-replicate low)
    ∙ ap (λ xs. xs ++ whole (pos 0) ∷ []) (unit_written n i low)))
    ∙ set-append_right own (unit_numbers n i ++ whole (pos 0) ∷ []) m (n + m) q long (omega arith)
    ∙ ap (λ k. own ++ set (unit_numbers n i ++ whole (pos 0) ∷ []) k q) last
    ∙ ap (λ xs. own ++ xs) (set-append_right (unit_numbers n i) (whole (pos 0) ∷ []) n n q units (omega arith)
    ∙ ap (λ k. unit_numbers n i ++ set (whole (pos 0) ∷ []) k q) end)
    ∙ sym (append_assoc own (unit_numbers n i) (q ∷ []))

-- a cell of a line that was just written
pub cell_written : (work : Work) (i j : ℕ) (line : List ℚ) (q : ℚ) → i < length work.table.lines →
    with_cell (with_line work i line) i j q ≡ with_line work i (set line j q)
cell_written work i j line q low =
    ap (λ lines. record work { table = record work.table { lines = lines } })
    (ap (λ old. set (set work.table.lines i line) i (set old j q)) (get_or-set_same work.table.lines i line [] low)
    ∙ set-set work.table.lines i line (set line j q))

pub line_loaded : (A : Arithmetic) (p : Problem) (i : ℕ) (start signed numbered united next : Work) (one : ℚ) (v : ℤ) (done : Unit {0})
    (r : Result (Unit {0}) WideAt) →
    IsBegun (length p.target) (length p.rows) start → i < length p.target → length start.table.lines ≡ length p.target + 2 →
    signed ≡ with_sign start i (is_turned p.target i) →
    left_by (Ok done) numbered ≡ and_then (loaded_numbers A i (numbers_of p i))
    (λ own. Ok (with_line signed i (own ++ replicate (signed.columns - length p.rows) (whole (pos 0))))) →
    one ≡ whole (pos 1) → united ≡ with_cell numbered i (length p.rows + i) one →
    v ≡ turned_number p.target i (number_at p.target i) →
    left_by r next ≡ and_then (told_at 0 i (length p.target + length p.rows) (A.fraction (whole v)))
    (λ q. Ok (with_cell united i (length p.target + length p.rows) q)) →
    left_by r next ≡ and_then (loaded_line A p i) (λ cells. Ok (with_sign (with_line start i cells) i (is_turned p.target i)))
line_loaded A p i start signed numbered united next one v done r begun low count sign numbers one_is unit v_is value =
    let n : ℕ = length p.target in
    let m : ℕ = length p.rows in
    let (own, own_is, numbered_is) = and_then_ok (loaded_numbers A i (numbers_of p i))
    (λ own. Ok (with_line signed i (own ++ replicate (signed.columns - m) (whole (pos 0))))) numbered numbers in
    let line : List ℚ = own ++ replicate (n + 1) (whole (pos 0)) in
    let long : length own ≡ m = each_length (number_step A i) 0 (numbers_of p i) own own_is ∙ length_numbers p i in
    let columns : signed.columns - m ≡ n + 1 = (let shape = begun.columns in let same = ap (λ (w : Work). w.columns) sign in omega (arith, shape, same)) in
    let inside : i < length signed.table.lines = (let same = ap (λ (w : Work). length w.table.lines) sign in omega (arith, low, count, same)) in
    let inside_again : i < length (set signed.table.lines i (set line (m + i) (whole (pos 1)))) = rw length-set inside in
    let numbered_as : numbered ≡ with_line signed i line =
    ok_same numbered (with_line signed i (own ++ replicate (signed.columns - m) (whole (pos 0)))) numbered_is
    ∙ ap (λ k. with_line signed i (own ++ replicate k (whole (pos 0)))) columns in
    let united_as : united ≡ with_line signed i (set line (m + i) (whole (pos 1))) =
    unit ∙ ap₂ (λ w q. with_cell w i (m + i) q) numbered_as one_is ∙ cell_written signed i (m + i) line (whole (pos 1)) inside in
    let made : (q : ℚ) → with_cell united i (n + m) q ≡ with_sign (with_line start i (own ++ unit_numbers n i ++ q ∷ [])) i (is_turned p.target i) =
    λ q. ap (λ w. with_cell w i (n + m) q) united_as ∙ cell_written signed i (n + m) (set line (m + i) (whole (pos 1))) q inside
    ∙ ap₂ (λ w cells. with_line w i cells) sign (line_made n m i own q long low) in
    value
    ∙ ap (λ v. and_then (told_at 0 i (n + m) (A.fraction (whole v))) (λ q. Ok (with_cell united i (n + m) q))) v_is
    ∙ (λ k. and_then (told_at 0 i (n + m) (A.fraction (whole (turned_number p.target i (number_at p.target i))))) (λ q. Ok (made q k)))
    ∙ sym (and_then_assoc (told_at 0 i (n + m) (A.fraction (whole (turned_number p.target i (number_at p.target i)))))
    (λ value. Ok (own ++ unit_numbers n i ++ value ∷ []))
    (λ cells. Ok (with_sign (with_line start i cells) i (is_turned p.target i))))
    ∙ ap (λ (numbers : Result (List ℚ) WideAt). and_then (and_then numbers
    (λ own. and_then (told_at 0 i (n + m) (A.fraction (whole (turned_number p.target i (number_at p.target i)))))
    (λ value. Ok (own ++ unit_numbers n i ++ value ∷ [])))) (λ cells. Ok (with_sign (with_line start i cells) i (is_turned p.target i))))
    (own_is ∙ ap (loaded_numbers A i) (own_numbers p i low))
