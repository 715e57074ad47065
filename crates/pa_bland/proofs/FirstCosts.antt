-- Cost row 1, as it is written.
use Rattle.std.proofs.Common.{◌≡◌, ℕ, suc, ◌<◌, ◌≤◌, ◌+◌, ◌-◌, List, [], ◌∷◌, ◌++◌, length, get_or, take, drop, set}
use Rattle.std.proofs.Common.{replicate, Result, Ok, Err, refl, sym, ap, ◌∙◌, arith, add-one, pos, drop-cons, zero-add}
use Rattle.std.specs.List.{range_with_len}
use Rattle.std.proofs.lemmas.List.{append_assoc, get_or-take, length-replicate, length-take-le, replicate_more, set-append_right, take-set}
use Rattle.std.proofs.lemmas.List.FromFn.{get_or-range_with_len, length-range_with_len}
use Rattle.pa_math.specs.Answers.{and_then}
use Rattle.pa_math.specs.Rational.{ℚ, whole}
use Rattle.pa_row.proofs.Dots.{and_then_ok}
use Rattle.pa_tableau.specs.declared.wide_at.WideAt.{WideAt}
use Rattle.pa_tableau.specs.Arithmetic.{Arithmetic, each}
use Rattle.pa_tableau.specs.Tableau.{line_at, number_at, told_at}
use Rattle.pa_tableau.specs.Work.{Work}
use Rattle.pa_tableau.proofs.Walks.{ok_same}
use Rattle.pa_replay.specs.Problem.{cost_in, first_costs, running_sum}
use Rattle.pa_bland.specs.Seen.{IsBegun, with_cell, with_line}
use Rattle.pa_replay.proofs.Bridges.{each_length}
use Rattle.pa_bland.proofs.Filled.{IsFilling, filling_ends, filling_refused}
use Rattle.pa_bland.proofs.LoadedLines.{cell_written}
use Rattle.pa_replay.proofs.LoadSteps.{cost_step}

-- one line more
pub sum_turns : (A : Arithmetic) (row column i n : ℕ) (sum next : ℚ) (lines : List (List ℚ)) → i < n → n ≤ length lines →
    told_at 0 row column (A.sum sum (number_at (get_or lines i []) column)) ≡ Ok next →
    running_sum A row column sum (drop i (take n lines)) ≡ running_sum A row column next (drop (i + 1) (take n lines))
sum_turns A row column i n sum next lines low inside is =
    let long : i < length (take n lines) = (let same = length-take-le n lines inside in omega (arith, low, same)) in
    ap (running_sum A row column sum) (drop-cons (take n lines) i [] long)
    ∙ ap (λ line. and_then (told_at 0 row column (A.sum sum (number_at line column))) (λ next. running_sum A row column next (drop (suc i) (take n lines))))
    (get_or-take n lines i [] low)
    ∙ ap (λ (r : Result ℚ WideAt). and_then r (λ next. running_sum A row column next (drop (suc i) (take n lines)))) is
    ∙ rw add-one refl

pub sum_refused : (A : Arithmetic) (row column i n : ℕ) (sum : ℚ) (wide : WideAt) (lines : List (List ℚ)) → i < n → n ≤ length lines →
    told_at 0 row column (A.sum sum (number_at (get_or lines i []) column)) ≡ Err wide →
    running_sum A row column sum (drop i (take n lines)) ≡ Err wide
sum_refused A row column i n sum wide lines low inside is =
    let long : i < length (take n lines) = (let same = length-take-le n lines inside in omega (arith, low, same)) in
    ap (running_sum A row column sum) (drop-cons (take n lines) i [] long)
    ∙ ap (λ line. and_then (told_at 0 row column (A.sum sum (number_at line column))) (λ next. running_sum A row column next (drop (suc i) (take n lines))))
    (get_or-take n lines i [] low)
    ∙ ap (λ (r : Result ℚ WideAt). and_then r (λ next. running_sum A row column next (drop (suc i) (take n lines)))) is

-- the lines are not touched by what is written into the cost row
pub lines_kept : (n : ℕ) (start now : Work) (cells : List ℚ) → now ≡ with_line start n cells → take n now.table.lines ≡ take n start.table.lines
lines_kept n start now cells e = ap (λ (w : Work). take n w.table.lines) e ∙ take-set start.table.lines n cells

-- the last cell is written
pub costs_loaded : (A : Arithmetic) (n m : ℕ) (start now next : Work) (q : ℚ) → IsBegun n m start → n < length start.table.lines →
    IsFilling (cost_step A n (take n start.table.lines)) (range_with_len 0 m) start now n m →
    Ok q ≡ cost_in A n (take n now.table.lines) (n + m) → next ≡ with_cell now n (n + m) q →
    Ok next ≡ and_then (first_costs A n m (take n start.table.lines)) (λ line. Ok (with_line start n line))
costs_loaded A n m start now next q begun inside filling last is =
    let lines : List (List ℚ) = take n start.table.lines in
    let all = filling_ends (cost_step A n lines) (range_with_len 0 m) start now n m filling (sym (length-range_with_len 0 m)) in
    let (own, own_is, now_is) = and_then_ok (each (cost_step A n lines) 0 (range_with_len 0 m))
    (λ own. Ok (with_line start n (own ++ replicate (start.columns - length (range_with_len 0 m)) (whole (pos 0))))) now all in
    let long : length own ≡ m = each_length (cost_step A n lines) 0 (range_with_len 0 m) own own_is ∙ length-range_with_len 0 m in
    let columns : start.columns - length (range_with_len 0 m) ≡ n + 1 =
    (let shape = begun.columns in let count = length-range_with_len 0 m in omega (arith, shape, count)) in
    let line : List ℚ = own ++ replicate (n + 1) (whole (pos 0)) in
    let now_as : now ≡ with_line start n line =
    ok_same now (with_line start n (own ++ replicate (start.columns - length (range_with_len 0 m)) (whole (pos 0)))) now_is
    ∙ ap (λ k. with_line start n (own ++ replicate k (whole (pos 0)))) columns in
    let place : n + m - m ≡ n = omega arith in
    let end : n - n ≡ 0 = omega arith in
    let made : set line (n + m) q ≡ own ++ replicate n (whole (pos 0)) ++ q ∷ [] =
    ap (λ zs. set (own ++ zs) (n + m) q) (sym (replicate_more n (whole (pos 0))))
    ∙ set-append_right own (replicate n (whole (pos 0)) ++ whole (pos 0) ∷ []) m (n + m) q long (omega arith)
    ∙ ap (λ k. own ++ set (replicate n (whole (pos 0)) ++ whole (pos 0) ∷ []) k q) place
    ∙ ap (λ xs. own ++ xs) (set-append_right (replicate n (whole (pos 0))) (whole (pos 0) ∷ []) n n q (length-replicate n (whole (pos 0))) (omega arith)
    ∙ ap (λ k. replicate n (whole (pos 0)) ++ set (whole (pos 0) ∷ []) k q) end)
    ∙ sym (append_assoc own (replicate n (whole (pos 0))) (q ∷ [])) in
    ap Ok (is ∙ ap (λ w. with_cell w n (n + m) q) now_as ∙ cell_written start n (n + m) line q inside ∙ ap (with_line start n) made)
    ∙ ap (λ (r : Result ℚ WideAt). and_then (and_then r (λ value. Ok (own ++ replicate n (whole (pos 0)) ++ value ∷ []))) (λ line. Ok (with_line start n line)))
    (last ∙ ap (λ lines. cost_in A n lines (n + m)) (lines_kept n start now line now_as))
    ∙ ap (λ (numbers : Result (List ℚ) WideAt). and_then (and_then numbers
    (λ own. and_then (cost_in A n lines (n + m)) (λ value. Ok (own ++ replicate n (whole (pos 0)) ++ value ∷ []))))
    (λ line. Ok (with_line start n line))) own_is

-- or refused
pub costs_refused : (A : Arithmetic) (n m : ℕ) (start now : Work) (wide : WideAt) → IsBegun n m start →
    IsFilling (cost_step A n (take n start.table.lines)) (range_with_len 0 m) start now n m →
    Err wide ≡ cost_in A n (take n now.table.lines) (n + m) → first_costs A n m (take n start.table.lines) ≡ Err wide
costs_refused A n m start now wide begun filling last =
    let lines : List (List ℚ) = take n start.table.lines in
    let all = filling_ends (cost_step A n lines) (range_with_len 0 m) start now n m filling (sym (length-range_with_len 0 m)) in
    let (own, own_is, now_is) = and_then_ok (each (cost_step A n lines) 0 (range_with_len 0 m))
    (λ own. Ok (with_line start n (own ++ replicate (start.columns - length (range_with_len 0 m)) (whole (pos 0))))) now all in
    sym (ap (λ (r : Result ℚ WideAt). and_then r (λ value. Ok (own ++ replicate n (whole (pos 0)) ++ value ∷ [])))
    (last ∙ ap (λ lines. cost_in A n lines (n + m)) (lines_kept n start now (line_at now.table n) filling.others))
    ∙ ap (λ (numbers : Result (List ℚ) WideAt). and_then numbers
    (λ own. and_then (cost_in A n lines (n + m)) (λ value. Ok (own ++ replicate n (whole (pos 0)) ++ value ∷ [])))) own_is)

pub costs_stopped : (A : Arithmetic) (n m j : ℕ) (start now : Work) (wide : WideAt) →
    IsFilling (cost_step A n (take n start.table.lines)) (range_with_len 0 m) start now n j → j < m →
    Err wide ≡ cost_in A n (take n now.table.lines) j → first_costs A n m (take n start.table.lines) ≡ Err wide
costs_stopped A n m j start now wide filling low here =
    let lines : List (List ℚ) = take n start.table.lines in
    let column : get_or (range_with_len 0 m) j 0 ≡ j = get_or-range_with_len 0 m j 0 low ∙ zero-add j in
    let refused : each (cost_step A n lines) 0 (range_with_len 0 m) ≡ Err wide =
    filling_refused (cost_step A n lines) (range_with_len 0 m) start now now n j 0 wide filling (rw length-range_with_len low)
    (ap (λ (r : Result ℚ WideAt). and_then r (λ q. Ok (with_cell now n j q)))
    (here ∙ ap (λ lines. cost_in A n lines j) (lines_kept n start now (line_at now.table n) filling.others) ∙ ap (cost_in A n lines) (sym column))) in
    ap (λ (numbers : Result (List ℚ) WideAt). and_then numbers
    (λ own. and_then (cost_in A n lines (n + m)) (λ value. Ok (own ++ replicate n (whole (pos 0)) ++ value ∷ [])))) refused
