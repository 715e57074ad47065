-- A run at a narrow width that is not refused is the run at each greater width.
use Rattle.std.proofs.Common.{◌≡◌, ◌≤◌, ◌+◌, ℕ, ℤ, List, [], ◌∷◌, ◌++◌, length, replicate, Result, Ok, Err, refl, sym, ap, ◌∙◌, pos}
use Rattle.std.specs.List.{range_with_len}
use lib.IntN.{◌*ℤ◌}
use Rattle.pa_math.specs.Answers.{and_then}
use Rattle.pa_math.specs.Rational.{ℚ, den, whole, neg_ℚ, ◌+ℚ◌, ◌-ℚ◌, ◌*ℚ◌, reciprocal}
use Rattle.pa_math.specs.RationalOrder.{compare_ℚ}
use Rattle.pa_frac.specs.declared.wide.Wide.{Wide}
use Rattle.pa_frac.specs.Width.{exact_or_wide}
use Rattle.pa_frac.specs.Operations.{fraction_in, sum_in, difference_in, product_in, comparison_in, scaled_num, common_den, crossed_num, crossed_den}
use Rattle.pa_frac.proofs.Width.{exact_value, wide_below}
use Rattle.pa_tableau.specs.Arithmetic.{Arithmetic, at_width, each}
use Rattle.pa_tableau.specs.Tableau.{number_at, told_at}
use Rattle.pa_replay.specs.Problem.{Problem, bounds, cost_in, first_costs, line_numbers, loaded, loaded_line}
use Rattle.pa_replay.specs.Problem.{loaded_numbers, running_sum, turned_number, unit_numbers}
use Rattle.pa_ring.specs.Sums as problem
use Rattle.pa_replay.specs.Replay.{Ended, replay, run_from}
use Rattle.pa_replay.proofs.LoadSteps.{tableau_of}
use Rattle.pa_replay.proofs.Widths.{Agrees, Gives, each_gives, run_gives, same_gives, then_gives, told_gives}

-- what a width gives, a greater one gives
wider : {A : Type 0} (v w : ℕ) (named : List ℤ) (x z : A) → v ≤ w → Ok z ≡ exact_or_wide v named x → Ok z ≡ exact_or_wide w named x
wider {A} v w named x z h e = by_answer (exact_or_wide w named x) refl
  where
    by_answer : (r : Result A Wide) → exact_or_wide w named x ≡ r → Ok z ≡ exact_or_wide w named x
    by_answer (Ok y) is = ap Ok (exact_value v named z x e ∙ sym (exact_value w named y x (sym is))) ∙ sym is
    by_answer (Err wide) is = absurd (let none = wide_below v w named x wide h (sym is) in cc (e, none))

pub widths_agree : (v w : ℕ) → v ≤ w → Agrees (at_width v) (at_width w)
unfolding fraction_in sum_in difference_in product_in comparison_in
widths_agree v w h = record {
  fraction = λ x z. wider v w (x.num ∷ den x ∷ []) x z h;
  sum = λ x y z. wider v w (scaled_num x y ∷ scaled_num y x ∷ common_den x y ∷ (x +ℚ y).num ∷ []) (x +ℚ y) z h;
  difference = λ x y z. wider v w (scaled_num x y ∷ scaled_num y x ∷ common_den x y ∷ (x -ℚ y).num ∷ []) (x -ℚ y) z h;
  product = λ x y z. wider v w ((crossed_num x y *ℤ crossed_num y x) ∷ (crossed_den y x *ℤ crossed_den x y) ∷ []) (x *ℚ y) z h;
  quotient = λ x y z. wider v w ((crossed_num x (reciprocal y) *ℤ crossed_num (reciprocal y) x) ∷
      (crossed_den (reciprocal y) x *ℤ crossed_den x (reciprocal y)) ∷ []) (x *ℚ reciprocal y) z h;
  comparison = λ x y o. wider v w (scaled_num x y ∷ scaled_num y x ∷ []) (compare_ℚ x y) o h;
}

-- ---- the load
numbers_gives : (A B : Arithmetic) (row : ℕ) (numbers : List ℤ) → Agrees A B → Gives (loaded_numbers A row numbers) (loaded_numbers B row numbers)
numbers_gives A B row numbers a =
    each_gives (λ j z. told_at 0 row j (A.fraction (whole z))) (λ j z. told_at 0 row j (B.fraction (whole z))) 0 numbers
    (λ j z. told_gives 0 row j (A.fraction (whole z)) (B.fraction (whole z)) (a.fraction (whole z)))

line_gives : (A B : Arithmetic) (p : Problem) (i : ℕ) → Agrees A B → Gives (loaded_line A p i) (loaded_line B p i)
line_gives A B p i a =
    let n : ℕ = length p.target in
    let value : ℚ = whole (turned_number p.target i (problem.number_at p.target i)) in
    then_gives (loaded_numbers A i (line_numbers p i)) (loaded_numbers B i (line_numbers p i))
    (λ own. and_then (told_at 0 i (n + length p.rows) (A.fraction value)) (λ value. Ok (own ++ unit_numbers n i ++ value ∷ [])))
    (λ own. and_then (told_at 0 i (n + length p.rows) (B.fraction value)) (λ value. Ok (own ++ unit_numbers n i ++ value ∷ [])))
    (numbers_gives A B i (line_numbers p i) a)
    (λ own. then_gives (told_at 0 i (n + length p.rows) (A.fraction value)) (told_at 0 i (n + length p.rows) (B.fraction value))
    (λ value. Ok (own ++ unit_numbers n i ++ value ∷ [])) (λ value. Ok (own ++ unit_numbers n i ++ value ∷ []))
    (told_gives 0 i (n + length p.rows) (A.fraction value) (B.fraction value) (a.fraction value))
    (λ value. same_gives (Ok (own ++ unit_numbers n i ++ value ∷ []))))

sum_gives : (A B : Arithmetic) (row column : ℕ) (sum : ℚ) (lines : List (List ℚ)) → Agrees A B →
    Gives (running_sum A row column sum lines) (running_sum B row column sum lines)
sum_gives A B row column sum [] a = same_gives (Ok sum)
sum_gives A B row column sum (line ∷ lines) a =
    then_gives (told_at 0 row column (A.sum sum (number_at line column))) (told_at 0 row column (B.sum sum (number_at line column)))
    (λ next. running_sum A row column next lines) (λ next. running_sum B row column next lines)
    (told_gives 0 row column (A.sum sum (number_at line column)) (B.sum sum (number_at line column)) (a.sum sum (number_at line column)))
    (λ next. sum_gives A B row column next lines a)

cost_gives : (A B : Arithmetic) (n : ℕ) (lines : List (List ℚ)) (j : ℕ) → Agrees A B → Gives (cost_in A n lines j) (cost_in B n lines j)
cost_gives A B n lines j a =
    then_gives (running_sum A n j (whole (pos 0)) lines) (running_sum B n j (whole (pos 0)) lines) (λ sum. Ok (neg_ℚ sum)) (λ sum. Ok (neg_ℚ sum))
    (sum_gives A B n j (whole (pos 0)) lines a) (λ sum. same_gives (Ok (neg_ℚ sum)))

first_gives : (A B : Arithmetic) (n m : ℕ) (lines : List (List ℚ)) → Agrees A B → Gives (first_costs A n m lines) (first_costs B n m lines)
first_gives A B n m lines a =
    then_gives (each (λ i j. cost_in A n lines j) 0 (range_with_len 0 m)) (each (λ i j. cost_in B n lines j) 0 (range_with_len 0 m))
    (λ own. and_then (cost_in A n lines (n + m)) (λ value. Ok (own ++ replicate n (whole (pos 0)) ++ value ∷ [])))
    (λ own. and_then (cost_in B n lines (n + m)) (λ value. Ok (own ++ replicate n (whole (pos 0)) ++ value ∷ [])))
    (each_gives (λ i j. cost_in A n lines j) (λ i j. cost_in B n lines j) 0 (range_with_len 0 m) (λ i j. cost_gives A B n lines j a))
    (λ own. then_gives (cost_in A n lines (n + m)) (cost_in B n lines (n + m)) (λ value. Ok (own ++ replicate n (whole (pos 0)) ++ value ∷ []))
    (λ value. Ok (own ++ replicate n (whole (pos 0)) ++ value ∷ []))
    (cost_gives A B n lines (n + m) a) (λ value. same_gives (Ok (own ++ replicate n (whole (pos 0)) ++ value ∷ []))))

pub loaded_gives : (A B : Arithmetic) (p : Problem) → Agrees A B → Gives (loaded A p) (loaded B p)
loaded_gives A B p a =
    let n : ℕ = length p.target in
    let m : ℕ = length p.rows in
    then_gives (each (λ i row. loaded_line A p i) 0 (range_with_len 0 n)) (each (λ i row. loaded_line B p i) 0 (range_with_len 0 n))
    (λ lines. and_then (loaded_numbers A (n + 1) (bounds p)) (λ costs. and_then (first_costs A n m lines) (λ first. Ok (tableau_of p lines costs first))))
    (λ lines. and_then (loaded_numbers B (n + 1) (bounds p)) (λ costs. and_then (first_costs B n m lines) (λ first. Ok (tableau_of p lines costs first))))
    (each_gives (λ i row. loaded_line A p i) (λ i row. loaded_line B p i) 0 (range_with_len 0 n) (λ i row. line_gives A B p i a))
    (λ lines. then_gives (loaded_numbers A (n + 1) (bounds p)) (loaded_numbers B (n + 1) (bounds p))
    (λ costs. and_then (first_costs A n m lines) (λ first. Ok (tableau_of p lines costs first)))
    (λ costs. and_then (first_costs B n m lines) (λ first. Ok (tableau_of p lines costs first)))
    (numbers_gives A B (n + 1) (bounds p) a)
    (λ costs. then_gives (first_costs A n m lines) (first_costs B n m lines) (λ first. Ok (tableau_of p lines costs first))
    (λ first. Ok (tableau_of p lines costs first))
    (first_gives A B n m lines a) (λ first. same_gives (Ok (tableau_of p lines costs first)))))

-- ---- the whole replay
pub replay_gives : (A B : Arithmetic) (p : Problem) (most : ℕ) → Agrees A B → Gives (replay A p most) (replay B p most)
replay_gives A B p most a =
    then_gives (loaded A p) (loaded B p) (run_from A (length p.target) (length p.rows) most) (run_from B (length p.target) (length p.rows) most)
    (loaded_gives A B p a) (λ t. run_gives A B (length p.target) (length p.rows) most t a)

-- a run without a fault at a width has none at a greater one, and ends there in the same way with the same tableau
pub replay_wider : (v w : ℕ) (p : Problem) (most : ℕ) (ended : Ended) → v ≤ w → Ok ended ≡ replay (at_width v) p most → Ok ended ≡ replay (at_width w) p most
replay_wider v w p most ended h e = replay_gives (at_width v) (at_width w) p most (widths_agree v w h) ended e
