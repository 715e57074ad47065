-- What stands in the tableau that a problem is loaded into.
use Rattle.std.proofs.Common.{◌≡◌, ℕ, suc, ◌<◌, ◌≤◌, ◌+◌, ◌-◌, ℤ, pos, List, [], ◌∷◌, ◌++◌, length, get_or, replicate, Ok, refl, sym, ap, ap₂, ◌∙◌, arith}
use Rattle.std.specs.List.{range_with_len}
use Rattle.std.proofs.lemmas.List.{get_or_append_left, get_or_past, length-append, length-map}
use Rattle.std.proofs.Math.Seq.{get_or-append_right}
use Rattle.pa_ring.specs.Sums as whole_numbers
use Rattle.pa_math.specs.Answers.{and_then}
use Rattle.pa_math.specs.Rational.{ℚ, den, whole, ◌+ℚ◌}
use Rattle.pa_math.proofs.RationalTactics.{by_ring, reads}
use Rattle.pa_frac.specs.Operations.{fraction_in}
use Rattle.pa_frac.proofs.Width.{exact_value}
use Rattle.pa_row.proofs.Dots.{and_then_ok}
use Rattle.pa_tableau.specs.Arithmetic.{Arithmetic, at_width, each}
use Rattle.pa_tableau.specs.Tableau.{Tableau, line_at, number_at, told_at}
use Rattle.pa_tableau.proofs.Walks.{ok_same}
use Rattle.pa_replay.specs.Problem.{Problem, bounds, first_costs, line_numbers, loaded, loaded_line, loaded_numbers, running_sum, turned_number, unit_numbers}
use Rattle.pa_replay.proofs.Sums.{total, total_same}
use Rattle.pa_replay.proofs.Bridges.{IsSound, each_at, each_length, told_ok}
use Rattle.pa_replay.proofs.LoadSteps.{after_costs, line_step, tableau_of}
use Rattle.pa_replay.proofs.Weighted.{total_split}

-- a fraction that is not refused is the number
abbrev pub IsFaithful : Arithmetic → Type 0
IsFaithful A = (x z : ℚ) → Ok z ≡ A.fraction x → z ≡ x

pub at_width_faithful : (w : ℕ) → IsFaithful (at_width w)
unfolding fraction_in
at_width_faithful w x z h = exact_value w (x.num ∷ den x ∷ []) z x h

-- ---- what it is made of
pub record IsLoaded (A : Arithmetic) (p : Problem) (t : Tableau) : Type 0 where
  pub lines : List (List ℚ)
  pub costs : List ℚ
  pub first : List ℚ
  pub lines_are : Ok lines ≡ each (line_step A p) 0 (range_with_len 0 (length p.target))
  pub costs_are : Ok costs ≡ loaded_numbers A (length p.target + 1) (bounds p)
  pub first_is : Ok first ≡ first_costs A (length p.target) (length p.rows) lines
  pub table : t ≡ tableau_of p lines costs first

pub loaded_parts : (A : Arithmetic) (p : Problem) (t : Tableau) → Ok t ≡ loaded A p → IsLoaded A p t
loaded_parts A p t h =
    let n : ℕ = length p.target in
    let (lines, lines_are, rest) = and_then_ok (each (line_step A p) 0 (range_with_len 0 n))
    (λ lines. after_costs A p lines (loaded_numbers A (n + 1) (bounds p))) t h in
    let (costs, costs_are, last) = and_then_ok (loaded_numbers A (n + 1) (bounds p))
    (λ costs. and_then (first_costs A n (length p.rows) lines) (λ first. Ok (tableau_of p lines costs first))) t rest in
    let (first, first_is, made) = and_then_ok (first_costs A n (length p.rows) lines) (λ first. Ok (tableau_of p lines costs first)) t last in
    record {
      lines = lines;
      costs = costs;
      first = first;
      lines_are = lines_are;
      costs_are = costs_are;
      first_is = first_is;
      table = ok_same t
          (tableau_of p lines costs first) made;
    }

-- the numbers that a line begins with
pub numbers_at : (A : Arithmetic) (row : ℕ) (numbers : List ℤ) (cells : List ℚ) → IsFaithful A → Ok cells ≡ loaded_numbers A row numbers → (j : ℕ) →
    j < length numbers → number_at cells j ≡ whole (get_or numbers j (pos 0))
numbers_at A row numbers cells f h j low =
    f (whole (get_or numbers j (pos 0))) (number_at cells j)
    (told_ok 0 row (0 + j) (A.fraction (whole (get_or numbers j (pos 0)))) (number_at cells j)
    (each_at (λ j z. told_at 0 row j (A.fraction (whole z))) 0 numbers cells h j (pos 0) (whole (pos 0)) low))

-- ---- a line
pub record IsLine (A : Arithmetic) (p : Problem) (k : ℕ) (line : List ℚ) : Type 0 where
  pub own : List ℚ
  pub value : ℚ
  pub own_is : Ok own ≡ loaded_numbers A k (line_numbers p k)
  pub long : length own ≡ length p.rows
  pub value_is : value ≡ whole (turned_number p.target k (whole_numbers.number_at p.target k))
  pub line_is : line ≡ own ++ unit_numbers (length p.target) k ++ value ∷ []

pub line_parts : (A : Arithmetic) (p : Problem) (k : ℕ) (line : List ℚ) → IsFaithful A → Ok line ≡ loaded_line A p k → IsLine A p k line
line_parts A p k line f h =
    let n : ℕ = length p.target in
    let q : ℚ = whole (turned_number p.target k (whole_numbers.number_at p.target k)) in
    let (own, own_is, rest) = and_then_ok (loaded_numbers A k (line_numbers p k))
    (λ own. and_then (told_at 0 k (n + length p.rows) (A.fraction q)) (λ value. Ok (own ++ unit_numbers n k ++ value ∷ []))) line h in
    let (value, value_is, made) = and_then_ok (told_at 0 k (n + length p.rows) (A.fraction q))
    (λ value. Ok (own ++ unit_numbers n k ++ value ∷ [])) line rest in
    record {
      own = own;
      value = value;
      own_is = own_is;
      long = each_length (λ j z. told_at 0 k j (A.fraction (whole z))) 0 (line_numbers p k) own own_is ∙ rw length-map refl;
      value_is = f q value (told_ok 0 k (n + length p.rows) (A.fraction q) value value_is);
      line_is = ok_same line (own ++ unit_numbers n k ++ value ∷ []) made;
    }

-- a number among the own ones, the units, the value, and past the end
pub place_own : (own units : List ℚ) (value : ℚ) (m j : ℕ) → length own ≡ m → j < m → number_at (own ++ units ++ value ∷ []) j ≡ number_at own j
place_own own units value m j long low =
    let inside : j < length (own ++ units) = rw length-append (omega (arith, long, low)) in
    get_or_append_left (own ++ units) (value ∷ []) (whole (pos 0)) j inside ∙ get_or_append_left own units (whole (pos 0)) j (omega (arith, long, low))

pub place_unit : (own units : List ℚ) (value : ℚ) (n m i : ℕ) → length own ≡ m → length units ≡ n → i < n →
    number_at (own ++ units ++ value ∷ []) (m + i) ≡ number_at units i
place_unit own units value n m i long count low =
    let inside : m + i < length (own ++ units) = rw length-append (omega (arith, long, count, low)) in
    let place : m + i - length own ≡ i = omega (arith, long) in
    get_or_append_left (own ++ units) (value ∷ []) (whole (pos 0)) (m + i) inside
    ∙ get_or-append_right own units (m + i) (whole (pos 0)) (omega (arith, long)) ∙ ap (number_at units) place

pub place_value : (own units : List ℚ) (value : ℚ) (n m : ℕ) → length own ≡ m → length units ≡ n → number_at (own ++ units ++ value ∷ []) (n + m) ≡ value
place_value own units value n m long count =
    let all : length (own ++ units) ≡ m + n = rw length-append (omega (arith, long, count)) in
    let place : n + m - length (own ++ units) ≡ 0 = omega (arith, all) in
    get_or-append_right (own ++ units) (value ∷ []) (n + m) (whole (pos 0)) (omega (arith, all)) ∙ ap (number_at (value ∷ [])) place

pub place_past : (own units : List ℚ) (value : ℚ) (n m j : ℕ) → length own ≡ m → length units ≡ n → n + m < j →
    number_at (own ++ units ++ value ∷ []) j ≡ whole (pos 0)
place_past own units value n m j long count past =
    let all : length (own ++ units) ≡ m + n = rw length-append (omega (arith, long, count)) in
    let end : length (own ++ units ++ value ∷ []) ≤ j = rw (length-append, length-append) (omega (arith, long, count, past)) in
    get_or_past (own ++ units ++ value ∷ []) j (whole (pos 0)) end

-- the lines among the tableau's
pub line_of_table : (p : Problem) (lines : List (List ℚ)) (costs first : List ℚ) (k : ℕ) → length lines ≡ length p.target → k < length p.target →
    line_at (tableau_of p lines costs first) k ≡ get_or lines k []
line_of_table p lines costs first k count low = get_or_append_left lines (first ∷ (costs ++ replicate (length p.target + 1) (whole (pos 0))) ∷ []) [] k
    (omega (arith, count, low))

pub cost_row : (p : Problem) (lines : List (List ℚ)) (costs first : List ℚ) (i : ℕ) → length lines ≡ length p.target →
    line_at (tableau_of p lines costs first) (length p.target + i) ≡ get_or (first ∷ (costs ++ replicate (length p.target + 1) (whole (pos 0))) ∷ []) i []
cost_row p lines costs first i count =
    let place : length p.target + i - length lines ≡ i = omega (arith, count) in
    get_or-append_right lines (first ∷ (costs ++ replicate (length p.target + 1) (whole (pos 0))) ∷ []) (length p.target + i) [] (omega (arith, count))
    ∙ ap (λ k. get_or (first ∷ (costs ++ replicate (length p.target + 1) (whole (pos 0))) ∷ []) k []) place

-- ---- the running sum
pub running_total : (A : Arithmetic) (row column : ℕ) (sum s : ℚ) (lines : List (List ℚ)) → IsSound A → Ok s ≡ running_sum A row column sum lines →
    s ≡ sum +ℚ total (length lines) (λ k. number_at (get_or lines k []) column)
running_total A row column sum s [] sound h = ok_same s sum h ∙ by_ring (sum ∷ []) (search reads depth 40) tt
running_total A row column sum s (line ∷ lines) sound h =
    let (next, first, rest) = and_then_ok (told_at 0 row column (A.sum sum (number_at line column))) (λ next. running_sum A row column next lines) s h in
    let more : s ≡ next +ℚ total (length lines) (λ k. number_at (get_or lines k []) column) = running_total A row column next s lines sound rest in
    let next_is : next ≡ sum +ℚ number_at line column = sound.sum sum (number_at line column) next
    (told_ok 0 row column (A.sum sum (number_at line column)) next first) in
    let one : suc (length lines) ≡ 1 + length lines = omega arith in
    let all : total (suc (length lines)) (λ k. number_at (get_or (line ∷ lines) k []) column) ≡ total 1
    (λ k. number_at (get_or (line ∷ lines) k []) column) +ℚ total (length lines) (λ k. number_at (get_or (line ∷ lines) (1 + k) []) column) =
    ap (λ k. total k (λ k. number_at (get_or (line ∷ lines) k []) column)) one
    ∙ total_split 1 (length lines) (λ k. number_at (get_or (line ∷ lines) k []) column) in
    let same : total (length lines) (λ k. number_at (get_or (line ∷ lines) (1 + k) []) column) ≡ total (length lines)
    (λ k. number_at (get_or lines k []) column) =
    total_same (length lines) (λ k. number_at (get_or (line ∷ lines) (1 + k) []) column) (λ k. number_at (get_or lines k []) column)
    (λ k low. (let step : 1 + k ≡ suc k = omega arith in ap (λ k. number_at (get_or (line ∷ lines) k []) column) step)) in
    more ∙ ap₂ (λ next t. next +ℚ t) next_is (sym same)
    ∙ by_ring (sum ∷ number_at line column ∷ total (length lines) (λ k. number_at (get_or (line ∷ lines) (1 + k) []) column) ∷ []) (search reads depth 40) tt
    ∙ ap (λ t. sum +ℚ t) (sym all)
