-- Rows and goals over a contract's ports: their columns, and how many rows there are.
use Rattle.std.proofs.Common.{Bool, IfOk, Result, Ok, Err, ◌≡◌, ◌∙◌, ap, ap₂, sym, refl, subst, ◌+◌, ◌≤◌, cond, List, [], ◌∷◌, ◌++◌, length, map, All, ℤ, arith}
use Rattle.std.specs.List.{AllByRecursion}
use Rattle.std.specs.Str.{bytes_eq}
use Rattle.std.proofs.lemmas.List.{length-append, length-map}
use Rattle.std.proofs.lemmas.List.Elements.{All-nil, All-cons, All-append, recursion_from_All}
use Rattle.pa_math.proofs.Unions.{All-implied}
use Rattle.pa_frac.specs.Width.{Fits}
use Rattle.pa_meaning.specs.Rows.{Row}
use Rattle.pa_meaning.specs.Contracts.{Name, Contract, ports, coefficient_at, over_names}
use Rattle.pa_meaning.specs.Composition.{assumptions_over}
use Rattle.pa_meaning.specs.Bounds.{Goal}
use Rattle.pa_meaning.proofs.Places.{coefficient_at-cons, coefficient_at-no_numbers}
use Rattle.pa_contract.specs.WellFormed.{IsWellFormed}
use Rattle.pa_contract.specs.Merge.{row_count}
use Rattle.pa_grammar.specs.Plains.{IsNarrowLinear}
use Rattle.pa_holds.specs.Bounded.{all_rows, goal_row}
use Rattle.pa_refine.specs.Refining.{lists_of}
use Rattle.pa_refine.specs.Bounding.{Asked, asked_of}
use Rattle.pa_refine.specs.Seen.{HaveColumns, CanAsk}

-- ---- a row over the first names has nothing at the others
coefficient_at-front : (names others : List Name) (cs : List ℤ) (w : Name) → length cs ≤ length names
    → coefficient_at (names ++ others) cs w ≡ coefficient_at names cs w
coefficient_at-front [] others [] w h = coefficient_at-no_numbers others w ∙ sym (coefficient_at-no_numbers [] w)
coefficient_at-front [] others (c ∷ cs) w h = absurd (omega arith)
coefficient_at-front (n ∷ ns) others [] w h = coefficient_at-no_numbers (n ∷ (ns ++ others)) w ∙ sym (coefficient_at-no_numbers (n ∷ ns) w)
coefficient_at-front (n ∷ ns) others (c ∷ cs) w h =
    coefficient_at-cons n (ns ++ others) c cs w ∙ ap (cond (bytes_eq w n) c) (coefficient_at-front ns others cs w (omega arith))
    ∙ sym (coefficient_at-cons n ns c cs w)

over_front : (names others wider : List Name) (row : Row) → length row.c ≤ length names → over_names (names ++ others) wider row ≡ over_names names wider row
over_front names others wider row h = λ i. record { c = map (λ w. coefficient_at-front names others row.c w h i) wider; b = row.b }

map-agree : {A B : Type 0} (f g : A → B) (xs : List A) → AllByRecursion (λ x. f x ≡ g x) xs → map f xs ≡ map g xs
map-agree f g [] h = refl
map-agree f g (x ∷ xs) h = ap₂ ◌∷◌ h.0 (map-agree f g xs h.1)

-- the assumptions, read over all ports, are those over the inputs
pub assumptions_from : (c : Contract) (wider : List Name) → IsWellFormed c → map (over_names (ports c) wider) c.assumptions ≡ assumptions_over wider c
assumptions_from c wider w = map-agree (over_names (ports c) wider) (over_names c.inputs wider) c.assumptions
    (All-implied (λ r. length r.c ≡ length c.inputs) (λ r. over_names (ports c) wider r ≡ over_names c.inputs wider r)
    (λ r h. over_front c.inputs c.outputs wider r (omega (arith, h))) c.assumptions
    (recursion_from_All (λ r. length r.c ≡ length c.inputs) c.assumptions w.assumptions.columns_fit))

-- ---- columns
moved_columns : (names wider : List Name) (rows : List Row) → All (λ (r : Row). length r.c ≡ length wider) (map (over_names names wider) rows)
moved_columns names wider [] = All-nil (λ (r : Row). length r.c ≡ length wider)
moved_columns names wider (r ∷ rows) =
    All-cons (λ (r : Row). length r.c ≡ length wider) (over_names names wider r) (map (over_names names wider) rows)
    (length-map wider (coefficient_at names r.c)) (moved_columns names wider rows)

-- the rows of a refinement
pub are_over : (c other : Contract) → IsWellFormed c → row_count c + row_count other ≤ 4096 → HaveColumns (length (ports c)) (lists_of c other)
are_over c other w few = record {
  premises = All-append (λ (r : Row). length r.c ≡ length (ports c)) (assumptions_over (ports c) other) c.guarantees
      (moved_columns other.inputs (ports c) other.assumptions) w.guarantees.columns_fit;
  assumptions = moved_columns c.inputs (ports c) c.assumptions;
  guarantees = moved_columns (ports other) (ports c) other.guarantees;
  assumed = omega (arith, length-append (assumptions_over (ports c) other) c.guarantees, length-map other.assumptions (over_names other.inputs (ports c)));
  few = omega (arith, few, length-append (assumptions_over (ports c) other) c.guarantees, length-map other.assumptions (over_names other.inputs (ports c)));
  few_rows = omega (arith, few, length-map c.assumptions (over_names c.inputs (ports c)), length-map other.guarantees (over_names (ports other) (ports c)));
}

-- the rows and the goal of a bound
pub can_ask : (c : Contract) (goal : Goal) (least : Bool) → IsWellFormed c → IsNarrowLinear goal → row_count c ≤ 4096 → All (Fits 126) (goal_row c goal)
    → CanAsk (asked_of c goal least)
can_ask c goal least w g few narrow =
    let same : length (ports c) ≡ length (goal_row c goal) = sym (length-map (ports c) (coefficient_at goal.names goal.c)) in
    record {
      columns = subst (λ n. All (λ (r : Row). length r.c ≡ n) (all_rows c)) same
          (All-append (λ (r : Row). length r.c ≡ length (ports c)) (assumptions_over (ports c) c) c.guarantees
          (moved_columns c.inputs (ports c) c.assumptions) w.guarantees.columns_fit);
      few = omega (arith, few, length-append (assumptions_over (ports c) c) c.guarantees, length-map c.assumptions (over_names c.inputs (ports c)));
      short = omega (arith, same, w.few);
      narrow = narrow;
      constant = g.constant;
      denominator = g.denominator;
      positive = g.positive;
    }

pub asked_can : {E : Type 0} (c : Contract) (goal : Goal) (least : Bool) (result : Result Asked E) → IsWellFormed c → IsNarrowLinear goal → row_count c ≤ 4096
    → IfOk result (λ asked. asked ≡ asked_of c goal least) → IfOk result (λ (asked : Asked). All (Fits 126) asked.goals) → IfOk result CanAsk
asked_can c goal least (Err e) w g few value narrow = tt
asked_can c goal least (Ok asked) w g few value narrow =
    subst CanAsk (sym value) (can_ask c goal least w g few (subst (λ (a : Asked). All (Fits 126) a.goals) value narrow))

-- the rows of a bound have the goal's columns
pub goal_columns : (c : Contract) (goal : Goal) → IsWellFormed c → All (λ (r : Row). length r.c ≡ length (goal_row c goal)) (all_rows c)
goal_columns c goal w =
    subst (λ n. All (λ (r : Row). length r.c ≡ n) (all_rows c)) (sym (length-map (ports c) (coefficient_at goal.names goal.c)))
    (All-append (λ (r : Row). length r.c ≡ length (ports c)) (assumptions_over (ports c) c) c.guarantees
    (moved_columns c.inputs (ports c) c.assumptions) w.guarantees.columns_fit)
