-- Rows over the columns that go, with their costs: which points meet them, and what weights make of them.
use Rattle.std.proofs.Common.{◌≡◌, refl, sym, ap, ap₂, ◌∙◌, ℕ, zero, suc, ◌+◌, ◌-ℤ◌, List, [], ◌∷◌, take, drop, length, map, Ok, arith}
use Rattle.std.proofs.lemmas.Int.{ints}
use Rattle.std.proofs.lemmas.List.Elements.{All-nil, All-cons, All-head, All-tail}
use lib.IntN.{ℤ, pos, ◌+ℤ◌, ◌*ℤ◌}
use lib.Signed.{◌<ℤ◌}
use Rattle.pa_ring.specs.Sums.{SameNumbers, dot, number_at, times}
use Rattle.pa_ring.proofs.Integers.{gap, gap_same, ◌·◌, ◌∔◌, <ℤ-≤ℤ}
use Rattle.pa_ring.proofs.IntegerTactics.{by_le, by_ring, reads}
use Rattle.pa_ring.proofs.Sums.{dot_nil, dot-times, dot-times_right, dot_same_right, dot-sum_of, number_at-sum_of, number_at-times}
use Rattle.pa_math.specs.Answers.{and_then}
use Rattle.pa_math.proofs.Answers.{and_then_ok, ok_same}
use Rattle.pa_meaning.specs.Rows.{Row, Point, Meets, MeetsAll, row_at}
use Rattle.pa_meaning.specs.Weights.{combined}
use Rattle.pa_meaning.proofs.Shifting.{drop_number}
use Rattle.pa_row.proofs.Slacks.{slack_exact}
use Rattle.pa_shift.specs.Meant.{ExtendsInFront}
use Rattle.pa_shift.specs.Seen.{AreCosts}
use Rattle.pa_shift.specs.Shifting.{Premises, cost_in, costed_in, costed_row}

-- the row over the columns that go, with its cost as its bound, of any size
abbrev pub priced : Point → Row → Row
priced x row = record { c = drop (length x.p) row.c; b = x.q *ℤ row.b -ℤ dot row.c x.p }

-- ---- costs that are formed
costed_is : (x : Point) (row costed : Row) → Ok costed ≡ costed_row x row → costed ≡ priced x row
costed_is x row costed h =
    let (cost, e, is) = and_then_ok (cost_in x row) (λ cost. Ok (record { c = drop (length x.p) row.c; b = cost })) costed h in
    let same : cost ≡ x.q *ℤ row.b -ℤ dot row.c x.p = slack_exact x.q row.b row.c x.p cost e in
    ok_same costed (record { c = drop (length x.p) row.c; b = cost }) is ∙ ap (λ b. let row : Row = record { c = drop (length x.p) row.c; b = b } in row) same

costs_by : (x : Point) (rows costs : List Row) → Ok costs ≡ costed_in x rows → costs ≡ map (priced x) rows
costs_by x [] costs h = ok_same costs [] h
costs_by x (row ∷ rows) costs h =
    let (first, e, j) = and_then_ok (costed_row x row) (λ first. and_then (costed_in x rows) (λ others. Ok (first ∷ others))) costs h in
    let (others, f, k) = and_then_ok (costed_in x rows) (λ others. Ok (first ∷ others)) costs j in
    ok_same costs (first ∷ others) k ∙ ap₂ ◌∷◌ (costed_is x row first e) (costs_by x rows others f)

pub costs_are : (given : Premises) (costs : List Row) → AreCosts given costs → costs ≡ map (priced given.nominal) given.rows
costs_are given costs h = costs_by given.nominal given.rows costs (sym h)

-- ---- sums over the first columns, and over the others
pub dot_parts : (n : ℕ) (cs zs : List ℤ) → dot cs zs ≡ dot cs (take n zs) +ℤ dot (drop n cs) (drop n zs)
dot_parts zero cs zs = rw (dot_nil cs) (omega (arith, ints))
dot_parts (suc n) [] zs = omega (arith, ints)
dot_parts (suc n) (c ∷ cs) [] = rw (dot_nil (drop n cs)) (omega (arith, ints))
dot_parts (suc n) (c ∷ cs) (z ∷ zs) = ap (λ t. c *ℤ z +ℤ t) (dot_parts n cs zs)
    ∙ by_ring ((c *ℤ z) ∷ dot cs (take n zs) ∷ dot (drop n cs) (drop n zs) ∷ []) (search reads depth 40) tt

-- a row's sum at a point that extends x, by its sum at x and the one over the columns that go
pub front_sum : (x y : Point) (cs : List ℤ) → ExtendsInFront x y
    → x.q *ℤ dot cs y.p ≡ y.q *ℤ dot cs x.p +ℤ x.q *ℤ dot (drop (length x.p) cs) (drop (length x.p) y.p)
front_sum x y cs e =
    let n : ℕ = length x.p in
    let front : x.q *ℤ dot cs (take n y.p) ≡ y.q *ℤ dot cs x.p =
    sym (dot-times_right x.q cs (take n y.p)) ∙ dot_same_right cs (times x.q (take n y.p)) (times y.q x.p) e.agrees ∙ dot-times_right y.q cs x.p in
    ap (λ t. x.q *ℤ t) (dot_parts n cs y.p)
    ∙ by_ring (x.q ∷ dot cs (take n y.p) ∷ dot (drop n cs) (drop n y.p) ∷ []) (search reads depth 40) tt
    ∙ ap (λ t. t +ℤ x.q *ℤ dot (drop n cs) (drop n y.p)) front

-- the point over the columns that go where a point that extends x meets the rows with their costs
abbrev pub behind : Point → Point → Point
behind x y = record { p = times x.q (drop (length x.p) y.p); q = y.q }

pub behind_met : (x y : Point) (row : Row) → pos 0 <ℤ x.q → ExtendsInFront x y → Meets row y → Meets (priced x row) (behind x y)
behind_met x y row up e m =
    let n : ℕ = length x.p in
    let back : ℤ = dot (drop n row.c) (drop n y.p) in
    let sums : x.q *ℤ dot row.c y.p ≡ y.q *ℤ dot row.c x.p +ℤ x.q *ℤ back = front_sum x y row.c e in
    record {
      meets = rw (dot-times_right x.q (drop n row.c) (drop n y.p))
          (by_le (x.q ∷ y.q ∷ dot row.c y.p ∷ dot row.c x.p ∷ back ∷ row.b ∷ []) (<ℤ-≤ℤ up · gap m.meets ∔ gap_same (sym sums)) (search reads depth 40) tt);
    }

pub behind_all : (x y : Point) (rows : List Row) → pos 0 <ℤ x.q → ExtendsInFront x y → MeetsAll rows y → MeetsAll (map (priced x) rows) (behind x y)
behind_all x y [] up e m = All-nil (λ r. Meets r (behind x y))
behind_all x y (row ∷ rows) up e m =
    All-cons (λ r. Meets r (behind x y)) (priced x row) (map (priced x) rows) (behind_met x y row up e (All-head (λ r. Meets r y) row rows m))
    (behind_all x y rows up e (All-tail (λ r. Meets r y) row rows m))

-- ---- what weights make of them
priced_at : (x : Point) (rows : List Row) (i : ℕ) → (row_at (map (priced x) rows) i).b ≡ x.q *ℤ (row_at rows i).b -ℤ dot (row_at rows i).c x.p
priced_at x [] i = by_ring (x.q ∷ []) (search reads depth 40) tt
priced_at x (row ∷ rows) zero = refl
priced_at x (row ∷ rows) (suc i) = priced_at x rows i

number_priced : (x : Point) (rows : List Row) (i k : ℕ)
    → number_at (row_at (map (priced x) rows) i).c k ≡ number_at (row_at rows i).c (k + length x.p)
number_priced x [] i k = refl
number_priced x (row ∷ rows) zero k = drop_number (length x.p) k row.c
number_priced x (row ∷ rows) (suc i) k = number_priced x rows i k

pub bound_priced : (x : Point) (rows : List Row) (parts : List (ℕ × ℤ))
    → (combined parts (map (priced x) rows)).b ≡ x.q *ℤ (combined parts rows).b -ℤ dot (combined parts rows).c x.p
bound_priced x rows [] = by_ring (x.q ∷ []) (search reads depth 40) tt
bound_priced x rows (part ∷ parts) =
    let r : Row = row_at rows part.0 in
    let s : Row = combined parts rows in
    rw (priced_at x rows part.0, bound_priced x rows parts, dot-sum_of (times part.1 r.c) s.c x.p, dot-times part.1 r.c x.p)
    (by_ring (x.q ∷ part.1 ∷ r.b ∷ s.b ∷ dot r.c x.p ∷ dot s.c x.p ∷ []) (search reads depth 40) tt)

combined_number : (x : Point) (rows : List Row) (parts : List (ℕ × ℤ)) (k : ℕ)
    → number_at (combined parts (map (priced x) rows)).c k ≡ number_at (combined parts rows).c (k + length x.p)
combined_number x rows [] k = refl
combined_number x rows (part ∷ parts) k =
    let p : Row = row_at (map (priced x) rows) part.0 in
    let r : Row = row_at rows part.0 in
    number_at-sum_of (times part.1 p.c) (combined parts (map (priced x) rows)).c k
    ∙ ap₂ ◌+ℤ◌ (number_at-times part.1 p.c k ∙ ap (λ t. part.1 *ℤ t) (number_priced x rows part.0 k)
    ∙ sym (number_at-times part.1 r.c (k + length x.p))) (combined_number x rows parts k)
    ∙ sym (number_at-sum_of (times part.1 r.c) (combined parts rows).c (k + length x.p))

pub combined_priced : (x : Point) (rows : List Row) (parts : List (ℕ × ℤ))
    → SameNumbers (combined parts (map (priced x) rows)).c (drop (length x.p) (combined parts rows).c)
combined_priced x rows parts k = combined_number x rows parts k ∙ sym (drop_number (length x.p) k (combined parts rows).c)
