-- Weights that are read from a tableau, as sums: in fractions, and in whole numbers over their denominator.
use Rattle.std.proofs.Common.{◌≡◌, ℕ, zero, suc, ◌<◌, ◌+◌, ◌==◌, ◌⊎◌, inl, inr, Bool, true, false, if◌then◌else◌, ℤ, pos}
use Rattle.std.proofs.Common.{Option, Some, None, List, [], ◌∷◌, ◌++◌, map, flat_map, refl, sym, ap, ap₂, subst, ◌∙◌, arith}
use Rattle.std.specs.List.{range_with_len}
use Rattle.std.proofs.lemmas.Int.{ints}
use lib.IntN.{◌*ℤ◌, ◌+ℤ◌}
use lib.Signed.{◌<ℤ◌}
use Rattle.pa_ring.specs.Sums as whole_numbers
use Rattle.pa_ring.proofs.Sums.{number_at-sum_of, number_at-times}
use Rattle.pa_math.specs.Answers.{given}
use Rattle.pa_math.specs.Rational.{ℚ, den, over, whole, ◌+ℚ◌, ◌-ℚ◌, ◌*ℚ◌}
use Rattle.pa_math.proofs.Rationals.{over_parts, ratio_over, ratio_product, ratio_whole, same_from_ratios, whole-*ℤ, whole-+ℤ, den_positive}
use Rattle.pa_math.proofs.RationalTactics.{by_ring, reads}
use Rattle.pa_frac.specs.Operations.{is_zero}
use Rattle.pa_frac.proofs.Signs.{zero_value}
use Rattle.pa_meaning.specs.Rows.{Row}
use Rattle.pa_meaning.specs.Weights.{combined, row_at}
use Rattle.pa_row.specs.Fractions.{AreOver, WeightPart, fraction_of, placed}
use Rattle.pa_tableau.specs.Tableau.{Tableau, cell}
use Rattle.pa_replay.specs.Readings.{line_of, weight_at, weights_read}
use Rattle.pa_replay.specs.Replay.{basic, first_from}
use Rattle.pa_replay.proofs.Sums.{total, total_same, total_unit, total_zeros, unit, unit_here, unit_other}
use Rattle.pa_replay.proofs.Runs.{first_absent, first_present}
use Rattle.pa_replay.proofs.Theorems.{solution}
use Rattle.pa_replay.proofs.Weighted.{total_split}

-- the sum of the weights, each times a number of its place
abbrev pub parts_sum : (ℕ → ℚ) → List WeightPart → ℚ
parts_sum f [] = whole (pos 0)
parts_sum f (part ∷ parts) = over part.1 part.2 *ℚ f part.0 +ℚ parts_sum f parts

parts_append : (f : ℕ → ℚ) (xs ys : List WeightPart) → parts_sum f (xs ++ ys) ≡ parts_sum f xs +ℚ parts_sum f ys
parts_append f [] ys = by_ring (parts_sum f ys ∷ []) (search reads depth 40) tt
parts_append f (x ∷ xs) ys =
    ap (λ s. over x.1 x.2 *ℚ f x.0 +ℚ s) (parts_append f xs ys)
    ∙ by_ring (over x.1 x.2 ∷ f x.0 ∷ parts_sum f xs ∷ parts_sum f ys ∷ []) (search reads depth 40) tt

pub part_sum : (f : ℕ → ℚ) (j : ℕ) (q : ℚ) → parts_sum f (weight_at j q) ≡ q *ℚ f j
part_sum f j q = by_zero (is_zero q) refl
  where
    by_zero : (b : Bool) → is_zero q ≡ b → parts_sum f (if b then [] else (j, q.num, den q) ∷ []) ≡ q *ℚ f j
    by_zero true e = sym (ap (λ q. q *ℚ f j) (zero_value q e) ∙ by_ring (f j ∷ []) (search reads depth 40) tt)
    by_zero false e = ap (λ q. q *ℚ f j +ℚ whole (pos 0)) (over_parts q) ∙ by_ring (q ∷ f j ∷ []) (search reads depth 40) tt

pub parts_range : (f : ℕ → ℚ) (g : ℕ → List WeightPart) (a m : ℕ) → parts_sum f (flat_map g (range_with_len a m)) ≡ total m (λ j. parts_sum f (g (a + j)))
parts_range f g a zero = refl
parts_range f g a (suc m) =
    let one : suc m ≡ 1 + m = omega arith in
    let here : a + 0 ≡ a = omega arith in
    let first : total 1 (λ j. parts_sum f (g (a + j))) ≡ parts_sum f (g a) = by_ring (parts_sum f (g (a + 0)) ∷ []) (search reads depth 40) tt
    ∙ ap (λ a. parts_sum f (g a)) here in
    let rest : total m (λ j. parts_sum f (g (a + 1 + j))) ≡ total m (λ j. parts_sum f (g (a + (1 + j)))) =
    total_same m (λ j. parts_sum f (g (a + 1 + j))) (λ j. parts_sum f (g (a + (1 + j))))
    (λ j low. (let same : a + 1 + j ≡ a + (1 + j) = omega arith in ap (λ k. parts_sum f (g k)) same)) in
    parts_append f (g a) (flat_map g (range_with_len (a + 1) m))
    ∙ ap₂ ◌+ℚ◌ (sym first) (parts_range f g (a + 1) m ∙ rest)
    ∙ sym (ap (λ k. total k (λ j. parts_sum f (g (a + j)))) one ∙ total_split 1 m (λ j. parts_sum f (g (a + j))))

-- ---- the line in which a column is basic
-- no two lines have one basic column
abbrev pub AreApart : ℕ → Tableau → Type 0
AreApart n t = (k l : ℕ) → k < n → l < n → basic t k ≡ basic t l → k ≡ l

pub line_sum : (f : ℕ → ℚ) (n j : ℕ) (t : Tableau) (v : ℕ → ℚ) → AreApart n t →
    parts_sum f (given [] (line_of n t j) (λ k. weight_at j (v k))) ≡ total n (λ k. v k *ℚ unit (basic t k) j) *ℚ f j
line_sum f n j t v apart = by_line (line_of n t j) refl
  where
    same_or_not : (i l : ℕ) → (i ≡ l) ⊎ (i ≡ l → ⊥)
    same_or_not i l = search arith

    by_line : (o : Option ℕ) → first_from (λ k. basic t k == j) 0 n ≡ o →
        parts_sum f (given [] o (λ k. weight_at j (v k))) ≡ total n (λ k. v k *ℚ unit (basic t k) j) *ℚ f j
    by_line None e =
        sym (ap (λ s. s *ℚ f j)
        (total_same n (λ k. v k *ℚ unit (basic t k) j) (λ k. whole (pos 0))
        (λ k low. (let test : (basic t k == j) ≡ false = subst (λ k. (basic t k == j) ≡ false) (omega arith) (first_absent (λ k. basic t k == j) 0 n e k low) in
        ap (λ u. v k *ℚ u) (unit_other (basic t k) j (λ same. not_equal (basic t k) j test (sym same))) ∙ by_ring (v k ∷ []) (search reads depth 40) tt))
        ∙ total_zeros n)
        ∙ by_ring (f j ∷ []) (search reads depth 40) tt)
      where
        not_equal : (a b : ℕ) → (a == b) ≡ false → a ≡ b → ⊥
        not_equal a b test same = grind (arith, test, same)
    by_line (Some c) e =
        let found = first_present (λ k. basic t k == j) 0 n c e in
        let low : c < n = (let low = found.0 in omega (arith, low)) in
        let is_j : basic t c ≡ j = equal (basic t c) j found.1 in
        part_sum f j (v c)
        ∙ ap (λ s. s *ℚ f j)
        (sym (total_same n (λ k. v k *ℚ unit (basic t k) j) (λ k. v k *ℚ unit c k)
        (λ k below. ap (λ u. v k *ℚ u) (by_same k below is_j low (same_or_not k c))) ∙ total_unit n c v low))
      where
        equal : (a b : ℕ) → (a == b) ≡ true → a ≡ b
        equal a b test = search (arith, test)

        by_same : (k : ℕ) → k < n → basic t c ≡ j → c < n → (k ≡ c) ⊎ (k ≡ c → ⊥) → unit (basic t k) j ≡ unit c k
        by_same k below is_j low (inl s) = ap (λ k. unit (basic t k) j) s ∙ ap (λ b. unit b j) is_j ∙ unit_here j ∙ sym (ap (unit c) s ∙ unit_here c)
        by_same k below is_j low (inr d) = unit_other (basic t k) j (λ s. d (apart k c below low (sym s ∙ sym is_j))) ∙ sym (unit_other c k d)

-- the last weights
pub weights_sum : (f : ℕ → ℚ) (n m : ℕ) (t : Tableau) → AreApart n t → parts_sum f (weights_read n m t) ≡ total m (λ j. solution n m t j *ℚ f j)
weights_sum f n m t apart =
    parts_range f (λ j. given [] (line_of n t j) (λ k. weight_at j (cell t k (n + m)))) 0 m
    ∙ total_same m (λ j. parts_sum f (given [] (line_of n t (0 + j)) (λ k. weight_at (0 + j) (cell t k (n + m))))) (λ j. solution n m t j *ℚ f j)
    (λ j low. (let none : 0 + j ≡ j = omega arith in
    ap (λ j. parts_sum f (given [] (line_of n t j) (λ k. weight_at j (cell t k (n + m))))) none
    ∙ line_sum f n j t (λ k. cell t k (n + m)) apart
    ∙ ap (λ s. s *ℚ f j) (by_ring (total n (λ k. cell t k (n + m) *ℚ unit (basic t k) j) ∷ []) (search reads depth 40) tt
    ∙ ap (λ u. total n (λ k. cell t k (n + m) *ℚ unit (basic t k) j) -ℚ whole (pos 1) *ℚ u) (sym (unit_other (n + m) j (λ e. omega (arith, e, low)))))))

-- ---- in whole numbers
-- each denominator is positive
abbrev pub ArePositive : List WeightPart → Type 0
ArePositive [] = Unit {0}
ArePositive (part ∷ parts) = (pos 0 <ℤ part.2) × ArePositive parts

pub number_over : (q n num d : ℤ) → pos 0 <ℤ d → n *ℤ d ≡ num *ℤ q → whole n ≡ whole q *ℚ over num d
number_over q n num d up e =
    same_from_ratios (ratio_whole n) (ratio_product (ratio_whole q) (ratio_over num d up)) (grind (arith, ints, e))

pub combined_sum : (q : ℤ) (parts : List WeightPart) (ns : List ℤ) (rows : List Row) (k : ℕ) → ArePositive parts → AreOver q (map fraction_of parts) ns →
    whole (whole_numbers.number_at (combined (placed parts ns) rows).c k) ≡ whole q *ℚ parts_sum
    (λ j. whole (whole_numbers.number_at (row_at rows j).c k)) parts
combined_sum q [] [] rows k up h = by_ring (whole q ∷ []) (search reads depth 40) tt
combined_sum q [] (n ∷ ns) rows k up h = absurd h
combined_sum q (part ∷ parts) [] rows k up h = absurd h
combined_sum q (part ∷ parts) (n ∷ ns) rows k up h =
    let c : List ℤ = (row_at rows part.0).c in
    let rest : List ℤ = (combined (placed parts ns) rows).c in
    let sum : ℚ = parts_sum (λ j. whole (whole_numbers.number_at (row_at rows j).c k)) parts in
    ap whole (number_at-sum_of (whole_numbers.times n c) rest k ∙ ap (λ z. z +ℤ whole_numbers.number_at rest k) (number_at-times n c k))
    ∙ whole-+ℤ (n *ℤ whole_numbers.number_at c k) (whole_numbers.number_at rest k)
    ∙ ap₂ ◌+ℚ◌ (whole-*ℤ n (whole_numbers.number_at c k) ∙ ap (λ w. w *ℚ whole (whole_numbers.number_at c k)) (number_over q n part.1 part.2 up.0 h.0))
    (combined_sum q parts ns rows k up.1 h.1)
    ∙ by_ring (whole q ∷ over part.1 part.2 ∷ whole (whole_numbers.number_at c k) ∷ sum ∷ []) (search reads depth 40) tt

-- and so the bounds
pub combined_bound : (q : ℤ) (parts : List WeightPart) (ns : List ℤ) (rows : List Row) → ArePositive parts → AreOver q (map fraction_of parts) ns →
    whole (combined (placed parts ns) rows).b ≡ whole q *ℚ parts_sum (λ j. whole (row_at rows j).b) parts
combined_bound q [] [] rows up h = by_ring (whole q ∷ []) (search reads depth 40) tt
combined_bound q [] (n ∷ ns) rows up h = absurd h
combined_bound q (part ∷ parts) [] rows up h = absurd h
combined_bound q (part ∷ parts) (n ∷ ns) rows up h =
    let b : ℤ = (row_at rows part.0).b in
    whole-+ℤ (n *ℤ b) (combined (placed parts ns) rows).b
    ∙ ap₂ ◌+ℚ◌ (whole-*ℤ n b ∙ ap (λ w. w *ℚ whole b) (number_over q n part.1 part.2 up.0 h.0)) (combined_bound q parts ns rows up.1 h.1)
    ∙ by_ring (whole q ∷ over part.1 part.2 ∷ whole b ∷ parts_sum (λ j. whole (row_at rows j).b) parts ∷ []) (search reads depth 40) tt

-- ---- what is read has positive denominators
positive_append : (xs ys : List WeightPart) → ArePositive xs → ArePositive ys → ArePositive (xs ++ ys)
positive_append [] ys h k = k
positive_append (x ∷ xs) ys h k = (h.0, positive_append xs ys h.1 k)

pub positive_range : (g : ℕ → List WeightPart) (a m : ℕ) → ((j : ℕ) → ArePositive (g j)) → ArePositive (flat_map g (range_with_len a m))
positive_range g a zero h = tt
positive_range g a (suc m) h = positive_append (g a) (flat_map g (range_with_len (a + 1) m)) (h a) (positive_range g (a + 1) m h)

pub positive_part : (j : ℕ) (q : ℚ) → ArePositive (weight_at j q)
positive_part j q = elim (is_zero q) as (λ b. ArePositive (if b then [] else (j, q.num, den q) ∷ [])) [ true ↦ tt | false ↦ (den_positive q, tt) ]

pub weights_positive : (n m : ℕ) (t : Tableau) → ArePositive (weights_read n m t)
weights_positive n m t = positive_range (λ j. given [] (line_of n t j) (λ k. weight_at j (cell t k (n + m)))) 0 m (λ j. by_line j (line_of n t j))
  where
    by_line : (j : ℕ) (o : Option ℕ) → ArePositive (given [] o (λ k. weight_at j (cell t k (n + m))))
    by_line j None = tt
    by_line j (Some k) = positive_part j (cell t k (n + m))
