-- The direction where no weights exist, in whole numbers: it sticks the target over the rows.
use Rattle.std.proofs.Common.{◌≡◌, ℕ, zero, suc, ◌<◌, ◌≤◌, ◌+◌, ◌⊎◌, inl, inr, ℤ, pos, List, [], ◌∷◌}
use Rattle.std.proofs.Common.{length, map, All, Result, Ok, refl, sym, ap, ap₂, subst, ◌∙◌, arith}
use Rattle.std.specs.List.{range_with_len}
use Rattle.std.proofs.lemmas.Int.{ints}
use Rattle.std.proofs.lemmas.List.Elements.{All-get_or}
use Rattle.std.proofs.lemmas.List.FromFn.{get_or-map-range_with_len, length-map-range_with_len}
use lib.IntN.{◌*ℤ◌}
use lib.Signed.{◌≤ℤ◌, ◌<ℤ◌}
use Rattle.pa_ring.specs.Sums.{dot, number_at}
use Rattle.pa_ring.proofs.Sums.{dot_is_sum_below}
use Rattle.pa_math.specs.Answers.{and_then}
use Rattle.pa_math.specs.Rational.{ℚ, whole, ◌-ℚ◌, ◌*ℚ◌}
use Rattle.pa_math.specs.RationalOrder.{◌≤ℚ◌, ◌<ℚ◌}
use Rattle.pa_math.proofs.Rationals.{whole-*ℤ}
use Rattle.pa_math.proofs.RationalOrders.{lt_or_le_ℚ, lt_not_le_ℚ, whole-<ℤ, <ℤ-whole, ≤ℤ-whole}
use Rattle.pa_math.proofs.RationalTactics.{by_ring, by_le, by_lt, gap, weak, ◌·◌, ◌⊙◌, reads}
use Rattle.pa_frac.specs.declared.wide.Wide.{Wide}
use Rattle.pa_frac.specs.Operations.{difference_in}
use Rattle.pa_meaning.specs.Rows.{Row}
use Rattle.pa_row.specs.Fractions.{AreOver, IsDirection}
use Rattle.pa_row.proofs.Dots.{and_then_ok, ok_same}
use Rattle.pa_tableau.specs.Arithmetic.{each}
use Rattle.pa_tableau.specs.Tableau.{Tableau, cell}
use Rattle.pa_replay.specs.declared.«end».End.TheVariants.{NoWeights}
use Rattle.pa_replay.specs.Problem.{Problem}
use Rattle.pa_replay.specs.Readings.{differences_read, numbers_in, signed}
use Rattle.pa_replay.specs.Replay.{Ended}
use Rattle.pa_replay.proofs.Bridges.{at_width_sound, cells_of}
use Rattle.pa_replay.proofs.Ends.{direction}
use Rattle.pa_replay.proofs.LoadedStart.{row_number, row_of, sign_of, target_number}
use Rattle.pa_replay.proofs.Solved.{IsSolved, sticks_end}
use Rattle.pa_replay.proofs.Sums.{total, total_same, total-*ℚ}
use Rattle.pa_replay.proofs.WholePoints.{HasSigns, over_at, signed_is, whole_sum}

-- the fractions of the direction
abbrev pub direction_read : ℕ → ℕ → Tableau → ℕ → ℚ
direction_read n m t k = signed t k (whole (pos 1) -ℚ cell t n (m + k))

pub differences_are : (n m : ℕ) (t : Tableau) (a i r : ℕ) (fs : List (ℤ × ℤ)) →
    Ok fs ≡ each (λ i k. and_then (difference_in 126 (whole (pos 1)) (cell t n (m + k))) (λ d. Ok (numbers_in (signed t k d)))) i (range_with_len a r) →
    fs ≡ map numbers_in (map (direction_read n m t) (range_with_len a r))
differences_are n m t a i zero fs h = ok_same fs [] h
differences_are n m t a i (suc r) fs h =
    let step : ℕ → ℕ → Result (ℤ × ℤ) Wide = λ i k. and_then (difference_in 126 (whole (pos 1)) (cell t n (m + k))) (λ d. Ok (numbers_in (signed t k d))) in
    let (f, first, rest) = and_then_ok (step i a) (λ y. and_then (each step (suc i) (range_with_len (a + 1) r)) (λ ys. Ok (y ∷ ys))) fs h in
    let (others, others_are, made) = and_then_ok (each step (suc i) (range_with_len (a + 1) r)) (λ ys. Ok (f ∷ ys)) fs rest in
    let (d, d_is, f_is) = and_then_ok (difference_in 126 (whole (pos 1)) (cell t n (m + a))) (λ d. Ok (numbers_in (signed t a d))) f first in
    ok_same fs (f ∷ others) made
    ∙ ap₂ ◌∷◌ (ok_same f (numbers_in (signed t a d)) f_is ∙ ap (λ d. numbers_in (signed t a d))
    ((at_width_sound 126).difference (whole (pos 1)) (cell t n (m + a)) d d_is)) (differences_are n m t (a + 1) (suc i) r others others_are)

number_scaled : (factor : ℤ) (ns : List ℤ) (k : ℕ) → number_at (map (λ n. n *ℤ factor) ns) k ≡ number_at ns k *ℤ factor
number_scaled factor [] k = omega (arith, ints)
number_scaled factor (n ∷ ns) zero = refl
number_scaled factor (n ∷ ns) (suc k) = number_scaled factor ns k

-- numbers whose multiples are those of fractions
dot_shared : (n : ℕ) (cs ns : List ℤ) (x : ℕ → ℚ) (a b : ℚ) → length cs ≤ n → ((k : ℕ) → k < n → whole (number_at ns k) *ℚ a ≡ b *ℚ x k) →
    a *ℚ whole (dot cs ns) ≡ b *ℚ total n (λ k. x k *ℚ whole (number_at cs k))
dot_shared n cs ns x a b room h =
    ap (λ z. a *ℚ whole z) (dot_is_sum_below n cs ns room)
    ∙ ap (λ s. a *ℚ s) (whole_sum n (λ k. number_at cs k *ℤ number_at ns k))
    ∙ sym (total-*ℚ n a (λ k. whole (number_at cs k *ℤ number_at ns k)))
    ∙ total_same n (λ k. a *ℚ whole (number_at cs k *ℤ number_at ns k)) (λ k. b *ℚ (x k *ℚ whole (number_at cs k)))
    (λ k low. ap (λ w. a *ℚ w) (whole-*ℤ (number_at cs k) (number_at ns k))
    ∙ by_ring (a ∷ whole (number_at cs k) ∷ whole (number_at ns k) ∷ []) (search reads depth 40) tt
    ∙ ap (λ w. whole (number_at cs k) *ℚ w) (h k low) ∙ by_ring (whole (number_at cs k) ∷ b ∷ x k ∷ []) (search reads depth 40) tt)
    ∙ total-*ℚ n b (λ k. x k *ℚ whole (number_at cs k))

-- The direction in whole numbers: not positive on any row, and positive on the target.
pub sticks_whole : (p : Problem) (ended : Ended) (s : IsSolved p ended) (fs : List (ℤ × ℤ)) (d : List ℤ) → ended.answer ≡ Ok NoWeights →
    All (λ (row : Row). length row.c ≡ length p.target) p.rows →
    HasSigns p ended.table → Ok fs ≡ differences_read (length p.target) (length p.rows) ended.table → IsDirection fs d →
    ((j : ℕ) → j < length p.rows → dot (row_of p j).c d ≤ℤ pos 0) × (pos 0 <ℤ dot p.target d)
sticks_whole p ended s fs d e columns signs read is =
    let ends = sticks_end p ended s e in (
      λ j low.
          (let long : length (row_of p j).c ≡ n = All-get_or (λ (row : Row). length row.c ≡ n) p.rows j (record { c = []; b = pos 0 }) low columns in
          let shared : whole is.factor *ℚ whole (dot (row_of p j).c d) ≡ whole is.den *ℚ total n
          (λ k. direction m (sign_of p) (cells_of t n) k *ℚ row_number p j k) =
          dot_shared n (row_of p j).c d (direction m (sign_of p) (cells_of t n)) (whole is.factor) (whole is.den) (omega (arith, long)) numbers in
          ≤ℤ-whole (by_order (whole (dot (row_of p j).c d)) (total n (λ k. direction m (sign_of p) (cells_of t n) k *ℚ row_number p j k)) shared
          (ends.0 j low) (lt_or_le_ℚ (whole (pos 0)) (whole (dot (row_of p j).c d))))),
      <ℤ-whole (by_sign (whole (dot p.target d)) (total n (λ k. direction m (sign_of p) (cells_of t n) k *ℚ target_number p k))
          (dot_shared n p.target d (direction m (sign_of p) (cells_of t n)) (whole is.factor) (whole is.den) (omega arith) numbers) ends.1
          (lt_or_le_ℚ (whole (pos 0)) (whole (dot p.target d)))),
    )
  where
    n : ℕ
    n = length p.target

    m : ℕ
    m = length p.rows

    t : Tableau
    t = ended.table

    up : whole (pos 0) <ℚ whole is.factor
    up = whole-<ℤ is.factor_positive

    den_up : whole (pos 0) <ℚ whole is.den
    den_up = whole-<ℤ is.den_positive

    numbers : (k : ℕ) → k < n → whole (number_at d k) *ℚ whole is.factor ≡ whole is.den *ℚ direction m (sign_of p) (cells_of t n) k
    numbers k low =
        let none : 0 + k ≡ k = omega arith in
        let fractions : AreOver is.den (map numbers_in (map (direction_read n m t) (range_with_len 0 n))) (map (λ n. n *ℤ is.factor) d) =
        subst (λ fs. AreOver is.den fs (map (λ n. n *ℤ is.factor) d)) (differences_are n m t 0 0 n fs read) is.columns in
        sym (whole-*ℤ (number_at d k) is.factor) ∙ ap whole (sym (number_scaled is.factor d k))
        ∙ over_at is.den (map (direction_read n m t) (range_with_len 0 n)) (map (λ n. n *ℤ is.factor) d) k fractions (rw length-map-range_with_len low)
        ∙ ap (λ x. whole is.den *ℚ x) (get_or-map-range_with_len (direction_read n m t) 0 n k k (whole (pos 0)) low none
        ∙ signed_is p t k (whole (pos 1) -ℚ cell t n (m + k)) (signs k low))

    by_order : (x y : ℚ) → whole is.factor *ℚ x ≡ whole is.den *ℚ y → y ≤ℚ whole (pos 0) → (whole (pos 0) <ℚ x) ⊎ (x ≤ℚ whole (pos 0)) → x ≤ℚ whole (pos 0)
    by_order x y shared low (inr under) = under
    by_order x y shared low (inl over) =
        let product : whole (pos 0) <ℚ (whole is.den *ℚ y) = subst (λ z. whole (pos 0) <ℚ z) shared
        (by_lt (whole is.factor ∷ x ∷ []) (up ⊙ over) (search reads depth 40) tt) in
        absurd (lt_not_le_ℚ product (by_le (whole is.den ∷ y ∷ []) (weak den_up · gap low) (search reads depth 40) tt))

    by_sign : (x y : ℚ) → whole is.factor *ℚ x ≡ whole is.den *ℚ y → whole (pos 0) <ℚ y → (whole (pos 0) <ℚ x) ⊎ (x ≤ℚ whole (pos 0)) → whole (pos 0) <ℚ x
    by_sign x y shared high (inl over) = over
    by_sign x y shared high (inr under) =
        let product : whole (pos 0) <ℚ (whole is.factor *ℚ x) = subst (λ z. whole (pos 0) <ℚ z) (sym shared)
        (by_lt (whole is.den ∷ y ∷ []) (den_up ⊙ high) (search reads depth 40) tt) in
        absurd (lt_not_le_ℚ product (by_le (whole is.factor ∷ x ∷ []) (weak up · gap under) (search reads depth 40) tt))
