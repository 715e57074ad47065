-- Farkas' lemma, the easy half: what weights prove holds at each point that meets the rows.
use Rattle.std.proofs.Common.{◌≡◌, ℕ, zero, suc, ◌⊎◌, inl, inr, List, [], ◌∷◌, All, replicate, refl, ◌∙◌, arith}
use Rattle.std.proofs.lemmas.Int.{ints}
use Rattle.std.proofs.lemmas.List.Elements.{All-nil, All-cons, All-head, All-tail}
use lib.IntN.{ℤ, pos, ◌*ℤ◌}
use lib.Signed.{◌≤ℤ◌, ◌<ℤ◌}
use Rattle.pa_ring.specs.Sums.{number_at, dot, times}
use Rattle.pa_ring.proofs.Integers.{gap, ◌·◌, ◌∔◌, <ℤ-≤ℤ, <ℤ-*ℤ, ≤ℤ-*ℤ_cancel}
use Rattle.pa_ring.proofs.IntegerTactics.{by_le, reads}
use Rattle.pa_ring.proofs.Sums.{dot-sum_of, dot-times, dot_same, dot_zeros}
use Rattle.pa_meaning.specs.Rows.{Row, Point, Meets, MeetsAll}
use Rattle.pa_meaning.specs.Weights.{Weights, row_at, combined, NoneNegative, Implies, IsContradiction, impossible, Proves}

-- a point that meets the rows meets the row at each place
pub Meets-row_at : (rows : List Row) (x : Point) (i : ℕ) → MeetsAll rows x → Meets (row_at rows i) x
Meets-row_at [] x i h = record { meets = omega (arith, ints) }
Meets-row_at (r ∷ rows) x zero h = All-head (λ r. Meets r x) r rows h
Meets-row_at (r ∷ rows) x (suc i) h = Meets-row_at rows x i (All-tail (λ r. Meets r x) r rows h)

-- a point meets a weighted sum of rows where it meets each row that the weights name
pub Meets-combined_named : (parts : List (ℕ × ℤ)) (rows : List Row) (x : Point) → NoneNegative parts → All (λ part. Meets (row_at rows part.0) x) parts
    → Meets (combined parts rows) x
Meets-combined_named [] rows x n h = record { meets = omega (arith, ints) }
Meets-combined_named (w ∷ ws) rows x n h =
    let r : Row = row_at rows w.0 in
    let s : Row = combined ws rows in
    let now = gap (All-head (λ part. Meets (row_at rows part.0) x) w ws h).meets in
    let rest = gap (Meets-combined_named ws rows x (All-tail (λ part. pos 0 ≤ℤ part.1) w ws n)
    (All-tail (λ part. Meets (row_at rows part.0) x) w ws h)).meets in
    let weight : pos 0 ≤ℤ w.1 = All-head (λ part. pos 0 ≤ℤ part.1) w ws n in
    record {
      meets = rw (dot-sum_of (times w.1 r.c) s.c x.p, dot-times w.1 r.c x.p)
          (by_le (w.1 ∷ dot r.c x.p ∷ dot s.c x.p ∷ r.b ∷ s.b ∷ x.q ∷ []) (weight · now ∔ rest) (search reads depth 40) tt);
    }

-- and so where it meets all rows
all_named : (parts : List (ℕ × ℤ)) (rows : List Row) (x : Point) → MeetsAll rows x → All (λ part. Meets (row_at rows part.0) x) parts
all_named [] rows x h = All-nil (λ part. Meets (row_at rows part.0) x)
all_named (w ∷ ws) rows x h = All-cons (λ part. Meets (row_at rows part.0) x) w ws (Meets-row_at rows x w.0 h) (all_named ws rows x h)

pub Meets-combined : (parts : List (ℕ × ℤ)) (rows : List Row) (x : Point) → NoneNegative parts → MeetsAll rows x → Meets (combined parts rows) x
Meets-combined parts rows x n h = Meets-combined_named parts rows x n (all_named parts rows x h)

-- a point meets the row that a sum implies
pub Meets-implied : (den : ℤ) (sum row : Row) (x : Point) → pos 0 <ℤ den → pos 0 <ℤ x.q → Implies den sum row → Meets sum x → Meets row x
Meets-implied den sum row x up positive i h =
    let same : dot sum.c x.p ≡ den *ℤ dot row.c x.p = dot_same sum.c (times den row.c) x.p i.coefficients ∙ dot-times den row.c x.p in
    record {
      meets = ≤ℤ-*ℤ_cancel (dot row.c x.p) (row.b *ℤ x.q) den up
          (by_le (dot row.c x.p ∷ den ∷ sum.b ∷ row.b ∷ x.q ∷ []) (gap (rw same at h.meets) ∔ gap i.bound · <ℤ-≤ℤ positive) (search reads depth 40) tt);
    }

-- no point meets a row with coefficients 0 and a negative bound
pub contradiction_unmet : (row : Row) (x : Point) → pos 0 <ℤ x.q → IsContradiction row → Meets row x → ⊥
contradiction_unmet row x positive c h =
    let zero_sum : dot row.c x.p ≡ pos 0 = dot_zeros row.c x.p c.coefficients in
    absurd (omega (arith, ints, h.meets, <ℤ-*ℤ row.b (pos 0) x.q c.bound positive))

-- Weights that prove a row: each point that meets the rows that they name meets the row.
pub Meets-proved_named : (w : Weights) (rows : List Row) (row : Row) (x : Point) → pos 0 <ℤ x.q → Proves w rows row
    → All (λ part. Meets (row_at rows part.0) x) w.parts → Meets row x
Meets-proved_named w rows row x positive p h = shown p.shown
  where
    shown : Implies w.den (combined w.parts rows) row ⊎ IsContradiction (combined w.parts rows) → Meets row x
    shown (inl i) = Meets-implied w.den (combined w.parts rows) row x p.positive positive i (Meets-combined_named w.parts rows x p.weights h)
    shown (inr c) = absurd (contradiction_unmet (combined w.parts rows) x positive c (Meets-combined_named w.parts rows x p.weights h))

pub Meets-proved : (w : Weights) (rows : List Row) (row : Row) (x : Point) → pos 0 <ℤ x.q → Proves w rows row → MeetsAll rows x → Meets row x
Meets-proved w rows row x positive p h = Meets-proved_named w rows row x positive p (all_named w.parts rows x h)

pub impossible_is_contradiction : (n : ℕ) → IsContradiction (impossible n)
impossible_is_contradiction n = record { coefficients = zeros n; bound = omega (arith, ints) }
  where
    zeros : (n i : ℕ) → number_at (replicate n (pos 0)) i ≡ pos 0
    zeros zero i = refl
    zeros (suc n) zero = refl
    zeros (suc n) (suc i) = zeros n i

-- Weights that prove `0 <= -1`: no point meets the rows.
pub none_meets : (w : Weights) (rows : List Row) (n : ℕ) (x : Point) → pos 0 <ℤ x.q → Proves w rows (impossible n) → MeetsAll rows x → ⊥
none_meets w rows n x positive p h = contradiction_unmet (impossible n) x positive (impossible_is_contradiction n)
    (Meets-proved w rows (impossible n) x positive p h)
