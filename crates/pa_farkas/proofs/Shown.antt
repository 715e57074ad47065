-- What the ends of the two problems show of the rows and the row.
use Rattle.std.proofs.Common.{◌≡◌, inl, inr, sym, ap, ◌∙◌, subst, ℕ, List, [], ◌∷◌, ◌++◌, length, map, replicate, unsigned_abs, ◌<◌, None, Some, true}
use Rattle.std.proofs.Common.{false, arith}
use Rattle.std.proofs.lemmas.Int.{ints}
use Rattle.std.proofs.lemmas.List.{length-replicate}
use Rattle.std.proofs.lemmas.List.Elements.{All-nil, All-cons, All-head, All-tail, All-append}
use Rattle.std.specs.declared.cmp.Ordering.{Ordering}
use lib.IntN.{ℤ, pos, negsuc, ◌+ℤ◌, ◌-ℤ◌, ◌*ℤ◌, *ℤ-zero}
use lib.Signed.{◌≤ℤ◌, ◌<ℤ◌}
use Rattle.pa_ring.specs.Sums.{dot, number_at, times}
use Rattle.pa_ring.proofs.Integers.{gap, gap_same, rise, ◌·◌, ◌∔◌, ◌⊕◌, ◌⊙◌, <ℤ-≤ℤ, ≤ℤ-*ℤ_cancel}
use Rattle.pa_ring.proofs.IntegerTactics.{by_le, by_lt, by_ring, reads}
use Rattle.pa_ring.proofs.Sums.{dot_zeros, number_at-sum_of, number_at-times}
use Rattle.pa_meaning.specs.Rows.{Row, Point}
use Rattle.pa_meaning.specs.Weights.{AllPlaced, NoneNegative, Proves, Weights, combined, impossible, row_at}
use Rattle.pa_meaning.proofs.Farkas.{Meets-proved, impossible_is_contradiction}
use Rattle.pa_replay.specs.Problem.{Problem}
use Rattle.pa_replay.specs.Readings.{EndlessRead, LeastRead}
use Rattle.pa_replay.specs.Shown.{ShowsEndless, ShowsLeast, ShowsNoWeights, asked}
use Rattle.pa_farkas.specs.Alternatives.{BreaksAt, IsCover, IsCovered, IsMetAt, MakesWithin, ShowsImplied, ShowsUnmet}
use Rattle.pa_farkas.specs.Seen.{IsAwayFrom, IsBeyond, IsCompared, IsPointOf, IsWithin}
use Rattle.pa_farkas.specs.Answered.{is_above}
use Rattle.pa_farkas.proofs.Walks.{away_breaks}

-- the problem of a row
abbrev pub of_row : List Row → Row → Problem
of_row rows row = record { rows = rows; target = row.c }

-- ---- the least end
pub least_within : (rows : List Row) (row : Row) (a : LeastRead) → ShowsLeast (of_row rows row) a → IsWithin row a → MakesWithin a.weights rows row
least_within rows row a s within = record {
  makes = record { positive = s.makes.positive; weights = s.makes.weights; places = s.makes.places; coefficients = s.makes.coefficients };
  bound = ≤ℤ-*ℤ_cancel (combined a.weights.parts rows).b (a.weights.den *ℤ row.b) a.value.1 s.positive
      (by_le ((combined a.weights.parts rows).b ∷ a.weights.den ∷ row.b ∷ a.value.1 ∷ a.value.0 ∷ [])
      (gap_same s.sum ∔ <ℤ-≤ℤ s.makes.positive · gap within) (search reads depth 40) tt);
}

-- weights that make a row within its bound prove it
pub made_proves : (w : Weights) (rows : List Row) (row : Row) → MakesWithin w rows row → Proves w rows row
made_proves w rows row m = record {
  positive = m.makes.positive;
  weights = m.makes.weights;
  places = m.makes.places;
  shown = inl (record { coefficients = m.makes.coefficients; bound = m.bound });
}

pub proves_shows : (w : Weights) (rows : List Row) (row : Row) → Proves w rows row → ShowsImplied rows row w
proves_shows w rows row proves = record { proves = proves; implied = λ x up met. Meets-proved w rows row x up proves met }

-- the point breaks the row where the least value is above its bound
pub least_beyond : (rows : List Row) (row : Row) (a : LeastRead) (x : Point) → ShowsLeast (of_row rows row) a → IsBeyond row a → IsPointOf a x →
    BreaksAt rows row x
least_beyond rows row a x s beyond is = record {
  met = record { positive = is.positive; columns = is.columns ∙ s.columns; meets = s.meets x is.positive is.over };
  broken = λ m. impossible_here m.meets;
}
  where
    impossible_here : dot row.c x.p ≤ℤ (row.b *ℤ x.q) → ⊥
    impossible_here low =
        let takes : a.value.1 *ℤ dot row.c x.p ≡ x.q *ℤ a.value.0 = s.takes x is.positive is.over in
        let wrong : (x.q *ℤ a.value.0) <ℤ (x.q *ℤ a.value.0) =
        by_lt (a.value.0 ∷ a.value.1 ∷ dot row.c x.p ∷ row.b ∷ x.q ∷ [])
        (is.positive ⊙ rise beyond ⊕ (<ℤ-≤ℤ s.positive · gap low ∔ gap_same (sym takes))) (search reads depth 40) tt in
        absurd (omega (arith, ints, wrong))

-- no weights make the row within its bound
pub least_uncovered : (rows : List Row) (row : Row) (a : LeastRead) → ShowsLeast (of_row rows row) a → IsBeyond row a → IsCovered rows row → ⊥
least_uncovered rows row a s beyond (w, m) =
    let least = s.least w (record { positive = m.makes.positive; weights = m.makes.weights; places = m.makes.places; coefficients = m.makes.coefficients }) in
    let wrong : (w.den *ℤ a.value.0) <ℤ (w.den *ℤ a.value.0) =
    by_lt (a.value.0 ∷ a.value.1 ∷ w.den ∷ row.b ∷ (combined w.parts rows).b ∷ [])
    (m.makes.positive ⊙ rise beyond ⊕ (gap least ∔ <ℤ-≤ℤ s.positive · gap m.bound)) (search reads depth 40) tt in
    absurd (omega (arith, ints, wrong))

-- ---- the endless end
pub endless_unmet : (p : Problem) (a : EndlessRead) → ShowsEndless p a → ShowsUnmet (length p.target) p.rows a.ray
endless_unmet p a s = record { proves = s.proves; unmet = s.unmet }

-- the ray proves any row
pub endless_proves : (p : Problem) (row : Row) (a : EndlessRead) → ShowsEndless p a → Proves a.ray p.rows row
endless_proves p row a s = record { positive = s.proves.positive; weights = s.proves.weights; places = s.proves.places; shown = inr s.falls }

-- the numbers so many times
abbrev many : ℤ → List (ℕ × ℤ) → List (ℕ × ℤ)
many k parts = map (λ (part : ℕ × ℤ). (part.0, k *ℤ part.1)) parts

-- sums of weights that stand one after another
bound_of_both : (parts others : List (ℕ × ℤ)) (rows : List Row) → (combined (parts ++ others) rows).b ≡ (combined parts rows).b +ℤ (combined others rows).b
bound_of_both [] others rows = omega (arith, ints)
bound_of_both (part ∷ parts) others rows =
    let rest = bound_of_both parts others rows in
    rw rest (omega (arith, ints))

number_of_both : (parts others : List (ℕ × ℤ)) (rows : List Row) (i : ℕ) →
    number_at (combined (parts ++ others) rows).c i ≡ number_at (combined parts rows).c i +ℤ number_at (combined others rows).c i
number_of_both [] others rows i = omega (arith, ints)
number_of_both (part ∷ parts) others rows i =
    rw (
      number_at-sum_of (times part.1 (row_at rows part.0).c) (combined (parts ++ others) rows).c i,
      number_of_both parts others rows i,
      number_at-sum_of (times part.1 (row_at rows part.0).c) (combined parts rows).c i,
    ) (omega (arith, ints))

bound_of_many : (k : ℤ) (parts : List (ℕ × ℤ)) (rows : List Row) → (combined (many k parts) rows).b ≡ k *ℤ (combined parts rows).b
bound_of_many k [] rows = omega (arith, ints)
bound_of_many k (part ∷ parts) rows =
    let rest = bound_of_many k parts rows in
    rw rest (by_ring (k ∷ part.1 ∷ (row_at rows part.0).b ∷ (combined parts rows).b ∷ []) (search reads depth 40) tt)

number_of_many : (k : ℤ) (parts : List (ℕ × ℤ)) (rows : List Row) (i : ℕ) →
    number_at (combined (many k parts) rows).c i ≡ k *ℤ number_at (combined parts rows).c i
number_of_many k [] rows i = omega (arith, ints)
number_of_many k (part ∷ parts) rows i =
    rw (
      number_at-sum_of (times (k *ℤ part.1) (row_at rows part.0).c) (combined (many k parts) rows).c i,
      number_of_many k parts rows i,
      number_at-times (k *ℤ part.1) (row_at rows part.0).c i,
      number_at-sum_of (times part.1 (row_at rows part.0).c) (combined parts rows).c i,
      number_at-times part.1 (row_at rows part.0).c i,
    )
    (by_ring (k ∷ part.1 ∷ number_at (row_at rows part.0).c i ∷ number_at (combined parts rows).c i ∷ []) (search reads depth 40) tt)

none_negative_many : (k : ℤ) (parts : List (ℕ × ℤ)) → pos 0 ≤ℤ k → NoneNegative parts → NoneNegative (many k parts)
none_negative_many k [] up h = All-nil (λ (part : ℕ × ℤ). pos 0 ≤ℤ part.1)
none_negative_many k (part ∷ parts) up h =
    All-cons (λ (part : ℕ × ℤ). pos 0 ≤ℤ part.1) (part.0, k *ℤ part.1) (many k parts)
    (by_le (k ∷ part.1 ∷ []) (up · All-head (λ (part : ℕ × ℤ). pos 0 ≤ℤ part.1) part parts h) (search reads depth 40) tt)
    (none_negative_many k parts up (All-tail (λ (part : ℕ × ℤ). pos 0 ≤ℤ part.1) part parts h))

placed_many : (k : ℤ) (parts : List (ℕ × ℤ)) (rows : List Row) → AllPlaced parts rows → AllPlaced (many k parts) rows
placed_many k [] rows h = All-nil (λ (part : ℕ × ℤ). part.0 < length rows)
placed_many k (part ∷ parts) rows h =
    All-cons (λ (part : ℕ × ℤ). part.0 < length rows) (part.0, k *ℤ part.1) (many k parts) (All-head (λ (part : ℕ × ℤ). part.0 < length rows) part parts h)
    (placed_many k parts rows (All-tail (λ (part : ℕ × ℤ). part.0 < length rows) part parts h))

-- a fall of at least 1, as often as the distance, covers the distance
enough_steps : (a b f : ℤ) → f <ℤ pos 0 → (a +ℤ pos (unsigned_abs (a -ℤ b)) *ℤ f) ≤ℤ b
enough_steps a b f down = by_le (a ∷ b ∷ f ∷ pos (unsigned_abs (a -ℤ b)) ∷ [])
    (up · gap falls ∔ gap far) (search reads depth 40) tt
  where
    up : pos 0 ≤ℤ pos (unsigned_abs (a -ℤ b))
    up = omega (arith, ints)

    falls : f ≤ℤ negsuc 0
    falls = omega (arith, ints, down)

    far : (a -ℤ b) ≤ℤ pos (unsigned_abs (a -ℤ b))
    far = omega (arith, ints)

-- With the ray taken often enough the last weights have any bound: as often as their bound is above the row's.
pub endless_covered : (rows : List Row) (row : Row) (a : EndlessRead) → ShowsEndless (of_row rows row) a → IsCovered rows row
endless_covered rows row a s = (
  record { den = a.last.den; parts = a.last.parts ++ many often a.ray.parts },
  record {
    makes = record {
      positive = s.makes.positive;
      weights = All-append (λ (part : ℕ × ℤ). pos 0 ≤ℤ part.1) a.last.parts (many often a.ray.parts) s.makes.weights
          (none_negative_many often a.ray.parts up s.proves.weights);
      places = All-append (λ (part : ℕ × ℤ). part.0 < length rows) a.last.parts (many often a.ray.parts) s.makes.places
          (placed_many often a.ray.parts rows s.proves.places);
      coefficients = λ i. number_of_both a.last.parts (many often a.ray.parts) rows i
          ∙ ap (λ z. number_at (combined a.last.parts rows).c i +ℤ z) (gone i) ∙ no_more (number_at (combined a.last.parts rows).c i) ∙ s.makes.coefficients i;
    };
    bound = rw (bound_of_both a.last.parts (many often a.ray.parts) rows, bound_of_many often a.ray.parts rows) enough;
  },
)
  where
    often : ℤ
    often = pos (unsigned_abs ((combined a.last.parts rows).b -ℤ a.last.den *ℤ row.b))

    up : pos 0 ≤ℤ often
    up = omega (arith, ints)

    no_more : (z : ℤ) → z +ℤ pos 0 ≡ z
    no_more z = omega (arith, ints)

    gone : (i : ℕ) → number_at (combined (many often a.ray.parts) rows).c i ≡ pos 0
    gone i = number_of_many often a.ray.parts rows i ∙ ap (λ z. often *ℤ z) (s.falls.coefficients i) ∙ *ℤ-zero often

    enough : ((combined a.last.parts rows).b +ℤ often *ℤ (combined a.ray.parts rows).b) ≤ℤ (a.last.den *ℤ row.b)
    enough = enough_steps (combined a.last.parts rows).b (a.last.den *ℤ row.b) (combined a.ray.parts rows).b s.falls.bound

-- ---- the problem with the target 0
abbrev pub of_zeros : List Row → ℕ → Problem
of_zeros rows n = record { rows = rows; target = replicate n (pos 0) }

pub base_columns : (rows : List Row) (n : ℕ) (a : LeastRead) → ShowsLeast (of_zeros rows n) a → length a.point ≡ n
base_columns rows n a s = s.columns ∙ length-replicate n (pos 0)

pub base_met : (rows : List Row) (n : ℕ) (a : LeastRead) (x : Point) → ShowsLeast (of_zeros rows n) a → IsPointOf a x → IsMetAt n rows x
base_met rows n a x s is = record {
  positive = is.positive;
  columns = is.columns ∙ s.columns ∙ length-replicate n (pos 0);
  meets = s.meets x is.positive is.over;
}

pub base_unmet : (rows : List Row) (n : ℕ) (a : EndlessRead) → ShowsEndless (of_zeros rows n) a → ShowsUnmet n rows a.ray
base_unmet rows n a s = record {
  proves = subst (λ k. Proves a.ray rows (impossible k)) (length-replicate n (pos 0)) s.proves;
  unmet = s.unmet;
}

-- its target never rises, so it always has weights
pub base_has_weights : (rows : List Row) (n : ℕ) (d : List ℤ) → ShowsNoWeights (of_zeros rows n) d → ⊥
base_has_weights rows n d s =
    let level : dot (replicate n (pos 0)) d ≡ pos 0 = dot_zeros (replicate n (pos 0)) d (impossible_is_contradiction n).coefficients in
    absurd (omega (arith, ints, level, s.sticks.rises))

pub base_breaks : (rows : List Row) (row : Row) (a : LeastRead) (d : List ℤ) (y : Point) → ShowsLeast (of_zeros rows (length row.c)) a →
    ShowsNoWeights (of_row rows row) d → IsAwayFrom row a d y → BreaksAt rows row y
base_breaks rows row a d y s stuck (x, is, away) =
    away_breaks rows row (asked (of_row rows row)) x d y (base_met rows (length row.c) a x s is) stuck.sticks away

-- ---- covers
pub least_covers : (rows : List Row) (row : Row) (a : LeastRead) (o : Ordering) → ShowsLeast (of_row rows row) a → IsCompared row a o → is_above o ≡ false →
    IsCover rows row (Some a.weights)
least_covers rows row a o s compared low =
    let within = least_within rows row a s (compared.within low) in
    (proves_shows a.weights rows row (made_proves a.weights rows row within), (a.weights, within))

pub least_uncovers : (rows : List Row) (row : Row) (a : LeastRead) (o : Ordering) → ShowsLeast (of_row rows row) a → IsCompared row a o → is_above o ≡ true →
    IsCover rows row None
least_uncovers rows row a o s compared high = least_uncovered rows row a s (compared.beyond high)

pub endless_covers : (rows : List Row) (row : Row) (a : EndlessRead) → ShowsEndless (of_row rows row) a → IsCover rows row (Some a.ray)
endless_covers rows row a s = (proves_shows a.ray rows row (endless_proves (of_row rows row) row a s), endless_covered rows row a s)

pub none_covers : (rows : List Row) (row : Row) (d : List ℤ) → ShowsNoWeights (of_row rows row) d → IsCover rows row None
none_covers rows row d s (w, m) = s.none w (record {
  positive = m.makes.positive;
  weights = m.makes.weights;
  places = m.makes.places;
  coefficients = m.makes.coefficients;
})

-- ---- verdicts
pub least_implies : (rows : List Row) (row : Row) (a : LeastRead) → ShowsLeast (of_row rows row) a → IsWithin row a → ShowsImplied rows row a.weights
least_implies rows row a s within = proves_shows a.weights rows row (made_proves a.weights rows row (least_within rows row a s within))
