-- Where what weights leave of a term is exact at the nominal point.
use Rattle.std.proofs.Common.{◌≡◌, sym, ap, ◌∙◌, subst, List, [], ◌∷◌, ◌++◌, take, drop, length, map}
use Rattle.std.proofs.Math.Seq.{drop-append_seam, take-append_seam}
use Rattle.std.proofs.lemmas.List.Elements.{All-nil, All-cons, All-head, All-tail}
use lib.IntN.{ℤ, pos, ◌+ℤ◌, ◌*ℤ◌}
use lib.Signed.{◌<ℤ◌}
use Rattle.pa_ring.specs.Sums.{SameNumbers, dot, number_at, times}
use Rattle.pa_ring.proofs.Integers.{gap, gap_same, ◌·◌, ◌∔◌, ◌⊙◌, <ℤ-≤ℤ, ≤ℤ-*ℤ_cancel}
use Rattle.pa_ring.proofs.IntegerTactics.{by_le, by_ring, reads}
use Rattle.pa_ring.proofs.Sums.{dot_zeros, dot-times_right, number_at-times}
use Rattle.pa_row.proofs.WeightedSums.{times_length}
use Rattle.pa_meaning.specs.Rows.{Row, Point, Meets, MeetsAll}
use Rattle.pa_meaning.specs.Weights.{Weights, combined}
use Rattle.pa_meaning.specs.Shifting.{Leaves, less_weighted, shifted}
use Rattle.pa_meaning.proofs.PrimitiveRows.{Meets-primitive}
use Rattle.pa_meaning.proofs.Shifting.{Meets-shifted}
use Rattle.pa_meaning.proofs.Nominal.{left_from_term}
use Rattle.pa_shift.specs.Meant.{ExtendsInFront, IsExactAt}
use Rattle.pa_shift.specs.Shifting.{Premises}
use Rattle.pa_shift.proofs.Costs.{dot_parts, front_sum, priced}

-- ---- a row with 0 behind the nominal point's columns reads the same at each point that extends it
front_alone : (x y : Point) (r : Row) → SameNumbers (drop (length x.p) r.c) [] → ExtendsInFront x y → x.q *ℤ dot r.c y.p ≡ y.q *ℤ dot r.c x.p
front_alone x y r h e =
    let none : dot (drop (length x.p) r.c) (drop (length x.p) y.p) ≡ pos 0 = dot_zeros (drop (length x.p) r.c) (drop (length x.p) y.p) h in
    front_sum x y r.c e ∙ ap (λ t. y.q *ℤ dot r.c x.p +ℤ x.q *ℤ t) none ∙ by_ring (x.q ∷ y.q ∷ dot r.c x.p ∷ []) (search reads depth 40) tt

met_there : (x y : Point) (r : Row) → pos 0 <ℤ x.q → SameNumbers (drop (length x.p) r.c) [] → ExtendsInFront x y → Meets r x → Meets r y
met_there x y r up h e m =
    let same = front_alone x y r h e in
    record {
      meets = ≤ℤ-*ℤ_cancel (dot r.c y.p) (r.b *ℤ y.q) x.q up
          (by_le (x.q ∷ y.q ∷ dot r.c y.p ∷ dot r.c x.p ∷ r.b ∷ []) (<ℤ-≤ℤ e.positive · gap m.meets ∔ gap_same same) (search reads depth 40) tt);
    }

met_here : (x y : Point) (r : Row) → pos 0 <ℤ x.q → SameNumbers (drop (length x.p) r.c) [] → ExtendsInFront x y → Meets r y → Meets r x
met_here x y r up h e m =
    let same = front_alone x y r h e in
    record {
      meets = ≤ℤ-*ℤ_cancel (dot r.c x.p) (r.b *ℤ x.q) y.q e.positive
          (by_le (x.q ∷ y.q ∷ dot r.c y.p ∷ dot r.c x.p ∷ r.b ∷ []) (<ℤ-≤ℤ up · gap m.meets ∔ gap_same (sym same)) (search reads depth 40) tt);
    }

-- the weighted rows are met exactly at the point
abbrev pub IsTight : List Row → Weights → Point → Type 0
IsTight rows w z = dot (combined w.parts rows).c z.p ≡ (combined w.parts rows).b *ℤ z.q

-- a point that extends the nominal one, meets the rows, and meets the weighted rows exactly
pub record IsWitness (given : Premises) (w : Weights) (z : Point) : Type 0 where
  pub extends : ExtendsInFront given.nominal z
  pub meets : MeetsAll given.rows z
  pub tight : IsTight given.rows w z

-- Where there is such a point whenever some point extends the nominal one and meets the rows, what is left of the term is exact.
pub exact_by : (given : Premises) (t : Row) (w : Weights) → pos 0 <ℤ given.nominal.q → Leaves (length given.nominal.p) given.rows t w
    → ((y : Point) → ExtendsInFront given.nominal y → MeetsAll given.rows y → (z : Point) × IsWitness given w z)
    → IsExactAt given t (shifted t given.rows w)
exact_by given t w up leaves witness = λ y e m. (
  λ left z f k. Meets-shifted t given.rows w z leaves.positive leaves.weights k
      (met_there x z left_row up leaves.gone f ((Meets-primitive left_row x).0 left)),
  λ all. by (witness y e m) all,
)
  where
    x : Point
    x = given.nominal

    left_row : Row
    left_row = less_weighted t given.rows w

    by : (z : Point) × IsWitness given w z → ((z : Point) → ExtendsInFront x z → MeetsAll given.rows z → Meets t z) → Meets (shifted t given.rows w) x
    by (z, is) all = (Meets-primitive left_row x).1 (met_here x z left_row up leaves.gone is.extends
        (left_from_term t given.rows w z leaves.positive is.tight (all z is.extends is.meets)))

-- ---- the point that a point over the columns that go makes of the nominal one
abbrev pub joined : Point → Point → Point
joined x y = record { p = times y.q x.p ++ y.p; q = y.q *ℤ x.q }

drop_joined : (x y : Point) → drop (length x.p) (joined x y).p ≡ y.p
drop_joined x y = subst (λ n. drop n (times y.q x.p ++ y.p) ≡ y.p) (times_length y.q x.p) (drop-append_seam (times y.q x.p) y.p)

take_joined : (x y : Point) → take (length x.p) (joined x y).p ≡ times y.q x.p
take_joined x y = subst (λ n. take n (times y.q x.p ++ y.p) ≡ times y.q x.p) (times_length y.q x.p) (take-append_seam (times y.q x.p) y.p)

pub joined_extends : (x y : Point) → pos 0 <ℤ x.q → pos 0 <ℤ y.q → ExtendsInFront x (joined x y)
joined_extends x y up above = record {
  positive = above ⊙ up;
  agrees = λ i.
      ap (λ ns. number_at (times x.q ns) i) (take_joined x y)
      ∙ number_at-times x.q (times y.q x.p) i
      ∙ ap (λ t. x.q *ℤ t) (number_at-times y.q x.p i)
      ∙ by_ring (x.q ∷ y.q ∷ number_at x.p i ∷ []) (search reads depth 40) tt
      ∙ sym (number_at-times (y.q *ℤ x.q) x.p i);
}

pub joined_sum : (x y : Point) (cs : List ℤ) → dot cs (joined x y).p ≡ y.q *ℤ dot cs x.p +ℤ dot (drop (length x.p) cs) y.p
joined_sum x y cs =
    dot_parts (length x.p) cs (joined x y).p
    ∙ ap (λ ns. dot cs ns +ℤ dot (drop (length x.p) cs) (drop (length x.p) (joined x y).p)) (take_joined x y)
    ∙ ap (λ ns. dot cs (times y.q x.p) +ℤ dot (drop (length x.p) cs) ns) (drop_joined x y)
    ∙ ap (λ t. t +ℤ dot (drop (length x.p) cs) y.p) (dot-times_right y.q cs x.p)

joined_met : (x y : Point) (row : Row) → Meets (priced x row) y → Meets row (joined x y)
joined_met x y row m = record {
  meets = rw (joined_sum x y row.c)
      (by_le (x.q ∷ y.q ∷ row.b ∷ dot row.c x.p ∷ dot (drop (length x.p) row.c) y.p ∷ []) (gap m.meets) (search reads depth 40) tt);
}

pub joined_all : (x y : Point) (rows : List Row) → MeetsAll (map (priced x) rows) y → MeetsAll rows (joined x y)
joined_all x y [] m = All-nil (λ r. Meets r (joined x y))
joined_all x y (row ∷ rows) m =
    All-cons (λ r. Meets r (joined x y)) row rows (joined_met x y row (All-head (λ r. Meets r y) (priced x row) (map (priced x) rows) m))
    (joined_all x y rows (All-tail (λ r. Meets r y) (priced x row) (map (priced x) rows) m))
