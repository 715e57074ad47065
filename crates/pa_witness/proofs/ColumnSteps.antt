-- Several columns eliminated: a point meets the list that is left exactly where some extension meets the given list.
use Rattle.std.proofs.Common.{◌≡◌, ◌↔◌, refl, sym, ap, ◌∙◌, ℕ, pred, List, [], ◌∷◌}
use Rattle.std.proofs.lemmas.List.Elements.{All-nil, All-weaker}
use lib.IntN.{ℤ, pos, ◌*ℤ◌}
use lib.Signed.{◌<ℤ◌}
use Rattle.pa_ring.specs.Sums.{number_at, SameNumbers, dot, times, without}
use Rattle.pa_ring.proofs.Integers.{gap, gap_same, ◌·◌, ◌∔◌, <ℤ-≤ℤ, ≤ℤ-*ℤ_cancel, *ℤ_cancel, null, ◌⋆◌, ◌⊞◌}
use Rattle.pa_ring.proofs.IntegerTactics.{by_le, by_equations, reads}
use Rattle.pa_ring.proofs.Sums.{number_at-times, without-times, without_same, dot-times_right, dot_same_right}
use Rattle.pa_meaning.specs.Rows.{Row, Point, Meets, MeetsAll}
use Rattle.pa_witness.specs.Elimination.{IsExtension}
use Rattle.pa_witness.specs.Steps.{Version, stepped}
use Rattle.pa_witness.specs.Thinning.{Dropped, thinned}
use Rattle.pa_witness.specs.Columns.{without_each, ExtendsAt, projected_columns, ColumnStepsHold}
use Rattle.pa_witness.proofs.Steps.{step_means}
use Rattle.pa_witness.proofs.Projection.{thinned_met}

-- a point with the same fractions meets the same rows
same_fractions_met : (x y : Point) (r : Row) → pos 0 <ℤ x.q → pos 0 <ℤ y.q → SameNumbers (times x.q y.p) (times y.q x.p) → Meets r y → Meets r x
same_fractions_met x y r hx hy same h =
    let sums : x.q *ℤ dot r.c y.p ≡ y.q *ℤ dot r.c x.p = sym (dot-times_right x.q r.c y.p) ∙ dot_same_right r.c (times x.q y.p) (times y.q x.p) same
    ∙ dot-times_right y.q r.c x.p in
    record {
      meets = ≤ℤ-*ℤ_cancel (dot r.c x.p) (r.b *ℤ x.q) y.q hy
          (by_le (dot r.c x.p ∷ dot r.c y.p ∷ r.b ∷ x.q ∷ y.q ∷ []) (gap h.meets · <ℤ-≤ℤ hx ∔ gap_same (sym sums)) (search reads depth 40) tt);
    }

without_each-times : (ks : List ℕ) (a : ℤ) (xs : List ℤ) → without_each ks (times a xs) ≡ times a (without_each ks xs)
without_each-times [] a xs = refl
without_each-times (k ∷ ks) a xs = ap (without_each ks) (without-times k a xs) ∙ without_each-times ks a (without k xs)

without_each_same : (ks : List ℕ) (xs ys : List ℤ) → SameNumbers xs ys → SameNumbers (without_each ks xs) (without_each ks ys)
without_each_same [] xs ys h = h
without_each_same (k ∷ ks) xs ys h = without_each_same ks (without k xs) (without k ys) (without_same k xs ys h)

-- an extension of an extension is one
extends_further : (k : ℕ) (ks : List ℕ) (x y z : Point) → pos 0 <ℤ y.q → ExtendsAt ks x y → IsExtension k y z → ExtendsAt (k ∷ ks) x z
extends_further k ks x y z hy h e = record {
  positive = e.positive;
  agrees = λ i.
      let zs : List ℤ = without_each ks (without k z.p) in
      let far : y.q *ℤ number_at zs i ≡ z.q *ℤ number_at (without_each ks y.p) i =
      sym (number_at-times y.q zs i) ∙ ap (λ t. number_at t i) (sym (without_each-times ks y.q (without k z.p)))
      ∙ without_each_same ks (times y.q (without k z.p)) (times z.q y.p) e.agrees i
      ∙ ap (λ t. number_at t i) (without_each-times ks z.q y.p) ∙ number_at-times z.q (without_each ks y.p) i in
      let near : x.q *ℤ number_at (without_each ks y.p) i ≡ y.q *ℤ number_at x.p i =
      sym (number_at-times x.q (without_each ks y.p) i) ∙ h.agrees i ∙ number_at-times y.q x.p i in
      number_at-times x.q zs i
      ∙ *ℤ_cancel (x.q *ℤ number_at zs i) (z.q *ℤ number_at x.p i) y.q hy
      (by_equations (x.q ∷ y.q ∷ z.q ∷ number_at zs i ∷ number_at (without_each ks y.p) i ∷ number_at x.p i ∷ []) (x.q ⋆ null far ⊞ z.q ⋆ null near)
      (search reads depth 40) tt)
      ∙ sym (number_at-times z.q x.p i);
}

-- the extension at a column, and what it extends at the others
abbrev without_column_point : ℕ → Point → Point
without_column_point k z = record { p = without k z.p; q = z.q }

extends_here : (k : ℕ) (z : Point) → pos 0 <ℤ z.q → IsExtension k (without_column_point k z) z
extends_here k z up = record { positive = up; agrees = λ i j. number_at (times z.q (without k z.p)) i }

extends_rest : (k : ℕ) (ks : List ℕ) (x z : Point) → ExtendsAt (k ∷ ks) x z → ExtendsAt ks x (without_column_point k z)
extends_rest k ks x z h = record { positive = h.positive; agrees = h.agrees }

-- Columns eliminated one after another, each list thinned: a point meets the list that is left exactly where some extension
-- meets the given list.
pub columns_exact : (v : Version) (most n : ℕ) (rows : List Row) (ks : List ℕ) (steps : List (List Dropped)) → ColumnStepsHold v most n rows ks steps
    → (x : Point) → pos 0 <ℤ x.q → MeetsAll (projected_columns v n rows ks steps) x ↔ ((y : Point) × ExtendsAt ks x y × MeetsAll rows y)
columns_exact v most n rows [] [] h x up = (
  λ m. (x, record { positive = up; agrees = λ i j. number_at (times x.q x.p) i }, m),
  λ (y, e, m). All-weaker (λ r. Meets r y) (λ r. Meets r x) (λ r k. same_fractions_met x y r up e.positive e.agrees k) rows m,
)
columns_exact v most n rows [] (drops ∷ steps) h x up = absurd h
columns_exact v most n rows (k ∷ ks) [] h x up = absurd h
columns_exact v most n rows (k ∷ ks) (drops ∷ steps) h x up =
    let made : List Row = stepped v k rows in
    let rest = columns_exact v most (pred n) (thinned (pred n) made drops) ks steps h.2 x up in
    let thin : (y : Point) → pos 0 <ℤ y.q → MeetsAll (thinned (pred n) made drops) y
    ↔ MeetsAll made y = λ y hy. thinned_met (pred n) made [] drops y hy h.1 (All-nil (λ r. Meets r y)) in (
      λ m. let (y, e, l) = rest.0 m in let (z, f, o) =
          (step_means v k rows y e.positive).0 ((thin y e.positive).0 l) in (z, extends_further k ks x y z e.positive e f, o),
      λ (z, e, m). rest.1 (
        without_column_point k z,
        extends_rest k ks x z e,
        (thin (without_column_point k z) (extends_rest k ks x z e).positive).1
            ((step_means v k rows (without_column_point k z) (extends_rest k ks x z e).positive).1 (z, extends_here k z e.positive, m)),
      ),
    )
