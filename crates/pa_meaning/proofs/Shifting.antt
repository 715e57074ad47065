-- Shifted terms: what is left of a term, with the rows, gives the term back.
use Rattle.std.proofs.Common.{◌≡◌, ◌∙◌, refl, sym, ap, ap₂, subst, ℕ, suc, zero, ◌+◌, List, [], ◌∷◌, ◌++◌, map, take, drop, length, arith}
use Rattle.std.proofs.lemmas.List.{map-append, length-map}
use Rattle.std.proofs.lemmas.List.Elements.{All-nil, All-cons, All-head}
use lib.IntN.{ℤ, pos, negsuc, ◌+ℤ◌, ◌*ℤ◌}
use lib.Signed.{◌≤ℤ◌, ◌<ℤ◌}
use Rattle.pa_ring.specs.Sums.{SameNumbers, dot, times}
use Rattle.pa_ring.proofs.Integers.{gap, ◌∔◌, ≤ℤ-*ℤ_cancel}
use Rattle.pa_ring.proofs.IntegerTactics.{by_le, reads}
use Rattle.pa_ring.proofs.Sums.{dot-sum_of, dot-times, dot_zeros}
use Rattle.pa_meaning.specs.Rows.{Row, Point, Meets, MeetsAll, row_sum, primitive, front_row}
use Rattle.pa_meaning.specs.Weights.{Weights, combined, NoneNegative}
use Rattle.pa_meaning.specs.Contracts.{Name, Behaviour, point_over, Extends}
use Rattle.pa_meaning.proofs.Extensions.{unmoved}
use Rattle.std.specs.List.{AllZip}
use Rattle.pa_ring.specs.Sums.{number_at}
use Rattle.pa_math.specs.Divisors.{gcd_all}
use lib.IntN.{*ℤ-zero}
use Rattle.pa_meaning.specs.Shifting.{less_weighted, Leaves}
use Rattle.pa_meaning.proofs.PrimitiveRows.{number_from_quotient}
use Rattle.pa_meaning.proofs.Farkas.{Meets-combined}

-- the sum of a row of two
pub dot-row_sum : (m : ℤ) (p : Row) (l : ℤ) (n : Row) (ps : List ℤ) → dot (row_sum m p l n).c ps ≡ m *ℤ dot p.c ps +ℤ l *ℤ dot n.c ps
dot-row_sum m p l n ps = dot-sum_of (times m p.c) (times l n.c) ps ∙ ap₂ ◌+ℤ◌ (dot-times m p.c ps) (dot-times l n.c ps)

-- A point that meets the rows and the term less the weighted rows meets the term.
pub Meets-shifted : (t : Row) (rows : List Row) (w : Weights) (x : Point) → pos 0 <ℤ w.den → NoneNegative w.parts → MeetsAll rows x
    → Meets (less_weighted t rows w) x → Meets t x
Meets-shifted t rows w x positive weights met h =
    let sum : Row = combined w.parts rows in
    let others = Meets-combined w.parts rows x weights met in
    record {
      meets = ≤ℤ-*ℤ_cancel (dot t.c x.p) (t.b *ℤ x.q) w.den positive
          (by_le (w.den ∷ dot t.c x.p ∷ t.b ∷ dot sum.c x.p ∷ sum.b ∷ x.q ∷ [])
          (gap (rw (dot-row_sum w.den t (negsuc 0) sum x.p) at h.meets) ∔ gap others.meets) (search reads depth 40) tt);
    }

-- ---- rows that have nothing behind the first columns
dot_front : (cs ps qs : List ℤ) → SameNumbers (drop (length ps) cs) [] → dot (take (length ps) cs) ps ≡ dot cs (ps ++ qs)
dot_front [] [] qs h = refl
dot_front (c ∷ cs) [] qs h = sym (dot_zeros (c ∷ cs) qs h)
dot_front [] (p ∷ ps) qs h = refl
dot_front (c ∷ cs) (p ∷ ps) qs h = ap (λ t. c *ℤ p +ℤ t) (dot_front cs ps qs h)

-- a behaviour reads such a row at the first names
pub front_sum : (first others : List Name) (v : Behaviour) (cs : List ℤ) → SameNumbers (drop (length first) cs) []
    → dot (take (length first) cs) (map v.value first) ≡ dot cs (map v.value (first ++ others))
front_sum first others v cs h =
    let long : length (map v.value first) ≡ length first = length-map first v.value in
    let here : dot (take (length (map v.value first)) cs) (map v.value first) ≡ dot cs (map v.value first ++ map v.value others) =
    dot_front cs (map v.value first) (map v.value others) (subst (λ n. SameNumbers (drop n cs) []) (sym long) h) in
    subst (λ n. dot (take n cs) (map v.value first) ≡ dot cs (map v.value first ++ map v.value others)) long here
    ∙ ap (dot cs) (sym (map-append v.value first others))

pub met_from_front : (first others : List Name) (v : Behaviour) (r : Row) → SameNumbers (drop (length first) r.c) []
    → Meets (front_row (length first) r) (point_over first v) → Meets r (point_over (first ++ others) v)
met_from_front first others v r h m = record { meets = subst (λ s. s ≤ℤ (r.b *ℤ v.den)) (front_sum first others v r.c h) m.meets }

pub front_from_met : (first others : List Name) (v : Behaviour) (r : Row) → SameNumbers (drop (length first) r.c) []
    → Meets r (point_over (first ++ others) v) → Meets (front_row (length first) r) (point_over first v)
front_from_met first others v r h m = record { meets = subst (λ s. s ≤ℤ (r.b *ℤ v.den)) (sym (front_sum first others v r.c h)) m.meets }

-- two behaviours that agree at the first names both meet it, or neither does
pub front_row_both : (first others : List Name) (v w : Behaviour) (r : Row) → SameNumbers (drop (length first) r.c) [] → Extends first v w
    → Meets r (point_over (first ++ others) v) → Meets r (point_over (first ++ others) w)
front_row_both first others v w r h e m =
    met_from_front first others w r h (All-head (λ r. Meets r (point_over first w)) (front_row (length first) r) []
    (unmoved first (front_row (length first) r ∷ []) w v (λ k d less. sym (e k d less))
    (All-cons (λ r. Meets r (point_over first v)) (front_row (length first) r) [] (front_from_met first others v r h m)
    (All-nil (λ r. Meets r (point_over first v))))))

-- ---- what is left of a term
-- where a primitive row has nothing behind the first columns, the row has nothing there
pub drop_number : (n i : ℕ) (xs : List ℤ) → number_at (drop n xs) i ≡ number_at xs (i + n)
drop_number zero i xs = let e : i ≡ i + 0 = omega arith in ap (number_at xs) e
drop_number (suc n) i [] = refl
drop_number (suc n) i (x ∷ xs) = let e : suc (i + n) ≡ i + suc n = omega arith in drop_number n i xs ∙ ap (number_at (x ∷ xs)) e

pub zero_behind : (n : ℕ) (r : Row) → SameNumbers (drop n (primitive r).c) [] → SameNumbers (drop n r.c) []
zero_behind n r h i =
    drop_number n i r.c
    ∙ number_from_quotient (r.b ∷ r.c) (suc (i + n))
    ∙ ap (λ t. gcd_all (r.b ∷ r.c) *ℤ t) (sym (drop_number n i (primitive r).c) ∙ h i)
    ∙ *ℤ-zero (gcd_all (r.b ∷ r.c))

-- ---- lists of terms
module _ (first others : List Name) (v : Behaviour) (rows : List Row) where
  abbrev whole : Point
  whole = point_over (first ++ others) v

  -- a behaviour that meets the rows and what is left of the terms meets the terms
  pub terms_met : (ts : List Row) (ws : List Weights) → AllZip (λ t w. Leaves (length first) rows t w) ts ws → MeetsAll rows whole
      → AllZip (λ t w. Meets (less_weighted t rows w) whole) ts ws → MeetsAll ts whole
  terms_met [] [] h met m = All-nil (λ r. Meets r whole)
  terms_met [] (w ∷ ws) h met m = absurd h
  terms_met (t ∷ ts) [] h met m = absurd h
  terms_met (t ∷ ts) (w ∷ ws) h met m = All-cons (λ r. Meets r whole) t ts (Meets-shifted t rows w whole h.0.positive h.0.weights met m.0)
      (terms_met ts ws h.1 met m.1)
