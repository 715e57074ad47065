-- Several names eliminated: a behaviour meets the list that is left exactly where some extension meets the given list.
use Rattle.std.proofs.Common.{◌≡◌, ◌↔◌, refl, sym, ap, ap₂, ◌∙◌, ℕ, zero, suc, Bool}
use Rattle.std.proofs.Common.{true, false, ◌||◌, cond, List, [], ◌∷◌, length, map, All}
use Rattle.std.proofs.lemmas.List.Elements.{All-nil, All-cons, All-head, All-tail, All-weaker}
use Rattle.std.proofs.lemmas.Slice.Eq.{bytes_eq-Decides}
use Rattle.std.proofs.lemmas.Map.Keys.{IsDistinct-head, IsDistinct-tail, IsDistinct-cons}
use Rattle.std.proofs.lemmas.Cmp.{nat_list_eq_equiv}
use Rattle.std.specs.List.{list_any, IsDistinct, AllByRecursion}
use Rattle.std.specs.Str.{bytes_eq}
use lib.IntN.{ℤ, pos, ◌+ℤ◌, ◌*ℤ◌}
use lib.Signed.{◌<ℤ◌}
use Rattle.pa_ring.specs.Sums.{number_at, dot, times, without}
use Rattle.pa_ring.proofs.Integers.{gap, ◌·◌, <ℤ-≤ℤ, positive-*ℤ}
use Rattle.pa_ring.proofs.IntegerTactics.{by_le, by_ring, reads}
use Rattle.pa_ring.proofs.Sums.{dot-without, dot-times_right, dot_same_right}
use Rattle.pa_math.proofs.Unions.{All-implied}
use Rattle.pa_meaning.specs.Rows.{Row, Point, Meets, MeetsAll}
use Rattle.pa_meaning.specs.Contracts.{Name, Behaviour, point_over, Extends}
use Rattle.pa_meaning.proofs.Extensions.{extension_numbers, extends_itself, extends_trans, unmoved}
use Rattle.pa_witness.specs.Elimination.{IsExtension}
use Rattle.pa_witness.specs.Steps.{Version, stepped}
use Rattle.pa_witness.specs.Thinning.{Dropped, cleaned, thinned, ThinningHolds}
use Rattle.pa_witness.specs.Projection.{place_of, names_left, AreThere, projected, StepsHold}
use Rattle.pa_witness.proofs.Steps.{step_means}
use Rattle.pa_witness.proofs.Thinning.{drops_exact}
use Rattle.pa_witness.proofs.Cleaning.{Meets-cleaned}

-- ---- one name
pub without-map : {A B : Type 0} (f : A → B) (k : ℕ) (xs : List A) → without k (map f xs) ≡ map f (without k xs)
without-map f k [] = refl
without-map f zero (x ∷ xs) = refl
without-map f (suc k) (x ∷ xs) = ap (λ ys. f x ∷ ys) (without-map f k xs)

number_at_place : (f : Name → ℤ) (g : Name) (names : List Name) → list_any (bytes_eq g) names ≡ true → number_at (map f names) (place_of g names) ≡ f g
number_at_place f g [] h = absurd (cc)
number_at_place f g (n ∷ ns) h = by (bytes_eq g n) refl h (number_at_place f g ns)
  where
    by : (b : Bool) → bytes_eq g n ≡ b → (b || list_any (bytes_eq g) ns) ≡ true → (list_any (bytes_eq g) ns ≡ true → number_at (map f ns) (place_of g ns) ≡ f g)
        → number_at (f n ∷ map f ns) (cond b 0 (suc (place_of g ns))) ≡ f g
    by true e h rest = ap f (sym ((bytes_eq-Decides g n).0 e))
    by false e h rest = rest h

-- the names that are left are other names
pub others_differ : (g : Name) (names : List Name) → IsDistinct bytes_eq names → AllByRecursion (λ n. bytes_eq n g ≡ false) (without (place_of g names) names)
others_differ g [] d = tt
others_differ g (n ∷ ns) d = by (bytes_eq g n) refl (others_differ g ns (IsDistinct-tail bytes_eq n ns d))
  where
    by : (b : Bool) → bytes_eq g n ≡ b → AllByRecursion (λ n. bytes_eq n g ≡ false) (without (place_of g ns) ns)
        → AllByRecursion (λ n. bytes_eq n g ≡ false) (without (cond b 0 (suc (place_of g ns))) (n ∷ ns))
    by true e rest =
        let same : g ≡ n = (bytes_eq-Decides g n).0 e in
        All-implied (λ m. bytes_eq n m ≡ false) (λ m. bytes_eq m g ≡ false) (λ m h. ap (bytes_eq m) same ∙ nat_list_eq_equiv.symm m n ∙ h) ns
        (IsDistinct-head bytes_eq n ns d)
    by false e rest = (nat_list_eq_equiv.symm n g ∙ e, rest)

-- what holds of each name holds of those that are left
pub AllByRecursion-without : {A : Type 0} (P : A → Type 0) (k : ℕ) (xs : List A) → AllByRecursion P xs → AllByRecursion P (without k xs)
AllByRecursion-without P k [] h = h
AllByRecursion-without P zero (x ∷ xs) h = h.1
AllByRecursion-without P (suc k) (x ∷ xs) h = (h.0, AllByRecursion-without P k xs h.1)

pub IsDistinct-without : (k : ℕ) (names : List Name) → IsDistinct bytes_eq names → IsDistinct bytes_eq (without k names)
IsDistinct-without k [] d = d
IsDistinct-without zero (n ∷ ns) d = IsDistinct-tail bytes_eq n ns d
IsDistinct-without (suc k) (n ∷ ns) d =
    IsDistinct-cons bytes_eq n (without k ns) (AllByRecursion-without (λ m. bytes_eq n m ≡ false) k ns (IsDistinct-head bytes_eq n ns d))
    (IsDistinct-without k ns (IsDistinct-tail bytes_eq n ns d))

-- the behaviour with another fraction at one name
abbrev with_value : Name → ℤ → (m : ℤ) → pos 0 <ℤ m → Behaviour → Behaviour
with_value g a m up v = record {
  value = λ n. cond (bytes_eq n g) (a *ℤ v.den) (v.value n *ℤ m);
  den = m *ℤ v.den;
  positive = positive-*ℤ m v.den up v.positive;
}

value_here : (g : Name) (a m : ℤ) (up : pos 0 <ℤ m) (v : Behaviour) → (with_value g a m up v).value g ≡ a *ℤ v.den
value_here g a m up v = ap (λ b. cond b (a *ℤ v.den) (v.value g *ℤ m)) (nat_list_eq_equiv.refl g)

values_elsewhere : (g : Name) (a m : ℤ) (up : pos 0 <ℤ m) (v : Behaviour) (names : List Name) → AllByRecursion (λ n. bytes_eq n g ≡ false) names
    → map (with_value g a m up v).value names ≡ times m (map v.value names)
values_elsewhere g a m up v [] h = refl
values_elsewhere g a m up v (n ∷ ns) h =
    let here : cond (bytes_eq n g) (a *ℤ v.den) (v.value n *ℤ m) ≡ m *ℤ v.value n = ap (λ b. cond b (a *ℤ v.den) (v.value n *ℤ m)) h.0
    ∙ by_ring (v.value n ∷ m ∷ []) (search reads depth 40) tt in
    ap₂ ◌∷◌ here (values_elsewhere g a m up v ns h.1)

extends_elsewhere : (g : Name) (a m : ℤ) (up : pos 0 <ℤ m) (v : Behaviour) (names : List Name) → AllByRecursion (λ n. bytes_eq n g ≡ false) names
    → Extends names v (with_value g a m up v)
extends_elsewhere g a m up v [] h = All-nil (λ n. (with_value g a m up v).value n *ℤ v.den ≡ v.value n *ℤ (m *ℤ v.den))
extends_elsewhere g a m up v (n ∷ ns) h =
    let here : cond (bytes_eq n g) (a *ℤ v.den) (v.value n *ℤ m) *ℤ v.den ≡ v.value n *ℤ (m *ℤ v.den) =
    ap (λ b. cond b (a *ℤ v.den) (v.value n *ℤ m) *ℤ v.den) h.0 ∙ by_ring (v.value n ∷ m ∷ v.den ∷ []) (search reads depth 40) tt in
    All-cons (λ n. (with_value g a m up v).value n *ℤ v.den ≡ v.value n *ℤ (m *ℤ v.den)) n ns here (extends_elsewhere g a m up v ns h.1)

module _ (g : Name) (names : List Name) (distinct : IsDistinct bytes_eq names) (there : list_any (bytes_eq g) names ≡ true) where
  abbrev place : ℕ
  place = place_of g names

  abbrev left : List Name
  left = without (place_of g names) names

  -- a point that extends the behaviour is the behaviour with its fraction at the name
  extended_sum : (v : Behaviour) (y : Point) (up : pos 0 <ℤ y.q) (cs : List ℤ) → IsExtension place (point_over left v) y
      → dot cs (map (with_value g (number_at y.p place) y.q up v).value names) ≡ v.den *ℤ dot cs y.p
  extended_sum v y up cs e =
      let w : Behaviour = with_value g (number_at y.p place) y.q up v in
      let ps : List ℤ = map w.value names in
      let here : number_at ps place ≡ number_at y.p place *ℤ v.den = number_at_place w.value g names there ∙ value_here g (number_at y.p place) y.q up v in
      let there : without place ps ≡ times y.q (map v.value left) = without-map w.value place names
      ∙ values_elsewhere g (number_at y.p place) y.q up v left (others_differ g names distinct) in
      let rest : dot (without place cs) (without place ps) ≡ v.den *ℤ dot (without place cs) (without place y.p) =
      ap (dot (without place cs)) there
      ∙ sym (dot_same_right (without place cs) (times v.den (without place y.p)) (times y.q (map v.value left)) e.agrees)
      ∙ dot-times_right v.den (without place cs) (without place y.p) in
      dot-without place cs ps
      ∙ ap₂ (λ s t. number_at cs place *ℤ s +ℤ t) here rest
      ∙ by_ring (number_at cs place ∷ number_at y.p place ∷ v.den ∷ dot (without place cs) (without place y.p) ∷ []) (search reads depth 40) tt
      ∙ ap (λ t. v.den *ℤ t) (sym (dot-without place cs y.p))

  extended_met : (v : Behaviour) (y : Point) (up : pos 0 <ℤ y.q) (r : Row) → IsExtension place (point_over left v) y → Meets r y
      → Meets r (point_over names (with_value g (number_at y.p place) y.q up v))
  extended_met v y up r e h = record {
    meets = rw (extended_sum v y up r.c e) (by_le (v.den ∷ dot r.c y.p ∷ r.b ∷ y.q ∷ []) (<ℤ-≤ℤ v.positive · gap h.meets) (search reads depth 40) tt);
  }

  -- One name eliminated: a behaviour meets the list that is left exactly where some extension meets the given one.
  pub elimination_at_name : (s : Version) (rows : List Row) (v : Behaviour) → MeetsAll (stepped s place rows) (point_over left v)
      ↔ ((w : Behaviour) × Extends left v w × MeetsAll rows (point_over names w))
  elimination_at_name s rows v = (
    λ h. let (y, e, m) = (step_means s place rows (point_over left v) v.positive).0 h in (
      with_value g (number_at y.p place) y.q e.positive v,
      extends_elsewhere g (number_at y.p place) y.q e.positive v left (others_differ g names distinct),
      All-weaker (λ r. Meets r y) (λ r. Meets r (point_over names (with_value g (number_at y.p place) y.q e.positive v)))
          (λ r k. extended_met v y e.positive r e k) rows m,
    ),
    λ (w, e, m). (step_means s place rows (point_over left v) v.positive).1 (point_over names w, extension w e, m),
  )
    where
      extension : (w : Behaviour) → Extends left v w → IsExtension place (point_over left v) (point_over names w)
      extension w e = record {
        positive = w.positive;
        agrees = λ i. ap (λ t. number_at (times v.den t) i) (without-map w.value place names) ∙ ap (λ t. number_at t i) (extension_numbers left v w e);
      }

-- ---- a thinned list
pub thinned_met : (n : ℕ) (rows context : List Row) (drops : List Dropped) (x : Point) → pos 0 <ℤ x.q → ThinningHolds n rows context drops → MeetsAll context x
    → MeetsAll (thinned n rows drops) x ↔ MeetsAll rows x
thinned_met n rows context drops x up h c =
    let some = drops_exact (cleaned n rows) context drops x up h.shown c in
    let all = Meets-cleaned n rows x up in
    (λ m. all.0 (some.0 m), λ m. some.1 (all.1 m))

-- ---- several names
left_among : (P : Name → Type 0) (names gone : List Name) → All P names → All P (names_left names gone)
left_among P names [] h = h
left_among P names (g ∷ gone) h = left_among P (without (place_of g names) names) gone (All-without (place_of g names) names h)
  where
    All-without : (k : ℕ) (xs : List Name) → All P xs → All P (without k xs)
    All-without k [] h = h
    All-without zero (x ∷ xs) h = All-tail P x xs h
    All-without (suc k) (x ∷ xs) h = All-cons P x (without k xs) (All-head P x xs h) (All-without k xs (All-tail P x xs h))

-- Names eliminated one after another, each list thinned: a behaviour meets the list that is left exactly where some
-- extension meets the given list.
pub projection_exact : (s : Version) (most : ℕ) (names : List Name) (rows : List Row) (gone : List Name) (steps : List (List Dropped))
    → IsDistinct bytes_eq names → AreThere names gone → StepsHold s most names rows gone steps
    → (v : Behaviour) → MeetsAll (projected s names rows gone steps) (point_over (names_left names gone) v)
    ↔ ((w : Behaviour) × Extends (names_left names gone) v w × MeetsAll rows (point_over names w))
projection_exact s most names rows [] [] distinct there h v = (
  λ m. (v, extends_itself names v, m),
  λ (w, e, m). unmoved names rows v w e m,
)
projection_exact s most names rows [] (drops ∷ steps) distinct there h v = absurd h
projection_exact s most names rows (g ∷ gone) [] distinct there h v = absurd h
projection_exact s most names rows (g ∷ gone) (drops ∷ steps) distinct there h v =
    let left : List Name = without (place_of g names) names in
    let made : List Row = stepped s (place_of g names) rows in
    let rest = projection_exact s most left (thinned (length left) made drops) gone steps (IsDistinct-without (place_of g names) names distinct) there.1 h.2
    v in
    let thin : (u : Behaviour) → MeetsAll (thinned (length left) made drops) (point_over left u) ↔ MeetsAll made (point_over left u) =
    λ u. thinned_met (length left) made [] drops (point_over left u) u.positive h.1 (All-nil (λ r. Meets r (point_over left u))) in
    let one : (u : Behaviour) → MeetsAll made (point_over left u) ↔ ((w : Behaviour) × Extends left u w × MeetsAll rows (point_over names w)) =
    elimination_at_name g names distinct there.0 s rows in (
      λ m. let (u, e, k) = rest.0 m in let (w, f, l) = (one u).0 ((thin u).0 k) in
          (w, extends_trans (names_left left gone) v u w e (left_among (λ n. w.value n *ℤ u.den ≡ u.value n *ℤ w.den) left gone f), l),
      λ (w, e, m). rest.1 (w, e, (thin w).1 ((one w).1 (w, extends_itself left w, m))),
    )
