-- Rows that are needless at sight: a list and the cleaned list are met by the same points.
use Rattle.std.proofs.Common.{◌≡◌, ◌↔◌, refl, subst, sym, ap, ◌∙◌, ℕ, zero, suc, ◌⊎◌, inl, inr, Bool, true, false, not, ◌&&◌, ◌||◌, cond, List, [], ◌∷◌}
use Rattle.std.proofs.Common.{All, filter, int_le, int_lt, true≢false, arith}
use Rattle.std.proofs.lemmas.Int.{ints}
use Rattle.std.proofs.lemmas.Bool.Decides.{Decides-int_eq}
use Rattle.std.proofs.lemmas.Slice.Eq.{slice_eq-Decides}
use Rattle.std.proofs.lemmas.List.Elements.{All-nil, All-cons, All-head, All-tail, All-weaker}
use Rattle.std.specs.List.{list_any, list_all}
use Rattle.std.specs.Ordering.{int_eq}
use Rattle.std.specs.Cmp.Lexicographic.{pointwise}
use lib.IntN.{ℤ, pos, ◌*ℤ◌}
use lib.Signed.{◌≤ℤ◌, ◌<ℤ◌}
use Rattle.pa_ring.specs.Sums.{SameNumbers, dot, times}
use Rattle.pa_ring.proofs.Integers.{gap, ◌·◌, ◌∔◌, by_sign, <ℤ-≤ℤ, ≤ℤ-*ℤ_cancel}
use Rattle.pa_ring.proofs.IntegerTactics.{by_le, reads}
use Rattle.pa_ring.proofs.Lists.{All-filter_where, All-from_filter}
use Rattle.pa_ring.proofs.Sums.{dot_zeros, dot-times, dot_same, number_at-times}
use Rattle.pa_math.specs.Divisors.{gcd_all, quotients}
use Rattle.pa_math.proofs.ListDivisors.{gcd_all_zero}
use Rattle.pa_meaning.specs.Rows.{Row, Point, Meets, MeetsAll}
use Rattle.pa_meaning.specs.Weights.{impossible}
use Rattle.pa_witness.specs.Thinning.{is_constant, is_impossible, are_parallel, is_within, is_well_within, tightest, cleaned}
use Rattle.pa_meaning.proofs.Farkas.{contradiction_unmet, impossible_is_contradiction}
use Rattle.pa_meaning.proofs.PrimitiveRows.{number_from_quotient}

-- ---- tests of both kinds
by_test : {X : Type 0} (t : Bool) → (t ≡ true → X) → (t ≡ false → X) → X
by_test true f g = f refl
by_test false f g = g refl

left_true : (a b : Bool) → (a && b) ≡ true → a ≡ true
left_true true b h = refl
left_true false b h = absurd (cc)

right_true : (a b : Bool) → (a && b) ≡ true → b ≡ true
right_true true b h = h
right_true false b h = absurd (cc)

-- ---- constant rows
pub constant_zeros : (cs : List ℤ) → list_all (λ z. int_eq z (pos 0)) cs ≡ true → SameNumbers cs []
constant_zeros [] h i = refl
constant_zeros (c ∷ cs) h zero = (Decides-int_eq c (pos 0)).0 (left_true (int_eq c (pos 0)) (list_all (λ z. int_eq z (pos 0)) cs) h)
constant_zeros (c ∷ cs) h (suc i) = constant_zeros cs (right_true (int_eq c (pos 0)) (list_all (λ z. int_eq z (pos 0)) cs) h) i

-- a row that is not constant has a positive greatest common divisor
pub nonconstant : (r : Row) → is_constant r ≡ false → pos 0 <ℤ gcd_all r.c
nonconstant r h = up r.c h
  where
    constant : (cs : List ℤ) → All (λ x. x ≡ pos 0) cs → list_all (λ z. int_eq z (pos 0)) cs ≡ true
    constant [] z = refl
    constant (c ∷ cs) z = rw ((Decides-int_eq c (pos 0)).1 (All-head (λ x. x ≡ pos 0) c cs z)) (constant cs (All-tail (λ x. x ≡ pos 0) c cs z))

    up : (cs : List ℤ) → list_all (λ z. int_eq z (pos 0)) cs ≡ false → pos 0 <ℤ gcd_all cs
    up [] k = absurd (true≢false k)
    up (c ∷ cs) k = by_sign (gcd_all (c ∷ cs)) (λ below. absurd (omega (arith, ints)))
        (λ null. absurd (true≢false (sym (constant (c ∷ cs) (gcd_all_zero (c ∷ cs) null)) ∙ k))) (λ above. above)

-- ---- a row within another
record IsWithin (r s : Row) : Type 0 where
  parallel : quotients (gcd_all r.c) r.c ≡ quotients (gcd_all s.c) s.c
  bound : (s.b *ℤ gcd_all r.c) ≤ℤ (r.b *ℤ gcd_all s.c)

abbrev pub HasCoefficients : Row → Type 0
HasCoefficients r = pos 0 <ℤ gcd_all r.c

pub parallel_lists : (xs ys : List ℤ) → pointwise int_eq xs ys ≡ true → xs ≡ ys
parallel_lists xs ys h = (slice_eq-Decides Decides-int_eq xs ys _ refl).0 h

at_most : (a b : ℤ) → int_le a b ≡ true → a ≤ℤ b
at_most a b h = omega (arith, ints)

below : (a b : ℤ) → int_lt a b ≡ true → a <ℤ b
below a b h = omega (arith, ints)

within_from_test : (r s : Row) → is_within r s ≡ true → IsWithin r s
within_from_test r s h = record {
  parallel = parallel_lists (quotients (gcd_all r.c) r.c) (quotients (gcd_all s.c) s.c)
      (left_true (are_parallel r s) (int_le (s.b *ℤ gcd_all r.c) (r.b *ℤ gcd_all s.c)) h);
  bound = at_most (s.b *ℤ gcd_all r.c) (r.b *ℤ gcd_all s.c) (right_true (are_parallel r s) (int_le (s.b *ℤ gcd_all r.c) (r.b *ℤ gcd_all s.c)) h);
}

less_from_test : (r s : Row) → is_well_within r s ≡ true → (s.b *ℤ gcd_all r.c) <ℤ (r.b *ℤ gcd_all s.c)
less_from_test r s h = below (s.b *ℤ gcd_all r.c) (r.b *ℤ gcd_all s.c) (right_true (are_parallel r s) (int_lt (s.b *ℤ gcd_all r.c) (r.b *ℤ gcd_all s.c)) h)

within_from_less : (r s : Row) → is_well_within r s ≡ true → IsWithin r s
within_from_less r s h = record {
  parallel = parallel_lists (quotients (gcd_all r.c) r.c) (quotients (gcd_all s.c) s.c)
      (left_true (are_parallel r s) (int_lt (s.b *ℤ gcd_all r.c) (r.b *ℤ gcd_all s.c)) h);
  bound = <ℤ-≤ℤ (less_from_test r s h);
}

within_itself : (r : Row) → IsWithin r r
within_itself r = record { parallel = refl; bound = omega (arith, ints) }

within_trans : (r s t : Row) → HasCoefficients r → HasCoefficients s → HasCoefficients t → IsWithin r s → IsWithin s t → IsWithin r t
within_trans r s t hr hs ht h k = record {
  parallel = h.parallel ∙ k.parallel;
  bound = ≤ℤ-*ℤ_cancel (t.b *ℤ gcd_all r.c) (r.b *ℤ gcd_all t.c) (gcd_all s.c) hs
      (by_le (r.b ∷ s.b ∷ t.b ∷ gcd_all r.c ∷ gcd_all s.c ∷ gcd_all t.c ∷ []) (gap h.bound · <ℤ-≤ℤ ht ∔ gap k.bound · <ℤ-≤ℤ hr) (search reads depth 40) tt);
}

dot_quotients : (cs ps : List ℤ) → dot cs ps ≡ gcd_all cs *ℤ dot (quotients (gcd_all cs) cs) ps
dot_quotients cs ps =
    dot_same cs (times (gcd_all cs) (quotients (gcd_all cs) cs)) ps (λ i. number_from_quotient cs i
    ∙ sym (number_at-times (gcd_all cs) (quotients (gcd_all cs) cs) i))
    ∙ dot-times (gcd_all cs) (quotients (gcd_all cs) cs) ps

-- a point that meets a row meets each row that it is within
met_within : (r s : Row) (x : Point) → pos 0 <ℤ x.q → HasCoefficients r → HasCoefficients s → IsWithin r s → Meets s x → Meets r x
met_within r s x up hr hs h m =
    let D : ℤ = dot (quotients (gcd_all s.c) s.c) x.p in
    let left : dot r.c x.p ≡ gcd_all r.c *ℤ D = dot_quotients r.c x.p ∙ ap (λ t. gcd_all r.c *ℤ dot t x.p) h.parallel in
    let right : (gcd_all s.c *ℤ D) ≤ℤ (s.b *ℤ x.q) = rw (dot_quotients s.c x.p) at m.meets in
    record {
      meets = rw left (≤ℤ-*ℤ_cancel (gcd_all r.c *ℤ D) (r.b *ℤ x.q) (gcd_all s.c) hs
          (by_le (gcd_all r.c ∷ gcd_all s.c ∷ D ∷ r.b ∷ s.b ∷ x.q ∷ []) (gap right · <ℤ-≤ℤ hr ∔ gap h.bound · <ℤ-≤ℤ up) (search reads depth 40) tt));
    }

-- ---- each row is within one that is left
abbrev IsIn : Row → List Row → Type 0
IsIn x [] = ⊥
IsIn x (y ∷ ys) = (x ≡ y) ⊎ IsIn x ys

all_in : (P : Row → Type 0) (x : Row) (xs : List Row) → All P xs → IsIn x xs → P x
all_in P x [] h i = absurd i
all_in P x (y ∷ ys) h (inl e) = subst P (sym e) (All-head P y ys h)
all_in P x (y ∷ ys) h (inr i) = all_in P x ys (All-tail P y ys h) i

all_from_in : (P : Row → Type 0) (xs : List Row) → ((x : Row) → IsIn x xs → P x) → All P xs
all_from_in P [] h = All-nil P
all_from_in P (y ∷ ys) h = All-cons P y ys (h y (inl refl)) (all_from_in P ys (λ x i. h x (inr i)))

some_in : (test : Row → Bool) (xs : List Row) → list_any test xs ≡ true → (x : Row) × IsIn x xs × (test x ≡ true)
some_in test [] h = absurd (cc)
some_in test (y ∷ ys) h = by (test y) refl h (some_in test ys)
  where
    by : (b : Bool) → test y ≡ b → (b || list_any test ys) ≡ true → (list_any test ys ≡ true → (x : Row) × IsIn x ys × (test x ≡ true)) → (x : Row)
        × IsIn x (y ∷ ys) × (test x ≡ true)
    by true e h rest = (y, inl refl, e)
    by false e h rest = let (x, i, t) = rest h in (x, inr i, t)

-- some row of the list is within r
abbrev Covers : List Row → Row → Type 0
Covers rows r = (k : Row) × IsIn k rows × IsWithin r k

in_rest : (a k : Row) (rows : List Row) (b : Bool) → IsIn k rows → IsIn k (cond b rows (a ∷ rows))
in_rest a k rows true i = i
in_rest a k rows false i = inr i

kept_first : (a : Row) (rows : List Row) (b : Bool) → b ≡ false → IsIn a (cond b rows (a ∷ rows))
kept_first a rows true h = absurd (true≢false h)
kept_first a rows false h = inl refl

neither : (a b : Bool) → a ≡ false → b ≡ false → (a || b) ≡ false
neither true b h k = h
neither false b h k = k

module _ (before : List Row) (a : Row) (after : List Row) (hb : All HasCoefficients before) (ha : HasCoefficients a) (hs : All HasCoefficients after)
    (hk : All HasCoefficients (tightest (a ∷ before) after))
    (rest : (r : Row) → IsIn r after → Covers (a ∷ before) r ⊎ Covers (tightest (a ∷ before) after) r) where
  abbrev test : Bool
  test = list_any (is_within a) before || list_any (is_well_within a) after

  further : (k : Row) → IsIn k (tightest (a ∷ before) after) → IsIn k (tightest before (a ∷ after))
  further k i = in_rest a k (tightest (a ∷ before) after) test i

  -- the first row, where one after it is well within it
  by_later : (s : Row) → IsIn s after → is_well_within a s ≡ true → Covers (a ∷ before) s ⊎ Covers (tightest (a ∷ before) after) s → Covers before a
      ⊎ Covers (tightest before (a ∷ after)) a
  by_later s i t (inl (k, inl e, w)) = absurd (let less = less_from_test a s t in let more = (subst (IsWithin s) e w).bound in omega (arith, ints))
  by_later s i t (inl (k, inr j, w)) =
      inl (k, j, within_trans a s k ha (all_in HasCoefficients s after hs i) (all_in HasCoefficients k before hb j) (within_from_less a s t) w)
  by_later s i t (inr (k, j, w)) =
      inr (
        k,
        further k j,
        within_trans a s k ha (all_in HasCoefficients s after hs i) (all_in HasCoefficients k (tightest (a ∷ before) after) hk j)
            (within_from_less a s t) w,
      )

  first_covered : Covers before a ⊎ Covers (tightest before (a ∷ after)) a
  first_covered =
      by_test (list_any (is_within a) before)
      (λ t. let (s, i, w) = some_in (is_within a) before t in inl (s, i, within_from_test a s w))
      (λ f. by_test (list_any (is_well_within a) after)
      (λ t. let (s, i, w) = some_in (is_well_within a) after t in by_later s i w (rest s i))
      (λ g. inr (
        a,
        kept_first a (tightest (a ∷ before) after) test (neither (list_any (is_within a) before) (list_any (is_well_within a) after) f g),
        within_itself a,
      )))

  by_first : (r : Row) → HasCoefficients r → IsWithin r a → Covers before a ⊎ Covers (tightest before (a ∷ after)) a → Covers before r
      ⊎ Covers (tightest before (a ∷ after)) r
  by_first r hr h (inl (k, i, w)) = inl (k, i, within_trans r a k hr ha (all_in HasCoefficients k before hb i) h w)
  by_first r hr h (inr (k, i, w)) = inr (k, i, within_trans r a k hr ha (all_in HasCoefficients k (tightest before (a ∷ after)) (coefficients test) i) h w)
    where
      coefficients : (b : Bool) → All HasCoefficients (cond b (tightest (a ∷ before) after) (a ∷ tightest (a ∷ before) after))
      coefficients true = hk
      coefficients false = All-cons HasCoefficients a (tightest (a ∷ before) after) ha hk

  by_rest : (r : Row) → HasCoefficients r → Covers (a ∷ before) r ⊎ Covers (tightest (a ∷ before) after) r → Covers before r
      ⊎ Covers (tightest before (a ∷ after)) r
  by_rest r hr (inl (k, inl e, w)) = by_first r hr (subst (IsWithin r) e w) first_covered
  by_rest r hr (inl (k, inr i, w)) = inl (k, i, w)
  by_rest r hr (inr (k, i, w)) = inr (k, further k i, w)

  covered_step : (r : Row) → IsIn r (a ∷ after) → Covers before r ⊎ Covers (tightest before (a ∷ after)) r
  covered_step r (inl e) = by_first r (subst HasCoefficients (sym e) ha) (subst (IsWithin r) e (within_itself r)) first_covered
  covered_step r (inr i) = by_rest r (all_in HasCoefficients r after hs i) (rest r i)

-- what holds of each row holds of the tightest ones
pub All-tightest : (P : Row → Type 0) (before after : List Row) → All P after → All P (tightest before after)
All-tightest P before [] h = All-nil P
All-tightest P before (r ∷ after) h = by (list_any (is_within r) before || list_any (is_well_within r) after)
    (All-tightest P (r ∷ before) after (All-tail P r after h))
  where
    by : (b : Bool) → All P (tightest (r ∷ before) after) → All P (cond b (tightest (r ∷ before) after) (r ∷ tightest (r ∷ before) after))
    by true rest = rest
    by false rest = All-cons P r (tightest (r ∷ before) after) (All-head P r after h) rest

covered : (before after : List Row) → All HasCoefficients before → All HasCoefficients after → (r : Row) → IsIn r after → Covers before r
    ⊎ Covers (tightest before after) r
covered before [] hb ha r i = absurd i
covered before (a ∷ after) hb ha r i =
    let first : HasCoefficients a = All-head HasCoefficients a after ha in
    let others : All HasCoefficients after = All-tail HasCoefficients a after ha in
    covered_step before a after hb first others (All-tightest HasCoefficients (a ∷ before) after others)
    (covered (a ∷ before) after (All-cons HasCoefficients a before first hb) others) r i

-- a point meets the tightest rows exactly where it meets them all
tightest_met : (rows : List Row) (x : Point) → pos 0 <ℤ x.q → All HasCoefficients rows → MeetsAll (tightest [] rows) x → MeetsAll rows x
tightest_met rows x up h met = all_from_in (λ r. Meets r x) rows (λ r i. by r (all_in HasCoefficients r rows h i)
    (covered [] rows (All-nil HasCoefficients) h r i))
  where
    by : (r : Row) → HasCoefficients r → Covers [] r ⊎ Covers (tightest [] rows) r → Meets r x
    by r hr (inl (k, i, w)) = absurd i
    by r hr (inr (k, i, w)) = met_within r k x up hr (all_in HasCoefficients k (tightest [] rows) (All-tightest HasCoefficients [] rows h) i) w
        (all_in (λ r. Meets r x) k (tightest [] rows) met i)

-- ---- the cleaned list
is_impossible_unmet : (r : Row) (x : Point) → pos 0 <ℤ x.q → is_impossible r ≡ true → Meets r x → ⊥
is_impossible_unmet r x up t m = contradiction_unmet r x up (record {
  coefficients = constant_zeros r.c (left_true (is_constant r) (int_lt r.b (pos 0)) t);
  bound = below r.b (pos 0) (right_true (is_constant r) (int_lt r.b (pos 0)) t);
}) m

constant_met : (r : Row) (x : Point) → pos 0 <ℤ x.q → is_constant r ≡ true → is_impossible r ≡ false → Meets r x
constant_met r x up c f =
    let zero_sum : dot r.c x.p ≡ pos 0 = dot_zeros r.c x.p (constant_zeros r.c c) in
    let up_bound : pos 0 ≤ℤ r.b = by_test (int_lt r.b (pos 0)) (λ t. absurd (true≢false (sym (rw c (rw t refl)) ∙ f))) (λ g. grind (arith, ints)) in
    record { meets = rw zero_sum (by_le (r.b ∷ x.q ∷ []) (up_bound · <ℤ-≤ℤ up) (search reads depth 40) tt) }

rest_met : (rows : List Row) (x : Point) → pos 0 <ℤ x.q → list_any is_impossible rows ≡ false → All (λ r. not (is_constant r) ≡ true → Meets r x) rows
    → MeetsAll rows x
rest_met [] x up f h = All-nil (λ r. Meets r x)
rest_met (r ∷ rows) x up f h =
    All-cons (λ r. Meets r x) r rows
    (by_test (is_constant r) (λ c. constant_met r x up c (first_false (is_impossible r) (list_any is_impossible rows) f))
    (λ c. All-head (λ r. not (is_constant r) ≡ true → Meets r x) r rows h (ap not c)))
    (rest_met rows x up (second_false (is_impossible r) (list_any is_impossible rows) f) (All-tail (λ r. not (is_constant r) ≡ true → Meets r x) r rows h))
  where
    first_false : (a b : Bool) → (a || b) ≡ false → a ≡ false
    first_false true b h = h
    first_false false b h = refl

    second_false : (a b : Bool) → (a || b) ≡ false → b ≡ false
    second_false true b h = absurd (cc)
    second_false false b h = h

not_true : (b : Bool) → not b ≡ true → b ≡ false
not_true true h = absurd (cc)
not_true false h = refl

-- the rows with coefficients
abbrev solid : List Row → List Row
solid rows = filter (λ r. not (is_constant r)) rows

all_solid : (rows : List Row) → All HasCoefficients (solid rows)
all_solid rows = All-filter_where HasCoefficients (λ r. not (is_constant r)) rows
    (all_from_in (λ r. not (is_constant r) ≡ true → HasCoefficients r) rows (λ r i c. nonconstant r (not_true (is_constant r) c)))

-- A list and the cleaned list are met by the same points.
pub Meets-cleaned : (n : ℕ) (rows : List Row) (x : Point) → pos 0 <ℤ x.q → MeetsAll (cleaned n rows) x ↔ MeetsAll rows x
Meets-cleaned n rows x up = by (list_any is_impossible rows) refl
  where
    by : (b : Bool) → list_any is_impossible rows ≡ b → MeetsAll (cond b (impossible n ∷ []) (tightest [] (solid rows))) x ↔ MeetsAll rows x
    by true e = (
      λ h. absurd (contradiction_unmet (impossible n) x up (impossible_is_contradiction n) (All-head (λ r. Meets r x) (impossible n) [] h)),
      λ h. let (r, i, t) = some_in is_impossible rows e in absurd (is_impossible_unmet r x up t (all_in (λ r. Meets r x) r rows h i)),
    )
    by false e = (
      λ h. rest_met rows x up e (All-from_filter (λ r. Meets r x) (λ r. not (is_constant r)) rows (tightest_met (solid rows) x up (all_solid rows) h)),
      λ h. All-tightest (λ r. Meets r x) [] (solid rows) (All-filter_where (λ r. Meets r x) (λ r. not (is_constant r)) rows
          (All-weaker (λ r. Meets r x) (λ r. not (is_constant r) ≡ true → Meets r x) (λ r m c. m) rows h)),
    )
