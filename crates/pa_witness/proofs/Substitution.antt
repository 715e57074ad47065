-- An equality substituted: a point meets the new rows exactly where some extension meets the old ones.
use Rattle.std.proofs.Common.{◌≡◌, refl, sym, ap, ap₂, ◌∙◌, subst, ◌⊎◌, inl, inr, true≢false, ℕ, zero, suc, ◌+◌, ◌<◌, Bool, true, false, not}
use Rattle.std.proofs.Common.{◌||◌, cond, List, [], ◌∷◌, length, map, All, int_lt, nat_eq, arith}
use Rattle.std.proofs.lemmas.Int.{ints}
use Rattle.std.proofs.lemmas.Bool.{cond-true, cond-false}
use Rattle.std.proofs.lemmas.Bool.Decides.{Decides-eqb, Decides-int_eq}
use Rattle.std.proofs.lemmas.List.Elements.{All-nil, All-cons, All-head, All-tail, All-map, All-append, All-weaker}
use Rattle.std.specs.Ordering.{int_eq}
use lib.IntN.{ℤ, pos, negsuc, ◌+ℤ◌, ◌-ℤ◌, ◌*ℤ◌, neg_ℤ}
use lib.Signed.{◌≤ℤ◌, ◌<ℤ◌}
use Rattle.pa_ring.specs.Sums.{number_at, dot, without, times}
use Rattle.pa_ring.proofs.Integers.{gap, ◌·◌, ◌∔◌, <ℤ-≤ℤ, ≤ℤ-*ℤ_cancel}
use Rattle.pa_ring.proofs.IntegerTactics.{by_le, by_ring, reads}
use Rattle.pa_ring.proofs.Sums.{number_at-times, without-times, dot-times}
use Rattle.pa_ring.proofs.Lists.{All-append_left, All-append_right, All-from_map, All-filter_where, All-from_filter}
use Rattle.pa_meaning.specs.Rows.{Row, Point, Meets, MeetsAll, row_at, without_column}
use Rattle.pa_witness.specs.Elimination.{cancelled, zeros_at}
use Rattle.pa_witness.specs.Thinning.{is_place_of, without_places}
use Rattle.pa_witness.proofs.Columns.{Line, Room}
use Rattle.pa_witness.proofs.Thinning.{All-without_places}
use Rattle.pa_witness.proofs.Elimination.{line, Left, RoomWithAll, StepMet, cancelled_room, zero_met, is_below, test_below, step_met, step_from_met}
use Rattle.pa_witness.proofs.Elimination.{extension_from_step, step_from_extension}
use Rattle.pa_witness.specs.Equalities.{negative}
use Rattle.pa_witness.specs.Steps.{kept_at, others_at, substituted, substituted_at, IsElimination}

-- ---- rows but those at some places
-- what holds of the rows at the other places, and of each row at these, holds of all
All-from_without : (P : Row → Type 0) (gone : List ℕ) (at : ℕ) (rows : List Row) → All P (without_places gone at rows)
    → ((i : ℕ) → i < length rows → is_place_of gone (at + i) ≡ true → P (row_at rows i)) → All P rows
All-from_without P gone at [] h k = All-nil P
All-from_without P gone at (r ∷ rows) h k =
    by (is_place_of gone at) refl h (λ g. All-from_without P gone (suc at) rows g
    (λ i l t. k (suc i) (omega arith) (subst (λ j. is_place_of gone j ≡ true) (omega arith) t)))
  where
    by : (b : Bool) → is_place_of gone at ≡ b → All P (cond b (without_places gone (suc at) rows) (r ∷ without_places gone (suc at) rows))
        → (All P (without_places gone (suc at) rows) → All P rows) → All P (r ∷ rows)
    by true e g rest = All-cons P r rows (k 0 (omega arith) (subst (λ j. is_place_of gone j ≡ true) (omega arith) e)) (rest g)
    by false e g rest = All-cons P r rows (All-head P r (without_places gone (suc at) rows) g) (rest (All-tail P r (without_places gone (suc at) rows) g))

-- ---- the equality at a point
-- the second line is the first one times -1
record AreOpposite (p n : Line) : Type 0 where
  a : n.a ≡ neg_ℤ p.a
  s : n.s ≡ neg_ℤ p.s

opposite_sum : (a s : ℤ) → neg_ℤ (neg_ℤ a) *ℤ s +ℤ a *ℤ neg_ℤ s ≡ pos 0
opposite_sum a s = by_ring (a ∷ s ∷ []) (search reads depth 40) tt

-- the two leave room for each other
room_itself : (p n : Line) → AreOpposite p n → Room p n
room_itself p n h = record { room = rw (h.a, h.s) (subst (λ t. t ≤ℤ pos 0) (sym (opposite_sum p.a p.s)) (omega (arith, ints))) }

-- a row above the equality and a row below it leave room for each other
room_between : (p n q m : Line) → pos 0 <ℤ p.a → AreOpposite p n → pos 0 <ℤ q.a → m.a <ℤ pos 0 → Room q n → Room p m → Room q m
room_between p n q m up h above below e f = record {
  room = ≤ℤ-*ℤ_cancel (neg_ℤ m.a *ℤ q.s +ℤ q.a *ℤ m.s) (pos 0) p.a up
      (by_le (p.a ∷ p.s ∷ q.a ∷ q.s ∷ m.a ∷ m.s ∷ []) (gap (rw (h.a, h.s) at e.room) · gap (<ℤ-≤ℤ below) ∔ gap f.room · <ℤ-≤ℤ above) (search reads depth 40)
      tt);
}

negatives_are : (xs : List ℤ) → map neg_ℤ xs ≡ times (negsuc 0) xs
negatives_are [] = refl
negatives_are (x ∷ xs) = ap₂ (λ y ys. y ∷ ys) (by_ring (x ∷ []) (search reads depth 40) tt) (negatives_are xs)

pub number_at-negative : (k : ℕ) (r : Row) → number_at (negative r).c k ≡ neg_ℤ (number_at r.c k)
number_at-negative k r = ap (λ t. number_at t k) (negatives_are r.c) ∙ number_at-times (negsuc 0) r.c k
    ∙ by_ring (number_at r.c k ∷ []) (search reads depth 40) tt

line_negative : (k : ℕ) (x : Point) (r : Row) → AreOpposite (line k x r) (line k x (negative r))
line_negative k x r = record {
  a = number_at-negative k r;
  s = ap (λ t. dot (without k t) x.p -ℤ neg_ℤ r.b *ℤ x.q) (negatives_are r.c)
      ∙ ap (λ t. dot t x.p -ℤ neg_ℤ r.b *ℤ x.q) (without-times k (negsuc 0) r.c)
      ∙ ap (λ t. t -ℤ neg_ℤ r.b *ℤ x.q) (dot-times (negsuc 0) (without k r.c) x.p)
      ∙ by_ring (dot (without k r.c) x.p ∷ r.b ∷ x.q ∷ []) (search reads depth 40) tt;
}

-- ---- the rows of the step
-- the rows at the places i and j are an equality of column k
pub record IsEqualityAt (k : ℕ) (rows : List Row) (i j : ℕ) : Type 0 where
  pub first : i < length rows
  pub second : j < length rows
  pub positive : pos 0 <ℤ number_at (row_at rows i).c k
  pub opposite : row_at rows j ≡ negative (row_at rows i)

by_test : {X : Type 0} (t : Bool) → (t ≡ true → X) → (t ≡ false → X) → X
by_test true f g = f refl
by_test false f g = g refl

pub All-row_at : (P : Row → Type 0) (rows : List Row) (i : ℕ) → i < length rows → All P rows → P (row_at rows i)
All-row_at P [] i l h = absurd (omega arith)
All-row_at P (r ∷ rows) zero l h = All-head P r rows h
All-row_at P (r ∷ rows) (suc i) l h = All-row_at P rows i (omega arith) (All-tail P r rows h)

All-both : (P Q : Row → Type 0) (rows : List Row) → All P rows → All Q rows → All (λ r. P r × Q r) rows
All-both P Q [] h k = All-nil (λ r. P r × Q r)
All-both P Q (r ∷ rows) h k = All-cons (λ r. P r × Q r) r rows (All-head P r rows h, All-head Q r rows k)
    (All-both P Q rows (All-tail P r rows h) (All-tail Q r rows k))

is_one_of : (i j m : ℕ) → is_place_of (i ∷ j ∷ []) m ≡ true → (m ≡ i) ⊎ (m ≡ j)
is_one_of i j m h = by_test (nat_eq m i) (λ e. inl ((Decides-eqb m i).0 e)) (λ f. inr ((Decides-eqb m j).0 (last (nat_eq m i) (nat_eq m j) f h)))
  where
    last : (a b : Bool) → a ≡ false → (a || (b || false)) ≡ true → b ≡ true
    last true b e h = absurd (cc)
    last false true e h = refl
    last false false e h = h

module _ (k : ℕ) (rows : List Row) (i j : ℕ) (is : IsEqualityAt k rows i j) (x : Point) where
  abbrev p : Row
  p = row_at rows i

  abbrev n : Row
  n = row_at rows j

  opposite : AreOpposite (line k x p) (line k x n)
  opposite = subst (λ (r : Row). AreOpposite (line k x p) (line k x r)) (sym is.opposite) (line_negative k x p)

  below : number_at n.c k <ℤ pos 0
  below = let e = opposite.a in let up = is.positive in omega (arith, ints)

  -- a row leaves room with that row of the equality that has the other sign
  abbrev Above : Row → Type 0
  Above r = pos 0 <ℤ number_at r.c k → Room (line k x r) (line k x n)

  abbrev Below : Row → Type 0
  Below r = number_at r.c k <ℤ pos 0 → Room (line k x p) (line k x r)

  abbrev Met : Row → Type 0
  Met r = Left k x (substituted k p n r)

  related : (r : Row) → not (int_eq (number_at r.c k) (pos 0)) ≡ true → Met r → Above r × Below r
  related r s h = by_test (int_lt (pos 0) (number_at r.c k))
      (λ t. let up = is_below (pos 0) (number_at r.c k) t in (
        λ _. (cancelled_room k r n x up).0 (subst (λ (q : Row). Left k x q)
            (cond-true (int_lt (pos 0) (number_at r.c k)) (cancelled k r n) (cancelled k p r) t) h),
        λ down. absurd (omega (arith, ints)),
      ))
      (λ f. (
        λ up. absurd (true≢false (sym (test_below (pos 0) (number_at r.c k) up) ∙ f)),
        λ down. (cancelled_room k p r x is.positive).0 (subst (λ (q : Row). Left k x q)
            (cond-false (int_lt (pos 0) (number_at r.c k)) (cancelled k r n) (cancelled k p r) f) h),
      ))

  met : (r : Row) → not (int_eq (number_at r.c k) (pos 0)) ≡ true → Above r × Below r → Met r
  met r s h = by_test (int_lt (pos 0) (number_at r.c k))
      (λ t. subst (λ (q : Row). Left k x q) (sym (cond-true (int_lt (pos 0) (number_at r.c k)) (cancelled k r n) (cancelled k p r) t))
      ((cancelled_room k r n x (is_below (pos 0) (number_at r.c k) t)).1 (h.0 (is_below (pos 0) (number_at r.c k) t))))
      (λ f. subst (λ (q : Row). Left k x q) (sym (cond-false (int_lt (pos 0) (number_at r.c k)) (cancelled k r n) (cancelled k p r) f))
      ((cancelled_room k p r x is.positive).1 (h.1 (not_above (number_at r.c k) s f))))
    where
      not_above : (a : ℤ) → not (int_eq a (pos 0)) ≡ true → int_lt (pos 0) a ≡ false → a <ℤ pos 0
      not_above a s f = by_test (int_lt a (pos 0)) (λ t. is_below a (pos 0) t) (λ g. grind (arith, ints))

  step_met_from_related : All (λ z. int_eq (number_at z.c k) (pos 0) ≡ true → Left k x z) rows → All (λ r. Above r × Below r) rows → StepMet k rows x
  step_met_from_related zeros all = record {
    pairs = All-weaker (λ r. Above r × Below r) (λ q. pos 0 <ℤ number_at q.c k → RoomWithAll k rows x q)
        (λ q hq up. All-weaker (λ r. Above r × Below r) (λ m. number_at m.c k <ℤ pos 0 → Room (line k x q) (line k x m))
        (λ m hm down. room_between (line k x p) (line k x n) (line k x q) (line k x m) is.positive opposite up down (hq.0 up) (hm.1 down)) rows all) rows all;
    zeros = All-weaker (λ z. int_eq (number_at z.c k) (pos 0) ≡ true → Left k x z) (λ z. number_at z.c k ≡ pos 0 → (line k x z).s ≤ℤ pos 0)
        (λ z h null. (zero_met k z x).0 (h ((Decides-int_eq (number_at z.c k) (pos 0)).1 null))) rows zeros;
  }

  at_gone : (m : ℕ) → m < length rows → is_place_of (i ∷ j ∷ []) (0 + m) ≡ true → not (int_eq (number_at (row_at rows m).c k) (pos 0)) ≡ true
      → Above (row_at rows m) × Below (row_at rows m)
  at_gone m l t s = by (is_one_of i j m (subst (λ o. is_place_of (i ∷ j ∷ []) o ≡ true) (omega arith) t))
    where
      by : (m ≡ i) ⊎ (m ≡ j) → Above (row_at rows m) × Below (row_at rows m)
      by (inl e) = subst (λ o. Above (row_at rows o) × Below (row_at rows o)) (sym e)
          (λ _. room_itself (line k x p) (line k x n) opposite, λ down. let up = is.positive in absurd (omega (arith, ints)))
      by (inr e) = subst (λ o. Above (row_at rows o) × Below (row_at rows o)) (sym e)
          (λ up. let down = below in absurd (omega (arith, ints)), λ _. room_itself (line k x p) (line k x n) opposite)

  from_substituted : MeetsAll (substituted_at k rows (i, j)) x → StepMet k rows x
  from_substituted h =
      let zeros = All-from_map (λ r. Meets r x) (without_column k) (zeros_at k rows)
      (All-append_left (λ r. Meets r x) (kept_at k rows) (map (λ row. without_column k (substituted k p n row)) (others_at k i j rows)) h) in
      let others = All-from_map (λ r. Meets r x) (λ row. without_column k (substituted k p n row)) (others_at k i j rows)
      (All-append_right (λ r. Meets r x) (kept_at k rows) (map (λ row. without_column k (substituted k p n row)) (others_at k i j rows)) h) in
      let there : All (λ r. not (int_eq (number_at r.c k) (pos 0)) ≡ true → Above r × Below r) (without_places (i ∷ j ∷ []) 0 rows) =
      All-weaker (λ r. not (int_eq (number_at r.c k) (pos 0)) ≡ true → Met r) (λ r. not (int_eq (number_at r.c k) (pos 0)) ≡ true → Above r × Below r)
      (λ r g s. related r s (g s))
      (without_places (i ∷ j ∷ []) 0 rows) (All-from_filter Met (λ r. not (int_eq (number_at r.c k) (pos 0))) (without_places (i ∷ j ∷ []) 0 rows) others) in
      let all = All-from_without (λ r. not (int_eq (number_at r.c k) (pos 0)) ≡ true → Above r × Below r) (i ∷ j ∷ []) 0 rows there at_gone in
      step_met_from_related (All-from_filter (Left k x) (λ z. int_eq (number_at z.c k) (pos 0)) rows zeros)
      (All-weaker (λ r. not (int_eq (number_at r.c k) (pos 0)) ≡ true → Above r × Below r) (λ r. Above r × Below r)
      (λ r g. (λ up. (g (positive_nonzero (number_at r.c k) up)).0 up, λ down. (g (negative_nonzero (number_at r.c k) down)).1 down)) rows all)
    where
      positive_nonzero : (a : ℤ) → pos 0 <ℤ a → not (int_eq a (pos 0)) ≡ true
      positive_nonzero a up = by_test (int_eq a (pos 0)) (λ t. absurd (let e = (Decides-int_eq a (pos 0)).0 t in omega (arith, ints))) (λ f. ap not f)

      negative_nonzero : (a : ℤ) → a <ℤ pos 0 → not (int_eq a (pos 0)) ≡ true
      negative_nonzero a down = by_test (int_eq a (pos 0)) (λ t. absurd (let e = (Decides-int_eq a (pos 0)).0 t in omega (arith, ints))) (λ f. ap not f)

  to_substituted : StepMet k rows x → MeetsAll (substituted_at k rows (i, j)) x
  to_substituted h =
      let firsts : All Above rows = All-weaker (λ q. pos 0 <ℤ number_at q.c k → RoomWithAll k rows x q) Above
      (λ q g up. All-row_at (λ m. number_at m.c k <ℤ pos 0 → Room (line k x q) (line k x m)) rows j is.second (g up) below) rows h.pairs in
      let seconds : All Below rows = All-row_at (λ q. pos 0 <ℤ number_at q.c k → RoomWithAll k rows x q) rows i is.first h.pairs is.positive in
      All-append (λ r. Meets r x) (kept_at k rows) (map (λ row. without_column k (substituted k p n row)) (others_at k i j rows))
      (All-map (λ r. Meets r x) (without_column k) (zeros_at k rows) (All-filter_where (Left k x) (λ z. int_eq (number_at z.c k) (pos 0)) rows
      (All-weaker (λ z. number_at z.c k ≡ pos 0 → (line k x z).s ≤ℤ pos 0) (λ z. int_eq (number_at z.c k) (pos 0) ≡ true → Left k x z)
      (λ z g t. (zero_met k z x).1 (g ((Decides-int_eq (number_at z.c k) (pos 0)).0 t))) rows h.zeros)))
      (All-map (λ r. Meets r x) (λ row. without_column k (substituted k p n row)) (others_at k i j rows)
      (All-filter_where Met (λ r. not (int_eq (number_at r.c k) (pos 0))) (without_places (i ∷ j ∷ []) 0 rows)
      (All-without_places (λ r. not (int_eq (number_at r.c k) (pos 0)) ≡ true → Met r) (i ∷ j ∷ []) 0 rows
      (All-weaker (λ r. Above r × Below r) (λ r. not (int_eq (number_at r.c k) (pos 0)) ≡ true → Met r) (λ r g s. met r s g) rows
      (All-both Above Below rows firsts seconds)))))

-- ---- the theorem
-- A point meets the rows into which an equality is substituted exactly where some extension meets the old list.
pub substitution_step : (k : ℕ) (rows : List Row) (i j : ℕ) → IsEqualityAt k rows i j → IsElimination k rows (substituted_at k rows (i, j))
substitution_step k rows i j is x up = (
  λ h. extension_from_step k rows x up (step_from_met k rows x (from_substituted k rows i j is x h)),
  λ (y, e, h). to_substituted k rows i j is x (step_met k rows x (step_from_extension k rows x y up e h)),
)
