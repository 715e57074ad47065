-- The way from a point that meets the rows to one that breaks the row, along a direction in which the row rises and no other does: the least whole
-- number of steps is one more than the slack over the rise of one step, rounded down.
use Rattle.std.proofs.Common.{◌≡◌, refl, sym, ap, ◌∙◌, subst, Bool, true, false, cond, List, [], ◌∷◌, length, All, Result, Ok, Err, int_lt, int_div}
use Rattle.std.proofs.Common.{negsuc, arith}
use Rattle.std.proofs.lemmas.Int.{ints, quot-rem, rem_below}
use Rattle.std.proofs.lemmas.List.Elements.{All-nil, All-cons, All-head, All-tail}
use Rattle.std.specs.Int.RustNames.{int_rem}
use lib.IntN.{ℤ, pos, ◌+ℤ◌, ◌-ℤ◌, ◌*ℤ◌}
use lib.Signed.{◌≤ℤ◌, ◌<ℤ◌}
use Rattle.pa_ring.specs.Sums.{dot, sum_of, times}
use Rattle.pa_ring.proofs.Integers.{gap, gap_same, rise, ◌·◌, ◌∔◌, ◌⊕◌, ◌⊙◌, <ℤ-≤ℤ}
use Rattle.pa_ring.proofs.IntegerTactics.{by_le, by_lt, by_ring, reads}
use Rattle.pa_ring.proofs.Sums.{dot-sum_of_right, dot-times_right}
use Rattle.std.specs.Result.{IfOk}
use Rattle.pa_math.specs.Answers.{IsAnswer, and_then, told_as}
use Rattle.pa_math.proofs.Answers.{and_then_ok, ok_same, told_as_ok}
use Rattle.pa_frac.specs.declared.wide.Wide.{Wide}
use Rattle.pa_frac.specs.Width.{within}
use Rattle.pa_frac.proofs.Width.{within_ok}
use Rattle.pa_meaning.specs.Rows.{Row, Point, Meets, MeetsAll}
use Rattle.pa_meaning.specs.Directions.{Sticks}
use Rattle.pa_row.specs.declared.fault.RowFault.{RowFault}
use Rattle.pa_row.specs.declared.fault.RowFault.TheVariants as fault
use Rattle.pa_row.specs.Answers.{as_fault}
use Rattle.pa_row.specs.Sums.{dot_in}
use Rattle.pa_row.proofs.Dots.{dot_in_exact}
use Rattle.pa_farkas.specs.Alternatives.{BreaksAt, IsMetAt}
use Rattle.pa_farkas.specs.Answered.{away_in, moved_in, moved_number, rise_of, slack_of, steps_in, walked_in}
use Rattle.pa_farkas.specs.Seen.{IsAway}

value_within : (x z : ℤ) → Ok x ≡ within 126 z → x ≡ z
value_within x z h = (within_ok 126 x z h).1

-- ---- what is formed
moved_number_is : (k p d n : ℤ) → Ok n ≡ moved_number k p d → n ≡ p +ℤ k *ℤ d
moved_number_is k p d n h =
    let (product, is, rest) = and_then_ok (within 126 (k *ℤ d)) (λ product. within 126 (p +ℤ product)) n h in
    value_within n (p +ℤ product) rest ∙ ap (λ z. p +ℤ z) (value_within product (k *ℤ d) is)

moved_is : (k : ℤ) (ps ds ns : List ℤ) → length ps ≡ length ds → Ok ns ≡ moved_in k ps ds → ns ≡ sum_of ps (times k ds)
moved_is k [] [] ns same h = ok_same ns [] h
moved_is k [] (d ∷ ds) ns same h = absurd (omega (arith, same))
moved_is k (p ∷ ps) [] ns same h = absurd (omega (arith, same))
moved_is k (p ∷ ps) (d ∷ ds) ns same h =
    let (n, first, later) = and_then_ok (moved_number k p d) (λ n. and_then (moved_in k ps ds) (λ ns. Ok (n ∷ ns))) ns h in
    let (rest, moved, last) = and_then_ok (moved_in k ps ds) (λ ns. Ok (n ∷ ns)) ns later in
    let head : n ≡ p +ℤ k *ℤ d = moved_number_is k p d n first in
    let tail : rest ≡ sum_of ps (times k ds) = moved_is k ps ds rest (omega (arith, same)) moved in
    ok_same ns (n ∷ rest) last ∙ ap (λ z. z ∷ rest) head ∙ ap (λ zs. (p +ℤ k *ℤ d) ∷ zs) tail

moved_length : (k : ℤ) (ps ds ns : List ℤ) → length ps ≡ length ds → Ok ns ≡ moved_in k ps ds → length ns ≡ length ps
moved_length k [] [] ns same h = ap length (ok_same ns [] h)
moved_length k [] (d ∷ ds) ns same h = absurd (omega (arith, same))
moved_length k (p ∷ ps) [] ns same h = absurd (omega (arith, same))
moved_length k (p ∷ ps) (d ∷ ds) ns same h =
    let (n, first, later) = and_then_ok (moved_number k p d) (λ n. and_then (moved_in k ps ds) (λ ns. Ok (n ∷ ns))) ns h in
    let (rest, moved, last) = and_then_ok (moved_in k ps ds) (λ ns. Ok (n ∷ ns)) ns later in
    let fewer : length rest ≡ length ps = moved_length k ps ds rest (omega (arith, same)) moved in
    let same_length : length ns ≡ length (n ∷ rest) = ap length (ok_same ns (n ∷ rest) last) in
    omega (arith, fewer, same_length)

slack_is : (row : Row) (x : Point) (e : ℤ) → Ok e ≡ slack_of row x → e ≡ row.b *ℤ x.q -ℤ dot row.c x.p
slack_is row x e h =
    let (sum, summed, later) = and_then_ok (dot_in row.c x.p) (λ sum. and_then (within 126 (row.b *ℤ x.q)) (λ bound. within 126 (bound -ℤ sum))) e h in
    let (bound, is, last) = and_then_ok (within 126 (row.b *ℤ x.q)) (λ bound. within 126 (bound -ℤ sum)) e later in
    value_within e (bound -ℤ sum) last ∙ ap (λ s. bound -ℤ s) (dot_in_exact row.c x.p sum summed)
    ∙ ap (λ b. b -ℤ dot row.c x.p) (value_within bound (row.b *ℤ x.q) is)

rise_is : (row : Row) (q : ℤ) (d : List ℤ) (r : ℤ) → Ok r ≡ rise_of row q d → r ≡ dot row.c d *ℤ q
rise_is row q d r h =
    let (once, risen, last) = and_then_ok (dot_in row.c d) (λ once. within 126 (once *ℤ q)) r h in
    value_within r (once *ℤ q) last ∙ ap (λ z. z *ℤ q) (dot_in_exact row.c d once risen)

-- the rise of a step is positive over a positive denominator
pub rise_meant : (row : Row) (q : ℤ) (d : List ℤ) (result : Result ℤ Wide) → pos 0 <ℤ dot row.c d → pos 0 <ℤ q → result ≡ rise_of row q d →
    IfOk result (λ n. pos 0 <ℤ n)
rise_meant row q d (Err e) rises up h = tt
rise_meant row q d (Ok r) rises up h =
    subst (λ z. pos 0 <ℤ z) (sym (rise_is row q d r h)) (by_lt (dot row.c d ∷ q ∷ []) (rises ⊙ up) (search reads depth 40) tt)

steps_are : (row : Row) (e : ℤ) (x : Point) (d : List ℤ) (t : ℤ) → Ok t ≡ steps_in row e x d → t ≡ pos 1 +ℤ int_div e (dot row.c d *ℤ x.q)
steps_are row e x d t h =
    let (rise, risen, last) = and_then_ok (rise_of row x.q d) (λ rise. within 126 (pos 1 +ℤ int_div e rise)) t h in
    value_within t (pos 1 +ℤ int_div e rise) last ∙ ap (λ z. pos 1 +ℤ int_div e z) (rise_is row x.q d rise risen)

-- ---- one more than a quotient that is rounded down passes it
quotient_passed : (a r : ℤ) → pos 0 <ℤ r → a <ℤ ((pos 1 +ℤ int_div a r) *ℤ r)
quotient_passed a r up = by_lt (a ∷ r ∷ int_div a r ∷ int_rem a r ∷ []) (rise small ⊕ gap_same (sym (quot-rem a r))) (search reads depth 40) tt
  where
    small : int_rem a r <ℤ r
    small = (let below = rem_below a r (omega (arith, ints, up)) in omega (arith, ints, below, up))

-- a quotient of numbers that are not negative is not negative
quotient_not_negative : (a r : ℤ) → pos 0 ≤ℤ a → pos 0 <ℤ r → pos 0 ≤ℤ int_div a r
quotient_not_negative (pos a) (pos r) h up = omega (arith, ints)
quotient_not_negative (pos a) (negsuc r) h up = absurd (omega (arith, ints, up))
quotient_not_negative (negsuc a) r h up = absurd (omega (arith, ints, h))

-- ---- away
-- a point with a negative slack breaks the row
slack_breaks : (row : Row) (y : Point) → (row.b *ℤ y.q -ℤ dot row.c y.p) <ℤ pos 0 → Meets row y → ⊥
slack_breaks row y down m = absurd (omega (arith, ints, down, m.meets))

stays : (row : Row) (x : Point) (d : List ℤ) (e : ℤ) → Ok e ≡ slack_of row x → e <ℤ pos 0 → IsAway row x d x
stays row x d e h down = record {
  way = pos 0;
  forward = omega (arith, ints);
  denominator = refl;
  columns = refl;
  sums = λ cs. by_ring (dot cs x.p ∷ dot cs d ∷ []) (search reads depth 40) tt;
  broken = slack_breaks row x (subst (λ z. z <ℤ pos 0) (slack_is row x e h) down);
}

beyond_by : (b s e k t q r : ℤ) → e ≡ b -ℤ s → k ≡ t *ℤ q → e <ℤ (t *ℤ (r *ℤ q)) → (b -ℤ (s +ℤ k *ℤ r)) <ℤ pos 0
beyond_by b s e k t q r e_is k_is passed = by_lt (b ∷ s ∷ e ∷ k ∷ t ∷ q ∷ r ∷ [])
    (rise passed ⊕ (gap_same (sym e_is) ∔ gap_same (ap (λ z. z *ℤ r) (sym k_is)))) (search reads depth 40) tt

walks : (row : Row) (x : Point) (d : List ℤ) (e t : ℤ) (y : Point) → pos 0 <ℤ x.q → length x.p ≡ length d → pos 0 <ℤ dot row.c d →
    Ok e ≡ slack_of row x → pos 0 ≤ℤ e → Ok t ≡ steps_in row e x d → Ok y ≡ walked_in t x d → IsAway row x d y
walks row x d e t y up same rises h low stepped walked =
    let (k, is, later) = and_then_ok (within 126 (t *ℤ x.q)) (λ k. and_then (moved_in k x.p d) (λ p. Ok (point p))) y walked in
    let (p, moved, last) = and_then_ok (moved_in k x.p d) (λ p. Ok (point p)) y later in
    made k p (value_within k (t *ℤ x.q) is) moved (ok_same y (point p) last)
  where
    point : List ℤ → Point
    point p = record { p = p; q = x.q }

    r : ℤ
    r = dot row.c d *ℤ x.q

    r_up : pos 0 <ℤ r
    r_up = by_lt (dot row.c d ∷ x.q ∷ []) (rises ⊙ up) (search reads depth 40) tt

    t_is : t ≡ pos 1 +ℤ int_div e r
    t_is = steps_are row e x d t stepped

    t_up : pos 0 ≤ℤ t
    t_up = (let quotient = quotient_not_negative e r low r_up in omega (arith, ints, quotient, t_is))

    passed : e <ℤ (t *ℤ r)
    passed = subst (λ z. e <ℤ (z *ℤ r)) (sym t_is) (quotient_passed e r r_up)

    made : (k : ℤ) (p : List ℤ) → k ≡ t *ℤ x.q → Ok p ≡ moved_in k x.p d → y ≡ point p → IsAway row x d y
    made k p k_is moved y_is = subst (IsAway row x d) (sym y_is) (record {
      way = k;
      forward = subst (λ z. pos 0 ≤ℤ z) (sym k_is) (by_le (t ∷ x.q ∷ []) (t_up · <ℤ-≤ℤ up) (search reads depth 40) tt);
      denominator = refl;
      columns = moved_length k x.p d p same moved;
      sums = sums;
      broken = slack_breaks row (point p) (subst (λ z. (row.b *ℤ x.q -ℤ z) <ℤ pos 0) (sym (sums row.c)) beyond);
    })
      where
        sums : (cs : List ℤ) → dot cs p ≡ dot cs x.p +ℤ k *ℤ dot cs d
        sums cs = ap (λ ns. dot cs ns) (moved_is k x.p d p same moved) ∙ dot-sum_of_right cs x.p (times k d)
            ∙ ap (λ z. dot cs x.p +ℤ z) (dot-times_right k cs d)

        beyond : (row.b *ℤ x.q -ℤ (dot row.c x.p +ℤ k *ℤ dot row.c d)) <ℤ pos 0
        beyond = beyond_by (row.b *ℤ x.q) (dot row.c x.p) e k t x.q (dot row.c d) (slack_is row x e h) k_is passed

-- the answer is away from the point, where it meets the rows or not
pub away_is : (row : Row) (x : Point) (d : List ℤ) (y : Point) → pos 0 <ℤ x.q → length x.p ≡ length d → pos 0 <ℤ dot row.c d → Ok y ≡ away_in row x d →
    IsAway row x d y
away_is row x d y up same rises h =
    let (e, slack, later) = and_then_ok (slack_of row x)
    (λ slack. cond (int_lt slack (pos 0)) (Ok x) (and_then (steps_in row slack x d) (λ steps. walked_in steps x d))) y h in
    by e slack (int_lt e (pos 0)) refl later
  where
    by : (e : ℤ) → Ok e ≡ slack_of row x → (b : Bool) → int_lt e (pos 0) ≡ b
        → Ok y ≡ cond b (Ok x) (and_then (steps_in row e x d) (λ steps. walked_in steps x d)) → IsAway row x d y
    by e slack true test h = subst (IsAway row x d) (sym (ok_same y x h)) (stays row x d e slack (grind (arith, ints)))
    by e slack false test h =
        let (t, stepped, walked) = and_then_ok (steps_in row e x d) (λ steps. walked_in steps x d) y h in
        walks row x d e t y up same rises slack (grind (arith, ints)) stepped walked

pub away_meant : (row : Row) (x : Point) (d : List ℤ) (result : Result Point RowFault) → pos 0 <ℤ x.q → length x.p ≡ length row.c →
    length d ≡ length row.c → pos 0 <ℤ dot row.c d → IsAnswer fault.Memory (told_as as_fault (away_in row x d)) result → IfOk result (IsAway row x d)
away_meant row x d (Err e) up columns same rises h = tt
away_meant row x d (Ok y) up columns same rises h =
    away_is row x d y up (columns ∙ sym same) rises (sym (told_as_ok as_fault (away_in row x d) y h))

-- What is away from a point that meets the rows, along a direction that sticks the row, meets them and breaks the row.
pub away_breaks : (rows : List Row) (row t : Row) (x : Point) (d : List ℤ) (y : Point) → IsMetAt (length row.c) rows x → Sticks d rows t → IsAway row x d y →
    BreaksAt rows row y
away_breaks rows row t x d y met sticks away = record {
  met = record {
    positive = subst (λ z. pos 0 <ℤ z) (sym away.denominator) met.positive;
    columns = away.columns ∙ met.columns;
    meets = along rows met.meets sticks.level;
  };
  broken = away.broken;
}
  where
    along : (rows : List Row) → MeetsAll rows x → All (λ (r : Row). dot r.c d ≤ℤ pos 0) rows → MeetsAll rows y
    along [] h level = All-nil (λ r. Meets r y)
    along (r ∷ rows) h level =
        let here : dot r.c x.p ≤ℤ (r.b *ℤ x.q) = (All-head (λ r. Meets r x) r rows h).meets in
        let down : dot r.c d ≤ℤ pos 0 = All-head (λ (r : Row). dot r.c d ≤ℤ pos 0) r rows level in
        let sum : dot r.c y.p ≡ dot r.c x.p +ℤ away.way *ℤ dot r.c d = away.sums r.c in
        let still : (dot r.c x.p +ℤ away.way *ℤ dot r.c d) ≤ℤ (r.b *ℤ x.q) =
        by_le (dot r.c x.p ∷ dot r.c d ∷ away.way ∷ r.b ∷ x.q ∷ []) (gap here ∔ away.forward · gap down) (search reads depth 40) tt in
        All-cons (λ r. Meets r y) r rows (record { meets = rw (sum, away.denominator) still })
        (along rows (All-tail (λ r. Meets r x) r rows h) (All-tail (λ (r : Row). dot r.c d ≤ℤ pos 0) r rows level))
