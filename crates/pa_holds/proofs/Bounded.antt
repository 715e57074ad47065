-- What holds as printed is true: bounds.
use Rattle.std.proofs.Common.{◌≡◌, sym, ap, subst, ◌∙◌, Bool, true, false, List, [], ◌∷◌, length, map, neg_ℤ, arith}
use Rattle.std.proofs.lemmas.Int.{ints}
use Rattle.std.proofs.lemmas.List.Elements.{All-append}
use Rattle.std.specs.List.{IsDistinct}
use Rattle.std.specs.Str.{bytes_eq}
use lib.IntN.{ℤ, pos, ◌+ℤ◌, ◌-ℤ◌, ◌*ℤ◌}
use lib.Signed.{◌≤ℤ◌, ◌<ℤ◌}
use Rattle.pa_ring.specs.Sums.{dot, times}
use Rattle.pa_ring.proofs.Integers.{gap, gap_same, ◌·◌, ◌∔◌, <ℤ-≤ℤ, ≤ℤ-*ℤ_cancel, rise}
use Rattle.pa_ring.proofs.IntegerTactics.{by_le, by_lt, by_ring, reads}
use Rattle.pa_ring.proofs.Lists.{All-append_left, All-append_right}
use Rattle.pa_ring.proofs.Sums.{dot_same, dot-times}
use Rattle.pa_math.specs.Lists.{AreAmong}
use Rattle.pa_meaning.specs.Rows.{Row, Point, Meets, MeetsAll}
use Rattle.pa_meaning.specs.Weights.{Weights, combined}
use Rattle.pa_meaning.specs.Contracts.{Name, Contract, ports, Behaviour, point_over, behaviour_of, coefficient_at}
use Rattle.pa_meaning.specs.Composition.{assumptions_over}
use Rattle.pa_meaning.specs.Bounds.{Goal, IsBetter, MeetsBoth, IsBestValue, IsUnbounded, HasNoBehaviour}
use Rattle.pa_meaning.proofs.Farkas.{Meets-combined, none_meets}
use Rattle.pa_meaning.proofs.NamedRows.{dot-over_names}
use Rattle.pa_meaning.proofs.PartRows.{FitsNames, assumptions_met}
use Rattle.pa_meaning.proofs.Moves.{moved, dot_moved, all_met_moved, past, point_is, among_from}
use Rattle.pa_script.specs.Ops.{IsGoal}
use Rattle.pa_cert.specs.Lists.{Located, Heading}
use Rattle.pa_holds.specs.Refined.{IsAt}
use Rattle.pa_holds.specs.Bounded.{all_rows, goal_row, turned, WeightsBound, HoldsAsValue, over_columns, GetsBetter, HoldsAsUnbounded, HoldsAsNothing}

-- ---- over plain numbers
-- weights whose row is the goal, or its negative, bound its value
bounded_above : (w s cp b d num den q : ℤ) → pos 0 <ℤ w → pos 0 <ℤ den → pos 0 <ℤ d → (w *ℤ cp) ≤ℤ (s *ℤ d) → den *ℤ (s +ℤ b *ℤ w) ≡ num *ℤ q *ℤ w
    → (den *ℤ (cp +ℤ b *ℤ d)) ≤ℤ (num *ℤ (q *ℤ d))
bounded_above w s cp b d num den q hw hden hd h e =
    ≤ℤ-*ℤ_cancel (den *ℤ (cp +ℤ b *ℤ d)) (num *ℤ (q *ℤ d)) w hw
    (by_le (w ∷ s ∷ cp ∷ b ∷ d ∷ num ∷ den ∷ q ∷ []) (<ℤ-≤ℤ hden · gap h ∔ gap_same e · <ℤ-≤ℤ hd) (search reads depth 40) tt)

bounded_below : (w s cp b d num den q : ℤ) → pos 0 <ℤ w → pos 0 <ℤ den → pos 0 <ℤ d → (neg_ℤ w *ℤ cp) ≤ℤ (s *ℤ d)
    → den *ℤ (neg_ℤ s +ℤ b *ℤ w) ≡ num *ℤ q *ℤ w → (num *ℤ (q *ℤ d)) ≤ℤ (den *ℤ (cp +ℤ b *ℤ d))
bounded_below w s cp b d num den q hw hden hd h e =
    ≤ℤ-*ℤ_cancel (num *ℤ (q *ℤ d)) (den *ℤ (cp +ℤ b *ℤ d)) w hw
    (by_le (w ∷ s ∷ cp ∷ b ∷ d ∷ num ∷ den ∷ q ∷ []) (<ℤ-≤ℤ hden · gap h ∔ gap_same (sym e) · <ℤ-≤ℤ hd) (search reads depth 40) tt)

-- a value that rises along a direction passes each whole number
passes_above : (n cp s b d q : ℤ) → pos 0 <ℤ s → (k : ℤ) × (pos 0 ≤ℤ k) × ((n *ℤ (q *ℤ d)) <ℤ (pos 1 *ℤ ((cp +ℤ k *ℤ s) +ℤ b *ℤ d)))
passes_above n cp s b d q up =
    let (k, nonneg, far) = past (n *ℤ (q *ℤ d) -ℤ cp -ℤ b *ℤ d) s up in
    (k, nonneg, by_lt (n ∷ cp ∷ s ∷ b ∷ d ∷ q ∷ k ∷ []) (rise far) (search reads depth 40) tt)

passes_below : (n cp s b d q : ℤ) → s <ℤ pos 0 → (k : ℤ) × (pos 0 ≤ℤ k) × ((pos 1 *ℤ ((cp +ℤ k *ℤ s) +ℤ b *ℤ d)) <ℤ (n *ℤ (q *ℤ d)))
passes_below n cp s b d q down =
    let up : pos 0 <ℤ (pos 0 -ℤ s) = omega (arith, ints) in
    let (k, nonneg, far) = past (cp +ℤ b *ℤ d -ℤ n *ℤ (q *ℤ d)) (pos 0 -ℤ s) up in
    (k, nonneg, by_lt (n ∷ cp ∷ s ∷ b ∷ d ∷ q ∷ k ∷ []) (rise far) (search reads depth 40) tt)

module _ (c : Contract) (goal : Goal) (dc : IsDistinct bytes_eq (ports c)) (dg : IsGoal goal)
    (among : AreAmong bytes_eq goal.names (ports c)) where
  own_fits : FitsNames (ports c) c
  own_fits = record { distinct = dc; among = among_from (ports c) (ports c) (λ n i. i) }

  -- a behaviour meets both lists exactly where it meets all rows over the ports
  both_from_rows : (v : Behaviour) → MeetsAll (all_rows c) (point_over (ports c) v) → MeetsBoth c v
  both_from_rows v h = (
    (assumptions_met (ports c) c v dc own_fits).0 (All-append_left (λ r. Meets r (point_over (ports c) v)) (assumptions_over (ports c) c) c.guarantees h),
    All-append_right (λ r. Meets r (point_over (ports c) v)) (assumptions_over (ports c) c) c.guarantees h,
  )

  rows_from_both : (v : Behaviour) → MeetsBoth c v → MeetsAll (all_rows c) (point_over (ports c) v)
  rows_from_both v h = All-append (λ r. Meets r (point_over (ports c) v)) (assumptions_over (ports c) c) c.guarantees
      ((assumptions_met (ports c) c v dc own_fits).1 h.0) h.1

  -- the goal's sum, over the ports or over its own names
  goal_sum : (f : Name → ℤ) → dot (goal_row c goal) (map f (ports c)) ≡ dot goal.c (map f goal.names)
  goal_sum f = dot-over_names f (ports c) goal.names goal.c dc dg.distinct among

  abbrev here : (p : Located) → IsAt (ports c) p → Behaviour
  here p at = behaviour_of (ports c) p.at at.positive

  here_is : (p : Located) (at : IsAt (ports c) p) → p.at ≡ point_over (ports c) (here p at)
  here_is p at = sym (point_is (ports c) p.at at.positive dc (subst (λ ns. length p.at.p ≡ length ns) at.names at.numbers))

  none_better : (least : Bool) (num den : ℤ) (w : Weights) → pos 0 <ℤ den → WeightsBound (all_rows c) (goal_row c goal) goal.b goal.q least num den w
      → (v : Behaviour) → MeetsBoth c v → ¬ IsBetter least goal v num den
  none_better least num den w up h v met better =
      let sum : Row = combined w.parts (all_rows c) in
      let ps : List ℤ = map v.value (ports c) in
      let all = Meets-combined w.parts (all_rows c) (point_over (ports c) v) h.weights (rows_from_both v met) in
      let same : dot sum.c ps ≡ turned least w.den *ℤ dot goal.c (map v.value goal.names) =
      dot_same sum.c (times (turned least w.den) (goal_row c goal)) ps h.coefficients ∙ dot-times (turned least w.den) (goal_row c goal) ps
      ∙ ap (λ t. turned least w.den *ℤ t) (goal_sum v.value) in
      by least (rw same at all.meets) h.value better
    where
      by : (l : Bool) → (turned l w.den *ℤ dot goal.c (map v.value goal.names)) ≤ℤ ((combined w.parts (all_rows c)).b *ℤ v.den)
          → den *ℤ (turned l (combined w.parts (all_rows c)).b +ℤ goal.b *ℤ w.den) ≡ num *ℤ goal.q *ℤ w.den → IsBetter l goal v num den → ⊥
      by true m e b =
          let bound = bounded_below w.den (combined w.parts (all_rows c)).b (dot goal.c (map v.value goal.names)) goal.b v.den num den goal.q h.positive up
          v.positive m e in
          absurd (omega (arith, ints))
      by false m e b =
          let bound = bounded_above w.den (combined w.parts (all_rows c)).b (dot goal.c (map v.value goal.names)) goal.b v.den num den goal.q h.positive up
          v.positive m e in
          absurd (omega (arith, ints))

  -- A value that holds as printed is the best value.
  pub value_is_true : (least : Bool) (num den : ℤ) (w : Weights) (p : Located) → HoldsAsValue c goal least num den w p → IsBestValue c goal least num den
  value_is_true least num den w p h = record {
    denominator = dg.positive;
    positive = h.positive;
    behaviour = here p h.at;
    meets = both_from_rows (here p h.at) (subst (MeetsAll (all_rows c)) (here_is p h.at) h.met);
    value = let v : Behaviour = here p h.at in
        let sum : dot (goal_row c goal) p.at.p ≡ dot goal.c (map v.value goal.names) = ap (λ (x : Point). dot (goal_row c goal) x.p) (here_is p h.at)
        ∙ goal_sum v.value in
        ap (λ t. den *ℤ (t +ℤ goal.b *ℤ p.at.q)) (sym sum) ∙ h.value ∙ by_ring (num ∷ goal.q ∷ p.at.q ∷ []) (search reads depth 40) tt;
    best = none_better least num den w h.positive h.weights;
  }

  -- A point and a direction that hold as printed show that there is no best value.
  pub unbounded_is_true : (least : Bool) (p : Located) (d : Heading) → HoldsAsUnbounded c goal least p d → IsUnbounded c goal least
  unbounded_is_true least p d h = record { denominator = dg.positive; passes = λ n. by n least h.better }
    where
      at_steps : (k : ℤ) → pos 0 ≤ℤ k → MeetsBoth c (moved (here p h.at) k (coefficient_at d.names d.numbers))
      at_steps k up =
          both_from_rows (moved (here p h.at) k (coefficient_at d.names d.numbers))
          (all_met_moved (ports c) (all_rows c) (here p h.at) k (coefficient_at d.names d.numbers) up h.level
          (subst (MeetsAll (all_rows c)) (here_is p h.at) h.met))

      sum_at : (k : ℤ) → dot goal.c (map (λ m. (here p h.at).value m +ℤ k *ℤ coefficient_at d.names d.numbers m) goal.names)
          ≡ dot goal.c (map (here p h.at).value goal.names) +ℤ k *ℤ dot (goal_row c goal) (over_columns (ports c) d)
      sum_at k = dot_moved goal.c (here p h.at).value (coefficient_at d.names d.numbers) k goal.names
          ∙ ap (λ t. dot goal.c (map (here p h.at).value goal.names) +ℤ k *ℤ t) (sym (goal_sum (coefficient_at d.names d.numbers)))

      by : (n : ℤ) (l : Bool) → GetsBetter l (goal_row c goal) (over_columns (ports c) d) → (w : Behaviour) × MeetsBoth c w × IsBetter l goal w n (pos 1)
      by n true down =
          let (k, up, far) = passes_below n (dot goal.c (map (here p h.at).value goal.names)) (dot (goal_row c goal) (over_columns (ports c) d)) goal.b
          p.at.q goal.q down in (
            moved (here p h.at) k (coefficient_at d.names d.numbers),
            at_steps k up,
            subst (λ t. (pos 1 *ℤ (t +ℤ goal.b *ℤ p.at.q)) <ℤ (n *ℤ (goal.q *ℤ p.at.q))) (sym (sum_at k)) far,
          )
      by n false rises =
          let (k, up, far) = passes_above n (dot goal.c (map (here p h.at).value goal.names)) (dot (goal_row c goal) (over_columns (ports c) d)) goal.b
          p.at.q goal.q rises in (
            moved (here p h.at) k (coefficient_at d.names d.numbers),
            at_steps k up,
            subst (λ t. (n *ℤ (goal.q *ℤ p.at.q)) <ℤ (pos 1 *ℤ (t +ℤ goal.b *ℤ p.at.q))) (sym (sum_at k)) far,
          )

  -- Weights that hold as printed show that there is no behaviour.
  pub nothing_is_true : (w : Weights) → HoldsAsNothing c w → HasNoBehaviour c
  nothing_is_true w h v met = none_meets w (all_rows c) (length (ports c)) (point_over (ports c) v) v.positive h.shown (rows_from_both v met)
