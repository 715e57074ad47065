-- Answers that exclude each other: a definition that lets one answer too many through shows here.
use Rattle.std.proofs.Common.{◌≡◌, sym, subst, ℕ, ◌<◌, Bool, true, false, List, [], ◌∷◌, length, All, neg_ℤ}
use Rattle.std.proofs.lemmas.Int.{by_lt_z}
use Rattle.std.proofs.lemmas.List.Elements.{All-weaker}
use lib.IntN.{ℤ, pos, ◌*ℤ◌}
use lib.Signed.{◌≤ℤ◌, ◌<ℤ◌}
use Rattle.pa_ring.proofs.Integers.{gap, gap_same, ◌·◌, ◌∔◌, rise, ◌⊙◌, ◌⊕◌, <ℤ-≤ℤ, ≤ℤ_antisym, ≤ℤ-*ℤ_cancel}
use Rattle.pa_ring.proofs.IntegerTactics.{by_le, by_lt, reads}
use Rattle.pa_meaning.specs.Rows.{Meets}
use Rattle.pa_meaning.specs.Contracts.{Contract, ports, Behaviour, Extends, point_over, MeetsAssumptions, MeetsGuarantees, Keeps}
use Rattle.pa_meaning.specs.Refinement.{Refines, BreaksAssumption, BreaksGuarantee}
use Rattle.pa_meaning.specs.Bounds.{Goal, value_num, value_den, IsBestValue, IsUnbounded, HasNoBehaviour}
use Rattle.pa_meaning.specs.Composition.{external_inputs, part_at, DischargesParts, IsBrokenSomewhere}
use Rattle.pa_meaning.proofs.Moves.{past}
use Rattle.pa_meaning.proofs.Extensions.{unmoved}
use Rattle.pa_meaning.proofs.Directions.{at_row, at_part}

-- ---- a yes and a no
-- where a behaviour breaks a row, there is no refinement
pub no_yes_beside_a_broken_assumption : (c other : Contract) (i : ℕ) (v : Behaviour) → BreaksAssumption c other i v → ¬ Refines c other
no_yes_beside_a_broken_assumption c other i v b r =
    b.broken (at_row (λ r. Meets r (point_over c.inputs v)) c.assumptions i b.place (r.assumptions v b.assumed))

pub no_yes_beside_a_broken_guarantee : (c other : Contract) (i : ℕ) (v : Behaviour) → BreaksGuarantee c other i v → ¬ Refines c other
no_yes_beside_a_broken_guarantee c other i v b r =
    b.broken (at_row (λ r. Meets r (point_over (ports other) v)) other.guarantees i b.place (r.guarantees v b.assumed b.guaranteed))

-- ---- a best value, none, and no behaviour
-- one value, x / y, is n / d, and is not better than m / e: then n / d is not either
no_more : (n d m e x y : ℤ) → pos 0 <ℤ d → pos 0 <ℤ e → pos 0 <ℤ y → d *ℤ x ≡ n *ℤ y → (e *ℤ x) ≤ℤ (m *ℤ y) → (n *ℤ e) ≤ℤ (m *ℤ d)
no_more n d m e x y hd he hy is h = ≤ℤ-*ℤ_cancel (n *ℤ e) (m *ℤ d) y hy
    (by_le (n ∷ d ∷ m ∷ e ∷ x ∷ y ∷ []) (<ℤ-≤ℤ hd · gap h ∔ <ℤ-≤ℤ he · gap_same (sym is)) (search reads depth 40) tt)

no_less : (n d m e x y : ℤ) → pos 0 <ℤ d → pos 0 <ℤ e → pos 0 <ℤ y → d *ℤ x ≡ n *ℤ y → (m *ℤ y) ≤ℤ (e *ℤ x) → (m *ℤ d) ≤ℤ (n *ℤ e)
no_less n d m e x y hd he hy is h = ≤ℤ-*ℤ_cancel (m *ℤ d) (n *ℤ e) y hy
    (by_le (n ∷ d ∷ m ∷ e ∷ x ∷ y ∷ []) (<ℤ-≤ℤ hd · gap h ∔ <ℤ-≤ℤ he · gap_same is) (search reads depth 40) tt)

module _ (c : Contract) (goal : Goal) where
  below : (n d m e : ℤ) → IsBestValue c goal false n d → IsBestValue c goal false m e → (n *ℤ e) ≤ℤ (m *ℤ d)
  below n d m e h k =
      let v : Behaviour = h.behaviour in
      no_more n d m e (value_num goal v) (value_den goal v) h.positive k.positive (h.denominator ⊙ v.positive) h.value
      (by_lt_z (m *ℤ value_den goal v) (e *ℤ value_num goal v) (λ better. absurd (k.best v h.meets better)) (λ le. le))

  above : (n d m e : ℤ) → IsBestValue c goal true n d → IsBestValue c goal true m e → (m *ℤ d) ≤ℤ (n *ℤ e)
  above n d m e h k =
      let v : Behaviour = h.behaviour in
      no_less n d m e (value_num goal v) (value_den goal v) h.positive k.positive (h.denominator ⊙ v.positive) h.value
      (by_lt_z (e *ℤ value_num goal v) (m *ℤ value_den goal v) (λ better. absurd (k.best v h.meets better)) (λ le. le))

  -- there is one best value
  pub one_best_value : (least : Bool) (n d m e : ℤ) → IsBestValue c goal least n d → IsBestValue c goal least m e → n *ℤ e ≡ m *ℤ d
  one_best_value true n d m e h k = ≤ℤ_antisym (above m e n d k h) (above n d m e h k)
  one_best_value false n d m e h k = ≤ℤ_antisym (below n d m e h k) (below m e n d k h)

  -- where there is a best value, there is not always a better one
  pub best_is_not_unbounded : (least : Bool) (n d : ℤ) → IsBestValue c goal least n d → ¬ IsUnbounded c goal least
  best_is_not_unbounded true n d h u =
      let (k, up, far) = past (neg_ℤ n) d h.positive in
      let (v, met, better) = u.passes (neg_ℤ k) in
      h.best v met (by_lt (n ∷ d ∷ k ∷ value_num goal v ∷ value_den goal v ∷ [])
      (h.positive ⊙ rise better ⊕ <ℤ-≤ℤ (rise far) · <ℤ-≤ℤ (h.denominator ⊙ v.positive)) (search reads depth 40) tt)
  best_is_not_unbounded false n d h u =
      let (k, up, far) = past n d h.positive in
      let (v, met, better) = u.passes k in
      h.best v met (by_lt (n ∷ d ∷ k ∷ value_num goal v ∷ value_den goal v ∷ [])
      (h.positive ⊙ rise better ⊕ <ℤ-≤ℤ (rise far) · <ℤ-≤ℤ (h.denominator ⊙ v.positive)) (search reads depth 40) tt)

  -- both have a behaviour
  pub best_is_not_nothing : (least : Bool) (n d : ℤ) → IsBestValue c goal least n d → ¬ HasNoBehaviour c
  best_is_not_nothing least n d h none = none h.behaviour h.meets

  pub unbounded_is_not_nothing : (least : Bool) → IsUnbounded c goal least → ¬ HasNoBehaviour c
  unbounded_is_not_nothing least u none = let (v, met, better) = u.passes (pos 0) in none v met

-- ---- a composite beside an assumption that is broken from everywhere
-- Such a composite assumes what no behaviour meets that meets the parts' guarantees.
pub no_composite_beside_a_broken_assumption : (parts : List Contract) (i row : ℕ) (c : Contract) → i < length parts
    → row < length (part_at parts i).assumptions → IsBrokenSomewhere parts i row → c.inputs ≡ external_inputs parts → DischargesParts parts c
    → (v : Behaviour) → All (λ p. MeetsGuarantees p v) parts → ¬ MeetsAssumptions c v
no_composite_beside_a_broken_assumption parts i row c within placed broken same sound v met assumed =
    let (w, extends, kept, breaks) = broken v met in
    let back : Extends c.inputs w v = λ k d less. sym (subst (λ names. Extends names v w) (sym same) extends k d less) in
    let there : MeetsAssumptions c w = unmoved c.inputs c.assumptions w v back assumed in
    let all = sound w there (All-weaker (λ p. MeetsGuarantees p w) (λ p. Keeps p w) (λ p g a. g) parts kept) in
    let asked : MeetsAssumptions (part_at parts i) w = (at_part (λ p. MeetsAssumptions p w × MeetsGuarantees p w) parts i within all).0 in
    breaks (at_row (λ r. Meets r (point_over (part_at parts i).inputs w)) (part_at parts i).assumptions row placed asked)
