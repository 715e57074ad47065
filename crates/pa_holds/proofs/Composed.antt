-- What holds as printed is true: composites and hidden outputs.
use Rattle.std.proofs.Common.{◌≡◌, ◌↔◌, refl, sym, subst, ℕ, Bool, true, false, not, List, [], ◌∷◌, ◌++◌, length, filter, flat_map, All}
use Rattle.std.proofs.lemmas.List.Elements.{All-nil, All-cons, All-head, All-contains}
use Rattle.std.specs.List.{IsDistinct}
use Rattle.std.specs.Str.{bytes_eq}
use Rattle.pa_ring.proofs.Lists.{All-from_contains, All-flat_map, All-from_flat_map}
use Rattle.pa_meaning.specs.Rows.{Row, Meets, MeetsAll}
use Rattle.pa_meaning.specs.Contracts.{Name, Contract, ports, Behaviour, point_over, Extends, MeetsAssumptions, MeetsGuarantees, Keeps}
use Rattle.pa_meaning.specs.Composition.{is_among, is_kept, external_inputs, all_outputs, kept_outputs, internal_outputs, names_of, guarantees_over}
use Rattle.pa_meaning.specs.Composition.{IsComposite, IsHidden}
use Rattle.pa_witness.specs.Thinning.{thinned}
use Rattle.pa_witness.specs.Projection.{AreThere, names_left}
use Rattle.pa_witness.proofs.Projection.{thinned_met, projection_exact}
use Rattle.pa_meaning.proofs.PartRows.{FitsNames, guarantees_met}
use Rattle.pa_witness.proofs.Discharged.{discharged_parts_met}
use Rattle.pa_meaning.proofs.CompositionPorts.{names_distinct, parts_fit}
use Rattle.pa_witness.proofs.NamesLeft.{left_are, go_there}
use Rattle.pa_witness.specs.Steps.{Version}
use Rattle.pa_cert.specs.Lists.{HiddenAnswer, ComposedAnswer}
use Rattle.pa_holds.specs.Composed.{Elimination, elimination_of, eliminated_rows, EliminationHolds, HoldsAsHidden}
use Rattle.pa_holds.specs.Composed.{all_guarantees, shifted_assumptions, HoldsAsComposed}

-- ---- eliminated names
-- A behaviour meets the rows that are left exactly where some extension meets the given ones.
pub elimination_exact : (s : Version) (most : ℕ) (names : List Name) (rows : List Row) (gone : List Name) (e : Elimination) → IsDistinct bytes_eq names
    → AreThere names gone → EliminationHolds s most names rows gone e
    → (v : Behaviour) → MeetsAll (eliminated_rows s names rows gone e) (point_over (names_left names gone) v)
    ↔ ((w : Behaviour) × Extends (names_left names gone) v w × MeetsAll rows (point_over names w))
elimination_exact s most names rows gone e distinct there h v =
    let several = projection_exact s most names (thinned (length names) rows e.first) gone e.steps distinct there h.steps v in
    let thin : (w : Behaviour) → MeetsAll (thinned (length names) rows e.first) (point_over names w) ↔ MeetsAll rows (point_over names w) =
    λ w. thinned_met (length names) rows [] e.first (point_over names w) w.positive h.first (All-nil (λ r. Meets r (point_over names w))) in (
      λ m. let (w, x, k) = several.0 m in (w, x, (thin w).0 k),
      λ (w, x, k). several.1 (w, x, (thin w).1 k),
    )

-- the guarantees of all parts, over the names
pub all_guarantees_met : (names : List Name) (parts : List Contract) (v : Behaviour) → IsDistinct bytes_eq names → All (FitsNames names) parts
    → MeetsAll (flat_map (guarantees_over names) parts) (point_over names v) ↔ All (λ p. MeetsGuarantees p v) parts
all_guarantees_met names parts v distinct fit = (
  λ h. All-from_contains (λ p. MeetsGuarantees p v) parts (λ p i. (guarantees_met names p v distinct (All-contains (FitsNames names) parts p fit i)).0
      (All-contains (λ p. MeetsAll (guarantees_over names p) (point_over names v)) parts p
      (All-from_flat_map (λ r. Meets r (point_over names v)) (guarantees_over names) parts h) i)),
  λ h. All-flat_map (λ r. Meets r (point_over names v)) (guarantees_over names) parts
      (All-from_contains (λ p. MeetsAll (guarantees_over names p) (point_over names v)) parts
      (λ p i. (guarantees_met names p v distinct (All-contains (FitsNames names) parts p fit i)).1
      (All-contains (λ p. MeetsGuarantees p v) parts p h i))),
)

-- ---- composites
module _ (s : Version) (most : ℕ) (parts : List Contract) (keep : List Name) (a : ComposedAnswer)
    (distinct : All (λ p. IsDistinct bytes_eq (ports p)) parts) (apart : IsDistinct bytes_eq (all_outputs parts))
    (holds : HoldsAsComposed s most parts keep a) where
  fit : All (FitsNames (names_of parts)) parts
  fit = parts_fit parts distinct

  different : IsDistinct bytes_eq (names_of parts)
  different = names_distinct parts apart

  sound : (v : Behaviour) → MeetsAll (thinned (length (external_inputs parts)) (shifted_assumptions parts a.discharges) a.thin)
      (point_over (external_inputs parts) v) → All (λ p. Keeps p v) parts
      → All (λ p. MeetsAssumptions p v × MeetsGuarantees p v) parts
  sound v assumed keeps =
      let rows : MeetsAll (shifted_assumptions parts a.discharges) (point_over (external_inputs parts) v) =
      (thinned_met (length (external_inputs parts)) (shifted_assumptions parts a.discharges) [] a.thin (point_over (external_inputs parts) v) v.positive
      holds.thin (All-nil (λ r. Meets r (point_over (external_inputs parts) v)))).0 assumed in
      discharged_parts_met parts a.discharges v distinct apart (record { one_each = holds.one_each; hold = holds.discharges }) rows keeps

  left : names_left (names_of parts) (internal_outputs parts keep) ≡ external_inputs parts ++ kept_outputs parts keep
  left = left_are (is_kept parts keep) (λ n. not (is_kept parts keep n)) (λ n. refl) (external_inputs parts) (all_outputs parts) different

  exact : (v : Behaviour) → MeetsAll (eliminated_rows s (names_of parts) (all_guarantees parts) (internal_outputs parts keep) (elimination_of a.steps))
      (point_over (external_inputs parts ++ kept_outputs parts keep) v)
      ↔ ((w : Behaviour) × Extends (external_inputs parts ++ kept_outputs parts keep) v w × All (λ p. MeetsGuarantees p w) parts)
  exact v =
      let there : AreThere (names_of parts) (internal_outputs parts keep) =
      go_there (is_kept parts keep) (λ n. not (is_kept parts keep n)) (λ n. refl) (external_inputs parts) (all_outputs parts) different in
      let some = subst (λ ns. MeetsAll (eliminated_rows s (names_of parts) (all_guarantees parts) (internal_outputs parts keep) (elimination_of a.steps))
      (point_over ns v) ↔ ((w : Behaviour) × Extends ns v w × MeetsAll (all_guarantees parts) (point_over (names_of parts) w))) left
      (elimination_exact s most (names_of parts) (all_guarantees parts) (internal_outputs parts keep) (elimination_of a.steps) different there
      holds.elimination v) in (
        λ m. let (w, x, k) = some.0 m in (w, x, (all_guarantees_met (names_of parts) parts w different fit).0 k),
        λ (w, x, k). some.1 (w, x, (all_guarantees_met (names_of parts) parts w different fit).1 k),
      )

  -- A composite that holds as printed is the composite of its parts.
  pub composed_is_true : IsComposite parts keep a.contract
  composed_is_true = subst (IsComposite parts keep) (sym holds.contract) (record { inputs = refl; outputs = refl; sound = sound; exact = exact })

-- ---- hidden outputs
goes_or_stays : (b : Bool) → b ≡ not (not b)
goes_or_stays true = refl
goes_or_stays false = refl

-- Hidden outputs that hold as printed are hidden.
pub hidden_is_true : (s : Version) (most : ℕ) (c : Contract) (names : List Name) (a : HiddenAnswer) → IsDistinct bytes_eq (ports c)
    → HoldsAsHidden s most c names a → IsHidden c names a.contract
hidden_is_true s most c names a distinct h =
    subst (IsHidden c names) (sym h.contract) (record { inputs = refl; outputs = refl; assumptions = refl; exact = exact })
  where
    either : (n : Name) → is_among names n ≡ not (not (is_among names n))
    either n = goes_or_stays (is_among names n)

    some : (v : Behaviour) → MeetsAll (eliminated_rows s (ports c) c.guarantees (filter (is_among names) c.outputs) (elimination_of a.steps))
        (point_over (c.inputs ++ filter (λ n. not (is_among names n)) c.outputs) v)
        ↔ ((w : Behaviour) × Extends (c.inputs ++ filter (λ n. not (is_among names n)) c.outputs) v w × MeetsGuarantees c w)
    some v = subst (λ ns. MeetsAll (eliminated_rows s (ports c) c.guarantees (filter (is_among names) c.outputs) (elimination_of a.steps)) (point_over ns v)
        ↔ ((w : Behaviour) × Extends ns v w × MeetsGuarantees c w))
        (left_are (λ n. not (is_among names n)) (is_among names) either c.inputs c.outputs distinct)
        (elimination_exact s most (ports c) c.guarantees (filter (is_among names) c.outputs) (elimination_of a.steps) distinct
        (go_there (λ n. not (is_among names n)) (is_among names) either c.inputs c.outputs distinct) h.elimination v)

    exact : (v : Behaviour) → MeetsAll (eliminated_rows s (ports c) c.guarantees (filter (is_among names) c.outputs) (elimination_of a.steps))
        (point_over (c.inputs ++ filter (λ n. not (is_among names n)) c.outputs) v)
        ↔ ((w : Behaviour) × Extends (c.inputs ++ filter (λ n. not (is_among names n)) c.outputs) v w × All (λ p. MeetsGuarantees p w) (c ∷ []))
    exact v = (
      λ m. let (w, x, k) = (some v).0 m in (w, x, All-cons (λ p. MeetsGuarantees p w) c [] k (All-nil (λ p. MeetsGuarantees p w))),
      λ (w, x, k). (some v).1 (w, x, All-head (λ p. MeetsGuarantees p w) c [] k),
    )
