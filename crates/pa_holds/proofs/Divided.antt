-- What holds as printed is true: quotients.
use Rattle.std.proofs.Common.{◌↔◌, refl, sym, subst, List, length, map}
use Rattle.std.proofs.lemmas.List.Elements.{All-append}
use Rattle.std.specs.List.{IsDistinct, AllZip}
use Rattle.std.specs.Str.{bytes_eq}
use Rattle.pa_ring.proofs.Lists.{All-append_left, All-append_right}
use Rattle.pa_math.specs.Lists.{AreApart}
use Rattle.pa_math.proofs.Unions.{IsDistinct-left}
use Rattle.pa_meaning.specs.Rows.{Row, Meets, MeetsAll}
use Rattle.pa_meaning.specs.Contracts.{Name, Contract, ports, Behaviour, point_over, MeetsAssumptions, MeetsGuarantees, Keeps}
use Rattle.pa_meaning.specs.Composition.{assumptions_over, guarantees_over}
use Rattle.pa_meaning.specs.Quotient.{quotient_ports, quotient_names, narrows, IsQuotient}
use Rattle.pa_meaning.specs.Shifting.{less_weighted}
use Rattle.pa_witness.specs.Shifts.{shifted_rows}
use Rattle.pa_witness.specs.Thinning.{thinned}
use Rattle.pa_witness.proofs.Shifts.{leaves_each, shifts_read}
use Rattle.pa_meaning.proofs.Shifting.{terms_met}
use Rattle.pa_witness.proofs.Projection.{thinned_met}
use Rattle.pa_meaning.proofs.PartRows.{MeetsAll-over_names, guarantees_met}
use Rattle.pa_meaning.proofs.QuotientPorts.{quotient_ports_distinct, quotient_names_distinct, whole_inputs_among, part_inputs_among, whole_fits, part_fits}
use Rattle.pa_cert.specs.Lists.{DividedAnswer}
use Rattle.pa_holds.specs.Divided.{asked_rows, HoldsAsDivided}

module _ (whole part : Contract) (dw : IsDistinct bytes_eq (ports whole)) (dp : IsDistinct bytes_eq (ports part))
    (clear : AreApart bytes_eq whole.inputs part.outputs) (a : DividedAnswer) (holds : HoldsAsDivided whole part a) where
  abbrev at_ports : List Name
  at_ports = quotient_ports whole part

  abbrev at_names : List Name
  at_names = quotient_names whole part

  abbrev given : List Row
  given = guarantees_over (quotient_names whole part) part

  abbrev terms : List Row
  terms = guarantees_over (quotient_names whole part) whole

  abbrev left_rows : List Row
  left_rows = shifted_rows (length (quotient_ports whole part)) (guarantees_over (quotient_names whole part) part)
      (guarantees_over (quotient_names whole part) whole) a.shifts

  abbrev kept_rows : List Row
  kept_rows = thinned (length (quotient_ports whole part)) (asked_rows whole part a.shifts) a.thin

  -- what is left of each guarantee of the whole is met
  abbrev LeftMet : Behaviour → Type 0
  LeftMet v = AllZip (λ t w. Meets (less_weighted t (guarantees_over (quotient_names whole part) part) w) (point_over (quotient_names whole part) v))
      (guarantees_over (quotient_names whole part) whole) a.shifts

  part_assumed : (v : Behaviour) → MeetsAll (assumptions_over at_ports part) (point_over at_ports v) ↔ MeetsAssumptions part v
  part_assumed v = MeetsAll-over_names part.inputs at_ports v (IsDistinct-left bytes_eq part.inputs part.outputs dp)
      (quotient_ports_distinct whole part dw dp clear) (part_inputs_among whole part dw dp clear) part.assumptions

  whole_assumed : (v : Behaviour) → MeetsAssumptions whole v → MeetsAll (assumptions_over at_ports whole) (point_over at_ports v)
  whole_assumed v h = (MeetsAll-over_names whole.inputs at_ports v (IsDistinct-left bytes_eq whole.inputs whole.outputs dw)
      (quotient_ports_distinct whole part dw dp clear) (whole_inputs_among whole part dw dp clear) whole.assumptions).1 h

  asks : (v : Behaviour) → MeetsAssumptions whole v → MeetsAll kept_rows (point_over at_ports v) ↔ (MeetsAssumptions part v × LeftMet v)
  asks v h =
      let thin = thinned_met (length at_ports) (asked_rows whole part a.shifts) (assumptions_over at_ports whole) a.thin (point_over at_ports v) v.positive
      holds.thin (whole_assumed v h) in
      let read = shifts_read at_ports part.outputs v given terms a.shifts holds.shifts in (
        λ m. let all = thin.0 m in (
          (part_assumed v).0 (All-append_left (λ r. Meets r (point_over at_ports v)) (assumptions_over at_ports part) left_rows all),
          read.0 (All-append_right (λ r. Meets r (point_over at_ports v)) (assumptions_over at_ports part) left_rows all),
        ),
        λ (m, l). thin.1 (All-append (λ r. Meets r (point_over at_ports v)) (assumptions_over at_ports part) left_rows ((part_assumed v).1 m) (read.1 l)),
      )

  law : (v : Behaviour) → MeetsAssumptions whole v → Keeps part v → (MeetsAssumptions whole v → MeetsAll kept_rows (point_over at_ports v))
      → MeetsAssumptions part v × MeetsGuarantees whole v
  law v h keeps_part keeps_quotient =
      let (assumed, left) = (asks v h).0 (keeps_quotient h) in
      let rows : MeetsAll given (point_over at_names v) =
      (guarantees_met at_names part v (quotient_names_distinct whole part dw dp clear) (part_fits whole part dw dp clear)).1 (keeps_part assumed) in (
        assumed,
        (guarantees_met at_names whole v (quotient_names_distinct whole part dw dp clear) (whole_fits whole part dw dp clear)).0
            (terms_met at_ports part.outputs v given terms a.shifts (leaves_each (length at_ports) given terms a.shifts holds.shifts) rows left),
      )

  -- A quotient that holds as printed is a quotient, and its marks are right.
  pub divided_is_true : IsQuotient whole part a.contract a.narrow
  divided_is_true =
      subst (λ m. IsQuotient whole part a.contract m) (sym holds.narrow)
      (subst (λ q. IsQuotient whole part q (map (narrows q) q.guarantees)) (sym holds.contract) (record {
        inputs = refl;
        outputs = refl;
        assumptions = refl;
        asks = (a.shifts, record { leaves = leaves_each (length at_ports) given terms a.shifts holds.shifts; asks = asks });
        law = law;
        narrow = refl;
      }))
