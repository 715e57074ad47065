-- What the parts come to holds of them, and each fault is at a task of the composition: once no refusal by a name or a count is due.
use Rattle.std.proofs.Common.{◌≡◌, sym, ap, ap₂, ◌∙◌, subst, ℕ, ◌+◌, ◌≤◌, List, [], length, sum_by, Result, Ok, Err, arith, length-append}
use Rattle.std.proofs.lemmas.List.Elements.{All-nil}
use Rattle.std.specs.List.{IsDistinct}
use Rattle.std.specs.Str.{bytes_eq}
use Rattle.pa_math.specs.Answers.{and_then, told_as}
use Rattle.pa_meaning.specs.Rows.{Row}
use Rattle.pa_meaning.specs.Contracts.{Name, Contract}
use Rattle.pa_meaning.specs.Composition.{all_outputs, external_inputs, internal_outputs, kept_outputs, names_of}
use Rattle.pa_witness.specs.Steps.{Two}
use Rattle.pa_witness.specs.Thinning.{ThinningHolds, thinned}
use Rattle.pa_witness.proofs.NamedColumns.{places_for}
use Rattle.pa_witness.proofs.Widths.{HasColumns}
use Rattle.pa_contract.specs.Merge.{row_count}
use Rattle.pa_contract.specs.Nominal.{Nominal}
use Rattle.pa_row.specs.declared.place.Group.TheVariants.{Thin}
use Rattle.pa_farkas.specs.Alternatives.{IsThinning, Thinning}
use Rattle.pa_farkas.specs.Answered.{thinned_of}
use Rattle.pa_farkas.proofs.Defined.{Holds}
use Rattle.pa_farkas.proofs.Thinnings.{IsThinFault, thinned_is}
use Rattle.pa_elim.specs.Projecting.{Projection, eliminated_of, in_turn}
use Rattle.pa_elim.specs.Meant.{HoldsAsProjected}
use Rattle.pa_elim.proofs.Defined.{IsElimFault, projected_is}
use Rattle.pa_cert.specs.Tables.{Limits}
use Rattle.pa_holds.specs.Composed.{HoldsAsComposed, all_guarantees}
use Rattle.pa_holds.specs.Limits.{assumption_count, guarantee_count}
use Rattle.pa_parts.specs.Composing.{composite_ports}
use Rattle.pa_discharge.specs.declared.fault.DischargeFault.{DischargeFault}
use Rattle.pa_discharge.specs.Rounds.{Discharged}
use Rattle.pa_discharge.specs.Discharging.{discharged_of}
use Rattle.pa_discharge.specs.Meant.{AreDischargedAt}
use Rattle.pa_discharge.proofs.Defined.{DischargeTells}
use Rattle.pa_compose.specs.declared.compose_fault.ComposeFault.{ComposeFault}
use Rattle.pa_compose.specs.Composing.{Found, answer_by, columns_in, discharge_fault, elim_fault, halted, projected_rows, rows_of, thinned_rows}
use Rattle.pa_compose.proofs.Columns.{length-places_for}
use Rattle.pa_compose.proofs.ComposePorts.{internal_in_turn, internal_there, internal_turns}
use Rattle.pa_compose.proofs.ComposeRows.{guarantee_columns, guarantees_counted, left_columns, left_fewer, rows_counted}
use Rattle.pa_compose.proofs.ComposePlaces.{IsRowsFault, discharge_faults, elim_faults, thin_faults}
use Rattle.pa_compose.proofs.Meant.{IsPrinted, is_printed}

-- a step whose answer holds is followed by the next
followed : {A B E : Type 0} (P : A → Type 0) (Q : E → Type 0) (R : B → Type 0) (r : Result A E) (next : A → Result B E) → Holds P Q r
    → ((a : A) → P a → Holds R Q (next a)) → Holds R Q (and_then r next)
followed P Q R (Ok a) next h k = k a h.ok
followed P Q R (Err e) next h k = record { ok = tt; err = h.err }

-- faults told otherwise
retold : {A E F : Type 0} (P : A → Type 0) (Q : E → Type 0) (R : F → Type 0) (tell : E → F) (r : Result A E) → Holds P Q r → ((e : E) → Q e → R (tell e))
    → Holds P R (told_as tell r)
retold P Q R tell (Ok a) h k = record { ok = h.ok; err = tt }
retold P Q R tell (Err e) h k = record { ok = tt; err = k e h.err }

module _ (most : Limits) (parts : List Contract) (keep : List Name) (nominal : Nominal) where
  abbrev inputs : ℕ
  inputs = length (external_inputs parts)

  abbrev wide : ℕ
  wide = length (names_of parts)

  abbrev gone : List Name
  gone = internal_outputs parts keep

  abbrev IsFault : ComposeFault → Type 0
  IsFault = IsRowsFault most parts keep

  abbrev IsLeft : Projection → Type 0
  IsLeft = HoldsAsProjected most.rows wide (all_guarantees parts) (places_for (names_of parts) gone)

  -- what is found: discharges, what is left of the assumptions, and the guarantees without the internal outputs
  pub record AreRowsOf (f : Found) : Type 0 where
    pub discharged : AreDischargedAt parts nominal f.discharged
    pub thinned : IsThinning (length (external_inputs parts)) f.discharged.assumptions [] f.thinned
    pub projected : HoldsAsProjected most.rows (length (names_of parts)) (all_guarantees parts) (places_for (names_of parts) (internal_outputs parts keep))
        f.projected

  module _ (limit : most.rows ≤ 4096) (apart : IsDistinct bytes_eq (all_outputs parts)) (short : length (names_of parts) ≤ 128)
      (few : sum_by row_count parts ≤ 4096) where
    -- ---- the rounds
    rounds_hold : (r : Result Discharged DischargeFault) → DischargeTells most.pivots parts nominal r
        → Holds (AreDischargedAt parts nominal) IsFault (told_as discharge_fault r)
    rounds_hold (Ok d) h = record { ok = h; err = tt }
    rounds_hold (Err e) h = record { ok = tt; err = discharge_faults most parts keep nominal e h }

    -- ---- the thinning
    thins : (d : Discharged) → AreDischargedAt parts nominal d
        → Holds (IsThinning inputs d.assumptions []) IsFault (thinned_rows inputs most.pivots d.assumptions)
    thins d is =
        let fewer : length d.assumptions ≤ assumption_count parts =
        subst (λ (rows : List Row). length rows ≤ assumption_count parts) (sym is.left) (left_fewer parts d.discharges) in
        let counted = rows_counted parts in
        let both = length-append (external_inputs parts) (all_outputs parts) in
        retold (IsThinning inputs d.assumptions []) (IsThinFault most.pivots Thin (length d.assumptions)) IsFault halted
        (thinned_of inputs d.assumptions [] most.pivots Thin)
        (thinned_is inputs d.assumptions [] (subst (HasColumns inputs) (sym is.left) (left_columns parts d.discharges))
        (All-nil (λ (r : Row). length r.c ≡ inputs)) (omega (arith, fewer, counted, few)) (omega (arith, both, short)) most.pivots Thin)
        (λ e h. thin_faults most parts keep (length d.assumptions) e fewer h)

    -- ---- the elimination
    abbrev Projects : List ℕ → ℕ → ℕ → Type 0
    Projects ks given k =
        Holds (HoldsAsProjected most.rows wide (all_guarantees parts) ks) (IsElimFault most.rows most.pivots given k)
        (eliminated_of most.rows most.pivots wide (columns_in (composite_ports parts keep)) (all_guarantees parts))

    abbrev columns : List ℕ
    columns = in_turn (columns_in (composite_ports parts keep))

    by_columns : Projects columns (length (all_guarantees parts)) (length columns)
    by_columns =
        let counted = rows_counted parts in
        let guarantees = guarantees_counted parts in
        projected_is most.rows most.pivots wide (all_guarantees parts) columns limit (guarantee_columns parts) (omega (arith, counted, guarantees, few)) short
        (internal_turns parts keep apart)

    by_names : Projects (places_for (names_of parts) gone) (guarantee_count parts) (length gone)
    by_names = subst (λ given. Projects (places_for (names_of parts) gone) given (length gone)) (guarantees_counted parts)
        (subst (Projects (places_for (names_of parts) gone) (length (all_guarantees parts))) (length-places_for (names_of parts) gone)
        (subst (λ ks. Projects ks (length (all_guarantees parts)) (length ks)) (internal_in_turn parts keep apart) by_columns))

    projects : Holds IsLeft IsFault (projected_rows (composite_ports parts keep) most.rows most.pivots wide (all_guarantees parts))
    projects =
        retold IsLeft (IsElimFault most.rows most.pivots (guarantee_count parts) (length gone)) IsFault elim_fault
        (eliminated_of most.rows most.pivots wide (columns_in (composite_ports parts keep)) (all_guarantees parts)) by_names (elim_faults most parts keep)

    -- ---- all of them
    found_with : (d : Discharged) → AreDischargedAt parts nominal d → (t : Thinning) → IsThinning inputs d.assumptions [] t
        → Holds AreRowsOf IsFault (and_then (projected_rows (composite_ports parts keep) most.rows most.pivots wide (all_guarantees parts)) (λ p.
        Ok (record { discharged = d; thinned = t; projected = p })))
    found_with d is t thin =
        followed IsLeft IsFault AreRowsOf (projected_rows (composite_ports parts keep) most.rows most.pivots wide (all_guarantees parts))
        (λ p. Ok (record { discharged = d; thinned = t; projected = p })) projects
        (λ p left. record { ok = record { discharged = is; thinned = thin; projected = left }; err = tt })

    thinned_with : (d : Discharged) → AreDischargedAt parts nominal d
        → Holds AreRowsOf IsFault (and_then (thinned_rows inputs most.pivots d.assumptions) (λ t.
        and_then (projected_rows (composite_ports parts keep) most.rows most.pivots wide (all_guarantees parts)) (λ p.
        Ok (record { discharged = d; thinned = t; projected = p }))))
    thinned_with d is =
        followed (IsThinning inputs d.assumptions []) IsFault AreRowsOf (thinned_rows inputs most.pivots d.assumptions) _ (thins d is) (found_with d is)

    pub rows_hold : DischargeTells most.pivots parts nominal (discharged_of parts nominal most.pivots)
        → Holds AreRowsOf IsFault (rows_of parts (composite_ports parts keep) nominal most.rows most.pivots)
    rows_hold tells =
        followed (AreDischargedAt parts nominal) IsFault AreRowsOf (told_as discharge_fault (discharged_of parts nominal most.pivots)) _
        (rounds_hold (discharged_of parts nominal most.pivots) tells) thinned_with

  -- ---- what is printed
  module _ (apart : IsDistinct bytes_eq (all_outputs parts)) where
    printed : (f : Found) → AreRowsOf f → IsPrinted most.rows (names_of parts) (all_guarantees parts) gone f.projected
    printed f h = is_printed most.rows (names_of parts) (all_guarantees parts) gone (internal_there parts keep apart) f.projected h.projected

    pub steps_counted : (f : Found) → AreRowsOf f → length f.projected.steps ≡ length (internal_outputs parts keep) + 1
    steps_counted f h = (printed f h).count

    pub composed_printed : (f : Found) → AreRowsOf f → HoldsAsComposed Two most.rows parts keep (answer_by (composite_ports parts keep) f)
    composed_printed f h =
        let p = printed f h in record {
          one_each = h.discharged.one_each;
          discharges = h.discharged.holds;
          thin = subst (λ (rows : List Row). ThinningHolds inputs rows [] f.thinned.drops) h.discharged.left h.thinned.holds;
          named = p.named;
          elimination = p.elimination;
          contract = ap₂ (λ (assumptions guarantees : List Row). record {
            inputs = external_inputs parts;
            outputs = kept_outputs parts keep;
            assumptions = assumptions;
            guarantees = guarantees;
          }) (h.thinned.rows_are ∙ ap (λ (rows : List Row). thinned inputs rows f.thinned.drops) h.discharged.left) p.left;
        }
