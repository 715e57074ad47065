-- Where no problem has more bases than the limit of pivots, no composition uses the pivots up: neither the rounds nor the thinning nor the elimination do.
use Rattle.std.proofs.Common.{◌≡◌, inl, inr, refl, sym, ap, subst, ◌∙◌, ℕ, ◌+◌, ◌≤◌, Bool, true, false, cond, nat_lt, List, [], length, length-append, sum_by}
use Rattle.std.proofs.Common.{All, arith, not, Option, None, Some, Result, Ok, Err}
use Rattle.std.proofs.lemmas.List.Elements.{All-nil}
use Rattle.std.specs.List.{IsDistinct}
use Rattle.std.specs.Str.{bytes_eq}
use Rattle.pa_math.specs.Answers.{IsAnswer, and_then, given, told_as}
use Rattle.pa_meaning.specs.Rows.{Row}
use Rattle.pa_meaning.specs.Contracts.{Name, Contract}
use Rattle.pa_meaning.specs.Composition.{all_outputs, external_inputs, internal_outputs, is_kept, names_of}
use Rattle.pa_contract.specs.Nominal.{IsNominal, Nominal}
use Rattle.pa_contract.specs.Merge.{row_count, most_rows}
use Rattle.pa_contract.specs.WellFormed.{IsWellFormed}
use Rattle.pa_names.specs.Names.{most_ports}
use Rattle.pa_row.specs.declared.place.Place.{Place}
use Rattle.pa_row.specs.declared.place.Group.TheVariants.{Thin}
use Rattle.pa_row.specs.declared.place.Halt.{Halt}
use Rattle.pa_row.specs.declared.place.Halt.TheVariants as halt
use Rattle.pa_cert.specs.Lists.{ComposedAnswer}
use Rattle.pa_holds.specs.Composed.{all_guarantees, shifted_assumptions}
use Rattle.pa_holds.specs.Limits.{assumption_count, guarantee_count}
use Rattle.pa_holds.specs.Refusals.{first_missing, first_repeat}
use Rattle.pa_holds.proofs.Refusals.{none_repeated}
use Rattle.pa_farkas.specs.Alternatives.{Thinning}
use Rattle.pa_farkas.specs.Answered.{thinned_of}
use Rattle.pa_farkas.specs.FewBases.{HasFewBases, IsNotLimited}
use Rattle.pa_farkas.proofs.FilterTurns.{can_start}
use Rattle.pa_farkas.proofs.Unlimited.{fewer_bases, thinned_unlimited}
use Rattle.pa_elim.specs.declared.fault.ElimFault.{ElimFault}
use Rattle.pa_elim.specs.declared.fault.ElimFault.TheVariants as eliminating
use Rattle.pa_elim.specs.Projecting.{Projection, eliminated_of}
use Rattle.pa_elim.specs.FewBases.{HaveFewBases}
use Rattle.pa_elim.proofs.Unlimited.{eliminated_not_limited}
use Rattle.pa_parts.specs.Composing.{Ports, composite_ports}
use Rattle.pa_parts.specs.declared.fault.PortsFault.TheVariants as naming
use Rattle.pa_parts.proofs.Passing.{passing_among}
use Rattle.pa_discharge.specs.declared.fault.DischargeFault.{DischargeFault}
use Rattle.pa_discharge.specs.declared.fault.DischargeFault.TheVariants as discharging
use Rattle.pa_discharge.specs.Rounds.{Discharged}
use Rattle.pa_discharge.specs.Discharging.{discharged_of}
use Rattle.pa_discharge.specs.Meant.{AreDischargedAt}
use Rattle.pa_discharge.proofs.Defined.{DischargeTells, discharge_tells}
use Rattle.pa_discharge.proofs.Unlimited.{discharged_not_limited}
use Rattle.pa_compose.specs.declared.compose_fault.ComposeFault.{ComposeFault}
use Rattle.pa_compose.specs.declared.compose_fault.ComposeFault.TheVariants as fault
use Rattle.pa_compose.specs.Composing.{Found, answer_by, columns_in, composed_of, composed_with, discharge_fault, elim_fault, halted, ports_fault}
use Rattle.pa_compose.specs.Composing.{projected_rows, rows_of, thinned_rows}
use Rattle.pa_compose.specs.Limited.{ComposesByFewBases}
use Rattle.pa_compose.proofs.Columns.{as_many}
use Rattle.pa_compose.proofs.ComposePorts.{internal_columns}
use Rattle.pa_compose.proofs.ComposeRows.{guarantee_columns, guarantees_counted, left_columns, left_fewer, rows_counted}

err_same : {A E : Type 0} (x y : E) → (let r : Result A E = Err x in r) ≡ Err y → x ≡ y
err_same x y h = cc

-- the answer is not that the pivots were used up
abbrev IsNotUsedUp : {A : Type 0} → Result A ComposeFault → Type 0
IsNotUsedUp r = (place : Place) → r ≡ Err (fault.PivotLimit place) → ⊥

-- ---- steps one after another
after_rounds : {B : Type 0} (most : ℕ) (parts : List Contract) (nominal : Nominal) (r : Result Discharged DischargeFault)
    (next : Discharged → Result B ComposeFault) → ((place : Place) → r ≡ Err (discharging.PivotLimit place) → ⊥) → DischargeTells most parts nominal r
    → ((d : Discharged) → AreDischargedAt parts nominal d → IsNotUsedUp (next d)) → IsNotUsedUp (and_then (told_as discharge_fault r) next)
after_rounds most parts nominal (Ok d) next not tells later place h = later d tells place h
after_rounds most parts nominal (Err discharging.Memory) next not tells later place h = cc
after_rounds most parts nominal (Err (discharging.NoMultipliers s)) next not tells later place h = cc
after_rounds most parts nominal (Err (discharging.Circle ss)) next not tells later place h = cc
after_rounds most parts nominal (Err (discharging.PivotLimit p)) next not tells later place h = not p refl
after_rounds most parts nominal (Err (discharging.Wide p)) next not tells later place h = cc

after_thinning : {A B : Type 0} (r : Result A Halt) (next : A → Result B ComposeFault) → IsNotLimited r → ((a : A) → IsNotUsedUp (next a))
    → IsNotUsedUp (and_then (told_as halted r) next)
after_thinning (Ok a) next not later place h = later a place h
after_thinning (Err halt.Memory) next not later place h = cc
after_thinning (Err (halt.PivotLimit p)) next not later place h = not p refl
after_thinning (Err (halt.Wide p)) next not later place h = cc

after_elimination : {A B : Type 0} (r : Result A ElimFault) (next : A → B) → ((place : Place) → r ≡ Err (eliminating.PivotLimit place) → ⊥)
    → IsNotUsedUp (and_then (told_as elim_fault r) (λ a. Ok (next a)))
after_elimination (Ok a) next not place h = cc
after_elimination (Err eliminating.Memory) next not place h = cc
after_elimination (Err (eliminating.RowLimit step count)) next not place h = cc
after_elimination (Err (eliminating.PivotLimit p)) next not place h = not p refl
after_elimination (Err (eliminating.Wide p)) next not place h = cc

module _ (limit most : ℕ) (parts : List Contract) (keep : List Name) (nominal : Nominal) (small : limit ≤ 4096) (formed : All IsWellFormed parts)
    (values : IsNominal nominal) (bases : ComposesByFewBases parts keep limit most) where
  abbrev ports : Ports
  ports = composite_ports parts keep

  module _ (apart : IsDistinct bytes_eq (all_outputs parts)) (short : length (names_of parts) ≤ 128) (few : sum_by row_count parts ≤ 4096) where
    -- ---- the thinning
    thins : (d : Discharged) → AreDischargedAt parts nominal d → IsNotLimited (thinned_of (length (external_inputs parts)) d.assumptions [] most Thin)
    thins d is place h =
        let fewer : length d.assumptions ≤ assumption_count parts =
        subst (λ (rows : List Row). length rows ≤ assumption_count parts) (sym is.left) (left_fewer parts d.discharges) in
        let counted = rows_counted parts in
        let both = length-append (external_inputs parts) (all_outputs parts) in
        let none : length d.assumptions ≡ length d.assumptions + 0 = omega arith in
        thinned_unlimited (length (external_inputs parts)) d.assumptions [] most Thin (Err (halt.PivotLimit place)) (inr h)
        (can_start (length (external_inputs parts)) d.assumptions []
        (subst (λ (rows : List Row). All (λ (r : Row). length r.c ≡ length (external_inputs parts)) rows) (sym is.left) (left_columns parts d.discharges))
        (All-nil (λ (r : Row). length r.c ≡ length (external_inputs parts))) (omega (arith, fewer, counted, few)) (omega (arith, both, short)))
        (subst (λ m. HasFewBases m (length (external_inputs parts)) most) none
        (fewer_bases (length d.assumptions) (assumption_count parts) (length (external_inputs parts)) most fewer bases.1)) place refl

    -- ---- the elimination
    gone_counted : length (columns_in ports) ≡ length (internal_outputs parts keep)
    gone_counted =
        as_many (internal_outputs parts keep) (length (external_inputs parts)) (all_outputs parts)
        ∙ ap length (passing_among (λ n. not (is_kept parts keep n)) (all_outputs parts))

    projects : (place : Place)
        → eliminated_of limit most (length (names_of parts)) (columns_in ports) (all_guarantees parts) ≡ Err (eliminating.PivotLimit place) → ⊥
    projects =
        let counted = rows_counted parts in
        let guarantees = guarantees_counted parts in
        eliminated_not_limited limit most (length (names_of parts)) (columns_in ports) (all_guarantees parts) small (guarantee_columns parts)
        (omega (arith, counted, guarantees, few)) short (internal_columns parts keep)
        (subst (λ gone. HaveFewBases (length (all_guarantees parts)) (length (names_of parts)) gone limit most) (sym gone_counted)
        (subst (λ m. HaveFewBases m (length (names_of parts)) (length (internal_outputs parts keep)) limit most) (sym guarantees) bases.2))

    -- ---- all of them
    rounds : (place : Place) → discharged_of parts nominal most ≡ Err (discharging.PivotLimit place) → ⊥
    rounds = discharged_not_limited parts nominal most
        (subst (λ m. HasFewBases m (length (all_outputs parts)) most) (sym (guarantees_counted parts)) bases.0)

    found : IsNotUsedUp (rows_of parts ports nominal limit most)
    found =
        after_rounds most parts nominal (discharged_of parts nominal most) _ rounds (discharge_tells parts nominal most formed apart few short values)
        (λ d is. after_thinning (thinned_of (length (external_inputs parts)) d.assumptions [] most Thin) _ (thins d is)
        (λ t. after_elimination (eliminated_of limit most (length (names_of parts)) (columns_in ports) (all_guarantees parts))
        (λ p. record { discharged = d; thinned = t; projected = p }) projects))

    with_found : IsNotUsedUp (composed_with parts ports nominal limit most)
    with_found = by (rows_of parts ports nominal limit most) found
      where
        by : (r : Result Found ComposeFault) → IsNotUsedUp r → IsNotUsedUp (and_then r (λ f. Ok (answer_by ports f)))
        by (Ok f) not place h = cc
        by (Err e) not place h = not place (ap Err (err_same {A = ComposedAnswer} e (fault.PivotLimit place) h))

  by_tests : (repeat missing : Option Name) (wide long : Bool) → first_repeat [] (all_outputs parts) ≡ repeat
      → nat_lt most_ports (length (names_of parts)) ≡ wide → nat_lt most_rows (sum_by row_count parts) ≡ long
      → IsNotUsedUp (and_then (told_as ports_fault (given (given
      (cond wide (Err (naming.VariableLimit (length (names_of parts)))) (Ok ports)) missing
      (λ name. Err (naming.NotOutput name))) repeat (λ name. Err (naming.PortClash name))))
      (λ ns. cond long (Err (fault.Load (sum_by row_count parts))) (composed_with parts ns nominal limit most)))
  by_tests (Some name) missing wide long again names rows = λ place h. cc
  by_tests None (Some name) wide long again names rows = λ place h. cc
  by_tests None None true long again names rows = λ place h. cc
  by_tests None None false true again names rows = λ place h. cc
  by_tests None None false false again names rows =
      let short : length (names_of parts) ≤ 128 = grind (arith) in
      let few : sum_by row_count parts ≤ 4096 = grind (arith) in with_found (none_repeated (all_outputs parts) again) short few

  composed_not_limited : IsNotUsedUp (composed_of parts keep nominal limit most)
  composed_not_limited =
      by_tests (first_repeat [] (all_outputs parts)) (first_missing (all_outputs parts) keep) (nat_lt most_ports (length (names_of parts)))
      (nat_lt most_rows (sum_by row_count parts)) refl refl refl

  -- nor does the answer of a call
  pub compose_unlimited : (result : Result ComposedAnswer ComposeFault) → IsAnswer fault.Memory (composed_of parts keep nominal limit most) result
      → IsNotUsedUp result
  compose_unlimited (Ok a) answer place h = cc
  compose_unlimited (Err e) (inl free) place h = wrong (sym free ∙ err_same {A = ComposedAnswer} e (fault.PivotLimit place) h)
    where
      wrong : fault.Memory ≡ fault.PivotLimit place → ⊥
      wrong h = cc
  compose_unlimited (Err e) (inr is) place h = composed_not_limited place (is ∙ h)
