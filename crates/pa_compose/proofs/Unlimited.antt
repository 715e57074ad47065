-- Where neither the guarantees nor as many rows as each step can make have more bases than the limit of pivots, no hiding uses the pivots up.
use Rattle.std.proofs.Common.{◌≡◌, inl, inr, refl, sym, subst, ◌∙◌, ℕ, ◌≤◌, List, length, Result, Ok, Err, arith}
use Rattle.pa_math.specs.Answers.{IsAnswer, and_then, told_as}
use Rattle.pa_meaning.specs.Contracts.{Name, Contract, ports}
use Rattle.pa_row.specs.declared.place.Place.{Place}
use Rattle.pa_contract.specs.WellFormed.{IsWellFormed}
use Rattle.pa_contract.specs.Merge.{row_count}
use Rattle.pa_cert.specs.Lists.{HiddenAnswer}
use Rattle.pa_elim.specs.declared.fault.ElimFault.{ElimFault}
use Rattle.pa_elim.specs.declared.fault.ElimFault.TheVariants as eliminating
use Rattle.pa_elim.specs.Projecting.{Projection, eliminated_of}
use Rattle.pa_elim.specs.FewBases.{HaveFewBases}
use Rattle.pa_elim.proofs.Unlimited.{eliminated_not_limited}
use Rattle.pa_compose.specs.declared.fault.HideFault.{HideFault}
use Rattle.pa_compose.specs.declared.fault.HideFault.TheVariants as fault
use Rattle.pa_compose.specs.Hiding.{hidden_by, hidden_columns, hidden_names, hidden_rows, hide_fault}
use Rattle.pa_compose.proofs.Columns.{hidden_are_columns, length-hidden}

err_same : {A E : Type 0} (x y : E) → (let r : Result A E = Err x in r) ≡ Err y → x ≡ y
err_same x y h = cc

module _ (limit most : ℕ) (c : Contract) (names : List Name) (small : limit ≤ 4096) (w : IsWellFormed c) (few : row_count c ≤ 4096)
    (bases : HaveFewBases (length c.guarantees) (length (ports c)) (length (hidden_names c names)) limit most) (place : Place) where
  rows_not_limited : hidden_rows c names limit most ≡ Err (fault.PivotLimit place) → ⊥
  rows_not_limited =
      by (eliminated_of limit most (length (ports c)) (hidden_columns c names) c.guarantees)
      (eliminated_not_limited limit most (length (ports c)) (hidden_columns c names) c.guarantees small w.guarantees.columns_fit (omega (arith, few)) w.few
      (hidden_are_columns names c)
      (subst (λ gone. HaveFewBases (length c.guarantees) (length (ports c)) gone limit most) (sym (length-hidden names c)) bases))
    where
      by : (r : Result Projection ElimFault) → ((place : Place) → r ≡ Err (eliminating.PivotLimit place) → ⊥)
          → and_then (told_as hide_fault r) (λ p. Ok (hidden_by c names p)) ≡ Err (fault.PivotLimit place) → ⊥
      by (Ok p) not h = cc
      by (Err eliminating.Memory) not h = cc
      by (Err (eliminating.RowLimit step count)) not h = cc
      by (Err (eliminating.PivotLimit p)) not h = not p refl
      by (Err (eliminating.Wide p)) not h = cc

  pub hidden_unlimited : (result : Result HiddenAnswer HideFault) → IsAnswer fault.Memory (hidden_rows c names limit most) result
      → result ≡ Err (fault.PivotLimit place) → ⊥
  hidden_unlimited (Ok a) answer h = cc
  hidden_unlimited (Err e) (inl free) h = wrong (sym free ∙ err_same {A = HiddenAnswer} e (fault.PivotLimit place) h)
    where
      wrong : fault.Memory ≡ fault.PivotLimit place → ⊥
      wrong h = cc
  hidden_unlimited (Err e) (inr is) h = rows_not_limited (is ∙ h)
