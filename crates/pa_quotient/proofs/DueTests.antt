-- The tests of a quotient before its tasks, one after another.
use Rattle.std.proofs.Common.{◌≡◌, refl, sym, ap₂, subst, ◌∙◌, ℕ, ◌+◌, ◌<◌, ◌≤◌, true, false, nat_lt, length, Option, None, Err, arith}
use Rattle.std.proofs.lemmas.Bool.Decides.{nat_tests}
use Rattle.std.specs.List.{IsDistinct}
use Rattle.std.specs.Str.{bytes_eq}
use Rattle.pa_meaning.specs.Contracts.{Name, Contract}
use Rattle.pa_meaning.specs.Quotient.{quotient_ports, quotient_names}
use Rattle.pa_meaning.proofs.QuotientPorts.{quotient_ports_distinct}
use Rattle.pa_names.specs.Names.{most_ports}
use Rattle.pa_contract.specs.Merge.{row_count, most_rows}
use Rattle.pa_contract.specs.Nominal.{Nominal}
use Rattle.pa_contract.specs.WellFormed.{IsWellFormed}
use Rattle.pa_holds.specs.Refusals.{first_shared}
use Rattle.pa_holds.proofs.Refusals.{none_shared}
use Rattle.pa_quotient.specs.declared.fault.QuotientFault.TheVariants as fault
use Rattle.pa_quotient.specs.Dividing.{divided_of, divided_with}
use Rattle.pa_quotient.specs.Seen.{AreNamesOf, CanDivide, QuotientNames}
use Rattle.pa_quotient.proofs.Defined.{none_due}

-- no output of the part is found among the inputs of the whole
pub unshared : (whole part w p : Contract) (found : Option Name) → w ≡ whole → p ≡ part → found ≡ first_shared w.inputs p.outputs → found ≡ None
    → first_shared whole.inputs part.outputs ≡ None
unshared whole part w p found mine theirs is none =
    ap₂ (λ (w p : Contract). first_shared w.inputs p.outputs) (sym mine) (sym theirs) ∙ sym is ∙ none

module _ (whole part : Contract) (none : first_shared whole.inputs part.outputs ≡ None) where
  -- no two ports of the quotient are equal
  pub ports_different : IsWellFormed whole → IsWellFormed part → IsDistinct bytes_eq (quotient_ports whole part)
  ports_different whole_formed part_formed =
      quotient_ports_distinct whole part whole_formed.distinct part_formed.distinct (none_shared whole.inputs part.outputs none)

  -- ---- with this many names, and this many rows
  module _ (nominal : Nominal) (most n : ℕ) (names : n ≡ length (quotient_names whole part)) where
    pub too_many_names : most_ports < n → divided_of whole part nominal most ≡ Err (fault.VariableLimit n)
    too_many_names above =
        let wide : nat_lt most_ports (length (quotient_names whole part)) ≡ true = grind (arith, nat_tests) in
        subst (λ m. divided_of whole part nominal most ≡ Err (fault.VariableLimit m)) (sym names) (rw (none, wide) refl)

    module _ (k : ℕ) (rows : k ≡ row_count whole + row_count part) (within : n ≤ most_ports) where
      narrow : nat_lt most_ports (length (quotient_names whole part)) ≡ false
      narrow = grind (arith, nat_tests)

      pub too_many_rows : most_rows < k → divided_of whole part nominal most ≡ Err (fault.Load k)
      too_many_rows above =
          let long : nat_lt most_rows (row_count whole + row_count part) ≡ true = grind (arith, nat_tests) in
          subst (λ m. divided_of whole part nominal most ≡ Err (fault.Load m)) (sym rows) (rw (none, narrow, long) refl)

      pub within_limits : k ≤ most_rows → divided_of whole part nominal most ≡ divided_with whole part nominal most
      within_limits few =
          let short : nat_lt most_rows (row_count whole + row_count part) ≡ false = grind (arith, nat_tests) in rw (none, narrow, short) refl

      pub can_divide : k ≤ most_rows → IsWellFormed whole → IsWellFormed part → (ns : QuotientNames) → AreNamesOf whole part ns → CanDivide whole part ns
      can_divide few whole_formed part_formed ns are = record {
        names_are = are;
        whole_formed = whole_formed;
        part_formed = part_formed;
        none = none_due whole part none (omega (arith, names, within)) (omega (arith, rows, few));
        short = omega (arith, names, within);
        few = omega (arith, rows, few);
      }
