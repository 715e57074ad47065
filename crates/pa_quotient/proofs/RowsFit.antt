-- The rows of a quotient fit its problems: how long they are, and how many there are.
use Rattle.std.proofs.Common.{◌≡◌, sym, ap, subst, ◌∙◌, ℕ, ◌+◌, ◌≤◌, List, length, All, arith, length-append}
use Rattle.std.proofs.lemmas.List.Elements.{All-append, All-weaker}
use Rattle.pa_meaning.specs.Rows.{Row, Point}
use Rattle.pa_meaning.specs.Contracts.{Name, Contract}
use Rattle.pa_meaning.specs.Composition.{assumptions_over, guarantees_over}
use Rattle.pa_meaning.specs.Quotient.{quotient_ports, quotient_names}
use Rattle.pa_parts.proofs.Rows.{assumptions_long, guarantees_long, guarantees_count}
use Rattle.pa_shift.specs.Shifting.{Premises}
use Rattle.pa_trial.specs.Meant.{CanTry}
use Rattle.pa_quotient.specs.Dividing.{asked_with, premises_of}
use Rattle.pa_quotient.specs.Seen.{AreLeft, AreNamesOf, CanDivide, QuotientNames}

-- rows over names are at least as long as a point over fewer names
pub guarantees_reach : (n : ℕ) (names : List Name) (c : Contract) (rows : List Row) → rows ≡ guarantees_over names c → n ≤ length names
    → All (λ (r : Row). n ≤ length r.c) rows
guarantees_reach n names c rows are less =
    subst (All (λ (r : Row). n ≤ length r.c)) (sym are)
    (All-weaker (λ (r : Row). length r.c ≡ length names) (λ (r : Row). n ≤ length r.c) (λ r long. omega (arith, long, less)) (guarantees_over names c)
    (guarantees_long names c))

module _ (whole part : Contract) (names : QuotientNames) where
  -- how many names there are
  pub names_counted : AreNamesOf whole part names → length names.ports + length part.outputs ≡ length (quotient_names whole part)
  names_counted are =
      ap (λ (ports : List Name). length ports + length part.outputs) are.ports_are ∙ sym (length-append (quotient_ports whole part) part.outputs)

  pub can_try : (given : Premises) (x : Point) (terms : List Row) (columns : ℕ) → CanDivide whole part names → length x.p ≡ length (quotient_ports whole part)
      → given ≡ premises_of whole part x → terms ≡ guarantees_over (quotient_names whole part) whole
      → columns ≡ length (quotient_names whole part) → CanTry columns given terms
  can_try given x terms columns can long is terms_are wide =
      let all : List Name = quotient_names whole part in
      let both = length-append (quotient_ports whole part) part.outputs in
      let rows = guarantees_count all part in
      let count = guarantees_count all whole in
      let few = can.few in
      subst (λ n. CanTry n given terms) (sym wide)
      (subst (λ g. CanTry (length all) g terms) (sym is)
      (subst (CanTry (length all) (premises_of whole part x)) (sym terms_are) (record {
        premise_columns = guarantees_long all part;
        term_columns = guarantees_long all whole;
        nominal_fits = omega (arith, both, long);
        few = omega (arith, rows, few);
        few_terms = omega (arith, count, few);
        short = can.short;
      })))

  -- the rows that are thinned, and those in whose context they are
  pub asked_long : (left rows : List Row) (columns : ℕ) → AreNamesOf whole part names → AreLeft whole part left → rows ≡ asked_with whole part left
      → columns ≡ length names.ports → All (λ (r : Row). length r.c ≡ columns) rows
  asked_long left rows columns are fits is wide =
      subst (λ n. All (λ (r : Row). length r.c ≡ n) rows) (sym (wide ∙ ap length are.ports_are))
      (subst (All (λ (r : Row). length r.c ≡ length (quotient_ports whole part))) (sym is)
      (All-append (λ (r : Row). length r.c ≡ length (quotient_ports whole part)) (assumptions_over (quotient_ports whole part) part) left
      (assumptions_long (quotient_ports whole part) part) fits.columns))

  pub context_long : (rows : List Row) (columns : ℕ) → AreNamesOf whole part names → rows ≡ assumptions_over (quotient_ports whole part) whole
      → columns ≡ length names.ports → All (λ (r : Row). length r.c ≡ columns) rows
  context_long rows columns are is wide =
      subst (λ n. All (λ (r : Row). length r.c ≡ n) rows) (sym (wide ∙ ap length are.ports_are))
      (subst (All (λ (r : Row). length r.c ≡ length (quotient_ports whole part))) (sym is) (assumptions_long (quotient_ports whole part) whole))
