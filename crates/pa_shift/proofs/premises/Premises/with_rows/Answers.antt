use Rattle.std.proofs.Common.{◌≡◌, ◌≤◌, All, length, subst, sym}
use Rattle.pa_math.specs.Answers.{seen_as}
use Rattle.pa_shift.specs.Seen.{with_costs}
use Rattle.pa_shift.specs.Shifting.{costed_in}
use Rattle.pa_shift.proofs.More.{costs_long, more_is, columns_between}
use Rattle.pa_shift.proofs.premises.Premises.with_rows.Goals as goal

pub more_costs-requires-clause-place : goal.more_costs-requires-clause-place
more_costs-requires-clause-place c =
    costs_long (λ v. v.items) c.self.inside.nominal c.args.place c.self.inside.rows.items c.self.inside.costs
    (subst (λ p. c.args.place ≤ length p.rows) (sym c.self.view_is) c.requires.place) c.self.invariant.0

pub invariant_of-result : goal.invariant_of-result
invariant_of-result c = (
  more_is (λ v. v.items) c.self.inside.nominal c.args.place c.args.others.items c.self.inside.rows.items c.in-Ok-with_rows_at.rows.items
      c.self.inside.costs c.in-Ok.costs (subst (λ p. c.args.place ≤ length p.rows) (sym c.self.view_is) c.requires.place) c.self.invariant.0
      (subst (λ others. seen_as (λ v. v.items) c.in-Ok.costs
      ≡ with_costs c.args.place (costed_in c.self.inside.nominal others) (seen_as (λ v. v.items) c.self.inside.costs)) c.deref.ensures.value c.in-Ok.ensures)
      c.in-Ok-with_rows_at.ensures,
  subst (All (λ r. length c.self.inside.nominal.p ≤ length r.c)) (sym c.in-Ok-with_rows_at.ensures)
      (columns_between (length c.self.inside.nominal.p) c.args.place c.args.others.items c.self.inside.rows.items
      (subst (λ p. All (λ r. length p.nominal.p ≤ length r.c) c.args.others.items) (sym c.self.view_is) c.requires.columns) c.self.invariant.1),
)
