-- One row more has its direction's place; at the end the numbers are groups.
use Rattle.std.proofs.Common.{◌≡◌, ◌+◌, ◌∙◌, ◌++◌, ◌∷◌, [], ap, sym, subst, length, length-append, arith, rules}
use Rattle.pa_meaning.specs.Rows.{Row}
use Rattle.pa_row.specs.Same.{same_row}
use Rattle.pa_witness.specs.Equalities.{place_from}
use Rattle.pa_fourier.proofs.GroupPlaces.{ArePlaced, placed_more, placed_below, groups_are}
use Rattle.pa_fourier.proofs.groups.groups_of.Goals as goal

pub loop-row-preserved : goal.loop-row-preserved
loop-row-preserved c =
    let items : c.push_reserved.new.self.items ≡ c.loop-row.groups.items ++ c.in_ok-group.group ∷ [] = search rules in
    record {
      count = ap length items ∙ length-append c.loop-row.groups.items (c.in_ok-group.group ∷ []) ∙ (let h = c.loop-row.invariant.count in omega arith);
      filled = search rules;
      room = search rules;
      few = let h = c.loop-row.invariant.few in let k = c.in_ok-group.ensures.few in omega arith;
      placed = subst (ArePlaced (c.loop-row.row-index + 1) c.args.rows.now c.group_of.new.directions.keys) (sym items)
          (placed_more c.loop-row.row-index c.args.rows.now c.loop-row.directions.keys c.group_of.new.directions.keys c.loop-row.groups.items
          c.in_ok-group.group c.row-item.result
          c.loop-row.invariant.count c.loop-row-test.true c.row-item.is c.loop-row.invariant.placed c.in_ok-group.ensures.others
          (ap (λ (r : Row). place_from (same_row r) 0 c.group_of.new.directions.keys) (sym c.in_ok-direction.ensures) ∙ c.in_ok-group.ensures.group));
    }

pub returns-clause-groups : goal.returns-clause-groups
returns-clause-groups c =
    let all : c.loop-row.row-index ≡ length c.args.rows.now = omega arith in
    groups_are c.args.rows.now c.loop-row.directions.keys c.loop-row.groups.items (c.loop-row.invariant.count ∙ all)
    (λ m h. c.loop-row.invariant.placed m (omega arith))

pub returns-clause-below : goal.returns-clause-below
returns-clause-below c =
    let all : c.loop-row.row-index ≡ length c.args.rows.now = omega arith in
    placed_below c.args.rows.now c.loop-row.directions.keys c.loop-row.groups.items (c.loop-row.invariant.count ∙ all)
    (let f = c.loop-row.invariant.few in omega arith) (λ m h. c.loop-row.invariant.placed m (omega arith))
