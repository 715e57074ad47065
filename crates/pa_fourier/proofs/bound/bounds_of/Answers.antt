-- One row more has its bound behind the others.
use Rattle.std.proofs.Common.{◌≡◌, ◌∙◌, ◌+◌, ◌++◌, ◌∷◌, [], List, map, sym, subst, rules}
use Rattle.std.proofs.lemmas.List.{map-append, length-map}
use Rattle.pa_frac.specs.declared.wide126.Wide126.{Wide126}
use Rattle.pa_fourier.specs.Bounds.{fraction}
use Rattle.pa_fourier.proofs.Bounds.{HaveBounds, bounds_more}
use Rattle.pa_fourier.proofs.bound.bounds_of.Goals as goal

pub loop-row-preserved : goal.loop-row-preserved
loop-row-preserved c =
    let items : c.push_reserved.new.self.items ≡ c.loop-row.bounds.items ++ c.bound_of.result ∷ [] = search rules in
    record {
      count = search rules;
      filled = search rules;
      room = search rules;
      bound = subst (λ (all : List Wide126). HaveBounds (c.loop-row.row-index + 1) c.args.rows.now (map fraction all)) (sym items)
          (subst (HaveBounds (c.loop-row.row-index + 1) c.args.rows.now) (sym (map-append fraction c.loop-row.bounds.items (c.bound_of.result ∷ [])))
          (bounds_more c.loop-row.row-index c.args.rows.now (map fraction c.loop-row.bounds.items) (fraction c.bound_of.result) c.row-item.result
          (length-map c.loop-row.bounds.items fraction ∙ c.loop-row.invariant.count) c.loop-row-test.true c.row-item.is c.loop-row.invariant.bound
          c.bound_of.ensures));
    }
