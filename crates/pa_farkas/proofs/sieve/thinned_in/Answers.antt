-- The filter begins with the cleaned rows and the context, and what stays of the former is the thinned list.
use Rattle.std.proofs.Common.{◌∙◌, List, ℕ, Ok, length, sym, ap, subst}
use Rattle.pa_meaning.specs.Rows.{Row}
use Rattle.pa_witness.specs.Thinning.{cleaned}
use Rattle.pa_tableau.specs.Work.{HasRoom}
use Rattle.pa_farkas.specs.Alternatives.{IsThinning}
use Rattle.pa_farkas.specs.Seen.{CanStart, IsFiltered}
use Rattle.pa_farkas.proofs.FilterTurns.{can_start, room_for, thinned_answer, thinning_is}
use Rattle.pa_farkas.proofs.sieve.thinned_in.Goals as goal

pub filtered-requires-clause-can : goal.filtered-requires-clause-can
filtered-requires-clause-can c =
    subst (CanStart c.args.columns) (sym (ap (λ f. f.rows) c.in_ok-start.ensures.value.0))
    (can_start c.args.columns c.args.rows.now c.args.context.now c.requires.columns c.requires.context_columns c.requires.few c.requires.short)

pub filtered-requires-clause-room : goal.filtered-requires-clause-room
filtered-requires-clause-room c =
    subst (λ (rows : List Row). HasRoom c.args.columns (length rows) c.args.work.now) (sym (ap (λ f. f.rows) c.in_ok-start.ensures.value.0))
    (room_for c.args.columns c.args.rows.now c.args.context.now c.args.work.now c.requires.room)

pub returns-clause-answer : goal.returns-clause-answer
returns-clause-answer c =
    thinned_answer c.args.columns c.args.rows.now c.args.context.now c.args.most c.args.group (c.in_ok-start.start, c.in_ok-start.count) c.in_ok-filter.filter
    c.in_ok-start.ensures.exact c.in_ok-filter.ensures.exact c.in_ok-filter.ensures.state
    ∙ ap Ok (sym c.front.ensures)

pub returns-clause-truth : goal.returns-clause-truth
returns-clause-truth c =
    subst (IsThinning c.args.columns c.args.rows.now c.args.context.now) (sym c.front.ensures)
    (thinning_is c.args.columns c.args.rows.now c.args.context.now c.in_ok-filter.filter
    (subst (λ (rows : List Row). IsFiltered rows (length (cleaned c.args.columns c.args.rows.now)) c.in_ok-filter.filter)
    (ap (λ f. f.rows) c.in_ok-start.ensures.value.0)
    (subst (λ (k : ℕ). IsFiltered c.in_ok-start.start.rows k c.in_ok-filter.filter) c.in_ok-start.ensures.value.1 c.in_ok-filter.ensures.state)))
