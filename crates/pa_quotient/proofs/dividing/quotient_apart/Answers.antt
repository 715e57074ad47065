-- The names and the rows are counted, and where neither are too many the tasks are due.
use Rattle.std.proofs.Common.{◌+◌, ap₂, inr, subst, sym}
use Rattle.pa_math.specs.Answers.{IsAnswer}
use Rattle.pa_quotient.specs.declared.fault.QuotientFault.TheVariants as fault
use Rattle.pa_quotient.proofs.DueTests.{can_divide, ports_different, too_many_names, too_many_rows, within_limits}
use Rattle.pa_quotient.proofs.dividing.quotient_apart.Goals as goal

pub names_of-requires : goal.names_of-requires
names_of-requires c = ports_different c.args.whole.now c.args.part.now c.requires.apart c.requires.whole_formed c.requires.part_formed

pub returns-then-count-gt-MOST_PORTS : goal.returns-then-count-gt-MOST_PORTS
returns-then-count-gt-MOST_PORTS c =
    inr (too_many_names c.args.whole.now c.args.part.now c.requires.apart c.args.nominal.now c.args.most c.name_count-count.result c.name_count-count.ensures
    c.if-count-gt-MOST_PORTS.true)

pub returns-then-count-gt-MOST_ROWS : goal.returns-then-count-gt-MOST_ROWS
returns-then-count-gt-MOST_ROWS c =
    inr (too_many_rows c.args.whole.now c.args.part.now c.requires.apart c.args.nominal.now c.args.most c.name_count-count.result c.name_count-count.ensures
    (c.row_count.result + c.row_count-2.result) (ap₂ ◌+◌ c.row_count.ensures.value c.row_count-2.ensures.value) c.if-count-gt-MOST_PORTS.false
    c.if-count-gt-MOST_ROWS.true)

pub divided-requires-clause-can : goal.divided-requires-clause-can
divided-requires-clause-can c =
    can_divide c.args.whole.now c.args.part.now c.requires.apart c.args.nominal.now c.args.most c.name_count-count.result c.name_count-count.ensures
    (c.row_count.result + c.row_count-2.result) (ap₂ ◌+◌ c.row_count.ensures.value c.row_count-2.ensures.value) c.if-count-gt-MOST_PORTS.false
    c.if-count-gt-MOST_ROWS.false c.requires.whole_formed c.requires.part_formed c.in-Ok.names c.in-Ok.ensures

pub returns : goal.returns
returns c =
    subst (λ due. IsAnswer fault.Memory due c.divided.result)
    (sym (within_limits c.args.whole.now c.args.part.now c.requires.apart c.args.nominal.now c.args.most c.name_count-count.result c.name_count-count.ensures
    (c.row_count.result + c.row_count-2.result) (ap₂ ◌+◌ c.row_count.ensures.value c.row_count-2.ensures.value) c.if-count-gt-MOST_PORTS.false
    c.if-count-gt-MOST_ROWS.false)) c.divided.ensures
