use Rattle.std.proofs.Common.{◌∙◌, sym, arith}
use Rattle.pa_witness.proofs.Counts.{length_stepped_by_pairs, length_stepped_by_equality}
use Rattle.pa_fourier.specs.Versions.{version_of}
use Rattle.pa_fourier.proofs.step.step_count.Goals as goal

pub overflow_sub-result : goal.overflow_sub-result
overflow_sub-result c =
    let e = length_stepped_by_equality (version_of c.args.version) c.args.column c.args.rows.now _ (sym c.in_ok-equality_in.ensures ∙ c.in-Some.is) in
    omega arith

pub returns-in-Some : goal.returns-in-Some
returns-in-Some c =
    let e = length_stepped_by_equality (version_of c.args.version) c.args.column c.args.rows.now _ (sym c.in_ok-equality_in.ensures ∙ c.in-Some.is) in
    omega arith

pub returns-in-None : goal.returns-in-None
returns-in-None c =
    length_stepped_by_pairs (version_of c.args.version) c.args.column c.args.rows.now c.count_signs-positives.result.0 c.count_signs-positives.result.1
    (sym c.in_ok-equality_in.ensures ∙ c.in-None.is)
    c.count_signs-positives.ensures.positives c.count_signs-positives.ensures.negatives
