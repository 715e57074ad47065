use Rattle.pa_script.proofs.RoundTrip.{rows_back, pivots_back, merge_law, refine_law, hide_back, quotient_law}
use Rattle.pa_script.proofs.laws.texts_are_read_back.Goals as goal

pub returns-clause-rows : goal.returns-clause-rows
returns-clause-rows c = rows_back

pub returns-clause-pivots : goal.returns-clause-pivots
returns-clause-pivots c = pivots_back

pub returns-clause-merge : goal.returns-clause-merge
returns-clause-merge c = merge_law

pub returns-clause-refine : goal.returns-clause-refine
returns-clause-refine c = refine_law

pub returns-clause-hide : goal.returns-clause-hide
returns-clause-hide c = hide_back

pub returns-clause-quotient : goal.returns-clause-quotient
returns-clause-quotient c = quotient_law
