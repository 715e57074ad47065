use Rattle.pa_meaning.proofs.Nominal.{nominal_exact}
use Rattle.pa_witness.proofs.laws.left_terms_are_exact_at_nominal.Goals as goal

pub returns : goal.returns
returns c = λ external others given term w nominal u leaves extends met tight. nominal_exact external others given term w nominal leaves u extends met tight
