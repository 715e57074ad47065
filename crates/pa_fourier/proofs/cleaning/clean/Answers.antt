-- The clauses on the rows hold of each list that is due.
use Rattle.std.proofs.Common.{◌≡◌, ◌∙◌, ◌∷◌, [], sym, subst, true, false, rules}
use Rattle.std.specs.List.{list_any}
use Rattle.pa_witness.specs.Thinning.{is_impossible, cleaned}
use Rattle.pa_meaning.specs.Weights.{impossible}
use Rattle.pa_fourier.specs.Cleaning.{staying_in, AreMetAlike}
use Rattle.pa_fourier.proofs.Cleaned.{clean_value, clean_means, clean_of_staying, clean_of_impossible}
use Rattle.pa_fourier.proofs.CleanTurns.{clean_if_ok}
use Rattle.pa_fourier.proofs.cleaning.clean.Goals as goal

pub returns-then-not-has_impossible-clause-value : goal.returns-then-not-has_impossible-clause-value
returns-then-not-has_impossible-clause-value c =
    let none : list_any is_impossible c.args.rows.now ≡ false = search rules in
    clean_if_ok _ (staying_in [] c.args.rows.now 0 c.args.rows.now) (λ new. new ≡ cleaned c.args.columns c.args.rows.now)
    (λ new e. clean_value c.args.columns c.args.rows.now new (clean_of_staying c.args.columns c.args.rows.now none ∙ e)) c.staying.result c.staying.ensures

pub returns-then-not-has_impossible-clause-points : goal.returns-then-not-has_impossible-clause-points
returns-then-not-has_impossible-clause-points c =
    let none : list_any is_impossible c.args.rows.now ≡ false = search rules in
    clean_if_ok _ (staying_in [] c.args.rows.now 0 c.args.rows.now) (AreMetAlike c.args.rows.now)
    (λ new e. clean_means c.args.columns c.args.rows.now new (clean_of_staying c.args.columns c.args.rows.now none ∙ e)) c.staying.result c.staying.ensures

pub returns-in-Ok-push-clause-points : goal.returns-in-Ok-push-clause-points
returns-in-Ok-push-clause-points c =
    let some : list_any is_impossible c.args.rows.now ≡ true = search rules in
    let items : c.push.new.self.items ≡ impossible c.args.columns ∷ [] = search rules in
    subst (AreMetAlike c.args.rows.now) (sym items)
    (clean_means c.args.columns c.args.rows.now (impossible c.args.columns ∷ []) (clean_of_impossible c.args.columns c.args.rows.now some))
