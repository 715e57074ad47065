-- The places that are found are those of a positive row and of its negative.
use Rattle.std.proofs.Common.{◌≡◌, ◌∙◌, sym, arith, length}
use Rattle.std.proofs.lemmas.List.Elements.{All-weaker}
use Rattle.pa_meaning.specs.Rows.{Row}
use Rattle.pa_math.specs.Answers.{seen_as}
use Rattle.pa_witness.specs.Steps.{kept_at}
use Rattle.pa_witness.proofs.Equalities.{equality_in_is}
use Rattle.pa_fourier.proofs.Places.{positive_there, negative_there, columns_there, kept_is, substituted_answer}
use Rattle.pa_fourier.specs.Versions.{version_of}
use Rattle.pa_fourier.proofs.step.made_rows.Goals as goal

pub bounds-rows-positive : goal.bounds-rows-positive
bounds-rows-positive c = (equality_in_is (version_of c.args.version) c.args.column c.args.rows.now _ (sym c.in-Ok.ensures ∙ c.in-Some.is)).first

pub bounds-rows-negative : goal.bounds-rows-negative
bounds-rows-negative c = (equality_in_is (version_of c.args.version) c.args.column c.args.rows.now _ (sym c.in-Ok.ensures ∙ c.in-Some.is)).second

pub with_substituted-requires-clause-columns : goal.with_substituted-requires-clause-columns
with_substituted-requires-clause-columns c =
    let is = equality_in_is (version_of c.args.version) c.args.column c.args.rows.now _ (sym c.in-Ok.ensures ∙ c.in-Some.is) in
    let same : length c.index-rows-positive.result.c ≡ c.args.columns =
    columns_there c.args.columns c.args.rows.now c.in-Some.positive c.index-rows-positive.result is.first c.index-rows-positive.is c.requires.columns in
    All-weaker (λ (r : Row). length r.c ≡ c.args.columns) (λ (r : Row). length r.c ≡ length c.index-rows-positive.result.c) (λ r e. e ∙ sym same)
    c.args.rows.now c.requires.columns

pub with_substituted-requires-clause-negative_columns : goal.with_substituted-requires-clause-negative_columns
with_substituted-requires-clause-negative_columns c =
    let is = equality_in_is (version_of c.args.version) c.args.column c.args.rows.now _ (sym c.in-Ok.ensures ∙ c.in-Some.is) in
    columns_there c.args.columns c.args.rows.now c.in-Some.negative c.index-rows-negative.result is.second c.index-rows-negative.is c.requires.columns
    ∙ sym (columns_there c.args.columns c.args.rows.now c.in-Some.positive c.index-rows-positive.result is.first c.index-rows-positive.is c.requires.columns)

pub with_substituted-requires-clause-column : goal.with_substituted-requires-clause-column
with_substituted-requires-clause-column c =
    let is = equality_in_is (version_of c.args.version) c.args.column c.args.rows.now _ (sym c.in-Ok.ensures ∙ c.in-Some.is) in
    let same : length c.index-rows-positive.result.c ≡ c.args.columns =
    columns_there c.args.columns c.args.rows.now c.in-Some.positive c.index-rows-positive.result is.first c.index-rows-positive.is c.requires.columns in
    let h = c.requires.column in omega arith

pub with_substituted-requires-clause-positive : goal.with_substituted-requires-clause-positive
with_substituted-requires-clause-positive c =
    positive_there c.args.column c.args.rows.now c.in-Some.positive c.in-Some.negative c.index-rows-positive.result
    (equality_in_is (version_of c.args.version) c.args.column c.args.rows.now _ (sym c.in-Ok.ensures ∙ c.in-Some.is)) c.index-rows-positive.is

pub with_substituted-requires-clause-negative : goal.with_substituted-requires-clause-negative
with_substituted-requires-clause-negative c =
    negative_there c.args.column c.args.rows.now c.in-Some.positive c.in-Some.negative c.index-rows-negative.result
    (equality_in_is (version_of c.args.version) c.args.column c.args.rows.now _ (sym c.in-Ok.ensures ∙ c.in-Some.is)) c.index-rows-negative.is

pub returns-in-Some : goal.returns-in-Some
returns-in-Some c =
    substituted_answer (version_of c.args.version)
    c.args.column c.args.rows.now c.in-Some.positive c.in-Some.negative c.index-rows-positive.result c.index-rows-negative.result c.in_ok-kept.kept.items
    (seen_as (λ v. v.items) c.with_substituted.result)
    (equality_in_is (version_of c.args.version) c.args.column c.args.rows.now _ (sym c.in-Ok.ensures ∙ c.in-Some.is))
    c.index-rows-positive.is c.index-rows-negative.is (sym c.in-Ok.ensures ∙ c.in-Some.is)
    (kept_is c.new.result.items (kept_at c.args.column c.args.rows.now) c.in_ok-kept.kept.items c.new.ensures.items c.in_ok-kept.ensures.answer)
    c.with_substituted.ensures
