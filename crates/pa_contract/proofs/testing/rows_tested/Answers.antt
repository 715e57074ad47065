-- A row that passes is due with its number, which counts the assumptions before it; else the words of both lists are due.
use Rattle.std.proofs.Common.{◌≡◌, ◌∙◌, ◌+◌, ap, sym, inl, inr, ⊎_elim, map, arith, Bool, Ok, Err}
use Rattle.pa_contract.specs.Testing.{Tested, is_met, keeps_word, sum_place, words_of}
use Rattle.pa_contract.specs.declared.fault.TestFault.TheVariants.{Wide}
use Rattle.pa_contract.proofs.Words.{both_narrow, assumption_wide, guarantee_wide}
use Rattle.pa_contract.proofs.testing.rows_tested.Goals as goal

pub returns-in-Err : goal.returns-in-Err
returns-in-Err c = ⊎_elim inl
    (λ found. inr (assumption_wide c.args.assumptions.now c.args.guarantees.now c.args.at.now found.0 found.1
    ∙ ap (λ n. Err (Wide (sum_place n))) (omega arith) ∙ ap Err (sym found.2))) c.in-Err.ensures.wide

pub returns-in-Err-words : goal.returns-in-Err-words
returns-in-Err-words c = ⊎_elim inl
    (λ found. inr (guarantee_wide c.args.assumptions.now c.args.guarantees.now c.args.at.now found.0 c.in-Ok.ensures.narrow found.1 ∙ ap Err
    (sym found.2))) c.in-Err-words.ensures.wide

pub returns : goal.returns
returns c =
    let rows = c.args.assumptions.now in
    let others = c.args.guarantees.now in
    let x = c.args.at.now in
    let words = sym c.in-Ok.ensures.met in
    let other_words = sym c.in-Ok-words.ensures.met in
    let keeps : keeps_word (map (is_met x) rows) (map (is_met x) others) ≡ c.keeps_by.result =
    (λ i. keeps_word ((words ∙ sym c.deref.ensures.value) i) ((other_words ∙ sym c.deref-2.ensures.value) i)) ∙ sym c.keeps_by.ensures in
    both_narrow rows others x c.in-Ok.ensures.narrow c.in-Ok-words.ensures.narrow
    ∙ (λ i. Ok (record { keeps = keeps i; assumptions = words i; guarantees = other_words i }))
