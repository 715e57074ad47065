-- The contract of an answer that holds as it is printed is well formed: different ports, few enough, and lists of different
-- rows with the columns that they should have.
use Rattle.std.proofs.Common.{◌≡◌, refl, sym, subst, ℕ, ◌≤◌, Bool, true, false, not, List, [], ◌∷◌, ◌++◌, length, map, filter, flat_map}
use Rattle.std.proofs.Common.{All, Some, None, arith, length-append, nat_lt, sum_by}
use Rattle.std.proofs.lemmas.List.{length-map}
use Rattle.std.proofs.lemmas.List.Sums.{sum_by-cons}
use Rattle.std.proofs.lemmas.List.Elements.{All-nil, All-cons, All-head, All-tail, All-append}
use Rattle.std.specs.List.{IsDistinct}
use Rattle.std.specs.Str.{bytes_eq}
use Rattle.pa_ring.proofs.Lists.{All-flat_map, All-from_contains}
use Rattle.pa_meaning.specs.Rows.{Row}
use Rattle.pa_meaning.specs.Weights.{Weights}
use Rattle.pa_meaning.specs.Contracts.{Name, Contract, ports, coefficient_at, over_names}
use Rattle.pa_meaning.specs.Composition.{is_among, is_kept, external_inputs, all_outputs, kept_outputs, internal_outputs, names_of}
use Rattle.pa_meaning.specs.Composition.{assumptions_over, guarantees_over}
use Rattle.pa_meaning.specs.Quotient.{quotient_ports, quotient_names}
use Rattle.pa_meaning.proofs.CompositionPorts.{names_distinct}
use Rattle.pa_meaning.proofs.QuotientPorts.{quotient_ports_distinct}
use Rattle.pa_witness.specs.Thinning.{Dropped, thinned}
use Rattle.pa_witness.specs.Steps.{Version}
use Rattle.pa_witness.specs.Shifts.{shifted_rows}
use Rattle.pa_witness.specs.Projection.{AreThere, names_left}
use Rattle.pa_witness.specs.Discharge.{Discharge, DischargedPart, discharged, earlier_guarantees, discharge_rows}
use Rattle.pa_witness.proofs.Distinct.{thinned_distinct}
use Rattle.pa_witness.proofs.Fewer.{filtered_fewer, thinned_fewer, projected_fewer, steps_match, same_row_distinct, projected_distinct}
use Rattle.pa_witness.proofs.NamesLeft.{left_are, go_there}
use Rattle.pa_witness.proofs.Widths.{HasColumns, thinned_columns, shifted_rows_columns, projected_columns_fit}
use Rattle.pa_contract.specs.Merge.{merged, row_count, most_rows}
use Rattle.pa_contract.specs.WellFormed.{IsRowList, IsWellFormed}
use Rattle.pa_contract.proofs.Results.{merged_is_well_formed}
use Rattle.pa_names.specs.Names.{most_ports}
use Rattle.pa_holds.specs.Composed.{Elimination, elimination_of, eliminated_rows, EliminationHolds, HoldsAsHidden}
use Rattle.pa_holds.specs.Composed.{all_guarantees, shifted_assumptions, HoldsAsComposed}
use Rattle.pa_holds.specs.Divided.{asked_rows, HoldsAsDivided}
use Rattle.pa_cert.specs.Lists.{HiddenAnswer, ComposedAnswer, DividedAnswer}
use Rattle.pa_cert.specs.Tables.{Limits, contract_of}
use Rattle.pa_cert.specs.declared.answer.Answer.{Answer}
use Rattle.pa_cert.specs.declared.answer.Answer.TheVariants.{Merged, Hidden, Composed, Divided}
use Rattle.pa_holds.specs.Questions.{Question, Merging, Hiding, Composing, Dividing}
use Rattle.pa_holds.specs.Answers.{HoldsAsPrinted}
use Rattle.pa_holds.specs.Refusals.{due_merge, due_hide, due_compose, due_quotient}
use Rattle.pa_holds.specs.Laws.{contracts_of}
use Rattle.pa_holds.proofs.Refusals.{merge_clear, merge_names, merge_rows, hide_rows, compose_distinct, compose_names, compose_rows, quotient_clear}
use Rattle.pa_holds.proofs.Refusals.{quotient_names_few, quotient_rows}
use Rattle.pa_holds.proofs.Tables.{names_left_distinct}

-- ---- counts
-- a row over names has a column for each
over_columns_are : (names wider : List Name) (rows : List Row) → HasColumns (length wider) (map (over_names names wider) rows)
over_columns_are names wider [] = All-nil (λ r. length r.c ≡ length wider)
over_columns_are names wider (r ∷ rows) =
    All-cons (λ r. length r.c ≡ length wider) (over_names names wider r) (map (over_names names wider) rows)
    (length-map wider (coefficient_at names r.c)) (over_columns_are names wider rows)

shifted_fewer : (n : ℕ) (rows ts : List Row) (ws : List Weights) → length (shifted_rows n rows ts ws) ≤ length ts
shifted_fewer n rows [] ws = omega arith
shifted_fewer n rows (t ∷ ts) [] = omega arith
shifted_fewer n rows (t ∷ ts) (w ∷ ws) = let rest = shifted_fewer n rows ts ws in omega arith

-- what is made of the assumptions of each part, and of its guarantees, is no more than all rows
discharged_fewer : (f : DischargedPart → List Row) → ((e : DischargedPart) → length (f e) ≤ length e.part.assumptions)
    → (parts : List Contract) (ds : List Discharge)
    → length (flat_map f (discharged parts ds)) ≤ sum_by row_count parts
discharged_fewer f h [] ds = omega arith
discharged_fewer f h (p ∷ parts) [] = omega arith
discharged_fewer f h (p ∷ parts) (d ∷ ds) =
    let e : DischargedPart = record { part = p; discharge = d } in
    let here = h e in
    let rest = discharged_fewer f h parts ds in
    let both = length-append (f e) (flat_map f (discharged parts ds)) in
    let sum = sum_by-cons row_count p parts in omega arith

guarantees_fewer : (names : List Name) (parts : List Contract) → length (flat_map (guarantees_over names) parts) ≤ sum_by row_count parts
guarantees_fewer names [] = omega arith
guarantees_fewer names (p ∷ parts) =
    let here = length-map p.guarantees (over_names (ports p) names) in
    let rest = guarantees_fewer names parts in
    let both = length-append (guarantees_over names p) (flat_map (guarantees_over names) parts) in
    let sum = sum_by-cons row_count p parts in omega arith

-- ---- lists of rows
thinned_list : (n : ℕ) (rows : List Row) (drops : List Dropped) → HasColumns n rows → length rows ≤ 4096 → IsRowList n (thinned n rows drops)
thinned_list n rows drops h few = record {
  columns_fit = thinned_columns n rows drops h;
  distinct = same_row_distinct (thinned n rows drops) (thinned_distinct n rows drops);
  few = let less = thinned_fewer n rows drops in omega arith;
}

eliminated_list : (v : Version) (most : ℕ) (names : List Name) (rows : List Row) (gone : List Name) (e : Elimination) → AreThere names gone
    → EliminationHolds v most names rows gone e → HasColumns (length names) rows → length rows ≤ 4096 → most ≤ 4096
    → IsRowList (length (names_left names gone)) (eliminated_rows v names rows gone e)
eliminated_list v most names rows gone e there h columns few limit =
    let first : List Row = thinned (length names) rows e.first in record {
      columns_fit = projected_columns_fit v names first gone e.steps there (steps_match v most names first gone e.steps h.steps)
          (thinned_columns (length names) rows e.first columns);
      distinct = projected_distinct v names first gone e.steps (thinned_distinct (length names) rows e.first);
      few =
          let less = thinned_fewer (length names) rows e.first in
          let all = projected_fewer v most names first gone e.steps 4096 h.steps (omega arith) limit in omega arith;
    }

-- ---- hidden outputs
twice : (b : Bool) → b ≡ not (not b)
twice true = refl
twice false = refl

hidden_formed : (v : Version) (most : ℕ) (c : Contract) (names : List Name) (a : HiddenAnswer) → most ≤ 4096 → IsWellFormed c → due_hide c names ≡ None
    → HoldsAsHidden v most c names a → IsWellFormed a.contract
hidden_formed v most c names a limit formed none h = subst IsWellFormed (sym h.contract) (record {
  distinct = subst (IsDistinct bytes_eq) left (names_left_distinct (ports c) (filter (is_among names) c.outputs) formed.distinct);
  few =
      let ports_few = formed.few in
      let less = filtered_fewer (λ n. not (is_among names n)) c.outputs in
      let old = length-append c.inputs c.outputs in
      let new = length-append c.inputs (filter (λ n. not (is_among names n)) c.outputs) in omega arith;
  assumptions = formed.assumptions;
  guarantees = subst (λ ns. IsRowList (length ns) (eliminated_rows v (ports c) c.guarantees (filter (is_among names) c.outputs)
      (elimination_of a.steps))) left
      (eliminated_list v most (ports c) c.guarantees (filter (is_among names) c.outputs) (elimination_of a.steps)
      (go_there (λ n. not (is_among names n)) (is_among names) (λ n. twice (is_among names n)) c.inputs c.outputs formed.distinct)
      h.elimination formed.guarantees.columns_fit rows_few limit);
})
  where
    left : names_left (ports c) (filter (is_among names) c.outputs) ≡ c.inputs ++ filter (λ n. not (is_among names n)) c.outputs
    left = left_are (λ n. not (is_among names n)) (is_among names) (λ n. twice (is_among names n)) c.inputs c.outputs formed.distinct

    rows_few : length c.guarantees ≤ 4096
    rows_few = let all = hide_rows c names none in omega arith

-- ---- composites
module _ (v : Version) (most : ℕ) (parts : List Contract) (keep : List Name) (a : ComposedAnswer) (limit : most ≤ 4096)
    (none : due_compose parts keep ≡ None) (h : HoldsAsComposed v most parts keep a) where
  different : IsDistinct bytes_eq (names_of parts)
  different = names_distinct parts (compose_distinct parts keep none)

  few_parts : length (names_of parts) ≤ most_ports
  few_parts = compose_names parts keep none

  all_few : sum_by row_count parts ≤ 4096
  all_few = compose_rows parts keep none

  shifted_columns : HasColumns (length (external_inputs parts)) (shifted_assumptions parts a.discharges)
  shifted_columns =
      All-flat_map (λ r. length r.c ≡ length (external_inputs parts))
      (discharge_rows (names_of parts) (length (external_inputs parts)) (discharged parts a.discharges)) (discharged parts a.discharges)
      (All-from_contains (λ e. HasColumns (length (external_inputs parts))
      (discharge_rows (names_of parts) (length (external_inputs parts)) (discharged parts a.discharges) e))
      (discharged parts a.discharges)
      (λ e i. shifted_rows_columns (length (external_inputs parts)) (length (names_of parts))
      (earlier_guarantees (names_of parts) (discharged parts a.discharges) e.discharge.round) (assumptions_over (names_of parts) e.part) e.discharge.shifts
      (let both = length-append (external_inputs parts) (all_outputs parts) in omega arith)
      (All-flat_map (λ r. length r.c ≡ length (names_of parts)) (λ (d : DischargedPart). guarantees_over (names_of parts) d.part)
      (filter (λ (d : DischargedPart). nat_lt d.discharge.round e.discharge.round) (discharged parts a.discharges))
      (All-from_contains (λ (d : DischargedPart). HasColumns (length (names_of parts)) (guarantees_over (names_of parts) d.part))
      (filter (λ (d : DischargedPart). nat_lt d.discharge.round e.discharge.round) (discharged parts a.discharges))
      (λ d j. over_columns_are (ports d.part) (names_of parts) d.part.guarantees)))
      (over_columns_are e.part.inputs (names_of parts) e.part.assumptions)))

  shifted_few : length (shifted_assumptions parts a.discharges) ≤ 4096
  shifted_few =
      let less = discharged_fewer (discharge_rows (names_of parts) (length (external_inputs parts)) (discharged parts a.discharges))
      (λ e. let s = shifted_fewer (length (external_inputs parts)) (earlier_guarantees (names_of parts) (discharged parts a.discharges) e.discharge.round)
      (assumptions_over (names_of parts) e.part) e.discharge.shifts in
      let n = length-map e.part.assumptions (over_names e.part.inputs (names_of parts)) in omega arith) parts a.discharges in
      let all = all_few in omega arith

  left : names_left (names_of parts) (internal_outputs parts keep) ≡ external_inputs parts ++ kept_outputs parts keep
  left = left_are (is_kept parts keep) (λ n. not (is_kept parts keep n)) (λ n. refl) (external_inputs parts) (all_outputs parts) different

  guarantee_columns : HasColumns (length (names_of parts)) (all_guarantees parts)
  guarantee_columns =
      All-flat_map (λ r. length r.c ≡ length (names_of parts)) (guarantees_over (names_of parts)) parts
      (All-from_contains (λ p. HasColumns (length (names_of parts)) (guarantees_over (names_of parts) p)) parts
      (λ p i. over_columns_are (ports p) (names_of parts) p.guarantees))

  composed_formed : IsWellFormed a.contract
  composed_formed = subst IsWellFormed (sym h.contract) (record {
    distinct = subst (IsDistinct bytes_eq) left (names_left_distinct (names_of parts) (internal_outputs parts keep) different);
    few =
        let names_few = few_parts in
        let less = filtered_fewer (is_kept parts keep) (all_outputs parts) in
        let old = length-append (external_inputs parts) (all_outputs parts) in
        let new = length-append (external_inputs parts) (kept_outputs parts keep) in omega arith;
    assumptions = thinned_list (length (external_inputs parts)) (shifted_assumptions parts a.discharges) a.thin shifted_columns shifted_few;
    guarantees = subst (λ ns. IsRowList (length ns) (eliminated_rows v (names_of parts) (all_guarantees parts) (internal_outputs parts keep)
        (elimination_of a.steps))) left
        (eliminated_list v most (names_of parts) (all_guarantees parts) (internal_outputs parts keep) (elimination_of a.steps)
        (go_there (is_kept parts keep) (λ n. not (is_kept parts keep n)) (λ n. refl) (external_inputs parts) (all_outputs parts) different)
        h.elimination guarantee_columns (let less = guarantees_fewer (names_of parts) parts in let all = all_few in omega arith) limit);
  })

-- ---- quotients
divided_formed : (whole part : Contract) (a : DividedAnswer) → IsWellFormed whole → IsWellFormed part → due_quotient whole part ≡ None
    → HoldsAsDivided whole part a → IsWellFormed a.contract
divided_formed whole part a fw fp none h = subst IsWellFormed (sym h.contract) (record {
  distinct = quotient_ports_distinct whole part fw.distinct fp.distinct (quotient_clear whole part none);
  few =
      let names_few = quotient_names_few whole part none in
      let less = ports_less in omega arith;
  assumptions = fw.assumptions;
  guarantees = thinned_list (length (quotient_ports whole part)) (asked_rows whole part a.shifts) a.thin columns rows_few;
})
  where
    ports_less : length (quotient_ports whole part) ≤ length (quotient_names whole part)
    ports_less = let both = length-append (quotient_ports whole part) part.outputs in omega arith

    left : List Row
    left = shifted_rows (length (quotient_ports whole part)) (guarantees_over (quotient_names whole part) part)
        (guarantees_over (quotient_names whole part) whole) a.shifts

    columns : HasColumns (length (quotient_ports whole part)) (asked_rows whole part a.shifts)
    columns = All-append (λ r. length r.c ≡ length (quotient_ports whole part)) (assumptions_over (quotient_ports whole part) part)
        (shifted_rows (length (quotient_ports whole part)) (guarantees_over (quotient_names whole part) part)
        (guarantees_over (quotient_names whole part) whole) a.shifts)
        (over_columns_are part.inputs (quotient_ports whole part) part.assumptions)
        (shifted_rows_columns (length (quotient_ports whole part)) (length (quotient_names whole part)) (guarantees_over (quotient_names whole part) part)
        (guarantees_over (quotient_names whole part) whole) a.shifts ports_less
        (over_columns_are (ports part) (quotient_names whole part) part.guarantees)
        (over_columns_are (ports whole) (quotient_names whole part) whole.guarantees))

    rows_few : length (asked_rows whole part a.shifts) ≤ 4096
    rows_few =
        let all = quotient_rows whole part none in
        let shifted = shifted_fewer (length (quotient_ports whole part)) (guarantees_over (quotient_names whole part) part)
        (guarantees_over (quotient_names whole part) whole) a.shifts in
        let both = length-append (assumptions_over (quotient_ports whole part) part) (shifted_rows (length (quotient_ports whole part))
        (guarantees_over (quotient_names whole part) part) (guarantees_over (quotient_names whole part) whole) a.shifts) in
        let mine = length-map part.assumptions (over_names part.inputs (quotient_ports whole part)) in
        let theirs = length-map whole.guarantees (over_names (ports whole) (quotient_names whole part)) in omega arith

-- ---- each answer
merged_formed : (c other m : Contract) → IsWellFormed c → IsWellFormed other → due_merge c other ≡ None → m ≡ merged c other → IsWellFormed m
merged_formed c other m fc fo none h = subst IsWellFormed (sym h)
    (merged_is_well_formed c other fc fo (merge_clear c other none) (merge_names c other none) (merge_rows c other none))

same_some : (m c : Contract) → Some m ≡ Some c → m ≡ c
same_some m c h = cc

pub printed_is_well_formed : (v : Version) (most : Limits) (question : Question) (answer : Answer) (c : Contract)
    → most.rows ≤ most_rows → All IsWellFormed (contracts_of question) → HoldsAsPrinted v most question answer
    → contract_of answer ≡ Some c → IsWellFormed c
printed_is_well_formed v most (Merging d other) (Merged m) c limit formed h is =
    subst IsWellFormed (same_some m c is)
    (merged_formed d other m (All-head IsWellFormed d (other ∷ []) formed) (All-head IsWellFormed other [] (All-tail IsWellFormed d (other ∷ []) formed))
    h.0 h.1)
printed_is_well_formed v most (Hiding d names) (Hidden a) c limit formed h is =
    subst IsWellFormed (same_some a.contract c is) (hidden_formed v most.rows d names a limit (All-head IsWellFormed d [] formed) h.0 h.1)
printed_is_well_formed v most (Composing parts keep) (Composed a) c limit formed h is =
    subst IsWellFormed (same_some a.contract c is) (composed_formed v most.rows parts keep a limit h.0 h.1)
printed_is_well_formed v most (Dividing whole part) (Divided a) c limit formed h is =
    subst IsWellFormed (same_some a.contract c is)
    (divided_formed whole part a (All-head IsWellFormed whole (part ∷ []) formed)
    (All-head IsWellFormed part [] (All-tail IsWellFormed whole (part ∷ []) formed)) h.0 h.1)
printed_is_well_formed v most question (Merged m) c limit formed h is = absurd h.1
printed_is_well_formed v most question (Hidden a) c limit formed h is = absurd h.1
printed_is_well_formed v most question (Composed a) c limit formed h is = absurd h.1
printed_is_well_formed v most question (Divided a) c limit formed h is = absurd h.1
printed_is_well_formed v most question answer c limit formed h is = absurd (cc)
