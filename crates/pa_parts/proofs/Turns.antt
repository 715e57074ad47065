-- One turn of each loop over parts.
use Rattle.std.proofs.Common.{◌≡◌, ℕ, ◌+◌, ◌<◌, ◌≤◌, ◌||◌, true, false, List, [], ◌∷◌, ◌++◌, length, map, drop, take, get_or, sym, ap, ◌∙◌, subst}
use Rattle.std.proofs.Common.{append_assoc, All, arith}
use Rattle.std.specs.Prelude.{flat_map, sum_by}
use Rattle.std.specs.Borrow.{Bor}
use Rattle.std.specs.Str.{bytes_eq}
use Rattle.std.proofs.Math.ListN.{get_or-map}
use Rattle.std.proofs.lemmas.List.Folds.{list_any-append}
use Rattle.std.proofs.lemmas.List.Sums.{sum_by-cons}
use Rattle.pa_math.proofs.Items.{all_more_at}
use Rattle.pa_meaning.specs.Rows.{Row}
use Rattle.pa_meaning.specs.Contracts.{Name, Contract}
use Rattle.pa_meaning.specs.Composition.{is_among, all_inputs, part_at, guarantees_over}
use Rattle.pa_contract.specs.Merge.{row_count}
use Rattle.pa_contract.specs.WellFormed.{IsWellFormed}
use Rattle.pa_parts.proofs.Rows.{part_read, parts_from}

-- the part that is lent at a place is the part at the place
pub part_lent : (lent : List (Bor Contract)) (parts : List Contract) (i : ℕ) (b : Bor Contract) → map (λ c. c.now) lent ≡ parts → i < length parts
    → b ≡ get_or lent i b → b.now ≡ part_at parts i
part_lent lent parts i b are h is =
    ap (λ c. c.now) is ∙ sym (get_or-map (λ c. c.now) lent i b) ∙ ap (λ ps. get_or ps i b.now) are ∙ part_read parts i b.now h

module _ (parts : List Contract) (i : ℕ) (h : i < length parts) where
  -- a part from a place on takes a name where the one at the place does, or a later one
  inputs_from : (n : Name) → is_among (all_inputs (drop i parts)) n ≡ (is_among (part_at parts i).inputs n || is_among (all_inputs (drop (i + 1) parts)) n)
  inputs_from n =
      ap (λ ps. is_among (all_inputs ps) n) (parts_from parts i h) ∙ list_any-append (bytes_eq n) (part_at parts i).inputs (all_inputs (drop (i + 1) parts))

  pub takes_here : (n : Name) (p : Contract) → p ≡ part_at parts i → is_among p.inputs n ≡ true
      → is_among (all_inputs (drop i parts)) n ≡ is_among (all_inputs parts) n → true ≡ is_among (all_inputs parts) n
  takes_here n p is here so_far =
      sym (inputs_from n ∙ ap (λ b. b || is_among (all_inputs (drop (i + 1) parts)) n) (ap (λ q. is_among q.inputs n) (sym is) ∙ here)) ∙ so_far

  pub takes_later : (n : Name) (p : Contract) → p ≡ part_at parts i → is_among p.inputs n ≡ false
      → is_among (all_inputs (drop i parts)) n ≡ is_among (all_inputs parts) n → is_among (all_inputs (drop (i + 1) parts)) n ≡ is_among (all_inputs parts) n
  takes_later n p is not_here so_far =
      sym (inputs_from n ∙ ap (λ b. b || is_among (all_inputs (drop (i + 1) parts)) n) (ap (λ q. is_among q.inputs n) (sym is) ∙ not_here)) ∙ so_far

  -- one more part is well formed
  pub formed_more : (p : Contract) → p ≡ part_at parts i → IsWellFormed p → All IsWellFormed (take i parts) → All IsWellFormed (take (i + 1) parts)
  formed_more p is w all =
      all_more_at IsWellFormed parts i (part_at parts i) h (subst IsWellFormed (is ∙ sym (part_read parts i (part_at parts i) h)) w) all

  -- one more part's rows are counted
  pub rows_more : (p : Contract) (count : ℕ) → p ≡ part_at parts i → count + sum_by row_count (drop i parts) ≡ sum_by row_count parts
      → (count + row_count p) + sum_by row_count (drop (i + 1) parts) ≡ sum_by row_count parts
  rows_more p count is so_far =
      let rest = ap (sum_by row_count) (parts_from parts i h) ∙ sum_by-cons row_count (part_at parts i) (drop (i + 1) parts) in
      let here = ap row_count is in omega (arith, rest, here, so_far)

  -- one more part's guarantees
  guarantees_from : (names : List Name) → flat_map (guarantees_over names) (drop i parts)
      ≡ guarantees_over names (part_at parts i) ++ flat_map (guarantees_over names) (drop (i + 1) parts)
  guarantees_from names = ap (flat_map (guarantees_over names)) (parts_from parts i h)

  pub guarantees_more : (names : List Name) (p : Contract) (done whole : List Row) → p ≡ part_at parts i
      → done ++ flat_map (guarantees_over names) (drop i parts) ≡ whole
      → (done ++ guarantees_over names p) ++ flat_map (guarantees_over names) (drop (i + 1) parts) ≡ whole
  guarantees_more names p done whole is so_far =
      append_assoc done (guarantees_over names p) (flat_map (guarantees_over names) (drop (i + 1) parts))
      ∙ ap (λ q. done ++ (guarantees_over names q ++ flat_map (guarantees_over names) (drop (i + 1) parts))) is
      ∙ ap (λ rest. done ++ rest) (sym (guarantees_from names)) ∙ so_far
