-- One output more is looked at: where it goes, its name and its column are put to those so far.
use Rattle.std.proofs.Common.{◌≡◌, sym, ap, ◌∙◌, ℕ, suc, ◌+◌, true, false, cond, List, [], ◌∷◌, ◌++◌, append_assoc, drop, filter, Some, arith}
use Rattle.std.specs.Prelude.{slice_get}
use Rattle.pa_meaning.specs.Contracts.{Name, Contract}
use Rattle.pa_meaning.specs.Composition.{is_among}
use Rattle.pa_contract.proofs.Steps.{drop-slice_get}
use Rattle.pa_compose.specs.Hiding.{columns_from, hidden_names}

-- the names so far and those of the outputs from place i on are all
abbrev pub AreNamesTo : Contract → List Name → ℕ → List Name → Type 0
AreNamesTo c names i done = done ++ filter (is_among names) (drop i c.outputs) ≡ hidden_names c names

-- the same of the columns, of which the first output has this one
abbrev pub AreColumnsTo : List Name → ℕ → List Name → ℕ → List ℕ → Type 0
AreColumnsTo outputs first gone i done = done ++ columns_from gone (first + i) (drop i outputs) ≡ columns_from gone first outputs

module _ (c : Contract) (names : List Name) (i : ℕ) (name : Name) (found : slice_get c.outputs i ≡ Some name) where
  abbrev names_left : List Name
  names_left = filter (is_among names) (drop (i + 1) c.outputs)

  names_from : filter (is_among names) (drop i c.outputs) ≡ cond (is_among names name) (name ∷ names_left) names_left
  names_from = ap (filter (is_among names)) (drop-slice_get c.outputs i name found)

  pub name_goes : (done : List Name) → is_among names name ≡ true → AreNamesTo c names i done → AreNamesTo c names (i + 1) (done ++ name ∷ [])
  name_goes done goes so_far =
      append_assoc done (name ∷ []) names_left
      ∙ ap (λ ns. done ++ ns) (sym (names_from ∙ ap (λ b. cond b (name ∷ names_left) names_left) goes)) ∙ so_far

  pub name_stays : (done : List Name) → is_among names name ≡ false → AreNamesTo c names i done → AreNamesTo c names (i + 1) done
  name_stays done stays so_far = ap (λ ns. done ++ ns) (sym (names_from ∙ ap (λ b. cond b (name ∷ names_left) names_left) stays)) ∙ so_far

module _ (outputs : List Name) (first : ℕ) (gone : List Name) (i : ℕ) (name : Name) (found : slice_get outputs i ≡ Some name) where
  abbrev columns_left : List ℕ
  columns_left = columns_from gone (suc (first + i)) (drop (i + 1) outputs)

  columns_here : columns_from gone (first + i) (drop i outputs) ≡ cond (is_among gone name) ((first + i) ∷ columns_left) columns_left
  columns_here = ap (columns_from gone (first + i)) (drop-slice_get outputs i name found)

  further : columns_from gone (first + (i + 1)) (drop (i + 1) outputs) ≡ columns_left
  further =
      let next : first + (i + 1) ≡ suc (first + i) = omega arith in
      ap (λ k. columns_from gone k (drop (i + 1) outputs)) next

  pub column_goes : (done : List ℕ) → is_among gone name ≡ true → AreColumnsTo outputs first gone i done
      → AreColumnsTo outputs first gone (i + 1) (done ++ (first + i) ∷ [])
  column_goes done goes so_far =
      ap (λ ks. (done ++ (first + i) ∷ []) ++ ks) further
      ∙ append_assoc done ((first + i) ∷ []) columns_left
      ∙ ap (λ ks. done ++ ks) (sym (columns_here ∙ ap (λ b. cond b ((first + i) ∷ columns_left) columns_left) goes)) ∙ so_far

  pub column_stays : (done : List ℕ) → is_among gone name ≡ false → AreColumnsTo outputs first gone i done → AreColumnsTo outputs first gone (i + 1) done
  column_stays done stays so_far =
      ap (λ ks. done ++ ks) further
      ∙ ap (λ ks. done ++ ks) (sym (columns_here ∙ ap (λ b. cond b ((first + i) ∷ columns_left) columns_left) stays)) ∙ so_far
