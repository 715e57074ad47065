-- One turn of each loop over the names of a composition: what the names so far and the rest come to is what all come to.
use Rattle.std.proofs.Common.{◌≡◌, ◌⊎◌, inl, inr, refl, sym, ap, ◌∙◌, subst, ℕ, ◌+◌, ◌<◌, Bool, true, false, cond, not, ◌&&◌}
use Rattle.std.proofs.Common.{List, [], ◌∷◌, ◌++◌, length, drop, take, filter, fold, Some, Result, Ok, Err, arith}
use Rattle.std.specs.Prelude.{slice_get}
use Rattle.std.specs.List.{IsDistinct}
use Rattle.std.specs.Str.{bytes_eq}
use Rattle.std.proofs.lemmas.List.{append-nil, take_more, take-append-drop}
use Rattle.std.proofs.lemmas.List.Elements.{filter-append}
use Rattle.std.proofs.lemmas.List.Sums.{fold-append}
use Rattle.std.proofs.lemmas.Option.{get_or_from_slice_get, slice_get_within}
use Rattle.pa_math.specs.Answers.{IsAnswer, and_then}
use Rattle.pa_math.specs.Lists.{with_new}
use Rattle.pa_meaning.specs.Contracts.{Name, Contract}
use Rattle.pa_meaning.specs.Composition.{is_among, all_inputs, all_outputs, part_at}
use Rattle.pa_witness.proofs.NamesLeft.{new_there}
use Rattle.pa_contract.proofs.Steps.{drop-slice_get}
use Rattle.pa_parts.specs.declared.fault.PortsFault.{PortsFault}
use Rattle.pa_parts.specs.declared.fault.PortsFault.TheVariants as fault
use Rattle.pa_parts.specs.Seen.{external_more, outputs_more}
use Rattle.pa_parts.proofs.Passing.{none_among}
use Rattle.pa_parts.proofs.Rows.{parts_from}

module _ (ns : List Name) (i : ℕ) (n : Name) (there : slice_get ns i ≡ Some n) where
  turn : drop i ns ≡ n ∷ drop (i + 1) ns
  turn = drop-slice_get ns i n there

  -- ---- the outputs
  output_turn : (names : List Name) (b : Bool) → is_among names n ≡ b
      → outputs_more names (drop i ns) ≡ cond b (Err (fault.PortClash n)) (outputs_more (names ++ n ∷ []) (drop (i + 1) ns))
  output_turn names b is =
      ap (outputs_more names) turn ∙ ap (λ b. cond b (Err (fault.PortClash n)) (outputs_more (names ++ n ∷ []) (drop (i + 1) ns))) is

  pub output_again : (names : List Name) (due : Result (List Name) PortsFault) (e : PortsFault) → is_among names n ≡ true
      → outputs_more names (drop i ns) ≡ due → (e ≡ fault.PortClash n) ⊎ (e ≡ fault.Memory) → IsAnswer fault.Memory due (Err e)
  output_again names due e again so_far (inl clash) = inr (sym so_far ∙ output_turn names true again ∙ ap Err (sym clash))
  output_again names due e again so_far (inr free) = inl free

  pub output_more : (names : List Name) (due : Result (List Name) PortsFault) → is_among names n ≡ false
      → outputs_more names (drop i ns) ≡ due → outputs_more (names ++ n ∷ []) (drop (i + 1) ns) ≡ due
  output_more names due new so_far = sym (output_turn names false new) ∙ so_far

  -- ---- the external inputs
  input_turn : (outputs names : List Name) (made known : Bool) → is_among outputs n ≡ made → is_among names n ≡ known
      → external_more outputs names (drop i ns)
      ≡ cond made (external_more outputs names (drop (i + 1) ns)) (external_more outputs (cond known names (names ++ n ∷ [])) (drop (i + 1) ns))
  input_turn outputs names made known is has =
      ap (external_more outputs names) turn
      ∙ ap (λ b. fold (with_new bytes_eq) names (cond (not b) (n ∷ rest) rest)) is ∙ by made
    where
      rest : List Name
      rest = filter (λ name. not (is_among outputs name)) (drop (i + 1) ns)

      by : (made : Bool) → fold (with_new bytes_eq) names (cond (not made) (n ∷ rest) rest)
          ≡ cond made (fold (with_new bytes_eq) names rest) (fold (with_new bytes_eq) (cond known names (names ++ n ∷ [])) rest)
      by true = refl
      by false = ap (λ b. fold (with_new bytes_eq) (cond b names (names ++ n ∷ [])) rest) has

  -- an input that a part makes, or that is there, is passed by
  pub input_passed : (outputs names all : List Name) (made known : Bool) → is_among outputs n ≡ made → is_among names n ≡ known
      → (not made && not known) ≡ false
      → external_more outputs names (drop i ns) ≡ all → external_more outputs names (drop (i + 1) ns) ≡ all
  input_passed outputs names all true known is has passed so_far = sym (input_turn outputs names true known is has) ∙ so_far
  input_passed outputs names all false true is has passed so_far = sym (input_turn outputs names false true is has) ∙ so_far
  input_passed outputs names all false false is has passed so_far = absurd (cc)

  pub input_more : (outputs names all : List Name) → is_among outputs n ≡ false → is_among names n ≡ false
      → external_more outputs names (drop i ns) ≡ all → external_more outputs (names ++ n ∷ []) (drop (i + 1) ns) ≡ all
  input_more outputs names all is has so_far = sym (input_turn outputs names false false is has) ∙ so_far

  -- ---- the outputs that are kept, or the others
  pub front_more : take (i + 1) ns ≡ take i ns ++ n ∷ []
  front_more =
      take_more ns i n (slice_get_within ns i n there) ∙ ap (λ m. take i ns ++ m ∷ []) (get_or_from_slice_get ns i n n there)

  test_more : (p : Name → Bool) (b : Bool) → p n ≡ b → filter p (take (i + 1) ns) ≡ filter p (take i ns) ++ cond b (n ∷ []) []
  test_more p b is =
      ap (filter p) front_more ∙ filter-append p (take i ns) (n ∷ []) ∙ ap (λ b. filter p (take i ns) ++ cond b (n ∷ []) []) is

  pub selected_more : (p : Name → Bool) (names : List Name) → p n ≡ true → names ≡ filter p (take i ns)
      → names ++ n ∷ [] ≡ filter p (take (i + 1) ns)
  selected_more p names passes so_far = ap (λ before. before ++ n ∷ []) so_far ∙ sym (test_more p true passes)

  pub selected_passed : (p : Name → Bool) (names : List Name) → p n ≡ false → names ≡ filter p (take i ns) → names ≡ filter p (take (i + 1) ns)
  selected_passed p names fails so_far = so_far ∙ sym (append-nil (filter p (take i ns))) ∙ sym (test_more p false fails)

  -- no name stands twice, so that the one in hand is new
  pub selected_new : (p : Name → Bool) (names : List Name) → IsDistinct bytes_eq ns → names ≡ filter p (take i ns) → is_among names n ≡ false
  selected_new p names apart so_far =
      ap (λ before. is_among before n) so_far
      ∙ none_among p n (take i ns) (new_there (take i ns) (drop (i + 1) ns) n
      (subst (IsDistinct bytes_eq) (sym (take-append-drop i ns) ∙ ap (λ rest. take i ns ++ rest) turn) apart))

-- ---- over the parts
outputs_both : (names xs ys : List Name) → outputs_more names (xs ++ ys) ≡ and_then (outputs_more names xs) (λ more. outputs_more more ys)
outputs_both names [] ys = refl
outputs_both names (x ∷ xs) ys = by (is_among names x) (outputs_both (names ++ x ∷ []) xs ys)
  where
    by : (b : Bool) → outputs_more (names ++ x ∷ []) (xs ++ ys) ≡ and_then (outputs_more (names ++ x ∷ []) xs) (λ more. outputs_more more ys)
        → cond b (Err (fault.PortClash x)) (outputs_more (names ++ x ∷ []) (xs ++ ys))
        ≡ and_then (cond b (Err (fault.PortClash x)) (outputs_more (names ++ x ∷ []) xs)) (λ more. outputs_more more ys)
    by true rest = refl
    by false rest = rest

external_both : (outputs names xs ys : List Name) → external_more outputs names (xs ++ ys) ≡ external_more outputs (external_more outputs names xs) ys
external_both outputs names xs ys =
    ap (fold (with_new bytes_eq) names) (filter-append (λ name. not (is_among outputs name)) xs ys)
    ∙ fold-append (with_new bytes_eq) names (filter (λ name. not (is_among outputs name)) xs) (filter (λ name. not (is_among outputs name)) ys)

module _ (parts : List Contract) (i : ℕ) (p : Contract) (here : i < length parts) (is : p ≡ part_at parts i) where
  outputs_from : all_outputs (drop i parts) ≡ p.outputs ++ all_outputs (drop (i + 1) parts)
  outputs_from = ap all_outputs (parts_from parts i here) ∙ ap (λ (q : Contract). q.outputs ++ all_outputs (drop (i + 1) parts)) (sym is)

  inputs_from : all_inputs (drop i parts) ≡ p.inputs ++ all_inputs (drop (i + 1) parts)
  inputs_from = ap all_inputs (parts_from parts i here) ∙ ap (λ (q : Contract). q.inputs ++ all_inputs (drop (i + 1) parts)) (sym is)

  module _ (names : List Name) (due : Result (List Name) PortsFault) (so_far : outputs_more names (all_outputs (drop i parts)) ≡ due) where
    outputs_due : and_then (outputs_more names p.outputs) (λ more. outputs_more more (all_outputs (drop (i + 1) parts))) ≡ due
    outputs_due =
        sym (outputs_both names p.outputs (all_outputs (drop (i + 1) parts))) ∙ sym (ap (outputs_more names) outputs_from) ∙ so_far

    pub part_outputs : (more : List Name) → outputs_more names p.outputs ≡ Ok more → outputs_more more (all_outputs (drop (i + 1) parts)) ≡ due
    part_outputs more found =
        sym (ap (λ r. and_then r (λ more. outputs_more more (all_outputs (drop (i + 1) parts)))) found) ∙ outputs_due

    pub part_refused : (e : PortsFault) → (e ≡ fault.Memory) ⊎ (outputs_more names p.outputs ≡ Err e) → IsAnswer fault.Memory due (Err e)
    part_refused e (inl free) = inl free
    part_refused e (inr found) =
        inr (sym outputs_due ∙ ap (λ r. and_then r (λ more. outputs_more more (all_outputs (drop (i + 1) parts)))) found)

  pub part_inputs : (outputs names more all : List Name) → more ≡ external_more outputs names p.inputs
      → external_more outputs names (all_inputs (drop i parts)) ≡ all → external_more outputs more (all_inputs (drop (i + 1) parts)) ≡ all
  part_inputs outputs names more all found so_far =
      ap (λ (ns : List Name). external_more outputs ns (all_inputs (drop (i + 1) parts))) found
      ∙ sym (external_both outputs names p.inputs (all_inputs (drop (i + 1) parts))) ∙ sym (ap (external_more outputs names) inputs_from) ∙ so_far
