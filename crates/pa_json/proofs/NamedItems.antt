-- Items that are read into contracts by their names, one after another: what is left makes what is due.
use Rattle.std.proofs.Common.{◌≡◌, ◌⊎◌, ℕ, ◌+◌, ◌<◌, get_or, List, [], ◌∷◌, ◌++◌, drop, length, sym, ap, ◌∙◌, Result, Ok, Err}
use Rattle.serde_json.specs.Data.{Data, Items, item}
use Rattle.serde_json.specs.View.{view, items_view}
use Rattle.serde_json.specs.declared.value.Value.{Value}
use Rattle.pa_math.specs.Answers.{and_then}
use Rattle.pa_math.proofs.Answers.{and_then_assoc}
use Rattle.pa_meaning.specs.Contracts.{Named}
use Rattle.pa_json.specs.declared.fault.DiagramFault.{DiagramFault}
use Rattle.pa_json.proofs.Steps.{taken, refused, items_view-drop}

module _ (named_of : List Named → Data → Result Named DiagramFault) (with_items : List Named → Items → Result (List Named) DiagramFault)
    (with_item : (done : List Named) (d : Data) (ds : Items)
    → with_items done (item d ds) ≡ and_then (named_of done d) (λ named. with_items (done ++ named ∷ []) ds)) where
  left_item : (done : List Named) (values : List Value) (i : ℕ) (v : Value) (all : Result (List Named) DiagramFault) → i < length values
      → v ≡ get_or values i v → with_items done (items_view (drop i values)) ≡ all
      → and_then (and_then (named_of done (view v)) (λ named. Ok (done ++ named ∷ []))) (λ more. with_items more (items_view (drop (i + 1) values))) ≡ all
  left_item done values i v all within is so_far =
      and_then_assoc (named_of done (view v)) (λ named. Ok (done ++ named ∷ [])) (λ more. with_items more (items_view (drop (i + 1) values)))
      ∙ sym (with_item done (view v) (items_view (drop (i + 1) values)))
      ∙ ap (with_items done) (sym (items_view-drop values i v within is)) ∙ so_far

  -- after one more item
  pub named_taken : (done more : List Named) (values : List Value) (i : ℕ) (v : Value) (all : Result (List Named) DiagramFault) → i < length values
      → v ≡ get_or values i v → and_then (named_of done (view v)) (λ named. Ok (done ++ named ∷ [])) ≡ Ok more
      → with_items done (items_view (drop i values)) ≡ all → with_items more (items_view (drop (i + 1) values)) ≡ all
  named_taken done more values i v all within is made so_far =
      taken (and_then (named_of done (view v)) (λ named. Ok (done ++ named ∷ []))) more (λ more. with_items more (items_view (drop (i + 1) values))) all
      made (left_item done values i v all within is so_far)

  -- an item that was refused
  pub named_refused : (done : List Named) (values : List Value) (i : ℕ) (v : Value) (all : Result (List Named) DiagramFault) (memory e : DiagramFault)
      → i < length values → v ≡ get_or values i v → (e ≡ memory) ⊎ (and_then (named_of done (view v)) (λ named. Ok (done ++ named ∷ [])) ≡ Err e)
      → with_items done (items_view (drop i values)) ≡ all → (e ≡ memory) ⊎ (all ≡ Err e)
  named_refused done values i v all memory e within is made so_far =
      refused (and_then (named_of done (view v)) (λ named. Ok (done ++ named ∷ []))) (λ more. with_items more (items_view (drop (i + 1) values))) all memory e
      made (left_item done values i v all within is so_far)
