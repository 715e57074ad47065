-- Members, one after another.
use Rattle.std.proofs.Common.{◌≡◌, ℕ, List, [], ◌∷◌, ◌++◌, Option, Some, None, option_map, option_and_then, refl, sym, ap, ◌∙◌}
use Rattle.std.proofs.lemmas.List.{append_assoc, append-nil}
use Rattle.serde_json.specs.Data.{Data, Members, no_members, member}
use Rattle.pa_json.specs.Members.{collected}

module _ {X : Type 0} (f : List ℕ → Data → Option X) where
  -- what is collected so far, and what the members that are left give, make what is due
  abbrev pub IsLeft : List X → Members → Option (List X) → Type 0
  IsLeft done ms due = option_map (λ xs. done ++ xs) (collected f ms) ≡ due

  pub IsLeft-init : (ms : Members) → IsLeft [] ms (collected f ms)
  IsLeft-init ms = by (collected f ms)
    where
      by : (found : Option (List X)) → option_map (λ xs. [] ++ xs) found ≡ found
      by None = refl
      by (Some xs) = refl

  -- after one more member
  pub IsLeft-next : (done : List X) (x : X) (key : List ℕ) (d : Data) (ms : Members) (due : Option (List X)) → f key d ≡ Some x
      → IsLeft done (member key d ms) due → IsLeft (done ++ x ∷ []) ms due
  IsLeft-next done x key d ms due is left =
      by (collected f ms) ∙ ap (λ found. option_map (λ xs. done ++ xs) (option_and_then (λ x. option_map (λ xs. x ∷ xs) (collected f ms)) found)) (sym is)
      ∙ left
    where
      by : (found : Option (List X))
          → option_map (λ xs. (done ++ x ∷ []) ++ xs) found ≡ option_map (λ xs. done ++ xs) (option_map (λ xs. x ∷ xs) found)
      by None = refl
      by (Some xs) = ap Some (append_assoc done (x ∷ []) xs)

  -- a member that gives nothing
  pub IsLeft-none : (done : List X) (key : List ℕ) (d : Data) (ms : Members) (due : Option (List X)) → f key d ≡ None
      → IsLeft done (member key d ms) due → None ≡ due
  IsLeft-none done key d ms due is left =
      ap (λ found. option_map (λ xs. done ++ xs) (option_and_then (λ x. option_map (λ xs. x ∷ xs) (collected f ms)) found)) (sym is) ∙ left

  -- at the end
  pub IsLeft-end : (done : List X) (due : Option (List X)) → IsLeft done no_members due → Some done ≡ due
  IsLeft-end done due left = ap Some (sym (append-nil done)) ∙ left
