-- The members of an object, one after another.
use Rattle.std.specs.Prelude.{ℕ, List, [], ◌∷◌, Option, Some, option_map, option_and_then}
use Rattle.serde_json.specs.Data.{Data, Members, no_members, member}

-- what the members give, where each gives something
abbrev pub collected : {X : Type 0} → (List ℕ → Data → Option X) → Members → Option (List X)
collected of_member no_members = Some []
collected of_member (member key d ms) = option_and_then (λ x. option_map (λ xs. x ∷ xs) (collected of_member ms)) (of_member key d)
