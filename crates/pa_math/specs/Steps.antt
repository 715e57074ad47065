-- Steps in turn, each of which may be refused.
use Rattle.std.specs.Prelude.{List, [], ◌∷◌, ◌++◌, Result, Ok}
use Rattle.pa_math.specs.Answers.{and_then}

-- what each step gives in turn, or the first refusal of one
abbrev pub each : {A X E : Type 0} → (A → X → Result A E) → A → List X → Result A E
each step a [] = Ok a
each step a (x ∷ xs) = and_then (step a x) (λ b. each step b xs)

-- the items that are there, and then those that the rest gives
abbrev pub behind : {X E : Type 0} → List X → Result (List X) E → Result (List X) E
behind there rest = and_then rest (λ more. Ok (there ++ more))
