-- The rows of pieces, one after another, with the sums that wait for a closing bracket or bar on a stack.
use Rattle.std.specs.Prelude.{ℕ, List, [], ◌∷◌, ◌++◌, Some, None, Result, Ok}
use Rattle.pa_math.specs.Answers.{and_then}
use Rattle.pa_math.specs.Rational.{ℚ}
use Rattle.pa_frac.specs.declared.wide.Wide.{Wide}
use Rattle.pa_grammar.specs.declared.token.Sign.{Sign}
use Rattle.pa_grammar.specs.declared.machine.Piece.{Piece}
use Rattle.pa_grammar.specs.declared.machine.Piece.TheVariants as P
use Rattle.pa_grammar.specs.Meaning.{factor_value, scale_value, with_sign}
use Rattle.pa_grammar.specs.Values.{Side, zeros, with_vector, combined, combined_all, changed_at, scaled_all}

-- a side that waits, and what it waits for: a sign, and the multiple of what comes
pub record Frame : Type 0 where
  pub side : Side
  pub sign : Sign
  pub scale : ℚ

-- the side in hand, those that wait, the innermost first, and the sides that are whole
pub record Sum : Type 0 where
  pub side : Side
  pub frames : List Frame
  pub sides : List Side

abbrev pub sum_with : Side → List Frame → List Side → Sum
sum_with side frames sides = record { side = side; frames = frames; sides = sides }

abbrev pub empty_side : ℕ → Side
empty_side names = record { vector = zeros names; pairs = [] }

abbrev pub closed_in : Side → List Frame → List Side → Result Sum Wide
closed_in side [] sides = Ok (sum_with side [] sides)
closed_in side (f ∷ frames) sides =
    and_then (scaled_all f.scale side.vector) (λ more.
    and_then (combined_all f.sign f.side.vector more) (λ v. Ok (sum_with (with_vector f.side v) frames sides)))

abbrev pub bar_closed_in : Side → List Frame → List Side → Result Sum Wide
bar_closed_in side [] sides = Ok (sum_with side [] sides)
bar_closed_in side (f ∷ frames) sides = Ok (sum_with (record {
  vector = f.side.vector;
  pairs = f.side.pairs ++ (record { weight = with_sign f.sign f.scale; inner = side.vector } ∷ []);
}) frames sides)

abbrev pub piece_in : ℕ → Piece → Side → List Frame → List Side → Result Sum Wide
piece_in names (P.Constant s f) side frames sides = and_then (changed_at names (λ q. combined s q (factor_value f)) side.vector)
    (λ v. Ok (sum_with (with_vector side v) frames sides))
piece_in names (P.Variable s f None) side frames sides = Ok (sum_with side frames sides)
piece_in names (P.Variable s f (Some j)) side frames sides = and_then (changed_at j (λ q. combined s q (scale_value f)) side.vector)
    (λ v. Ok (sum_with (with_vector side v) frames sides))
piece_in names (P.Opening s f) side frames sides = Ok (sum_with (empty_side names) (record { side = side; sign = s; scale = scale_value f } ∷ frames) sides)
piece_in names (P.OpeningBar s f) side frames sides = Ok (sum_with (empty_side names) (record { side = side; sign = s; scale = scale_value f } ∷ frames) sides)
piece_in names P.Closing side frames sides = closed_in side frames sides
piece_in names P.ClosingBar side frames sides = bar_closed_in side frames sides
piece_in names (P.Relating r) side frames sides = Ok (sum_with (empty_side names) frames (sides ++ (side ∷ [])))

abbrev pub summed : ℕ → List Piece → Sum → Result Sum Wide
summed names [] sum = Ok sum
summed names (p ∷ ps) sum = and_then (piece_in names p sum.side sum.frames sum.sides) (λ next. summed names ps next)

-- nothing is read yet
abbrev pub nothing : ℕ → Sum
nothing names = sum_with (empty_side names) [] []

-- the sides that are whole at the end, the one in hand last
abbrev pub all_sides : Sum → List Side
all_sides sum = sum.sides ++ (sum.side ∷ [])

-- the vector of pieces that stand on one side
abbrev pub vector_in : ℕ → List Piece → Result (List ℚ) Wide
vector_in names pieces = and_then (summed names pieces (nothing names)) (λ sum. Ok sum.side.vector)

-- the sides of pieces
abbrev pub sides_in : ℕ → List Piece → Result (List Side) Wide
sides_in names pieces = and_then (summed names pieces (nothing names)) (λ sum. Ok (all_sides sum))
