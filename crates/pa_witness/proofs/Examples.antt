-- What the definitions of elimination give on small lists of rows, and a drop that they exclude.
use Rattle.std.proofs.Common.{◌≡◌, refl, ℕ, List, [], ◌∷◌, false}
use Rattle.std.proofs.lemmas.List.Elements.{All-head}
use lib.IntN.{ℤ, pos, negsuc}
use Rattle.pa_math.specs.Divisors.{gcd_of}
use Rattle.pa_meaning.specs.Rows.{Row}
use Rattle.pa_meaning.specs.Weights.{Weights}
use Rattle.pa_witness.specs.Elimination.{cancelled, eliminated}
use Rattle.pa_witness.specs.Steps.{One, Two, stepped, step_count}
use Rattle.pa_witness.specs.Thinning.{is_place_of, DropsHold, cleaned}

-- a row by its coefficients and its bound
abbrev row : List ℤ → ℤ → Row
row c b = record { c = c; b = b }

-- `x + 4 y <= 4` and `x - 6 y <= 5` cancel y: three times the first and twice the second
cancels : cancelled 1 (row (pos 1 ∷ pos 4 ∷ []) (pos 4)) (row (pos 1 ∷ negsuc 5 ∷ []) (pos 5)) ≡ row (pos 5 ∷ pos 0 ∷ []) (pos 22)
unfolding gcd_of
cancels = refl

-- y goes out of `x <= 9`, `x + 4 y <= 4` and `x - 6 y <= 5`
goes_out :
    eliminated 1 (row (pos 1 ∷ pos 4 ∷ []) (pos 4) ∷ row (pos 1 ∷ pos 0 ∷ []) (pos 9) ∷ row (pos 1 ∷ negsuc 5 ∷ []) (pos 5) ∷ []) ≡ row (pos 1 ∷ [])
    (pos 9) ∷ row (pos 5 ∷ []) (pos 22) ∷ []
unfolding gcd_of
goes_out = refl

-- ---- an equality
-- `x = y`, `x <= 5`, `-x <= 1` and `z <= x`
abbrev tied : List Row
tied =
    row (pos 1 ∷ negsuc 0 ∷ pos 0 ∷ []) (pos 0)
    ∷ row (negsuc 0 ∷ pos 1 ∷ pos 0 ∷ []) (pos 0)
    ∷ row (pos 1 ∷ pos 0 ∷ pos 0 ∷ []) (pos 5)
    ∷ row (negsuc 0 ∷ pos 0 ∷ pos 0 ∷ []) (pos 1)
    ∷ row (negsuc 0 ∷ pos 0 ∷ pos 1 ∷ []) (pos 0)
    ∷ []

-- version 2 puts y in the place of x: `y <= 5`, `-y <= 1` and `z <= y`
substitutes : stepped Two 0 tied ≡ row (pos 1 ∷ pos 0 ∷ []) (pos 5) ∷ row (negsuc 0 ∷ pos 0 ∷ []) (pos 1) ∷ row (negsuc 0 ∷ pos 1 ∷ []) (pos 0) ∷ []
unfolding gcd_of
substitutes = refl

-- version 1 makes a row for each of two positive rows and three negative ones
makes_pairs : step_count One 0 tied ≡ 6
makes_pairs = refl

-- a version 1 step is the textbook's
is_textbook : (k : ℕ) (rows : List Row) → stepped One k rows ≡ eliminated k rows
is_textbook k rows = refl

-- ---- parallel rows
-- `2 x <= 3` stands in for `x <= 2`, and of two equal rows the first stays
tightest_stay : cleaned 1 (row (pos 1 ∷ []) (pos 2) ∷ row (pos 2 ∷ []) (pos 3) ∷ row (pos 2 ∷ []) (pos 3) ∷ []) ≡ row (pos 2 ∷ []) (pos 3) ∷ []
unfolding gcd_of
tightest_stay = refl

-- ---- a drop by weights on a row that was dropped before
abbrev by_row : ℕ → Weights
by_row i = record { den = pos 1; parts = (i, pos 1) ∷ [] }

-- of two equal rows each proves the other, and only one of them can go
only_one_goes : (rows : List Row) → ¬ DropsHold rows [] (record { row = 0; weights = by_row 1 } ∷ record { row = 1; weights = by_row 0 } ∷ [])
only_one_goes rows h =
    let named = All-head (λ part. is_place_of (1 ∷ 0 ∷ []) part.0 ≡ false) (0, pos 1) [] h.2.1 in absurd (cc)
