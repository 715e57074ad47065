-- Orders and places, where another order would have the same meaning: which rows come first, which of equal ones stay, which
-- equality is substituted, which ports come first.
use Rattle.std.proofs.Common.{◌≡◌, refl, List, [], ◌∷◌, Some, None}
use lib.IntN.{pos, negsuc}
use Rattle.pa_math.specs.Divisors.{gcd_of}
use Rattle.pa_meaning.specs.Weights.{impossible}
use Rattle.pa_meaning.specs.Contracts.{Contract}
use Rattle.pa_meaning.specs.Composition.{external_inputs, kept_outputs, internal_outputs, names_of}
use Rattle.pa_meaning.specs.Quotient.{quotient_outputs, quotient_names}
use Rattle.pa_witness.specs.Elimination.{eliminated}
use Rattle.pa_witness.specs.Equalities.{equality_of}
use Rattle.pa_witness.specs.Steps.{Two, stepped}
use Rattle.pa_witness.specs.Thinning.{cleaned}
use Rattle.pa_holds.proofs.Examples.{row, contract, a, b, i, o, p, u, y}

-- ---- pairs of a step
-- `x <= 1`, `x + y <= 2`, `-x <= 3` and `y - x <= 4`: each row that is positive in x with each one that is negative there
pairs_in_order : eliminated 0 (row (pos 1 ∷ pos 0 ∷ []) (pos 1) ∷ row (negsuc 0 ∷ pos 0 ∷ []) (pos 3) ∷ row (pos 1 ∷ pos 1 ∷ []) (pos 2)
    ∷ row (negsuc 0 ∷ pos 1 ∷ []) (pos 4) ∷ row (pos 0 ∷ pos 1 ∷ []) (pos 9) ∷ [])
    ≡ row (pos 1 ∷ []) (pos 9) ∷ row (pos 0 ∷ []) (pos 1) ∷ row (pos 1 ∷ []) (pos 5) ∷ row (pos 1 ∷ []) (pos 5) ∷ row (pos 1 ∷ []) (pos 3) ∷ []
unfolding gcd_of
pairs_in_order = refl

-- ---- equalities
-- the negative may stand first
negative_first : equality_of 0 (row (negsuc 0 ∷ pos 1 ∷ []) (pos 0) ∷ row (pos 1 ∷ negsuc 0 ∷ []) (pos 0) ∷ []) ≡ Some (1, 0)
negative_first = refl

-- of two equalities the one whose positive row comes first
first_equality : equality_of 0 (row (pos 2 ∷ negsuc 0 ∷ []) (pos 0) ∷ row (pos 1 ∷ negsuc 0 ∷ []) (pos 0) ∷ row (negsuc 0 ∷ pos 1 ∷ []) (pos 0)
    ∷ row (negsuc 1 ∷ pos 1 ∷ []) (pos 0) ∷ []) ≡ Some (0, 3)
first_equality = refl

-- two rows with opposite coefficients and other bounds are none, and nor is one in another column
no_equality_of_bounds : equality_of 0 (row (pos 1 ∷ negsuc 0 ∷ []) (pos 0) ∷ row (negsuc 0 ∷ pos 1 ∷ []) (pos 1) ∷ []) ≡ None
no_equality_of_bounds = refl

no_equality_elsewhere : equality_of 0 (row (pos 0 ∷ negsuc 0 ∷ []) (pos 0) ∷ row (pos 0 ∷ pos 1 ∷ []) (pos 0) ∷ []) ≡ None
no_equality_elsewhere = refl

-- the rows without the column come first, then the others in their order, whichever sign they have
substituted_in_order : stepped Two 0 (row (negsuc 0 ∷ pos 0 ∷ []) (pos 3) ∷ row (negsuc 0 ∷ pos 1 ∷ []) (pos 0) ∷ row (pos 1 ∷ pos 0 ∷ []) (pos 1)
    ∷ row (pos 1 ∷ negsuc 0 ∷ []) (pos 0) ∷ row (pos 0 ∷ pos 1 ∷ []) (pos 9) ∷ [])
    ≡ row (pos 1 ∷ []) (pos 9) ∷ row (negsuc 0 ∷ []) (pos 3) ∷ row (pos 1 ∷ []) (pos 1) ∷ []
unfolding gcd_of
substituted_in_order = refl

-- ---- rows that are left out at sight
-- of two parallel rows with one bound the first stays, and else the tighter one
first_of_equal_bounds : cleaned 1 (row (pos 2 ∷ []) (pos 2) ∷ row (pos 1 ∷ []) (pos 1) ∷ row (pos 3 ∷ []) (pos 4) ∷ []) ≡ row (pos 2 ∷ []) (pos 2) ∷ []
unfolding gcd_of
first_of_equal_bounds = refl

-- rows of opposite directions are not parallel
opposite_rows_stay : cleaned 1 (row (pos 1 ∷ []) (pos 1) ∷ row (negsuc 0 ∷ []) (pos 0) ∷ []) ≡ row (pos 1 ∷ []) (pos 1) ∷ row (negsuc 0 ∷ []) (pos 0) ∷ []
unfolding gcd_of
opposite_rows_stay = refl

-- `0 <= 0` and `0 <= 1` go, and `0 <= -3` stands in for all rows
constant_rows_go : cleaned 1 (row (pos 0 ∷ []) (pos 0) ∷ row (pos 1 ∷ []) (pos 1) ∷ row (pos 0 ∷ []) (pos 1) ∷ []) ≡ row (pos 1 ∷ []) (pos 1) ∷ []
unfolding gcd_of
constant_rows_go = refl

impossible_stays_alone : cleaned 1 (row (pos 1 ∷ []) (pos 1) ∷ row (pos 0 ∷ []) (negsuc 2) ∷ []) ≡ impossible 1 ∷ []
unfolding gcd_of
impossible_stays_alone = refl

-- ---- ports
-- from a and i to o, then from i, o and u to b and p: the inputs where they are first met, then the outputs part by part
abbrev parts : List Contract
parts = contract (i ∷ a ∷ []) (o ∷ y ∷ []) [] [] ∷ contract (u ∷ o ∷ i ∷ []) (p ∷ b ∷ []) [] [] ∷ []

inputs_where_first_met : external_inputs parts ≡ i ∷ a ∷ u ∷ []
inputs_where_first_met = refl

outputs_part_by_part : kept_outputs parts [] ≡ y ∷ p ∷ b ∷ []
outputs_part_by_part = refl

taken_ones_by_the_list : kept_outputs parts (o ∷ []) ≡ o ∷ y ∷ p ∷ b ∷ []
taken_ones_by_the_list = refl

others_are_internal : internal_outputs parts [] ≡ o ∷ []
others_are_internal = refl

inputs_before_outputs : names_of parts ≡ i ∷ a ∷ u ∷ o ∷ y ∷ p ∷ b ∷ []
inputs_before_outputs = refl

-- a whole from i to o and p, and a part from i, o and u to p: what is left makes o, and then u
quotient_ports_in_order : quotient_outputs (contract (i ∷ []) (p ∷ o ∷ []) [] []) (contract (u ∷ i ∷ o ∷ []) (p ∷ y ∷ []) [] []) ≡ o ∷ u ∷ []
quotient_ports_in_order = refl

part_outputs_last : quotient_names (contract (i ∷ []) (p ∷ o ∷ []) [] []) (contract (u ∷ i ∷ o ∷ []) (p ∷ y ∷ []) [] []) ≡ i ∷ o ∷ u ∷ p ∷ y ∷ []
part_outputs_last = refl
