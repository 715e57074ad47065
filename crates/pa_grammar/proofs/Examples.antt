-- Rows of terms, computed by the definitions.
use Rattle.std.proofs.Common.{◌≡◌, List, [], ◌∷◌, Some, None, true, false, Ok, Err, refl, sym, subst, rules, arith}
use Rattle.std.specs.Prelude.{ℕ, ℤ, pos, negsuc, All}
use Rattle.std.proofs.lemmas.List.Elements.{All-nil, All-cons}
use Rattle.pa_frac.specs.Operations.{sum_in, difference_in, product_in}
use Rattle.pa_math.specs.Rational.{over, lowest, ◌+ℚ◌, neg_ℚ, ◌*ℚ◌, reciprocal}
use Rattle.pa_math.specs.Divisors.{gcd_of, lcm_of}
use Rattle.pa_meaning.specs.Rows.{Row}
use Rattle.pa_grammar.specs.declared.token.Sign.TheVariants.{Plus, Minus}
use Rattle.pa_grammar.specs.declared.token.Relation.TheVariants.{AtMost, AtLeast, Equal}
use Rattle.pa_grammar.specs.declared.token.Numeral.{Numeral}
use Rattle.pa_grammar.specs.declared.token.Token.TheVariants as K
use Rattle.pa_grammar.specs.declared.machine.Factor.TheVariants.{Whole, Ratio}
use Rattle.pa_grammar.specs.Grammar.{Items, End, Constant, Variable, Bracket, BarPair, Term}
use Rattle.pa_grammar.specs.Machine.{runs, term_start}
use Rattle.pa_grammar.specs.Texts.{IsConstant}
use Rattle.pa_grammar.specs.Values.{term_rows, pair_faults}

abbrev number : ℕ → Numeral
number n = record { plain = true; value = Some (record { digits = n; power = pos 0 }) }

abbrev decimal : ℕ → ℤ → Numeral
decimal n p = record { plain = false; value = Some (record { digits = n; power = p }) }

abbrev row : List ℤ → ℤ → Row
row c b = record { c = c; b = b }

abbrev constant : Numeral → Items
constant n = Constant None (Whole n) End

abbrev times : Numeral → ℕ → Items
times n x = Variable None (Some (Whole n)) false (Some x) End

abbrev name : ℕ → Items
name x = Variable None None false (Some x) End

abbrev two_sides : Items → Items → Term
two_sides l r = record { relation = AtMost; side = l; others = r ∷ [] }

-- `2x <= 1`
two_x : term_rows 2 (two_sides (times (number 2) 0) (constant (number 1))) ≡ Ok (row (pos 2 ∷ pos 0 ∷ []) (pos 1) ∷ [])
unfolding sum_in difference_in product_in over lowest ◌+ℚ◌ neg_ℚ ◌*ℚ◌ reciprocal gcd_of lcm_of
two_x = refl

-- `1/2 x <= 3`
half_x : term_rows 2 (two_sides (Variable None (Some (Ratio (number 1) (number 2))) false (Some 0) End) (constant (number 3)))
    ≡ Ok (row (pos 1 ∷ pos 0 ∷ []) (pos 6) ∷ [])
unfolding sum_in difference_in product_in over lowest ◌+ℚ◌ neg_ℚ ◌*ℚ◌ reciprocal gcd_of lcm_of
half_x = refl

-- `0.5 x <= y`
half_y : term_rows 2 (two_sides (times (decimal 5 (negsuc 0)) 0) (name 1)) ≡ Ok (row (pos 1 ∷ negsuc 1 ∷ []) (pos 0) ∷ [])
unfolding sum_in difference_in product_in over lowest ◌+ℚ◌ neg_ℚ ◌*ℚ◌ reciprocal gcd_of lcm_of
half_y = refl

-- `1e-3 x >= 1`
thousandth : term_rows 2 (record { relation = AtLeast; side = times (decimal 1 (negsuc 2)) 0; others = constant (number 1) ∷ [] })
    ≡ Ok (row (negsuc 0 ∷ pos 0 ∷ []) (negsuc 999) ∷ [])
unfolding sum_in difference_in product_in over lowest ◌+ℚ◌ neg_ℚ ◌*ℚ◌ reciprocal gcd_of lcm_of
thousandth = refl

-- `|x - y| <= 2`
abbrev x_minus_y : Items
x_minus_y = Variable None None false (Some 0) (Variable (Some Minus) None false (Some 1) End)

distance : term_rows 2 (two_sides (BarPair None None false x_minus_y End) (constant (number 2)))
    ≡ Ok (row (pos 1 ∷ negsuc 0 ∷ []) (pos 2) ∷ row (negsuc 0 ∷ pos 1 ∷ []) (pos 2) ∷ [])
unfolding sum_in difference_in product_in over lowest ◌+ℚ◌ neg_ℚ ◌*ℚ◌ reciprocal gcd_of lcm_of
distance = refl

-- `2(x + y) = 6`
twice_sum : term_rows 2
    (record {
      relation = Equal;
      side = Bracket None (Some (Whole (number 2))) false
          (Variable None None false (Some 0) (Variable (Some Plus) None false (Some 1) End)) End;
      others = constant (number 6) ∷ [];
    })
    ≡ Ok (row (pos 1 ∷ pos 1 ∷ []) (pos 3) ∷ row (negsuc 0 ∷ negsuc 0 ∷ []) (negsuc 2) ∷ [])
unfolding sum_in difference_in product_in over lowest ◌+ℚ◌ neg_ℚ ◌*ℚ◌ reciprocal gcd_of lcm_of
twice_sum = refl

-- `1 <= 0`
false_row : term_rows 2 (two_sides (constant (number 1)) (constant (number 0))) ≡ Ok (row (pos 0 ∷ pos 0 ∷ []) (negsuc 0) ∷ [])
unfolding sum_in difference_in product_in over lowest ◌+ℚ◌ neg_ℚ ◌*ℚ◌ reciprocal gcd_of lcm_of
false_row = refl

-- `1e18 (1e18 (1e18 x)) <= 1`
abbrev great : Numeral
great = decimal 1 (pos 18)

abbrev nested : Items → Items
nested i = Bracket None (Some (Whole great)) false i End

too_wide : term_rows 2 (two_sides (nested (nested (times great 0))) (constant (number 1))) ≡ Err (record {})
unfolding sum_in difference_in product_in over lowest ◌+ℚ◌ neg_ℚ ◌*ℚ◌ reciprocal gcd_of lcm_of
too_wide = refl

-- `|x| >= 1` has a faulty pair
bars_above : pair_faults (record { relation = AtLeast; side = BarPair None None false (name 0) End; others = constant (number 1) ∷ [] }) ≡ true ∷ []
unfolding sum_in difference_in product_in over lowest ◌+ℚ◌ neg_ℚ ◌*ℚ◌ reciprocal gcd_of lcm_of
bars_above = refl

-- `2 x y <= 1`: the tokens up to the third can't be taken, the two before it can
two_names : (runs term_start (K.Number (number 2) ∷ K.Named (Some 0) ∷ []) ≡ true)
    × (runs term_start (K.Number (number 2) ∷ K.Named (Some 0) ∷ K.Named (Some 1) ∷ []) ≡ false)
two_names = (refl, refl)

-- `2 * x <= 4`
starred : term_rows 2 (two_sides (Variable None (Some (Whole (number 2))) true (Some 0) End) (constant (number 4))) ≡ Ok (row (pos 1 ∷ pos 0 ∷ []) (pos 2) ∷ [])
unfolding sum_in difference_in product_in over lowest ◌+ℚ◌ neg_ℚ ◌*ℚ◌ reciprocal gcd_of lcm_of
starred = refl

-- `x <= x`
same_sides : term_rows 2 (two_sides (name 0) (name 0)) ≡ Ok (row (pos 0 ∷ pos 0 ∷ []) (pos 0) ∷ [])
unfolding sum_in difference_in product_in over lowest ◌+ℚ◌ neg_ℚ ◌*ℚ◌ reciprocal gcd_of lcm_of
same_sides = refl

-- ---- constants

three_halves : IsConstant (pos 3, pos 2)
unfolding gcd_of
three_halves = record {
  reduced = record { positive = search rules; coprime = record { gcd_is_one = refl } };
  numerator = omega arith;
  denominator = omega
      arith;
}

less_a_third : IsConstant (negsuc 0, pos 3)
unfolding gcd_of
less_a_third = record {
  reduced = record { positive = search rules; coprime = record { gcd_is_one = refl } };
  numerator = omega arith;
  denominator = omega
      arith;
}

pub two_constants : (values : List (ℤ × ℤ)) → values ≡ (pos 3, pos 2) ∷ (negsuc 0, pos 3) ∷ [] → All IsConstant values
two_constants values is =
    subst (All IsConstant) (sym is)
    (All-cons IsConstant (pos 3, pos 2) ((negsuc 0, pos 3) ∷ []) three_halves
    (All-cons IsConstant (negsuc 0, pos 3) [] less_a_third (All-nil IsConstant)))
