-- How a fraction stands to a whole number.
use Rattle.std.proofs.Common.{◌≡◌, refl, sym, ◌∙◌, ap, Bool, true, false, cond, int_lt, [], ◌∷◌, Ok, Err, Result, arith}
use Rattle.std.proofs.lemmas.Int.{ints}
use Rattle.std.specs.Ordering.{int_cmp}
use Rattle.std.specs.Result.{IfOk}
use Rattle.pa_frac.specs.declared.wide.Wide.{Wide}
use Rattle.std.specs.declared.cmp.Ordering.{Ordering}
use Rattle.std.specs.declared.cmp.Ordering.TheVariants.{Less, Equal, Greater}
use lib.IntN.{ℤ, pos, ◌*ℤ◌}
use lib.Signed.{◌≤ℤ◌, ◌<ℤ◌}
use Rattle.pa_math.specs.Rational.{over, whole}
use Rattle.pa_math.specs.RationalOrder.{compare_ℚ}
use Rattle.pa_math.proofs.Rationals.{ratio_over}
use Rattle.pa_math.proofs.RationalOrders.{compare_from_ratios}
use Rattle.pa_frac.specs.Operations.{comparison_in, scaled_num}
use Rattle.std.proofs.Common.{lit≤}
use Rattle.pa_math.proofs.ReducedForms.{reduced_whole}
use Rattle.pa_frac.specs.Width.{Fits}
use Rattle.pa_frac.proofs.Width.{exact_value}
use Rattle.pa_row.specs.Fractions.{IsFraction}
use Rattle.pa_ring.proofs.Integers.{gap, rise}
use Rattle.pa_ring.proofs.IntegerTactics.{by_le, by_lt, reads}
use Rattle.pa_meaning.specs.Rows.{Row}
use Rattle.pa_replay.specs.Readings.{LeastRead}
use Rattle.pa_farkas.specs.Answered.{compared_in, is_above}
use Rattle.pa_farkas.specs.Seen.{IsBeyond, IsCompared, IsWithin}

comparison_is : (n d b : ℤ) (o : Ordering) → pos 0 <ℤ d → Ok o ≡ comparison_in 126 (over n d) (whole b) → o ≡ int_cmp (n *ℤ pos 1) (b *ℤ d)
unfolding comparison_in
comparison_is n d b o up h =
    exact_value 126 (scaled_num (over n d) (whole b) ∷ scaled_num (whole b) (over n d) ∷ []) o (compare_ℚ (over n d) (whole b)) h
    ∙ sym (compare_from_ratios (ratio_over n d up) (ratio_over b (pos 1) (omega (arith, ints))))

above_when : (a b : ℤ) → is_above (int_cmp a b) ≡ int_lt b a
above_when a b = by (int_lt a b) (int_lt b a) refl refl
  where
    by : (x y : Bool) → int_lt a b ≡ x → int_lt b a ≡ y → is_above (cond x Less (cond y Greater Equal)) ≡ y
    by true true e f = absurd (grind (arith, ints))
    by true false e f = refl
    by false true e f = refl
    by false false e f = refl

below_false : (a b : ℤ) → int_lt b a ≡ false → a ≤ℤ b
below_false a b h = grind (arith, ints)

below_true : (a b : ℤ) → int_lt b a ≡ true → b <ℤ a
below_true a b h = grind (arith, ints)

-- a whole number below the width is a fraction over 1
pub whole_fraction : (b : ℤ) → Fits 126 b → IsFraction (b, pos 1)
whole_fraction b h = record { reduced = reduced_whole b; numerator = h; denominator = lit≤ tt }

pub within : (row : Row) (a : LeastRead) (o : Ordering) → pos 0 <ℤ a.value.1 → Ok o ≡ compared_in row a → is_above o ≡ false → IsWithin row a
within row a o up h low =
    let told : o ≡ int_cmp (a.value.0 *ℤ pos 1) (row.b *ℤ a.value.1) = comparison_is a.value.0 a.value.1 row.b o up h in
    let test = below_false (a.value.0 *ℤ pos 1) (row.b *ℤ a.value.1)
    (sym (above_when (a.value.0 *ℤ pos 1) (row.b *ℤ a.value.1)) ∙ sym (ap is_above told) ∙ low) in
    by_le (a.value.0 ∷ a.value.1 ∷ row.b ∷ []) (gap test) (search reads depth 40) tt

pub beyond : (row : Row) (a : LeastRead) (o : Ordering) → pos 0 <ℤ a.value.1 → Ok o ≡ compared_in row a → is_above o ≡ true → IsBeyond row a
beyond row a o up h high =
    let told : o ≡ int_cmp (a.value.0 *ℤ pos 1) (row.b *ℤ a.value.1) = comparison_is a.value.0 a.value.1 row.b o up h in
    let test = below_true (a.value.0 *ℤ pos 1) (row.b *ℤ a.value.1)
    (sym (above_when (a.value.0 *ℤ pos 1) (row.b *ℤ a.value.1)) ∙ sym (ap is_above told) ∙ high) in
    by_lt (a.value.0 ∷ a.value.1 ∷ row.b ∷ []) (rise test) (search reads depth 40) tt

pub compared_meant : (row : Row) (a : LeastRead) (result : Result Ordering Wide) → pos 0 <ℤ a.value.1 → result ≡ compared_in row a →
    IfOk result (IsCompared row a)
compared_meant row a (Err e) up h = tt
compared_meant row a (Ok o) up h = record { within = λ low. within row a o up h low; beyond = λ high. beyond row a o up h high }
