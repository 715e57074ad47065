-- The bounds of rows as fractions.
use Rattle.std.proofs.Common.{◌≡◌, ◌≢◌, sym, ap, ◌∙◌, subst, ℕ, ◌+◌, ◌<◌, ◌⊎◌, inl, inr, List, [], ◌∷◌, ◌++◌, length, get_or, nat_eq}
use Rattle.std.proofs.Common.{unsigned_abs, true, false, Result, Ok, Err, arith}
use Rattle.std.proofs.lemmas.Bool.Decides.{eqb_tells}
use Rattle.std.proofs.Math.ListN.{get_or-append}
use Rattle.std.proofs.Math.Seq.{get_or-append_seam}
use lib.IntN.{ℤ, pos}
use lib.Signed.{◌<ℤ◌}
use Rattle.pa_math.specs.Divisors.{gcd_of, gcd_ℤ, gcd_all}
use Rattle.pa_math.specs.Rational.{ℚ, over, den, whole}
use Rattle.pa_math.proofs.Divisors.{gcd_of_zero, gcd_of_comm}
use Rattle.pa_math.proofs.Rationals.{over_numbers}
use Rattle.pa_frac.specs.declared.wide.Wide.{Wide}
use Rattle.pa_frac.specs.Operations.{fraction_in}
use Rattle.pa_frac.specs.Width.{Fits}
use Rattle.pa_frac.proofs.Width.{within_fits, two_exact}
use Rattle.pa_meaning.specs.Rows.{Row, row_at}
use Rattle.pa_witness.specs.Thinning.{is_constant}
use Rattle.pa_witness.proofs.Cleaning.{nonconstant}
use Rattle.pa_row.proofs.Quotients.{quotient_fits}
use Rattle.pa_row.proofs.Turns.{row_at_read}
use Rattle.pa_fourier.specs.Bounds.{bound_at}
use Rattle.pa_fourier.specs.Cleaning.{bound_of}

-- a fraction of two narrow numbers is narrow
pub fraction_fits : (n d : ℤ) → pos 0 <ℤ d → Fits 126 n → Fits 126 d → Ok (over n d) ≡ fraction_in 126 (over n d)
unfolding fraction_in
fraction_fits n d up hn hd =
    let numbers = over_numbers n d up in
    let num : Fits 126 (over n d).num = subst (Fits 126) (sym numbers.0) (quotient_fits n (gcd_ℤ n d) hn) in
    let low : Fits 126 (den (over n d)) = subst (Fits 126) (sym numbers.1) (quotient_fits d (gcd_ℤ n d) hd) in
    two_exact 126 (over n d).num (den (over n d)) (over n d).num (den (over n d)) (over n d) (within_fits 126 (over n d).num num)
    (within_fits 126 (den (over n d)) low)

-- a 0 before a list does not change its divisor
pub divisor_behind_zero : (cs : List ℤ) → gcd_all (pos 0 ∷ cs) ≡ gcd_all cs
divisor_behind_zero [] = ap pos (gcd_of_zero 0)
divisor_behind_zero (c ∷ cs) = let n : ℕ = gcd_of (unsigned_abs c) (unsigned_abs (gcd_all cs)) in ap pos (gcd_of_comm 0 n ∙ gcd_of_zero n)

pub never_wide : (n d : ℤ) (e : Wide) (x : Result ℚ Wide) → Err e ≡ x → Ok (over n d) ≡ x → ⊥
never_wide n d e x h k = cc

pub value_is : (q p : ℚ) (x : Result ℚ Wide) → Ok q ≡ x → Ok p ≡ x → q ≡ p
value_is q p x h k = cc

-- the divisor of a row with coefficients is positive
pub divisor_positive : (r : Row) → is_constant r ≡ false → pos 0 <ℤ gcd_all (pos 0 ∷ r.c)
divisor_positive r c = subst (λ t. pos 0 <ℤ t) (sym (divisor_behind_zero r.c)) (nonconstant r c)

-- ---- the bounds of a list of rows
abbrev pub HaveBounds : ℕ → List Row → List ℚ → Type 0
HaveBounds n rows bounds = (i : ℕ) → i < n → is_constant (row_at rows i) ≡ false → bound_at bounds i ≡ bound_of (row_at rows i)

pub bounds_more : (n : ℕ) (rows : List Row) (bounds : List ℚ) (q : ℚ) (r : Row) → length bounds ≡ n → n < length rows → r ≡ get_or rows n r
    → HaveBounds n rows bounds → (is_constant r ≡ false → q ≡ bound_of r) → HaveBounds (n + 1) rows (bounds ++ q ∷ [])
bounds_more n rows bounds q r count l is before here i h solid = by (eqb_tells i n)
  where
    read : row_at rows n ≡ r
    read = row_at_read rows n r l ∙ sym is

    last : is_constant (row_at rows n) ≡ false → bound_at (bounds ++ q ∷ []) n ≡ bound_of (row_at rows n)
    last s =
        ap (λ m. bound_at (bounds ++ q ∷ []) m) (sym count) ∙ get_or-append_seam bounds q [] (whole (pos 0))
        ∙ here (subst (λ (s : Row). is_constant s ≡ false) read s) ∙ ap bound_of (sym read)

    by : ((nat_eq i n ≡ true) × (i ≡ n)) ⊎ ((nat_eq i n ≡ false) × (i ≢ n)) → bound_at (bounds ++ q ∷ []) i ≡ bound_of (row_at rows i)
    by (inl (t, same)) = subst (λ m. is_constant (row_at rows m) ≡ false → bound_at (bounds ++ q ∷ []) m ≡ bound_of (row_at rows m)) (sym same) last solid
    by (inr (t, other)) = get_or-append bounds (q ∷ []) (whole (pos 0)) i (omega arith) ∙ before i (omega arith) solid
