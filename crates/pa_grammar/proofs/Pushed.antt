-- The rows of a comparison, one after another.
use Rattle.std.proofs.Common.{◌≡◌, List, [], ◌∷◌, ◌++◌, map, All, Result, Ok, Err, refl, sym, ap, subst, ◌∙◌, arith, append_assoc}
use Rattle.std.specs.Prelude.{ℤ, pos, negsuc, zero, suc, neg_ℤ, ◌-ℤ◌}
use Rattle.std.proofs.lemmas.Int.{ints, to_z-of_z}
use mir.Syntax.{w128}
use mir.Val.{to_z, of_z, SFits}
use Rattle.pa_ring.proofs.Lists.{All-append_right}
use Rattle.pa_row.specs.Width.{Fits}
use Rattle.std.proofs.lemmas.List.Elements.{All-nil, All-cons, All-head}
use Rattle.pa_math.specs.Answers.{IsAnswer, and_then, told_as}
use Rattle.pa_math.proofs.Answers.{ok_same, told_as_ok}
use Rattle.pa_math.specs.Rational.{ℚ}
use Rattle.pa_math.proofs.Rationals.{reduced_form}
use Rattle.pa_frac.specs.declared.wide.Wide.{Wide}
use Rattle.pa_frac.specs.declared.wide126.Wide126.{Wide126}
use Rattle.pa_frac.specs.Narrow.{num_fits, den_fits}
use Rattle.pa_meaning.specs.Rows.{Row}
use Rattle.pa_row.specs.declared.fault.RowFault.{RowFault}
use Rattle.pa_row.specs.declared.fault.RowFault.TheVariants as fault
use Rattle.pa_row.specs.Answers.{as_fault}
use Rattle.pa_row.specs.Fractions.{IsFraction}
use Rattle.pa_grammar.specs.declared.token.Sign.TheVariants.{Plus, Minus}
use Rattle.pa_grammar.specs.Seen.{fraction}
use Rattle.pa_grammar.specs.Values.{Pair, parts_of, row_with, row_of, rows_of_all, choices, joined, scaled_all, combined_all}
use Rattle.pa_grammar.specs.Chosen.{added_to, chosen, chosen_rows}
use Rattle.pa_grammar.proofs.Steps.{then_then, same_then}

-- the numbers of a fraction are in lowest terms, and 126 bits hold them
pub fraction_is : (x : Wide126) → IsFraction (parts_of (fraction x))
fraction_is x = record { reduced = reduced_form (fraction x); numerator = num_fits 126 x.num x.den x.narrow; denominator = den_fits 126 x.num x.den x.narrow }

pub fractions_are : (xs : List Wide126) → All IsFraction (map parts_of (map fraction xs))
fractions_are [] = All-nil IsFraction
fractions_are (x ∷ xs) =
    All-cons IsFraction (parts_of (fraction x)) (map parts_of (map fraction xs))
    (fraction_is x) (fractions_are xs)

pub row_with_last : (ns : List ℤ) (n : ℤ) → row_with (ns ++ (n ∷ [])) ≡ record { c = ns; b = neg_ℤ n }
row_with_last [] n = refl
row_with_last (m ∷ []) n = refl
row_with_last (m ∷ k ∷ ks) n = ap (λ (row : Row). record { c = m ∷ row.c; b = row.b }) (row_with_last (k ∷ ks) n)

-- ---- the rows in the order in which they are made
all_appended : (vs ws : List (List ℚ)) → rows_of_all (vs ++ ws) ≡ joined (rows_of_all vs) (rows_of_all ws)
all_appended [] ws = kept (rows_of_all ws)
  where
    kept : (r : Result (List Row) Wide) → r ≡ and_then r (λ rows. Ok rows)
    kept (Ok rows) = refl
    kept (Err e) = refl
all_appended (v ∷ vs) ws =
    same_then (row_of v) _ _ (λ row. ap (λ t. and_then t (λ rows. Ok (row ∷ rows))) (all_appended vs ws)
    ∙ then_then (rows_of_all vs) _ _
    ∙ same_then (rows_of_all vs) _ _ (λ rows. then_then (rows_of_all ws) _ _)
    ∙ sym (then_then (rows_of_all vs) (λ rows. Ok (row ∷ rows)) _))
    ∙ sym (then_then (row_of v) _ _)

wide_first : (e : Wide) (r : Result (List Row) Wide) → Err e ≡ and_then r (λ (rows : List Row). (let out : Result (List Row) Wide = Err e in out))
wide_first e (Ok rows) = refl
wide_first e (Err d) = refl

last_rows : (vs : List (List ℚ)) (c : Result (List (List ℚ)) Wide)
    → and_then (and_then c (λ ws. Ok (vs ++ ws))) rows_of_all
    ≡ and_then (rows_of_all vs) (λ rows. and_then (and_then c rows_of_all) (λ others. Ok (rows ++ others)))
last_rows vs (Ok ws) = all_appended vs ws
last_rows vs (Err e) = wide_first e (rows_of_all vs)

last_choice : (vs : List (List ℚ)) (d : Result (List ℚ) Wide) (ch : List ℚ → Result (List (List ℚ)) Wide)
    → and_then (and_then d (λ below. and_then (ch below) (λ ws. Ok (vs ++ ws)))) rows_of_all
    ≡ and_then (rows_of_all vs) (λ rows. and_then d (λ below. and_then (and_then (ch below) rows_of_all) (λ others. Ok (rows ++ others))))
last_choice vs (Err e) ch = wide_first e (rows_of_all vs)
last_choice vs (Ok below) ch = last_rows vs (ch below)

by_scaled : (up down : List ℚ → Result (List ℚ) Wide) (rs : List ℚ → Result (List Row) Wide) (ch : List ℚ
    → Result (List (List ℚ)) Wide) (m : Result (List ℚ) Wide)
    → ((v : List ℚ) → rs v ≡ and_then (ch v) rows_of_all)
    → and_then (and_then m up)
    (λ above. and_then (rs above) (λ rows. and_then (and_then m down) (λ below. and_then (rs below) (λ others. Ok (rows ++ others)))))
    ≡ and_then (and_then m
    (λ more. and_then (up more)
    (λ above. and_then (ch above) (λ rows. and_then (down more) (λ below. and_then (ch below) (λ others. Ok (rows ++ others))))))) rows_of_all
by_scaled up down rs ch (Err e) is = refl
by_scaled up down rs ch (Ok more) is =
    same_then (up more) _ _ (λ above.
    ap (λ (t : Result (List Row) Wide). and_then t
    (λ rows. and_then (down more) (λ below. and_then (rs below) (λ others. (let out : Result (List Row) Wide = Ok (rows ++ others) in out))))) (is above)
    ∙ then_then (ch above) rows_of_all _
    ∙ same_then (ch above) _ _ (λ vs.
    same_then (rows_of_all vs) _ _
    (λ rows. same_then (down more) _ _
    (λ below. ap (λ (t : Result (List Row) Wide). and_then t (λ others. (let out : Result (List Row) Wide = Ok (rows ++ others) in out))) (is below)))
    ∙ sym (last_choice vs (down more) ch))
    ∙ sym (then_then (ch above) _ rows_of_all))
    ∙ sym (then_then (up more) _ rows_of_all)

-- the rows for each choice of signs are those of the vectors
pub chosen_is : (ps : List Pair) (v : List ℚ) → chosen_rows ps v ≡ and_then (choices ps v) rows_of_all
chosen_is [] v = refl
chosen_is (p ∷ ps) v = by_scaled (combined_all Plus v) (combined_all Minus v) (chosen_rows ps) (choices ps) (scaled_all p.weight p.inner) (chosen_is ps)

added_behind : (before made : List Row) (first more : Result (List Row) Wide) → added_to before first ≡ Ok made
    → added_to before (and_then first (λ rows. and_then more (λ others. Ok (rows ++ others)))) ≡ added_to made more
added_behind before made (Ok rows) (Ok others) is = ap Ok (sym (append_assoc before rows others) ∙ ap (λ t. t ++ others) (ok_same (before ++ rows) made is))
added_behind before made (Ok rows) (Err e) is = refl
added_behind before made (Err e) more is = absurd (cc)

-- the rows with plus, and then those with minus, are those of both choices
pub choices_added : (before made : List Row) (p : Pair) (ps : List Pair) (v above below : List ℚ) → chosen Plus p.weight p.inner v ≡ Ok above
    → added_to before (chosen_rows ps above) ≡ Ok made → chosen Minus p.weight p.inner v ≡ Ok below
    → added_to before (chosen_rows (p ∷ ps) v) ≡ added_to made (chosen_rows ps below)
choices_added before made p ps v above below plus rows minus =
    ap (λ a. added_to before (and_then a (λ above. and_then (chosen_rows ps above) (λ first. and_then (chosen Minus p.weight p.inner v)
    (λ below. and_then (chosen_rows ps below) (λ others. let out : Result (List Row) Wide = Ok (first ++ others) in out)))))) plus
    ∙ ap (λ b. added_to before (and_then (chosen_rows ps above) (λ first. and_then b (λ below. and_then (chosen_rows ps below)
    (λ others. let out : Result (List Row) Wide = Ok (first ++ others) in out))))) minus
    ∙ added_behind before made (chosen_rows ps above) (chosen_rows ps below) rows

-- and what is answered to the second is answered to both
pub choices_answer : (before made : List Row) (p : Pair) (ps : List Pair) (v above below : List ℚ) (r : Result (List Row) RowFault)
    → told_as as_fault (chosen Plus p.weight p.inner v) ≡ Ok above → told_as as_fault (added_to before (chosen_rows ps above)) ≡ Ok made
    → told_as as_fault (chosen Minus p.weight p.inner v) ≡ Ok below → IsAnswer fault.Memory (told_as as_fault (added_to made (chosen_rows ps below))) r
    → IsAnswer fault.Memory (told_as as_fault (added_to before (chosen_rows (p ∷ ps) v))) r
choices_answer before made p ps v above below r plus rows minus answer =
    subst (λ due. IsAnswer fault.Memory (told_as as_fault due) r)
    (sym (choices_added before made p ps v above below (told_as_ok as_fault _ _ plus) (told_as_ok as_fault _ _ rows) (told_as_ok as_fault _ _ minus))) answer

-- ---- the constant
pub last_fits : (all ns : List ℤ) (n : ℤ) → All Fits all → all ≡ ns ++ (n ∷ []) → Fits n
last_fits all ns n fit is = All-head Fits n [] (All-append_right Fits ns (n ∷ []) (subst (All Fits) is fit))

pub bound_is : (n : ℤ) → Fits n → to_z w128 (of_z w128 (pos 0 -ℤ to_z w128 (of_z w128 n))) ≡ neg_ℤ n
bound_is n fit =
    let same : to_z w128 (of_z w128 n) ≡ n = to_z-of_z w128 n (signed_fits n fit) in
    ap (λ z. to_z w128 (of_z w128 (pos 0 -ℤ z))) same ∙ to_z-of_z w128 (pos 0 -ℤ n) (opposite_fits n fit) ∙ opposite n
  where
    signed_fits : (n : ℤ) → Fits n → SFits w128 n
    signed_fits (pos n) fit = omega (arith, ints, fit)
    signed_fits (negsuc n) fit = omega (arith, ints, fit)

    opposite_fits : (n : ℤ) → Fits n → SFits w128 (pos 0 -ℤ n)
    opposite_fits (pos zero) fit = omega (arith, ints, fit)
    opposite_fits (pos (suc n)) fit = omega (arith, ints, fit)
    opposite_fits (negsuc n) fit = omega (arith, ints, fit)

    opposite : (n : ℤ) → pos 0 -ℤ n ≡ neg_ℤ n
    opposite n = omega (arith, ints)
