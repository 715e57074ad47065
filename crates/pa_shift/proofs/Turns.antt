-- One turn of each loop.
use Rattle.std.proofs.Common.{◌≡◌, ◌⊎◌, inl, inr, refl, sym, ap, ◌∙◌, ℕ, ◌<◌, ◌+◌, ◌≤◌, List, [], ◌∷◌, ◌++◌, append_assoc, append-nil, drop, length}
use Rattle.std.proofs.Common.{get_or, Result, Ok, Err, add-one}
use Rattle.std.proofs.Math.Seq.{drop-cons}
use Rattle.std.proofs.lemmas.List.{drop_all}
use lib.IntN.{ℤ}
use Rattle.pa_math.specs.Answers.{and_then, told_as}
use Rattle.pa_math.proofs.Answers.{told_as_ok}
use Rattle.pa_frac.specs.declared.wide.Wide.{Wide}
use Rattle.pa_meaning.specs.Rows.{Row, Point}
use Rattle.pa_row.specs.Answers.{as_fault}
use Rattle.pa_row.specs.declared.fault.RowFault.{RowFault}
use Rattle.pa_row.specs.declared.fault.RowFault.TheVariants as row_fault
use Rattle.pa_row.specs.Sums.{dot_in}
use Rattle.pa_shift.specs.Shifting.{costed_in, costed_row, rise_in}

-- ---- sums with a direction
-- one row more, as it was read
pub rise_turn : (d target : List ℤ) (rows : List Row) (i : ℕ) (r : Row) (turn : Result ℤ Wide) → i < length rows → r ≡ get_or rows i r → turn ≡ dot_in r.c d
    → rise_in d target (drop i rows) ≡ and_then turn (λ sum. rise_in d target (drop (i + 1) rows))
rise_turn d target rows i r turn h row_is turn_is = rw (add-one, drop-cons rows i r h, turn_is, ← row_is) refl

-- past the last row the target is summed
pub rise_end : (d target : List ℤ) (rows : List Row) (i : ℕ) → length rows ≤ i → rise_in d target (drop i rows) ≡ dot_in target d
rise_end d target rows i past = rw (drop_all i rows past) refl

-- ---- costs
-- the rows so far, and then those of the rest
abbrev pub costed_on : List Row → Result (List Row) Wide → Result (List Row) Wide
costed_on done rest = and_then rest (λ rest. Ok (done ++ rest))

joined : (done : List Row) (n : Row) (rest : Result (List Row) Wide) → costed_on done (and_then rest (λ ns. Ok (n ∷ ns))) ≡ costed_on (done ++ n ∷ []) rest
joined done n (Ok ns) = ap Ok (sym (append_assoc done (n ∷ []) ns))
joined done n (Err e) = refl

costed_at : (x : Point) (rows : List Row) (i : ℕ) (r : Row) → i < length rows → r ≡ get_or rows i r
    → costed_in x (drop i rows) ≡ and_then (costed_row x r) (λ first. and_then (costed_in x (drop (i + 1) rows)) (λ others. Ok (first ∷ others)))
costed_at x rows i r h row_is = rw (add-one, drop-cons rows i r h, ← row_is) refl

pub costed_turn : (x : Point) (rows : List Row) (i : ℕ) (r costed : Row) (done : List Row) → i < length rows → r ≡ get_or rows i r
    → told_as as_fault (costed_row x r) ≡ Ok costed
    → costed_on done (costed_in x (drop i rows)) ≡ costed_on (done ++ costed ∷ []) (costed_in x (drop (i + 1) rows))
costed_turn x rows i r costed done h row_is is =
    ap (costed_on done) (costed_at x rows i r h row_is
    ∙ ap (λ (s : Result Row Wide). and_then s (λ first. and_then (costed_in x (drop (i + 1) rows)) (λ others. Ok (first ∷ others))))
    (told_as_ok as_fault (costed_row x r) costed is))
    ∙ joined done costed (costed_in x (drop (i + 1) rows))

-- where the cost of a row is Wide, all are
pub costed_refused : (x : Point) (rows : List Row) (i : ℕ) (r : Row) (done : List Row) (fault : RowFault) → i < length rows → r ≡ get_or rows i r
    → costed_on done (costed_in x (drop i rows)) ≡ costed_in x rows
    → (fault ≡ row_fault.Memory) ⊎ (told_as as_fault (costed_row x r) ≡ Err fault)
    → (fault ≡ row_fault.Memory) ⊎ (told_as as_fault (costed_in x rows) ≡ Err fault)
costed_refused x rows i r done fault h row_is made (inl free) = inl free
costed_refused x rows i r done fault h row_is made (inr is) = inr (ap (told_as as_fault) (sym made ∙ ap (costed_on done) (costed_at x rows i r h row_is))
    ∙ by (costed_row x r) is)
  where
    by : (s : Result Row Wide) → told_as as_fault s ≡ Err fault
        → told_as as_fault (costed_on done (and_then s (λ first. and_then (costed_in x (drop (i + 1) rows)) (λ others. Ok (first ∷ others))))) ≡ Err fault
    by (Ok costed) e = absurd (cc)
    by (Err wide) e = told e
      where
        told : {A B : Type 0} → (let s : Result A RowFault = Err (as_fault wide) in s) ≡ Err fault
            → (let s : Result B RowFault = Err (as_fault wide) in s) ≡ Err fault
        told e = cc

pub costed_end : (x : Point) (rows : List Row) (i : ℕ) (done : List Row) → length rows ≤ i → costed_on done (costed_in x (drop i rows)) ≡ Ok done
costed_end x rows i done past = rw (drop_all i rows past, append-nil done) refl
