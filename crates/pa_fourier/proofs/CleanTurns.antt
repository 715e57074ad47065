-- One turn of each loop of the clean.
use Rattle.std.proofs.Common.{◌≡◌, ℕ, suc, ◌<◌, ◌+◌, ◌⊎◌, inl, inr, List, [], ◌∷◌, ◌++◌, drop, length, Bool, true, false, cond}
use Rattle.std.proofs.Common.{if◌then◌else◌, IfOk, Result, Ok, Err, refl, sym, ap, ◌∙◌, subst, add-one}
use Rattle.std.proofs.Math.Seq.{drop-cons}
use Rattle.std.specs.Result.{IsErrAnd}
use Rattle.pa_math.specs.Answers.{and_then, told_as, IsAnswer}
use Rattle.pa_frac.specs.declared.wide.Wide.{Wide}
use Rattle.pa_meaning.specs.Rows.{Row, row_at}
use Rattle.pa_witness.specs.Thinning.{is_constant}
use Rattle.pa_row.proofs.Turns.{row_at_read}
use Rattle.pa_fourier.specs.declared.fault.CleanFault.{CleanFault}
use Rattle.pa_fourier.specs.declared.fault.CleanFault.TheVariants as fault
use Rattle.pa_math.specs.Answers.{seen_as}
use Rattle.pa_fourier.specs.Cleaning.{replaced_by, replaced_in, staying_in}

pub replaced_turn : (i : ℕ) (r : Row) (rows : List Row) (j : ℕ) → j < length rows →
    replaced_in i r j (drop j rows) ≡ and_then (replaced_by i r j (row_at rows j))
    (λ replaced. if replaced then Ok true else replaced_in i r (j + 1) (drop (j + 1) rows))
replaced_turn i r rows j h = rw (add-one, drop-cons rows j r h, row_at_read rows j r h) refl

-- what the first row gives, and the rest
pub staying_next : (kept all : List Row) (i : ℕ) (r : Row) (rest : List Row) →
    staying_in kept all i (r ∷ rest) ≡ and_then (staying_in kept all i (r ∷ [])) (λ now. staying_in now all (suc i) rest)
staying_next kept all i r rest = by (is_constant r) (replaced_in i r 0 all)
  where
    by : (c : Bool) (x : Result Bool Wide) →
        cond c (staying_in kept all (suc i) rest)
        (and_then (told_as (λ wide. fault.Wide i) x) (λ replaced. staying_in (cond replaced kept (kept ++ r ∷ [])) all (suc i) rest))
        ≡ and_then {B = List Row} (cond c (Ok kept) (and_then (told_as (λ wide. fault.Wide i) x) (λ replaced. Ok (cond replaced kept (kept ++ r ∷ [])))))
        (λ now. staying_in now all (suc i) rest)
    by true x = refl
    by false (Ok b) = refl
    by false (Err e) = refl

pub staying_turn : (kept all rows : List Row) (i : ℕ) → i < length rows →
    staying_in kept all i (drop i rows) ≡ and_then (staying_in kept all i (row_at rows i ∷ [])) (λ now. staying_in now all (i + 1) (drop (i + 1) rows))
staying_turn kept all rows i h =
    rw (add-one, drop-cons rows i (row_at rows i) h, ← row_at_read rows i (row_at rows i) h) (staying_next kept all i (row_at rows i) (drop (suc i) rows))

-- ---- one row
abbrev stays_so : List Row → ℕ → Row → Bool → Result Bool Wide → Result (List Row) CleanFault
stays_so kept i r c x = cond c (Ok kept) (and_then (told_as (λ wide. fault.Wide i) x) (λ replaced. Ok (cond replaced kept (kept ++ r ∷ []))))

pub staying_constant : (kept all : List Row) (i : ℕ) (r : Row) → is_constant r ≡ true → staying_in kept all i (r ∷ []) ≡ Ok kept
staying_constant kept all i r c = ap (λ b. stays_so kept i r b (replaced_in i r 0 all)) c

pub staying_due : (kept all : List Row) (i : ℕ) (r : Row) (b : Bool) → is_constant r ≡ false → Ok b ≡ replaced_in i r 0 all
    → staying_in kept all i (r ∷ []) ≡ Ok (cond b kept (kept ++ r ∷ []))
staying_due kept all i r b c h = ap (λ t. stays_so kept i r t (replaced_in i r 0 all)) c ∙ ap (stays_so kept i r false) (sym h)

pub staying_wide : (kept all : List Row) (i : ℕ) (r : Row) (e : Wide) → is_constant r ≡ false → Err e ≡ replaced_in i r 0 all
    → staying_in kept all i (r ∷ []) ≡ Err (fault.Wide i)
staying_wide kept all i r e c h = ap (λ t. stays_so kept i r t (replaced_in i r 0 all)) c ∙ ap (stays_so kept i r false) (sym h)

-- ---- answers that hold a list
pub clean_handed_on : {T V : Type 0} (view : T → V) (e : CleanFault) (due : Result V CleanFault) (r : Result T CleanFault) → IsErrAnd r (λ x. x ≡ e)
    → (e ≡ fault.Memory) ⊎ (due ≡ Err e) → IsAnswer fault.Memory due (seen_as view r)
clean_handed_on view e due (Ok value) is p = absurd is
clean_handed_on view e due (Err x) is p = subst (λ (x : CleanFault). (x ≡ fault.Memory) ⊎ (due ≡ Err x)) (sym is) p

pub clean_if_ok : {T V : Type 0} (view : T → V) (due : Result V CleanFault) (P : V → Type 0) → ((v : V) → due ≡ Ok v → P v) → (r : Result T CleanFault)
    → IsAnswer fault.Memory due (seen_as view r) → IfOk r (λ t. P (view t))
clean_if_ok view due P f (Ok t) h = f (view t) h
clean_if_ok view due P f (Err e) h = tt

pub stopped_here : (whole one : Result (List Row) CleanFault) (next : List Row → Result (List Row) CleanFault) (e : CleanFault) → whole ≡ and_then one next
    → (e ≡ fault.Memory) ⊎ (one ≡ Err e) → (e ≡ fault.Memory) ⊎ (whole ≡ Err e)
stopped_here whole one next e s (inl m) = inl m
stopped_here whole one next e s (inr h) = inr (s ∙ ap (λ t. and_then t next) h)
