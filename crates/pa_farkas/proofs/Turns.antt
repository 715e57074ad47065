-- One turn of each loop.
use Rattle.std.proofs.Common.{◌≡◌, refl, sym, ap, ap₂, ◌∙◌, ℕ, suc, ◌<◌, ◌+◌, Bool, true, false, ◌&&◌, cond, List, [], ◌∷◌, ◌++◌, append_assoc}
use Rattle.std.proofs.Common.{append-nil, ◌≤◌, drop, length, get_or, Result, Ok, Err, add-one}
use Rattle.std.proofs.Math.Seq.{drop-cons}
use Rattle.std.proofs.lemmas.List.{drop_all}
use lib.IntN.{ℤ, pos}
use Rattle.pa_math.specs.Answers.{and_then}
use Rattle.pa_frac.specs.declared.wide.Wide.{Wide}
use Rattle.pa_meaning.specs.Rows.{Row, Point}
use Rattle.pa_row.specs.Sums.{meets_in}
use Rattle.pa_farkas.specs.Answered.{moved_in, moved_number, tested_in}

-- whether all that were tested so far are met, and then the others
abbrev pub tested_on : Bool → Result Bool Wide → Result Bool Wide
tested_on so_far others = and_then others (λ met. Ok (so_far && met))

both : (so_far : Bool) (now others : Result Bool Wide) →
    tested_on so_far (and_then now (λ met. and_then others (λ rest. Ok (cond met rest false))))
    ≡ and_then now (λ met. tested_on (so_far && met) others)
both so_far (Err e) others = refl
both so_far (Ok met) (Err e) = refl
both true (Ok true) (Ok rest) = refl
both true (Ok false) (Ok rest) = refl
both false (Ok true) (Ok rest) = refl
both false (Ok false) (Ok rest) = refl

-- one row more, as it was read
pub tested_turn : (x : Point) (rows : List Row) (i : ℕ) (so_far : Bool) (r : Row) (turn : Result Bool Wide) → i < length rows → r ≡ get_or rows i r
    → turn ≡ meets_in r x
    → tested_on so_far (tested_in x (drop i rows)) ≡ and_then turn (λ met. tested_on (so_far && met) (tested_in x (drop (i + 1) rows)))
tested_turn x rows i so_far r turn h row_is turn_is =
    rw (add-one, drop-cons rows i r h, turn_is, ← row_is) (both so_far (meets_in r x) (tested_in x (drop (suc i) rows)))

-- ---- numbers that are moved
moved_at : (k : ℤ) (ps ds : List ℤ) (i : ℕ) → i < length ps → i < length ds → moved_in k (drop i ps) (drop i ds)
    ≡ and_then (moved_number k (get_or ps i (pos 0)) (get_or ds i (pos 0))) (λ n. and_then (moved_in k (drop (suc i) ps) (drop (suc i) ds)) (λ ns. Ok (n ∷ ns)))
moved_at k ps ds i h l = rw (drop-cons ps i (pos 0) h, drop-cons ds i (pos 0) l) refl

-- the numbers so far, and then those of the rest
abbrev pub moved_on : List ℤ → Result (List ℤ) Wide → Result (List ℤ) Wide
moved_on done rest = and_then rest (λ rest. Ok (done ++ rest))

joined : (done : List ℤ) (n : ℤ) (rest : Result (List ℤ) Wide) → moved_on done (and_then rest (λ ns. Ok (n ∷ ns))) ≡ moved_on (done ++ n ∷ []) rest
joined done n (Ok ns) = ap Ok (sym (append_assoc done (n ∷ []) ns))
joined done n (Err e) = refl

pub moved_turn : (k : ℤ) (ps ds : List ℤ) (i : ℕ) (n p d : ℤ) (done : List ℤ) → i < length ps → i < length ds → p ≡ get_or ps i (pos 0)
    → d ≡ get_or ds i (pos 0) → Ok n ≡ moved_number k p d
    → moved_on done (moved_in k (drop i ps) (drop i ds)) ≡ moved_on (done ++ n ∷ []) (moved_in k (drop (i + 1) ps) (drop (i + 1) ds))
moved_turn k ps ds i n p d done h l p_is d_is is =
    ap (moved_on done) (moved_at k ps ds i h l
    ∙ ap (λ (r : Result ℤ Wide). and_then r (λ n. and_then (moved_in k (drop (suc i) ps) (drop (suc i) ds)) (λ ns. Ok (n ∷ ns))))
    (ap₂ (moved_number k) (sym p_is) (sym d_is) ∙ sym is))
    ∙ joined done n (moved_in k (drop (suc i) ps) (drop (suc i) ds))
    ∙ ap (λ j. moved_on (done ++ n ∷ []) (moved_in k (drop j ps) (drop j ds))) (sym (add-one i))

-- where a number of the turn is Wide, all are
pub moved_wide : (k : ℤ) (ps ds : List ℤ) (i : ℕ) (p d : ℤ) (done : List ℤ) (e : Wide) → i < length ps → i < length ds → p ≡ get_or ps i (pos 0)
    → d ≡ get_or ds i (pos 0) → Err e ≡ moved_number k p d → moved_on done (moved_in k (drop i ps) (drop i ds)) ≡ Err e
moved_wide k ps ds i p d done e h l p_is d_is is =
    ap (moved_on done) (moved_at k ps ds i h l
    ∙ ap (λ (r : Result ℤ Wide). and_then r (λ n. and_then (moved_in k (drop (suc i) ps) (drop (suc i) ds)) (λ ns. Ok (n ∷ ns))))
    (ap₂ (moved_number k) (sym p_is) (sym d_is) ∙ sym is))

pub moved_end : (k : ℤ) (ps ds : List ℤ) (i : ℕ) (done : List ℤ) → length ps ≤ i → moved_on done (moved_in k (drop i ps) (drop i ds)) ≡ Ok done
moved_end k ps ds i done past = rw (drop_all i ps past, append-nil done) refl
