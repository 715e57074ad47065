-- Columns changed one after another.
use Rattle.std.proofs.Common.{◌≡◌, ◌<◌, ◌≤◌, ℕ, zero, suc, ◌+◌, List, [], ◌∷◌, length, map, drop, get_or, slice_set, Result, Ok, Err, refl, sym, ap, ◌∙◌, arith}
use Rattle.std.proofs.lemmas.List.{at_drop_more}
use Rattle.pa_math.specs.Answers.{and_then}
use Rattle.pa_math.specs.Rational.{ℚ}
use Rattle.pa_frac.specs.declared.wide.Wide.{Wide}
use Rattle.pa_frac.specs.declared.wide126.Wide126.{Wide126}
use Rattle.pa_frac.specs.Operations.{product_in}
use Rattle.pa_grammar.specs.declared.token.Sign.{Sign}
use Rattle.pa_grammar.specs.Seen.{fraction}
use Rattle.pa_grammar.specs.Values.{combined, changed_at, combined_all, scaled_all}
use Rattle.pa_grammar.proofs.Steps.{then_then, same_then, swapped}

-- the fraction at a place changed
pub changed_here : (xs : List Wide126) (i : ℕ) (f : ℚ → Result ℚ Wide) (x y : Wide126) → i < length xs → x ≡ get_or xs i x → f (fraction x) ≡ Ok (fraction y)
    → changed_at i f (map fraction xs) ≡ Ok (map fraction (slice_set xs i y))
changed_here [] i f x y within at is = absurd (omega arith)
changed_here (z ∷ zs) zero f x y within at is = ap (λ t. and_then (f (fraction t)) (λ r. Ok (r ∷ map fraction zs))) (sym at)
    ∙ ap (λ t. and_then t (λ r. Ok (r ∷ map fraction zs))) is
changed_here (z ∷ zs) (suc i) f x y within at is = ap (λ t. and_then t (λ rs. Ok (fraction z ∷ rs))) (changed_here zs i f x y (omega arith) at is)

pub changed_wide : (xs : List Wide126) (i : ℕ) (f : ℚ → Result ℚ Wide) (x : Wide126) (e : Wide) → i < length xs → x ≡ get_or xs i x → f (fraction x) ≡ Err e
    → changed_at i f (map fraction xs) ≡ Err e
changed_wide [] i f x e within at is = absurd (omega arith)
changed_wide (z ∷ zs) zero f x e within at is = ap (λ t. and_then (f (fraction t)) (λ r. Ok (r ∷ map fraction zs))) (sym at)
    ∙ ap (λ t. and_then t (λ r. Ok (r ∷ map fraction zs))) is
changed_wide (z ∷ zs) (suc i) f x e within at is = ap (λ t. and_then t (λ rs. Ok (fraction z ∷ rs))) (changed_wide zs i f x e (omega arith) at is)

pub changed_past : (xs : List Wide126) (i : ℕ) (f : ℚ → Result ℚ Wide) → length xs ≤ i → changed_at i f (map fraction xs) ≡ Ok (map fraction xs)
changed_past [] i f past = refl
changed_past (z ∷ zs) zero f past = absurd (omega arith)
changed_past (z ∷ zs) (suc i) f past = ap (λ t. and_then t (λ rs. Ok (fraction z ∷ rs))) (changed_past zs i f (omega arith))

-- column by column from a place on
abbrev pub combined_from : Sign → ℕ → List ℚ → List ℚ → Result (List ℚ) Wide
combined_from s zero v rs = combined_all s v rs
combined_from s (suc i) [] rs = Ok []
combined_from s (suc i) (q ∷ qs) rs = and_then (combined_from s i qs rs) (λ rest. Ok (q ∷ rest))

combined_step : (s : Sign) (i : ℕ) (v rs : List ℚ) (r : ℚ)
    → combined_from s i v (r ∷ rs) ≡ and_then (changed_at i (λ q. combined s q r) v) (λ w. combined_from s (suc i) w rs)
combined_step s zero [] rs r = refl
combined_step s zero (q ∷ qs) rs r = sym (then_then (combined s q r) _ _)
combined_step s (suc i) [] rs r = refl
combined_step s (suc i) (q ∷ qs) rs r =
    ap (λ t. and_then t (λ rest. Ok (q ∷ rest))) (combined_step s i qs rs r)
    ∙ then_then (changed_at i (λ t. combined s t r) qs) _ _
    ∙ sym (then_then (changed_at i (λ t. combined s t r) qs) _ _)

-- past the last one
pub combined_end : (s : Sign) (i : ℕ) (v : List ℚ) → combined_from s i v [] ≡ Ok v
combined_end s zero [] = refl
combined_end s zero (q ∷ qs) = refl
combined_end s (suc i) [] = refl
combined_end s (suc i) (q ∷ qs) = ap (λ t. and_then t (λ rest. Ok (q ∷ rest))) (combined_end s i qs)

-- the next column
pub combined_turn : (s : Sign) (more : List Wide126) (i : ℕ) (x : Wide126) (v : List ℚ) → i < length more → x ≡ get_or more i x
    → combined_from s i v (map fraction (drop i more))
    ≡ and_then (changed_at i (λ q. combined s q (fraction x)) v) (λ w. combined_from s (i + 1) w (map fraction (drop (i + 1) more)))
combined_turn s more i x v within at =
    at_drop_more (λ ys. combined_from s i v (map fraction ys)) more i x within
    ∙ ap (λ t. combined_from s i v (fraction t ∷ map fraction (drop (i + 1) more))) (sym at)
    ∙ combined_step s i v (map fraction (drop (i + 1) more)) (fraction x)
    ∙ ap (λ k. and_then (changed_at i (λ q. combined s q (fraction x)) v) (λ w. combined_from s k w (map fraction (drop (i + 1) more))))
    (let e : suc i ≡ i + 1 = omega arith in e)

-- the same with multiples
pub scaled_turn : (s : Sign) (k : ℚ) (more : List Wide126) (i : ℕ) (x : Wide126) (v : List ℚ) → i < length more → x ≡ get_or more i x
    → and_then (scaled_all k (map fraction (drop i more))) (combined_from s i v)
    ≡ and_then (product_in 126 k (fraction x)) (λ p. and_then (changed_at i (λ q. combined s q p) v)
    (λ w. and_then (scaled_all k (map fraction (drop (i + 1) more))) (combined_from s (i + 1) w)))
scaled_turn s k more i x v within at =
    let rest : List ℚ = map fraction (drop (i + 1) more) in
    at_drop_more (λ ys. and_then (scaled_all k (map fraction ys)) (combined_from s i v)) more i x within
    ∙ ap (λ t. and_then (scaled_all k (fraction t ∷ rest)) (combined_from s i v)) (sym at)
    ∙ then_then (product_in 126 k (fraction x)) _ _
    ∙ same_then (product_in 126 k (fraction x)) _ _ (λ p.
    then_then (scaled_all k rest) _ _
    ∙ same_then (scaled_all k rest) _ _ (λ ps. combined_step s i v ps p)
    ∙ swapped (scaled_all k rest) (changed_at i (λ q. combined s q p) v) (λ ps w. combined_from s (suc i) w ps)
    ∙ ap (λ n. and_then (changed_at i (λ q. combined s q p) v) (λ w. and_then (scaled_all k rest) (combined_from s n w)))
    (let e : suc i ≡ i + 1 = omega arith in e))
