-- Bars: a sum with a choice of signs for each bar pair is at most 0 for every choice exactly where the sum with absolute values is.
use Rattle.std.proofs.Common.{◌≡◌, ◌⊎◌, inl, inr, ⊎_elim, ℕ, suc, List, [], ◌∷◌, ◌++◌, length, Result, Ok, Err, refl, ap, sym, ◌∙◌, subst}
use Rattle.std.specs.Prelude.{ℤ, pos, ◌*ℤ◌, Bool, true, false, if◌then◌else◌}
use Rattle.std.specs.List.{list_any}
use Rattle.std.proofs.Common.{arith}
use Rattle.pa_grammar.specs.declared.token.Sign.{Sign}
use Rattle.pa_math.specs.Answers.{and_then}
use Rattle.pa_math.specs.Rational.{ℚ, whole, neg_ℚ, abs_ℚ, ◌+ℚ◌, ◌-ℚ◌, ◌*ℚ◌}
use Rattle.pa_math.specs.RationalOrder.{◌≤ℚ◌}
use Rattle.pa_math.proofs.RationalOrders.{lt_or_le_ℚ, <ℚ-≤ℚ}
use Rattle.pa_math.proofs.Floors.{abs_ℚ_nonneg, abs_ℚ_nonpos}
use Rattle.pa_math.proofs.RationalTactics.{by_ring, by_equations, by_le, null, ◌⋆◌, ◌⊞◌, gap, ◌·◌, ◌∔◌, reads}
use Rattle.pa_frac.specs.declared.wide.Wide.{Wide}
use Rattle.pa_frac.specs.Operations.{sum_in, difference_in, product_in, crossed_num, crossed_den, scaled_num, common_den}
use Rattle.pa_frac.specs.Width.{passes, exact_or_wide}
use Rattle.pa_grammar.specs.declared.token.Sign.TheVariants.{Plus, Minus}
use Rattle.pa_grammar.specs.Values.{Pair, combined, combined_all, scaled_all, choices}

abbrev pub zero_ℚ : ℚ
zero_ℚ = whole (pos 0)

-- a fraction is at least 0 or at most 0, and its absolute value is it or its negation
pub abs_cases : (i : ℚ) → ((zero_ℚ ≤ℚ i) × (abs_ℚ i ≡ i)) ⊎ ((i ≤ℚ zero_ℚ) × (abs_ℚ i ≡ neg_ℚ i))
abs_cases i = ⊎_elim
    (λ below. let nonpos : i ≤ℚ zero_ℚ = <ℚ-≤ℚ below in inr (nonpos, abs_ℚ_nonpos nonpos))
    (λ above. inl (above, abs_ℚ_nonneg above))
    (lt_or_le_ℚ i zero_ℚ)

-- ---- one bar pair: with a weight that is not negative both signs are at most 0 exactly where the absolute value is

signs_to_abs : (a w i m s : ℚ) → (m ≡ i) ⊎ (m ≡ neg_ℚ i) → (a +ℚ w *ℚ i +ℚ s) ≤ℚ zero_ℚ → (a -ℚ w *ℚ i +ℚ s) ≤ℚ zero_ℚ → (a +ℚ (w *ℚ m +ℚ s)) ≤ℚ zero_ℚ
signs_to_abs a w i m s is above below = ⊎_elim
    (λ e. let P : ℚ → Type 0 = λ n. (a +ℚ (w *ℚ n +ℚ s)) ≤ℚ zero_ℚ in subst P (sym e) (by_le (a ∷ w ∷ i ∷ s ∷ []) (gap above) (search reads depth 40) tt))
    (λ e. let P : ℚ → Type 0 = λ n. (a +ℚ (w *ℚ n +ℚ s)) ≤ℚ zero_ℚ in subst P (sym e) (by_le (a ∷ w ∷ i ∷ s ∷ []) (gap below) (search reads depth 40) tt))
    is

abs_to_signs : (a w i m s : ℚ) → zero_ℚ ≤ℚ w → ((zero_ℚ ≤ℚ i) × (m ≡ i)) ⊎ ((i ≤ℚ zero_ℚ) × (m ≡ neg_ℚ i)) → (a +ℚ (w *ℚ m +ℚ s)) ≤ℚ zero_ℚ
    → ((a +ℚ w *ℚ i +ℚ s) ≤ℚ zero_ℚ) × ((a -ℚ w *ℚ i +ℚ s) ≤ℚ zero_ℚ)
abs_to_signs a w i m s nonneg is all = ⊎_elim
    (λ e. let P : ℚ → Type 0 = λ n. (a +ℚ (w *ℚ n +ℚ s)) ≤ℚ zero_ℚ in let with_i : (a +ℚ (w *ℚ i +ℚ s)) ≤ℚ zero_ℚ = subst P e.1 all in (
      by_le (a ∷ w ∷ i ∷ s ∷ []) (gap with_i) (search reads depth 40) tt,
      by_le (a ∷ w ∷ i ∷ s ∷ []) (gap with_i ∔ (gap nonneg · gap e.0 ∔ gap nonneg · gap e.0)) (search reads depth 40) tt,
    ))
    (λ e. let P : ℚ → Type 0 = λ n. (a +ℚ (w *ℚ n +ℚ s)) ≤ℚ zero_ℚ in let with_i : (a +ℚ (w *ℚ neg_ℚ i +ℚ s)) ≤ℚ zero_ℚ = subst P e.1 all in (
      by_le (a ∷ w ∷ i ∷ s ∷ []) (gap with_i ∔ (gap nonneg · gap e.0 ∔ gap nonneg · gap e.0)) (search reads depth 40) tt,
      by_le (a ∷ w ∷ i ∷ s ∷ []) (gap with_i) (search reads depth 40) tt,
    ))
    is

-- ---- vectors

-- the value of a vector where the columns have these values
abbrev pub value_in : List ℚ → List ℚ → ℚ
value_in [] xs = zero_ℚ
value_in (q ∷ qs) [] = zero_ℚ
value_in (q ∷ qs) (x ∷ xs) = q *ℚ x +ℚ value_in qs xs

abbrev wide_or : {A : Type 0} → Bool → A → Result A Wide
wide_or b value = if b then Err (record {}) else Ok value

cond_is : {A : Type 0} (b : Bool) (value a : A) → wide_or b value ≡ Ok a → a ≡ value
cond_is true value a is = cc is
cond_is false value a is = cc is

exact_is : {A : Type 0} (named : List ℤ) (value a : A) → exact_or_wide 126 named value ≡ Ok a → a ≡ value
exact_is named value a is = cond_is (list_any (passes 126) named) value a is

pub and_then_ok : {A B E : Type 0} (f : A → Result B E) (r : Result A E) (b : B) → and_then r f ≡ Ok b → (a : A) × (r ≡ Ok a) × (f a ≡ Ok b)
and_then_ok f (Ok a) b is = (a, refl, is)
and_then_ok f (Err e) b is = cc is

product_is : (k q r : ℚ) → product_in 126 k q ≡ Ok r → r ≡ k *ℚ q
unfolding product_in
product_is k q r is = exact_is ((crossed_num k q *ℤ crossed_num q k) ∷ (crossed_den q k *ℤ crossed_den k q) ∷ []) (k *ℚ q) r is

sum_is : (q r s : ℚ) → sum_in 126 q r ≡ Ok s → s ≡ q +ℚ r
unfolding sum_in
sum_is q r s is = exact_is (scaled_num q r ∷ scaled_num r q ∷ common_den q r ∷ (q +ℚ r).num ∷ []) (q +ℚ r) s is

difference_is : (q r s : ℚ) → difference_in 126 q r ≡ Ok s → s ≡ q -ℚ r
unfolding difference_in
difference_is q r s is = exact_is (scaled_num q r ∷ scaled_num r q ∷ common_den q r ∷ (q -ℚ r).num ∷ []) (q -ℚ r) s is

pub scaled_value : (k : ℚ) (v w xs : List ℚ) → scaled_all k v ≡ Ok w → value_in w xs ≡ k *ℚ value_in v xs
scaled_value k [] w xs is = let e : w ≡ [] = cc in ap (λ u. value_in u xs) e ∙ by_ring (k ∷ []) (search reads depth 40) tt
scaled_value k (q ∷ qs) w [] is =
    let one = and_then_ok (λ r. and_then (scaled_all k qs) (λ rs. Ok (r ∷ rs))) (product_in 126 k q) w is in
    let two = and_then_ok (λ rs. Ok (one.0 ∷ rs)) (scaled_all k qs) w one.2 in
    let e : w ≡ one.0 ∷ two.0 = cc in
    ap (λ u. value_in u []) e ∙ by_ring (k ∷ []) (search reads depth 40) tt
scaled_value k (q ∷ qs) w (x ∷ xs) is =
    let one = and_then_ok (λ r. and_then (scaled_all k qs) (λ rs. Ok (r ∷ rs))) (product_in 126 k q) w is in
    let two = and_then_ok (λ rs. Ok (one.0 ∷ rs)) (scaled_all k qs) w one.2 in
    let e : w ≡ one.0 ∷ two.0 = cc in
    let more : value_in two.0 xs ≡ k *ℚ value_in qs xs = scaled_value k qs two.0 xs two.1 in
    let here : one.0 ≡ k *ℚ q = product_is k q one.0 one.1 in
    ap (λ u. value_in u (x ∷ xs)) e
    ∙ by_equations (one.0 ∷ k ∷ q ∷ x ∷ value_in two.0 xs ∷ value_in qs xs ∷ []) (x ⋆ null here ⊞ null more) (search reads depth 40) tt

abbrev pub signed_sum : Sign → ℚ → ℚ → ℚ
signed_sum Plus q r = q +ℚ r
signed_sum Minus q r = q -ℚ r

pub combined_is : (s : Sign) (q r t : ℚ) → combined s q r ≡ Ok t → t ≡ signed_sum s q r
combined_is Plus q r t is = sum_is q r t is
combined_is Minus q r t is = difference_is q r t is

-- the column by column sums of two vectors of one length
signed_step : (s : Sign) (t q r x v w z : ℚ) → t ≡ signed_sum s q r → z ≡ signed_sum s v w → t *ℚ x +ℚ z ≡ signed_sum s (q *ℚ x +ℚ v) (r *ℚ x +ℚ w)
signed_step Plus t q r x v w z e h = by_equations (t ∷ q ∷ r ∷ x ∷ v ∷ w ∷ z ∷ []) (x ⋆ null e ⊞ null h) (search reads depth 40) tt
signed_step Minus t q r x v w z e h = by_equations (t ∷ q ∷ r ∷ x ∷ v ∷ w ∷ z ∷ []) (x ⋆ null e ⊞ null h) (search reads depth 40) tt

zeros_signed : (s : Sign) → zero_ℚ ≡ signed_sum s zero_ℚ zero_ℚ
zeros_signed Plus = by_ring [] (search reads depth 40) tt
zeros_signed Minus = by_ring [] (search reads depth 40) tt

pub combined_value : (s : Sign) (v w u xs : List ℚ) → length v ≡ length w → combined_all s v w ≡ Ok u
    → value_in u xs ≡ signed_sum s (value_in v xs) (value_in w xs)
combined_value s [] [] u xs same is = let e : u ≡ [] = cc in ap (λ y. value_in y xs) e ∙ zeros_signed s
combined_value s [] (r ∷ rs) u xs same is = absurd (omega (arith, same))
combined_value s (q ∷ qs) [] u xs same is = absurd (omega (arith, same))
combined_value s (q ∷ qs) (r ∷ rs) u [] same is =
    let one = and_then_ok (λ t. and_then (combined_all s qs rs) (λ ts. Ok (t ∷ ts))) (combined s q r) u is in
    let two = and_then_ok (λ ts. Ok (one.0 ∷ ts)) (combined_all s qs rs) u one.2 in
    let e : u ≡ one.0 ∷ two.0 = cc in
    ap (λ y. value_in y []) e ∙ zeros_signed s
combined_value s (q ∷ qs) (r ∷ rs) u (x ∷ xs) same is =
    let one = and_then_ok (λ t. and_then (combined_all s qs rs) (λ ts. Ok (t ∷ ts))) (combined s q r) u is in
    let two = and_then_ok (λ ts. Ok (one.0 ∷ ts)) (combined_all s qs rs) u one.2 in
    let e : u ≡ one.0 ∷ two.0 = cc in
    ap (λ y. value_in y (x ∷ xs)) e
    ∙ signed_step s one.0 q r x (value_in qs xs) (value_in rs xs) (value_in two.0 xs) (combined_is s q r one.0 one.1)
    (combined_value s qs rs two.0 xs (omega (arith, same)) two.1)

-- ---- choices of signs

-- each vector has a value of at most 0
abbrev pub AreBelow : List (List ℚ) → List ℚ → Type 0
AreBelow [] xs = Unit {0}
AreBelow (v ∷ vs) xs = (value_in v xs ≤ℚ zero_ℚ) × AreBelow vs xs

below_both : (vs ws : List (List ℚ)) (xs : List ℚ) → AreBelow vs xs → AreBelow ws xs → AreBelow (vs ++ ws) xs
below_both [] ws xs a b = b
below_both (v ∷ vs) ws xs a b = (a.0, below_both vs ws xs a.1 b)

below_parts : (vs ws : List (List ℚ)) (xs : List ℚ) → AreBelow (vs ++ ws) xs → AreBelow vs xs × AreBelow ws xs
below_parts [] ws xs a = (tt, a)
below_parts (v ∷ vs) ws xs a = let rest = below_parts vs ws xs a.1 in ((a.0, rest.0), rest.1)

-- the bars' part of a sum, with absolute values
abbrev pub bars_value : List Pair → List ℚ → ℚ
bars_value [] xs = zero_ℚ
bars_value (p ∷ ps) xs = p.weight *ℚ abs_ℚ (value_in p.inner xs) +ℚ bars_value ps xs

-- the weights are not negative, and the vectors are of one length
abbrev pub AreFit : ℕ → List Pair → Type 0
AreFit n [] = Unit {0}
AreFit n (p ∷ ps) = (zero_ℚ ≤ℚ p.weight) × (length p.inner ≡ n) × AreFit n ps

pub scaled_length : (k : ℚ) (v w : List ℚ) → scaled_all k v ≡ Ok w → length w ≡ length v
scaled_length k [] w is = let e : w ≡ [] = cc in ap length e
scaled_length k (q ∷ qs) w is =
    let one = and_then_ok (λ r. and_then (scaled_all k qs) (λ rs. Ok (r ∷ rs))) (product_in 126 k q) w is in
    let two = and_then_ok (λ rs. Ok (one.0 ∷ rs)) (scaled_all k qs) w one.2 in
    let e : w ≡ one.0 ∷ two.0 = cc in
    ap length e ∙ ap suc (scaled_length k qs two.0 two.1)

pub combined_length : (s : Sign) (v w u : List ℚ) → length v ≡ length w → combined_all s v w ≡ Ok u → length u ≡ length v
combined_length s [] w u same is = let e : u ≡ [] = cc in ap length e
combined_length s (q ∷ qs) [] u same is = absurd (omega (arith, same))
combined_length s (q ∷ qs) (r ∷ rs) u same is =
    let one = and_then_ok (λ t. and_then (combined_all s qs rs) (λ ts. Ok (t ∷ ts))) (combined s q r) u is in
    let two = and_then_ok (λ ts. Ok (one.0 ∷ ts)) (combined_all s qs rs) u one.2 in
    let e : u ≡ one.0 ∷ two.0 = cc in
    ap length e ∙ ap suc (combined_length s qs rs two.0 (omega (arith, same)) two.1)

-- what `choices` is made of
pub record Split (p : Pair) (ps : List Pair) (v : List ℚ) (all : List (List ℚ)) : Type 0 where
  pub more : List ℚ
  pub above : List ℚ
  pub rows : List (List ℚ)
  pub below : List ℚ
  pub others : List (List ℚ)
  pub more_is : scaled_all p.weight p.inner ≡ Ok more
  pub above_is : combined_all Plus v more ≡ Ok above
  pub rows_are : choices ps above ≡ Ok rows
  pub below_is : combined_all Minus v more ≡ Ok below
  pub others_are : choices ps below ≡ Ok others
  pub all_is : all ≡ rows ++ others

pub split : (p : Pair) (ps : List Pair) (v : List ℚ) (all : List (List ℚ)) → choices (p ∷ ps) v ≡ Ok all → Split p ps v all
split p ps v all is =
    let a = and_then_ok (λ more. and_then (combined_all Plus v more)
    (λ above. and_then (choices ps above)
    (λ rows. and_then (combined_all Minus v more) (λ below. and_then (choices ps below) (λ others. Ok (rows ++ others))))))
    (scaled_all p.weight p.inner) all is in
    let b = and_then_ok (λ above. and_then (choices ps above)
    (λ rows. and_then (combined_all Minus v a.0) (λ below. and_then (choices ps below) (λ others. Ok (rows ++ others)))))
    (combined_all Plus v a.0) all a.2 in
    let c = and_then_ok (λ rows. and_then (combined_all Minus v a.0) (λ below. and_then (choices ps below) (λ others. Ok (rows ++ others))))
    (choices ps b.0) all b.2 in
    let d = and_then_ok (λ below. and_then (choices ps below) (λ others. Ok (c.0 ++ others))) (combined_all Minus v a.0) all c.2 in
    let e = and_then_ok (λ others. Ok (c.0 ++ others)) (choices ps d.0) all d.2 in
    record {
      more = a.0;
      above = b.0;
      rows = c.0;
      below = d.0;
      others = e.0;
      more_is = a.1;
      above_is = b.1;
      rows_are = c.1;
      below_is = d.1;
      others_are = e.1;
      all_is = cc;
    }

sum_moves : (a w i s u : ℚ) → u ≡ a +ℚ w *ℚ i → u +ℚ s ≡ a +ℚ w *ℚ i +ℚ s
sum_moves a w i s u e = ap (λ t. t +ℚ s) e

difference_moves : (a w i s u : ℚ) → u ≡ a -ℚ w *ℚ i → u +ℚ s ≡ a -ℚ w *ℚ i +ℚ s
difference_moves a w i s u e = ap (λ t. t +ℚ s) e

only_abs : (i : ℚ) → (abs_ℚ i ≡ i) ⊎ (abs_ℚ i ≡ neg_ℚ i)
only_abs i = ⊎_elim (λ e. inl e.1) (λ e. inr e.1) (abs_cases i)

no_bars : (a : ℚ) → a +ℚ zero_ℚ ≡ a
no_bars a = by_ring (a ∷ []) (search reads depth 40) tt

-- every choice of signs is at most 0 exactly where the sum with absolute values is
pub choices_to_abs : (ps : List Pair) (v xs : List ℚ) (all : List (List ℚ)) → AreFit (length v) ps → choices ps v ≡ Ok all → AreBelow all xs
    → (value_in v xs +ℚ bars_value ps xs) ≤ℚ zero_ℚ
choices_to_abs [] v xs all fit is below =
    let e : all ≡ v ∷ [] = cc in
    let P : List (List ℚ) → Type 0 = λ vs. AreBelow vs xs in
    let Q : ℚ → Type 0 = λ q. q ≤ℚ zero_ℚ in
    subst Q (sym (no_bars (value_in v xs))) (subst P e below).0
choices_to_abs (p ∷ ps) v xs all fit is below =
    let s = split p ps v all is in
    let P : List (List ℚ) → Type 0 = λ vs. AreBelow vs xs in
    let Q : ℚ → Type 0 = λ q. q ≤ℚ zero_ℚ in
    let parts = below_parts s.rows s.others xs (subst P s.all_is below) in
    let same : length v ≡ length s.more = omega (arith, scaled_length p.weight p.inner s.more s.more_is, fit.1) in
    let scaled : value_in s.more xs ≡ p.weight *ℚ value_in p.inner xs = scaled_value p.weight p.inner s.more xs s.more_is in
    let above : value_in s.above xs ≡ value_in v xs +ℚ p.weight *ℚ value_in p.inner xs = combined_value Plus v s.more s.above xs same s.above_is
    ∙ ap (λ t. value_in v xs +ℚ t) scaled in
    let under : value_in s.below xs ≡ value_in v xs -ℚ p.weight *ℚ value_in p.inner xs = combined_value Minus v s.more s.below xs same s.below_is
    ∙ ap (λ t. value_in v xs -ℚ t) scaled in
    let F : ℕ → Type 0 = λ n. AreFit n ps in
    signs_to_abs (value_in v xs) p.weight (value_in p.inner xs) (abs_ℚ (value_in p.inner xs)) (bars_value ps xs) (only_abs (value_in p.inner xs))
    (subst Q (sum_moves (value_in v xs) p.weight (value_in p.inner xs) (bars_value ps xs) (value_in s.above xs) above)
    (choices_to_abs ps s.above xs s.rows (subst F (sym (combined_length Plus v s.more s.above same s.above_is)) fit.2) s.rows_are parts.0))
    (subst Q (difference_moves (value_in v xs) p.weight (value_in p.inner xs) (bars_value ps xs) (value_in s.below xs) under)
    (choices_to_abs ps s.below xs s.others (subst F (sym (combined_length Minus v s.more s.below same s.below_is)) fit.2) s.others_are parts.1))

pub abs_to_choices : (ps : List Pair) (v xs : List ℚ) (all : List (List ℚ)) → AreFit (length v) ps → choices ps v ≡ Ok all
    → (value_in v xs +ℚ bars_value ps xs) ≤ℚ zero_ℚ
    → AreBelow all xs
abs_to_choices [] v xs all fit is under =
    let e : all ≡ v ∷ [] = cc in
    let P : List (List ℚ) → Type 0 = λ vs. AreBelow vs xs in
    let Q : ℚ → Type 0 = λ q. q ≤ℚ zero_ℚ in
    subst P (sym e) (subst Q (no_bars (value_in v xs)) under, tt)
abs_to_choices (p ∷ ps) v xs all fit is holds =
    let s = split p ps v all is in
    let P : List (List ℚ) → Type 0 = λ vs. AreBelow vs xs in
    let Q : ℚ → Type 0 = λ q. q ≤ℚ zero_ℚ in
    let same : length v ≡ length s.more = omega (arith, scaled_length p.weight p.inner s.more s.more_is, fit.1) in
    let scaled : value_in s.more xs ≡ p.weight *ℚ value_in p.inner xs = scaled_value p.weight p.inner s.more xs s.more_is in
    let above : value_in s.above xs ≡ value_in v xs +ℚ p.weight *ℚ value_in p.inner xs = combined_value Plus v s.more s.above xs same s.above_is
    ∙ ap (λ t. value_in v xs +ℚ t) scaled in
    let under : value_in s.below xs ≡ value_in v xs -ℚ p.weight *ℚ value_in p.inner xs = combined_value Minus v s.more s.below xs same s.below_is
    ∙ ap (λ t. value_in v xs -ℚ t) scaled in
    let F : ℕ → Type 0 = λ n. AreFit n ps in
    let both = abs_to_signs (value_in v xs) p.weight (value_in p.inner xs) (abs_ℚ (value_in p.inner xs)) (bars_value ps xs) fit.0
    (abs_cases (value_in p.inner xs)) holds in
    subst P (sym s.all_is) (below_both s.rows s.others xs
    (abs_to_choices ps s.above xs s.rows (subst F (sym (combined_length Plus v s.more s.above same s.above_is)) fit.2) s.rows_are
    (subst Q (sym (sum_moves (value_in v xs) p.weight (value_in p.inner xs) (bars_value ps xs) (value_in s.above xs) above)) both.0))
    (abs_to_choices ps s.below xs s.others (subst F (sym (combined_length Minus v s.more s.below same s.below_is)) fit.2) s.others_are
    (subst Q (sym (difference_moves (value_in v xs) p.weight (value_in p.inner xs) (bars_value ps xs) (value_in s.below xs) under)) both.1)))
