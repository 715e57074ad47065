-- The value of a side's vector and bars is that of its items at the point.
use Rattle.pa_grammar.specs.Met.{AreKnown}
use Rattle.std.proofs.Common.{◌≡◌, ℕ, zero, suc, ◌+◌, ◌<◌, List, [], ◌∷◌, ◌++◌, length, Bool, true, false, Some, None, Ok, refl, ap}
use Rattle.std.proofs.Common.{sym, ◌∙◌, arith}
use Rattle.std.specs.Prelude.{pos, replicate}
use Rattle.pa_ring.specs.Sums.{number_at}
use Rattle.pa_math.specs.Answers.{and_then}
use Rattle.pa_math.specs.Rational.{ℚ, whole, over, abs_ℚ, ◌+ℚ◌, ◌*ℚ◌}
use Rattle.pa_math.proofs.RationalTactics.{by_ring, by_equations, null, ◌⋆◌, ◌⊞◌, reads}
use Rattle.pa_meaning.specs.Rows.{Point}
use Rattle.pa_grammar.specs.declared.token.Sign.{Sign}
use Rattle.pa_grammar.specs.declared.token.Sign.TheVariants.{Plus, Minus}
use Rattle.pa_grammar.specs.Grammar.{Items, End, Constant, Variable, Bracket, BarPair, AreItems}
use Rattle.pa_grammar.specs.Machine.{sign_of}
use Rattle.pa_grammar.specs.Meaning.{factor_value, scale_value, with_sign, coordinate, value_at}
use Rattle.pa_grammar.specs.Values.{Side, Pair, added, with_vector, zeros, combined, combined_all, changed_at, scaled_all}
use Rattle.pa_grammar.proofs.Bars.{zero_ℚ, value_in, bars_value, signed_sum, combined_is, and_then_ok, scaled_value, scaled_length, combined_value}
use Rattle.pa_grammar.proofs.Bars.{combined_length}

-- the fractions of a point in so many columns from a place on, and 1 for the constant
abbrev pub columns_from : ℕ → ℕ → Point → List ℚ
columns_from zero place x = whole (pos 1) ∷ []
columns_from (suc n) place x = over (number_at x.p place) x.q ∷ columns_from n (suc place) x

-- the fraction at a place, or 0 past the end
abbrev pub fraction_at : List ℚ → ℕ → ℚ
fraction_at [] i = zero_ℚ
fraction_at (q ∷ qs) zero = q
fraction_at (q ∷ qs) (suc i) = fraction_at qs i

column_is : (n place i : ℕ) (x : Point) → i < n → fraction_at (columns_from n place x) i ≡ over (number_at x.p (place + i)) x.q
column_is zero place i x within = absurd (omega (arith, within))
column_is (suc n) place zero x within = let e : place ≡ place + 0 = omega arith in ap (λ k. over (number_at x.p k) x.q) e
column_is (suc n) place (suc i) x within =
    let e : suc place + i ≡ place + suc i = omega arith in
    column_is n (suc place) i x (omega (arith, within)) ∙ ap (λ k. over (number_at x.p k) x.q) e

last_column : (n place : ℕ) (x : Point) → fraction_at (columns_from n place x) n ≡ whole (pos 1)
last_column zero place x = refl
last_column (suc n) place x = last_column n (suc place) x

columns_length : (n place : ℕ) (x : Point) → length (columns_from n place x) ≡ suc n
columns_length zero place x = refl
columns_length (suc n) place x = ap suc (columns_length n (suc place) x)

-- ---- one column changed

change_here : (s : Sign) (q r t x rest : ℚ) → t ≡ signed_sum s q r → t *ℚ x +ℚ rest ≡ signed_sum s (q *ℚ x +ℚ rest) (r *ℚ x)
change_here Plus q r t x rest e = by_equations (q ∷ r ∷ t ∷ x ∷ rest ∷ []) (x ⋆ null e) (search reads depth 40) tt
change_here Minus q r t x rest e = by_equations (q ∷ r ∷ t ∷ x ∷ rest ∷ []) (x ⋆ null e) (search reads depth 40) tt

change_there : (s : Sign) (front rest d next : ℚ) → next ≡ signed_sum s rest d → front +ℚ next ≡ signed_sum s (front +ℚ rest) d
change_there Plus front rest d next e = by_equations (front ∷ rest ∷ d ∷ next ∷ []) (null e) (search reads depth 40) tt
change_there Minus front rest d next e = by_equations (front ∷ rest ∷ d ∷ next ∷ []) (null e) (search reads depth 40) tt

changed_value : (s : Sign) (i : ℕ) (r : ℚ) (v w xs : List ℚ) → i < length v → length v ≡ length xs → changed_at i (λ q. combined s q r) v ≡ Ok w
    → value_in w xs ≡ signed_sum s (value_in v xs) (r *ℚ fraction_at xs i)
changed_value s i r [] w xs within same is = absurd (omega (arith, within))
changed_value s i r (q ∷ qs) w [] within same is = absurd (omega (arith, same))
changed_value s zero r (q ∷ qs) w (x ∷ xs) within same is =
    let one = and_then_ok (λ t. Ok (t ∷ qs)) (combined s q r) w is in
    let e : w ≡ one.0 ∷ qs = cc in
    ap (λ u. value_in u (x ∷ xs)) e ∙ change_here s q r one.0 x (value_in qs xs) (combined_is s q r one.0 one.1)
changed_value s (suc i) r (q ∷ qs) w (x ∷ xs) within same is =
    let one = and_then_ok (λ ts. Ok (q ∷ ts)) (changed_at i (λ q. combined s q r) qs) w is in
    let e : w ≡ q ∷ one.0 = cc in
    ap (λ u. value_in u (x ∷ xs)) e
    ∙ change_there s (q *ℚ x) (value_in qs xs) (r *ℚ fraction_at xs i) (value_in one.0 xs)
    (changed_value s i r qs one.0 xs (omega (arith, within)) (omega (arith, same)) one.1)

changed_length : (s : Sign) (i : ℕ) (r : ℚ) (v w : List ℚ) → changed_at i (λ q. combined s q r) v ≡ Ok w → length w ≡ length v
changed_length s i r [] w is = let e : w ≡ [] = cc in ap length e
changed_length s zero r (q ∷ qs) w is =
    let one = and_then_ok (λ t. Ok (t ∷ qs)) (combined s q r) w is in
    let e : w ≡ one.0 ∷ qs = cc in ap length e
changed_length s (suc i) r (q ∷ qs) w is =
    let one = and_then_ok (λ ts. Ok (q ∷ ts)) (changed_at i (λ q. combined s q r) qs) w is in
    let e : w ≡ q ∷ one.0 = cc in ap length e ∙ ap suc (changed_length s i r qs one.0 one.1)

-- ---- sides

nothing_value : (n : ℕ) (xs : List ℚ) → value_in (replicate n (whole (pos 0))) xs ≡ zero_ℚ
nothing_value zero xs = refl
nothing_value (suc n) [] = refl
nothing_value (suc n) (x ∷ xs) =
    let more : value_in (replicate n (whole (pos 0))) xs ≡ zero_ℚ = nothing_value n xs in
    by_equations (x ∷ value_in (replicate n (whole (pos 0))) xs ∷ []) (null more) (search reads depth 40) tt

pub nothing_length : (n : ℕ) → length (replicate n (whole (pos 0))) ≡ n
nothing_length zero = refl
nothing_length (suc n) = ap suc (nothing_length n)

bars_both : (ps : List Pair) (p : Pair) (xs : List ℚ) → bars_value (ps ++ (p ∷ [])) xs ≡ bars_value ps xs +ℚ p.weight *ℚ abs_ℚ (value_in p.inner xs)
bars_both [] p xs = by_ring (p.weight ∷ abs_ℚ (value_in p.inner xs) ∷ []) (search reads depth 40) tt
bars_both (r ∷ ps) p xs =
    let more : bars_value (ps ++ (p ∷ [])) xs ≡ bars_value ps xs +ℚ p.weight *ℚ abs_ℚ (value_in p.inner xs) = bars_both ps p xs in
    by_equations (r.weight ∷ abs_ℚ (value_in r.inner xs) ∷ p.weight ∷ abs_ℚ (value_in p.inner xs) ∷ bars_value ps xs ∷ bars_value (ps ++ (p ∷ [])) xs ∷ [])
    (null more) (search reads depth 40) tt

abbrev pub side_value : Side → List ℚ → ℚ
side_value s xs = value_in s.vector xs +ℚ bars_value s.pairs xs

-- a step of a sum: what is added, and then the rest
step_then : (s : Sign) (v w d bars rest all : ℚ) → w ≡ signed_sum s v d → all ≡ w +ℚ bars +ℚ rest → all ≡ v +ℚ bars +ℚ (with_sign s d +ℚ rest)
step_then Plus v w d bars rest all e h = by_equations (v ∷ w ∷ d ∷ bars ∷ rest ∷ all ∷ []) (null e ⊞ null h) (search reads depth 40) tt
step_then Minus v w d bars rest all e h = by_equations (v ∷ w ∷ d ∷ bars ∷ rest ∷ all ∷ []) (null e ⊞ null h) (search reads depth 40) tt

bar_then : (s : Sign) (v k m bars next rest all : ℚ) → next ≡ bars +ℚ with_sign s k *ℚ m → all ≡ v +ℚ next +ℚ rest
    → all ≡ v +ℚ bars +ℚ (with_sign s (k *ℚ m) +ℚ rest)
bar_then Plus v k m bars next rest all e h = by_equations (v ∷ k ∷ m ∷ bars ∷ next ∷ rest ∷ all ∷ []) (null e ⊞ null h) (search reads depth 40) tt
bar_then Minus v k m bars next rest all e h = by_equations (v ∷ k ∷ m ∷ bars ∷ next ∷ rest ∷ all ∷ []) (null e ⊞ null h) (search reads depth 40) tt

no_more : (v : ℚ) → v ≡ v +ℚ zero_ℚ
no_more v = by_ring (v ∷ []) (search reads depth 40) tt

pub empty_value : (n : ℕ) (xs : List ℚ) (rest all : ℚ) → all ≡ value_in (zeros n) xs +ℚ zero_ℚ +ℚ rest → all ≡ rest
empty_value n xs rest all e =
    let z : value_in (zeros n) xs ≡ zero_ℚ = nothing_value (suc n) xs in
    by_equations (value_in (zeros n) xs ∷ rest ∷ all ∷ []) (null e ⊞ null z) (search reads depth 40) tt

without_bars : (v all : ℚ) → v +ℚ zero_ℚ ≡ all → v ≡ all
without_bars v all e = by_equations (v ∷ all ∷ []) (null e) (search reads depth 40) tt

-- what is known of a side that items are added to
pub record IsAdded (names : ℕ) (x : Point) (items : Items) (side result : Side) : Type 0 where
  pub length_is : length result.vector ≡ suc names
  pub value_is : side_value result (columns_from names 0 x) ≡ side_value side (columns_from names 0 x) +ℚ value_at x items

-- no bar pair comes from items within brackets or bars
no_pairs : (names depth : ℕ) (first : Bool) (items : Items) (side result : Side) → AreItems 0 depth first items → added names items side ≡ Ok result
    → result.pairs ≡ side.pairs
no_pairs names depth first End side result fit is = let e : result ≡ side = cc in ap (λ (s : Side). s.pairs) e
no_pairs names depth first (Constant s f rest) side result fit is =
    let one = and_then_ok (λ v. added names rest (with_vector side v))
    (changed_at names (λ q. combined (sign_of s) q (factor_value f)) side.vector) result is in
    no_pairs names depth false rest (with_vector side one.0) result fit.2 one.2
no_pairs names depth first (Variable s f star None rest) side result fit is = no_pairs names depth false rest side result fit.2 is
no_pairs names depth first (Variable s f star (Some j) rest) side result fit is =
    let one = and_then_ok (λ v. added names rest (with_vector side v)) (changed_at j (λ q. combined (sign_of s) q (scale_value f)) side.vector) result is in
    no_pairs names depth false rest (with_vector side one.0) result fit.2 one.2
no_pairs names depth first (Bracket s f star inner rest) side result fit is =
    let a = and_then_ok (λ (i : Side). and_then (scaled_all (scale_value f) i.vector)
    (λ more. and_then (combined_all (sign_of s) side.vector more) (λ v. added names rest (with_vector side v))))
    (added names inner (record { vector = zeros names; pairs = [] })) result is in
    let b = and_then_ok (λ more. and_then (combined_all (sign_of s) side.vector more) (λ v. added names rest (with_vector side v)))
    (scaled_all (scale_value f) a.0.vector) result a.2 in
    let c = and_then_ok (λ v. added names rest (with_vector side v)) (combined_all (sign_of s) side.vector b.0) result b.2 in
    no_pairs names depth false rest (with_vector side c.0) result fit.5 c.2
no_pairs names depth first (BarPair s f star inner rest) side result fit is = absurd fit

abbrev columns : ℕ → Point → List ℚ
columns names x = columns_from names 0 x

-- a change of one column, and then the rest
change_then : (names i : ℕ) (x : Point) (s : Sign) (r d : ℚ) (side result : Side) (v : List ℚ) (items rest : Items) → i < suc names
    → length side.vector ≡ suc names
    → r *ℚ fraction_at (columns names x) i ≡ d → changed_at i (λ q. combined s q r) side.vector ≡ Ok v → value_at x items ≡ with_sign s d +ℚ value_at x rest
    → (length v ≡ suc names → IsAdded names x rest (with_vector side v) result) → IsAdded names x items side result
change_then names i x s r d side result v items rest within long there is value further =
    let same : length v ≡ suc names = changed_length s i r side.vector v is ∙ long in
    let after = further same in
    let now : value_in v (columns names x) ≡ signed_sum s (value_in side.vector (columns names x)) d =
    changed_value s i r side.vector v (columns names x) (omega (arith, within, long)) (long ∙ sym (columns_length names 0 x)) is
    ∙ ap (signed_sum s (value_in side.vector (columns names x))) there in
    record {
      length_is = after.length_is;
      value_is = step_then s (value_in side.vector (columns names x)) (value_in v (columns names x)) d (bars_value side.pairs (columns names x))
          (value_at x rest) (side_value result (columns names x)) now after.value_is
          ∙ ap (λ t. side_value side (columns names x) +ℚ t) (sym value);
    }

one_times : (k : ℚ) → k *ℚ whole (pos 1) ≡ k
one_times k = by_ring (k ∷ []) (search reads depth 40) tt

-- a side that items are added to gains their value at the point
pub added_is : (items : Items) (names pairs depth : ℕ) (first : Bool) (x : Point) (side result : Side) → AreItems pairs depth first items
    → AreKnown names items → length side.vector ≡ suc names
    → added names items side ≡ Ok result → IsAdded names x items side result
added_is End names pairs depth first x side result fit known long is =
    let e : result ≡ side = cc in
    record {
      length_is = ap (λ (s : Side). length s.vector) e ∙ long;
      value_is = ap (λ (s : Side). side_value s (columns names x)) e ∙ no_more (side_value side (columns names x));
    }
added_is (Constant s f rest) names pairs depth first x side result fit known long is =
    let one = and_then_ok (λ v. added names rest (with_vector side v))
    (changed_at names (λ q. combined (sign_of s) q (factor_value f)) side.vector) result is in
    change_then names names x (sign_of s) (factor_value f) (factor_value f) side result one.0 (Constant s f rest) rest (omega arith) long
    (ap (λ t. factor_value f *ℚ t) (last_column names 0 x) ∙ one_times (factor_value f)) one.1 refl
    (λ same. added_is rest names pairs depth false x (with_vector side one.0) result fit.2 known same one.2)
added_is (Variable s f star None rest) names pairs depth first x side result fit known long is = absurd known
added_is (Variable s f star (Some j) rest) names pairs depth first x side result fit known long is =
    let one = and_then_ok (λ v. added names rest (with_vector side v)) (changed_at j (λ q. combined (sign_of s) q (scale_value f)) side.vector) result is in
    change_then names j x (sign_of s) (scale_value f) (scale_value f *ℚ coordinate x (Some j)) side result one.0 (Variable s f star (Some j) rest) rest
    (omega (arith, known.0)) long
    (ap (λ t. scale_value f *ℚ t) (column_is names 0 j x known.0 ∙ (let z : 0 + j ≡ j = omega arith in ap (λ k. over (number_at x.p k) x.q) z))) one.1 refl
    (λ same. added_is rest names pairs depth false x (with_vector side one.0) result fit.2 known.1 same one.2)
added_is (Bracket s f star inner rest) names pairs depth first x side result fit known long is =
    let empty : Side = record { vector = zeros names; pairs = [] } in
    let a = and_then_ok (λ (i : Side). and_then (scaled_all (scale_value f) i.vector)
    (λ more. and_then (combined_all (sign_of s) side.vector more) (λ v. added names rest (with_vector side v)))) (added names inner empty) result is in
    let b = and_then_ok (λ more. and_then (combined_all (sign_of s) side.vector more) (λ v. added names rest (with_vector side v)))
    (scaled_all (scale_value f) a.0.vector) result a.2 in
    let c = and_then_ok (λ v. added names rest (with_vector side v)) (combined_all (sign_of s) side.vector b.0) result b.2 in
    let inside = added_is inner names 0 (suc depth) true x empty a.0 fit.4 known.0 (nothing_length (suc names)) a.1 in
    let none : a.0.pairs ≡ [] = no_pairs names (suc depth) true inner empty a.0 fit.4 a.1 in
    let within : value_in a.0.vector (columns names x) ≡ value_at x inner =
    without_bars (value_in a.0.vector (columns names x)) (value_at x inner)
    (ap (λ ps. value_in a.0.vector (columns names x) +ℚ bars_value ps (columns names x)) (sym none)
    ∙ empty_value names (columns names x) (value_at x inner) (side_value a.0 (columns names x)) inside.value_is) in
    let scaled : value_in b.0 (columns names x) ≡ scale_value f *ℚ value_at x inner = scaled_value (scale_value f) a.0.vector b.0 (columns names x) b.1
    ∙ ap (λ t. scale_value f *ℚ t) within in
    let same : length side.vector ≡ length b.0 = omega (arith, long, inside.length_is, scaled_length (scale_value f) a.0.vector b.0 b.1) in
    let now : value_in c.0 (columns names x) ≡ signed_sum (sign_of s) (value_in side.vector (columns names x)) (scale_value f *ℚ value_at x inner) =
    combined_value (sign_of s) side.vector b.0 c.0 (columns names x) same c.1 ∙ ap (signed_sum (sign_of s) (value_in side.vector (columns names x))) scaled in
    let after = added_is rest names pairs depth false x (with_vector side c.0) result fit.5 known.1
    (combined_length (sign_of s) side.vector b.0 c.0 same c.1 ∙ long) c.2 in
    record {
      length_is = after.length_is;
      value_is = step_then (sign_of s) (value_in side.vector (columns names x)) (value_in c.0 (columns names x)) (scale_value f *ℚ value_at x inner)
          (bars_value side.pairs (columns names x)) (value_at x rest) (side_value result (columns names x)) now after.value_is;
    }
added_is (BarPair s f star inner rest) names zero depth first x side result fit known long is = absurd fit
added_is (BarPair s f star inner rest) names (suc pairs) depth first x side result fit known long is =
    let empty : Side = record { vector = zeros names; pairs = [] } in
    let kept : Side → Side = λ i. record {
      vector = side.vector;
      pairs = side.pairs ++
          (record { weight = with_sign (sign_of s) (scale_value f); inner = i.vector } ∷ []);
    } in
    let a = and_then_ok (λ (i : Side). added names rest (kept i)) (added names inner empty) result is in
    let inside = added_is inner names 0 depth true x empty a.0 fit.3 known.0 (nothing_length (suc names)) a.1 in
    let none : a.0.pairs ≡ [] = no_pairs names depth true inner empty a.0 fit.3 a.1 in
    let within : value_in a.0.vector (columns names x) ≡ value_at x inner =
    without_bars (value_in a.0.vector (columns names x)) (value_at x inner)
    (ap (λ ps. value_in a.0.vector (columns names x) +ℚ bars_value ps (columns names x)) (sym none)
    ∙ empty_value names (columns names x) (value_at x inner) (side_value a.0 (columns names x)) inside.value_is) in
    let bars : bars_value (kept a.0).pairs (columns names x) ≡ bars_value side.pairs (columns names x) +ℚ with_sign (sign_of s) (scale_value f) *ℚ abs_ℚ
    (value_at x inner) =
    bars_both side.pairs (record { weight = with_sign (sign_of s) (scale_value f); inner = a.0.vector }) (columns names x)
    ∙ ap (λ t. bars_value side.pairs (columns names x) +ℚ with_sign (sign_of s) (scale_value f) *ℚ abs_ℚ t) within in
    let after = added_is rest names pairs depth false x (kept a.0) result fit.4 known.1 long a.2 in
    record {
      length_is = after.length_is;
      value_is = bar_then (sign_of s) (value_in side.vector (columns names x)) (scale_value f) (abs_ℚ (value_at x inner))
          (bars_value side.pairs (columns names x)) (bars_value (kept a.0).pairs (columns names x)) (value_at x rest)
          (side_value result (columns names x)) bars after.value_is;
    }
