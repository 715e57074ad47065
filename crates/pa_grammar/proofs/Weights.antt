-- Where no bar pair of a term is faulty, no weight is negative in one of its comparisons.
use Rattle.pa_grammar.specs.Met.{AreKnown, AllFalse}
use Rattle.std.proofs.Common.{◌≡◌, ℕ, zero, suc, Bool, true, false, List, [], ◌∷◌, ◌++◌, length, map, Some, None, Ok, refl, ap, sym}
use Rattle.std.proofs.Common.{subst, arith}
use Rattle.std.specs.Prelude.{ℤ, pos, negsuc, ◌||◌, ◌&&◌, ◌≤ℤ◌}
use Rattle.std.specs.Int.{is_negative}
use Rattle.std.proofs.lemmas.Int.{ints}
use Rattle.pa_math.specs.Answers.{and_then}
use Rattle.pa_math.specs.Rational.{ℚ, neg_ℚ}
use Rattle.pa_math.specs.RationalOrder.{◌≤ℚ◌}
use Rattle.pa_math.proofs.RationalOrders.{nonneg_from_num}
use Rattle.pa_meaning.specs.Rows.{Point}
use Rattle.pa_grammar.specs.Grammar.{Items, End, Constant, Variable, Bracket, BarPair, AreItems}
use Rattle.pa_grammar.specs.Machine.{sign_of}
use Rattle.pa_grammar.specs.Meaning.{factor_value, scale_value, with_sign}
use Rattle.pa_grammar.specs.Values.{Side, Pair, added, with_vector, zeros, combined, combined_all, changed_at, scaled_all, weights, is_below, faulty, turned}
use Rattle.pa_grammar.proofs.Bars.{zero_ℚ, and_then_ok, AreFit}
use Rattle.pa_grammar.proofs.Sides.{added_is, nothing_length}

pub all_false_parts : (a b : List Bool) → AllFalse (a ++ b) → AllFalse a × AllFalse b
all_false_parts [] b all = (tt, all)
all_false_parts (x ∷ a) b all = let rest = all_false_parts a b all.1 in ((all.0, rest.0), rest.1)

-- the pairs have these weights, and vectors of one length
abbrev pub HaveWeights : ℕ → List Pair → List ℚ → Type 0
HaveWeights n [] [] = Unit {0}
HaveWeights n [] (w ∷ ws) = ⊥
HaveWeights n (p ∷ ps) [] = ⊥
HaveWeights n (p ∷ ps) (w ∷ ws) = (p.weight ≡ w) × (length p.inner ≡ n) × HaveWeights n ps ws

weights_both : (n : ℕ) (ps : List Pair) (ws : List ℚ) (p : Pair) → HaveWeights n ps ws → length p.inner ≡ n
    → HaveWeights n (ps ++ (p ∷ [])) (ws ++ (p.weight ∷ []))
weights_both n [] [] p have long = (refl, long, tt)
weights_both n [] (w ∷ ws) p have long = absurd have
weights_both n (q ∷ ps) [] p have long = absurd have
weights_both n (q ∷ ps) (w ∷ ws) p have long = (have.0, have.1, weights_both n ps ws p have.2 long)

move_weight : (ws : List ℚ) (w : ℚ) (more : List ℚ) → (ws ++ (w ∷ [])) ++ more ≡ ws ++ (w ∷ more)
move_weight [] w more = refl
move_weight (v ∷ ws) w more = ap (λ xs. v ∷ xs) (move_weight ws w more)

nothing_more : (ws : List ℚ) → ws ++ [] ≡ ws
nothing_more [] = refl
nothing_more (w ∷ ws) = ap (λ xs. w ∷ xs) (nothing_more ws)

-- a side that items are added to gains their weights
pub weights_are : (items : Items) (names pairs depth : ℕ) (first : Bool) (x : Point) (side result : Side) (ws : List ℚ) → AreItems pairs depth first items
    → AreKnown names items
    → HaveWeights (suc names) side.pairs ws → added names items side ≡ Ok result → HaveWeights (suc names) result.pairs (ws ++ weights items)
weights_are End names pairs depth first x side result ws fit known have is =
    let e : side ≡ result = cc in
    let P : List ℚ → Type 0 = λ vs. HaveWeights (suc names) result.pairs vs in
    let Q : Side → Type 0 = λ s. HaveWeights (suc names) s.pairs ws in
    subst P (sym (nothing_more ws)) (subst Q e have)
weights_are (Constant s f rest) names pairs depth first x side result ws fit known have is =
    let one = and_then_ok (λ v. added names rest (with_vector side v))
    (changed_at names (λ q. combined (sign_of s) q (factor_value f)) side.vector) result is in
    weights_are rest names pairs depth false x (with_vector side one.0) result ws fit.2 known have one.2
weights_are (Variable s f star None rest) names pairs depth first x side result ws fit known have is = absurd known
weights_are (Variable s f star (Some j) rest) names pairs depth first x side result ws fit known have is =
    let one = and_then_ok (λ v. added names rest (with_vector side v)) (changed_at j (λ q. combined (sign_of s) q (scale_value f)) side.vector) result is in
    weights_are rest names pairs depth false x (with_vector side one.0) result ws fit.2 known.1 have one.2
weights_are (Bracket s f star inner rest) names pairs depth first x side result ws fit known have is =
    let a = and_then_ok (λ (i : Side). and_then (scaled_all (scale_value f) i.vector)
    (λ more. and_then (combined_all (sign_of s) side.vector more) (λ v. added names rest (with_vector side v))))
    (added names inner (record { vector = zeros names; pairs = [] })) result is in
    let b = and_then_ok (λ more. and_then (combined_all (sign_of s) side.vector more) (λ v. added names rest (with_vector side v)))
    (scaled_all (scale_value f) a.0.vector) result a.2 in
    let c = and_then_ok (λ v. added names rest (with_vector side v)) (combined_all (sign_of s) side.vector b.0) result b.2 in
    weights_are rest names pairs depth false x (with_vector side c.0) result ws fit.5 known.1 have c.2
weights_are (BarPair s f star inner rest) names zero depth first x side result ws fit known have is = absurd fit
weights_are (BarPair s f star inner rest) names (suc pairs) depth first x side result ws fit known have is =
    let empty : Side = record { vector = zeros names; pairs = [] } in
    let w : ℚ = with_sign (sign_of s) (scale_value f) in
    let kept : Side → Side = λ i. record { vector = side.vector; pairs = side.pairs ++ (record { weight = w; inner = i.vector } ∷ []) } in
    let a = and_then_ok (λ (i : Side). added names rest (kept i)) (added names inner empty) result is in
    let inside = added_is inner names 0 depth true x empty a.0 fit.3 known.0 (nothing_length (suc names)) a.1 in
    let P : List ℚ → Type 0 = λ vs. HaveWeights (suc names) result.pairs vs in
    subst P (move_weight ws w (weights rest))
    (weights_are rest names pairs depth false x (kept a.0) result (ws ++ (w ∷ [])) fit.4 known.1
    (weights_both (suc names) side.pairs ws (record { weight = w; inner = a.0.vector }) have inside.length_is) a.2)

-- ---- signs

nonneg_is : (n : ℤ) → is_negative n ≡ false → pos 0 ≤ℤ n
nonneg_is (pos n) h = omega (arith, ints)
nonneg_is (negsuc n) h = cc h

not_below : (q : ℚ) → is_below q ≡ false → zero_ℚ ≤ℚ q
not_below q h = nonneg_from_num (nonneg_is q.num h)

or_false_left : (a b : Bool) → (a || b) ≡ false → a ≡ false
or_false_left false b h = refl
or_false_left true b h = cc h

or_false_right : (a b : Bool) → (a || b) ≡ false → b ≡ false
or_false_right false b h = h
or_false_right true b h = cc h

-- a lesser side's pairs, and a greater side's turned, have no negative weight
pub lesser_fit : (n : ℕ) (greater : Bool) (ps : List Pair) (ws : List ℚ) → HaveWeights n ps ws → AllFalse (map (faulty true greater) ws) → AreFit n ps
lesser_fit n greater [] [] have all = tt
lesser_fit n greater [] (w ∷ ws) have all = absurd have
lesser_fit n greater (p ∷ ps) [] have all = absurd have
lesser_fit n greater (p ∷ ps) (w ∷ ws) have all =
    let P : ℚ → Type 0 = λ v. zero_ℚ ≤ℚ v in
    (subst P (sym have.0) (not_below w (or_false_left (is_below w) (greater && is_below (neg_ℚ w)) all.0)), have.1, lesser_fit n greater ps ws have.2 all.1)

pub greater_fit : (n : ℕ) (lesser : Bool) (ps : List Pair) (ws : List ℚ) → HaveWeights n ps ws → AllFalse (map (faulty lesser true) ws)
    → AreFit n (map turned ps)
greater_fit n lesser [] [] have all = tt
greater_fit n lesser [] (w ∷ ws) have all = absurd have
greater_fit n lesser (p ∷ ps) [] have all = absurd have
greater_fit n lesser (p ∷ ps) (w ∷ ws) have all =
    let P : ℚ → Type 0 = λ v. zero_ℚ ≤ℚ neg_ℚ v in (
      subst P (sym have.0) (not_below (neg_ℚ w) (or_false_right (lesser && is_below w) (is_below (neg_ℚ w)) all.0)),
      have.1,
      greater_fit n lesser ps ws have.2
          all.1,
    )

pub fit_both : (n : ℕ) (ps qs : List Pair) → AreFit n ps → AreFit n qs → AreFit n (ps ++ qs)
fit_both n [] qs a b = b
fit_both n (p ∷ ps) qs a b = (a.0, a.1, fit_both n ps qs a.2 b)
