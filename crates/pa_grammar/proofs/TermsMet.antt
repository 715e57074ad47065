-- A term without a faulty pair: its rows are met exactly where the text is.
use Rattle.pa_grammar.specs.Met.{AreKnown, AllKnown, AreMet, AllFalse}
use Rattle.std.proofs.Common.{◌≡◌, ℕ, suc, Bool, true, false, List, [], ◌∷◌, ◌++◌, map, Ok, refl, sym, subst}
use Rattle.std.specs.Prelude.{pos, ◌<ℤ◌}
use Rattle.pa_math.specs.Answers.{and_then}
use Rattle.pa_math.specs.Rational.{ℚ}
use Rattle.pa_meaning.specs.Rows.{Row, Point}
use Rattle.pa_grammar.specs.declared.token.Relation.{Relation}
use Rattle.pa_grammar.specs.declared.token.Relation.TheVariants.{AtMost, AtLeast, Equal}
use Rattle.pa_grammar.specs.Grammar.{Items, Term, AreItems, AreSides, IsTerm, AreOthers, most_pairs}
use Rattle.pa_grammar.specs.Meaning.{TextHolds}
use Rattle.pa_grammar.specs.Values.{Side, Pair, zeros, side_of, sides_of, weights, faulty, side_faults, others_faults, pair_faults, turned, term_rows}
use Rattle.pa_grammar.proofs.Bars.{and_then_ok, AreFit}
use Rattle.pa_grammar.proofs.TextsMet.{Iff, FitBetween, FitChain, HasFitSides, term_met, others_are_sides}
use Rattle.pa_grammar.proofs.Weights.{all_false_parts, HaveWeights, weights_are, lesser_fit, greater_fit, fit_both}

-- each side has the weights of its items
abbrev AllHave : ℕ → List Side → List Items → Type 0
AllHave n [] [] = Unit {0}
AllHave n [] (i ∷ is) = ⊥
AllHave n (s ∷ ss) [] = ⊥
AllHave n (s ∷ ss) (i ∷ is) = HaveWeights (suc n) s.pairs (weights i) × AllHave n ss is

no_weights : (n : ℕ) (ps : List Pair) (ws : List ℚ) → HaveWeights n ps ws → AllFalse (map (λ w. true) ws) → ps ≡ []
no_weights n [] ws have all = refl
no_weights n (p ∷ ps) [] have all = absurd have
no_weights n (p ∷ ps) (w ∷ ws) have all = cc all.0

fit_nothing : (n : ℕ) (left right : Side) → left.pairs ≡ [] → right.pairs ≡ [] → FitBetween n left right
fit_nothing n left right e h =
    let P : List Pair → Type 0 = λ ps. AreFit (suc n) (ps ++ map turned right.pairs) in
    let Q : List Pair → Type 0 = λ ps. AreFit (suc n) (map turned ps) in
    subst P (sym e) (subst Q (sym h) tt)

at_most_fit : (n : ℕ) (left : Side) (lw : List ℚ) (before : Bool) (others : List Items) (sides : List Side) → HaveWeights (suc n) left.pairs lw
    → AllFalse (map (faulty true before) lw)
    → AllHave n sides others → AllFalse (others_faults AtMost others) → FitChain n AtMost left sides
at_most_fit n left lw before [] [] have fine all_have all = tt
at_most_fit n left lw before [] (s ∷ ss) have fine all_have all = absurd all_have
at_most_fit n left lw before (i ∷ is) [] have fine all_have all = absurd all_have
at_most_fit n left lw before (i ∷ []) (s ∷ []) have fine all_have all = (
  fit_both (suc n) left.pairs (map turned s.pairs) (lesser_fit (suc n) before left.pairs lw have fine)
      (greater_fit (suc n) false s.pairs (weights i) all_have.0 all),
  tt,
)
at_most_fit n left lw before (i ∷ []) (s ∷ t ∷ ss) have fine all_have all = absurd all_have.1
at_most_fit n left lw before (i ∷ j ∷ is) (s ∷ ss) have fine all_have all =
    let parts = all_false_parts (map (faulty true true) (weights i)) (others_faults AtMost (j ∷ is)) all in (
      fit_both (suc n) left.pairs (map turned s.pairs) (lesser_fit (suc n) before left.pairs lw have fine)
          (greater_fit (suc n) true s.pairs (weights i) all_have.0 parts.0),
      at_most_fit n s (weights i) true (j ∷ is) ss all_have.0 parts.0 all_have.1 parts.1,
    )

at_least_fit : (n : ℕ) (left : Side) (lw : List ℚ) (before : Bool) (others : List Items) (sides : List Side) → HaveWeights (suc n) left.pairs lw
    → AllFalse (map (faulty before true) lw)
    → AllHave n sides others → AllFalse (others_faults AtLeast others) → FitChain n AtLeast left sides
at_least_fit n left lw before [] [] have fine all_have all = tt
at_least_fit n left lw before [] (s ∷ ss) have fine all_have all = absurd all_have
at_least_fit n left lw before (i ∷ is) [] have fine all_have all = absurd all_have
at_least_fit n left lw before (i ∷ []) (s ∷ []) have fine all_have all = (
  fit_both (suc n) s.pairs (map turned left.pairs) (lesser_fit (suc n) false s.pairs (weights i) all_have.0 all)
      (greater_fit (suc n) before left.pairs lw have fine),
  tt,
)
at_least_fit n left lw before (i ∷ []) (s ∷ t ∷ ss) have fine all_have all = absurd all_have.1
at_least_fit n left lw before (i ∷ j ∷ is) (s ∷ ss) have fine all_have all =
    let parts = all_false_parts (map (faulty true true) (weights i)) (others_faults AtLeast (j ∷ is)) all in (
      fit_both (suc n) s.pairs (map turned left.pairs) (lesser_fit (suc n) true s.pairs (weights i) all_have.0 parts.0)
          (greater_fit (suc n) before left.pairs lw have fine),
      at_least_fit n s (weights i) true (j ∷ is) ss all_have.0 parts.0 all_have.1 parts.1,
    )

chain_fit : (r : Relation) (n : ℕ) (left : Side) (first : Items) (others : List Items) (sides : List Side) → HaveWeights (suc n) left.pairs (weights first)
    → AllHave n sides others → AreOthers r others
    → AllFalse (side_faults r false true first) → AllFalse (others_faults r others) → FitChain n r left sides
chain_fit AtMost n left first others sides have all_have is fine all = at_most_fit n left (weights first) false others sides have fine all_have all
chain_fit AtLeast n left first others sides have all_have is fine all = at_least_fit n left (weights first) false others sides have fine all_have all
chain_fit Equal n left first [] sides have all_have is fine all = absurd is
chain_fit Equal n left first (i ∷ j ∷ items) sides have all_have is fine all = absurd is
chain_fit Equal n left first (i ∷ []) [] have all_have is fine all = absurd all_have
chain_fit Equal n left first (i ∷ []) (s ∷ t ∷ ss) have all_have is fine all = absurd all_have.1
chain_fit Equal n left first (i ∷ []) (s ∷ []) have all_have is fine all =
    let e : left.pairs ≡ [] = no_weights (suc n) left.pairs (weights first) have fine in
    let h : s.pairs ≡ [] = no_weights (suc n) s.pairs (weights i) all_have.0 all in
    ((fit_nothing n left s e h, fit_nothing n s left h e), tt)

side_has : (names : ℕ) (items : Items) (side : Side) (x : Point) → AreItems most_pairs 0 true items → AreKnown names items → side_of names items ≡ Ok side
    → HaveWeights (suc names) side.pairs (weights items)
side_has names items side x fit known is = weights_are items names most_pairs 0 true x (record { vector = zeros names; pairs = [] }) side [] fit known tt is

sides_have : (names : ℕ) (items : List Items) (sides : List Side) (x : Point) → AreSides items → AllKnown names items → sides_of names items ≡ Ok sides
    → AllHave names sides items
sides_have names [] sides x fit known is =
    let e : sides ≡ [] = cc in
    let P : List Side → Type 0 = λ ss. AllHave names ss [] in
    subst P (sym e) tt
sides_have names (i ∷ items) sides x fit known is =
    let one = and_then_ok (λ s. and_then (sides_of names items) (λ ss. Ok (s ∷ ss))) (side_of names i) sides is in
    let two = and_then_ok (λ ss. Ok (one.0 ∷ ss)) (sides_of names items) sides one.2 in
    let e : sides ≡ one.0 ∷ two.0 = cc in
    let P : List Side → Type 0 = λ ss. AllHave names ss (i ∷ items) in
    subst P (sym e) (side_has names i one.0 x fit.0.1 known.0 one.1, sides_have names items two.0 x fit.1 known.1 two.1)

linear_fits : (t : Term) (names : ℕ) (x : Point) → IsTerm t → AreKnown names t.side → AllKnown names t.others → AllFalse (pair_faults t) → HasFitSides names t
linear_fits t names x is known all_known all side sides is_side are_sides =
    let parts = all_false_parts (side_faults t.relation false true t.side) (others_faults t.relation t.others) all in
    chain_fit t.relation names side t.side t.others sides (side_has names t.side side x is.0.1 known is_side)
    (sides_have names t.others sides x (others_are_sides t.relation t.others is.1) all_known are_sides) is.1 parts.0 parts.1

-- at each point the rows of an accepted term are met exactly where the text is
pub rows_met : (t : Term) (rows : List Row) (names : ℕ) (x : Point) → pos 0 <ℤ x.q → IsTerm t → AreKnown names t.side → AllKnown names t.others
    → AllFalse (pair_faults t)
    → term_rows names t ≡ Ok rows → Iff (AreMet rows x) (TextHolds x t)
rows_met t rows names x up is known all_known linear rows_are = term_met t rows names x up is known all_known
    (linear_fits t names x is known all_known linear) rows_are
