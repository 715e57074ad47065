-- The rows of a term are met exactly where the text is.
use Rattle.pa_grammar.specs.Met.{AreKnown, AllKnown, AreMet}
use Rattle.std.proofs.Common.{◌≡◌, ℕ, suc, true, List, [], ◌∷◌, ◌++◌, length, map, Result, Ok, sym, ◌∙◌, subst, arith}
use Rattle.std.specs.Prelude.{pos, ◌<ℤ◌}
use Rattle.pa_math.specs.Answers.{and_then}
use Rattle.pa_math.specs.Rational.{ℚ, neg_ℚ, abs_ℚ, ◌+ℚ◌, ◌-ℚ◌}
use Rattle.pa_math.specs.RationalOrder.{◌≤ℚ◌}
use Rattle.pa_math.proofs.RationalOrders.{≤ℚ_antisym, ≤ℚ_refl}
use Rattle.pa_math.proofs.RationalTactics.{by_ring, by_equations, by_le, null, ◌⊞◌, gap, reads}
use Rattle.pa_frac.specs.declared.wide.Wide.{Wide}
use Rattle.pa_meaning.specs.Rows.{Row, Point}
use Rattle.pa_grammar.specs.declared.token.Relation.{Relation}
use Rattle.pa_grammar.specs.declared.token.Relation.TheVariants.{AtMost, AtLeast, Equal}
use Rattle.pa_grammar.specs.declared.token.Sign.TheVariants.{Plus, Minus}
use Rattle.pa_grammar.specs.Grammar.{Items, Term, AreItems, AreSides, IsTerm, AreOthers, most_pairs}
use Rattle.pa_grammar.specs.Meaning.{value_at, Compares, ChainHolds, TextHolds}
use Rattle.pa_grammar.specs.Values.{Side, Pair, zeros, side_of, sides_of, combined_all, choices, turned, comparison_rows, relation_rows}
use Rattle.pa_grammar.specs.Values.{chain_rows, joined, term_rows, rows_of_all}
use Rattle.pa_grammar.proofs.Bars.{zero_ℚ, value_in, bars_value, AreFit, split, and_then_ok, combined_value, combined_length, scaled_length}
use Rattle.pa_grammar.proofs.Bars.{choices_to_abs, abs_to_choices}
use Rattle.pa_grammar.proofs.Sides.{columns_from, side_value, added_is, nothing_length, empty_value}
use Rattle.pa_grammar.proofs.RowsMet.{AreLong, rows_to_values, values_to_rows}

long_both : (n : ℕ) (vs ws : List (List ℚ)) → AreLong n vs → AreLong n ws → AreLong n (vs ++ ws)
long_both n [] ws a b = b
long_both n (v ∷ vs) ws a b = (a.0, long_both n vs ws a.1 b)

choices_long : (ps : List Pair) (v : List ℚ) (all : List (List ℚ)) (n : ℕ) → length v ≡ suc n → AreFit (suc n) ps → choices ps v ≡ Ok all → AreLong n all
choices_long [] v all n long fit is =
    let e : all ≡ v ∷ [] = cc in
    let P : List (List ℚ) → Type 0 = λ vs. AreLong n vs in
    subst P (sym e) (long, tt)
choices_long (p ∷ ps) v all n long fit is =
    let s = split p ps v all is in
    let P : List (List ℚ) → Type 0 = λ vs. AreLong n vs in
    let same : length v ≡ length s.more = omega (arith, scaled_length p.weight p.inner s.more s.more_is, fit.1, long) in
    subst P (sym s.all_is) (long_both n s.rows s.others
    (choices_long ps s.above s.rows n (combined_length Plus v s.more s.above same s.above_is ∙ long) fit.2 s.rows_are)
    (choices_long ps s.below s.others n (combined_length Minus v s.more s.below same s.below_is ∙ long) fit.2 s.others_are))

turned_value : (ps : List Pair) (xs : List ℚ) → bars_value (map turned ps) xs ≡ neg_ℚ (bars_value ps xs)
turned_value [] xs = by_ring [] (search reads depth 40) tt
turned_value (p ∷ ps) xs =
    let more : bars_value (map turned ps) xs ≡ neg_ℚ (bars_value ps xs) = turned_value ps xs in
    by_equations (p.weight ∷ abs_ℚ (value_in p.inner xs) ∷ bars_value ps xs ∷ bars_value (map turned ps) xs ∷ []) (null more) (search reads depth 40) tt

both_value : (ps qs : List Pair) (xs : List ℚ) → bars_value (ps ++ qs) xs ≡ bars_value ps xs +ℚ bars_value qs xs
both_value [] qs xs = by_ring (bars_value qs xs ∷ []) (search reads depth 40) tt
both_value (p ∷ ps) qs xs =
    let more : bars_value (ps ++ qs) xs ≡ bars_value ps xs +ℚ bars_value qs xs = both_value ps qs xs in
    by_equations (p.weight ∷ abs_ℚ (value_in p.inner xs) ∷ bars_value ps xs ∷ bars_value qs xs ∷ bars_value (ps ++ qs) xs ∷ []) (null more)
    (search reads depth 40) tt

to_sides : (l r bl br v b t : ℚ) → v ≡ l -ℚ r → b ≡ bl +ℚ t → t ≡ neg_ℚ br → (v +ℚ b) ≤ℚ zero_ℚ → (l +ℚ bl) ≤ℚ (r +ℚ br)
to_sides l r bl br v b t e f g h =
    let same : v +ℚ b ≡ l -ℚ r +ℚ (bl -ℚ br) = by_equations (l ∷ r ∷ bl ∷ br ∷ v ∷ b ∷ t ∷ []) (null e ⊞ null f ⊞ null g) (search reads depth 40) tt in
    let Q : ℚ → Type 0 = λ q. q ≤ℚ zero_ℚ in
    by_le (l ∷ r ∷ bl ∷ br ∷ []) (gap (subst Q same h)) (search reads depth 40) tt

from_sides : (l r bl br v b t : ℚ) → v ≡ l -ℚ r → b ≡ bl +ℚ t → t ≡ neg_ℚ br → (l +ℚ bl) ≤ℚ (r +ℚ br) → (v +ℚ b) ≤ℚ zero_ℚ
from_sides l r bl br v b t e f g h =
    let same : v +ℚ b ≡ l -ℚ r +ℚ (bl -ℚ br) = by_equations (l ∷ r ∷ bl ∷ br ∷ v ∷ b ∷ t ∷ []) (null e ⊞ null f ⊞ null g) (search reads depth 40) tt in
    let Q : ℚ → Type 0 = λ q. q ≤ℚ zero_ℚ in
    subst Q (sym same) (by_le (l ∷ r ∷ bl ∷ br ∷ []) (gap h) (search reads depth 40) tt)

-- no weight is negative in `left <= right`
abbrev pub FitBetween : ℕ → Side → Side → Type 0
FitBetween n left right = AreFit (suc n) (left.pairs ++ map turned right.pairs)

pub comparison_met : (left right : Side) (rows : List Row) (n : ℕ) (x : Point) → pos 0 <ℤ x.q → length left.vector ≡ suc n → length right.vector ≡ suc n
    → FitBetween n left right
    → comparison_rows left right ≡ Ok rows
    → (AreMet rows x → side_value left (columns_from n 0 x) ≤ℚ side_value right (columns_from n 0 x))
    × (side_value left (columns_from n 0 x) ≤ℚ side_value right (columns_from n 0 x) → AreMet rows x)
comparison_met left right rows n x up long_l long_r fit is =
    let xs : List ℚ = columns_from n 0 x in
    let pairs : List Pair = left.pairs ++ map turned right.pairs in
    let one = and_then_ok (λ v. and_then (choices pairs v) rows_of_all) (combined_all Minus left.vector right.vector) rows is in
    let two = and_then_ok rows_of_all (choices pairs one.0) rows one.2 in
    let same : length left.vector ≡ length right.vector = omega (arith, long_l, long_r) in
    let long : length one.0 ≡ suc n = combined_length Minus left.vector right.vector one.0 same one.1 ∙ long_l in
    let F : ℕ → Type 0 = λ k. AreFit k pairs in
    let fits : AreFit (length one.0) pairs = subst F (sym long) fit in
    let longs : AreLong n two.0 = choices_long pairs one.0 two.0 n long fit two.1 in
    let e : value_in one.0 xs ≡ value_in left.vector xs -ℚ value_in right.vector xs = combined_value Minus left.vector right.vector one.0 xs same one.1 in
    let f : bars_value pairs xs ≡ bars_value left.pairs xs +ℚ bars_value (map turned right.pairs) xs = both_value left.pairs (map turned right.pairs) xs in
    let g : bars_value (map turned right.pairs) xs ≡ neg_ℚ (bars_value right.pairs xs) = turned_value right.pairs xs in (
      λ met. to_sides (value_in left.vector xs) (value_in right.vector xs) (bars_value left.pairs xs) (bars_value right.pairs xs) (value_in one.0 xs)
          (bars_value pairs xs) (bars_value (map turned right.pairs) xs) e f g
          (choices_to_abs pairs one.0 xs two.0 fits two.1 (rows_to_values two.0 rows n x up longs two.2 met)),
      λ le. values_to_rows two.0 rows n x up longs two.2 (abs_to_choices pairs one.0 xs two.0 fits two.1
          (from_sides (value_in left.vector xs) (value_in right.vector xs) (bars_value left.pairs xs) (bars_value right.pairs xs) (value_in one.0 xs)
          (bars_value pairs xs) (bars_value (map turned right.pairs) xs) e f g le)),
    )

-- ---- a relation, and a chain

abbrev pub FitRelation : ℕ → Relation → Side → Side → Type 0
FitRelation n AtMost left right = FitBetween n left right
FitRelation n AtLeast left right = FitBetween n right left
FitRelation n Equal left right = FitBetween n left right × FitBetween n right left

abbrev pub FitChain : ℕ → Relation → Side → List Side → Type 0
FitChain n r side [] = Unit {0}
FitChain n r side (next ∷ sides) = FitRelation n r side next × FitChain n r next sides

met_both : (rows more : List Row) (x : Point) → AreMet rows x → AreMet more x → AreMet (rows ++ more) x
met_both [] more x a b = b
met_both (row ∷ rows) more x a b = (a.0, met_both rows more x a.1 b)

met_parts : (rows more : List Row) (x : Point) → AreMet (rows ++ more) x → AreMet rows x × AreMet more x
met_parts [] more x a = (tt, a)
met_parts (row ∷ rows) more x a = let rest = met_parts rows more x a.1 in ((a.0, rest.0), rest.1)

record IsJoined (one other : Result (List Row) Wide) (all : List Row) : Type 0 where
  rows : List Row
  more : List Row
  rows_are : one ≡ Ok rows
  more_are : other ≡ Ok more
  all_is : all ≡ rows ++ more

joined_parts : (one other : Result (List Row) Wide) (all : List Row) → joined one other ≡ Ok all → IsJoined one other all
joined_parts one other all is =
    let a = and_then_ok (λ rows. and_then other (λ more. Ok (rows ++ more))) one all is in
    let b = and_then_ok (λ more. Ok (a.0 ++ more)) other all a.2 in
    record { rows = a.0; more = b.0; rows_are = a.1; more_are = b.1; all_is = cc }

-- both ways of a fact
abbrev pub Iff : Type 0 → Type 0 → Type 0
Iff A B = (A → B) × (B → A)

equal_le : (a b : ℚ) → a ≡ b → a ≤ℚ b
equal_le a b e = let P : ℚ → Type 0 = λ t. a ≤ℚ t in subst P e (≤ℚ_refl a)

relation_met : (r : Relation) (left right : Side) (rows : List Row) (n : ℕ) (x : Point) → pos 0 <ℤ x.q → length left.vector ≡ suc n
    → length right.vector ≡ suc n → FitRelation n r left right
    → relation_rows r left right ≡ Ok rows → Iff (AreMet rows x) (Compares r (side_value left (columns_from n 0 x)) (side_value right (columns_from n 0 x)))
relation_met AtMost left right rows n x up long_l long_r fit is = comparison_met left right rows n x up long_l long_r fit is
relation_met AtLeast left right rows n x up long_l long_r fit is = comparison_met right left rows n x up long_r long_l fit is
relation_met Equal left right rows n x up long_l long_r fit is =
    let j = joined_parts (comparison_rows left right) (comparison_rows right left) rows is in
    let there = comparison_met left right j.rows n x up long_l long_r fit.0 j.rows_are in
    let back = comparison_met right left j.more n x up long_r long_l fit.1 j.more_are in
    let M : List Row → Type 0 = λ rs. AreMet rs x in (
      λ met. let both = met_parts j.rows j.more x (subst M j.all_is met) in ≤ℚ_antisym (there.0 both.0) (back.0 both.1),
      λ e. subst M (sym j.all_is) (met_both j.rows j.more x (there.1 (equal_le _ _ e)) (back.1 (equal_le _ _ (sym e)))),
    )

-- the sides have the values of their items
abbrev pub AreValued : ℕ → Point → List Items → List Side → Type 0
AreValued n x [] [] = Unit {0}
AreValued n x [] (s ∷ ss) = ⊥
AreValued n x (i ∷ is) [] = ⊥
AreValued n x (i ∷ is) (s ∷ ss) = (length s.vector ≡ suc n) × (side_value s (columns_from n 0 x) ≡ value_at x i) × AreValued n x is ss

chain_met : (r : Relation) (items : List Items) (value : ℚ) (side : Side) (sides : List Side) (rows : List Row) (n : ℕ) (x : Point) → pos 0 <ℤ x.q
    → length side.vector ≡ suc n
    → side_value side (columns_from n 0 x) ≡ value → AreValued n x items sides → FitChain n r side sides → chain_rows r side sides ≡ Ok rows
    → Iff (AreMet rows x) (ChainHolds x r value items)
chain_met r [] value side [] rows n x up long is_value valued fit is =
    let e : rows ≡ [] = cc in
    let M : List Row → Type 0 = λ rs. AreMet rs x in
    (λ met. tt, λ holds. subst M (sym e) tt)
chain_met r [] value side (next ∷ sides) rows n x up long is_value valued fit is = absurd valued
chain_met r (i ∷ items) value side [] rows n x up long is_value valued fit is = absurd valued
chain_met r (i ∷ items) value side (next ∷ sides) rows n x up long is_value valued fit is =
    let j = joined_parts (relation_rows r side next) (chain_rows r next sides) rows is in
    let here = relation_met r side next j.rows n x up long valued.0 fit.0 j.rows_are in
    let rest = chain_met r items (value_at x i) next sides j.more n x up valued.0 valued.1 valued.2 fit.1 j.more_are in
    let M : List Row → Type 0 = λ rs. AreMet rs x in
    let C : ℚ → Type 0 = λ v. Compares r v (side_value next (columns_from n 0 x)) in
    let D : ℚ → Type 0 = λ v. Compares r value v in (
      λ met. let both = met_parts j.rows j.more x (subst M j.all_is met) in (subst D valued.1 (subst C is_value (here.0 both.0)), rest.0 both.1),
      λ holds. subst M (sym j.all_is) (met_both j.rows j.more x (here.1 (subst C (sym is_value) (subst D (sym valued.1) holds.0))) (rest.1 holds.1)),
    )

-- ---- terms

side_valued : (names : ℕ) (items : Items) (side : Side) (x : Point) → AreItems most_pairs 0 true items → AreKnown names items → side_of names items ≡ Ok side
    → (length side.vector ≡ suc names) × (side_value side (columns_from names 0 x) ≡ value_at x items)
side_valued names items side x fit known is =
    let a = added_is items names most_pairs 0 true x (record { vector = zeros names; pairs = [] }) side fit known (nothing_length (suc names)) is in
    (a.length_is, empty_value names (columns_from names 0 x) (value_at x items) (side_value side (columns_from names 0 x)) a.value_is)

sides_valued : (names : ℕ) (items : List Items) (sides : List Side) (x : Point) → AreSides items → AllKnown names items → sides_of names items ≡ Ok sides
    → AreValued names x items sides
sides_valued names [] sides x fit known is =
    let e : sides ≡ [] = cc in
    let P : List Side → Type 0 = λ ss. AreValued names x [] ss in
    subst P (sym e) tt
sides_valued names (i ∷ items) sides x fit known is =
    let one = and_then_ok (λ s. and_then (sides_of names items) (λ ss. Ok (s ∷ ss))) (side_of names i) sides is in
    let two = and_then_ok (λ ss. Ok (one.0 ∷ ss)) (sides_of names items) sides one.2 in
    let e : sides ≡ one.0 ∷ two.0 = cc in
    let P : List Side → Type 0 = λ ss. AreValued names x (i ∷ items) ss in
    let here = side_valued names i one.0 x fit.0.1 known.0 one.1 in
    subst P (sym e) (here.0, here.1, sides_valued names items two.0 x fit.1 known.1 two.1)

pub others_are_sides : (r : Relation) (items : List Items) → AreOthers r items → AreSides items
others_are_sides r [] others = absurd others
others_are_sides r (i ∷ []) others = (others, tt)
others_are_sides AtMost (i ∷ j ∷ items) others = others
others_are_sides AtLeast (i ∷ j ∷ items) others = others
others_are_sides Equal (i ∷ j ∷ items) others = absurd others

-- no weight is negative in one of the term's comparisons
abbrev pub HasFitSides : ℕ → Term → Type 0
HasFitSides names t = (side : Side) (sides : List Side) → side_of names t.side ≡ Ok side → sides_of names t.others ≡ Ok sides
    → FitChain names t.relation side sides

-- the rows of a term are met exactly where the text is
pub term_met : (t : Term) (rows : List Row) (names : ℕ) (x : Point) → pos 0 <ℤ x.q → IsTerm t → AreKnown names t.side → AllKnown names t.others
    → HasFitSides names t
    → term_rows names t ≡ Ok rows → Iff (AreMet rows x) (TextHolds x t)
term_met t rows names x up is_term known all_known fit is =
    let one = and_then_ok (λ side. and_then (sides_of names t.others) (λ sides. chain_rows t.relation side sides)) (side_of names t.side) rows is in
    let two = and_then_ok (λ sides. chain_rows t.relation one.0 sides) (sides_of names t.others) rows one.2 in
    let here = side_valued names t.side one.0 x is_term.0.1 known one.1 in
    chain_met t.relation t.others (value_at x t.side) one.0 two.0 rows names x up here.0 here.1
    (sides_valued names t.others two.0 x (others_are_sides t.relation t.others is_term.1) all_known two.1) (fit one.0 two.0 one.1 two.1) two.2
