-- The rows of a term, by fractions of at most 126 bits: each operation gives its exact value, or `Wide`.
use Rattle.std.specs.Prelude.{ℕ, zero, suc, ℤ, pos, neg_ℤ, List, [], ◌∷◌, ◌++◌, map, replicate, Bool, true, false, ◌||◌, ◌&&◌, Some, None, Result, Ok}
use Rattle.std.specs.Int.{is_negative}
use Rattle.pa_math.specs.Answers.{and_then}
use Rattle.pa_math.specs.Rational.{ℚ, den, whole, neg_ℚ}
use Rattle.pa_frac.specs.declared.wide.Wide.{Wide}
use Rattle.pa_frac.specs.Operations.{sum_in, difference_in, product_in}
use Rattle.pa_meaning.specs.Rows.{Row, primitive}
use Rattle.pa_row.specs.Fractions.{common_from, over_common}
use Rattle.pa_grammar.specs.declared.token.Sign.{Sign}
use Rattle.pa_grammar.specs.declared.token.Sign.TheVariants.{Plus, Minus}
use Rattle.pa_grammar.specs.declared.token.Relation.{Relation}
use Rattle.pa_grammar.specs.declared.token.Relation.TheVariants.{AtMost, AtLeast, Equal}
use Rattle.pa_grammar.specs.Grammar.{Items, End, Constant, Variable, Bracket, BarPair, Term}
use Rattle.pa_grammar.specs.Machine.{sign_of}
use Rattle.pa_grammar.specs.Meaning.{factor_value, scale_value, with_sign}

-- ---- vectors: one fraction for each name, and the constant last

-- plus or minus a fraction
abbrev pub combined : Sign → ℚ → ℚ → Result ℚ Wide
combined Plus q r = sum_in 126 q r
combined Minus q r = difference_in 126 q r

-- the fraction at a place changed
abbrev pub changed_at : ℕ → (ℚ → Result ℚ Wide) → List ℚ → Result (List ℚ) Wide
changed_at i f [] = Ok []
changed_at zero f (q ∷ qs) = and_then (f q) (λ r. Ok (r ∷ qs))
changed_at (suc i) f (q ∷ qs) = and_then (changed_at i f qs) (λ rs. Ok (q ∷ rs))

-- each fraction times a factor
abbrev pub scaled_all : ℚ → List ℚ → Result (List ℚ) Wide
scaled_all k [] = Ok []
scaled_all k (q ∷ qs) = and_then (product_in 126 k q) (λ r. and_then (scaled_all k qs) (λ rs. Ok (r ∷ rs)))

-- column by column, plus or minus; columns that the other vector lacks stay
abbrev pub combined_all : Sign → List ℚ → List ℚ → Result (List ℚ) Wide
combined_all s [] rs = Ok []
combined_all s (q ∷ qs) [] = Ok (q ∷ qs)
combined_all s (q ∷ qs) (r ∷ rs) = and_then (combined s q r) (λ t. and_then (combined_all s qs rs) (λ ts. Ok (t ∷ ts)))

abbrev pub zeros : ℕ → List ℚ
zeros names = replicate (suc names) (whole (pos 0))

-- ---- sides

-- a bar pair: its weight, and the vector between the bars
pub record Pair : Type 0 where
  pub weight : ℚ
  pub inner : List ℚ

-- a side: its vector, and its bar pairs in order
pub record Side : Type 0 where
  pub vector : List ℚ
  pub pairs : List Pair

abbrev pub with_vector : Side → List ℚ → Side
with_vector s v = record { vector = v; pairs = s.pairs }

-- the items are added to the side, from left to right, over so many names
abbrev pub added : ℕ → Items → Side → Result Side Wide
added names End side = Ok side
added names (Constant s f rest) side =
    and_then (changed_at names (λ q. combined (sign_of s) q (factor_value f)) side.vector) (λ v. added names rest (with_vector side v))
added names (Variable s f star None rest) side = added names rest side
added names (Variable s f star (Some j) rest) side =
    and_then (changed_at j (λ q. combined (sign_of s) q (scale_value f)) side.vector) (λ v. added names rest (with_vector side v))
added names (Bracket s f star inner rest) side =
    and_then (added names inner (record { vector = zeros names; pairs = [] })) (λ i.
    and_then (scaled_all (scale_value f) i.vector) (λ more.
    and_then (combined_all (sign_of s) side.vector more) (λ v. added names rest (with_vector side v))))
added names (BarPair s f star inner rest) side =
    and_then (added names inner (record { vector = zeros names; pairs = [] })) (λ i.
    added names rest (record {
      vector = side.vector;
      pairs = side.pairs ++
          (record { weight = with_sign (sign_of s) (scale_value f); inner = i.vector } ∷ []);
    }))

abbrev pub side_of : ℕ → Items → Result Side Wide
side_of names items = added names items (record { vector = zeros names; pairs = [] })

abbrev pub sides_of : ℕ → List Items → Result (List Side) Wide
sides_of names [] = Ok []
sides_of names (items ∷ more) = and_then (side_of names items) (λ s. and_then (sides_of names more) (λ ss. Ok (s ∷ ss)))

-- ---- rows

-- the vectors for each choice of signs of the pairs: plus before minus, the first pair changes slowest
abbrev pub choices : List Pair → List ℚ → Result (List (List ℚ)) Wide
choices [] v = Ok (v ∷ [])
choices (p ∷ ps) v =
    and_then (scaled_all p.weight p.inner) (λ more.
    and_then (combined_all Plus v more) (λ above. and_then (choices ps above) (λ rows.
    and_then (combined_all Minus v more) (λ below. and_then (choices ps below) (λ others. Ok (rows ++ others))))))

abbrev pub parts_of : ℚ → ℤ × ℤ
parts_of q = (q.num, den q)

-- the numbers before the last one, which is the constant
abbrev pub row_with : List ℤ → Row
row_with [] = record { c = []; b = pos 0 }
row_with (n ∷ []) = record { c = []; b = neg_ℤ n }
row_with (n ∷ m ∷ ms) = let row : Row = row_with (m ∷ ms) in record { c = n ∷ row.c; b = row.b }

-- the row that says that a vector is at most 0: over the least common multiple of the denominators, and primitive
abbrev pub row_of : List ℚ → Result Row Wide
row_of v = and_then (common_from (pos 1) (map parts_of v)) (λ q. and_then (over_common q (map parts_of v)) (λ ns. Ok (primitive (row_with ns))))

abbrev pub rows_of_all : List (List ℚ) → Result (List Row) Wide
rows_of_all [] = Ok []
rows_of_all (v ∷ vs) = and_then (row_of v) (λ row. and_then (rows_of_all vs) (λ rows. Ok (row ∷ rows)))

abbrev pub turned : Pair → Pair
turned p = record { weight = neg_ℚ p.weight; inner = p.inner }

-- the rows of `left <= right`
abbrev pub comparison_rows : Side → Side → Result (List Row) Wide
comparison_rows left right =
    and_then (combined_all Minus left.vector right.vector) (λ v. and_then (choices (left.pairs ++ map turned right.pairs) v) rows_of_all)

abbrev pub joined : Result (List Row) Wide → Result (List Row) Wide → Result (List Row) Wide
joined one other = and_then one (λ rows. and_then other (λ more. Ok (rows ++ more)))

abbrev pub relation_rows : Relation → Side → Side → Result (List Row) Wide
relation_rows AtMost left right = comparison_rows left right
relation_rows AtLeast left right = comparison_rows right left
relation_rows Equal left right = joined (comparison_rows left right) (comparison_rows right left)

abbrev pub chain_rows : Relation → Side → List Side → Result (List Row) Wide
chain_rows r side [] = Ok []
chain_rows r side (next ∷ sides) = joined (relation_rows r side next) (chain_rows r next sides)

-- the rows of a term over so many names
abbrev pub term_rows : ℕ → Term → Result (List Row) Wide
term_rows names t = and_then (side_of names t.side) (λ side. and_then (sides_of names t.others) (λ sides. chain_rows t.relation side sides))

-- ---- where a term has no rows by its signs

-- the weights of the bar pairs, in order
abbrev pub weights : Items → List ℚ
weights End = []
weights (Constant s f rest) = weights rest
weights (Variable s f star place rest) = weights rest
weights (Bracket s f star inner rest) = weights rest
weights (BarPair s f star inner rest) = with_sign (sign_of s) (scale_value f) ∷ weights rest

abbrev pub is_below : ℚ → Bool
is_below q = is_negative q.num

-- a pair's weight is negative in a comparison, where its side is the lesser one, or the greater one
abbrev pub faulty : (lesser greater : Bool) → ℚ → Bool
faulty lesser greater w = (lesser && is_below w) || (greater && is_below (neg_ℚ w))

-- whether each pair of a side is faulty; the side has a comparison before it, or behind it
abbrev pub side_faults : Relation → (before behind : Bool) → Items → List Bool
side_faults AtMost before behind side = map (faulty behind before) (weights side)
side_faults AtLeast before behind side = map (faulty before behind) (weights side)
side_faults Equal before behind side = map (λ w. true) (weights side)

abbrev pub others_faults : Relation → List Items → List Bool
others_faults r [] = []
others_faults r (side ∷ []) = side_faults r true false side
others_faults r (side ∷ next ∷ sides) = side_faults r true true side ++ others_faults r (next ∷ sides)

-- of each bar pair of the term, in the order of the text
abbrev pub pair_faults : Term → List Bool
pair_faults t = side_faults t.relation false true t.side ++ others_faults t.relation t.others
