-- The rows of a term have a column for each name: each vector keeps one more, for the constant, through all that is added to it.
use Rattle.std.proofs.Common.{◌≡◌, ℕ, zero, suc, replicate, List, [], ◌∷◌, ◌++◌, length, map, All, Some, None, Result, Ok, Err, refl, ap, subst, ◌∙◌, arith}
use Rattle.std.specs.Prelude.{ℤ, pos, int_div, IfOk, ◌*ℤ◌}
use Rattle.std.proofs.lemmas.List.{length-map}
use Rattle.std.proofs.lemmas.List.Elements.{All-nil, All-cons, All-head, All-tail, All-append}
use Rattle.pa_math.specs.Answers.{and_then, seen_as, IsAnswer}
use Rattle.pa_math.specs.Divisors.{gcd_all}
use Rattle.pa_math.specs.Rational.{ℚ, whole}
use Rattle.pa_frac.specs.declared.wide.Wide.{Wide}
use Rattle.pa_frac.specs.Width.{within}
use Rattle.pa_meaning.specs.Rows.{Row, primitive}
use Rattle.pa_row.specs.Fractions.{common_from, over_common}
use Rattle.pa_grammar.specs.declared.fault.TermFault.{TermFault}
use Rattle.pa_grammar.specs.declared.fault.TermFault.TheVariants as F
use Rattle.pa_grammar.specs.declared.token.Sign.{Sign}
use Rattle.pa_grammar.specs.declared.token.Sign.TheVariants.{Plus, Minus}
use Rattle.pa_grammar.specs.declared.token.Relation.{Relation}
use Rattle.pa_grammar.specs.declared.token.Relation.TheVariants.{AtMost, AtLeast, Equal}
use Rattle.pa_grammar.specs.Grammar.{Items, End, Constant, Variable, Bracket, BarPair, Term}
use Rattle.pa_grammar.specs.Lexer.{Scope}
use Rattle.pa_grammar.specs.Machine.{sign_of}
use Rattle.pa_grammar.specs.Meaning.{factor_value, scale_value}
use Rattle.pa_grammar.specs.Texts.{AreRowsOf, term_answer}
use Rattle.pa_grammar.specs.Values.{Pair, Side, combined, changed_at, scaled_all, combined_all, zeros, with_vector, added}
use Rattle.pa_grammar.specs.Values.{side_of, sides_of, choices, parts_of, row_with}
use Rattle.pa_grammar.specs.Values.{row_of, rows_of_all, turned, comparison_rows, joined, relation_rows, chain_rows, term_rows}
use Rattle.pa_grammar.proofs.TermAnswers.{rows_clause}

-- ---- what is true of an answer, step by step

carried : {A B : Type 0} (P : A → Type 0) (Q : B → Type 0) (r : Result A Wide) (f : A → Result B Wide)
    → IfOk r P → ((x : A) → P x → IfOk (f x) Q) → IfOk (and_then r f) Q
carried P Q (Ok x) f is next = next x is
carried P Q (Err e) f is next = tt

-- whatever the first answer is
after : {A B : Type 0} (Q : B → Type 0) (r : Result A Wide) (f : A → Result B Wide) → ((x : A) → IfOk (f x) Q) → IfOk (and_then r f) Q
after Q (Ok x) f next = next x
after Q (Err e) f next = tt

-- ---- vectors

-- this many columns
abbrev Has : {A : Type 0} → ℕ → List A → Type 0
Has n xs = length xs ≡ n

zeros_length : (names : ℕ) → length (zeros names) ≡ suc names
zeros_length names = ap suc (replicated names)
  where
    replicated : (n : ℕ) → length (replicate n (whole (pos 0))) ≡ n
    replicated zero = refl
    replicated (suc n) = ap suc (replicated n)

changed_length : (i : ℕ) (f : ℚ → Result ℚ Wide) (qs : List ℚ) → IfOk (changed_at i f qs) (Has (length qs))
changed_length i f [] = refl
changed_length zero f (q ∷ qs) = after (Has (length (q ∷ qs))) (f q) _ (λ r. refl)
changed_length (suc i) f (q ∷ qs) =
    carried (Has (length qs)) (Has (length (q ∷ qs))) (changed_at i f qs) _ (changed_length i f qs) (λ rs same. ap suc same)

combined_length : (s : Sign) (qs rs : List ℚ) → IfOk (combined_all s qs rs) (Has (length qs))
combined_length s [] rs = refl
combined_length s (q ∷ qs) [] = refl
combined_length s (q ∷ qs) (r ∷ rs) =
    after (Has (length (q ∷ qs))) (combined s q r) _
    (λ t. carried (Has (length qs)) (Has (length (q ∷ qs))) (combined_all s qs rs) _ (combined_length s qs rs) (λ ts same. ap suc same))

-- a vector with one more column than there are names
abbrev IsOver : ℕ → Side → Type 0
IsOver names side = Has (suc names) side.vector

added_over : (names : ℕ) (items : Items) (side : Side) → IsOver names side → IfOk (added names items side) (IsOver names)
added_over names End side is = is
added_over names (Constant s f rest) side is =
    carried (Has (length side.vector)) (IsOver names) (changed_at names (λ q. combined (sign_of s) q (factor_value f)) side.vector) _
    (changed_length names _ side.vector) (λ v same. added_over names rest (with_vector side v) (same ∙ is))
added_over names (Variable s f star None rest) side is = added_over names rest side is
added_over names (Variable s f star (Some j) rest) side is =
    carried (Has (length side.vector)) (IsOver names) (changed_at j (λ q. combined (sign_of s) q (scale_value f)) side.vector) _
    (changed_length j _ side.vector) (λ v same. added_over names rest (with_vector side v) (same ∙ is))
added_over names (Bracket s f star inner rest) side is =
    after (IsOver names) (added names inner (record { vector = zeros names; pairs = [] })) _ (λ i.
    after (IsOver names) (scaled_all (scale_value f) i.vector) _ (λ more.
    carried (Has (length side.vector)) (IsOver names) (combined_all (sign_of s) side.vector more) _ (combined_length (sign_of s) side.vector more)
    (λ v same. added_over names rest (with_vector side v) (same ∙ is))))
added_over names (BarPair s f star inner rest) side is =
    after (IsOver names) (added names inner (record { vector = zeros names; pairs = [] })) _ (λ i. added_over names rest _ is)

side_over : (names : ℕ) (items : Items) → IfOk (side_of names items) (IsOver names)
side_over names items = added_over names items _ (zeros_length names)

sides_over : (names : ℕ) (list : List Items) → IfOk (sides_of names list) (All (IsOver names))
sides_over names [] = All-nil (IsOver names)
sides_over names (items ∷ more) =
    carried (IsOver names) (All (IsOver names)) (side_of names items) _ (side_over names items) (λ s own.
    carried (All (IsOver names)) (All (IsOver names)) (sides_of names more) _ (sides_over names more) (λ ss rest. All-cons (IsOver names) s ss own rest))

-- ---- rows

chosen_length : (n : ℕ) (ps : List Pair) (v : List ℚ) → length v ≡ n → IfOk (choices ps v) (All (Has n))
chosen_length n [] v is = All-cons (Has n) v [] is (All-nil (Has n))
chosen_length n (p ∷ ps) v is =
    after (All (Has n)) (scaled_all p.weight p.inner) _ (λ more.
    carried (Has (length v)) (All (Has n)) (combined_all Plus v more) _ (combined_length Plus v more) (λ above up.
    carried (All (Has n)) (All (Has n)) (choices ps above) _ (chosen_length n ps above (up ∙ is)) (λ vs first.
    carried (Has (length v)) (All (Has n)) (combined_all Minus v more) _ (combined_length Minus v more) (λ below down.
    carried (All (Has n)) (All (Has n)) (choices ps below) _ (chosen_length n ps below (down ∙ is)) (λ ws last. All-append (Has n) vs ws first last)))))

over_length : (q : ℤ) (fs : List (ℤ × ℤ)) → IfOk (over_common q fs) (Has (length fs))
over_length q [] = refl
over_length q (f ∷ fs) =
    after (Has (length (f ∷ fs))) (within 126 (f.0 *ℤ int_div q f.1)) _
    (λ n. carried (Has (length fs)) (Has (length (f ∷ fs))) (over_common q fs) _ (over_length q fs) (λ ns same. ap suc same))

-- a row has as many columns
abbrev HasColumns : ℕ → Row → Type 0
HasColumns n row = length row.c ≡ n

row_length : (n : ℕ) (ns : List ℤ) → length ns ≡ suc n → length (row_with ns).c ≡ n
row_length n [] is = absurd (cc)
row_length zero (m ∷ []) is = refl
row_length (suc n) (m ∷ []) is = absurd (cc)
row_length zero (m ∷ k ∷ ks) is = absurd (cc)
row_length (suc n) (m ∷ k ∷ ks) is = ap suc (row_length n (k ∷ ks) (let e : suc (length ks) ≡ suc n = omega (arith, is) in e))

primitive_length : (row : Row) → length (primitive row).c ≡ length row.c
primitive_length row = length-map row.c (λ x. int_div x (gcd_all (row.b ∷ row.c)))

row_columns : (n : ℕ) (v : List ℚ) → length v ≡ suc n → IfOk (row_of v) (HasColumns n)
row_columns n v is =
    after (HasColumns n) (common_from (pos 1) (map parts_of v)) _ (λ q.
    carried (Has (length (map parts_of v))) (HasColumns n) (over_common q (map parts_of v)) _ (over_length q (map parts_of v)) (λ ns same.
    primitive_length (row_with ns) ∙ row_length n ns (same ∙ length-map v parts_of ∙ is)))

rows_columns : (n : ℕ) (vs : List (List ℚ)) → All (Has (suc n)) vs → IfOk (rows_of_all vs) (All (HasColumns n))
rows_columns n [] all = All-nil (HasColumns n)
rows_columns n (v ∷ vs) all =
    carried (HasColumns n) (All (HasColumns n)) (row_of v) _ (row_columns n v (All-head (Has (suc n)) v vs all)) (λ row own.
    carried (All (HasColumns n)) (All (HasColumns n)) (rows_of_all vs) _ (rows_columns n vs (All-tail (Has (suc n)) v vs all)) (λ rows rest.
    All-cons (HasColumns n) row rows own rest))

comparison_columns : (n : ℕ) (left right : Side) → IsOver n left → IfOk (comparison_rows left right) (All (HasColumns n))
comparison_columns n left right is =
    carried (Has (length left.vector)) (All (HasColumns n)) (combined_all Minus left.vector right.vector) _
    (combined_length Minus left.vector right.vector) (λ v same.
    carried (All (Has (suc n))) (All (HasColumns n)) (choices (left.pairs ++ map turned right.pairs) v) _
    (chosen_length (suc n) (left.pairs ++ map turned right.pairs) v (same ∙ is)) (λ vs all. rows_columns n vs all))

joined_columns : (n : ℕ) (one other : Result (List Row) Wide) → IfOk one (All (HasColumns n)) → IfOk other (All (HasColumns n))
    → IfOk (joined one other) (All (HasColumns n))
joined_columns n one other first second =
    carried (All (HasColumns n)) (All (HasColumns n)) one _ first (λ rows left.
    carried (All (HasColumns n)) (All (HasColumns n)) other _ second (λ more right. All-append (HasColumns n) rows more left right))

relation_columns : (n : ℕ) (r : Relation) (left right : Side) → IsOver n left → IsOver n right → IfOk (relation_rows r left right) (All (HasColumns n))
relation_columns n AtMost left right is is_right = comparison_columns n left right is
relation_columns n AtLeast left right is is_right = comparison_columns n right left is_right
relation_columns n Equal left right is is_right =
    joined_columns n (comparison_rows left right) (comparison_rows right left) (comparison_columns n left right is)
    (comparison_columns n right left is_right)

chain_columns : (n : ℕ) (r : Relation) (side : Side) (sides : List Side) → IsOver n side → All (IsOver n) sides
    → IfOk (chain_rows r side sides) (All (HasColumns n))
chain_columns n r side [] is all = All-nil (HasColumns n)
chain_columns n r side (next ∷ sides) is all =
    let own : IsOver n next = All-head (IsOver n) next sides all in
    joined_columns n (relation_rows r side next) (chain_rows r next sides) (relation_columns n r side next is own)
    (chain_columns n r next sides own (All-tail (IsOver n) next sides all))

term_columns : (n : ℕ) (t : Term) → IfOk (term_rows n t) (All (HasColumns n))
term_columns n t =
    carried (IsOver n) (All (HasColumns n)) (side_of n t.side) _ (side_over n t.side) (λ side is.
    carried (All (IsOver n)) (All (HasColumns n)) (sides_of n t.others) _ (sides_over n t.others) (λ sides all.
    chain_columns n t.relation side sides is all))

-- ---- the clause, for a result whose value is seen as a list

columns_of : (s : Scope) (text : List ℕ) (rows : List Row) → AreRowsOf s text rows → All (HasColumns (length s.names)) rows
columns_of s text rows are =
    subst (λ (due : Result (List Row) Wide). IfOk due (All (HasColumns (length s.names)))) are.rows_are (term_columns (length s.names) are.term)

pub columns_clause : {T : Type 0} (view : T → List Row) (s : Scope) (text : List ℕ) (result : Result T TermFault)
    → IsAnswer F.Memory (term_answer s text) (seen_as view result) → IfOk result (λ rows. All (λ row. length row.c ≡ length s.names) (view rows))
columns_clause view s text (Ok rows) answer = columns_of s text (view rows) (rows_clause view s text (Ok rows) answer)
columns_clause view s text (Err f) answer = tt
