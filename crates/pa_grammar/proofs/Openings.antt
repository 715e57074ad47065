-- Each bar pair of a term has its opening bar.
use Rattle.std.proofs.Common.{◌≡◌, ◌<◌, ◌≤◌, ℕ, zero, suc, ◌+◌, List, [], ◌∷◌, ◌++◌, length, map, Bool, true, false, Option, Some, None, refl, sym, ap, ◌∙◌}
use Rattle.std.proofs.Common.{append_assoc, length-append, arith}
use Rattle.std.specs.Prelude.{if◌then◌else◌, slice_get}
use Rattle.std.specs.List.{position_from}
use Rattle.std.proofs.lemmas.Iterator.Adapters.{position_from-zero}
use Rattle.pa_grammar.specs.declared.token.Sign.{Sign}
use Rattle.pa_grammar.specs.declared.token.Relation.{Relation}
use Rattle.pa_grammar.specs.declared.token.Relation.TheVariants.{AtMost, AtLeast, Equal}
use Rattle.pa_grammar.specs.declared.token.Token.{Token}
use Rattle.pa_grammar.specs.declared.token.Token.TheVariants as K
use Rattle.pa_grammar.specs.declared.token.Placed.{Placed}
use Rattle.pa_grammar.specs.declared.machine.Factor.{Factor}
use Rattle.pa_grammar.specs.declared.machine.Factor.TheVariants.{Whole, Ratio, Known}
use Rattle.pa_grammar.specs.declared.machine.Piece.{Piece}
use Rattle.pa_grammar.specs.Grammar.{Items, End, Constant, Variable, Bracket, BarPair, Term, AreItems, AreSides, IsSide, IsTerm, most_pairs, sign_tokens}
use Rattle.pa_grammar.specs.Grammar.{factor_tokens, scale_tokens, tokens_of, others_tokens, term_tokens}
use Rattle.pa_grammar.specs.Values.{weights, side_faults, others_faults, pair_faults}
use Rattle.pa_grammar.specs.Parsed.{tokens_in, IsTermWith}
use Rattle.pa_grammar.specs.Faults.{is_bar, openings, first_true, piece_faults}
use Rattle.pa_grammar.proofs.PairFaults.{sides_from, faults_are}

-- how many bars open
abbrev opens_in : Bool → List Token → ℕ
opens_in o [] = 0
opens_in o (t ∷ ts) = if is_bar t then (if o then suc (opens_in false ts) else opens_in true ts) else opens_in o ts

openings_length : (o : Bool) (placed : List Placed) → length (openings o placed) ≡ opens_in o (tokens_in placed)
openings_length o [] = refl
openings_length o (p ∷ ps) = by_bar (is_bar p.token) o p.at ps (openings_length true ps) (openings_length false ps)
  where
    by_bar : (b o : Bool) (at : ℕ) (ps : List Placed) → length (openings true ps) ≡ opens_in true (tokens_in ps)
        → length (openings false ps) ≡ opens_in false (tokens_in ps)
        → length (if b then (if o then at ∷ openings false ps else openings true ps) else openings o ps)
        ≡ (if b then (if o then suc (opens_in false (tokens_in ps)) else opens_in true (tokens_in ps)) else opens_in o (tokens_in ps))
    by_bar true true at ps t f = ap suc f
    by_bar true false at ps t f = t
    by_bar false true at ps t f = t
    by_bar false false at ps t f = f

past_sign : (o : Bool) (s : Option Sign) (xs rest : List Token) → opens_in o ((sign_tokens s ++ xs) ++ rest) ≡ opens_in o (xs ++ rest)
past_sign o None xs rest = refl
past_sign o (Some s) xs rest = refl

past_factor : (o : Bool) (f : Factor) (xs rest : List Token) → opens_in o ((factor_tokens f ++ xs) ++ rest) ≡ opens_in o (xs ++ rest)
past_factor o (Whole n) xs rest = refl
past_factor o (Ratio n d) xs rest = refl
past_factor o (Known c) xs rest = refl

past_scale : (o : Bool) (f : Option Factor) (star : Bool) (xs rest : List Token) → opens_in o ((scale_tokens f star ++ xs) ++ rest) ≡ opens_in o (xs ++ rest)
past_scale o None star xs rest = refl
past_scale o (Some (Whole n)) true xs rest = refl
past_scale o (Some (Whole n)) false xs rest = refl
past_scale o (Some (Ratio n d)) true xs rest = refl
past_scale o (Some (Ratio n d)) false xs rest = refl
past_scale o (Some (Known c)) true xs rest = refl
past_scale o (Some (Known c)) false xs rest = refl

-- within brackets and bars no bar stands
inner_opens : (o : Bool) (depth : ℕ) (first : Bool) (items : Items) (rest : List Token) → AreItems 0 depth first items
    → opens_in o (tokens_of items ++ rest) ≡ opens_in o rest
inner_opens o depth first End rest fit = refl
inner_opens o depth first (Constant s f more) rest fit =
    past_sign o s (factor_tokens f ++ tokens_of more) rest ∙ past_factor o f (tokens_of more) rest ∙ inner_opens o depth false more rest fit.2
inner_opens o depth first (Variable s f star x more) rest fit =
    past_sign o s _ rest ∙ past_scale o f star (K.Named x ∷ tokens_of more) rest ∙ inner_opens o depth false more rest fit.2
inner_opens o depth first (Bracket s f star inner more) rest fit =
    past_sign o s _ rest ∙ past_scale o f star (K.Open ∷ (tokens_of inner ++ (K.Close ∷ tokens_of more))) rest
    ∙ ap (opens_in o) (append_assoc (tokens_of inner) (K.Close ∷ tokens_of more) rest)
    ∙ inner_opens o (suc depth) true inner (K.Close ∷ (tokens_of more ++ rest)) fit.4 ∙ inner_opens o depth false more rest fit.5
inner_opens o depth first (BarPair s f star inner more) rest fit = absurd fit

items_opens : (pairs depth : ℕ) (first : Bool) (items : Items) (rest : List Token) → AreItems pairs depth first items
    → opens_in true (tokens_of items ++ rest) ≡ length (weights items) + opens_in true rest
items_opens pairs depth first End rest fit = omega arith
items_opens pairs depth first (Constant s f more) rest fit =
    past_sign true s (factor_tokens f ++ tokens_of more) rest ∙ past_factor true f (tokens_of more) rest ∙ items_opens pairs depth false more rest fit.2
items_opens pairs depth first (Variable s f star x more) rest fit =
    past_sign true s _ rest ∙ past_scale true f star (K.Named x ∷ tokens_of more) rest ∙ items_opens pairs depth false more rest fit.2
items_opens pairs depth first (Bracket s f star inner more) rest fit =
    past_sign true s _ rest ∙ past_scale true f star (K.Open ∷ (tokens_of inner ++ (K.Close ∷ tokens_of more))) rest
    ∙ ap (opens_in true) (append_assoc (tokens_of inner) (K.Close ∷ tokens_of more) rest)
    ∙ inner_opens true (suc depth) true inner (K.Close ∷ (tokens_of more ++ rest)) fit.4 ∙ items_opens pairs depth false more rest fit.5
items_opens zero depth first (BarPair s f star inner more) rest fit = absurd fit
items_opens (suc pairs) depth first (BarPair s f star inner more) rest fit =
    past_sign true s _ rest ∙ past_scale true f star (K.Bar ∷ (tokens_of inner ++ (K.Bar ∷ tokens_of more))) rest
    ∙ ap (λ ts. suc (opens_in false ts)) (append_assoc (tokens_of inner) (K.Bar ∷ tokens_of more) rest)
    ∙ ap suc (inner_opens false depth true inner (K.Bar ∷ (tokens_of more ++ rest)) fit.3 ∙ items_opens pairs depth false more rest fit.4)
    ∙ (let e : suc (length (weights more) + opens_in true rest) ≡ suc (length (weights more)) + opens_in true rest = omega arith in e)

map_length : {A B : Type 0} (f : A → B) (xs : List A) → length (map f xs) ≡ length xs
map_length f [] = refl
map_length f (x ∷ xs) = ap suc (map_length f xs)

side_length : (r : Relation) (before behind : Bool) (side : Items) → length (side_faults r before behind side) ≡ length (weights side)
side_length AtMost before behind side = map_length _ (weights side)
side_length AtLeast before behind side = map_length _ (weights side)
side_length Equal before behind side = map_length _ (weights side)

side_opens : (r : Relation) (before behind : Bool) (side : Items) (rest : List Token) → IsSide side
    → opens_in true (tokens_of side ++ rest) ≡ length (side_faults r before behind side) + opens_in true rest
side_opens r before behind side rest is = items_opens most_pairs 0 true side rest is.1
    ∙ ap (λ n. n + opens_in true rest) (sym (side_length r before behind side))

others_opens : (r : Relation) (others : List Items) → AreSides others → opens_in true (others_tokens r others) ≡ length (others_faults r others)
others_opens r [] are = refl
others_opens r (side ∷ []) are = side_opens r true false side [] are.0
    ∙ (let e : length (side_faults r true false side) + 0 ≡ length (side_faults r true false side) = omega arith in e)
others_opens r (side ∷ next ∷ sides) are =
    side_opens r true true side (others_tokens r (next ∷ sides)) are.0
    ∙ ap (λ n. length (side_faults r true true side) + n) (others_opens r (next ∷ sides) are.1)
    ∙ sym (length-append (side_faults r true true side) (others_faults r (next ∷ sides)))

term_opens : (t : Term) → IsTerm t → opens_in true (term_tokens t) ≡ length (pair_faults t)
term_opens t is =
    side_opens t.relation false true t.side (others_tokens t.relation t.others) is.0
    ∙ ap (λ n. length (side_faults t.relation false true t.side) + n) (others_opens t.relation t.others (sides_from t.relation t.others is.1))
    ∙ sym (length-append (side_faults t.relation false true t.side) (others_faults t.relation t.others))

some_within : (i k : ℕ) (bs : List Bool) → position_from (λ b. b) i bs ≡ Some k → k < i + length bs
some_within i k [] is = cc
some_within i k (true ∷ bs) is = let e : i ≡ k = cc in omega (arith, e)
some_within i k (false ∷ bs) is = omega (arith, some_within (i + 1) k bs is)

first_within : (bs : List Bool) (k : ℕ) → first_true bs ≡ Some k → k < length bs
first_within bs k is = omega (arith, some_within 0 k bs (sym (position_from-zero (λ b. b) bs) ∙ is))

none_past : {A : Type 0} (xs : List A) (k : ℕ) → slice_get xs k ≡ None → length xs ≤ k
none_past [] k is = omega arith
none_past (x ∷ xs) zero is = cc
none_past (x ∷ xs) (suc k) is = omega (arith, none_past xs k is)

-- so the first faulty pair's bar is found
pub opening_found : (placed : List Placed) (pieces : List Piece) (k : ℕ) → IsTermWith (tokens_in placed) pieces
    → first_true (piece_faults pieces) ≡ Some k → slice_get (openings true placed) k ≡ None → ⊥
opening_found placed pieces k with is none =
    let faults : piece_faults pieces ≡ pair_faults with.term = ap piece_faults (sym with.pieces_are) ∙ faults_are with.term with.is_term in
    let within : k < length (pair_faults with.term) = first_within (pair_faults with.term) k (ap first_true (sym faults) ∙ is) in
    let long : length (openings true placed) ≡ length (pair_faults with.term) =
    openings_length true placed ∙ ap (opens_in true) (sym with.tokens_are) ∙ term_opens with.term with.is_term in
    absurd (omega (arith, none_past (openings true placed) k none, long, within))
