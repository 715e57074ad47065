-- The faults of a term's pieces are those of its bar pairs, and each pair has its opening bar.
use Rattle.std.proofs.Common.{◌≡◌, ℕ, zero, suc, List, [], ◌∷◌, ◌++◌, map, Bool, true, false, refl, ap, ap₂, ◌∙◌, append_assoc}
use Rattle.std.proofs.lemmas.List.{append-nil}
use Rattle.pa_grammar.specs.declared.token.Relation.{Relation}
use Rattle.pa_grammar.specs.declared.token.Relation.TheVariants.{AtMost, AtLeast, Equal}
use Rattle.pa_grammar.specs.declared.machine.Piece.{Piece}
use Rattle.pa_grammar.specs.declared.machine.Piece.TheVariants as P
use Rattle.pa_grammar.specs.Grammar.{Items, End, Constant, Variable, Bracket, BarPair, Term, AreItems, AreSides, AreOthers, IsSide, IsTerm, most_pairs}
use Rattle.pa_grammar.specs.Machine.{sign_of, pieces_of, others_pieces, term_pieces}
use Rattle.pa_grammar.specs.Meaning.{scale_value, with_sign}
use Rattle.pa_grammar.specs.Values.{weights, side_faults, others_faults, pair_faults}
use Rattle.pa_grammar.specs.Faults.{has_relation, pair_fault, faults_in, piece_faults}
use Rattle.pa_grammar.proofs.Chained.{relation_behind}

-- items have no relation
has_behind : (items : Items) (rest : List Piece) → has_relation (pieces_of items ++ rest) ≡ has_relation rest
has_behind End rest = refl
has_behind (Constant s f more) rest = has_behind more rest
has_behind (Variable s f star x more) rest = has_behind more rest
has_behind (Bracket s f star inner more) rest =
    ap has_relation (append_assoc (pieces_of inner) (P.Closing ∷ pieces_of more) rest) ∙ has_behind inner (P.Closing ∷ (pieces_of more ++ rest))
    ∙ has_behind more rest
has_behind (BarPair s f star inner more) rest =
    ap has_relation (append_assoc (pieces_of inner) (P.ClosingBar ∷ pieces_of more) rest) ∙ has_behind inner (P.ClosingBar ∷ (pieces_of more ++ rest))
    ∙ has_behind more rest

-- within brackets and bars there is no bar pair
inner_faults : (r : Relation) (before : Bool) (depth : ℕ) (first : Bool) (items : Items) (rest : List Piece) → AreItems 0 depth first items
    → faults_in r before (pieces_of items ++ rest) ≡ faults_in r before rest
inner_faults r before depth first End rest fit = refl
inner_faults r before depth first (Constant s f more) rest fit = inner_faults r before depth false more rest fit.2
inner_faults r before depth first (Variable s f star x more) rest fit = inner_faults r before depth false more rest fit.2
inner_faults r before depth first (Bracket s f star inner more) rest fit =
    ap (faults_in r before) (append_assoc (pieces_of inner) (P.Closing ∷ pieces_of more) rest)
    ∙ inner_faults r before (suc depth) true inner (P.Closing ∷ (pieces_of more ++ rest)) fit.4 ∙ inner_faults r before depth false more rest fit.5
inner_faults r before depth first (BarPair s f star inner more) rest fit = absurd fit

items_faults : (r : Relation) (before : Bool) (pairs depth : ℕ) (first : Bool) (items : Items) (rest : List Piece) → AreItems pairs depth first items
    → faults_in r before (pieces_of items ++ rest) ≡ map (pair_fault r before (has_relation rest)) (weights items) ++ faults_in r before rest
items_faults r before pairs depth first End rest fit = refl
items_faults r before pairs depth first (Constant s f more) rest fit = items_faults r before pairs depth false more rest fit.2
items_faults r before pairs depth first (Variable s f star x more) rest fit = items_faults r before pairs depth false more rest fit.2
items_faults r before pairs depth first (Bracket s f star inner more) rest fit =
    ap (faults_in r before) (append_assoc (pieces_of inner) (P.Closing ∷ pieces_of more) rest)
    ∙ inner_faults r before (suc depth) true inner (P.Closing ∷ (pieces_of more ++ rest)) fit.4 ∙ items_faults r before pairs depth false more rest fit.5
items_faults r before zero depth first (BarPair s f star inner more) rest fit = absurd fit
items_faults r before (suc pairs) depth first (BarPair s f star inner more) rest fit =
    let tail : List Piece = P.ClosingBar ∷ (pieces_of more ++ rest) in
    ap (λ ps. pair_fault r before (has_relation ps) (with_sign (sign_of s) (scale_value f)) ∷ faults_in r before ps)
    (append_assoc (pieces_of inner) (P.ClosingBar ∷ pieces_of more) rest)
    ∙ ap₂ (λ b bs. pair_fault r before b (with_sign (sign_of s) (scale_value f)) ∷ bs)
    (has_behind inner tail ∙ has_behind more rest) (inner_faults r before depth true inner tail fit.3 ∙ items_faults r before pairs depth false more rest fit.4)

side_is : (r : Relation) (before behind : Bool) (side : Items) → map (pair_fault r before behind) (weights side) ≡ side_faults r before behind side
side_is AtMost before behind side = refl
side_is AtLeast before behind side = refl
side_is Equal before behind side = refl

whole_side : (r : Relation) (before : Bool) (side : Items) (rest : List Piece) → IsSide side
    → faults_in r before (pieces_of side ++ rest) ≡ side_faults r before (has_relation rest) side ++ faults_in r before rest
whole_side r before side rest is = items_faults r before most_pairs 0 true side rest is.1
    ∙ ap (λ bs. bs ++ faults_in r before rest) (side_is r before (has_relation rest) side)

others_are : (r : Relation) (before : Bool) (others : List Items) → AreSides others → faults_in r before (others_pieces r others) ≡ others_faults r others
others_are r before [] are = refl
others_are r before (side ∷ []) are = whole_side r true side [] are.0 ∙ append-nil (side_faults r true false side)
others_are r before (side ∷ next ∷ sides) are =
    whole_side r true side (others_pieces r (next ∷ sides)) are.0 ∙ ap (λ bs. side_faults r true true side ++ bs) (others_are r true (next ∷ sides) are.1)

pub sides_from : (r : Relation) (others : List Items) → AreOthers r others → AreSides others
sides_from r [] are = absurd are
sides_from r (side ∷ []) are = (are, tt)
sides_from AtMost (side ∷ next ∷ sides) are = are
sides_from AtLeast (side ∷ next ∷ sides) are = are
sides_from Equal (side ∷ next ∷ sides) are = absurd are

term_faults : (r : Relation) (side : Items) (others : List Items) → IsSide side → AreOthers r others
    → piece_faults (pieces_of side ++ others_pieces r others) ≡ side_faults r false true side ++ others_faults r others
term_faults r side [] is are = absurd are
term_faults r side (next ∷ others) is are =
    ap (λ q. faults_in q false (pieces_of side ++ others_pieces r (next ∷ others))) (relation_behind side (others_pieces r (next ∷ others)))
    ∙ whole_side r false side (others_pieces r (next ∷ others)) is
    ∙ ap (λ bs. side_faults r false true side ++ bs) (others_are r false (next ∷ others) (sides_from r (next ∷ others) are))

pub faults_are : (t : Term) → IsTerm t → piece_faults (term_pieces t) ≡ pair_faults t
faults_are t is = term_faults t.relation t.side t.others is.0 is.1
