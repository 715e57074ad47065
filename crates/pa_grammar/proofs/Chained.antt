-- The rows of a term's pieces are those of the term.
use Rattle.std.proofs.Common.{◌≡◌, ℕ, List, [], ◌∷◌, ◌++◌, map, Result, refl, ap, ap₂, ◌∙◌, append_assoc}
use Rattle.pa_math.specs.Answers.{and_then}
use Rattle.pa_frac.specs.declared.wide.Wide.{Wide}
use Rattle.pa_grammar.specs.declared.token.Sign.TheVariants.{Minus}
use Rattle.pa_grammar.specs.declared.token.Relation.{Relation}
use Rattle.pa_grammar.specs.declared.token.Relation.TheVariants.{AtMost, AtLeast, Equal}
use Rattle.pa_grammar.specs.declared.machine.Piece.{Piece}
use Rattle.pa_grammar.specs.declared.machine.Piece.TheVariants as P
use Rattle.pa_grammar.specs.Grammar.{Items, End, Constant, Variable, Bracket, BarPair, Term}
use Rattle.pa_grammar.specs.Machine.{pieces_of, others_pieces, term_pieces}
use Rattle.pa_grammar.specs.Values.{Side, turned, combined_all, side_of, sides_of, comparison_rows, relation_rows, chain_rows, joined, term_rows}
use Rattle.pa_grammar.specs.Chosen.{compared, related_rows, chained_rows, chain_of, relation_in, rows_in}
use Rattle.pa_grammar.proofs.Steps.{then_then, same_then}
use Rattle.pa_grammar.proofs.Pushed.{chosen_is}
use Rattle.pa_grammar.proofs.Summed.{term_summed}

compared_is : (left right : Side) → compared left right ≡ comparison_rows left right
compared_is left right = same_then (combined_all Minus left.vector right.vector) _ _ (λ v. chosen_is (left.pairs ++ map turned right.pairs) v)

related_is : (r : Relation) (left right : Side) → related_rows r left right ≡ relation_rows r left right
related_is AtMost left right = compared_is left right
related_is AtLeast left right = compared_is right left
related_is Equal left right = ap₂ joined (compared_is left right) (compared_is right left)

chained_is : (r : Relation) (side : Side) (sides : List Side) → chained_rows r side sides ≡ chain_rows r side sides
chained_is r side [] = refl
chained_is r side (next ∷ sides) = ap₂ joined (related_is r side next) (chained_is r next sides)

-- items have no relation
pub relation_behind : (items : Items) (rest : List Piece) → relation_in (pieces_of items ++ rest) ≡ relation_in rest
relation_behind End rest = refl
relation_behind (Constant s f more) rest = relation_behind more rest
relation_behind (Variable s f star x more) rest = relation_behind more rest
relation_behind (Bracket s f star inner more) rest =
    ap relation_in (append_assoc (pieces_of inner) (P.Closing ∷ pieces_of more) rest) ∙ relation_behind inner (P.Closing ∷ (pieces_of more ++ rest))
    ∙ relation_behind more rest
relation_behind (BarPair s f star inner more) rest =
    ap relation_in (append_assoc (pieces_of inner) (P.ClosingBar ∷ pieces_of more) rest) ∙ relation_behind inner (P.ClosingBar ∷ (pieces_of more ++ rest))
    ∙ relation_behind more rest

others_same : (names : ℕ) (r : Relation) (others : List Items) (side : Side)
    → and_then (sides_of names others) (chained_rows (relation_in (others_pieces r others)) side) ≡ and_then (sides_of names others) (chain_rows r side)
others_same names r [] side = refl
others_same names r (next ∷ others) side = same_then (sides_of names (next ∷ others)) _ _ (λ sides. chained_is r side sides)

pub rows_are : (names : ℕ) (t : Term) → rows_in names (term_pieces t) ≡ term_rows names t
rows_are names t =
    ap₂ (λ (r : Relation) (sides : Result (List Side) Wide). and_then sides (chain_of r)) (relation_behind t.side (others_pieces t.relation t.others))
    (term_summed names t)
    ∙ then_then (side_of names t.side) _ _
    ∙ same_then (side_of names t.side) _ _ (λ side. then_then (sides_of names t.others) _ _ ∙ others_same names t.relation t.others side)
