-- The pieces of a tree add up to what the tree says.
use Rattle.std.proofs.Common.{◌≡◌, ℕ, List, [], ◌∷◌, ◌++◌, Some, None, Result, Ok, refl, ap, sym, ◌∙◌, append_assoc}
use Rattle.pa_math.specs.Answers.{and_then}
use Rattle.pa_math.specs.Rational.{ℚ}
use Rattle.pa_frac.specs.declared.wide.Wide.{Wide}
use Rattle.pa_grammar.specs.declared.token.Relation.{Relation}
use Rattle.pa_grammar.specs.declared.machine.Piece.{Piece}
use Rattle.pa_grammar.specs.declared.machine.Piece.TheVariants as P
use Rattle.pa_grammar.specs.Grammar.{Items, End, Constant, Variable, Bracket, BarPair, Term}
use Rattle.pa_grammar.specs.Machine.{sign_of, pieces_of, others_pieces, term_pieces}
use Rattle.pa_grammar.specs.Meaning.{factor_value, scale_value, with_sign}
use Rattle.pa_grammar.specs.Values.{Side, added, side_of, sides_of, with_vector, combined, combined_all, changed_at, scaled_all}
use Rattle.pa_grammar.proofs.Steps.{then_then, same_then}
use Rattle.pa_grammar.specs.Pieces.{Frame, Sum, sum_with, empty_side, summed, all_sides, sides_in}

-- the pieces of items, and what follows them
pub items_summed : (names : ℕ) (items : Items) (side : Side) (frames : List Frame) (sides : List Side) (rest : List Piece)
    → summed names (pieces_of items ++ rest) (sum_with side frames sides) ≡ and_then (added names items side) (λ s. summed names rest (sum_with s frames sides))
items_summed names End side frames sides rest = refl
items_summed names (Constant s f more) side frames sides rest =
    let changed : Result (List ℚ) Wide = changed_at names (λ q. combined (sign_of s) q (factor_value f)) side.vector in
    then_then changed (λ v. Ok (sum_with (with_vector side v) frames sides)) (λ next. summed names (pieces_of more ++ rest) next)
    ∙ same_then changed _ _ (λ v. items_summed names more (with_vector side v) frames sides rest)
    ∙ sym (then_then changed (λ v. added names more (with_vector side v)) (λ s. summed names rest (sum_with s frames sides)))
items_summed names (Variable s f star None more) side frames sides rest = items_summed names more side frames sides rest
items_summed names (Variable s f star (Some j) more) side frames sides rest =
    let changed : Result (List ℚ) Wide = changed_at j (λ q. combined (sign_of s) q (scale_value f)) side.vector in
    then_then changed (λ v. Ok (sum_with (with_vector side v) frames sides)) (λ next. summed names (pieces_of more ++ rest) next)
    ∙ same_then changed _ _ (λ v. items_summed names more (with_vector side v) frames sides rest)
    ∙ sym (then_then changed (λ v. added names more (with_vector side v)) (λ s. summed names rest (sum_with s frames sides)))
items_summed names (Bracket s f star inner more) side frames sides rest =
    let frame : Frame = record { side = side; sign = sign_of s; scale = scale_value f } in
    let inside : Result Side Wide = added names inner (empty_side names) in
    let behind : Side → Result Sum Wide = λ i.
    and_then (and_then (scaled_all (scale_value f) i.vector)
    (λ w. and_then (combined_all (sign_of s) side.vector w) (λ v. Ok (sum_with (with_vector side v) frames sides))))
    (λ next. summed names (pieces_of more ++ rest) next) in
    let after : Side → Result Side Wide = λ i. and_then (scaled_all (scale_value f) i.vector)
    (λ w. and_then (combined_all (sign_of s) side.vector w) (λ v. added names more (with_vector side v))) in
    ap (λ ps. summed names ps (sum_with (empty_side names) (frame ∷ frames) sides)) (append_assoc (pieces_of inner) (P.Closing ∷ pieces_of more) rest)
    ∙ items_summed names inner (empty_side names) (frame ∷ frames) sides (P.Closing ∷ (pieces_of more ++ rest))
    ∙ same_then inside behind (λ i. and_then (after i) (λ t. summed names rest (sum_with t frames sides)))
    (λ i. then_then (scaled_all (scale_value f) i.vector) _ _
    ∙ same_then (scaled_all (scale_value f) i.vector) _ _ (λ w. then_then (combined_all (sign_of s) side.vector w) _ _
    ∙ same_then (combined_all (sign_of s) side.vector w) _ _ (λ v. items_summed names more (with_vector side v) frames sides rest)
    ∙ sym (then_then (combined_all (sign_of s) side.vector w) (λ v. added names more (with_vector side v)) (λ t. summed names rest (sum_with t frames sides))))
    ∙ sym (then_then (scaled_all (scale_value f) i.vector) _ (λ t. summed names rest (sum_with t frames sides))))
    ∙ sym (then_then inside after (λ t. summed names rest (sum_with t frames sides)))
items_summed names (BarPair s f star inner more) side frames sides rest =
    let frame : Frame = record { side = side; sign = sign_of s; scale = scale_value f } in
    let inside : Result Side Wide = added names inner (empty_side names) in
    let kept : Side → Side = λ i. record {
      vector = side.vector;
      pairs = side.pairs ++
          (record { weight = with_sign (sign_of s) (scale_value f); inner = i.vector } ∷ []);
    } in
    ap (λ ps. summed names ps (sum_with (empty_side names) (frame ∷ frames) sides)) (append_assoc (pieces_of inner) (P.ClosingBar ∷ pieces_of more) rest)
    ∙ items_summed names inner (empty_side names) (frame ∷ frames) sides (P.ClosingBar ∷ (pieces_of more ++ rest))
    ∙ same_then inside _ _ (λ i. items_summed names more (kept i) frames sides rest)
    ∙ sym (then_then inside (λ i. added names more (kept i)) (λ t. summed names rest (sum_with t frames sides)))

others_summed : (names : ℕ) (r : Relation) (others : List Items) (side : Side) (sides : List Side)
    → and_then (summed names (others_pieces r others) (sum_with side [] sides)) (λ sum. Ok (all_sides sum))
    ≡ and_then (sides_of names others) (λ ss. Ok (sides ++ (side ∷ ss)))
others_summed names r [] side sides = refl
others_summed names r (next ∷ others) side sides =
    ap (λ x. and_then x (λ sum. Ok (all_sides sum))) (items_summed names next (empty_side names) [] (sides ++ (side ∷ [])) (others_pieces r others))
    ∙ then_then (side_of names next) _ _
    ∙ same_then (side_of names next) _ _ (λ s. others_summed names r others s (sides ++ (side ∷ []))
    ∙ same_then (sides_of names others) _ _ (λ ss. ap Ok (append_assoc sides (side ∷ []) (s ∷ ss)))
    ∙ sym (then_then (sides_of names others) (λ ss. Ok (s ∷ ss)) (λ ts. Ok (sides ++ (side ∷ ts)))))
    ∙ sym (then_then (side_of names next) _ _)

-- the pieces of a term give its sides
pub term_summed : (names : ℕ) (t : Term)
    → sides_in names (term_pieces t) ≡ and_then (side_of names t.side) (λ side. and_then (sides_of names t.others) (λ sides. Ok (side ∷ sides)))
term_summed names t =
    ap (λ x. and_then x (λ sum. Ok (all_sides sum))) (items_summed names t.side (empty_side names) [] [] (others_pieces t.relation t.others))
    ∙ then_then (side_of names t.side) _ _
    ∙ same_then (side_of names t.side) _ _ (λ s. others_summed names t.relation t.others s [])
