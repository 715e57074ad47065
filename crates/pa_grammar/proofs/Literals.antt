-- Where no number is refused, each factor has a value that 126 bits hold.
use Rattle.std.proofs.Common.{◌≡◌, ℕ, zero, suc, append_assoc, ◌<◌, Bool, true, false, List, [], ◌∷◌, ◌++◌, Option, Some, None, ap, sym, ◌∙◌, arith, subst}
use Rattle.std.specs.Prelude.{◌==◌, ◌&&◌, ◌||◌}
use Rattle.std.proofs.lemmas.Bool.{cond_both, cond-true, cond-false, eqb-false}
use Rattle.std.proofs.lemmas.List.{append-nil}
use Rattle.std.proofs.lemmas.List.Elements.{All-nil, All-cons}
use Rattle.pa_grammar.specs.declared.token.Sign.{Sign}
use Rattle.pa_grammar.specs.declared.token.Relation.{Relation}
use Rattle.pa_grammar.specs.declared.token.Relation.TheVariants.{AtMost, AtLeast, Equal}
use Rattle.pa_grammar.specs.declared.token.Decimal.{Decimal}
use Rattle.pa_grammar.specs.declared.token.Token.{Token}
use Rattle.pa_grammar.specs.declared.token.Token.TheVariants.{Signed, Star, Open, Close, Bar, Relates, Named}
use Rattle.pa_grammar.specs.declared.token.Placed.{Placed}
use Rattle.pa_grammar.specs.declared.machine.Factor.{Factor}
use Rattle.pa_grammar.specs.declared.machine.Factor.TheVariants.{Whole, Ratio, Known}
use Rattle.pa_grammar.specs.declared.machine.Piece.{Piece}
use Rattle.pa_grammar.specs.declared.machine.Piece.TheVariants as P
use Rattle.pa_grammar.specs.declared.value.Value.{Value}
use Rattle.pa_grammar.specs.Grammar.{Items, End, Constant, Variable, Bracket, BarPair, Term, sign_tokens, factor_tokens, star_tokens, scale_tokens, tokens_of}
use Rattle.pa_grammar.specs.Grammar.{others_tokens, term_tokens, IsFactor, IsScale, AreItems, AreSides, AreOthers, IsPlain, IsTerm, most_pairs}
use Rattle.pa_grammar.specs.Machine.{pieces_of, others_pieces, term_pieces}
use Rattle.pa_grammar.specs.Limits.{IsValued, IsWhole, IsDivisor, HasFactorValue, HasScaleValue, HasValue, AllHaveValues}
use Rattle.pa_grammar.specs.Parsed.{tokens_in, IsTermWith, IsPlainWith}
use Rattle.pa_grammar.specs.Refused.{is_zero, is_missing, is_bad_literal, is_slash, first_by, literal_fault}
use Rattle.pa_grammar.specs.Sized.{IsSizedValue, AreSized}
use Rattle.pa_grammar.specs.Value.{value_tokens, IsWritten, IsValue}

-- no number is refused
abbrev pub Clean : Bool → List Token → Type 0
Clean b [] = Unit {0}
Clean b (t ∷ ts) = (is_bad_literal b t ≡ false) × Clean (is_slash t) ts

pub clean_tokens : (b : Bool) (placed : List Placed) → first_by is_bad_literal b placed ≡ None → Clean b (tokens_in placed)
clean_tokens b [] is = tt
clean_tokens b (p ∷ ps) is =
    cond_both {A = Bool} (is_bad_literal b p.token) true false (λ _. Clean b (tokens_in (p ∷ ps)))
    (λ bad. cc (cond-true (is_bad_literal b p.token) (Some p.at) (first_by is_bad_literal (is_slash p.token) ps) bad, is))
    (λ good. (
      good,
      clean_tokens (is_slash p.token) ps (sym (cond-false (is_bad_literal b p.token) (Some p.at) (first_by is_bad_literal (is_slash p.token)
          ps) good) ∙ is),
    ))

valued : (b plain : Bool) (o : Option Decimal) → IsSizedValue plain o → (is_missing o || (b && is_zero o)) ≡ false → IsValued o
valued b plain None sized good = cc good
valued b plain (Some d) sized good = (sized.0, sized.1)

whole_valued : (b plain : Bool) (o : Option Decimal) → plain ≡ true → IsSizedValue plain o → (is_missing o || (b && is_zero o)) ≡ false → IsWhole o
whole_valued b plain None is sized good = cc good
whole_valued b plain (Some d) is sized good = (sized.0, sized.2 is)

some_digits : (n : ℕ) → (n == 0) ≡ false → 0 < n
some_digits n other = omega (arith, eqb-false n 0 other)

divisor_valued : (plain : Bool) (o : Option Decimal) → plain ≡ true → IsSizedValue plain o → (is_missing o || (true && is_zero o)) ≡ false → IsDivisor o
divisor_valued plain None is sized good = cc good
divisor_valued plain (Some d) is sized good = (some_digits d.digits good, sized.0, sized.2 is)

-- a factor, and what follows it
pub factor_has : (b : Bool) (f : Factor) (rest : List Token) → IsFactor f → AreSized (factor_tokens f ++ rest) → Clean b (factor_tokens f ++ rest)
    → HasFactorValue f × AreSized rest × Clean false rest
factor_has b (Whole n) rest fits sized clean = (valued b n.plain n.value sized.0 clean.0, sized.1, clean.1)
factor_has b (Ratio n d) rest fits sized clean =
    ((whole_valued b n.plain n.value fits.0 sized.0 clean.0, divisor_valued d.plain d.value fits.1 sized.1.1.0 clean.1.1.0), sized.1.1.1, clean.1.1.1)
factor_has b (Known c) rest fits sized clean = (sized.0, sized.1, clean.1)

written_fits : (f : Factor) → IsWritten f → IsFactor f
written_fits (Whole n) fits = tt
written_fits (Ratio n d) fits = fits
written_fits (Known c) fits = tt

signed_has : (s : Option Sign) (f : Factor) → IsFactor f → AreSized (sign_tokens s ++ (factor_tokens f ++ []))
    → Clean false (sign_tokens s ++ (factor_tokens f ++ [])) → HasFactorValue f
signed_has None f fits sized clean = (factor_has false f [] fits sized clean).0
signed_has (Some s) f fits sized clean = (factor_has false f [] fits sized.1 clean.1).0

-- a value's factor
pub value_has : (v : Value) (tokens : List Token) → IsValue v → value_tokens v ≡ tokens → AreSized tokens → Clean false tokens → HasFactorValue v.factor
value_has v tokens fits same sized clean =
    let longer : tokens ≡ sign_tokens v.sign ++ (factor_tokens v.factor ++ []) = sym same ∙ ap (λ xs. sign_tokens v.sign ++ xs) (sym (append-nil
    (factor_tokens v.factor))) in
    signed_has v.sign v.factor (written_fits v.factor fits) (subst AreSized longer sized) (subst (Clean false) longer clean)

-- ---- pieces

-- tokens that are left, of which no number is refused
record Left (tokens : List Token) : Type 0 where
  sized : AreSized tokens
  behind_slash : Bool
  clean : Clean behind_slash tokens

left_next : (t : Token) (ts : List Token) → Left (t ∷ ts) → Left ts
left_next t ts left = record { sized = left.sized.1; behind_slash = is_slash t; clean = left.clean.1 }

left_sign : (s : Option Sign) (ts : List Token) → Left (sign_tokens s ++ ts) → Left ts
left_sign None ts left = left
left_sign (Some s) ts left = left_next (Signed s) ts left

left_factor : (f : Factor) (ts : List Token) → IsFactor f → Left (factor_tokens f ++ ts) → HasFactorValue f × Left ts
left_factor f ts fits left =
    let has = factor_has left.behind_slash f ts fits left.sized left.clean in
    (has.0, record { sized = has.1; behind_slash = false; clean = has.2 })

left_star : (star : Bool) (ts : List Token) → Left (star_tokens star ++ ts) → Left ts
left_star true ts left = left_next Star ts left
left_star false ts left = left

left_scale : (f : Option Factor) (star : Bool) (ts : List Token) → IsScale f → Left (scale_tokens f star ++ ts) → HasScaleValue f × Left ts
left_scale None star ts fits left = (tt, left)
left_scale (Some f) star ts fits left =
    let own = left_factor f (star_tokens star ++ ts) fits (subst Left (append_assoc (factor_tokens f) (star_tokens star) ts) left) in
    (own.0, left_star star ts own.1)

abbrev Have : List Piece → Type 0
Have [] = Unit {0}
Have (p ∷ ps) = HasValue p × Have ps

have_both : (ps qs : List Piece) → Have ps → Have qs → Have (ps ++ qs)
have_both [] qs hp hq = hq
have_both (p ∷ ps) qs hp hq = (hp.0, have_both ps qs hp.1 hq)

all_have : (ps : List Piece) → Have ps → AllHaveValues ps
all_have [] have = All-nil HasValue
all_have (p ∷ ps) have = All-cons HasValue p ps have.0 (all_have ps have.1)

regroup : (a b c d : List Token) → (a ++ (b ++ c)) ++ d ≡ a ++ (b ++ (c ++ d))
regroup a b c d = simp append_assoc

-- the factors of items have values, and what follows the items is left
items_have : (items : Items) (pairs depth : ℕ) (first : Bool) (rest : List Token) → AreItems pairs depth first items → Left (tokens_of items ++ rest)
    → Have (pieces_of items) × Left rest
items_have End pairs depth first rest fit left = (tt, left)
items_have (Constant s f more) pairs depth first rest fit left =
    let own = left_factor f (tokens_of more ++ rest) fit.1
    (left_sign s (factor_tokens f ++ (tokens_of more ++ rest)) (subst Left (regroup (sign_tokens s) (factor_tokens f) (tokens_of more) rest) left)) in
    let further = items_have more pairs depth false rest fit.2 own.1 in
    ((own.0, further.0), further.1)
items_have (Variable s f star x more) pairs depth first rest fit left =
    let own = left_scale f star (Named x ∷ (tokens_of more ++ rest)) fit.1
    (left_sign s (scale_tokens f star ++ (Named x ∷ (tokens_of more ++ rest))) (subst Left (regroup (sign_tokens s) (scale_tokens f star) (Named x ∷
    tokens_of more) rest) left)) in
    let further = items_have more pairs depth false rest fit.2 (left_next (Named x) (tokens_of more ++ rest) own.1) in
    ((own.0, further.0), further.1)
items_have (Bracket s f star inner more) pairs depth first rest fit left =
    let behind : List Token = Close ∷ (tokens_of more ++ rest) in
    let own = left_scale f star (Open ∷ ((tokens_of inner ++ (Close ∷ tokens_of more)) ++ rest)) fit.1
    (left_sign s (scale_tokens f star ++ (Open ∷ ((tokens_of inner ++ (Close ∷ tokens_of more)) ++ rest)))
    (subst Left (regroup (sign_tokens s) (scale_tokens f star) (Open ∷ (tokens_of inner ++ (Close ∷ tokens_of more))) rest) left)) in
    let within = items_have inner 0 (suc depth) true behind fit.4
    (subst Left (append_assoc (tokens_of inner) (Close ∷ tokens_of more) rest) (left_next Open ((tokens_of inner ++ (Close ∷ tokens_of more)) ++ rest)
    own.1)) in
    let further = items_have more pairs depth false rest fit.5 (left_next Close (tokens_of more ++ rest) within.1) in
    ((own.0, have_both (pieces_of inner) (P.Closing ∷ pieces_of more) within.0 (tt, further.0)), further.1)
items_have (BarPair s f star inner more) zero depth first rest fit left = absurd fit
items_have (BarPair s f star inner more) (suc pairs) depth first rest fit left =
    let behind : List Token = Bar ∷ (tokens_of more ++ rest) in
    let own = left_scale f star (Bar ∷ ((tokens_of inner ++ (Bar ∷ tokens_of more)) ++ rest)) fit.1
    (left_sign s (scale_tokens f star ++ (Bar ∷ ((tokens_of inner ++ (Bar ∷ tokens_of more)) ++ rest)))
    (subst Left (regroup (sign_tokens s) (scale_tokens f star) (Bar ∷ (tokens_of inner ++ (Bar ∷ tokens_of more))) rest) left)) in
    let within = items_have inner 0 depth true behind fit.3
    (subst Left (append_assoc (tokens_of inner) (Bar ∷ tokens_of more) rest) (left_next Bar ((tokens_of inner ++ (Bar ∷ tokens_of more)) ++ rest) own.1)) in
    let further = items_have more pairs depth false rest fit.4 (left_next Bar (tokens_of more ++ rest) within.1) in
    ((own.0, have_both (pieces_of inner) (P.ClosingBar ∷ pieces_of more) within.0 (tt, further.0)), further.1)

all_sides : (r : Relation) (others : List Items) → AreOthers r others → AreSides others
all_sides r [] fit = absurd fit
all_sides r (side ∷ []) fit = (fit, tt)
all_sides AtMost (side ∷ (next ∷ sides)) fit = fit
all_sides AtLeast (side ∷ (next ∷ sides)) fit = fit
all_sides Equal (side ∷ (next ∷ sides)) fit = absurd fit

others_have : (r : Relation) (others : List Items) → AreSides others → Left (others_tokens r others) → Have (others_pieces r others)
others_have r [] fit left = tt
others_have r (side ∷ sides) fit left =
    let own = items_have side most_pairs 0 true (others_tokens r sides) fit.0.1 (left_next (Relates r) (tokens_of side ++ others_tokens r sides) left) in
    (tt, have_both (pieces_of side) (others_pieces r sides) own.0 (others_have r sides fit.1 own.1))

left_from : (placed : List Placed) (tokens : List Token) → tokens ≡ tokens_in placed → AreSized (tokens_in placed) → literal_fault placed ≡ None → Left tokens
left_from placed tokens same sized none = subst Left (sym same) (record { sized = sized; behind_slash = false; clean = clean_tokens false placed none })

-- the factors of a term without a refused number have values
pub term_has_values : (placed : List Placed) (t : Term) → IsTerm t → term_tokens t ≡ tokens_in placed → AreSized (tokens_in placed)
    → literal_fault placed ≡ None → AllHaveValues (term_pieces t)
term_has_values placed t fit same sized none =
    let own = items_have t.side most_pairs 0 true (others_tokens t.relation t.others) fit.0.1 (left_from placed (term_tokens t) same sized none) in
    all_have (term_pieces t) (have_both (pieces_of t.side) (others_pieces t.relation t.others) own.0 (others_have t.relation t.others (all_sides t.relation
    t.others fit.1) own.1))

-- so have those of a plain
pub plain_has_values : (placed : List Placed) (items : Items) → IsPlain items → tokens_of items ≡ tokens_in placed → AreSized (tokens_in placed)
    → literal_fault placed ≡ None → AllHaveValues (pieces_of items)
plain_has_values placed items fit same sized none =
    all_have (pieces_of items) (items_have items 0 0 true [] fit.1 (left_from placed (tokens_of items ++ []) (append-nil (tokens_of items)
    ∙ same) sized none)).0

-- so have those of pieces that are read without a refused number
pub pieces_have_values : (placed : List Placed) (pieces : List Piece) → IsTermWith (tokens_in placed) pieces → None ≡ literal_fault placed
    → AreSized (tokens_in placed) → AllHaveValues pieces
pieces_have_values placed pieces with none sized =
    subst AllHaveValues with.pieces_are (term_has_values placed with.term with.is_term with.tokens_are sized (sym none))

pub plain_pieces_have_values : (placed : List Placed) (pieces : List Piece) → IsPlainWith (tokens_in placed) pieces → None ≡ literal_fault placed
    → AreSized (tokens_in placed) → AllHaveValues pieces
plain_pieces_have_values placed pieces with none sized =
    subst AllHaveValues with.pieces_are (plain_has_values placed with.items with.is_plain with.tokens_are sized (sym none))
