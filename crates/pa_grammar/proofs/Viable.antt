-- Which tokens begin a text of the grammar: those that can be taken, one after another.
use Rattle.std.proofs.Common.{◌≡◌, ℕ, zero, suc, List, [], ◌∷◌, ◌++◌, Bool, true, false, Option, Some, None, refl, ap, sym, ◌∙◌, subst}
use Rattle.pa_grammar.specs.declared.token.Sign.{Sign}
use Rattle.pa_grammar.specs.declared.token.Relation.{Relation}
use Rattle.pa_grammar.specs.declared.token.Relation.TheVariants.{AtMost}
use Rattle.pa_grammar.specs.declared.token.Numeral.{Numeral}
use Rattle.pa_grammar.specs.declared.token.Token.{Token}
use Rattle.pa_grammar.specs.declared.token.Token.TheVariants.{Close, Bar, Relates, Named, Number}
use Rattle.pa_grammar.specs.declared.machine.Factor.{Factor}
use Rattle.pa_grammar.specs.declared.machine.Piece.{Piece}
use Rattle.pa_grammar.specs.declared.machine.Piece.TheVariants as P
use Rattle.pa_grammar.specs.declared.machine.Mode.{Mode}
use Rattle.pa_grammar.specs.declared.machine.Mode.TheVariants.{Want, After, Over, Starred, Done}
use Rattle.pa_grammar.specs.declared.machine.Chain.{Chain}
use Rattle.pa_grammar.specs.declared.machine.Chain.TheVariants.{Starts, Rises, Falls, Ends}
use Rattle.pa_grammar.specs.declared.machine.State.{State}
use Rattle.pa_grammar.specs.Grammar.{Items, Term, IsTerm, IsPlain, TermTokens, PlainTokens, Begins, term_tokens, tokens_of, AreSome, AreItems, AreOthers}
use Rattle.pa_grammar.specs.Grammar.{most_pairs}
use Rattle.pa_grammar.specs.Machine.{sign_of, Move, step, reads, runs, match_move, term_start, plain_start, term_pieces, pieces_of}
use Rattle.std.proofs.lemmas.List.{append-nil}
use Rattle.pa_grammar.proofs.Options.{map_is}
use Rattle.pa_grammar.proofs.Sound.{reads_sound, FitUps, FitsSide, above_tokens, above_pieces}
use Rattle.pa_grammar.proofs.Complete.{at, Stops, settles, before, moved_on, term_read, plain_read}

-- a text is read from this state
abbrev pub IsRead : State → List Token → Type 0
IsRead state tokens = (pieces : List Piece) × (reads state tokens ≡ Some pieces)

abbrev IsSome : Option (List Piece) → Type 0
IsSome o = (pieces : List Piece) × (o ≡ Some pieces)

abbrev pub CanEnd : State → Type 0
CanEnd state = (more : List Token) × IsRead state more

abbrev plain_number : Numeral
plain_number = record { plain = true; value = None }

before_is_read : (front : List Piece) (state : State) (tokens : List Token) (o : Option (List Piece)) → IsRead state tokens
    → o ≡ before front (reads state tokens) → (pieces : List Piece) × (o ≡ Some pieces)
before_is_read front state tokens o read e = (front ++ read.0, e ∙ ap (before front) read.1)

-- one token that is taken in front
one_more : (state next : State) (front : List Piece) (token : Token) → step state token ≡ Some (front, next) → CanEnd next → CanEnd state
one_more state next front token e can = (token ∷ can.0, before_is_read front next can.0 (reads state (token ∷ can.0)) can.1 (ap (λ m. moved_on m can.0) e))

-- ---- each state can end

record EndsAt (depth : ℕ) (barred : Bool) (pairs : ℕ) (chain : Chain) : Type 0 where
  more : List Token
  read : IsRead (at Done depth barred pairs chain) more
  stops : Stops barred more

chain_ends : (pairs : ℕ) (chain : Chain) → EndsAt zero false pairs chain
chain_ends pairs Starts = record { more = Relates AtMost ∷ Named None ∷ []; read = (_, refl); stops = tt }
chain_ends pairs Rises = record { more = []; read = ([], refl); stops = tt }
chain_ends pairs Falls = record { more = []; read = ([], refl); stops = tt }
chain_ends pairs Ends = record { more = []; read = ([], refl); stops = tt }

done_ends : (depth : ℕ) (barred : Bool) (pairs : ℕ) (chain : Chain) → EndsAt depth barred pairs chain
done_ends (suc depth) barred pairs chain =
    let rest = done_ends depth barred pairs chain in
    record { more = Close ∷ rest.more; read = before_is_read (P.Closing ∷ []) (at Done depth barred pairs chain) rest.more _ rest.read refl; stops = tt }
done_ends zero true pairs chain =
    let rest = chain_ends pairs chain in
    record { more = Bar ∷ rest.more; read = before_is_read (P.ClosingBar ∷ []) (at Done zero false pairs chain) rest.more _ rest.read refl; stops = refl }
done_ends zero false pairs chain = chain_ends pairs chain

after_ends : (s : Option Sign) (f : Factor) (depth : ℕ) (barred : Bool) (pairs : ℕ) (chain : Chain) → CanEnd (at (After s f) depth barred pairs chain)
after_ends s f depth barred pairs chain =
    let rest = done_ends depth barred pairs chain in (
      rest.more,
      before_is_read (P.Constant (sign_of s) f ∷ []) (at Done depth barred pairs chain) rest.more _ rest.read
          (settles s f depth barred pairs chain rest.more rest.stops),
    )

done_can_end : (depth : ℕ) (barred : Bool) (pairs : ℕ) (chain : Chain) → CanEnd (at Done depth barred pairs chain)
done_can_end depth barred pairs chain = let rest = done_ends depth barred pairs chain in (rest.more, rest.read)

mode_ends : (mode : Mode) (depth : ℕ) (barred : Bool) (pairs : ℕ) (chain : Chain) → CanEnd (at mode depth barred pairs chain)
mode_ends (Want s) depth barred pairs chain = one_more (at (Want s) depth barred pairs chain) (at Done depth barred pairs chain) _ (Named None) refl
    (done_can_end depth barred pairs chain)
mode_ends (After s f) depth barred pairs chain = after_ends s f depth barred pairs chain
mode_ends (Over s n) depth barred pairs chain = one_more (at (Over s n) depth barred pairs chain) _ _ (Number plain_number) refl
    (after_ends s _ depth barred pairs chain)
mode_ends (Starred s f) depth barred pairs chain = one_more (at (Starred s f) depth barred pairs chain) (at Done depth barred pairs chain) _
    (Named None) refl (done_can_end depth barred pairs chain)
mode_ends Done depth barred pairs chain = done_can_end depth barred pairs chain

-- ---- what can be taken goes on to a text, and what goes on to a text can be taken

taken_by : (move : Move) (tokens : List Token) → ((state : State) → runs state tokens ≡ true → (more : List Token) × IsRead state (tokens ++ more))
    → match_move move (λ m. runs m.1 tokens) ≡ true → (more : List Token) × IsSome (moved_on move (tokens ++ more))
taken_by None tokens further takes = cc takes
taken_by (Some m) tokens further takes =
    let rest = further m.1 takes in
    (rest.0, before_is_read m.0 m.1 (tokens ++ rest.0) _ rest.1 refl)

pub taken_goes_on : (tokens : List Token) (state : State) → runs state tokens ≡ true → (more : List Token) × IsRead state (tokens ++ more)
taken_goes_on [] state takes = mode_ends state.mode state.context.depth state.context.barred state.context.pairs state.context.chain
taken_goes_on (token ∷ tokens) state takes = taken_by (step state token) tokens (λ next. taken_goes_on tokens next) takes

read_by : (move : Move) (tokens more : List Token) (pieces : List Piece) → ((state : State) → IsRead state (tokens ++ more) → runs state tokens ≡ true)
    → moved_on move (tokens ++ more) ≡ Some pieces → match_move move (λ m. runs m.1 tokens) ≡ true
read_by None tokens more pieces further is = cc is
read_by (Some m) tokens more pieces further is =
    let rest = map_is (λ ps. m.0 ++ ps) (reads m.1 (tokens ++ more)) pieces is in
    further m.1 (rest.0, rest.1)

pub read_is_taken : (tokens more : List Token) (state : State) → IsRead state (tokens ++ more) → runs state tokens ≡ true
read_is_taken [] more state read = refl
read_is_taken (token ∷ tokens) more state read = read_by (step state token) tokens more read.0 (λ next. read_is_taken tokens more next) read.1

-- ---- terms and plains

-- tokens with these pieces are a term's
pub record ReadTerm (tokens : List Token) (pieces : List Piece) : Type 0 where
  pub term : Term
  pub is_term : IsTerm term
  pub tokens_are : term_tokens term ≡ tokens
  pub pieces_are : term_pieces term ≡ pieces

pub record ReadPlain (tokens : List Token) (pieces : List Piece) : Type 0 where
  pub items : Items
  pub is_plain : IsPlain items
  pub tokens_are : tokens_of items ≡ tokens
  pub pieces_are : pieces_of items ≡ pieces

term_with : (tokens : List Token) (pieces : List Piece) (items : Items) (ups : List Items) (side : Option Items) (r : Relation) (others : List Items)
    → tokens ≡ tokens_of items ++ above_tokens ups side r others → pieces ≡ pieces_of items ++ above_pieces ups side r others
    → AreSome items → AreItems most_pairs 0 true items → FitUps zero false most_pairs ups → FitsSide false most_pairs side → AreOthers r others
    → ReadTerm tokens pieces
term_with tokens pieces items (up ∷ ups) side r others is_tokens is_pieces some fit ups_fit side_fits others_fit = absurd ups_fit
term_with tokens pieces items [] (Some side) r others is_tokens is_pieces some fit ups_fit side_fits others_fit = absurd side_fits
term_with tokens pieces items [] None r others is_tokens is_pieces some fit ups_fit side_fits others_fit = record {
  term = record { relation = r; side = items; others = others };
  is_term = ((some, fit), others_fit);
  tokens_are = sym is_tokens;
  pieces_are = sym is_pieces;
}

pub read_is_term : (tokens : List Token) (pieces : List Piece) → reads term_start tokens ≡ Some pieces → ReadTerm tokens pieces
read_is_term tokens pieces is =
    let rest = reads_sound tokens term_start pieces tt is in
    term_with tokens pieces rest.items rest.ups rest.side rest.relation rest.others rest.tokens_are rest.pieces_are rest.items_fit.0 rest.items_fit.1
    rest.ups_fit rest.side_fits rest.others_fit

plain_with : (tokens : List Token) (pieces : List Piece) (items : Items) (ups : List Items) (side : Option Items) (r : Relation) (others : List Items)
    → tokens ≡ tokens_of items ++ above_tokens ups side r others → pieces ≡ pieces_of items ++ above_pieces ups side r others
    → AreSome items → AreItems 0 0 true items → FitUps zero false 0 ups → FitsSide false 0 side → others ≡ [] → ReadPlain tokens pieces
plain_with tokens pieces items (up ∷ ups) side r others is_tokens is_pieces some fit ups_fit side_fits others_fit = absurd ups_fit
plain_with tokens pieces items [] (Some side) r others is_tokens is_pieces some fit ups_fit side_fits others_fit = absurd side_fits
plain_with tokens pieces items [] None r (other ∷ others) is_tokens is_pieces some fit ups_fit side_fits others_fit = cc others_fit
plain_with tokens pieces items [] None r [] is_tokens is_pieces some fit ups_fit side_fits others_fit = record {
  items = items;
  is_plain = (some, fit);
  tokens_are = sym (is_tokens ∙ append-nil (tokens_of items));
  pieces_are = sym (is_pieces ∙ append-nil (pieces_of items));
}

pub read_is_plain : (tokens : List Token) (pieces : List Piece) → reads plain_start tokens ≡ Some pieces → ReadPlain tokens pieces
read_is_plain tokens pieces is =
    let rest = reads_sound tokens plain_start pieces tt is in
    plain_with tokens pieces rest.items rest.ups rest.side rest.relation rest.others rest.tokens_are rest.pieces_are rest.items_fit.0 rest.items_fit.1
    rest.ups_fit rest.side_fits rest.others_fit

-- a term begins with exactly those tokens that can be taken
pub begins_is_taken : (tokens : List Token) → Begins TermTokens tokens → runs term_start tokens ≡ true
begins_is_taken tokens begins =
    let Q : List Token → Type 0 = λ all. reads term_start all ≡ Some (term_pieces begins.1.0) in
    read_is_taken tokens begins.0 term_start (term_pieces begins.1.0, subst Q begins.1.2 (term_read begins.1.0 begins.1.1))

pub taken_begins : (tokens : List Token) → runs term_start tokens ≡ true → Begins TermTokens tokens
taken_begins tokens takes =
    let on = taken_goes_on tokens term_start takes in
    let read = read_is_term (tokens ++ on.0) on.1.0 on.1.1 in
    (on.0, (read.term, read.is_term, read.tokens_are))

pub begins_plain_is_taken : (tokens : List Token) → Begins PlainTokens tokens → runs plain_start tokens ≡ true
begins_plain_is_taken tokens begins =
    let Q : List Token → Type 0 = λ all. reads plain_start all ≡ Some (pieces_of begins.1.0) in
    read_is_taken tokens begins.0 plain_start (pieces_of begins.1.0, subst Q begins.1.2 (plain_read begins.1.0 begins.1.1))

pub taken_begins_plain : (tokens : List Token) → runs plain_start tokens ≡ true → Begins PlainTokens tokens
taken_begins_plain tokens takes =
    let on = taken_goes_on tokens plain_start takes in
    let read = read_is_plain (tokens ++ on.0) on.1.0 on.1.1 in
    (on.0, (read.items, read.is_plain, read.tokens_are))
