-- What is in the grammar is read.
use Rattle.std.proofs.Common.{◌≡◌, ℕ, zero, suc, List, [], ◌∷◌, ◌++◌, Bool, true, false, Option, Some, None, refl, ap, sym, ◌∙◌, append_assoc}
use Rattle.std.specs.Prelude.{nat_lt, if◌then◌else◌, option_map, option_and_then}
use Rattle.std.proofs.lemmas.Bool.{cond-true, lt-ltb}
use Rattle.std.proofs.lemmas.List.{append-nil}
use Rattle.pa_grammar.specs.declared.token.Sign.{Sign}
use Rattle.pa_grammar.specs.declared.token.Relation.{Relation}
use Rattle.pa_grammar.specs.declared.token.Relation.TheVariants.{AtMost, AtLeast, Equal}
use Rattle.pa_grammar.specs.declared.token.Token.{Token}
use Rattle.pa_grammar.specs.declared.token.Token.TheVariants.{Signed, Star, Slash, Open, Close, Bar, Relates, Named, Number, Const, Bad}
use Rattle.pa_grammar.specs.declared.machine.Factor.{Factor}
use Rattle.pa_grammar.specs.declared.machine.Factor.TheVariants.{Whole, Ratio, Known}
use Rattle.pa_grammar.specs.declared.machine.Piece.{Piece}
use Rattle.pa_grammar.specs.declared.machine.Piece.TheVariants as P
use Rattle.pa_grammar.specs.declared.machine.Mode.{Mode}
use Rattle.pa_grammar.specs.declared.machine.Mode.TheVariants.{Want, After, Over, Starred, Done}
use Rattle.pa_grammar.specs.declared.machine.Chain.{Chain}
use Rattle.pa_grammar.specs.declared.machine.Chain.TheVariants.{Starts, Rises, Falls, Ends}
use Rattle.pa_grammar.specs.declared.machine.State.{State}
use Rattle.pa_grammar.specs.Grammar.{Items, End, Constant, Variable, Bracket, BarPair, Term, sign_tokens, factor_tokens, scale_tokens, tokens_of}
use Rattle.pa_grammar.specs.Grammar.{others_tokens, term_tokens, IsLead, IsFactor, IsScale, AreSome, AreItems, IsSide, IsPlain, IsTerm, most_open, most_pairs}
use Rattle.pa_grammar.specs.Machine.{sign_of, Move, pieces_of, others_pieces, term_pieces, tailed, closed, bar_closed, linked, related_to, related, may_end}
use Rattle.pa_grammar.specs.Machine.{reads, term_start, plain_start}
use Rattle.pa_grammar.proofs.Sound.{room, FitOthers}

abbrev pub at : Mode → ℕ → Bool → ℕ → Chain → State
at mode depth barred pairs chain = record { mode = mode; context = record { depth = depth; barred = barred; pairs = pairs; chain = chain } }

abbrev pub before : List Piece → Option (List Piece) → Option (List Piece)
before front o = option_map (λ ps. front ++ ps) o

-- what a move and the tokens after it give
abbrev pub moved_on : Move → List Token → Option (List Piece)
moved_on move tokens = option_and_then (λ (m : List Piece × State). before m.0 (reads m.1 tokens)) move

before_nothing : (o : Option (List Piece)) → before [] o ≡ o
before_nothing None = refl
before_nothing (Some ps) = refl

before_twice : (a b : List Piece) (o : Option (List Piece)) → before a (before b o) ≡ before (a ++ b) o
before_twice a b None = refl
before_twice a b (Some ps) = ap Some (sym (append_assoc a b ps))

-- the tokens at which an item ends
abbrev pub Stops : Bool → List Token → Type 0
Stops barred [] = Unit {0}
Stops barred (Signed s ∷ tokens) = Unit {0}
Stops barred (Close ∷ tokens) = Unit {0}
Stops barred (Relates r ∷ tokens) = Unit {0}
Stops barred (Bar ∷ tokens) = barred ≡ true
Stops barred (Star ∷ tokens) = ⊥
Stops barred (Slash ∷ tokens) = ⊥
Stops barred (Open ∷ tokens) = ⊥
Stops barred (Named x ∷ tokens) = ⊥
Stops barred (Number n ∷ tokens) = ⊥
Stops barred (Const c ∷ tokens) = ⊥
Stops barred (Bad ∷ tokens) = ⊥

-- ---- a number alone, at its end

end_settles : (b : Bool) (p : Piece) → (if b then Some (p ∷ []) else None) ≡ before (p ∷ []) (if b then Some [] else None)
end_settles true p = refl
end_settles false p = refl

close_settles : (p : Piece) (depth : ℕ) (barred : Bool) (pairs : ℕ) (chain : Chain) (tokens : List Token)
    → moved_on (closed (p ∷ []) depth barred pairs chain) tokens ≡ before (p ∷ []) (moved_on (closed [] depth barred pairs chain) tokens)
close_settles p zero barred pairs chain tokens = refl
close_settles p (suc depth) barred pairs chain tokens = sym (before_twice (p ∷ []) (P.Closing ∷ []) (reads (at Done depth barred pairs chain) tokens))

bar_settles : (p : Piece) (depth : ℕ) (barred : Bool) (pairs : ℕ) (chain : Chain) (tokens : List Token)
    → moved_on (bar_closed (p ∷ []) depth barred pairs chain) tokens ≡ before (p ∷ []) (moved_on (bar_closed [] depth barred pairs chain) tokens)
bar_settles p (suc depth) barred pairs chain tokens = refl
bar_settles p zero false pairs chain tokens = refl
bar_settles p zero true pairs chain tokens = sym (before_twice (p ∷ []) (P.ClosingBar ∷ []) (reads (at Done zero false pairs chain) tokens))

link_settles : (p : Piece) (r : Relation) (link : Option Chain) (tokens : List Token) → moved_on (related_to (p ∷ []) r link) tokens ≡ before (p ∷ [])
    (moved_on (related_to [] r link) tokens)
link_settles p r None tokens = refl
link_settles p r (Some chain) tokens = sym (before_twice (p ∷ []) (P.Relating r ∷ []) (reads (at (Want None) zero false most_pairs chain) tokens))

relation_settles : (p : Piece) (r : Relation) (depth : ℕ) (barred : Bool) (pairs : ℕ) (chain : Chain) (tokens : List Token)
    → moved_on (related (p ∷ []) r depth barred chain) tokens ≡ before (p ∷ []) (moved_on (related [] r depth barred chain) tokens)
relation_settles p r (suc depth) barred pairs chain tokens = refl
relation_settles p r zero true pairs chain tokens = refl
relation_settles p r zero false pairs chain tokens = link_settles p r (linked chain r) tokens

pub settles : (s : Option Sign) (f : Factor) (depth : ℕ) (barred : Bool) (pairs : ℕ) (chain : Chain) (tokens : List Token) → Stops barred tokens
    → reads (at (After s f) depth barred pairs chain) tokens ≡ before (P.Constant (sign_of s) f ∷ []) (reads (at Done depth barred pairs chain) tokens)
settles s f depth barred pairs chain [] stops = end_settles (may_end depth barred chain) (P.Constant (sign_of s) f)
settles s f depth barred pairs chain (Signed t ∷ tokens) stops = sym (before_twice (P.Constant (sign_of s) f ∷ []) [] (reads (at (Want (Some t)) depth
    barred pairs chain) tokens))
settles s f depth barred pairs chain (Close ∷ tokens) stops = close_settles (P.Constant (sign_of s) f) depth barred pairs chain tokens
settles s f depth barred pairs chain (Relates r ∷ tokens) stops = relation_settles (P.Constant (sign_of s) f) r depth barred pairs chain tokens
settles s f depth true pairs chain (Bar ∷ tokens) stops = bar_settles (P.Constant (sign_of s) f) depth true pairs chain tokens
settles s f depth false pairs chain (Bar ∷ tokens) stops = cc stops
settles s f depth barred pairs chain (Star ∷ tokens) stops = absurd stops
settles s f depth barred pairs chain (Slash ∷ tokens) stops = absurd stops
settles s f depth barred pairs chain (Open ∷ tokens) stops = absurd stops
settles s f depth barred pairs chain (Named x ∷ tokens) stops = absurd stops
settles s f depth barred pairs chain (Number n ∷ tokens) stops = absurd stops
settles s f depth barred pairs chain (Const c ∷ tokens) stops = absurd stops
settles s f depth barred pairs chain (Bad ∷ tokens) stops = absurd stops

-- ---- what stands in front of a tail

-- the mode in which items begin
abbrev entry : Bool → Mode
entry true = Want None
entry false = Done

lead_read : (first : Bool) (s : Option Sign) (depth : ℕ) (barred : Bool) (pairs : ℕ) (chain : Chain) (tokens : List Token) → IsLead first s
    → reads (at (entry first) depth barred pairs chain) (sign_tokens s ++ tokens) ≡ reads (at (Want s) depth barred pairs chain) tokens
lead_read true None depth barred pairs chain tokens lead = refl
lead_read false None depth barred pairs chain tokens lead = absurd lead
lead_read true (Some s) depth barred pairs chain tokens lead = before_nothing (reads (at (Want (Some s)) depth barred pairs chain) tokens)
lead_read false (Some s) depth barred pairs chain tokens lead = before_nothing (reads (at (Want (Some s)) depth barred pairs chain) tokens)

factor_read : (s : Option Sign) (f : Factor) (depth : ℕ) (barred : Bool) (pairs : ℕ) (chain : Chain) (tokens : List Token) → IsFactor f
    → reads (at (Want s) depth barred pairs chain) (factor_tokens f ++ tokens) ≡ reads (at (After s f) depth barred pairs chain) tokens
factor_read s (Whole n) depth barred pairs chain tokens fits = before_nothing (reads (at (After s (Whole n)) depth barred pairs chain) tokens)
factor_read s (Known c) depth barred pairs chain tokens fits = before_nothing (reads (at (After s (Known c)) depth barred pairs chain) tokens)
factor_read s (Ratio n d) depth barred pairs chain tokens fits =
    let low : reads (at (Over s n) depth barred pairs chain) (Number d ∷ tokens) ≡ reads (at (After s (Ratio n d)) depth barred pairs chain) tokens =
    ap (λ m. moved_on m tokens) (cond-true d.plain (Some ([], at (After s (Ratio n d)) depth barred pairs chain)) None fits.1)
    ∙ before_nothing (reads (at (After s (Ratio n d)) depth barred pairs chain) tokens) in
    let slash : reads (at (After s (Whole n)) depth barred pairs chain) (Slash ∷ Number d ∷ tokens) ≡ reads (at (Over s n) depth barred pairs chain)
    (Number d ∷ tokens) =
    ap (λ m. moved_on m (Number d ∷ tokens)) (cond-true n.plain (Some ([], at (Over s n) depth barred pairs chain)) None fits.0)
    ∙ before_nothing (reads (at (Over s n) depth barred pairs chain) (Number d ∷ tokens)) in
    before_nothing (reads (at (After s (Whole n)) depth barred pairs chain) (Slash ∷ Number d ∷ tokens)) ∙ slash ∙ low

-- the first token of a tail; a bar opens a pair where none is open
abbrev BeginsTail : Bool → Token → Type 0
BeginsTail barred (Named x) = Unit {0}
BeginsTail barred Open = Unit {0}
BeginsTail barred Bar = barred ≡ false
BeginsTail barred (Signed s) = ⊥
BeginsTail barred Star = ⊥
BeginsTail barred Slash = ⊥
BeginsTail barred Close = ⊥
BeginsTail barred (Relates r) = ⊥
BeginsTail barred (Number n) = ⊥
BeginsTail barred (Const c) = ⊥
BeginsTail barred Bad = ⊥

bare_tail : (s : Option Sign) (depth : ℕ) (barred : Bool) (pairs : ℕ) (chain : Chain) (token : Token) (tokens : List Token) → BeginsTail barred token
    → reads (at (Want s) depth barred pairs chain) (token ∷ tokens) ≡ moved_on (tailed s None depth barred pairs chain token) tokens
bare_tail s depth barred pairs chain (Named x) tokens begins = refl
bare_tail s depth barred pairs chain Open tokens begins = refl
bare_tail s depth barred pairs chain Bar tokens begins = refl
bare_tail s depth barred pairs chain (Signed t) tokens begins = absurd begins
bare_tail s depth barred pairs chain Star tokens begins = absurd begins
bare_tail s depth barred pairs chain Slash tokens begins = absurd begins
bare_tail s depth barred pairs chain Close tokens begins = absurd begins
bare_tail s depth barred pairs chain (Relates r) tokens begins = absurd begins
bare_tail s depth barred pairs chain (Number n) tokens begins = absurd begins
bare_tail s depth barred pairs chain (Const c) tokens begins = absurd begins
bare_tail s depth barred pairs chain Bad tokens begins = absurd begins

scaled_tail : (s : Option Sign) (f : Factor) (depth : ℕ) (barred : Bool) (pairs : ℕ) (chain : Chain) (token : Token) (tokens : List Token)
    → BeginsTail barred token
    → reads (at (After s f) depth barred pairs chain) (token ∷ tokens) ≡ moved_on (tailed s (Some f) depth barred pairs chain token) tokens
scaled_tail s f depth barred pairs chain (Named x) tokens begins = refl
scaled_tail s f depth barred pairs chain Open tokens begins = refl
scaled_tail s f depth false pairs chain Bar tokens begins = refl
scaled_tail s f depth true pairs chain Bar tokens begins = cc begins
scaled_tail s f depth barred pairs chain (Signed t) tokens begins = absurd begins
scaled_tail s f depth barred pairs chain Star tokens begins = absurd begins
scaled_tail s f depth barred pairs chain Slash tokens begins = absurd begins
scaled_tail s f depth barred pairs chain Close tokens begins = absurd begins
scaled_tail s f depth barred pairs chain (Relates r) tokens begins = absurd begins
scaled_tail s f depth barred pairs chain (Number n) tokens begins = absurd begins
scaled_tail s f depth barred pairs chain (Const c) tokens begins = absurd begins
scaled_tail s f depth barred pairs chain Bad tokens begins = absurd begins

tail_read : (s : Option Sign) (f : Option Factor) (star : Bool) (depth : ℕ) (barred : Bool) (pairs : ℕ) (chain : Chain) (token : Token) (tokens : List
    Token) → IsScale f → BeginsTail barred token
    → reads (at (Want s) depth barred pairs chain) (scale_tokens f star ++ (token ∷ tokens)) ≡ moved_on (tailed s f depth barred pairs chain token) tokens
tail_read s None star depth barred pairs chain token tokens fits begins = bare_tail s depth barred pairs chain token tokens begins
tail_read s (Some f) false depth barred pairs chain token tokens fits begins =
    ap (λ xs. reads (at (Want s) depth barred pairs chain) (xs ++ (token ∷ tokens))) (append-nil (factor_tokens f))
    ∙ factor_read s f depth barred pairs chain (token ∷ tokens) fits ∙ scaled_tail s f depth barred pairs chain token tokens begins
tail_read s (Some f) true depth barred pairs chain token tokens fits begins =
    ap (λ xs. reads (at (Want s) depth barred pairs chain) xs) (append_assoc (factor_tokens f) (Star ∷ []) (token ∷ tokens))
    ∙ factor_read s f depth barred pairs chain (Star ∷ token ∷ tokens) fits
    ∙ before_nothing (reads (at (Starred s f) depth barred pairs chain) (token ∷ tokens))

-- ---- items

-- how many bar pairs may stand after items
abbrev left : ℕ → Items → ℕ
left pairs End = pairs
left pairs (Constant s f rest) = left pairs rest
left pairs (Variable s f star x rest) = left pairs rest
left pairs (Bracket s f star inner rest) = left pairs rest
left zero (BarPair s f star inner rest) = zero
left (suc pairs) (BarPair s f star inner rest) = left pairs rest

none_taken : (pairs depth : ℕ) (first : Bool) (items : Items) → AreItems 0 depth first items → left pairs items ≡ pairs
none_taken pairs depth first End fit = refl
none_taken pairs depth first (Constant s f rest) fit = none_taken pairs depth false rest fit.2
none_taken pairs depth first (Variable s f star x rest) fit = none_taken pairs depth false rest fit.2
none_taken pairs depth first (Bracket s f star inner rest) fit = none_taken pairs depth false rest fit.5
none_taken pairs depth first (BarPair s f star inner rest) fit = absurd fit

-- further items begin with a sign
stops_more : (pairs depth : ℕ) (barred : Bool) (items : Items) (rest : List Token) → AreItems pairs depth false items → Stops barred rest
    → Stops barred (tokens_of items ++ rest)
stops_more pairs depth barred End rest fit stops = stops
stops_more pairs depth barred (Constant (Some s) f more) rest fit stops = tt
stops_more pairs depth barred (Constant None f more) rest fit stops = absurd fit.0
stops_more pairs depth barred (Variable (Some s) f star x more) rest fit stops = tt
stops_more pairs depth barred (Variable None f star x more) rest fit stops = absurd fit.0
stops_more pairs depth barred (Bracket (Some s) f star inner more) rest fit stops = tt
stops_more pairs depth barred (Bracket None f star inner more) rest fit stops = absurd fit.0
stops_more zero depth barred (BarPair s f star inner more) rest fit stops = absurd fit
stops_more (suc pairs) depth barred (BarPair (Some s) f star inner more) rest fit stops = tt
stops_more (suc pairs) depth barred (BarPair None f star inner more) rest fit stops = absurd fit.0

before_then : (a b : List Piece) (x y z : Option (List Piece)) → x ≡ before a y → y ≡ before b z → x ≡ before (a ++ b) z
before_then a b x y z e h = e ∙ ap (before a) h ∙ before_twice a b z

regroup_item : (a b c d : List Token) → (a ++ (b ++ c)) ++ d ≡ a ++ (b ++ (c ++ d))
regroup_item a b c d = simp append_assoc

-- the items of a sum are read, and what follows them is read after them
items_read : (items : Items) (first : Bool) (depth : ℕ) (barred : Bool) (pairs : ℕ) (chain : Chain) (rest : List Token)
    → AreItems (room depth barred pairs) depth first items → (first ≡ true → AreSome items) → Stops barred rest
    → reads (at (entry first) depth barred pairs chain) (tokens_of items ++ rest) ≡ before (pieces_of items) (reads (at Done depth barred (left pairs
    items) chain) rest)
items_read End true depth barred pairs chain rest fit some stops = absurd (some refl)
items_read End false depth barred pairs chain rest fit some stops = sym (before_nothing (reads (at Done depth barred pairs chain) rest))
items_read (Constant s f more) first depth barred pairs chain rest fit some stops =
    ap (λ xs. reads (at (entry first) depth barred pairs chain) xs) (regroup_item (sign_tokens s) (factor_tokens f) (tokens_of more) rest)
    ∙ lead_read first s depth barred pairs chain (factor_tokens f ++ (tokens_of more ++ rest)) fit.0
    ∙ factor_read s f depth barred pairs chain (tokens_of more ++ rest) fit.1
    ∙ before_then (P.Constant (sign_of s) f ∷ []) (pieces_of more) _ (reads (at Done depth barred pairs chain) (tokens_of more ++ rest)) (reads (at Done
    depth barred (left pairs more) chain) rest)
    (settles s f depth barred pairs chain (tokens_of more ++ rest) (stops_more (room depth barred pairs) depth barred more rest fit.2 stops))
    (items_read more false depth barred pairs chain rest fit.2 (λ e. cc e) stops)
items_read (Variable s f star x more) first depth barred pairs chain rest fit some stops =
    ap (λ xs. reads (at (entry first) depth barred pairs chain) xs) (regroup_item (sign_tokens s) (scale_tokens f star) (Named x ∷ tokens_of more) rest)
    ∙ lead_read first s depth barred pairs chain (scale_tokens f star ++ (Named x ∷ (tokens_of more ++ rest))) fit.0
    ∙ before_then (P.Variable (sign_of s) f x ∷ []) (pieces_of more) _ (reads (at Done depth barred pairs chain) (tokens_of more ++ rest)) (reads (at Done
    depth barred (left pairs more) chain) rest)
    (tail_read s f star depth barred pairs chain (Named x) (tokens_of more ++ rest) fit.1 tt)
    (items_read more false depth barred pairs chain rest fit.2 (λ e. cc e) stops)
items_read (Bracket s f star inner more) first depth barred pairs chain rest fit some stops =
    let behind : List Token = tokens_of more ++ rest in
    ap (λ xs. reads (at (entry first) depth barred pairs chain) xs)
    (regroup_item (sign_tokens s) (scale_tokens f star) (Open ∷ (tokens_of inner ++ (Close ∷ tokens_of more))) rest
    ∙ ap (λ xs. sign_tokens s ++ (scale_tokens f star ++ (Open ∷ xs))) (append_assoc (tokens_of inner) (Close ∷ tokens_of more) rest))
    ∙ lead_read first s depth barred pairs chain (scale_tokens f star ++ (Open ∷ (tokens_of inner ++ (Close ∷ behind)))) fit.0
    ∙ tail_read s f star depth barred pairs chain Open (tokens_of inner ++ (Close ∷ behind)) fit.1 tt
    ∙ ap (λ m. moved_on m (tokens_of inner ++ (Close ∷ behind))) (cond-true (nat_lt depth most_open) (Some (
      P.Opening (sign_of s) f ∷ [],
      at (Want None)
          (suc depth) barred pairs chain,
    )) None (lt-ltb depth most_open fit.2))
    ∙ before_then (P.Opening (sign_of s) f ∷ []) (pieces_of inner ++ (P.Closing ∷ pieces_of more)) _ (reads (at (Want None) (suc depth) barred pairs chain)
    (tokens_of inner ++ (Close ∷ behind))) (reads (at Done depth barred (left pairs more) chain) rest) refl
    (before_then (pieces_of inner) (P.Closing ∷ pieces_of more) _ (reads (at Done (suc depth) barred pairs chain) (Close ∷ behind)) (reads (at Done depth
    barred (left pairs more) chain) rest)
    (items_read inner true (suc depth) barred pairs chain (Close ∷ behind) fit.4 (λ e. fit.3) tt
    ∙ ap (λ n. before (pieces_of inner) (reads (at Done (suc depth) barred n chain) (Close ∷ behind))) (none_taken pairs (suc depth) true inner fit.4))
    (before_then (P.Closing ∷ []) (pieces_of more) _ (reads (at Done depth barred pairs chain) behind) (reads (at Done depth barred (left pairs more)
    chain) rest) refl
    (items_read more false depth barred pairs chain rest fit.5 (λ e. cc e) stops)))
items_read (BarPair s f star inner more) first (suc depth) barred pairs chain rest fit some stops = absurd fit
items_read (BarPair s f star inner more) first zero true pairs chain rest fit some stops = absurd fit
items_read (BarPair s f star inner more) first zero false zero chain rest fit some stops = absurd fit
items_read (BarPair s f star inner more) first zero false (suc pairs) chain rest fit some stops =
    let behind : List Token = tokens_of more ++ rest in
    ap (λ xs. reads (at (entry first) zero false (suc pairs) chain) xs)
    (regroup_item (sign_tokens s) (scale_tokens f star) (Bar ∷ (tokens_of inner ++ (Bar ∷ tokens_of more))) rest
    ∙ ap (λ xs. sign_tokens s ++ (scale_tokens f star ++ (Bar ∷ xs))) (append_assoc (tokens_of inner) (Bar ∷ tokens_of more) rest))
    ∙ lead_read first s zero false (suc pairs) chain (scale_tokens f star ++ (Bar ∷ (tokens_of inner ++ (Bar ∷ behind)))) fit.0
    ∙ tail_read s f star zero false (suc pairs) chain Bar (tokens_of inner ++ (Bar ∷ behind)) fit.1 refl
    ∙ before_then (P.OpeningBar (sign_of s) f ∷ []) (pieces_of inner ++ (P.ClosingBar ∷ pieces_of more)) _ (reads (at (Want None) zero true pairs chain)
    (tokens_of inner ++ (Bar ∷ behind))) (reads (at Done zero false (left pairs more) chain) rest) refl
    (before_then (pieces_of inner) (P.ClosingBar ∷ pieces_of more) _ (reads (at Done zero true pairs chain) (Bar ∷ behind)) (reads (at Done zero false
    (left pairs more) chain) rest)
    (items_read inner true zero true pairs chain (Bar ∷ behind) fit.3 (λ e. fit.2) refl
    ∙ ap (λ n. before (pieces_of inner) (reads (at Done zero true n chain) (Bar ∷ behind))) (none_taken pairs zero true inner fit.3))
    (before_then (P.ClosingBar ∷ []) (pieces_of more) _ (reads (at Done zero false pairs chain) behind) (reads (at Done zero false (left pairs more) chain)
    rest) refl
    (items_read more false zero false pairs chain rest fit.4 (λ e. cc e) stops)))

-- ---- sides

others_stop : (r : Relation) (others : List Items) → Stops false (others_tokens r others)
others_stop r [] = tt
others_stop r (side ∷ sides) = tt

-- the chain behind a relation that may stand there
link_of : (chain : Chain) (r : Relation) (side : Items) (sides : List Items) → FitOthers chain r (side ∷ sides)
    → (next : Chain) × (linked chain r ≡ Some next) × IsSide side × FitOthers next r sides
link_of Starts AtMost side [] fit = (Rises, refl, fit, (refl, tt))
link_of Starts AtLeast side [] fit = (Falls, refl, fit, (refl, tt))
link_of Starts Equal side [] fit = (Ends, refl, fit, refl)
link_of Starts AtMost side (next ∷ sides) fit = (Rises, refl, fit.0, (refl, fit.1))
link_of Starts AtLeast side (next ∷ sides) fit = (Falls, refl, fit.0, (refl, fit.1))
link_of Starts Equal side (next ∷ sides) fit = absurd fit
link_of Rises AtMost side sides fit = (Rises, refl, fit.1.0, (refl, fit.1.1))
link_of Falls AtLeast side sides fit = (Falls, refl, fit.1.0, (refl, fit.1.1))
link_of Rises AtLeast side sides fit = cc fit.0
link_of Rises Equal side sides fit = cc fit.0
link_of Falls AtMost side sides fit = cc fit.0
link_of Falls Equal side sides fit = cc fit.0
link_of Ends r side sides fit = cc fit

chain_may_end : (chain : Chain) (r : Relation) → FitOthers chain r [] → may_end zero false chain ≡ true
chain_may_end Starts r fit = absurd fit
chain_may_end Rises r fit = refl
chain_may_end Falls r fit = refl
chain_may_end Ends r fit = refl

others_read : (others : List Items) (r : Relation) (pairs : ℕ) (chain : Chain) → FitOthers chain r others
    → reads (at Done zero false pairs chain) (others_tokens r others) ≡ Some (others_pieces r others)
others_read [] r pairs chain fit = cond-true (may_end zero false chain) (Some []) None (chain_may_end chain r fit)
others_read (side ∷ sides) r pairs chain fit =
    let link = link_of chain r side sides fit in
    let is_side : IsSide side = link.2 in
    ap (λ l. moved_on (related_to [] r l) (tokens_of side ++ others_tokens r sides)) link.1
    ∙ before_then (P.Relating r ∷ []) (pieces_of side ++ others_pieces r sides) _ (reads (at (Want None) zero false most_pairs link.0) (tokens_of side ++
    others_tokens r sides)) (Some []) refl
    (items_read side true zero false most_pairs link.0 (others_tokens r sides) is_side.1 (λ e. is_side.0) (others_stop r sides)
    ∙ ap (before (pieces_of side)) (others_read sides r (left most_pairs side) link.0 link.3)
    ∙ ap Some (sym (append-nil (pieces_of side ++ others_pieces r sides))))
    ∙ ap Some (append-nil (P.Relating r ∷ (pieces_of side ++ others_pieces r sides)))

-- each term is read, and gives its pieces
pub term_read : (t : Term) → IsTerm t → reads term_start (term_tokens t) ≡ Some (term_pieces t)
term_read t fit =
    items_read t.side true zero false most_pairs Starts (others_tokens t.relation t.others) fit.0.1 (λ e. fit.0.0) (others_stop t.relation t.others)
    ∙ ap (before (pieces_of t.side)) (others_read t.others t.relation (left most_pairs t.side) Starts fit.1)

-- so is each plain
pub plain_read : (items : Items) → IsPlain items → reads plain_start (tokens_of items) ≡ Some (pieces_of items)
plain_read items fit =
    ap (reads plain_start) (sym (append-nil (tokens_of items)))
    ∙ items_read items true zero false 0 Ends [] fit.1 (λ e. fit.0) tt
    ∙ ap Some (append-nil (pieces_of items))
