-- How tokens are read from left to right. Nothing here has to be believed: what is read is told by the grammar.
use Rattle.std.specs.Prelude.{ℕ, zero, suc, List, [], ◌∷◌, ◌++◌, Bool, true, false, Option, Some, None, nat_lt, if◌then◌else◌, option_map, option_and_then}
use Rattle.pa_grammar.specs.declared.token.Sign.{Sign}
use Rattle.pa_grammar.specs.declared.token.Sign.TheVariants.{Plus}
use Rattle.pa_grammar.specs.declared.token.Relation.{Relation}
use Rattle.pa_grammar.specs.declared.token.Relation.TheVariants.{AtMost, AtLeast, Equal}
use Rattle.pa_grammar.specs.declared.token.Numeral.{Numeral}
use Rattle.pa_grammar.specs.declared.token.Token.{Token}
use Rattle.pa_grammar.specs.declared.token.Token.TheVariants.{Signed, Star, Slash, Open, Close, Bar, Relates, Named, Number, Const, Bad}
use Rattle.pa_grammar.specs.declared.machine.Factor.{Factor}
use Rattle.pa_grammar.specs.declared.machine.Factor.TheVariants.{Whole, Ratio, Known}
use Rattle.pa_grammar.specs.declared.machine.Piece.{Piece}
use Rattle.pa_grammar.specs.declared.machine.Piece.TheVariants.{Constant, Variable, Opening, Closing, OpeningBar, ClosingBar, Relating}
use Rattle.pa_grammar.specs.declared.machine.Mode.{Mode}
use Rattle.pa_grammar.specs.declared.machine.Mode.TheVariants.{Want, After, Over, Starred, Done}
use Rattle.pa_grammar.specs.declared.machine.Chain.{Chain}
use Rattle.pa_grammar.specs.declared.machine.Chain.TheVariants.{Starts, Rises, Falls, Ends}
use Rattle.pa_grammar.specs.declared.machine.State.{State}
use Rattle.pa_grammar.specs.Grammar as G
use Rattle.pa_grammar.specs.Grammar.{Items, End, Bracket, BarPair, Term, most_open, most_pairs}

-- a missing sign is plus
abbrev pub sign_of : Option Sign → Sign
sign_of None = Plus
sign_of (Some s) = s

-- what a token gives, and the state after it
abbrev pub Move : Type 0
Move = Option (List Piece × State)

abbrev pub goes : List Piece → Mode → ℕ → Bool → ℕ → Chain → Move
goes pieces mode depth barred pairs chain = Some
    (pieces, record { mode = mode; context = record { depth = depth; barred = barred; pairs = pairs; chain = chain } })

-- a bracket opens
abbrev pub opened : Option Sign → Option Factor → ℕ → Bool → ℕ → Chain → Move
opened s f depth barred pairs chain = if nat_lt depth most_open then goes (Opening (sign_of s) f ∷ []) (Want None) (suc depth) barred pairs chain else None

-- a bar pair opens, on a side alone
abbrev pub bar_opened : Option Sign → Option Factor → ℕ → Bool → ℕ → Chain → Move
bar_opened s f zero false (suc pairs) chain = goes (OpeningBar (sign_of s) f ∷ []) (Want None) zero true pairs chain
bar_opened s f zero false zero chain = None
bar_opened s f zero true pairs chain = None
bar_opened s f (suc depth) barred pairs chain = None

-- a bracket closes
abbrev pub closed : List Piece → ℕ → Bool → ℕ → Chain → Move
closed before zero barred pairs chain = None
closed before (suc depth) barred pairs chain = goes (before ++ (Closing ∷ [])) Done depth barred pairs chain

-- a bar pair closes
abbrev pub bar_closed : List Piece → ℕ → Bool → ℕ → Chain → Move
bar_closed before zero true pairs chain = goes (before ++ (ClosingBar ∷ [])) Done zero false pairs chain
bar_closed before zero false pairs chain = None
bar_closed before (suc depth) barred pairs chain = None

-- the chain after a relation
abbrev pub linked : Chain → Relation → Option Chain
linked Starts Equal = Some Ends
linked Starts AtMost = Some Rises
linked Starts AtLeast = Some Falls
linked Rises AtMost = Some Rises
linked Falls AtLeast = Some Falls
linked Rises AtLeast = None
linked Rises Equal = None
linked Falls AtMost = None
linked Falls Equal = None
linked Ends r = None

abbrev pub related_to : List Piece → Relation → Option Chain → Move
related_to before r None = None
related_to before r (Some chain) = goes (before ++ (Relating r ∷ [])) (Want None) zero false most_pairs chain

abbrev pub related : List Piece → Relation → ℕ → Bool → Chain → Move
related before r zero false chain = related_to before r (linked chain r)
related before r zero true chain = None
related before r (suc depth) barred chain = None

-- where an item is whole: a sign, a closing bracket or bar, a relation
abbrev pub ended : List Piece → ℕ → Bool → ℕ → Chain → Token → Move
ended before depth barred pairs chain (Signed s) = goes before (Want (Some s)) depth barred pairs chain
ended before depth barred pairs chain Close = closed before depth barred pairs chain
ended before depth barred pairs chain Bar = bar_closed before depth barred pairs chain
ended before depth barred pairs chain (Relates r) = related before r depth barred chain
ended before depth barred pairs chain Star = None
ended before depth barred pairs chain Slash = None
ended before depth barred pairs chain Open = None
ended before depth barred pairs chain (Named x) = None
ended before depth barred pairs chain (Number n) = None
ended before depth barred pairs chain (Const c) = None
ended before depth barred pairs chain Bad = None

-- where what a factor is taken of has to come
abbrev pub tailed : Option Sign → Option Factor → ℕ → Bool → ℕ → Chain → Token → Move
tailed s f depth barred pairs chain (Named x) = goes (Variable (sign_of s) f x ∷ []) Done depth barred pairs chain
tailed s f depth barred pairs chain Open = opened s f depth barred pairs chain
tailed s f depth barred pairs chain Bar = bar_opened s f depth barred pairs chain
tailed s f depth barred pairs chain (Signed t) = None
tailed s f depth barred pairs chain Star = None
tailed s f depth barred pairs chain Slash = None
tailed s f depth barred pairs chain Close = None
tailed s f depth barred pairs chain (Relates r) = None
tailed s f depth barred pairs chain (Number n) = None
tailed s f depth barred pairs chain (Const c) = None
tailed s f depth barred pairs chain Bad = None

-- one sign alone may stand in front of an item
abbrev pub signed : Option Sign → Sign → ℕ → Bool → ℕ → Chain → Move
signed None t depth barred pairs chain = goes [] (Want (Some t)) depth barred pairs chain
signed (Some s) t depth barred pairs chain = None

-- where an item has to come
abbrev pub wanted : Option Sign → ℕ → Bool → ℕ → Chain → Token → Move
wanted s depth barred pairs chain (Signed t) = signed s t depth barred pairs chain
wanted s depth barred pairs chain (Number n) = goes [] (After s (Whole n)) depth barred pairs chain
wanted s depth barred pairs chain (Const c) = goes [] (After s (Known c)) depth barred pairs chain
wanted s depth barred pairs chain (Named x) = tailed s None depth barred pairs chain (Named x)
wanted s depth barred pairs chain Open = tailed s None depth barred pairs chain Open
wanted s depth barred pairs chain Bar = tailed s None depth barred pairs chain Bar
wanted s depth barred pairs chain Star = None
wanted s depth barred pairs chain Slash = None
wanted s depth barred pairs chain Close = None
wanted s depth barred pairs chain (Relates r) = None
wanted s depth barred pairs chain Bad = None

-- a `/` stands behind a plain number alone
abbrev pub slashed : Option Sign → Factor → ℕ → Bool → ℕ → Chain → Move
slashed s (Whole n) depth barred pairs chain = if n.plain then goes [] (Over s n) depth barred pairs chain else None
slashed s (Ratio n d) depth barred pairs chain = None
slashed s (Known c) depth barred pairs chain = None

-- a bar behind a factor: where a bar pair is open it closes it, else it opens one
abbrev pub barred_after : Option Sign → Factor → ℕ → Bool → ℕ → Chain → Move
barred_after s f depth true pairs chain = bar_closed (Constant (sign_of s) f ∷ []) depth true pairs chain
barred_after s f depth false pairs chain = bar_opened s (Some f) depth false pairs chain

abbrev pub behind_factor : Option Sign → Factor → ℕ → Bool → ℕ → Chain → Token → Move
behind_factor s f depth barred pairs chain Slash = slashed s f depth barred pairs chain
behind_factor s f depth barred pairs chain Star = goes [] (Starred s f) depth barred pairs chain
behind_factor s f depth barred pairs chain (Named x) = tailed s (Some f) depth barred pairs chain (Named x)
behind_factor s f depth barred pairs chain Open = tailed s (Some f) depth barred pairs chain Open
behind_factor s f depth barred pairs chain Bar = barred_after s f depth barred pairs chain
behind_factor s f depth barred pairs chain (Signed t) = ended (Constant (sign_of s) f ∷ []) depth barred pairs chain (Signed t)
behind_factor s f depth barred pairs chain Close = ended (Constant (sign_of s) f ∷ []) depth barred pairs chain Close
behind_factor s f depth barred pairs chain (Relates r) = ended (Constant (sign_of s) f ∷ []) depth barred pairs chain (Relates r)
behind_factor s f depth barred pairs chain (Number n) = None
behind_factor s f depth barred pairs chain (Const c) = None
behind_factor s f depth barred pairs chain Bad = None

-- where a denominator has to come
abbrev pub divided_by : Option Sign → Numeral → ℕ → Bool → ℕ → Chain → Token → Move
divided_by s n depth barred pairs chain (Number d) = if d.plain then goes [] (After s (Ratio n d)) depth barred pairs chain else None
divided_by s n depth barred pairs chain (Const c) = None
divided_by s n depth barred pairs chain (Signed t) = None
divided_by s n depth barred pairs chain Star = None
divided_by s n depth barred pairs chain Slash = None
divided_by s n depth barred pairs chain Open = None
divided_by s n depth barred pairs chain Close = None
divided_by s n depth barred pairs chain Bar = None
divided_by s n depth barred pairs chain (Relates r) = None
divided_by s n depth barred pairs chain (Named x) = None
divided_by s n depth barred pairs chain Bad = None

abbrev pub step_in : Mode → ℕ → Bool → ℕ → Chain → Token → Move
step_in (Want s) depth barred pairs chain token = wanted s depth barred pairs chain token
step_in (After s f) depth barred pairs chain token = behind_factor s f depth barred pairs chain token
step_in (Over s n) depth barred pairs chain token = divided_by s n depth barred pairs chain token
step_in (Starred s f) depth barred pairs chain token = tailed s (Some f) depth barred pairs chain token
step_in Done depth barred pairs chain token = ended [] depth barred pairs chain token

abbrev pub step : State → Token → Move
step state token = step_in state.mode state.context.depth state.context.barred state.context.pairs state.context.chain token

-- what is left to give at the end of the text, where the text may end
abbrev pub may_end : ℕ → Bool → Chain → Bool
may_end zero false Starts = false
may_end zero false Rises = true
may_end zero false Falls = true
may_end zero false Ends = true
may_end zero true chain = false
may_end (suc depth) barred chain = false

abbrev pub last_pieces : Mode → Option (List Piece)
last_pieces (Want s) = None
last_pieces (After s f) = Some (Constant (sign_of s) f ∷ [])
last_pieces (Over s n) = None
last_pieces (Starred s f) = None
last_pieces Done = Some []

abbrev pub ending : State → Option (List Piece)
ending state = if may_end state.context.depth state.context.barred state.context.chain then last_pieces state.mode else None

abbrev pub match_move : Move → (List Piece × State → Bool) → Bool
match_move None next = false
match_move (Some m) next = next m

-- the pieces of all tokens up to the end, where they may stand there
abbrev pub reads : State → List Token → Option (List Piece)
reads state [] = ending state
reads state (token ∷ tokens) = option_and_then (λ (m : List Piece × State). option_map (λ ps. m.0 ++ ps) (reads m.1 tokens)) (step state token)

-- tokens can be taken
abbrev pub runs : State → List Token → Bool
runs state [] = true
runs state (token ∷ tokens) = match_move (step state token) (λ m. runs m.1 tokens)

-- the start of a term, and that of a plain
abbrev pub term_start : State
term_start = record { mode = Want None; context = record { depth = 0; barred = false; pairs = most_pairs; chain = Starts } }

abbrev pub plain_start : State
plain_start = record { mode = Want None; context = record { depth = 0; barred = false; pairs = 0; chain = Ends } }

-- the pieces of a tree
abbrev pub pieces_of : Items → List Piece
pieces_of End = []
pieces_of (G.Constant s f rest) = Constant (sign_of s) f ∷ pieces_of rest
pieces_of (G.Variable s f star x rest) = Variable (sign_of s) f x ∷ pieces_of rest
pieces_of (Bracket s f star inner rest) = Opening (sign_of s) f ∷ (pieces_of inner ++ (Closing ∷ pieces_of rest))
pieces_of (BarPair s f star inner rest) = OpeningBar (sign_of s) f ∷ (pieces_of inner ++ (ClosingBar ∷ pieces_of rest))

abbrev pub others_pieces : Relation → List Items → List Piece
others_pieces r [] = []
others_pieces r (side ∷ sides) = Relating r ∷ (pieces_of side ++ others_pieces r sides)

abbrev pub term_pieces : Term → List Piece
term_pieces t = pieces_of t.side ++ others_pieces t.relation t.others
