-- What is read is in the grammar.
use Rattle.std.proofs.Common.{◌≡◌, ℕ, zero, suc, ◌<◌, List, [], ◌∷◌, ◌++◌, Bool, true, false, Option, Some, None, refl, ap, sym, ◌∙◌, subst, append_assoc}
use Rattle.std.specs.Prelude.{nat_lt, if◌then◌else◌, option_map}
use Rattle.pa_grammar.proofs.Options.{map_is, and_then_is}
use Rattle.std.proofs.lemmas.Bool.{cond_both, ltb-true}
use Rattle.std.proofs.lemmas.List.{append-nil}
use Rattle.pa_grammar.specs.declared.token.Sign.{Sign}
use Rattle.pa_grammar.specs.declared.token.Relation.{Relation}
use Rattle.pa_grammar.specs.declared.token.Relation.TheVariants.{AtMost, AtLeast, Equal}
use Rattle.pa_grammar.specs.declared.token.Numeral.{Numeral}
use Rattle.pa_grammar.specs.declared.token.Token.{Token}
use Rattle.pa_grammar.specs.declared.token.Token.TheVariants.{Signed, Star, Slash, Open, Close, Bar, Relates, Named, Number, Const, Bad}
use Rattle.pa_grammar.specs.declared.machine.Factor.{Factor}
use Rattle.pa_grammar.specs.declared.machine.Factor.TheVariants.{Whole, Ratio, Known}
use Rattle.pa_grammar.specs.declared.machine.Piece.{Piece}
use Rattle.pa_grammar.specs.declared.machine.Piece.TheVariants as P
use Rattle.pa_grammar.specs.declared.machine.Mode.{Mode}
use Rattle.pa_grammar.specs.declared.machine.Mode.TheVariants.{Want, After, Over, Starred, Done}
use Rattle.pa_grammar.specs.declared.machine.Chain.{Chain}
use Rattle.pa_grammar.specs.declared.machine.Chain.TheVariants.{Starts, Rises, Falls, Ends}
use Rattle.pa_grammar.specs.declared.machine.State.{State}
use Rattle.pa_grammar.specs.Grammar.{Items, End, Constant, Variable, Bracket, BarPair, sign_tokens, factor_tokens, scale_tokens, tokens_of, others_tokens}
use Rattle.pa_grammar.specs.Grammar.{IsLead, IsFactor, IsScale, AreSome, AreItems, IsSide, AreSides, AreOthers, most_open, most_pairs}
use Rattle.pa_grammar.specs.Machine.{sign_of, Move, pieces_of, others_pieces, step_in, ended, tailed, wanted, signed, slashed, barred_after, behind_factor}
use Rattle.pa_grammar.specs.Machine.{divided_by, opened, bar_opened, closed, bar_closed, related, may_end, last_pieces, step, reads}

-- the tokens of the item in hand that are behind
abbrev pub consumed : Mode → List Token
consumed (Want s) = sign_tokens s
consumed (After s f) = sign_tokens s ++ factor_tokens f
consumed (Over s n) = sign_tokens s ++ (Number n ∷ Slash ∷ [])
consumed (Starred s f) = sign_tokens s ++ (factor_tokens f ++ (Star ∷ []))
consumed Done = []

abbrev pub ModeFits : Mode → Type 0
ModeFits (Want s) = Unit {0}
ModeFits (After s f) = IsFactor f
ModeFits (Over s n) = n.plain ≡ true
ModeFits (Starred s f) = IsFactor f
ModeFits Done = Unit {0}

abbrev pub is_missing : Option Sign → Bool
is_missing None = true
is_missing (Some s) = false

-- how many bar pairs may stand at this place
abbrev pub room : ℕ → Bool → ℕ → ℕ
room zero false pairs = pairs
room zero true pairs = 0
room (suc depth) barred pairs = 0

-- what follows the items in hand: the rests of the open brackets, that of the side behind a bar pair, the other sides
abbrev pub above_tokens : List Items → Option Items → Relation → List Items → List Token
above_tokens [] None r others = others_tokens r others
above_tokens [] (Some side) r others = Bar ∷ (tokens_of side ++ others_tokens r others)
above_tokens (up ∷ ups) side r others = Close ∷ (tokens_of up ++ above_tokens ups side r others)

abbrev pub above_pieces : List Items → Option Items → Relation → List Items → List Piece
above_pieces [] None r others = others_pieces r others
above_pieces [] (Some side) r others = P.ClosingBar ∷ (pieces_of side ++ others_pieces r others)
above_pieces (up ∷ ups) side r others = P.Closing ∷ (pieces_of up ++ above_pieces ups side r others)

abbrev pub FitUps : ℕ → Bool → ℕ → List Items → Type 0
FitUps zero barred pairs [] = Unit {0}
FitUps zero barred pairs (up ∷ ups) = ⊥
FitUps (suc depth) barred pairs [] = ⊥
FitUps (suc depth) barred pairs (up ∷ ups) = AreItems (room depth barred pairs) depth false up × FitUps depth barred pairs ups

abbrev pub FitsSide : Bool → ℕ → Option Items → Type 0
FitsSide false pairs None = Unit {0}
FitsSide false pairs (Some side) = ⊥
FitsSide true pairs None = ⊥
FitsSide true pairs (Some side) = AreItems pairs 0 false side

abbrev pub FitOthers : Chain → Relation → List Items → Type 0
FitOthers Starts r others = AreOthers r others
FitOthers Rises r others = (AtMost ≡ r) × AreSides others
FitOthers Falls r others = (AtLeast ≡ r) × AreSides others
FitOthers Ends r others = others ≡ []

abbrev pub ItemsFit : Mode → ℕ → ℕ → Items → Type 0
ItemsFit (Want s) pairs depth items = AreSome items × AreItems pairs depth (is_missing s) items
ItemsFit (After s f) pairs depth items = AreSome items × AreItems pairs depth (is_missing s) items
ItemsFit (Over s n) pairs depth items = AreSome items × AreItems pairs depth (is_missing s) items
ItemsFit (Starred s f) pairs depth items = AreSome items × AreItems pairs depth (is_missing s) items
ItemsFit Done pairs depth items = AreItems pairs depth false items

-- the rest of a text is a rest in the grammar, and has these pieces
pub record Rest (mode : Mode) (depth : ℕ) (barred : Bool) (pairs : ℕ) (chain : Chain) (tokens : List Token) (pieces : List Piece) : Type 0 where
  pub items : Items
  pub ups : List Items
  pub side : Option Items
  pub relation : Relation
  pub others : List Items
  pub tokens_are : consumed mode ++ tokens ≡ tokens_of items ++ above_tokens ups side relation others
  pub pieces_are : pieces ≡ pieces_of items ++ above_pieces ups side relation others
  pub items_fit : ItemsFit mode (room depth barred pairs) depth items
  pub ups_fit : FitUps depth barred pairs ups
  pub side_fits : FitsSide barred pairs side
  pub others_fit : FitOthers chain relation others

-- a move is sound: a rest behind it is a rest in front of it
abbrev pub IsSound : Mode → ℕ → Bool → ℕ → Chain → Token → List Token → List Piece → Move → Type 0
IsSound mode depth barred pairs chain token tokens pieces None = Unit {0}
IsSound mode depth barred pairs chain token tokens pieces (Some m) =
    (ModeFits m.1.mode → Rest m.1.mode m.1.context.depth m.1.context.barred m.1.context.pairs m.1.context.chain tokens pieces)
    → Rest mode depth barred pairs chain (token ∷ tokens) (m.0 ++ pieces)

-- a missing sign is allowed besides
pub lead_may : (pairs depth : ℕ) (items : Items) → AreItems pairs depth false items → AreItems pairs depth true items
lead_may pairs depth End fit = tt
lead_may pairs depth (Constant (Some s) f rest) fit = fit
lead_may pairs depth (Constant None f rest) fit = absurd fit.0
lead_may pairs depth (Variable (Some s) f star x rest) fit = fit
lead_may pairs depth (Variable None f star x rest) fit = absurd fit.0
lead_may pairs depth (Bracket (Some s) f star inner rest) fit = fit
lead_may pairs depth (Bracket None f star inner rest) fit = absurd fit.0
lead_may zero depth (BarPair s f star inner rest) fit = fit
lead_may (suc pairs) depth (BarPair (Some s) f star inner rest) fit = fit
lead_may (suc pairs) depth (BarPair None f star inner rest) fit = absurd fit.0

lead_fits : (s : Option Sign) → IsLead (is_missing s) s
lead_fits None = tt
lead_fits (Some s) = tt

-- ---- a tail: what is behind the factor, whatever the mode was

-- the modes in which a tail may come, with the tokens of what it is taken
pub record BeforeTail (mode : Mode) (s : Option Sign) (f : Option Factor) : Type 0 where
  pub star : Bool
  pub consumed_are : consumed mode ≡ sign_tokens s ++ scale_tokens f star
  pub scale_fits : IsScale f
  pub items_fit : (pairs depth : ℕ) (items : Items) → AreSome items → AreItems pairs depth (is_missing s) items → ItemsFit mode pairs depth items

want_tail : (s : Option Sign) → BeforeTail (Want s) s None
want_tail s = record { star = false; consumed_are = sym (append-nil (sign_tokens s)); scale_fits = tt; items_fit = λ p d i some fit. (some, fit) }

after_tail : (s : Option Sign) (f : Factor) → IsFactor f → BeforeTail (After s f) s (Some f)
after_tail s f fits = record {
  star = false;
  consumed_are = ap (λ x. sign_tokens s ++ x) (sym (append-nil (factor_tokens f)));
  scale_fits = fits;
  items_fit
      = λ p d i some fit. (some, fit);
}

starred_tail : (s : Option Sign) (f : Factor) → IsFactor f → BeforeTail (Starred s f) s (Some f)
starred_tail s f fits = record { star = true; consumed_are = refl; scale_fits = fits; items_fit = λ p d i some fit. (some, fit) }

regroup : (a b c rest above : List Token) (token : Token) (all tokens : List Token) → all ≡ a ++ b → tokens ≡ rest ++ above
    → all ++ (token ∷ tokens) ≡ (a ++ (b ++ (token ∷ rest))) ++ above
regroup a b c rest above token all tokens e h = rw (e, h) (simp append_assoc)

named_sound : (mode : Mode) (s : Option Sign) (f : Option Factor) (depth : ℕ) (barred : Bool) (pairs : ℕ) (chain : Chain) (x : Option ℕ) (tokens : List
    Token) (pieces : List Piece)
    → BeforeTail mode s f → IsSound mode depth barred pairs chain (Named x) tokens pieces (tailed s f depth barred pairs chain (Named x))
named_sound mode s f depth barred pairs chain x tokens pieces b ih =
    let rest = ih tt in
    record {
      items = Variable s f b.star x rest.items;
      ups = rest.ups;
      side = rest.side;
      relation = rest.relation;
      others = rest.others;
      tokens_are = regroup (sign_tokens s) (scale_tokens f b.star) [] (tokens_of rest.items) (above_tokens rest.ups rest.side rest.relation rest.others)
          (Named x) (consumed mode) tokens b.consumed_are rest.tokens_are;
      pieces_are = ap (λ ps. P.Variable (sign_of s) f x ∷ ps) rest.pieces_are;
      items_fit = b.items_fit (room depth barred pairs) depth (Variable s f b.star x rest.items) tt (lead_fits s, b.scale_fits, rest.items_fit);
      ups_fit = rest.ups_fit;
      side_fits = rest.side_fits;
      others_fit = rest.others_fit;
    }

opened_with : (mode : Mode) (s : Option Sign) (f : Option Factor) (depth : ℕ) (barred : Bool) (pairs : ℕ) (chain : Chain) (tokens : List Token) (pieces :
    List Piece)
    → BeforeTail mode s f → depth < most_open → (inner : Items) (ups : List Items) (side : Option Items) (r : Relation) (others : List Items)
    → tokens ≡ tokens_of inner ++ above_tokens ups side r others → pieces ≡ pieces_of inner ++ above_pieces ups side r others
    → AreSome inner → AreItems 0 (suc depth) true inner → FitUps (suc depth) barred pairs ups → FitsSide barred pairs side → FitOthers chain r others
    → Rest mode depth barred pairs chain (Open ∷ tokens) (P.Opening (sign_of s) f ∷ pieces)
opened_with mode s f depth barred pairs chain tokens pieces b few inner [] side r others is_tokens is_pieces some fit ups_fit side_fits others_fit = absurd
    ups_fit
opened_with mode s f depth barred pairs chain tokens pieces b few inner (up ∷ ups) side r others is_tokens is_pieces some fit ups_fit side_fits others_fit
    = record {
      items = Bracket s f b.star inner up;
      ups = ups;
      side = side;
      relation = r;
      others = others;
      tokens_are = regroup (sign_tokens s) (scale_tokens f b.star) [] (tokens_of inner ++ (Close ∷ tokens_of up)) (above_tokens ups side r others) Open
          (consumed mode) tokens b.consumed_are
          (is_tokens ∙ sym (append_assoc (tokens_of inner) (Close ∷ tokens_of up) (above_tokens ups side r others)));
      pieces_are = ap (λ ps. P.Opening (sign_of s) f ∷ ps) (is_pieces ∙ sym (append_assoc (pieces_of inner) (P.Closing ∷ pieces_of up) (above_pieces ups side r
          others)));
      items_fit = b.items_fit (room depth barred pairs) depth (Bracket s f b.star inner up) tt (lead_fits s, b.scale_fits, few, some, fit, ups_fit.0);
      ups_fit = ups_fit.1;
      side_fits = side_fits;
      others_fit = others_fit;
    }

opened_sound : (mode : Mode) (s : Option Sign) (f : Option Factor) (depth : ℕ) (barred : Bool) (pairs : ℕ) (chain : Chain) (tokens : List Token) (pieces :
    List Piece)
    → BeforeTail mode s f → IsSound mode depth barred pairs chain Open tokens pieces (opened s f depth barred pairs chain)
opened_sound mode s f depth barred pairs chain tokens pieces b =
    let P : Move → Type 0 = λ m. IsSound mode depth barred pairs chain Open tokens pieces m in
    cond_both (nat_lt depth most_open) _ None P
    (λ yes ih. let rest = ih tt in
    opened_with mode s f depth barred pairs chain tokens pieces b (ltb-true depth most_open yes) rest.items rest.ups rest.side rest.relation rest.others
    rest.tokens_are rest.pieces_are rest.items_fit.0 rest.items_fit.1 rest.ups_fit rest.side_fits rest.others_fit)
    (λ _. tt)

bar_opened_with : (mode : Mode) (s : Option Sign) (f : Option Factor) (pairs : ℕ) (chain : Chain) (tokens : List Token) (pieces : List Piece)
    → BeforeTail mode s f → (inner : Items) (ups : List Items) (side : Option Items) (r : Relation) (others : List Items)
    → tokens ≡ tokens_of inner ++ above_tokens ups side r others → pieces ≡ pieces_of inner ++ above_pieces ups side r others
    → AreSome inner → AreItems 0 0 true inner → FitUps zero true pairs ups → FitsSide true pairs side → FitOthers chain r others
    → Rest mode zero false (suc pairs) chain (Bar ∷ tokens) (P.OpeningBar (sign_of s) f ∷ pieces)
bar_opened_with mode s f pairs chain tokens pieces b inner (up ∷ ups) side r others is_tokens is_pieces some fit ups_fit side_fits others_fit = absurd ups_fit
bar_opened_with mode s f pairs chain tokens pieces b inner [] None r others is_tokens is_pieces some fit ups_fit side_fits others_fit = absurd side_fits
bar_opened_with mode s f pairs chain tokens pieces b inner [] (Some side) r others is_tokens is_pieces some fit ups_fit side_fits others_fit = record {
  items = BarPair s f b.star inner side;
  ups = [];
  side = None;
  relation = r;
  others = others;
  tokens_are = regroup (sign_tokens s) (scale_tokens f b.star) [] (tokens_of inner ++ (Bar ∷ tokens_of side)) (others_tokens r others) Bar (consumed mode)
      tokens b.consumed_are
      (is_tokens ∙ sym (append_assoc (tokens_of inner) (Bar ∷ tokens_of side) (others_tokens r others)));
  pieces_are = ap (λ ps. P.OpeningBar (sign_of s) f ∷ ps) (is_pieces ∙ sym (append_assoc (pieces_of inner) (P.ClosingBar ∷ pieces_of side) (others_pieces r
      others)));
  items_fit = b.items_fit (suc pairs) zero (BarPair s f b.star inner side) tt (lead_fits s, b.scale_fits, some, fit, side_fits);
  ups_fit = tt;
  side_fits = tt;
  others_fit = others_fit;
}

bar_opened_sound : (mode : Mode) (s : Option Sign) (f : Option Factor) (depth : ℕ) (barred : Bool) (pairs : ℕ) (chain : Chain) (tokens : List Token)
    (pieces : List Piece)
    → BeforeTail mode s f → IsSound mode depth barred pairs chain Bar tokens pieces (bar_opened s f depth barred pairs chain)
bar_opened_sound mode s f zero false zero chain tokens pieces b = tt
bar_opened_sound mode s f zero true pairs chain tokens pieces b = tt
bar_opened_sound mode s f (suc depth) barred pairs chain tokens pieces b = tt
bar_opened_sound mode s f zero false (suc pairs) chain tokens pieces b = λ ih. let rest = ih tt in
    bar_opened_with mode s f pairs chain tokens pieces b rest.items rest.ups rest.side rest.relation rest.others
    rest.tokens_are rest.pieces_are rest.items_fit.0 rest.items_fit.1 rest.ups_fit rest.side_fits rest.others_fit

tailed_sound : (mode : Mode) (s : Option Sign) (f : Option Factor) (depth : ℕ) (barred : Bool) (pairs : ℕ) (chain : Chain) (token : Token) (tokens : List
    Token) (pieces : List Piece)
    → BeforeTail mode s f → IsSound mode depth barred pairs chain token tokens pieces (tailed s f depth barred pairs chain token)
tailed_sound mode s f depth barred pairs chain (Named x) tokens pieces b = named_sound mode s f depth barred pairs chain x tokens pieces b
tailed_sound mode s f depth barred pairs chain Open tokens pieces b = opened_sound mode s f depth barred pairs chain tokens pieces b
tailed_sound mode s f depth barred pairs chain Bar tokens pieces b = bar_opened_sound mode s f depth barred pairs chain tokens pieces b
tailed_sound mode s f depth barred pairs chain (Signed t) tokens pieces b = tt
tailed_sound mode s f depth barred pairs chain Star tokens pieces b = tt
tailed_sound mode s f depth barred pairs chain Slash tokens pieces b = tt
tailed_sound mode s f depth barred pairs chain Close tokens pieces b = tt
tailed_sound mode s f depth barred pairs chain (Relates r) tokens pieces b = tt
tailed_sound mode s f depth barred pairs chain (Number n) tokens pieces b = tt
tailed_sound mode s f depth barred pairs chain (Const c) tokens pieces b = tt
tailed_sound mode s f depth barred pairs chain Bad tokens pieces b = tt

-- ---- the end of an item

-- the modes in which an item may end, and the item in front of what follows
pub record BeforeEnd (mode : Mode) (before : List Piece) : Type 0 where
  pub put : Items → Items
  pub tokens : (items : Items) → tokens_of (put items) ≡ consumed mode ++ tokens_of items
  pub pieces : (items : Items) → pieces_of (put items) ≡ before ++ pieces_of items
  pub fit : (pairs depth : ℕ) (items : Items) → AreItems pairs depth false items → ItemsFit mode pairs depth (put items)

done_end : BeforeEnd Done []
done_end = record { put = λ i. i; tokens = λ i. refl; pieces = λ i. refl; fit = λ p d i fit. fit }

after_end : (s : Option Sign) (f : Factor) → IsFactor f → BeforeEnd (After s f) (P.Constant (sign_of s) f ∷ [])
after_end s f fits = record {
  put = Constant s f;
  tokens = λ i. sym (append_assoc (sign_tokens s) (factor_tokens f) (tokens_of i));
  pieces = λ i. refl;
  fit = λ p d i fit. (tt, (lead_fits s, fits, fit));
}

-- an item, and what follows its end
behind_end : {A : Type 0} (all front own above rest : List A) → own ≡ front ++ all → rest ≡ all ++ above → front ++ rest ≡ own ++ above
behind_end all front own above rest e h = rw (e, h) (sym (append_assoc front all above))

at_end : {A : Type 0} (front own rest : List A) → own ≡ front ++ [] → front ++ rest ≡ own ++ rest
at_end front own rest e = rw e (ap (λ xs. xs ++ rest) (sym (append-nil front)))

piece_at_end : (before own rest pieces : List Piece) (p : Piece) → own ≡ before ++ [] → pieces ≡ rest → (before ++ (p ∷ [])) ++ pieces ≡ own ++ (p ∷ rest)
piece_at_end before own rest pieces p e h = rw (e, h, append-nil before) (append_assoc before (p ∷ []) rest)

token_at_end : (front own rest tokens : List Token) (t : Token) → own ≡ front ++ [] → tokens ≡ rest → front ++ (t ∷ tokens) ≡ own ++ (t ∷ rest)
token_at_end front own rest tokens t e h = rw (e, h, append-nil front) refl

sign_sound : (mode : Mode) (before : List Piece) (depth : ℕ) (barred : Bool) (pairs : ℕ) (chain : Chain) (s : Sign) (tokens : List Token) (pieces : List Piece)
    → BeforeEnd mode before → IsSound mode depth barred pairs chain (Signed s) tokens pieces (ended before depth barred pairs chain (Signed s))
sign_sound mode before depth barred pairs chain s tokens pieces b ih =
    let rest = ih tt in
    record {
      items = b.put rest.items;
      ups = rest.ups;
      side = rest.side;
      relation = rest.relation;
      others = rest.others;
      tokens_are = behind_end (tokens_of rest.items) (consumed mode) (tokens_of (b.put rest.items)) (above_tokens rest.ups rest.side rest.relation
          rest.others) (Signed s ∷ tokens) (b.tokens rest.items) rest.tokens_are;
      pieces_are = behind_end (pieces_of rest.items) before (pieces_of (b.put rest.items)) (above_pieces rest.ups rest.side rest.relation rest.others)
          pieces (b.pieces rest.items) rest.pieces_are;
      items_fit = b.fit (room depth barred pairs) depth rest.items rest.items_fit.1;
      ups_fit = rest.ups_fit;
      side_fits = rest.side_fits;
      others_fit = rest.others_fit;
    }

closed_sound : (mode : Mode) (before : List Piece) (depth : ℕ) (barred : Bool) (pairs : ℕ) (chain : Chain) (tokens : List Token) (pieces : List Piece)
    → BeforeEnd mode before → IsSound mode depth barred pairs chain Close tokens pieces (closed before depth barred pairs chain)
closed_sound mode before zero barred pairs chain tokens pieces b = tt
closed_sound mode before (suc depth) barred pairs chain tokens pieces b = λ ih.
    let rest = ih tt in
    record {
      items = b.put End;
      ups = rest.items ∷ rest.ups;
      side = rest.side;
      relation = rest.relation;
      others = rest.others;
      tokens_are = token_at_end (consumed mode) (tokens_of (b.put End)) _ tokens Close (b.tokens End) rest.tokens_are;
      pieces_are = piece_at_end before (pieces_of (b.put End)) _ pieces P.Closing (b.pieces End) rest.pieces_are;
      items_fit = b.fit 0 (suc depth) End tt;
      ups_fit = (rest.items_fit, rest.ups_fit);
      side_fits = rest.side_fits;
      others_fit = rest.others_fit;
    }

bar_closed_with : (mode : Mode) (before : List Piece) (pairs : ℕ) (chain : Chain) (tokens : List Token) (pieces : List Piece)
    → BeforeEnd mode before → (items : Items) (ups : List Items) (side : Option Items) (r : Relation) (others : List Items)
    → tokens ≡ tokens_of items ++ above_tokens ups side r others → pieces ≡ pieces_of items ++ above_pieces ups side r others
    → AreItems pairs 0 false items → FitUps zero false pairs ups → FitsSide false pairs side → FitOthers chain r others
    → Rest mode zero true pairs chain (Bar ∷ tokens) ((before ++ (P.ClosingBar ∷ [])) ++ pieces)
bar_closed_with mode before pairs chain tokens pieces b items (up ∷ ups) side r others is_tokens is_pieces fit ups_fit side_fits others_fit = absurd ups_fit
bar_closed_with mode before pairs chain tokens pieces b items [] (Some side) r others is_tokens is_pieces fit ups_fit side_fits others_fit = absurd side_fits
bar_closed_with mode before pairs chain tokens pieces b items [] None r others is_tokens is_pieces fit ups_fit side_fits others_fit = record {
  items = b.put End;
  ups = [];
  side = Some items;
  relation = r;
  others = others;
  tokens_are = token_at_end (consumed mode) (tokens_of (b.put End)) _ tokens Bar (b.tokens End) is_tokens;
  pieces_are = piece_at_end before (pieces_of (b.put End)) _ pieces P.ClosingBar (b.pieces End) is_pieces;
  items_fit = b.fit 0 0 End tt;
  ups_fit = tt;
  side_fits = fit;
  others_fit = others_fit;
}

bar_closed_sound : (mode : Mode) (before : List Piece) (depth : ℕ) (barred : Bool) (pairs : ℕ) (chain : Chain) (tokens : List Token) (pieces : List Piece)
    → BeforeEnd mode before → IsSound mode depth barred pairs chain Bar tokens pieces (bar_closed before depth barred pairs chain)
bar_closed_sound mode before zero false pairs chain tokens pieces b = tt
bar_closed_sound mode before (suc depth) barred pairs chain tokens pieces b = tt
bar_closed_sound mode before zero true pairs chain tokens pieces b = λ ih. let rest = ih tt in
    bar_closed_with mode before pairs chain tokens pieces b rest.items rest.ups rest.side rest.relation rest.others
    rest.tokens_are rest.pieces_are rest.items_fit rest.ups_fit rest.side_fits rest.others_fit

-- a further side
related_with : (mode : Mode) (before : List Piece) (pairs : ℕ) (chain : Chain) (r q : Relation) (tokens : List Token) (pieces : List Piece)
    → BeforeEnd mode before → (items : Items) (ups : List Items) (side : Option Items) (others : List Items)
    → tokens ≡ tokens_of items ++ above_tokens ups side q others → pieces ≡ pieces_of items ++ above_pieces ups side q others
    → FitUps zero false most_pairs ups → FitsSide false most_pairs side
    → others_tokens q others ≡ others_tokens r others → others_pieces q others ≡ others_pieces r others → FitOthers chain r (items ∷ others)
    → Rest mode zero false pairs chain (Relates r ∷ tokens) ((before ++ (P.Relating r ∷ [])) ++ pieces)
related_with mode before pairs chain r q tokens pieces b items (up ∷ ups) side others is_tokens is_pieces ups_fit side_fits same same_pieces others_fit =
    absurd ups_fit
related_with mode before pairs chain r q tokens pieces b items [] (Some side) others is_tokens is_pieces ups_fit side_fits same same_pieces others_fit =
    absurd side_fits
related_with mode before pairs chain r q tokens pieces b items [] None others is_tokens is_pieces ups_fit side_fits same same_pieces others_fit = record {
  items = b.put End;
  ups = [];
  side = None;
  relation = r;
  others = items ∷ others;
  tokens_are = token_at_end (consumed mode) (tokens_of (b.put End)) _ tokens (Relates r) (b.tokens End) (is_tokens ∙ ap (λ xs. tokens_of items ++ xs) same);
  pieces_are = piece_at_end before (pieces_of (b.put End)) _ pieces (P.Relating r) (b.pieces End) (is_pieces ∙ ap (λ xs. pieces_of items ++ xs) same_pieces);
  items_fit = b.fit pairs 0 End tt;
  ups_fit = tt;
  side_fits = tt;
  others_fit = others_fit;
}

at_most_others : (side : Items) (sides : List Items) → IsSide side → AreSides sides → AreOthers AtMost (side ∷ sides)
at_most_others side [] is are = is
at_most_others side (next ∷ sides) is are = (is, are)

at_least_others : (side : Items) (sides : List Items) → IsSide side → AreSides sides → AreOthers AtLeast (side ∷ sides)
at_least_others side [] is are = is
at_least_others side (next ∷ sides) is are = (is, are)

no_others : (r q : Relation) (others : List Items) → others ≡ [] → (others_tokens q others ≡ others_tokens r others)
    × (others_pieces q others ≡ others_pieces r others) × ((side : Items) → IsSide side → AreOthers Equal (side ∷ others))
no_others r q [] e = (refl, refl, λ side is. is)
no_others r q (x ∷ xs) e = cc e

related_sound : (mode : Mode) (before : List Piece) (r : Relation) (depth : ℕ) (barred : Bool) (pairs : ℕ) (chain : Chain) (tokens : List Token) (pieces :
    List Piece)
    → BeforeEnd mode before → IsSound mode depth barred pairs chain (Relates r) tokens pieces (related before r depth barred chain)
related_sound mode before r (suc depth) barred pairs chain tokens pieces b = tt
related_sound mode before r zero true pairs chain tokens pieces b = tt
related_sound mode before r zero false pairs Ends tokens pieces b = tt
related_sound mode before AtMost zero false pairs Starts tokens pieces b = λ ih. let rest = ih tt in
    related_with mode before pairs Starts AtMost rest.relation tokens pieces b rest.items rest.ups rest.side rest.others rest.tokens_are rest.pieces_are
    rest.ups_fit rest.side_fits
    (ap (λ q. others_tokens q rest.others) (sym rest.others_fit.0)) (ap (λ q. others_pieces q rest.others) (sym rest.others_fit.0)) (at_most_others
    rest.items rest.others rest.items_fit rest.others_fit.1)
related_sound mode before AtLeast zero false pairs Starts tokens pieces b = λ ih. let rest = ih tt in
    related_with mode before pairs Starts AtLeast rest.relation tokens pieces b rest.items rest.ups rest.side rest.others rest.tokens_are rest.pieces_are
    rest.ups_fit rest.side_fits
    (ap (λ q. others_tokens q rest.others) (sym rest.others_fit.0)) (ap (λ q. others_pieces q rest.others) (sym rest.others_fit.0)) (at_least_others
    rest.items rest.others rest.items_fit rest.others_fit.1)
related_sound mode before Equal zero false pairs Starts tokens pieces b = λ ih. let rest = ih tt in
    let none = no_others Equal rest.relation rest.others rest.others_fit in
    related_with mode before pairs Starts Equal rest.relation tokens pieces b rest.items rest.ups rest.side rest.others rest.tokens_are rest.pieces_are
    rest.ups_fit rest.side_fits
    none.0 none.1 (none.2 rest.items rest.items_fit)
related_sound mode before AtMost zero false pairs Rises tokens pieces b = λ ih. let rest = ih tt in
    related_with mode before pairs Rises AtMost rest.relation tokens pieces b rest.items rest.ups rest.side rest.others rest.tokens_are rest.pieces_are
    rest.ups_fit rest.side_fits
    (ap (λ q. others_tokens q rest.others) (sym rest.others_fit.0)) (ap (λ q. others_pieces q rest.others) (sym rest.others_fit.0)) (
      refl,
      (
        rest.items_fit,
        rest.others_fit.1,
      ),
    )
related_sound mode before AtLeast zero false pairs Falls tokens pieces b = λ ih. let rest = ih tt in
    related_with mode before pairs Falls AtLeast rest.relation tokens pieces b rest.items rest.ups rest.side rest.others rest.tokens_are rest.pieces_are
    rest.ups_fit rest.side_fits
    (ap (λ q. others_tokens q rest.others) (sym rest.others_fit.0)) (ap (λ q. others_pieces q rest.others) (sym rest.others_fit.0)) (
      refl,
      (
        rest.items_fit,
        rest.others_fit.1,
      ),
    )
related_sound mode before AtLeast zero false pairs Rises tokens pieces b = tt
related_sound mode before Equal zero false pairs Rises tokens pieces b = tt
related_sound mode before AtMost zero false pairs Falls tokens pieces b = tt
related_sound mode before Equal zero false pairs Falls tokens pieces b = tt

ended_sound : (mode : Mode) (before : List Piece) (depth : ℕ) (barred : Bool) (pairs : ℕ) (chain : Chain) (token : Token) (tokens : List Token) (pieces :
    List Piece)
    → BeforeEnd mode before → IsSound mode depth barred pairs chain token tokens pieces (ended before depth barred pairs chain token)
ended_sound mode before depth barred pairs chain (Signed s) tokens pieces b = sign_sound mode before depth barred pairs chain s tokens pieces b
ended_sound mode before depth barred pairs chain Close tokens pieces b = closed_sound mode before depth barred pairs chain tokens pieces b
ended_sound mode before depth barred pairs chain Bar tokens pieces b = bar_closed_sound mode before depth barred pairs chain tokens pieces b
ended_sound mode before depth barred pairs chain (Relates r) tokens pieces b = related_sound mode before r depth barred pairs chain tokens pieces b
ended_sound mode before depth barred pairs chain Star tokens pieces b = tt
ended_sound mode before depth barred pairs chain Slash tokens pieces b = tt
ended_sound mode before depth barred pairs chain Open tokens pieces b = tt
ended_sound mode before depth barred pairs chain (Named x) tokens pieces b = tt
ended_sound mode before depth barred pairs chain (Number n) tokens pieces b = tt
ended_sound mode before depth barred pairs chain (Const c) tokens pieces b = tt
ended_sound mode before depth barred pairs chain Bad tokens pieces b = tt

-- ---- within an item: the same item, one token on

-- the tokens behind are more by one, and what fits then fits now
onward : (mode next : Mode) (depth : ℕ) (barred : Bool) (pairs : ℕ) (chain : Chain) (token : Token) (tokens : List Token) (pieces : List Piece)
    → consumed mode ++ (token ∷ tokens) ≡ consumed next ++ tokens → ((p d : ℕ) (items : Items) → ItemsFit next p d items → ItemsFit mode p d items)
    → Rest next depth barred pairs chain tokens pieces → Rest mode depth barred pairs chain (token ∷ tokens) pieces
onward mode next depth barred pairs chain token tokens pieces same fit rest = record {
  items = rest.items;
  ups = rest.ups;
  side = rest.side;
  relation = rest.relation;
  others = rest.others;
  tokens_are = same ∙ rest.tokens_are;
  pieces_are = rest.pieces_are;
  items_fit = fit (room depth barred pairs) depth rest.items rest.items_fit;
  ups_fit = rest.ups_fit;
  side_fits = rest.side_fits;
  others_fit = rest.others_fit;
}

signed_sound : (s : Option Sign) (t : Sign) (depth : ℕ) (barred : Bool) (pairs : ℕ) (chain : Chain) (tokens : List Token) (pieces : List Piece)
    → IsSound (Want s) depth barred pairs chain (Signed t) tokens pieces (signed s t depth barred pairs chain)
signed_sound None t depth barred pairs chain tokens pieces = λ ih.
    onward (Want None) (Want (Some t)) depth barred pairs chain (Signed t) tokens pieces refl (λ p d items fit. (fit.0, lead_may p d items fit.1)) (ih tt)
signed_sound (Some s) t depth barred pairs chain tokens pieces = tt

wanted_sound : (s : Option Sign) (depth : ℕ) (barred : Bool) (pairs : ℕ) (chain : Chain) (token : Token) (tokens : List Token) (pieces : List Piece)
    → IsSound (Want s) depth barred pairs chain token tokens pieces (wanted s depth barred pairs chain token)
wanted_sound s depth barred pairs chain (Signed t) tokens pieces = signed_sound s t depth barred pairs chain tokens pieces
wanted_sound s depth barred pairs chain (Number n) tokens pieces = λ ih.
    onward (Want s) (After s (Whole n)) depth barred pairs chain (Number n) tokens pieces (sym (append_assoc (sign_tokens s) (Number n ∷ []) tokens)) (λ p
    d items fit. fit) (ih tt)
wanted_sound s depth barred pairs chain (Const c) tokens pieces = λ ih.
    onward (Want s) (After s (Known c)) depth barred pairs chain (Const c) tokens pieces (sym (append_assoc (sign_tokens s) (Const c ∷ []) tokens)) (λ p d
    items fit. fit) (ih tt)
wanted_sound s depth barred pairs chain (Named x) tokens pieces = tailed_sound (Want s) s None depth barred pairs chain (Named x) tokens pieces (want_tail s)
wanted_sound s depth barred pairs chain Open tokens pieces = tailed_sound (Want s) s None depth barred pairs chain Open tokens pieces (want_tail s)
wanted_sound s depth barred pairs chain Bar tokens pieces = tailed_sound (Want s) s None depth barred pairs chain Bar tokens pieces (want_tail s)
wanted_sound s depth barred pairs chain Star tokens pieces = tt
wanted_sound s depth barred pairs chain Slash tokens pieces = tt
wanted_sound s depth barred pairs chain Close tokens pieces = tt
wanted_sound s depth barred pairs chain (Relates r) tokens pieces = tt
wanted_sound s depth barred pairs chain Bad tokens pieces = tt

slashed_sound : (s : Option Sign) (f : Factor) (depth : ℕ) (barred : Bool) (pairs : ℕ) (chain : Chain) (tokens : List Token) (pieces : List Piece)
    → IsSound (After s f) depth barred pairs chain Slash tokens pieces (slashed s f depth barred pairs chain)
slashed_sound s (Ratio n d) depth barred pairs chain tokens pieces = tt
slashed_sound s (Known c) depth barred pairs chain tokens pieces = tt
slashed_sound s (Whole n) depth barred pairs chain tokens pieces =
    let P : Move → Type 0 = λ m. IsSound (After s (Whole n)) depth barred pairs chain Slash tokens pieces m in
    cond_both n.plain _ None P
    (λ plain ih. onward (After s (Whole n)) (Over s n) depth barred pairs chain Slash tokens pieces
    (append_assoc (sign_tokens s) (Number n ∷ []) (Slash ∷ tokens) ∙ sym (append_assoc (sign_tokens s) (Number n ∷ Slash ∷ []) tokens)) (λ p d items fit.
    fit) (ih plain))
    (λ _. tt)

barred_after_sound : (s : Option Sign) (f : Factor) (depth : ℕ) (barred : Bool) (pairs : ℕ) (chain : Chain) (tokens : List Token) (pieces : List Piece)
    → IsFactor f → IsSound (After s f) depth barred pairs chain Bar tokens pieces (barred_after s f depth barred pairs chain)
barred_after_sound s f depth true pairs chain tokens pieces fits = bar_closed_sound (After s f) _ depth true pairs chain tokens pieces (after_end s f fits)
barred_after_sound s f depth false pairs chain tokens pieces fits = bar_opened_sound (After s f) s (Some f) depth false pairs chain tokens pieces
    (after_tail s f fits)

star_moves : (a b c : List Token) → (a ++ b) ++ (Star ∷ c) ≡ (a ++ (b ++ (Star ∷ []))) ++ c
star_moves a b c = simp append_assoc

behind_factor_sound : (s : Option Sign) (f : Factor) (depth : ℕ) (barred : Bool) (pairs : ℕ) (chain : Chain) (token : Token) (tokens : List Token) (pieces
    : List Piece)
    → IsFactor f → IsSound (After s f) depth barred pairs chain token tokens pieces (behind_factor s f depth barred pairs chain token)
behind_factor_sound s f depth barred pairs chain Slash tokens pieces fits = slashed_sound s f depth barred pairs chain tokens pieces
behind_factor_sound s f depth barred pairs chain Star tokens pieces fits = λ ih.
    onward (After s f) (Starred s f) depth barred pairs chain Star tokens pieces (star_moves (sign_tokens s) (factor_tokens f) tokens) (λ p d items fit.
    fit) (ih fits)
behind_factor_sound s f depth barred pairs chain (Named x) tokens pieces fits = tailed_sound (After s f) s (Some f) depth barred pairs chain (Named x)
    tokens pieces (after_tail s f fits)
behind_factor_sound s f depth barred pairs chain Open tokens pieces fits = tailed_sound (After s f) s (Some f) depth barred pairs chain Open tokens pieces
    (after_tail s f fits)
behind_factor_sound s f depth barred pairs chain Bar tokens pieces fits = barred_after_sound s f depth barred pairs chain tokens pieces fits
behind_factor_sound s f depth barred pairs chain (Signed t) tokens pieces fits = ended_sound (After s f) _ depth barred pairs chain (Signed t) tokens
    pieces (after_end s f fits)
behind_factor_sound s f depth barred pairs chain Close tokens pieces fits = ended_sound (After s f) _ depth barred pairs chain Close tokens pieces
    (after_end s f fits)
behind_factor_sound s f depth barred pairs chain (Relates r) tokens pieces fits = ended_sound (After s f) _ depth barred pairs chain (Relates r) tokens
    pieces (after_end s f fits)
behind_factor_sound s f depth barred pairs chain (Number n) tokens pieces fits = tt
behind_factor_sound s f depth barred pairs chain (Const c) tokens pieces fits = tt
behind_factor_sound s f depth barred pairs chain Bad tokens pieces fits = tt

denominator_sound : (s : Option Sign) (n d : Numeral) (depth : ℕ) (barred : Bool) (pairs : ℕ) (chain : Chain) (tokens : List Token) (pieces : List Piece)
    → n.plain ≡ true → IsSound (Over s n) depth barred pairs chain (Number d) tokens pieces (divided_by s n depth barred pairs chain (Number d))
denominator_sound s n d depth barred pairs chain tokens pieces plain =
    let P : Move → Type 0 = λ m. IsSound (Over s n) depth barred pairs chain (Number d) tokens pieces m in
    cond_both d.plain _ None P
    (λ low ih. onward (Over s n) (After s (Ratio n d)) depth barred pairs chain (Number d) tokens pieces
    (append_assoc (sign_tokens s) (Number n ∷ Slash ∷ []) (Number d ∷ tokens) ∙ sym (append_assoc (sign_tokens s) (Number n ∷ Slash ∷ Number d ∷ [])
    tokens)) (λ p e items fit. fit) (ih (plain, low)))
    (λ _. tt)

divided_by_sound : (s : Option Sign) (n : Numeral) (depth : ℕ) (barred : Bool) (pairs : ℕ) (chain : Chain) (token : Token) (tokens : List Token) (pieces :
    List Piece)
    → n.plain ≡ true → IsSound (Over s n) depth barred pairs chain token tokens pieces (divided_by s n depth barred pairs chain token)
divided_by_sound s n depth barred pairs chain (Number d) tokens pieces plain = denominator_sound s n d depth barred pairs chain tokens pieces plain
divided_by_sound s n depth barred pairs chain (Signed t) tokens pieces plain = tt
divided_by_sound s n depth barred pairs chain Star tokens pieces plain = tt
divided_by_sound s n depth barred pairs chain Slash tokens pieces plain = tt
divided_by_sound s n depth barred pairs chain Open tokens pieces plain = tt
divided_by_sound s n depth barred pairs chain Close tokens pieces plain = tt
divided_by_sound s n depth barred pairs chain Bar tokens pieces plain = tt
divided_by_sound s n depth barred pairs chain (Relates r) tokens pieces plain = tt
divided_by_sound s n depth barred pairs chain (Named x) tokens pieces plain = tt
divided_by_sound s n depth barred pairs chain (Const c) tokens pieces plain = tt
divided_by_sound s n depth barred pairs chain Bad tokens pieces plain = tt

-- each move is sound
step_sound : (mode : Mode) (depth : ℕ) (barred : Bool) (pairs : ℕ) (chain : Chain) (token : Token) (tokens : List Token) (pieces : List Piece)
    → ModeFits mode → IsSound mode depth barred pairs chain token tokens pieces (step_in mode depth barred pairs chain token)
step_sound (Want s) depth barred pairs chain token tokens pieces fits = wanted_sound s depth barred pairs chain token tokens pieces
step_sound (After s f) depth barred pairs chain token tokens pieces fits = behind_factor_sound s f depth barred pairs chain token tokens pieces fits
step_sound (Over s n) depth barred pairs chain token tokens pieces fits = divided_by_sound s n depth barred pairs chain token tokens pieces fits
step_sound (Starred s f) depth barred pairs chain token tokens pieces fits = tailed_sound (Starred s f) s (Some f) depth barred pairs chain token tokens
    pieces (starred_tail s f fits)
step_sound Done depth barred pairs chain token tokens pieces fits = ended_sound Done [] depth barred pairs chain token tokens pieces done_end

-- ---- the end of the text

abbrev IsSoundEnd : Mode → ℕ → Bool → ℕ → Chain → Option (List Piece) → Type 0
IsSoundEnd mode depth barred pairs chain None = Unit {0}
IsSoundEnd mode depth barred pairs chain (Some pieces) = Rest mode depth barred pairs chain [] pieces

chain_ends : (chain : Chain) → may_end zero false chain ≡ true → (r : Relation) × FitOthers chain r []
chain_ends Starts may = cc may
chain_ends Rises may = (AtMost, (refl, tt))
chain_ends Falls may = (AtLeast, (refl, tt))
chain_ends Ends may = (AtMost, refl)

last_with : (mode : Mode) (before : List Piece) (pairs : ℕ) (chain : Chain) → BeforeEnd mode before → may_end zero false chain ≡ true
    → Rest mode zero false pairs chain [] before
last_with mode before pairs chain b may =
    let last = chain_ends chain may in
    record {
      items = b.put End;
      ups = [];
      side = None;
      relation = last.0;
      others = [];
      tokens_are = at_end (consumed mode) (tokens_of (b.put End)) [] (b.tokens End);
      pieces_are = sym (append-nil before) ∙ at_end before (pieces_of (b.put End)) [] (b.pieces End);
      items_fit = b.fit pairs 0 End tt;
      ups_fit = tt;
      side_fits = tt;
      others_fit = last.1;
    }

mode_ends : (mode : Mode) (pairs : ℕ) (chain : Chain) → ModeFits mode → may_end zero false chain ≡ true
    → IsSoundEnd mode zero false pairs chain (last_pieces mode)
mode_ends (Want s) pairs chain fits may = tt
mode_ends (After s f) pairs chain fits may = last_with (After s f) _ pairs chain (after_end s f fits) may
mode_ends (Over s n) pairs chain fits may = tt
mode_ends (Starred s f) pairs chain fits may = tt
mode_ends Done pairs chain fits may = last_with Done [] pairs chain done_end may

ending_sound : (mode : Mode) (depth : ℕ) (barred : Bool) (pairs : ℕ) (chain : Chain) → ModeFits mode
    → IsSoundEnd mode depth barred pairs chain (if may_end depth barred chain then last_pieces mode else None)
ending_sound mode (suc depth) barred pairs chain fits = tt
ending_sound mode zero true pairs chain fits = tt
ending_sound mode zero false pairs chain fits =
    let P : Option (List Piece) → Type 0 = λ o. IsSoundEnd mode zero false pairs chain o in
    cond_both (may_end zero false chain) (last_pieces mode) None P (λ may. mode_ends mode pairs chain fits may) (λ _. tt)

-- ---- all tokens

-- what is read to the end is a rest in the grammar
pub reads_sound : (tokens : List Token) (state : State) (pieces : List Piece) → ModeFits state.mode → reads state tokens ≡ Some pieces
    → Rest state.mode state.context.depth state.context.barred state.context.pairs state.context.chain tokens pieces
reads_sound [] state pieces fits is =
    let P : Option (List Piece) → Type 0 = λ o. IsSoundEnd state.mode state.context.depth state.context.barred state.context.pairs state.context.chain o in
    subst P is (ending_sound state.mode state.context.depth state.context.barred state.context.pairs state.context.chain fits)
reads_sound (token ∷ tokens) state pieces fits is =
    let moved = and_then_is (λ (m : List Piece × State). option_map (λ ps. m.0 ++ ps) (reads m.1 tokens)) (step state token) pieces is in
    let more = map_is (λ ps. moved.0.0 ++ ps) (reads moved.0.1 tokens) pieces moved.2 in
    let P : Move → Type 0 = λ m. IsSound state.mode state.context.depth state.context.barred state.context.pairs state.context.chain token tokens more.0 m in
    let sound = subst P moved.1 (step_sound state.mode state.context.depth state.context.barred state.context.pairs state.context.chain token tokens more.0
    fits) in
    let Q : List Piece → Type 0 = λ ps. Rest state.mode state.context.depth state.context.barred state.context.pairs state.context.chain (token ∷ tokens) ps in
    subst Q more.2 (sound (λ next. reads_sound tokens moved.0.1 more.0 next more.1))
