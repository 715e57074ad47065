-- What is read as a value, and where the reading ends, by the grammar.
use Rattle.std.proofs.Common.{◌≡◌, inl, inr, ℕ, suc, true, List, [], ◌∷◌, ◌++◌, take, Option, Some, None, Result, Ok, Err, refl, ap, sym, ◌∙◌, append_assoc}
use Rattle.std.proofs.Common.{subst}
use Rattle.std.specs.Prelude.{◌↔◌, IfOk}
use Rattle.std.proofs.lemmas.Bool.{cond_both, cond-true}
use Rattle.std.proofs.lemmas.List.{append-nil}
use Rattle.pa_math.specs.Answers.{needed, given}
use Rattle.pa_grammar.specs.declared.token.Sign.{Sign}
use Rattle.pa_grammar.specs.declared.token.Numeral.{Numeral}
use Rattle.pa_grammar.specs.declared.token.Token.{Token}
use Rattle.pa_grammar.specs.declared.token.Token.TheVariants.{Signed, Star, Slash, Open, Close, Bar, Relates, Named, Number, Const, Bad}
use Rattle.pa_grammar.specs.declared.token.Placed.{Placed}
use Rattle.pa_grammar.specs.declared.machine.Factor.{Factor}
use Rattle.pa_grammar.specs.declared.machine.Factor.TheVariants.{Whole, Ratio, Known}
use Rattle.pa_grammar.specs.declared.machine.Mode.{Mode}
use Rattle.pa_grammar.specs.declared.machine.Mode.TheVariants.{Want, After, Over, Starred, Done}
use Rattle.pa_grammar.specs.declared.parse.ParseFault.{ParseFault}
use Rattle.pa_grammar.specs.declared.parse.ParseFault.TheVariants.{Memory, Syntax}
use Rattle.pa_grammar.specs.declared.value.Value.{Value}
use Rattle.pa_grammar.specs.Grammar.{Begins, sign_tokens, factor_tokens}
use Rattle.pa_grammar.specs.Parsed.{tokens_in, IsSyntaxFault}
use Rattle.pa_grammar.specs.Value.{value_tokens, IsWritten, IsValue, ValueTokens, signed_once, divided, begun, read_on, over_number, value_step, value_ending}
use Rattle.pa_grammar.specs.Value.{value_parsed}
use Rattle.pa_grammar.proofs.Sound.{consumed}
use Rattle.pa_grammar.proofs.Places.{no_fault, same_fault}

-- the modes in which a value is read
abbrev Fits : Mode → Type 0
Fits (Want s) = Unit {0}
Fits (After s f) = IsWritten f
Fits (Over s n) = n.plain ≡ true
Fits (Starred s f) = ⊥
Fits Done = ⊥

-- a mode one token on: the tokens behind are more by one
abbrev IsNext : Mode → Token → Option Mode → Type 0
IsNext mode token None = Unit {0}
IsNext mode token (Some next) = Fits next × ((more : List Token) → consumed mode ++ (token ∷ more) ≡ consumed next ++ more)

signed_next : (s : Option Sign) (t : Sign) → IsNext (Want s) (Signed t) (signed_once s t)
signed_next None t = (tt, λ more. refl)
signed_next (Some s) t = tt

begun_next : (s : Option Sign) (token : Token) → IsNext (Want s) token (begun s token)
begun_next s (Signed t) = signed_next s t
begun_next s (Number n) = (tt, λ more. sym (append_assoc (sign_tokens s) (Number n ∷ []) more))
begun_next s Star = tt
begun_next s Slash = tt
begun_next s Open = tt
begun_next s Close = tt
begun_next s Bar = tt
begun_next s (Relates r) = tt
begun_next s (Named x) = tt
begun_next s (Const c) = tt
begun_next s Bad = tt

divided_next : (s : Option Sign) (f : Factor) → IsNext (After s f) Slash (divided s f)
divided_next s (Ratio n d) = tt
divided_next s (Known c) = tt
divided_next s (Whole n) =
    let P : Option Mode → Type 0 = λ o. IsNext (After s (Whole n)) Slash o in
    cond_both n.plain (Some (Over s n)) None P
    (λ plain. (plain, λ more. append_assoc (sign_tokens s) (Number n ∷ []) (Slash ∷ more) ∙ sym (append_assoc (sign_tokens s) (Number n ∷ Slash ∷ []) more)))
    (λ _. tt)

read_next : (s : Option Sign) (f : Factor) (token : Token) → IsNext (After s f) token (read_on s f token)
read_next s f Slash = divided_next s f
read_next s f (Signed t) = tt
read_next s f Star = tt
read_next s f Open = tt
read_next s f Close = tt
read_next s f Bar = tt
read_next s f (Relates r) = tt
read_next s f (Named x) = tt
read_next s f (Number n) = tt
read_next s f (Const c) = tt
read_next s f Bad = tt

over_next : (s : Option Sign) (m : Numeral) (token : Token) → m.plain ≡ true → IsNext (Over s m) token (over_number s m token)
over_next s m (Number d) plain =
    let P : Option Mode → Type 0 = λ o. IsNext (Over s m) (Number d) o in
    cond_both d.plain (Some (After s (Ratio m d))) None P
    (λ low. (
      (plain, low),
      λ more. append_assoc (sign_tokens s) (Number m ∷ Slash ∷ []) (Number d ∷ more)
          ∙ sym (append_assoc (sign_tokens s) (Number m ∷ Slash ∷ Number d ∷ []) more),
    ))
    (λ _. tt)
over_next s m (Signed t) plain = tt
over_next s m Star plain = tt
over_next s m Slash plain = tt
over_next s m Open plain = tt
over_next s m Close plain = tt
over_next s m Bar plain = tt
over_next s m (Relates r) plain = tt
over_next s m (Named x) plain = tt
over_next s m (Const c) plain = tt
over_next s m Bad plain = tt

next_of : (mode : Mode) (token : Token) → Fits mode → IsNext mode token (value_step mode token)
next_of (Want s) token fits = begun_next s token
next_of (After s f) token fits = read_next s f token
next_of (Over s n) token fits = over_next s n token fits
next_of (Starred s f) token fits = absurd fits
next_of Done token fits = absurd fits

-- ---- what is read

needed_ok : {A : Type 0} (end : ℕ) (o : Option A) (a : A) → needed (Syntax end) o ≡ Ok a → o ≡ Some a
needed_ok end (Some b) a is = cc
needed_ok end None a is = cc

needed_err : {A : Type 0} (end at : ℕ) (o : Option A) → needed (Syntax end) o ≡ Err (Syntax at) → (o ≡ None) × (at ≡ end)
needed_err end at (Some b) is = cc
needed_err end at None is = (refl, cc)

ended_value : (mode : Mode) (v : Value) → Fits mode → value_ending mode ≡ Some v → IsValue v × (value_tokens v ≡ consumed mode)
ended_value (After s f) v fits is =
    let P : Value → Type 0 = λ w. IsValue w × (value_tokens w ≡ sign_tokens s ++ factor_tokens f) in
    let same : record { sign = s; factor = f } ≡ v = cc in
    subst P same (fits, refl)
ended_value (Want s) v fits is = cc is
ended_value (Over s n) v fits is = cc is
ended_value (Starred s f) v fits is = cc is
ended_value Done v fits is = cc is

ok_by : (end at : ℕ) (mode : Mode) (token : Token) (ps : List Placed) (v : Value) (o : Option Mode) → IsNext mode token o
    → ((next : Mode) → Fits next → value_parsed end next ps ≡ Ok v → IsValue v × (value_tokens v ≡ consumed next ++ tokens_in ps))
    → given (Err (Syntax at)) o (λ next. value_parsed end next ps) ≡ Ok v → IsValue v × (value_tokens v ≡ consumed mode ++ (token ∷ tokens_in ps))
ok_by end at mode token ps v None fits further is = cc is
ok_by end at mode token ps v (Some next) fits further is =
    let rest = further next fits.0 is in
    (rest.0, rest.1 ∙ sym (fits.1 (tokens_in ps)))

parsed_value : (end : ℕ) (placed : List Placed) (mode : Mode) (v : Value) → Fits mode → value_parsed end mode placed ≡ Ok v → IsValue v
    × (value_tokens v ≡ consumed mode ++ tokens_in placed)
parsed_value end [] mode v fits is =
    let last = ended_value mode v fits (needed_ok end (value_ending mode) v is) in
    (last.0, last.1 ∙ sym (append-nil (consumed mode)))
parsed_value end (p ∷ ps) mode v fits is =
    ok_by end p.at mode p.token ps v (value_step mode p.token) (next_of mode p.token fits) (λ next ok. parsed_value end ps next v ok) is

-- ---- each value is read

abbrev reads : Mode → List Token → Option Value
reads mode [] = value_ending mode
reads mode (t ∷ ts) = given None (value_step mode t) (λ next. reads next ts)

factor_reads : (s : Option Sign) (f : Factor) → IsWritten f → reads (Want s) (factor_tokens f) ≡ Some (record { sign = s; factor = f })
factor_reads s (Whole n) fits = refl
factor_reads s (Ratio n d) fits =
    ap (λ o. given None o (λ next. reads next (Number d ∷ []))) (cond-true n.plain (Some (Over s n)) None fits.0)
    ∙ ap (λ o. given None o (λ next. reads next [])) (cond-true d.plain (Some (After s (Ratio n d))) None fits.1)
factor_reads s (Known c) fits = absurd fits

lead_reads : (s : Option Sign) (tokens : List Token) → reads (Want None) (sign_tokens s ++ tokens) ≡ reads (Want s) tokens
lead_reads None tokens = refl
lead_reads (Some s) tokens = refl

value_reads : (v : Value) → IsValue v → reads (Want None) (value_tokens v) ≡ Some v
value_reads v fits = lead_reads v.sign (factor_tokens v.factor) ∙ factor_reads v.sign v.factor fits

-- the tokens behind bring the reading to its mode
factor_consumed : (s : Option Sign) (f : Factor) (more : List Token) → IsWritten f → reads (Want s) (factor_tokens f ++ more) ≡ reads (After s f) more
factor_consumed s (Whole n) more fits = refl
factor_consumed s (Ratio n d) more fits =
    ap (λ o. given None o (λ next. reads next (Number d ∷ more))) (cond-true n.plain (Some (Over s n)) None fits.0)
    ∙ ap (λ o. given None o (λ next. reads next more)) (cond-true d.plain (Some (After s (Ratio n d))) None fits.1)
factor_consumed s (Known c) more fits = absurd fits

consumed_reads : (mode : Mode) (more : List Token) → Fits mode → reads (Want None) (consumed mode ++ more) ≡ reads mode more
consumed_reads (Want s) more fits = lead_reads s more
consumed_reads (After s f) more fits =
    ap (reads (Want None)) (append_assoc (sign_tokens s) (factor_tokens f) more) ∙ lead_reads s (factor_tokens f ++ more) ∙ factor_consumed s f more fits
consumed_reads (Over s n) more fits =
    ap (reads (Want None)) (append_assoc (sign_tokens s) (Number n ∷ Slash ∷ []) more) ∙ lead_reads s (Number n ∷ Slash ∷ more)
    ∙ ap (λ o. given None o (λ next. reads next more)) (cond-true n.plain (Some (Over s n)) None fits)
consumed_reads (Starred s f) more fits = absurd fits
consumed_reads Done more fits = absurd fits

-- what a rest of tokens may be behind those that are read
abbrev Rest : Mode → List Token → Type 0
Rest mode tokens = ValueTokens (consumed mode ++ tokens)

rest_reads : (mode : Mode) (tokens : List Token) → Fits mode → Rest mode tokens → (v : Value) × (reads mode tokens ≡ Some v)
rest_reads mode tokens fits rest =
    let P : List Token → Type 0 = λ xs. reads (Want None) xs ≡ Some rest.0 in
    (rest.0, sym (consumed_reads mode tokens fits) ∙ subst P rest.2 (value_reads rest.0 rest.1))

-- each mode can end
abbrev plain_number : Numeral
plain_number = record { plain = true; value = None }

mode_ends : (mode : Mode) → Fits mode → Begins (Rest mode) []
mode_ends (Want s) fits = (Number plain_number ∷ [], (record { sign = s; factor = Whole plain_number }, tt, refl))
mode_ends (After s f) fits = ([], (record { sign = s; factor = f }, fits, sym (append-nil (sign_tokens s ++ factor_tokens f))))
mode_ends (Over s n) fits = (
  Number plain_number ∷ [],
  (
    record { sign = s; factor = Ratio n plain_number },
    (fits, refl),
    sym (append_assoc (sign_tokens s)
        (Number n ∷ Slash ∷ []) (Number plain_number ∷ [])),
  ),
)
mode_ends (Starred s f) fits = absurd fits
mode_ends Done fits = absurd fits

-- ---- where the reading ends

begins_on : (mode next : Mode) (token : Token) (tokens : List Token) → ((more : List Token) → consumed mode ++ (token ∷ more) ≡ consumed next ++ more)
    → Begins (Rest next) tokens → Begins (Rest mode) (token ∷ tokens)
begins_on mode next token tokens same begins = (begins.0, subst ValueTokens (sym (same (tokens ++ begins.0))) begins.1)

begins_off : (mode next : Mode) (token : Token) (tokens : List Token) → ((more : List Token) → consumed mode ++ (token ∷ more) ≡ consumed next ++ more)
    → Begins (Rest mode) (token ∷ tokens) → Begins (Rest next) tokens
begins_off mode next token tokens same begins = (begins.0, subst ValueTokens (same (tokens ++ begins.0)) begins.1)

fault_on : (end at : ℕ) (mode next : Mode) (p : Placed) (ps : List Placed) → ((more : List Token) → consumed mode ++ (p.token ∷ more) ≡ consumed next ++ more)
    → IsSyntaxFault (Rest next) ps end at → IsSyntaxFault (Rest mode) (p ∷ ps) end at
fault_on end at mode next p ps same (inl s) = inl (record {
  place = suc s.place;
  token = s.token;
  there = s.there;
  at_is = s.at_is;
  before = begins_on mode next p.token (take s.place (tokens_in ps)) same s.before;
  after = λ begins. s.after (begins_off mode next p.token (take (suc s.place) (tokens_in ps)) same begins);
})
fault_on end at mode next p ps same (inr c) = inr (
  record {
    all = begins_on mode next p.token (tokens_in ps) same c.0.all;
    none = λ rest. c.0.none (subst ValueTokens (same (tokens_in ps)) rest);
  },
  c.1,
)

no_rest : (mode : Mode) (token : Token) (more : List Token) → Fits mode → value_step mode token ≡ None → ¬ Rest mode (token ∷ more)
no_rest mode token more fits none rest =
    let read = rest_reads mode (token ∷ more) fits rest in
    cc (ap (λ o. given None o (λ next. reads next more)) none, read.1)

err_by : (end at : ℕ) (mode : Mode) (p : Placed) (ps : List Placed) (o : Option Mode) → value_step mode p.token ≡ o → Fits mode → IsNext mode p.token o
    → ((next : Mode) → Fits next → value_parsed end next ps ≡ Err (Syntax at) → IsSyntaxFault (Rest next) ps end at)
    → given (Err (Syntax p.at)) o (λ next. value_parsed end next ps) ≡ Err (Syntax at) → IsSyntaxFault (Rest mode) (p ∷ ps) end at
err_by end at mode p ps None step fits next further is = inl (record {
  place = 0;
  token = p;
  there = refl;
  at_is = cc is;
  before = mode_ends mode fits;
  after = λ begins. no_rest mode p.token begins.0 fits step begins.1;
})
err_by end at mode p ps (Some m) step fits next further is = fault_on end at mode m p ps next.1 (further m next.0 is)

parsed_fault : (end at : ℕ) (placed : List Placed) (mode : Mode) → Fits mode → value_parsed end mode placed ≡ Err (Syntax at)
    → IsSyntaxFault (Rest mode) placed end at
parsed_fault end at [] mode fits is =
    let last = needed_err end at (value_ending mode) is in
    inr (record { all = mode_ends mode fits; none = λ rest. let read = rest_reads mode [] fits rest in cc (last.0, read.1) }, last.1)
parsed_fault end at (p ∷ ps) mode fits is =
    err_by end at mode p ps (value_step mode p.token) refl fits (next_of mode p.token fits) (λ next ok. parsed_fault end at ps next ok) is

-- ---- the clauses of the call

step_by : (end : ℕ) (p : Placed) (ps : List Placed) (v : Value) (o : Option Mode) → ((next : Mode) → reads next (tokens_in ps) ≡ Some v
    → value_parsed end next ps ≡ Ok v)
    → given None o (λ next. reads next (tokens_in ps)) ≡ Some v → given (Err (Syntax p.at)) o (λ next. value_parsed end next ps) ≡ Ok v
step_by end p ps v None further is = cc is
step_by end p ps v (Some next) further is = further next is

parsed_by : (end : ℕ) (placed : List Placed) (mode : Mode) (v : Value) → reads mode (tokens_in placed) ≡ Some v → value_parsed end mode placed ≡ Ok v
parsed_by end [] mode v is = ap (needed (Syntax end)) is
parsed_by end (p ∷ ps) mode v is = step_by end p ps v (value_step mode p.token) (λ next. parsed_by end ps next v) is

pub value_only : (end : ℕ) (placed : List Placed) (v : Value) → IsValue v → value_tokens v ≡ tokens_in placed → value_parsed end (Want None) placed ≡ Ok v
value_only end placed v fits same =
    let P : List Token → Type 0 = λ xs. reads (Want None) xs ≡ Some v in
    parsed_by end placed (Want None) v (subst P same (value_reads v fits))

pub value_clause : (end : ℕ) (placed : List Placed) (result : Result Value ParseFault) → result ≡ value_parsed end (Want None) placed
    → IfOk result (λ v. IsValue v × (value_tokens v ≡ tokens_in placed))
value_clause end placed (Ok v) is = parsed_value end placed (Want None) v tt (sym is)
value_clause end placed (Err f) is = tt

needed_not : (o : Option Value) (end : ℕ) → ¬ (needed (Syntax end) o ≡ Err Memory)
needed_not (Some v) end is = cc
needed_not None end is = cc

step_not : (end : ℕ) (p : Placed) (ps : List Placed) (o : Option Mode) → ((next : Mode) → ¬ (value_parsed end next ps ≡ Err Memory))
    → ¬ (given (Err (Syntax p.at)) o (λ next. value_parsed end next ps) ≡ Err Memory)
step_not end p ps None further is = cc
step_not end p ps (Some next) further is = further next is

not_memory : (end : ℕ) (placed : List Placed) (mode : Mode) → ¬ (value_parsed end mode placed ≡ Err Memory)
not_memory end [] mode is = needed_not (value_ending mode) end is
not_memory end (p ∷ ps) mode is = step_not end p ps (value_step mode p.token) (λ next. not_memory end ps next) is

due_is : (end at : ℕ) (placed : List Placed) (due : Result Value ParseFault) → value_parsed end (Want None) placed ≡ due
    → IsSyntaxFault ValueTokens placed end at → due ≡ Err (Syntax at)
due_is end at placed (Ok v) is fault =
    let own = parsed_value end placed (Want None) v tt is in
    absurd (no_fault ValueTokens placed end at (v, own.0, own.1) fault)
due_is end at placed (Err (Syntax other)) is fault = ap (λ n. Err (Syntax n)) (same_fault ValueTokens placed end other at (parsed_fault end other placed
    (Want None) tt is) fault)
due_is end at placed (Err Memory) is fault = absurd (not_memory end placed (Want None) is)

pub value_fault : (end at : ℕ) (placed : List Placed) → (value_parsed end (Want None) placed ≡ Err (Syntax at)) ↔ IsSyntaxFault ValueTokens placed end at
value_fault end at placed = (parsed_fault end at placed (Want None) tt, due_is end at placed (value_parsed end (Want None) placed) refl)
