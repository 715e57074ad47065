-- The answers of the loop over the tokens, for each language that the machine reads from a start.
use Rattle.std.proofs.Common.{◌≡◌, inl, inr, ⊎_elim, ℕ, suc, true, List, [], ◌∷◌, take, Option, Some, None, Result, Ok, Err, refl, ap, subst}
use Rattle.std.specs.Prelude.{IfOk, IsErrOf}
use Rattle.pa_math.specs.Answers.{given, needed, IsAnswer, seen_as}
use Rattle.pa_grammar.specs.declared.token.Token.{Token}
use Rattle.pa_grammar.specs.declared.token.Placed.{Placed}
use Rattle.pa_grammar.specs.declared.machine.Piece.{Piece}
use Rattle.pa_grammar.specs.declared.machine.State.{State}
use Rattle.pa_grammar.specs.declared.parse.ParseFault.{ParseFault}
use Rattle.pa_grammar.specs.declared.parse.ParseFault.TheVariants.{Memory, Syntax}
use Rattle.pa_grammar.specs.Grammar.{Items, IsPlain, TermTokens, PlainTokens, Begins, tokens_of}
use Rattle.pa_grammar.specs.Machine.{Move, step, ending, reads, runs, term_start, plain_start, term_pieces, pieces_of}
use Rattle.pa_grammar.specs.Parsed.{parsed, behind, tokens_in, IsPlainWith, IsRefused, IsSyntaxFault}
use Rattle.pa_grammar.proofs.Complete.{term_read, plain_read}
use Rattle.pa_grammar.proofs.Faults.{parsed_ok, parsed_err}
use Rattle.pa_grammar.proofs.Places.{no_fault, same_fault}
use Rattle.pa_grammar.proofs.Viable.{read_is_term, begins_is_taken, taken_begins, read_is_plain, begins_plain_is_taken, taken_begins_plain}

-- the machine reads a language from a start
record IsReadFrom (start : State) (Language : List Token → Type 0) : Type 0 where
  begins : (tokens : List Token) → runs start tokens ≡ true → Begins Language tokens
  taken : (tokens : List Token) → Begins Language tokens → runs start tokens ≡ true
  sound : (tokens : List Token) (pieces : List Piece) → reads start tokens ≡ Some pieces → Language tokens
  complete : (tokens : List Token) → Language tokens → (pieces : List Piece) × (reads start tokens ≡ Some pieces)

-- where the loop is refused, nothing goes on
fault_of : (start : State) (Language : List Token → Type 0) (end : ℕ) (placed : List Placed) (at : ℕ) → IsReadFrom start Language
    → parsed end start placed ≡ Err (Syntax at)
    → IsSyntaxFault Language placed end at
fault_of start Language end placed at m is = ⊎_elim
    (λ s. inl (record {
      place = s.place;
      token = s.token;
      there = s.there;
      at_is = s.at_is;
      before = m.begins (take s.place (tokens_in placed)) s.taken;
      after = λ begins. cc (m.taken (take (suc s.place) (tokens_in placed)) begins, s.refused);
    }))
    (λ s. inr (
      record { all = m.begins (tokens_in placed) s.taken; none = λ text. let read = m.complete (tokens_in placed) text in cc (read.1, s.unread) },
      s.at_is,
    ))
    (parsed_err end placed start at is)

needed_not : (end : ℕ) (o : Option (List Piece)) → ¬ (needed (Syntax end) o ≡ Err Memory)
needed_not end (Some v) is = cc
needed_not end None is = cc

behind_not : (front : List Piece) (r : Result (List Piece) ParseFault) → ¬ (r ≡ Err Memory) → ¬ (behind front r ≡ Err Memory)
behind_not front (Ok ps) further is = cc
behind_not front (Err (Syntax at)) further is = cc
behind_not front (Err Memory) further is = further refl

step_not : (end at : ℕ) (ps : List Placed) (move : Move) → ((next : State) → ¬ (parsed end next ps ≡ Err Memory))
    → ¬ (given (Err (Syntax at)) move (λ m. behind m.0 (parsed end m.1 ps)) ≡ Err Memory)
step_not end at ps None further is = cc
step_not end at ps (Some m) further is = behind_not m.0 (parsed end m.1 ps) (further m.1) is

pub not_memory : (end : ℕ) (placed : List Placed) (state : State) → ¬ (parsed end state placed ≡ Err Memory)
not_memory end [] state is = needed_not end (ending state) is
not_memory end (p ∷ ps) state is = step_not end p.at ps (step state p.token) (λ next. not_memory end ps next) is

-- where nothing goes on, the loop is refused
due_of : (start : State) (Language : List Token → Type 0) (end : ℕ) (placed : List Placed) (at : ℕ) (due : Result (List Piece) ParseFault)
    → IsReadFrom start Language → parsed end start placed ≡ due
    → IsSyntaxFault Language placed end at → due ≡ Err (Syntax at)
due_of start Language end placed at (Ok pieces) m is fault =
    absurd (no_fault Language placed end at (m.sound (tokens_in placed) pieces (parsed_ok end placed start pieces is)) fault)
due_of start Language end placed at (Err (Syntax other)) m is fault =
    ap (λ n. Err (Syntax n)) (same_fault Language placed end other at (fault_of start Language end placed other m is) fault)
due_of start Language end placed at (Err Memory) m is fault = absurd (not_memory end placed start is)

same_fault_of : (f g : ParseFault) (due : Result (List Piece) ParseFault) → due ≡ Err f → due ≡ Err g → f ≡ g
same_fault_of f g due is is_other = cc

answer_due : {A : Type 0} (view : A → List Piece) (start : State) (Language : List Token → Type 0) (end : ℕ) (placed : List Placed) (result : Result A
    ParseFault) (at : ℕ) → IsReadFrom start Language
    → IsAnswer Memory (parsed end start placed) (seen_as view result) → IsSyntaxFault Language placed end at → IsRefused Memory result (Syntax at)
answer_due view start Language end placed (Ok a) at m answer fault =
    let due : parsed end start placed ≡ Err (Syntax at) = due_of start Language end placed at (parsed end start placed) m refl fault in
    cc (answer, due)
answer_due view start Language end placed (Err f) at m answer fault =
    let due : parsed end start placed ≡ Err (Syntax at) = due_of start Language end placed at (parsed end start placed) m refl fault in
    ⊎_elim (λ memory. inl (ap Err memory)) (λ refused. inr (ap Err (same_fault_of f (Syntax at) (parsed end start placed) refused due))) answer

-- ---- terms

terms_read : IsReadFrom term_start TermTokens
terms_read = record {
  begins = taken_begins;
  taken = begins_is_taken;
  sound = λ tokens pieces is. let read = read_is_term tokens pieces is in (read.term, read.is_term, read.tokens_are);
  complete = λ tokens text. (term_pieces text.0, subst (λ all. reads term_start all ≡ Some (term_pieces text.0)) text.2 (term_read text.0 text.1));
}

pub term_due : {A : Type 0} (view : A → List Piece) (end : ℕ) (placed : List Placed) (result : Result A ParseFault) (at : ℕ)
    → IsAnswer Memory (parsed end term_start placed) (seen_as view result) → IsSyntaxFault TermTokens placed end at → IsRefused Memory result (Syntax at)
term_due view end placed result at answer fault = answer_due view term_start TermTokens end placed result at terms_read answer fault

pub term_fault_due : (end : ℕ) (placed : List Placed) (at : ℕ) → IsSyntaxFault TermTokens placed end at → parsed end term_start placed ≡ Err (Syntax at)
term_fault_due end placed at fault = due_of term_start TermTokens end placed at (parsed end term_start placed) terms_read refl fault

-- ---- plains

plains_read : IsReadFrom plain_start PlainTokens
plains_read = record {
  begins = taken_begins_plain;
  taken = begins_plain_is_taken;
  sound = λ tokens pieces is. let read = read_is_plain tokens pieces is in (read.items, read.is_plain, read.tokens_are);
  complete = λ tokens text. (pieces_of text.0, subst (λ all. reads plain_start all ≡ Some (pieces_of text.0)) text.2 (plain_read text.0 text.1));
}

pub plain_due : {A : Type 0} (view : A → List Piece) (end : ℕ) (placed : List Placed) (result : Result A ParseFault) (at : ℕ)
    → IsAnswer Memory (parsed end plain_start placed) (seen_as view result) → IsSyntaxFault PlainTokens placed end at → IsRefused Memory result (Syntax at)
plain_due view end placed result at answer fault = answer_due view plain_start PlainTokens end placed result at plains_read answer fault

pub plain_syntax : {A : Type 0} (view : A → List Piece) (end : ℕ) (placed : List Placed) (result : Result A ParseFault) (at : ℕ)
    → IsAnswer Memory (parsed end plain_start placed) (seen_as view result)
    → IsErrOf result (Syntax at) → IsSyntaxFault PlainTokens placed end at
plain_syntax view end placed (Ok pieces) at answer is = cc is
plain_syntax view end placed (Err f) at answer is = ⊎_elim (λ memory. cc (memory, is)) (λ refused. fault_of plain_start PlainTokens end placed at
    plains_read (cc (refused, is))) answer

pub plain_clause : {A : Type 0} (view : A → List Piece) (end : ℕ) (placed : List Placed) (result : Result A ParseFault)
    → IsAnswer Memory (parsed end plain_start placed) (seen_as view result)
    → IfOk result (λ pieces. IsPlainWith (tokens_in placed) (view pieces))
plain_clause view end placed (Ok pieces) answer =
    let read = read_is_plain (tokens_in placed) (view pieces) (parsed_ok end placed plain_start (view pieces) answer) in
    record { items = read.items; is_plain = read.is_plain; tokens_are = read.tokens_are; pieces_are = read.pieces_are }
plain_clause view end placed (Err f) answer = tt

pub plain_only : {A : Type 0} (view : A → List Piece) (end : ℕ) (placed : List Placed) (result : Result A ParseFault) (items : Items)
    → IsAnswer Memory (parsed end plain_start placed) (seen_as view result)
    → IsPlain items → tokens_of items ≡ tokens_in placed → IfOk result (λ pieces. view pieces ≡ pieces_of items)
plain_only view end placed (Ok pieces) items answer is_plain same =
    let read : reads plain_start (tokens_in placed) ≡ Some (pieces_of items) = subst (λ all. reads plain_start all ≡ Some (pieces_of items)) same
    (plain_read items is_plain) in
    let found : reads plain_start (tokens_in placed) ≡ Some (view pieces) = parsed_ok end placed plain_start (view pieces) answer in
    cc (read, found)
plain_only view end placed (Err f) items answer is_plain same = tt

pub plain_fault : (end : ℕ) (placed : List Placed) (at : ℕ) → parsed end plain_start placed ≡ Err (Syntax at) → IsSyntaxFault PlainTokens placed end at
plain_fault end placed at is = fault_of plain_start PlainTokens end placed at plains_read is

pub plain_fault_due : (end : ℕ) (placed : List Placed) (at : ℕ) → IsSyntaxFault PlainTokens placed end at → parsed end plain_start placed ≡ Err (Syntax at)
plain_fault_due end placed at fault = due_of plain_start PlainTokens end placed at (parsed end plain_start placed) plains_read refl fault
