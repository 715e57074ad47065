-- The answers of the loop over the tokens, by the grammar.
use Rattle.std.proofs.Common.{◌≡◌, ◌⊎◌, inl, inr, ⊎_elim, ℕ, suc, true, false, List, [], ◌∷◌, ◌++◌, take, Option, Some, None, Result, Ok, Err, refl, ap, ◌∙◌}
use Rattle.std.proofs.Common.{subst}
use Rattle.std.specs.Prelude.{slice_get, IfOk, IsErrOf}
use Rattle.pa_math.specs.Answers.{given, needed, IsAnswer, seen_as}
use Rattle.pa_grammar.specs.declared.token.Token.{Token}
use Rattle.pa_grammar.specs.declared.token.Placed.{Placed}
use Rattle.pa_grammar.specs.declared.machine.Piece.{Piece}
use Rattle.pa_grammar.specs.declared.machine.State.{State}
use Rattle.pa_grammar.specs.declared.parse.ParseFault.{ParseFault}
use Rattle.pa_grammar.specs.declared.parse.ParseFault.TheVariants.{Memory, Syntax}
use Rattle.pa_grammar.specs.Grammar.{Term, IsTerm, TermTokens, Begins, term_tokens}
use Rattle.pa_grammar.specs.Machine.{Move, step, ending, reads, runs, match_move, term_start, term_pieces}
use Rattle.pa_grammar.specs.Parsed.{parsed, behind, tokens_in, IsTermWith, IsSyntaxFault}
use Rattle.pa_grammar.proofs.Complete.{before, moved_on, term_read}
use Rattle.pa_grammar.proofs.Viable.{read_is_term, begins_is_taken, taken_begins}

needed_ok : {A E : Type 0} (fault : E) (o : Option A) (a : A) → needed fault o ≡ Ok a → o ≡ Some a
needed_ok fault (Some b) a is = cc
needed_ok fault None a is = cc

needed_err : {A : Type 0} (end at : ℕ) (o : Option A) → needed (Syntax end) o ≡ Err (Syntax at) → (o ≡ None) × (at ≡ end)
needed_err end at (Some b) is = cc
needed_err end at None is = (refl, cc)

behind_ok : (front pieces : List Piece) (r : Result (List Piece) ParseFault) → behind front r ≡ Ok pieces
    → (rest : List Piece) × (r ≡ Ok rest) × (front ++ rest ≡ pieces)
behind_ok front pieces (Ok rest) is = (rest, refl, cc)
behind_ok front pieces (Err f) is = cc

behind_err : (front : List Piece) (f : ParseFault) (r : Result (List Piece) ParseFault) → behind front r ≡ Err f → r ≡ Err f
behind_err front f (Ok rest) is = cc
behind_err front f (Err g) is = cc

ok_by : (end at : ℕ) (move : Move) (ps : List Placed) (pieces : List Piece) → ((state : State) (rest : List Piece) → parsed end state ps ≡ Ok rest
    → reads state (tokens_in ps) ≡ Some rest)
    → given (Err (Syntax at)) move (λ m. behind m.0 (parsed end m.1 ps)) ≡ Ok pieces → moved_on move (tokens_in ps) ≡ Some pieces
ok_by end at None ps pieces further is = cc is
ok_by end at (Some m) ps pieces further is =
    let rest = behind_ok m.0 pieces (parsed end m.1 ps) is in
    ap (before m.0) (further m.1 rest.0 rest.1) ∙ ap Some rest.2

pub parsed_ok : (end : ℕ) (placed : List Placed) (state : State) (pieces : List Piece) → parsed end state placed ≡ Ok pieces
    → reads state (tokens_in placed) ≡ Some pieces
parsed_ok end [] state pieces is = needed_ok (Syntax end) (ending state) pieces is
parsed_ok end (p ∷ ps) state pieces is = ok_by end p.at (step state p.token) ps pieces (λ next rest. parsed_ok end ps next rest) is

-- the tokens stop being taken at a place
pub record IsStuck (state : State) (placed : List Placed) (at : ℕ) : Type 0 where
  pub place : ℕ
  pub token : Placed
  pub there : slice_get placed place ≡ Some token
  pub at_is : token.at ≡ at
  pub taken : runs state (take place (tokens_in placed)) ≡ true
  pub refused : runs state (take (suc place) (tokens_in placed)) ≡ false

-- all are taken, and the text may not end
pub record IsCut (end : ℕ) (state : State) (placed : List Placed) (at : ℕ) : Type 0 where
  pub at_is : at ≡ end
  pub taken : runs state (tokens_in placed) ≡ true
  pub unread : reads state (tokens_in placed) ≡ None

abbrev pub Stops : ℕ → State → List Placed → ℕ → Type 0
Stops end state placed at = IsStuck state placed at ⊎ IsCut end state placed at

stuck_on : (state : State) (p : Placed) (ps : List Placed) (at : ℕ) (m : List Piece × State) → step state p.token ≡ Some m → IsStuck m.1 ps at
    → IsStuck state (p ∷ ps) at
stuck_on state p ps at m moved s = record {
  place = suc s.place;
  token = s.token;
  there = s.there;
  at_is = s.at_is;
  taken = ap (λ o. match_move o (λ n. runs n.1 (take s.place (tokens_in ps)))) moved ∙ s.taken;
  refused = ap (λ o. match_move o (λ n. runs n.1 (take (suc s.place) (tokens_in ps)))) moved ∙ s.refused;
}

cut_on : (end : ℕ) (state : State) (p : Placed) (ps : List Placed) (at : ℕ) (m : List Piece × State) → step state p.token ≡ Some m → IsCut end m.1 ps at
    → IsCut end state (p ∷ ps) at
cut_on end state p ps at m moved s = record {
  at_is = s.at_is;
  taken = ap (λ o. match_move o (λ n. runs n.1 (tokens_in ps))) moved ∙ s.taken;
  unread = ap (λ o. moved_on o (tokens_in ps)) moved ∙ ap (before m.0) s.unread;
}

err_by : (end : ℕ) (state : State) (move : Move) (p : Placed) (ps : List Placed) (at : ℕ) → step state p.token ≡ move
    → ((next : State) → parsed end next ps ≡ Err (Syntax at) → Stops end next ps at)
    → given (Err (Syntax p.at)) move (λ m. behind m.0 (parsed end m.1 ps)) ≡ Err (Syntax at) → Stops end state (p ∷ ps) at
err_by end state None p ps at moved further is = inl (record {
  place = 0;
  token = p;
  there = refl;
  at_is = cc;
  taken = refl;
  refused = ap (λ o. match_move o (λ n. runs n.1 [])) moved;
})
err_by end state (Some m) p ps at moved further is =
    ⊎_elim (λ s. inl (stuck_on state p ps at m moved s)) (λ s. inr (cut_on end state p ps at m moved s))
    (further m.1 (behind_err m.0 (Syntax at) (parsed end m.1 ps) is))

pub parsed_err : (end : ℕ) (placed : List Placed) (state : State) (at : ℕ) → parsed end state placed ≡ Err (Syntax at) → Stops end state placed at
parsed_err end [] state at is =
    let last = needed_err end at (ending state) is in
    inr (record { at_is = last.1; taken = refl; unread = last.0 })
parsed_err end (p ∷ ps) state at is = err_by end state (step state p.token) p ps at refl (λ next. parsed_err end ps next at) is

-- ---- terms

not_taken : (tokens : List Token) → runs term_start tokens ≡ false → ¬ Begins TermTokens tokens
not_taken tokens refused begins = let taken : runs term_start tokens ≡ true = begins_is_taken tokens begins in cc (taken, refused)

not_read : (tokens : List Token) → reads term_start tokens ≡ None → ¬ TermTokens tokens
not_read tokens unread term =
    let Q : List Token → Type 0 = λ all. reads term_start all ≡ Some (term_pieces term.0) in
    let read : reads term_start tokens ≡ Some (term_pieces term.0) = subst Q term.2 (term_read term.0 term.1) in
    cc (read, unread)

pub term_is : (end : ℕ) (placed : List Placed) (pieces : List Piece) → parsed end term_start placed ≡ Ok pieces → IsTermWith (tokens_in placed) pieces
term_is end placed pieces is =
    let read = read_is_term (tokens_in placed) pieces (parsed_ok end placed term_start pieces is) in
    record { term = read.term; is_term = read.is_term; tokens_are = read.tokens_are; pieces_are = read.pieces_are }

pub fault_is : (end : ℕ) (placed : List Placed) (at : ℕ) → parsed end term_start placed ≡ Err (Syntax at) → IsSyntaxFault TermTokens placed end at
fault_is end placed at is = ⊎_elim
    (λ s. inl (record {
      place = s.place;
      token = s.token;
      there = s.there;
      at_is = s.at_is;
      before = taken_begins (take s.place (tokens_in placed)) s.taken;
      after = not_taken (take (suc s.place) (tokens_in placed)) s.refused;
    }))
    (λ s. inr (record { all = taken_begins (tokens_in placed) s.taken; none = not_read (tokens_in placed) s.unread }, s.at_is))
    (parsed_err end placed term_start at is)

-- ---- the clauses of the call, for a result whose value is seen as a list

pub term_clause : {A : Type 0} (view : A → List Piece) (end : ℕ) (placed : List Placed) (result : Result A ParseFault)
    → IsAnswer Memory (parsed end term_start placed) (seen_as view result)
    → IfOk result (λ pieces. IsTermWith (tokens_in placed) (view pieces))
term_clause view end placed (Ok pieces) answer = term_is end placed (view pieces) answer
term_clause view end placed (Err f) answer = tt

pub only_clause : {A : Type 0} (view : A → List Piece) (end : ℕ) (placed : List Placed) (result : Result A ParseFault) (t : Term)
    → IsAnswer Memory (parsed end term_start placed) (seen_as view result) → IsTerm t
    → term_tokens t ≡ tokens_in placed → IfOk result (λ pieces. view pieces ≡ term_pieces t)
only_clause view end placed (Ok pieces) t answer is_term same =
    let Q : List Token → Type 0 = λ all. reads term_start all ≡ Some (term_pieces t) in
    let read : reads term_start (tokens_in placed) ≡ Some (term_pieces t) = subst Q same (term_read t is_term) in
    let found : reads term_start (tokens_in placed) ≡ Some (view pieces) = parsed_ok end placed term_start (view pieces) answer in
    cc (read, found)
only_clause view end placed (Err f) t answer is_term same = tt

pub syntax_clause : {A : Type 0} (view : A → List Piece) (end : ℕ) (placed : List Placed) (result : Result A ParseFault) (at : ℕ)
    → IsAnswer Memory (parsed end term_start placed) (seen_as view result)
    → IsErrOf result (Syntax at) → IsSyntaxFault TermTokens placed end at
syntax_clause view end placed (Ok pieces) at answer is = cc is
syntax_clause view end placed (Err f) at answer is = ⊎_elim (λ memory. cc (memory, is)) (λ refused. fault_is end placed at (cc (refused, is))) answer
