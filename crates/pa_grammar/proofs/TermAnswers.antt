-- What the reader of terms answers, by the relations.
use Rattle.std.proofs.Common.{◌≡◌, ◌⊎◌, inl, inr, ⊎_elim, ℕ, ◌+◌, Bool, true, false, List, [], ◌∷◌, Option, Some, None, Result, Ok, Err, length, refl, ap}
use Rattle.std.proofs.Common.{ap₂, sym, ◌∙◌, subst}
use Rattle.std.specs.Prelude.{IfOk, IsErrOf, slice_get}
use Rattle.std.specs.List.{position_from}
use Rattle.std.proofs.lemmas.Iterator.Adapters.{position_from-zero}
use Rattle.pa_math.specs.Answers.{and_then, told_as, seen_as, given, IsAnswer}
use Rattle.pa_frac.specs.declared.wide.Wide.{Wide}
use Rattle.pa_meaning.specs.Rows.{Row}
use Rattle.pa_row.specs.declared.fault.RowFault.TheVariants as row
use Rattle.pa_row.specs.Answers.{as_fault}
use Rattle.pa_grammar.specs.declared.fault.TermFault.{TermFault}
use Rattle.pa_grammar.specs.declared.fault.TermFault.TheVariants as F
use Rattle.pa_grammar.specs.declared.parse.ParseFault.{ParseFault}
use Rattle.pa_grammar.specs.declared.parse.ParseFault.TheVariants.{Memory, Syntax}
use Rattle.pa_grammar.specs.declared.token.Placed.{Placed}
use Rattle.pa_grammar.specs.declared.machine.Piece.{Piece}
use Rattle.pa_grammar.specs.Chosen.{rows_in}
use Rattle.pa_grammar.specs.Faults.{first_true, openings, piece_faults}
use Rattle.pa_grammar.specs.Grammar.{Term, IsTerm, TermTokens, term_tokens}
use Rattle.pa_grammar.specs.Lexer.{Scope, tokens_of_text}
use Rattle.pa_grammar.specs.Machine.{term_start, term_pieces}
use Rattle.pa_grammar.specs.Met.{AllFalse}
use Rattle.pa_grammar.specs.Parsed.{parsed, tokens_in, IsTermWith, IsRefused}
use Rattle.pa_grammar.specs.Read.{as_term, AreLiterals}
use Rattle.pa_grammar.specs.Refused.{literal_fault, unknown_fault}
use Rattle.pa_grammar.specs.Texts.{AreNames, IsTermOf, IsLinear, AreRowsOf, SayTheText, IsSyntaxText, IsLiteralText, IsUnknownText, IsNotLinearText, IsWideText}
use Rattle.pa_grammar.specs.Texts.{as_wide, rows_answer, pieces_answer, term_answer}
use Rattle.pa_grammar.specs.Values.{pair_faults, term_rows}
use Rattle.pa_grammar.proofs.Chained.{rows_are}
use Rattle.pa_grammar.proofs.Faults.{term_is, fault_is, only_clause}
use Rattle.pa_grammar.proofs.Firsts.{literal_some, literal_none, unknown_some, unknown_none}
use Rattle.pa_grammar.proofs.Known.{AreKnownTokens, tokens_below, known_tokens, term_known}
use Rattle.pa_grammar.proofs.Languages.{not_memory, term_fault_due}
use Rattle.pa_grammar.proofs.Openings.{opening_found}
use Rattle.pa_grammar.proofs.PairFaults.{faults_are}
use Rattle.pa_grammar.proofs.Places.{no_fault}
use Rattle.pa_grammar.proofs.TermsMet.{rows_met}

-- ---- the steps of the answer, one after another

-- what follows from pieces, where no number and then no name is refused
abbrev answer_by : Result (List Piece) ParseFault → Option ℕ → Option ℕ → (List Piece → Result (List Row) TermFault) → Result (List Row) TermFault
answer_by p l u next = and_then (and_then (told_as as_term p)
    (λ pieces. given (given (Ok pieces) u (λ at. Err (F.UnknownName at))) l (λ at. Err (F.Literal at)))) next

-- these pieces are read, and nothing is refused so far
record AreFree (p : Result (List Piece) ParseFault) (l u : Option ℕ) (pieces : List Piece) : Type 0 where
  read : p ≡ Ok pieces
  no_literal : l ≡ None
  no_unknown : u ≡ None

ok_of : (p : Result (List Piece) ParseFault) (l u : Option ℕ) (next : List Piece → Result (List Row) TermFault) (rows : List Row)
    → answer_by p l u next ≡ Ok rows → (pieces : List Piece) × AreFree p l u pieces × (next pieces ≡ Ok rows)
ok_of (Ok pieces) None None next rows is = (pieces, record { read = refl; no_literal = refl; no_unknown = refl }, is)
ok_of (Ok pieces) None (Some at) next rows is = cc is
ok_of (Ok pieces) (Some at) u next rows is = cc is
ok_of (Err Memory) l u next rows is = cc is
ok_of (Err (Syntax at)) l u next rows is = cc is

-- a refusal before the rows
abbrev Early : Result (List Piece) ParseFault → Option ℕ → Option ℕ → TermFault → Type 0
Early p l u F.Memory = Unit {0}
Early p l u (F.Syntax at) = p ≡ Err (Syntax at)
Early p l u (F.Literal at) = (pieces : List Piece) × (p ≡ Ok pieces) × (l ≡ Some at)
Early p l u (F.UnknownName at) = (pieces : List Piece) × (p ≡ Ok pieces) × (l ≡ None) × (u ≡ Some at)
Early p l u (F.NotLinear at) = ⊥
Early p l u F.Wide = ⊥

-- or one of the rows
abbrev Late : Result (List Piece) ParseFault → Option ℕ → Option ℕ → (List Piece → Result (List Row) TermFault) → TermFault → Type 0
Late p l u next f = (pieces : List Piece) × AreFree p l u pieces × (next pieces ≡ Err f)

err_of : (p : Result (List Piece) ParseFault) (l u : Option ℕ) (next : List Piece → Result (List Row) TermFault) (f : TermFault)
    → answer_by p l u next ≡ Err f → Early p l u f ⊎ Late p l u next f
err_of (Ok pieces) None None next f is = inr (pieces, record { read = refl; no_literal = refl; no_unknown = refl }, is)
err_of (Ok pieces) None (Some at) next f is =
    let same : F.UnknownName at ≡ f = cc in inl (subst (Early (Ok pieces) None (Some at)) same (pieces, refl, refl, refl))
err_of (Ok pieces) (Some at) u next f is =
    let same : F.Literal at ≡ f = cc in inl (subst (Early (Ok pieces) (Some at) u) same (pieces, refl, refl))
err_of (Err Memory) l u next f is = let same : F.Memory ≡ f = cc in inl (subst (Early (Err Memory) l u) same tt)
err_of (Err (Syntax at)) l u next f is = let same : F.Syntax at ≡ f = cc in inl (subst (Early (Err (Syntax at)) l u) same refl)

-- the rows, where no bar pair is faulty
abbrev rows_by : Result (List Row) Wide → Option ℕ → (ℕ → Option ℕ) → Result (List Row) TermFault
rows_by w o place = given (told_as as_wide w) o (λ pair. given (Err F.Wide) (place pair) (λ at. Err (F.NotLinear at)))

pub rows_found : (names : ℕ) (placed : List Placed) (pieces : List Piece) (rows : List Row) → first_true (piece_faults pieces) ≡ None
    → rows_in names pieces ≡ Ok rows → rows_answer names placed pieces ≡ Ok rows
rows_found names placed pieces rows none is =
    ap (λ o. rows_by (rows_in names pieces) o (λ pair. slice_get (openings true placed) pair)) none ∙ ap (told_as as_wide) is

-- what is told as passing the width passes it
pub wide_told : {A : Type 0} (due : Result A Wide) → (row.Wide ≡ row.Memory) ⊎ (told_as as_fault due ≡ Err row.Wide) → due ≡ Err (record {})
wide_told (Ok value) (inl free) = absurd (cc)
wide_told (Ok value) (inr is) = absurd (cc)
wide_told (Err wide) told = refl

pub rows_wide : (names : ℕ) (placed : List Placed) (pieces : List Piece) → first_true (piece_faults pieces) ≡ None
    → rows_in names pieces ≡ Err (record {}) → rows_answer names placed pieces ≡ Err F.Wide
rows_wide names placed pieces none is =
    ap (λ o. rows_by (rows_in names pieces) o (λ pair. slice_get (openings true placed) pair)) none ∙ ap (told_as as_wide) is

pub pair_found : (names : ℕ) (placed : List Placed) (pieces : List Piece) (pair at : ℕ) → first_true (piece_faults pieces) ≡ Some pair
    → slice_get (openings true placed) pair ≡ Some at → rows_answer names placed pieces ≡ Err (F.NotLinear at)
pair_found names placed pieces pair at first there =
    ap (λ o. rows_by (rows_in names pieces) o (λ p. slice_get (openings true placed) p)) first
    ∙ ap (λ o. given (Err F.Wide) o (λ byte. Err (F.NotLinear byte))) there

-- not these, where one is
abbrev opens_at : Option ℕ → Result (List Row) TermFault
opens_at o = given (Err F.Wide) o (λ at. Err (F.NotLinear at))

pair_not : (o : Option ℕ) (rows : List Row) → ¬ (opens_at o ≡ Ok rows)
pair_not None rows is = cc is
pair_not (Some at) rows is = cc is

rows_ok : (w : Result (List Row) Wide) (o : Option ℕ) (place : ℕ → Option ℕ) (rows : List Row) → rows_by w o place ≡ Ok rows → (o ≡ None) × (w ≡ Ok rows)
rows_ok (Ok found) None place rows is = (refl, cc)
rows_ok (Err wide) None place rows is = cc is
rows_ok w (Some pair) place rows is = absurd (pair_not (place pair) rows is)

-- why there are no rows
abbrev Refuses : Result (List Row) Wide → Option ℕ → (ℕ → Option ℕ) → TermFault → Type 0
Refuses w o place F.Memory = ⊥
Refuses w o place (F.Syntax at) = ⊥
Refuses w o place (F.Literal at) = ⊥
Refuses w o place (F.UnknownName at) = ⊥
Refuses w o place (F.NotLinear at) = (pair : ℕ) × (o ≡ Some pair) × (place pair ≡ Some at)
Refuses w o place F.Wide = ((o ≡ None) × (w ≡ Err (record {}))) ⊎ ((pair : ℕ) × (o ≡ Some pair) × (place pair ≡ None))

pair_err : (w : Result (List Row) Wide) (pair : ℕ) (place : ℕ → Option ℕ) (found : Option ℕ) (f : TermFault) → place pair ≡ found
    → opens_at found ≡ Err f → Refuses w (Some pair) place f
pair_err w pair place None f there is = let same : F.Wide ≡ f = cc in subst (Refuses w (Some pair) place) same (inr (pair, refl, there))
pair_err w pair place (Some at) f there is = let same : F.NotLinear at ≡ f = cc in subst (Refuses w (Some pair) place) same (pair, refl, there)

rows_err : (w : Result (List Row) Wide) (o : Option ℕ) (place : ℕ → Option ℕ) (f : TermFault) → rows_by w o place ≡ Err f → Refuses w o place f
rows_err (Ok found) None place f is = cc is
rows_err (Err wide) None place f is = let same : F.Wide ≡ f = cc in subst (Refuses (Err wide) None place) same (inl (refl, refl))
rows_err w (Some pair) place f is = pair_err w pair place (place pair) f refl is

-- ---- from the answer to the relations

abbrev FreePieces : Scope → List ℕ → List Piece → Type 0
FreePieces s text pieces = AreFree (parsed (length text) term_start (tokens_of_text s text)) (literal_fault (tokens_of_text s text))
    (unknown_fault (tokens_of_text s text)) pieces

term_with : (s : Scope) (text : List ℕ) (pieces : List Piece) → parsed (length text) term_start (tokens_of_text s text) ≡ Ok pieces
    → IsTermWith (tokens_in (tokens_of_text s text)) pieces
term_with s text pieces is = term_is (length text) (tokens_of_text s text) pieces is

language_of : (s : Scope) (text : List ℕ) (pieces : List Piece) → parsed (length text) term_start (tokens_of_text s text) ≡ Ok pieces
    → TermTokens (tokens_in (tokens_of_text s text))
language_of s text pieces is = let with = term_with s text pieces is in (with.term, with.is_term, with.tokens_are)

term_of : (s : Scope) (text : List ℕ) (pieces : List Piece) (free : FreePieces s text pieces) → IsTermOf s text (term_with s text pieces free.read).term
term_of s text pieces free =
    let with = term_with s text pieces free.read in
    record {
      is_term = with.is_term;
      tokens_are = with.tokens_are;
      literals = literal_none (tokens_of_text s text) free.no_literal;
      names = unknown_none (tokens_of_text s text) free.no_unknown;
    }

faults_of : (tokens : List Placed) (pieces : List Piece) (with : IsTermWith (tokens_in tokens) pieces) → pair_faults with.term ≡ piece_faults pieces
faults_of tokens pieces with = sym (faults_are with.term with.is_term) ∙ ap piece_faults with.pieces_are

rows_of : (names : ℕ) (tokens : List Placed) (pieces : List Piece) (with : IsTermWith (tokens_in tokens) pieces)
    → term_rows names with.term ≡ rows_in names pieces
rows_of names tokens pieces with = sym (rows_are names with.term) ∙ ap (rows_in names) with.pieces_are

-- what each refusal says
abbrev IsFaultOf : Scope → List ℕ → TermFault → Type 0
IsFaultOf s text F.Memory = Unit {0}
IsFaultOf s text (F.Syntax at) = IsSyntaxText s text at
IsFaultOf s text (F.Literal at) = IsLiteralText s text at
IsFaultOf s text (F.UnknownName at) = IsUnknownText s text at
IsFaultOf s text (F.NotLinear at) = IsNotLinearText s text at
IsFaultOf s text F.Wide = IsWideText s text

early_is : (s : Scope) (text : List ℕ) (f : TermFault)
    → Early (parsed (length text) term_start (tokens_of_text s text)) (literal_fault (tokens_of_text s text)) (unknown_fault (tokens_of_text s text)) f
    → IsFaultOf s text f
early_is s text F.Memory early = tt
early_is s text (F.Syntax at) early = fault_is (length text) (tokens_of_text s text) at early
early_is s text (F.Literal at) early = (language_of s text early.0 early.1, (literal_some (tokens_of_text s text) at).0 early.2)
early_is s text (F.UnknownName at) early =
    (language_of s text early.0 early.1, literal_none (tokens_of_text s text) early.2, (unknown_some (tokens_of_text s text) at).0 early.3)
early_is s text (F.NotLinear at) early = absurd early
early_is s text F.Wide early = absurd early

late_is : (s : Scope) (text : List ℕ) (pieces : List Piece) (f : TermFault) → FreePieces s text pieces
    → Refuses (rows_in (length s.names) pieces) (first_true (piece_faults pieces)) (λ pair. slice_get (openings true (tokens_of_text s text)) pair) f
    → IsFaultOf s text f
late_is s text pieces F.Memory free late = absurd late
late_is s text pieces (F.Syntax at) free late = absurd late
late_is s text pieces (F.Literal at) free late = absurd late
late_is s text pieces (F.UnknownName at) free late = absurd late
late_is s text pieces (F.NotLinear at) free late =
    let with = term_with s text pieces free.read in
    record {
      term = with.term;
      is_term_of = term_of s text pieces free;
      not_linear = record {
        pair = late.0;
        first = ap first_true (faults_of (tokens_of_text s text) pieces with) ∙ late.1;
        place = late.2;
      };
    }
late_is s text pieces F.Wide free (inl late) =
    let with = term_with s text pieces free.read in
    record {
      term = with.term;
      is_term_of = term_of s text pieces free;
      is_linear = ap first_true (faults_of (tokens_of_text s text) pieces with) ∙ late.0;
      wide = rows_of (length s.names) (tokens_of_text s text) pieces with ∙ late.1;
    }
late_is s text pieces F.Wide free (inr late) =
    absurd (opening_found (tokens_of_text s text) pieces late.0 (term_with s text pieces free.read) late.1 late.2)

due_fault : (s : Scope) (text : List ℕ) (f : TermFault) → term_answer s text ≡ Err f → IsFaultOf s text f
due_fault s text f is = ⊎_elim (early_is s text f)
    (λ late. late_is s text late.0 f late.1
    (rows_err (rows_in (length s.names) late.0) (first_true (piece_faults late.0)) (λ pair. slice_get (openings true (tokens_of_text s text)) pair) f late.2))
    (err_of (parsed (length text) term_start (tokens_of_text s text)) (literal_fault (tokens_of_text s text)) (unknown_fault (tokens_of_text s text))
    (rows_answer (length s.names) (tokens_of_text s text)) f is)

-- the pieces of rows that are due
record AreDue (s : Scope) (text : List ℕ) (rows : List Row) : Type 0 where
  pieces : List Piece
  free : FreePieces s text pieces
  is_linear : first_true (piece_faults pieces) ≡ None
  rows_found : rows_in (length s.names) pieces ≡ Ok rows

due_rows : (s : Scope) (text : List ℕ) (rows : List Row) → term_answer s text ≡ Ok rows → AreDue s text rows
due_rows s text rows is =
    let found = ok_of (parsed (length text) term_start (tokens_of_text s text)) (literal_fault (tokens_of_text s text)) (unknown_fault (tokens_of_text s text))
    (rows_answer (length s.names) (tokens_of_text s text)) rows is in
    let own = rows_ok (rows_in (length s.names) found.0) (first_true (piece_faults found.0))
    (λ pair. slice_get (openings true (tokens_of_text s text)) pair) rows found.2 in
    record { pieces = found.0; free = found.1; is_linear = own.0; rows_found = own.1 }

due_are : (s : Scope) (text : List ℕ) (rows : List Row) → AreDue s text rows → AreRowsOf s text rows
due_are s text rows due =
    let with = term_with s text due.pieces due.free.read in
    record {
      term = with.term;
      is_term_of = term_of s text due.pieces due.free;
      is_linear = ap first_true (faults_of (tokens_of_text s text) due.pieces with) ∙ due.is_linear;
      rows_are = rows_of (length s.names) (tokens_of_text s text) due.pieces with ∙ due.rows_found;
    }

-- ---- from the relations to the answer

parsed_is : (end : ℕ) (placed : List Placed) (t : Term) (due : Result (List Piece) ParseFault) → IsTerm t → term_tokens t ≡ tokens_in placed
    → parsed end term_start placed ≡ due → due ≡ Ok (term_pieces t)
parsed_is end placed t (Ok pieces) is_term same is = ap Ok (only_clause {A = List Piece} (λ ps. ps) end placed (Ok pieces) t is is_term same)
parsed_is end placed t (Err (Syntax at)) is_term same is =
    absurd (no_fault TermTokens placed end at (t, is_term, same) (fault_is end placed at is))
parsed_is end placed t (Err Memory) is_term same is = absurd (not_memory end placed term_start is)

pieces_are : (s : Scope) (text : List ℕ) (t : Term) → IsTerm t → term_tokens t ≡ tokens_in (tokens_of_text s text)
    → parsed (length text) term_start (tokens_of_text s text) ≡ Ok (term_pieces t)
pieces_are s text t is_term same = parsed_is (length text) (tokens_of_text s text) t (parsed (length text) term_start (tokens_of_text s text)) is_term same refl

no_literal : (placed : List Placed) (l : Option ℕ) → literal_fault placed ≡ l → AreLiterals placed → l ≡ None
no_literal placed None is literals = refl
no_literal placed (Some at) is literals = let first = (literal_some placed at).0 is in absurd (literals first.place first.holds)

no_unknown : (placed : List Placed) (u : Option ℕ) → unknown_fault placed ≡ u → AreNames placed → u ≡ None
no_unknown placed None is names = refl
no_unknown placed (Some at) is names = let first = (unknown_some placed at).0 is in absurd (names first.place first.holds)

abbrev answer_with : Scope → List ℕ → Result (List Piece) ParseFault → Option ℕ → Option ℕ → Result (List Row) TermFault
answer_with s text p l u = answer_by p l u (rows_answer (length s.names) (tokens_of_text s text))

due_of_term : (s : Scope) (text : List ℕ) (t : Term) → IsTermOf s text t
    → term_answer s text ≡ rows_answer (length s.names) (tokens_of_text s text) (term_pieces t)
due_of_term s text t is =
    let placed : List Placed = tokens_of_text s text in
    ap (λ p. answer_with s text p (literal_fault placed) (unknown_fault placed)) (pieces_are s text t is.is_term is.tokens_are)
    ∙ ap (λ l. answer_with s text (Ok (term_pieces t)) l (unknown_fault placed)) (no_literal placed (literal_fault placed) refl is.literals)
    ∙ ap (λ u. answer_with s text (Ok (term_pieces t)) None u) (no_unknown placed (unknown_fault placed) refl is.names)

-- the answer of a term whose first faulty pair is known, or that has none
rows_with : (s : Scope) (text : List ℕ) (t : Term) (o : Option ℕ) → IsTermOf s text t → first_true (pair_faults t) ≡ o
    → term_answer s text ≡ rows_by (term_rows (length s.names) t) o (λ pair. slice_get (openings true (tokens_of_text s text)) pair)
rows_with s text t o is first =
    due_of_term s text t is
    ∙ ap (λ o. rows_by (rows_in (length s.names) (term_pieces t)) o (λ pair. slice_get (openings true (tokens_of_text s text)) pair))
    (ap first_true (faults_are t is.is_term) ∙ first)
    ∙ ap (λ w. rows_by w o (λ pair. slice_get (openings true (tokens_of_text s text)) pair)) (rows_are (length s.names) t)

pub due_only : (s : Scope) (text : List ℕ) (t : Term) (rows : List Row) → IsTermOf s text t → IsLinear t → term_rows (length s.names) t ≡ Ok rows
    → term_answer s text ≡ Ok rows
due_only s text t rows is linear same = rows_with s text t None is linear ∙ ap (told_as as_wide) same

due_wide : (s : Scope) (text : List ℕ) → IsWideText s text → term_answer s text ≡ Err F.Wide
due_wide s text w = rows_with s text w.term None w.is_term_of w.is_linear ∙ ap (told_as as_wide) w.wide

due_not_linear : (s : Scope) (text : List ℕ) (at : ℕ) → IsNotLinearText s text at → term_answer s text ≡ Err (F.NotLinear at)
due_not_linear s text at n =
    rows_with s text n.term (Some n.not_linear.pair) n.is_term_of n.not_linear.first
    ∙ ap (λ o. given (Err F.Wide) o (λ at. Err (F.NotLinear at))) n.not_linear.place

due_literal : (s : Scope) (text : List ℕ) (at : ℕ) → IsLiteralText s text at → term_answer s text ≡ Err (F.Literal at)
due_literal s text at (is, first) =
    ap (λ p. answer_with s text p (literal_fault (tokens_of_text s text)) (unknown_fault (tokens_of_text s text))) (pieces_are s text is.0 is.1 is.2)
    ∙ ap (λ l. answer_with s text (Ok (term_pieces is.0)) l (unknown_fault (tokens_of_text s text))) ((literal_some (tokens_of_text s text) at).1 first)

due_unknown : (s : Scope) (text : List ℕ) (at : ℕ) → IsUnknownText s text at → term_answer s text ≡ Err (F.UnknownName at)
due_unknown s text at (is, literals, first) =
    let placed : List Placed = tokens_of_text s text in
    ap (λ p. answer_with s text p (literal_fault placed) (unknown_fault placed)) (pieces_are s text is.0 is.1 is.2)
    ∙ ap (λ l. answer_with s text (Ok (term_pieces is.0)) l (unknown_fault placed)) (no_literal placed (literal_fault placed) refl literals)
    ∙ ap (λ u. answer_with s text (Ok (term_pieces is.0)) None u) ((unknown_some placed at).1 first)

due_syntax : (s : Scope) (text : List ℕ) (at : ℕ) → IsSyntaxText s text at → term_answer s text ≡ Err (F.Syntax at)
due_syntax s text at fault =
    ap (λ p. answer_with s text p (literal_fault (tokens_of_text s text)) (unknown_fault (tokens_of_text s text)))
    (term_fault_due (length text) (tokens_of_text s text) at fault)

-- ---- no bar pair is faulty

none_from : (i : ℕ) (bs : List Bool) → position_from (λ b. b) i bs ≡ None → AllFalse bs
none_from i [] is = tt
none_from i (true ∷ bs) is = cc
none_from i (false ∷ bs) is = (refl, none_from (i + 1) bs is)

all_false : (bs : List Bool) → first_true bs ≡ None → AllFalse bs
all_false bs is = none_from 0 bs (sym (position_from-zero (λ b. b) bs) ∙ is)

-- ---- the clauses, for a result whose value is seen as a list

same_err : (due : Result (List Row) TermFault) (f g : TermFault) → due ≡ Err f → due ≡ Err g → f ≡ g
same_err due f g is is_other = cc

refused_by : {T : Type 0} (view : T → List Row) (due : Result (List Row) TermFault) (result : Result T TermFault) (f : TermFault)
    → IsAnswer F.Memory due (seen_as view result) → due ≡ Err f → IsRefused F.Memory result f
refused_by view due (Ok r) f answer is = cc (answer, is)
refused_by view due (Err g) f answer is = ⊎_elim (λ memory. inl (ap Err memory)) (λ own. inr (ap Err (same_err due g f own is))) answer

-- a refusal is want of memory, or due
err_is : {T : Type 0} (view : T → List Row) (s : Scope) (text : List ℕ) (result : Result T TermFault) (f : TermFault)
    → IsAnswer F.Memory (term_answer s text) (seen_as view result) → IsErrOf result f → IsFaultOf s text f
err_is view s text (Ok r) f answer is = cc is
err_is view s text (Err g) f answer is =
    let same : g ≡ f = cc in
    subst (IsFaultOf s text) same (⊎_elim (λ memory. subst (IsFaultOf s text) (sym memory) tt) (due_fault s text g) answer)

pub rows_clause : {T : Type 0} (view : T → List Row) (s : Scope) (text : List ℕ) (result : Result T TermFault)
    → IsAnswer F.Memory (term_answer s text) (seen_as view result) → IfOk result (λ rows. AreRowsOf s text (view rows))
rows_clause view s text (Ok r) answer = due_are s text (view r) (due_rows s text (view r) answer)
rows_clause view s text (Err f) answer = tt

pub only_rows : {T : Type 0} (view : T → List Row) (s : Scope) (text : List ℕ) (result : Result T TermFault) (rows : List Row)
    → IsAnswer F.Memory (term_answer s text) (seen_as view result) → AreRowsOf s text rows → IsAnswer F.Memory (Ok rows) (seen_as view result)
only_rows view s text result rows answer are =
    subst (λ due. IsAnswer F.Memory due (seen_as view result)) (due_only s text are.term rows are.is_term_of are.is_linear are.rows_are) answer

said : (s : Scope) (text : List ℕ) (rows : List Row) → AreDue s text rows → SayTheText s text rows
said s text rows due t is x positive =
    let placed : List Placed = tokens_of_text s text in
    let known = term_known (length s.names) t (subst (AreKnownTokens (length s.names)) (sym is.tokens_are)
    (known_tokens (length s.names) (tokens_in placed) (tokens_below s 0 0 text) is.names)) in
    let same : due.pieces ≡ term_pieces t = cc (due.free.read, pieces_are s text t is.is_term is.tokens_are) in
    let linear : first_true (pair_faults t) ≡ None =
    ap first_true (sym (faults_are t is.is_term)) ∙ ap (λ ps. first_true (piece_faults ps)) (sym same) ∙ due.is_linear in
    let found : term_rows (length s.names) t ≡ Ok rows = sym (rows_are (length s.names) t) ∙ ap (rows_in (length s.names)) (sym same) ∙ due.rows_found in
    rows_met t rows (length s.names) x positive is.is_term known.0 known.1 (all_false (pair_faults t) linear) found

pub meaning_clause : {T : Type 0} (view : T → List Row) (s : Scope) (text : List ℕ) (result : Result T TermFault)
    → IsAnswer F.Memory (term_answer s text) (seen_as view result) → IfOk result (λ rows. SayTheText s text (view rows))
meaning_clause view s text (Ok r) answer = said s text (view r) (due_rows s text (view r) answer)
meaning_clause view s text (Err f) answer = tt

pub syntax_is : {T : Type 0} (view : T → List Row) (s : Scope) (text : List ℕ) (result : Result T TermFault) (at : ℕ)
    → IsAnswer F.Memory (term_answer s text) (seen_as view result) → IsErrOf result (F.Syntax at) → IsSyntaxText s text at
syntax_is view s text result at answer is = err_is view s text result (F.Syntax at) answer is

pub syntax_due : {T : Type 0} (view : T → List Row) (s : Scope) (text : List ℕ) (result : Result T TermFault) (at : ℕ)
    → IsAnswer F.Memory (term_answer s text) (seen_as view result) → IsSyntaxText s text at → IsRefused F.Memory result (F.Syntax at)
syntax_due view s text result at answer is = refused_by view (term_answer s text) result (F.Syntax at) answer (due_syntax s text at is)

pub literal_is : {T : Type 0} (view : T → List Row) (s : Scope) (text : List ℕ) (result : Result T TermFault) (at : ℕ)
    → IsAnswer F.Memory (term_answer s text) (seen_as view result) → IsErrOf result (F.Literal at) → IsLiteralText s text at
literal_is view s text result at answer is = err_is view s text result (F.Literal at) answer is

pub literal_due : {T : Type 0} (view : T → List Row) (s : Scope) (text : List ℕ) (result : Result T TermFault) (at : ℕ)
    → IsAnswer F.Memory (term_answer s text) (seen_as view result) → IsLiteralText s text at → IsRefused F.Memory result (F.Literal at)
literal_due view s text result at answer is = refused_by view (term_answer s text) result (F.Literal at) answer (due_literal s text at is)

pub unknown_is : {T : Type 0} (view : T → List Row) (s : Scope) (text : List ℕ) (result : Result T TermFault) (at : ℕ)
    → IsAnswer F.Memory (term_answer s text) (seen_as view result) → IsErrOf result (F.UnknownName at) → IsUnknownText s text at
unknown_is view s text result at answer is = err_is view s text result (F.UnknownName at) answer is

pub unknown_due : {T : Type 0} (view : T → List Row) (s : Scope) (text : List ℕ) (result : Result T TermFault) (at : ℕ)
    → IsAnswer F.Memory (term_answer s text) (seen_as view result) → IsUnknownText s text at → IsRefused F.Memory result (F.UnknownName at)
unknown_due view s text result at answer is = refused_by view (term_answer s text) result (F.UnknownName at) answer (due_unknown s text at is)

pub not_linear_is : {T : Type 0} (view : T → List Row) (s : Scope) (text : List ℕ) (result : Result T TermFault) (at : ℕ)
    → IsAnswer F.Memory (term_answer s text) (seen_as view result) → IsErrOf result (F.NotLinear at) → IsNotLinearText s text at
not_linear_is view s text result at answer is = err_is view s text result (F.NotLinear at) answer is

pub not_linear_due : {T : Type 0} (view : T → List Row) (s : Scope) (text : List ℕ) (result : Result T TermFault) (at : ℕ)
    → IsAnswer F.Memory (term_answer s text) (seen_as view result) → IsNotLinearText s text at → IsRefused F.Memory result (F.NotLinear at)
not_linear_due view s text result at answer is = refused_by view (term_answer s text) result (F.NotLinear at) answer (due_not_linear s text at is)

pub wide_is : {T : Type 0} (view : T → List Row) (s : Scope) (text : List ℕ) (result : Result T TermFault)
    → IsAnswer F.Memory (term_answer s text) (seen_as view result) → IsErrOf result F.Wide → IsWideText s text
wide_is view s text result answer is = err_is view s text result F.Wide answer is

pub wide_due : {T : Type 0} (view : T → List Row) (s : Scope) (text : List ℕ) (result : Result T TermFault)
    → IsAnswer F.Memory (term_answer s text) (seen_as view result) → IsWideText s text → IsRefused F.Memory result F.Wide
wide_due view s text result answer is = refused_by view (term_answer s text) result F.Wide answer (due_wide s text is)

-- ---- the steps of the call

pub pieces_refused : (s : Scope) (text : List ℕ) (placed : List Placed) (end : ℕ) (f : TermFault) → placed ≡ tokens_of_text s text → end ≡ length text
    → IsAnswer F.Memory (pieces_answer end placed) (Err f) → IsAnswer F.Memory (term_answer s text) (Err f)
pieces_refused s text placed end f is long answer =
    let due : pieces_answer end placed ≡ pieces_answer (length text) (tokens_of_text s text) = ap₂ pieces_answer long is in
    ⊎_elim (λ memory. inl memory)
    (λ own. inr (ap (λ p. and_then p (rows_answer (length s.names) (tokens_of_text s text))) (sym due ∙ own))) answer

pub rows_follow : (s : Scope) (text : List ℕ) (placed again : List Placed) (end names : ℕ) (pieces : List Piece) (r : Result (List Row) TermFault)
    → placed ≡ tokens_of_text s text → again ≡ tokens_of_text s text → end ≡ length text → names ≡ length s.names → pieces_answer end placed ≡ Ok pieces
    → IsAnswer F.Memory (rows_answer names again pieces) r → IsAnswer F.Memory (term_answer s text) r
rows_follow s text placed again end names pieces r is is_again long wide own answer =
    let due : pieces_answer (length text) (tokens_of_text s text) ≡ Ok pieces = sym (ap₂ pieces_answer long is) ∙ own in
    let whole : rows_answer names again pieces ≡ term_answer s text =
    ap₂ (λ n ps. rows_answer n ps pieces) wide is_again ∙ sym (ap (λ p. and_then p (rows_answer (length s.names) (tokens_of_text s text))) due) in
    subst (λ due. IsAnswer F.Memory due r) whole answer
