-- What the reader of plains answers, by the relations.
use Rattle.std.proofs.Common.{◌≡◌, inl, inr, ⊎_elim, ℕ, List, [], Option, Some, None, Result, Ok, Err, length, refl, ap, ap₂, sym, ◌∙◌, subst}
use Rattle.std.specs.Prelude.{ℤ, IfOk, IsErrOf}
use Rattle.std.proofs.lemmas.List.{append-nil}
use Rattle.pa_math.specs.Answers.{and_then, told_as, given, IsAnswer}
use Rattle.pa_frac.specs.declared.wide.Wide.{Wide}
use Rattle.pa_grammar.specs.declared.fault.TermFault.{TermFault}
use Rattle.pa_grammar.specs.declared.fault.TermFault.TheVariants as F
use Rattle.pa_grammar.specs.declared.parse.ParseFault.{ParseFault}
use Rattle.pa_grammar.specs.declared.parse.ParseFault.TheVariants.{Memory, Syntax}
use Rattle.pa_grammar.specs.declared.token.Placed.{Placed}
use Rattle.pa_grammar.specs.declared.machine.Piece.{Piece}
use Rattle.pa_grammar.specs.Grammar.{Items, IsPlain, PlainTokens, tokens_of}
use Rattle.pa_grammar.specs.Lexer.{scope, tokens_of_text}
use Rattle.pa_grammar.specs.Machine.{plain_start, pieces_of}
use Rattle.pa_grammar.specs.Parsed.{parsed, tokens_in, IsPlainWith, IsRefused}
use Rattle.pa_grammar.specs.Pieces.{sum_with, empty_side, summed, nothing, vector_in}
use Rattle.pa_grammar.specs.Plains.{mentioned, plain_tokens, Linear, linear_of, items_linear, IsPlainOf, IsLinearOf, IsSyntaxPlain, IsLiteralPlain, IsWidePlain}
use Rattle.pa_grammar.specs.Plains.{pieces_linear, plain_answer}
use Rattle.pa_grammar.specs.Read.{as_term, AreLiterals}
use Rattle.pa_grammar.specs.Refused.{literal_fault}
use Rattle.pa_grammar.specs.Texts.{as_wide}
use Rattle.pa_grammar.specs.Values.{side_of}
use Rattle.pa_grammar.proofs.Firsts.{literal_some, literal_none}
use Rattle.pa_grammar.proofs.Languages.{not_memory, plain_clause, plain_only, plain_fault, plain_fault_due}
use Rattle.pa_grammar.proofs.Places.{no_fault}
use Rattle.pa_grammar.proofs.Steps.{then_then}
use Rattle.pa_grammar.proofs.Summed.{items_summed}

-- ---- the sum of a tree's pieces

vector_is : (names : ℕ) (items : Items) → vector_in names (pieces_of items) ≡ and_then (side_of names items) (λ side. Ok side.vector)
vector_is names items =
    ap (λ ps. and_then (summed names ps (nothing names)) (λ sum. Ok sum.side.vector)) (sym (append-nil (pieces_of items)))
    ∙ ap (λ r. and_then r (λ sum. Ok sum.side.vector)) (items_summed names items (empty_side names) [] [] [])
    ∙ then_then (side_of names items) (λ side. Ok (sum_with side [] [])) (λ sum. Ok sum.side.vector)

linear_is : (names : List (List ℕ)) (items : Items) → pieces_linear names (pieces_of items) ≡ items_linear names items
linear_is names items =
    ap (λ r. and_then r (linear_of names)) (vector_is (length names) items)
    ∙ then_then (side_of (length names) items) (λ side. Ok side.vector) (linear_of names)

-- ---- the steps of the answer, one after another

abbrev answer_by : Result (List Piece) ParseFault → Option ℕ → (List Piece → Result Linear Wide) → Result Linear TermFault
answer_by p l w = and_then (and_then (told_as as_term p) (λ pieces. given (Ok pieces) l (λ at. Err (F.Literal at)))) (λ pieces. told_as as_wide (w pieces))

-- these pieces are read, and nothing is refused so far
record AreFree (p : Result (List Piece) ParseFault) (l : Option ℕ) (pieces : List Piece) : Type 0 where
  read : p ≡ Ok pieces
  no_literal : l ≡ None

told_ok : (w : Result Linear Wide) (l : Linear) → told_as as_wide w ≡ Ok l → w ≡ Ok l
told_ok (Ok found) l is = cc
told_ok (Err wide) l is = cc is

ok_of : (p : Result (List Piece) ParseFault) (l : Option ℕ) (w : List Piece → Result Linear Wide) (a : Linear)
    → answer_by p l w ≡ Ok a → (pieces : List Piece) × AreFree p l pieces × (w pieces ≡ Ok a)
ok_of (Ok pieces) None w a is = (pieces, record { read = refl; no_literal = refl }, told_ok (w pieces) a is)
ok_of (Ok pieces) (Some at) w a is = cc is
ok_of (Err Memory) l w a is = cc is
ok_of (Err (Syntax at)) l w a is = cc is

-- why there is no sum
abbrev Refuses : Result (List Piece) ParseFault → Option ℕ → (List Piece → Result Linear Wide) → TermFault → Type 0
Refuses p l w F.Memory = Unit {0}
Refuses p l w (F.Syntax at) = p ≡ Err (Syntax at)
Refuses p l w (F.Literal at) = (pieces : List Piece) × (p ≡ Ok pieces) × (l ≡ Some at)
Refuses p l w (F.UnknownName at) = ⊥
Refuses p l w (F.NotLinear at) = ⊥
Refuses p l w F.Wide = (pieces : List Piece) × AreFree p l pieces × (w pieces ≡ Err (record {}))

wide_err : (pieces : List Piece) (w : List Piece → Result Linear Wide) (found : Result Linear Wide) (f : TermFault) → w pieces ≡ found
    → told_as as_wide found ≡ Err f → Refuses (Ok pieces) None w f
wide_err pieces w (Ok a) f was is = cc is
wide_err pieces w (Err wide) f was is =
    let same : F.Wide ≡ f = cc in
    subst (Refuses (Ok pieces) None w) same (pieces, record { read = refl; no_literal = refl }, was)

err_of : (p : Result (List Piece) ParseFault) (l : Option ℕ) (w : List Piece → Result Linear Wide) (f : TermFault) → answer_by p l w ≡ Err f → Refuses p l w f
err_of (Ok pieces) None w f is = wide_err pieces w (w pieces) f refl is
err_of (Ok pieces) (Some at) w f is =
    let same : F.Literal at ≡ f = cc in subst (Refuses (Ok pieces) (Some at) w) same (pieces, refl, refl)
err_of (Err Memory) l w f is = let same : F.Memory ≡ f = cc in subst (Refuses (Err Memory) l w) same tt
err_of (Err (Syntax at)) l w f is = let same : F.Syntax at ≡ f = cc in subst (Refuses (Err (Syntax at)) l w) same refl

-- ---- from the answer to the relations

abbrev read : List ℕ → Result (List Piece) ParseFault
read text = parsed (length text) plain_start (plain_tokens text)

abbrev bad : List ℕ → Option ℕ
bad text = literal_fault (plain_tokens text)

plain_with : (text : List ℕ) (pieces : List Piece) → read text ≡ Ok pieces → IsPlainWith (tokens_in (plain_tokens text)) pieces
plain_with text pieces is = plain_clause {A = List Piece} (λ ps. ps) (length text) (plain_tokens text) (Ok pieces) is

plain_of : (text : List ℕ) (pieces : List Piece) (free : AreFree (read text) (bad text) pieces) → IsPlainOf text (plain_with text pieces free.read).items
plain_of text pieces free =
    let with = plain_with text pieces free.read in
    record { is_plain = with.is_plain; tokens_are = with.tokens_are; literals = literal_none (plain_tokens text) free.no_literal }

sum_of : (text : List ℕ) (pieces : List Piece) (is : read text ≡ Ok pieces)
    → items_linear (mentioned text) (plain_with text pieces is).items ≡ pieces_linear (mentioned text) pieces
sum_of text pieces is =
    let with = plain_with text pieces is in
    sym (linear_is (mentioned text) with.items) ∙ ap (pieces_linear (mentioned text)) with.pieces_are

due_linear : (text : List ℕ) (a : Linear) → plain_answer text ≡ Ok a → IsLinearOf text a
due_linear text a is =
    let found = ok_of (read text) (bad text) (pieces_linear (mentioned text)) a is in
    let with = plain_with text found.0 found.1.read in
    record {
      items = with.items;
      is_plain_of = plain_of text found.0 found.1;
      linear_is = sum_of text found.0 found.1.read ∙ found.2;
    }

-- what each refusal says
abbrev IsFaultOf : List ℕ → TermFault → Type 0
IsFaultOf text F.Memory = Unit {0}
IsFaultOf text (F.Syntax at) = IsSyntaxPlain text at
IsFaultOf text (F.Literal at) = IsLiteralPlain text at
IsFaultOf text (F.UnknownName at) = ⊥
IsFaultOf text (F.NotLinear at) = ⊥
IsFaultOf text F.Wide = IsWidePlain text

fault_of : (text : List ℕ) (f : TermFault) → Refuses (read text) (bad text) (pieces_linear (mentioned text)) f → IsFaultOf text f
fault_of text F.Memory is = tt
fault_of text (F.Syntax at) is = plain_fault (length text) (plain_tokens text) at is
fault_of text (F.Literal at) is =
    let with = plain_with text is.0 is.1 in ((with.items, with.is_plain, with.tokens_are), (literal_some (plain_tokens text) at).0 is.2)
fault_of text (F.UnknownName at) is = absurd is
fault_of text (F.NotLinear at) is = absurd is
fault_of text F.Wide is =
    let with = plain_with text is.0 is.1.read in
    record {
      items = with.items;
      is_plain_of = plain_of text is.0 is.1;
      wide = sum_of text is.0 is.1.read ∙ is.2;
    }

due_fault : (text : List ℕ) (f : TermFault) → plain_answer text ≡ Err f → IsFaultOf text f
due_fault text f is = fault_of text f (err_of (read text) (bad text) (pieces_linear (mentioned text)) f is)

-- ---- from the relations to the answer

parsed_is : (end : ℕ) (placed : List Placed) (items : Items) (due : Result (List Piece) ParseFault) → IsPlain items → tokens_of items ≡ tokens_in placed
    → parsed end plain_start placed ≡ due → due ≡ Ok (pieces_of items)
parsed_is end placed items (Ok pieces) is_plain same is = ap Ok (plain_only {A = List Piece} (λ ps. ps) end placed (Ok pieces) items is is_plain same)
parsed_is end placed items (Err (Syntax at)) is_plain same is =
    absurd (no_fault PlainTokens placed end at (items, is_plain, same) (plain_fault end placed at is))
parsed_is end placed items (Err Memory) is_plain same is = absurd (not_memory end placed plain_start is)

pieces_are : (text : List ℕ) (items : Items) → IsPlain items → tokens_of items ≡ tokens_in (plain_tokens text) → read text ≡ Ok (pieces_of items)
pieces_are text items is_plain same = parsed_is (length text) (plain_tokens text) items (read text) is_plain same refl

no_literal : (placed : List Placed) (l : Option ℕ) → literal_fault placed ≡ l → AreLiterals placed → l ≡ None
no_literal placed None is literals = refl
no_literal placed (Some at) is literals = let first = (literal_some placed at).0 is in absurd (literals first.place first.holds)

abbrev answer_with : List ℕ → Result (List Piece) ParseFault → Option ℕ → Result Linear TermFault
answer_with text p l = answer_by p l (pieces_linear (mentioned text))

due_of_plain : (text : List ℕ) (items : Items) → IsPlainOf text items → plain_answer text ≡ told_as as_wide (items_linear (mentioned text) items)
due_of_plain text items is =
    ap (λ p. answer_with text p (bad text)) (pieces_are text items is.is_plain is.tokens_are)
    ∙ ap (λ l. answer_with text (Ok (pieces_of items)) l) (no_literal (plain_tokens text) (bad text) refl is.literals)
    ∙ ap (told_as as_wide) (linear_is (mentioned text) items)

due_only : (text : List ℕ) (a : Linear) → IsLinearOf text a → plain_answer text ≡ Ok a
due_only text a is = due_of_plain text is.items is.is_plain_of ∙ ap (told_as as_wide) is.linear_is

due_wide : (text : List ℕ) → IsWidePlain text → plain_answer text ≡ Err F.Wide
due_wide text is = due_of_plain text is.items is.is_plain_of ∙ ap (told_as as_wide) is.wide

due_literal : (text : List ℕ) (at : ℕ) → IsLiteralPlain text at → plain_answer text ≡ Err (F.Literal at)
due_literal text at (is, first) =
    ap (λ p. answer_with text p (bad text)) (pieces_are text is.0 is.1 is.2)
    ∙ ap (λ l. answer_with text (Ok (pieces_of is.0)) l) ((literal_some (plain_tokens text) at).1 first)

due_syntax : (text : List ℕ) (at : ℕ) → IsSyntaxPlain text at → plain_answer text ≡ Err (F.Syntax at)
due_syntax text at fault = ap (λ p. answer_with text p (bad text)) (plain_fault_due (length text) (plain_tokens text) at fault)

-- ---- the clauses

same_err : (due : Result Linear TermFault) (f g : TermFault) → due ≡ Err f → due ≡ Err g → f ≡ g
same_err due f g is is_other = cc

refused_by : (due result : Result Linear TermFault) (f : TermFault) → IsAnswer F.Memory due result → due ≡ Err f → IsRefused F.Memory result f
refused_by due (Ok r) f answer is = cc (answer, is)
refused_by due (Err g) f answer is = ⊎_elim (λ memory. inl (ap Err memory)) (λ own. inr (ap Err (same_err due g f own is))) answer

-- a refusal is want of memory, or due
err_is : (text : List ℕ) (result : Result Linear TermFault) (f : TermFault) → IsAnswer F.Memory (plain_answer text) result → IsErrOf result f → IsFaultOf text f
err_is text (Ok r) f answer is = cc is
err_is text (Err g) f answer is =
    let same : g ≡ f = cc in
    subst (IsFaultOf text) same (⊎_elim (λ memory. subst (IsFaultOf text) (sym memory) tt) (due_fault text g) answer)

pub linear_clause : (text : List ℕ) (result : Result Linear TermFault) → IsAnswer F.Memory (plain_answer text) result → IfOk result (IsLinearOf text)
linear_clause text (Ok r) answer = due_linear text r answer
linear_clause text (Err f) answer = tt

pub only_linear : (text : List ℕ) (result : Result Linear TermFault) (a : Linear) → IsAnswer F.Memory (plain_answer text) result → IsLinearOf text a
    → IsAnswer F.Memory (Ok a) result
only_linear text result a answer is = subst (λ due. IsAnswer F.Memory due result) (due_only text a is) answer

pub syntax_is : (text : List ℕ) (result : Result Linear TermFault) (at : ℕ) → IsAnswer F.Memory (plain_answer text) result → IsErrOf result (F.Syntax at)
    → IsSyntaxPlain text at
syntax_is text result at answer is = err_is text result (F.Syntax at) answer is

pub syntax_due : (text : List ℕ) (result : Result Linear TermFault) (at : ℕ) → IsAnswer F.Memory (plain_answer text) result → IsSyntaxPlain text at
    → IsRefused F.Memory result (F.Syntax at)
syntax_due text result at answer is = refused_by (plain_answer text) result (F.Syntax at) answer (due_syntax text at is)

pub literal_is : (text : List ℕ) (result : Result Linear TermFault) (at : ℕ) → IsAnswer F.Memory (plain_answer text) result → IsErrOf result (F.Literal at)
    → IsLiteralPlain text at
literal_is text result at answer is = err_is text result (F.Literal at) answer is

pub literal_due : (text : List ℕ) (result : Result Linear TermFault) (at : ℕ) → IsAnswer F.Memory (plain_answer text) result → IsLiteralPlain text at
    → IsRefused F.Memory result (F.Literal at)
literal_due text result at answer is = refused_by (plain_answer text) result (F.Literal at) answer (due_literal text at is)

pub wide_is : (text : List ℕ) (result : Result Linear TermFault) → IsAnswer F.Memory (plain_answer text) result → IsErrOf result F.Wide → IsWidePlain text
wide_is text result answer is = err_is text result F.Wide answer is

pub wide_due : (text : List ℕ) (result : Result Linear TermFault) → IsAnswer F.Memory (plain_answer text) result → IsWidePlain text
    → IsRefused F.Memory result F.Wide
wide_due text result answer is = refused_by (plain_answer text) result F.Wide answer (due_wide text is)

pub all_known : (text : List ℕ) (result : Result Linear TermFault) (at : ℕ) → IsAnswer F.Memory (plain_answer text) result → ¬ IsErrOf result (F.UnknownName at)
all_known text result at answer is = err_is text result (F.UnknownName at) answer is

pub no_bars : (text : List ℕ) (result : Result Linear TermFault) (at : ℕ) → IsAnswer F.Memory (plain_answer text) result → ¬ IsErrOf result (F.NotLinear at)
no_bars text result at answer is = err_is text result (F.NotLinear at) answer is

-- ---- the steps of the call

-- the tokens over what is mentioned, where no constant is
pub scoped : (text : List ℕ) (names constants : List (List ℕ)) (values : List (ℤ × ℤ)) → names ≡ mentioned text → constants ≡ [] → values ≡ []
    → tokens_of_text (scope names constants values) text ≡ plain_tokens text
scoped text names constants values is none nothing =
    ap (λ ns. tokens_of_text (scope ns constants values) text) is
    ∙ ap₂ (λ cs vs. tokens_of_text (scope (mentioned text) cs vs) text) none nothing
