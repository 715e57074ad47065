-- What the reader of values answers, by the relations.
use Rattle.std.proofs.Common.{◌≡◌, inl, inr, ⊎_elim, ℕ, false, List, [], Option, Some, None, Result, Ok, Err, length, refl, ap, sym, ◌∙◌, subst}
use Rattle.std.specs.Prelude.{ℤ, IfOk, IsErrOf}
use Rattle.pa_math.specs.Answers.{and_then, told_as, given, IsAnswer}
use Rattle.pa_grammar.specs.declared.fault.TermFault.{TermFault}
use Rattle.pa_grammar.specs.declared.fault.TermFault.TheVariants as F
use Rattle.pa_grammar.specs.declared.parse.ParseFault.{ParseFault}
use Rattle.pa_grammar.specs.declared.parse.ParseFault.TheVariants.{Memory, Syntax}
use Rattle.pa_grammar.specs.declared.machine.Mode.TheVariants.{Want}
use Rattle.pa_grammar.specs.declared.token.Placed.{Placed}
use Rattle.pa_grammar.specs.declared.value.Value.{Value}
use Rattle.pa_grammar.specs.Lexer.{plain_scope}
use Rattle.pa_grammar.specs.Limits.{HasFactorValue}
use Rattle.pa_grammar.specs.Parsed.{tokens_in, IsRefused, IsSyntaxFault}
use Rattle.pa_grammar.specs.Read.{bare_tokens, as_term, parts, value_answer, AreLiterals, IsValueOf}
use Rattle.pa_grammar.specs.Refused.{IsLiteralFault, literal_fault}
use Rattle.pa_grammar.specs.Value.{value_tokens, IsValue, ValueTokens, value_of, value_parsed}
use Rattle.pa_grammar.proofs.Firsts.{literal_some, literal_none}
use Rattle.pa_grammar.proofs.Literals.{clean_tokens, value_has}
use Rattle.pa_grammar.proofs.Sizes.{tokens_sized}
use Rattle.pa_grammar.proofs.Valued.{value_clause, value_only, value_fault}

-- a value that is read without a refused number has a fraction that 126 bits hold
pub value_within : (v : Value) (placed again : List Placed) (text : List ℕ) → placed ≡ bare_tokens text → again ≡ bare_tokens text → IsValue v
    → value_tokens v ≡ tokens_in placed
    → literal_fault again ≡ None → HasFactorValue v.factor
value_within v placed again text is is_again is_value same none =
    value_has v (tokens_in (bare_tokens text)) is_value (same ∙ ap tokens_in is) (tokens_sized (plain_scope []) 0 0 text tt)
    (clean_tokens false (bare_tokens text) (ap literal_fault (sym is_again) ∙ none))

-- ---- what is due

abbrev answer_of : Result Value ParseFault → Option ℕ → Result (ℤ × ℤ) TermFault
answer_of p l = and_then (told_as as_term p) (λ v. given (Ok (parts (value_of v))) l (λ at. Err (F.Literal at)))

ok_of : (p : Result Value ParseFault) (l : Option ℕ) (r : ℤ × ℤ) → answer_of p l ≡ Ok r → (v : Value) × (p ≡ Ok v) × (l ≡ None) × (r ≡ parts (value_of v))
ok_of (Ok v) None r is = (v, refl, refl, cc)
ok_of (Ok v) (Some at) r is = cc is
ok_of (Err Memory) l r is = cc is
ok_of (Err (Syntax at)) l r is = cc is

syntax_of : (p : Result Value ParseFault) (l : Option ℕ) (at : ℕ) → answer_of p l ≡ Err (F.Syntax at) → p ≡ Err (Syntax at)
syntax_of (Ok v) None at is = cc is
syntax_of (Ok v) (Some other) at is = cc is
syntax_of (Err Memory) l at is = cc is
syntax_of (Err (Syntax other)) l at is = let same : other ≡ at = cc in ap (λ n. Err (Syntax n)) same

literal_of : (p : Result Value ParseFault) (l : Option ℕ) (at : ℕ) → answer_of p l ≡ Err (F.Literal at) → (v : Value) × (p ≡ Ok v) × (l ≡ Some at)
literal_of (Ok v) None at is = cc is
literal_of (Ok v) (Some other) at is = let same : other ≡ at = cc in (v, refl, ap Some same)
literal_of (Err Memory) l at is = cc is
literal_of (Err (Syntax other)) l at is = cc is

abbrev read : List ℕ → Result Value ParseFault
read text = value_parsed (length text) (Want None) (bare_tokens text)

abbrev refused : List ℕ → Option ℕ
refused text = literal_fault (bare_tokens text)

read_value_of : (text : List ℕ) (v : Value) → read text ≡ Ok v → IsValue v × (value_tokens v ≡ tokens_in (bare_tokens text))
read_value_of text v is = value_clause (length text) (bare_tokens text) (Ok v) (sym is)

pub due_value : (text : List ℕ) (r : ℤ × ℤ) → value_answer text ≡ Ok r → IsValueOf text r
due_value text r is =
    let found = ok_of (read text) (refused text) r is in
    let own = read_value_of text found.0 found.1 in
    record {
      value = found.0;
      is_value = own.0;
      tokens_are = own.1;
      literals = literal_none (bare_tokens text) found.2;
      answer_is = found.3;
    }

none_refused : (text : List ℕ) (l : Option ℕ) → refused text ≡ l → AreLiterals (bare_tokens text) → l ≡ None
none_refused text None is literals = refl
none_refused text (Some at) is literals = let first = (literal_some (bare_tokens text) at).0 is in absurd (literals first.place first.holds)

pub due_only : (text : List ℕ) (v : Value) → IsValue v → value_tokens v ≡ tokens_in (bare_tokens text) → AreLiterals (bare_tokens text)
    → value_answer text ≡ Ok (parts (value_of v))
due_only text v is_value same literals =
    ap (λ p. answer_of p (refused text)) (value_only (length text) (bare_tokens text) v is_value same)
    ∙ ap (answer_of (Ok v)) (none_refused text (refused text) refl literals)

due_literal : (text : List ℕ) (at : ℕ) → ValueTokens (tokens_in (bare_tokens text)) → IsLiteralFault (bare_tokens text) at
    → value_answer text ≡ Err (F.Literal at)
due_literal text at is first =
    ap (λ p. answer_of p (refused text)) (value_only (length text) (bare_tokens text) is.0 is.1 is.2)
    ∙ ap (answer_of (Ok is.0)) ((literal_some (bare_tokens text) at).1 first)

due_syntax : (text : List ℕ) (at : ℕ) → IsSyntaxFault ValueTokens (bare_tokens text) (length text) at → value_answer text ≡ Err (F.Syntax at)
due_syntax text at fault = ap (λ p. answer_of p (refused text)) ((value_fault (length text) at (bare_tokens text)).1 fault)

-- ---- the clauses

same_err : (due : Result (ℤ × ℤ) TermFault) (f g : TermFault) → due ≡ Err f → due ≡ Err g → f ≡ g
same_err due f g is is_other = cc

refused_by : (due result : Result (ℤ × ℤ) TermFault) (f : TermFault) → IsAnswer F.Memory due result → due ≡ Err f → IsRefused F.Memory result f
refused_by due (Ok r) f answer is = cc (answer, is)
refused_by due (Err g) f answer is = ⊎_elim (λ memory. inl (ap Err memory)) (λ own. inr (ap Err (same_err due g f own is))) answer

syntax_due_by : (due result : Result (ℤ × ℤ) TermFault) (at : ℕ) → IsAnswer F.Memory due result → result ≡ Err (F.Syntax at) → due ≡ Err (F.Syntax at)
syntax_due_by due (Ok r) at answer is = cc is
syntax_due_by due (Err g) at answer is = ⊎_elim (λ memory. cc (memory, is)) (λ own. own ∙ is) answer

literal_due_by : (due result : Result (ℤ × ℤ) TermFault) (at : ℕ) → IsAnswer F.Memory due result → result ≡ Err (F.Literal at) → due ≡ Err (F.Literal at)
literal_due_by due (Ok r) at answer is = cc is
literal_due_by due (Err g) at answer is = ⊎_elim (λ memory. cc (memory, is)) (λ own. own ∙ is) answer

pub value_is : (text : List ℕ) (result : Result (ℤ × ℤ) TermFault) → IsAnswer F.Memory (value_answer text) result → IfOk result (IsValueOf text)
value_is text (Ok r) answer = due_value text r answer
value_is text (Err f) answer = tt

pub value_due : (text : List ℕ) (result : Result (ℤ × ℤ) TermFault) (v : Value) → IsAnswer F.Memory (value_answer text) result → IsValue v
    → value_tokens v ≡ tokens_in (bare_tokens text)
    → AreLiterals (bare_tokens text) → IsAnswer F.Memory (Ok (parts (value_of v))) result
value_due text result v answer is_value same literals = subst (λ due. IsAnswer F.Memory due result) (due_only text v is_value same literals) answer

pub syntax_is : (text : List ℕ) (result : Result (ℤ × ℤ) TermFault) (at : ℕ) → IsAnswer F.Memory (value_answer text) result → IsErrOf result (F.Syntax at)
    → IsSyntaxFault ValueTokens (bare_tokens text) (length text) at
syntax_is text result at answer is =
    (value_fault (length text) at (bare_tokens text)).0 (syntax_of (read text) (refused text) at (syntax_due_by (value_answer text) result at answer is))

pub syntax_due : (text : List ℕ) (result : Result (ℤ × ℤ) TermFault) (at : ℕ) → IsAnswer F.Memory (value_answer text) result
    → IsSyntaxFault ValueTokens (bare_tokens text) (length text) at
    → IsRefused F.Memory result (F.Syntax at)
syntax_due text result at answer fault = refused_by (value_answer text) result (F.Syntax at) answer (due_syntax text at fault)

pub literal_is : (text : List ℕ) (result : Result (ℤ × ℤ) TermFault) (at : ℕ) → IsAnswer F.Memory (value_answer text) result → IsErrOf result (F.Literal at)
    → ValueTokens (tokens_in (bare_tokens text)) × IsLiteralFault (bare_tokens text) at
literal_is text result at answer is =
    let found = literal_of (read text) (refused text) at (literal_due_by (value_answer text) result at answer is) in
    let own = read_value_of text found.0 found.1 in
    ((found.0, own.0, own.1), (literal_some (bare_tokens text) at).0 found.2)

pub literal_due : (text : List ℕ) (result : Result (ℤ × ℤ) TermFault) (at : ℕ) → IsAnswer F.Memory (value_answer text) result
    → ValueTokens (tokens_in (bare_tokens text))
    → IsLiteralFault (bare_tokens text) at → IsRefused F.Memory result (F.Literal at)
literal_due text result at answer is first = refused_by (value_answer text) result (F.Literal at) answer (due_literal text at is first)
