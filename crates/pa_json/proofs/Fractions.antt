-- The fractions of members: what the definition by tests gives is what the relation says.
use Rattle.std.proofs.Common.{◌≡◌, ℕ, ℤ, pos, ◌≤◌, Bool, true, false, cond, List, [], ◌∷◌, length, refl, sym, ap, ◌∙◌, subst}
use Rattle.std.proofs.Common.{Option, Some, None, option_and_then, option_map, Result, Ok, Err}
use Rattle.std.specs.Prelude.{nat_lt}
use Rattle.std.specs.Result.{result_ok}
use Rattle.std.proofs.lemmas.Bool.{ltb-false, le-ltb}
use Rattle.serde_json.specs.Data.{Data, null, boolean, number, string, array, object, Members, no_members, member}
use Rattle.serde_json.specs.Find.{as_i64}
use Rattle.pa_meaning.specs.Contracts.{Name}
use Rattle.pa_names.specs.Names.{is_name}
use Rattle.pa_grammar.specs.Lexer.{most_text}
use Rattle.pa_grammar.specs.Read.{IsValueOf, value_answer}
use Rattle.pa_grammar.specs.declared.fault.TermFault.{TermFault}
use Rattle.pa_grammar.proofs.Answered.{due_value, due_only}
use Rattle.pa_json.specs.Found.{IsFractionOf, ArePairs}
use Rattle.pa_json.specs.Members.{collected}
use Rattle.pa_json.specs.Values.{text_value, fraction_of, named_fraction}

-- ---- one value

text_found : (text : List ℕ) (value : ℤ × ℤ) → text_value text ≡ Some value → (length text ≤ most_text) × IsValueOf text value
text_found text value is = by (nat_lt most_text (length text)) refl (value_answer text) refl is
  where
    by : (b : Bool) → nat_lt most_text (length text) ≡ b → (r : Result (ℤ × ℤ) TermFault) → value_answer text ≡ r → cond b None (result_ok r) ≡ Some value
        → (length text ≤ most_text) × IsValueOf text value
    by true long r same e = absurd (cc)
    by false long (Err fault) same e = absurd (cc)
    by false long (Ok found) same e =
        let here : found ≡ value = cc in
        (ltb-false most_text (length text) long, due_value text value (same ∙ ap Ok here))

text_is : (text : List ℕ) (value : ℤ × ℤ) → length text ≤ most_text → IsValueOf text value → text_value text ≡ Some value
text_is text value short is =
    ap (λ b. cond b None (result_ok (value_answer text))) (le-ltb most_text (length text) short)
    ∙ ap result_ok (due_only text is.value is.is_value is.tokens_are is.literals) ∙ ap Some (sym is.answer_is)

fraction_found : (d : Data) (value : ℤ × ℤ) → fraction_of d ≡ Some value → IsFractionOf d value
fraction_found null value is = absurd (cc)
fraction_found (boolean b) value is = absurd (cc)
fraction_found (number n) value is = by (as_i64 n) refl is
  where
    by : (z : Option ℤ) → as_i64 n ≡ z → option_map (λ z. (z, pos 1)) z ≡ Some value → IsFractionOf (number n) value
    by None first e = absurd (cc)
    by (Some z) first e = (z, first, cc)
fraction_found (string text) value is = text_found text value is
fraction_found (array ds) value is = absurd (cc)
fraction_found (object ms) value is = absurd (cc)

fraction_is : (d : Data) (value : ℤ × ℤ) → IsFractionOf d value → fraction_of d ≡ Some value
fraction_is null value is = absurd is
fraction_is (boolean b) value is = absurd is
fraction_is (number n) value (z, there, is) = ap (option_map (λ z. (z, pos 1))) there ∙ ap Some (sym is)
fraction_is (string text) value (short, is) = text_is text value short is
fraction_is (array ds) value is = absurd is
fraction_is (object ms) value is = absurd is

-- ---- the members of an object

abbrev Pairs : Type 0
Pairs = List (Name × (ℤ × ℤ))

-- what is collected with one more member
abbrev one_more : List ℕ → Bool → Option (ℤ × ℤ) → Option Pairs → Option Pairs
one_more key named value rest = option_and_then (λ x. option_map (λ xs. x ∷ xs) rest) (cond named (option_map (λ value. (key, value)) value) None)

pub pairs_found : (ms : Members) (pairs : Pairs) → collected named_fraction ms ≡ Some pairs → ArePairs ms pairs
pairs_found no_members [] is = tt
pairs_found no_members (pair ∷ pairs) is = absurd (cc)
pairs_found (member key d ms) pairs is =
    by (is_name key) refl (fraction_of d) refl (collected named_fraction ms) refl (λ xs there. pairs_found ms xs there) is
  where
    by : (named : Bool) → is_name key ≡ named → (value : Option (ℤ × ℤ)) → fraction_of d ≡ value → (rest : Option Pairs) → collected named_fraction ms ≡ rest
        → ((xs : Pairs) → collected named_fraction ms ≡ Some xs → ArePairs ms xs) → one_more key named value rest ≡ Some pairs
        → ArePairs (member key d ms) pairs
    by false is value here rest there after e = absurd (cc)
    by true is None here rest there after e = absurd (cc)
    by true is (Some value) here None there after e = absurd (cc)
    by true is (Some value) here (Some xs) there after e =
        let same : (key, value) ∷ xs ≡ pairs = cc in
        subst (ArePairs (member key d ms)) same (refl, is, fraction_found d value here, after xs there)

pub pairs_are : (ms : Members) (pairs : Pairs) → ArePairs ms pairs → collected named_fraction ms ≡ Some pairs
pairs_are no_members [] are = refl
pairs_are no_members (pair ∷ pairs) are = absurd are
pairs_are (member key d ms) [] are = absurd are
pairs_are (member key d ms) (pair ∷ pairs) (same, named, is, rest) =
    ap (λ b. one_more key b (fraction_of d) (collected named_fraction ms)) named
    ∙ ap (λ value. one_more key true value (collected named_fraction ms)) (fraction_is d pair.1 is)
    ∙ ap (one_more key true (Some pair.1)) (pairs_are ms pairs rest)
    ∙ ap (λ name. Some ((name, pair.1) ∷ pairs)) (sym same)
