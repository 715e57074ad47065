-- The place of a syntax fault is one alone, and there is none in a text of the language.
use Rattle.std.proofs.Common.{◌≡◌, inl, inr, ℕ, suc, ◌<◌, ◌≤◌, Bool, true, false, List, [], ◌++◌, take, drop, Some, ap, sym, ◌∙◌, append_assoc, arith, subst}
use Rattle.std.specs.Prelude.{slice_get, nat_lt}
use Rattle.std.proofs.lemmas.Bool.{cond_both, ltb-true, ltb-false}
use Rattle.std.proofs.lemmas.List.{take-append-drop, take-take, append-nil}
use Rattle.pa_grammar.specs.declared.token.Token.{Token}
use Rattle.pa_grammar.specs.declared.token.Placed.{Placed}
use Rattle.pa_grammar.specs.Grammar.{Begins}
use Rattle.pa_grammar.specs.Parsed.{tokens_in, IsStuckAt, IsSyntaxFault}

-- what begins with tokens begins with fewer of them
begins_front : (Language : List Token → Type 0) (tokens : List Token) (n : ℕ) → Begins Language tokens → Begins Language (take n tokens)
begins_front Language tokens n begins = (
  drop n tokens ++ begins.0,
  subst Language (ap (λ xs. xs ++ begins.0) (sym (take-append-drop n tokens))
      ∙ append_assoc (take n tokens) (drop n tokens) begins.0) begins.1,
)

begins_less : (Language : List Token → Type 0) (tokens : List Token) (n m : ℕ) → n ≤ m → Begins Language (take m tokens) → Begins Language (take n tokens)
begins_less Language tokens n m less begins = subst (Begins Language) (take-take n m tokens less) (begins_front Language (take m tokens) n begins)

-- a text of the language begins with all of its tokens
whole_begins : (Language : List Token → Type 0) (tokens : List Token) → Language tokens → Begins Language tokens
whole_begins Language tokens is = ([], subst Language (sym (append-nil tokens)) is)

pub no_fault : (Language : List Token → Type 0) (placed : List Placed) (end at : ℕ) → Language (tokens_in placed) → ¬ IsSyntaxFault Language placed end at
no_fault Language placed end at is (inl s) = s.after (begins_front Language (tokens_in placed) (suc s.place) (whole_begins Language (tokens_in placed) is))
no_fault Language placed end at is (inr c) = c.0.none is

not_before : (Language : List Token → Type 0) (placed : List Placed) (at other : ℕ) (s : IsStuckAt Language placed at) (t : IsStuckAt Language placed
    other) → ¬ (s.place < t.place)
not_before Language placed at other s t before = s.after (begins_less Language (tokens_in placed) (suc s.place) t.place (omega (arith, before)) t.before)

same_token : (placed : List Placed) (j k at other : ℕ) (p q : Placed) → slice_get placed j ≡ Some p → slice_get placed k ≡ Some q → p.at ≡ at
    → q.at ≡ other → j ≡ k → at ≡ other
same_token placed j k at other p q there also is is_other same = cc

pub same_fault : (Language : List Token → Type 0) (placed : List Placed) (end at other : ℕ) → IsSyntaxFault Language placed end at
    → IsSyntaxFault Language placed end other → at ≡ other
same_fault Language placed end at other (inl s) (inl t) =
    cond_both {A = Bool} (nat_lt s.place t.place) true false (λ _. at ≡ other)
    (λ before. absurd (not_before Language placed at other s t (ltb-true s.place t.place before)))
    (λ late. cond_both {A = Bool} (nat_lt t.place s.place) true false (λ _. at ≡ other)
    (λ after. absurd (not_before Language placed other at t s (ltb-true t.place s.place after)))
    (λ not_after. same_token placed s.place t.place at other s.token t.token s.there t.there s.at_is t.at_is
    (omega (arith, ltb-false s.place t.place late, ltb-false t.place s.place not_after))))
same_fault Language placed end at other (inl s) (inr c) = absurd (s.after (begins_front Language (tokens_in placed) (suc s.place) c.0.all))
same_fault Language placed end at other (inr c) (inl s) = absurd (s.after (begins_front Language (tokens_in placed) (suc s.place) c.0.all))
same_fault Language placed end at other (inr c) (inr d) = c.1 ∙ sym d.1
