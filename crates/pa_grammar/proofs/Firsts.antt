-- The first number or name that can't be read, by the scans and by the relations.
use Rattle.std.proofs.Common.{◌≡◌, ◌⊎◌, inl, inr, ℕ, zero, suc, ◌<◌, Bool, true, false, List, [], ◌∷◌, Option, Some, None, refl, ap, sym, ◌∙◌, arith, subst}
use Rattle.std.specs.Prelude.{slice_get, nat_lt, ◌↔◌, ◌==◌, ◌&&◌, ◌||◌, if◌then◌else◌}
use Rattle.std.proofs.lemmas.Bool.{cond_both, cond-true, cond-false, eqb-true, ltb-true, ltb-false}
use Rattle.pa_grammar.specs.declared.token.Decimal.{Decimal}
use Rattle.pa_grammar.specs.declared.token.Numeral.{Numeral}
use Rattle.pa_grammar.specs.declared.token.Token.{Token}
use Rattle.pa_grammar.specs.declared.token.Token.TheVariants.{Signed, Star, Slash, Open, Close, Bar, Relates, Named, Number, Const, Bad}
use Rattle.pa_grammar.specs.declared.token.Placed.{Placed}
use Rattle.pa_grammar.specs.Parsed.{tokens_in}
use Rattle.pa_grammar.specs.Refused.{IsBehindSlash, IsZero, IsBadLiteral, IsUnknown, IsFirstAt, is_zero, is_missing, is_bad_literal, is_unknown}
use Rattle.pa_grammar.specs.Refused.{is_place_missing, is_slash, first_by, literal_fault, unknown_fault}

-- whether the token at a place passes the test
abbrev hits : (Bool → Token → Bool) → Bool → List Token → ℕ → Bool
hits test b [] place = false
hits test b (t ∷ ts) zero = test b t
hits test b (t ∷ ts) (suc place) = hits test (is_slash t) ts place

-- the first one that passes
record Hit (test : Bool → Token → Bool) (b : Bool) (placed : List Placed) (at : ℕ) : Type 0 where
  place : ℕ
  token : Placed
  there : slice_get placed place ≡ Some token
  at_is : token.at ≡ at
  holds : hits test b (tokens_in placed) place ≡ true
  first : (k : ℕ) → k < place → hits test b (tokens_in placed) k ≡ false

before_on : (test : Bool → Token → Bool) (b : Bool) (p : Placed) (ps : List Placed) (place : ℕ) → test b p.token ≡ false
    → ((k : ℕ) → k < place → hits test (is_slash p.token) (tokens_in ps) k ≡ false) → (k : ℕ) → k < suc place → hits test b (tokens_in (p ∷ ps)) k ≡ false
before_on test b p ps place passes first zero before = passes
before_on test b p ps place passes first (suc k) before = first k (omega (arith, before))

hit_on : (test : Bool → Token → Bool) (b : Bool) (p : Placed) (ps : List Placed) (at : ℕ) → test b p.token ≡ false → Hit test (is_slash p.token) ps at
    → Hit test b (p ∷ ps) at
hit_on test b p ps at passes h = record {
  place = suc h.place;
  token = h.token;
  there = h.there;
  at_is = h.at_is;
  holds = h.holds;
  first = before_on test b p ps h.place passes h.first;
}

hit_here : (test : Bool → Token → Bool) (b : Bool) (p : Placed) (ps : List Placed) (at : ℕ) → test b p.token ≡ true → p.at ≡ at → Hit test b (p ∷ ps) at
hit_here test b p ps at passes is = record {
  place = 0;
  token = p;
  there = refl;
  at_is = is;
  holds = passes;
  first = λ k before. absurd (omega (
    arith,
    before,
  ));
}

some_is : (a b : ℕ) → Some a ≡ Some b → a ≡ b
some_is a b is = cc

first_some : (test : Bool → Token → Bool) (b : Bool) (placed : List Placed) (at : ℕ) → first_by test b placed ≡ Some at → Hit test b placed at
first_some test b [] at is = cc is
first_some test b (p ∷ ps) at is =
    cond_both {A = Bool} (test b p.token) true false (λ _. Hit test b (p ∷ ps) at)
    (λ yes. hit_here test b p ps at yes (some_is p.at at (sym (cond-true (test b p.token) (Some p.at) (first_by test (is_slash p.token) ps) yes) ∙ is)))
    (λ other. hit_on test b p ps at other (first_some test (is_slash p.token) ps at (sym (cond-false (test b p.token) (Some p.at) (first_by test (is_slash
    p.token) ps) other) ∙ is)))

none_on : (test : Bool → Token → Bool) (b : Bool) (p : Placed) (ps : List Placed) (k : ℕ) → test b p.token ≡ false
    → ((j : ℕ) → hits test (is_slash p.token) (tokens_in ps) j ≡ false) → hits test b (tokens_in (p ∷ ps)) k ≡ false
none_on test b p ps zero other rest = other
none_on test b p ps (suc k) other rest = rest k

first_none : (test : Bool → Token → Bool) (b : Bool) (placed : List Placed) → first_by test b placed ≡ None → (k : ℕ) → hits test b (tokens_in placed) k ≡ false
first_none test b [] is k = refl
first_none test b (p ∷ ps) is k =
    cond_both {A = Bool} (test b p.token) true false (λ _. hits test b (tokens_in (p ∷ ps)) k ≡ false)
    (λ yes. cc (cond-true (test b p.token) (Some p.at) (first_by test (is_slash p.token) ps) yes, is))
    (λ other. none_on test b p ps k other (first_none test (is_slash p.token) ps (sym (cond-false (test b p.token) (Some p.at) (first_by test (is_slash
    p.token) ps) other) ∙ is)))

-- ---- the scan and the relation

-- a fact that a test tells of each place
record IsTold (test : Bool → Token → Bool) (b : Bool) (Fact : List Token → ℕ → Type 0) : Type 0 where
  fact : (tokens : List Token) (k : ℕ) → hits test b tokens k ≡ true → Fact tokens k
  test_is : (tokens : List Token) (k : ℕ) → Fact tokens k → hits test b tokens k ≡ true

told_some : (test : Bool → Token → Bool) (b : Bool) (Fact : List Token → ℕ → Type 0) (placed : List Placed) (at : ℕ) → IsTold test b Fact
    → first_by test b placed ≡ Some at → IsFirstAt Fact placed at
told_some test b Fact placed at told is =
    let hit = first_some test b placed at is in
    record {
      place = hit.place;
      token = hit.token;
      there = hit.there;
      at_is = hit.at_is;
      holds = told.fact (tokens_in placed) hit.place hit.holds;
      first = λ k before fact. cc (hit.first k before, told.test_is (tokens_in placed) k fact);
    }

same_at : (placed : List Placed) (j k at other : ℕ) (p q : Placed) → slice_get placed j ≡ Some p → slice_get placed k ≡ Some q → p.at ≡ at → q.at ≡ other
    → j ≡ k → Some at ≡ Some other
same_at placed j k at other p q there also is is_other same = cc

told_by : (test : Bool → Token → Bool) (b : Bool) (Fact : List Token → ℕ → Type 0) (placed : List Placed) (at : ℕ) → IsTold test b Fact
    → IsFirstAt Fact placed at
    → (found : Option ℕ) → first_by test b placed ≡ found → found ≡ Some at
told_by test b Fact placed at told first None is = cc (first_none test b placed is first.place, told.test_is (tokens_in placed) first.place first.holds)
told_by test b Fact placed at told first (Some other) is =
    let hit = first_some test b placed other is in
    cond_both {A = Bool} (nat_lt hit.place first.place) true false (λ _. Some other ≡ Some at)
    (λ earlier. absurd (first.first hit.place (ltb-true hit.place first.place earlier) (told.fact (tokens_in placed) hit.place hit.holds)))
    (λ late. cond_both {A = Bool} (nat_lt first.place hit.place) true false (λ _. Some other ≡ Some at)
    (λ later. cc (hit.first first.place (ltb-true first.place hit.place later), told.test_is (tokens_in placed) first.place first.holds))
    (λ not_later. same_at placed hit.place first.place other at hit.token first.token hit.there first.there hit.at_is first.at_is
    (omega (arith, ltb-false hit.place first.place late, ltb-false first.place hit.place not_later))))

told_none : (test : Bool → Token → Bool) (b : Bool) (Fact : List Token → ℕ → Type 0) (placed : List Placed) → IsTold test b Fact → first_by test b placed ≡ None
    → (k : ℕ) → ¬ Fact (tokens_in placed) k
told_none test b Fact placed told is k fact = cc (first_none test b placed is k, told.test_is (tokens_in placed) k fact)

told_exact : (test : Bool → Token → Bool) (b : Bool) (Fact : List Token → ℕ → Type 0) (placed : List Placed) (at : ℕ) → IsTold test b Fact
    → (first_by test b placed ≡ Some at) ↔ IsFirstAt Fact placed at
told_exact test b Fact placed at told = (told_some test b Fact placed at told, λ first. told_by test b Fact placed at told first (first_by test b placed) refl)

-- ---- literals

-- `/` stands in front of the place
abbrev Behind : Bool → List Token → ℕ → Type 0
Behind b tokens zero = b ≡ true
Behind b tokens (suc k) = slice_get tokens k ≡ Some Slash

abbrev BadAt : Bool → List Token → ℕ → Numeral → Type 0
BadAt b tokens k n = (n.value ≡ None) ⊎ (Behind b tokens k × IsZero n)

slash_is : (t : Token) → Some t ≡ Some Slash → is_slash t ≡ true
slash_is t is = cc

is_slash_of : (t : Token) → is_slash t ≡ true → Some t ≡ Some Slash
is_slash_of Slash is = refl
is_slash_of (Signed s) is = cc is
is_slash_of Star is = cc is
is_slash_of Open is = cc is
is_slash_of Close is = cc is
is_slash_of Bar is = cc is
is_slash_of (Relates r) is = cc is
is_slash_of (Named x) is = cc is
is_slash_of (Number n) is = cc is
is_slash_of (Const c) is = cc is
is_slash_of Bad is = cc is

behind_in : (b : Bool) (t : Token) (ts : List Token) (k : ℕ) → Behind b (t ∷ ts) (suc k) → Behind (is_slash t) ts k
behind_in b t ts zero is = slash_is t is
behind_in b t ts (suc k) is = is

behind_out : (b : Bool) (t : Token) (ts : List Token) (k : ℕ) → Behind (is_slash t) ts k → Behind b (t ∷ ts) (suc k)
behind_out b t ts zero is = is_slash_of t is
behind_out b t ts (suc k) is = is

zero_is : (o : Option Decimal) (d : Decimal) → o ≡ Some d → d.digits ≡ 0 → is_zero o ≡ true
zero_is (Some e) d is none = let same : e.digits ≡ 0 = cc in ap (λ n. n == 0) same
zero_is None d is none = cc is

bad_true : (b : Bool) (tokens : List Token) (n : Numeral) → BadAt b tokens zero n → is_bad_literal b (Number n) ≡ true
bad_true b tokens n (inl none) = ap (λ o. is_missing o || (b && is_zero o)) none
bad_true b tokens n (inr z) = ap (λ o. is_missing o || (b && is_zero o)) z.1.1 ∙ ap (λ c. c && is_zero (Some z.1.0)) z.0 ∙ zero_is (Some z.1.0) z.1.0 refl z.1.2

bad_of_zero : (b : Bool) (o : Option Decimal) → (is_missing o || (b && is_zero o)) ≡ true → (o ≡ None) ⊎ ((b ≡ true) × ((d : Decimal) × (o ≡ Some d)
    × (d.digits ≡ 0)))
bad_of_zero b None is = inl refl
bad_of_zero true (Some d) is = inr (refl, (d, refl, eqb-true d.digits 0 is))
bad_of_zero false (Some d) is = cc is

number_at : (t : Token) (n : Numeral) → Some t ≡ Some (Number n) → t ≡ Number n
number_at t n is = cc

to_hit : (b : Bool) (tokens : List Token) (k : ℕ) (n : Numeral) → slice_get tokens k ≡ Some (Number n) → BadAt b tokens k n
    → hits is_bad_literal b tokens k ≡ true
to_hit b [] zero n there bad = cc there
to_hit b [] (suc k) n there bad = cc there
to_hit b (t ∷ ts) zero n there bad = subst (λ u. is_bad_literal b u ≡ true) (sym (number_at t n there)) (bad_true b (t ∷ ts) n bad)
to_hit b (t ∷ ts) (suc k) n there (inl none) = to_hit (is_slash t) ts k n there (inl none)
to_hit b (t ∷ ts) (suc k) n there (inr z) = to_hit (is_slash t) ts k n there (inr (behind_in b t ts k z.0, z.1))

bad_here : (b : Bool) (t : Token) (ts : List Token) → is_bad_literal b t ≡ true → (n : Numeral) × (Some t ≡ Some (Number n)) × BadAt b (t ∷ ts) zero n
bad_here b (Number n) ts is = (n, refl, bad_of_zero b n.value is)
bad_here b (Signed s) ts is = cc is
bad_here b Star ts is = cc is
bad_here b Slash ts is = cc is
bad_here b Open ts is = cc is
bad_here b Close ts is = cc is
bad_here b Bar ts is = cc is
bad_here b (Relates r) ts is = cc is
bad_here b (Named x) ts is = cc is
bad_here b (Const c) ts is = cc is
bad_here b Bad ts is = cc is

bad_out : (b : Bool) (t : Token) (ts : List Token) (k : ℕ) (n : Numeral) → BadAt (is_slash t) ts k n → BadAt b (t ∷ ts) (suc k) n
bad_out b t ts k n (inl none) = inl none
bad_out b t ts k n (inr z) = inr (behind_out b t ts k z.0, z.1)

from_hit : (b : Bool) (tokens : List Token) (k : ℕ) → hits is_bad_literal b tokens k ≡ true → (n : Numeral) × (slice_get tokens k ≡ Some (Number n))
    × BadAt b tokens k n
from_hit b [] k is = cc is
from_hit b (t ∷ ts) zero is = bad_here b t ts is
from_hit b (t ∷ ts) (suc k) is = let rest = from_hit (is_slash t) ts k is in (rest.0, rest.1, bad_out b t ts k rest.0 rest.2)

-- at the start of a text nothing stands in front
start_out : (tokens : List Token) (k : ℕ) (n : Numeral) → BadAt false tokens k n → (n.value ≡ None) ⊎ (IsBehindSlash tokens k × IsZero n)
start_out tokens k n (inl none) = inl none
start_out tokens zero n (inr z) = cc z.0
start_out tokens (suc k) n (inr z) = inr ((k, refl, z.0), z.1)

start_behind : (tokens : List Token) (k : ℕ) → IsBehindSlash tokens k → Behind false tokens k
start_behind tokens k is = subst (λ j. Behind false tokens j) (sym is.1) is.2

start_in : (tokens : List Token) (k : ℕ) (n : Numeral) → (n.value ≡ None) ⊎ (IsBehindSlash tokens k × IsZero n) → BadAt false tokens k n
start_in tokens k n (inl none) = inl none
start_in tokens k n (inr z) = inr (start_behind tokens k z.0, z.1)

literal_told : IsTold is_bad_literal false IsBadLiteral
literal_told = record {
  fact = λ tokens k is. let found = from_hit false tokens k is in record { number = found.0; there = found.1; bad = start_out tokens k found.0 found.2 };
  test_is = λ tokens k bad. to_hit false tokens k bad.number bad.there (start_in tokens k bad.number bad.bad);
}

pub literal_some : (placed : List Placed) (at : ℕ) → (literal_fault placed ≡ Some at) ↔ IsFirstAt IsBadLiteral placed at
literal_some placed at = told_exact is_bad_literal false IsBadLiteral placed at literal_told

pub literal_none : (placed : List Placed) → literal_fault placed ≡ None → (k : ℕ) → ¬ IsBadLiteral (tokens_in placed) k
literal_none placed is = told_none is_bad_literal false IsBadLiteral placed literal_told is

-- ---- names

abbrev unknown_test : Bool → Token → Bool
unknown_test b t = is_unknown t

unknown_by : (b : Bool) (placed : List Placed) → unknown_fault placed ≡ first_by unknown_test b placed
unknown_by b [] = refl
unknown_by b (p ∷ ps) = ap (λ o. if is_unknown p.token then Some p.at else o) (unknown_by (is_slash p.token) ps)

place_missing : (x : Option ℕ) → is_place_missing x ≡ true → x ≡ None
place_missing None is = refl
place_missing (Some j) is = cc is

unknown_here : (t : Token) → is_unknown t ≡ true → Some t ≡ Some (Named None)
unknown_here (Named x) is = ap (λ y. Some (Named y)) (place_missing x is)
unknown_here (Number n) is = cc is
unknown_here (Signed s) is = cc is
unknown_here Star is = cc is
unknown_here Slash is = cc is
unknown_here Open is = cc is
unknown_here Close is = cc is
unknown_here Bar is = cc is
unknown_here (Relates r) is = cc is
unknown_here (Const c) is = cc is
unknown_here Bad is = cc is

named_at : (t : Token) → Some t ≡ Some (Named None) → is_unknown t ≡ true
named_at t is = cc

unknown_from : (b : Bool) (tokens : List Token) (k : ℕ) → hits unknown_test b tokens k ≡ true → IsUnknown tokens k
unknown_from b [] k is = cc is
unknown_from b (t ∷ ts) zero is = unknown_here t is
unknown_from b (t ∷ ts) (suc k) is = unknown_from (is_slash t) ts k is

unknown_to : (b : Bool) (tokens : List Token) (k : ℕ) → IsUnknown tokens k → hits unknown_test b tokens k ≡ true
unknown_to b [] zero is = cc is
unknown_to b [] (suc k) is = cc is
unknown_to b (t ∷ ts) zero is = named_at t is
unknown_to b (t ∷ ts) (suc k) is = unknown_to (is_slash t) ts k is

unknown_told : IsTold unknown_test false IsUnknown
unknown_told = record { fact = unknown_from false; test_is = unknown_to false }

pub unknown_some : (placed : List Placed) (at : ℕ) → (unknown_fault placed ≡ Some at) ↔ IsFirstAt IsUnknown placed at
unknown_some placed at = subst (λ o. (o ≡ Some at) ↔ IsFirstAt IsUnknown placed at) (sym (unknown_by false placed)) (told_exact unknown_test false
    IsUnknown placed at unknown_told)

pub unknown_none : (placed : List Placed) → unknown_fault placed ≡ None → (k : ℕ) → ¬ IsUnknown (tokens_in placed) k
unknown_none placed is = told_none unknown_test false IsUnknown placed unknown_told (sym (unknown_by false placed) ∙ is)
