-- What is composed, part by part: the terms of the parts, their nominal values, and how long their rows are.
use Rattle.std.proofs.Common.{◌≡◌, ◌∙◌, ap, ap₂, sym, subst, ℕ, ◌+◌, ◌<◌, ◌≤◌, List, [], ◌∷◌, ◌++◌, length, map, drop, All, arith, length-append, append-nil}
use Rattle.std.proofs.lemmas.List.{map-append}
use Rattle.std.proofs.lemmas.List.Elements.{All-nil, All-cons, All-weaker}
use Rattle.pa_meaning.specs.Rows.{Row, Point}
use Rattle.pa_meaning.specs.Contracts.{Name, Contract}
use Rattle.pa_meaning.specs.Composition.{all_outputs, assumptions_over, external_inputs, guarantees_over, names_of, part_at}
use Rattle.pa_row.specs.Fractions.{IsFraction}
use Rattle.pa_contract.specs.Nominal.{Nominal, IsNominal, value_of}
use Rattle.pa_contract.proofs.Steps.{mapped_more}
use Rattle.pa_holds.specs.Composed.{all_guarantees}
use Rattle.pa_shift.specs.Shifting.{Premises, with_between}
use Rattle.pa_parts.proofs.Rows.{all_guarantees_long, guarantees_long, part_read}
use Rattle.pa_trial.proofs.AtNominal.{value_fraction}

-- the nominal value of each name is a fraction
pub values_are : (nominal : Nominal) (names : List Name) → IsNominal nominal → All IsFraction (map (value_of nominal) names)
values_are nominal [] is = All-nil IsFraction
values_are nominal (n ∷ names) is =
    All-cons IsFraction (value_of nominal n) (map (value_of nominal) names) (value_fraction nominal n is) (values_are nominal names is)

-- one more element, seen
pub seen_more : {V A : Type 0} (f : V → A) (now was : List V) (v : V) (a : A) (rest whole : List A) → now ≡ was ++ v ∷ [] → f v ≡ a
    → (map f was ++ a ∷ []) ++ rest ≡ whole → map f now ++ rest ≡ whole
seen_more f now was v a rest whole more is so_far =
    ap (λ vs. map f vs ++ rest) more ∙ ap (λ all. all ++ rest) (map-append f was (v ∷ [])) ∙ ap (λ b. (map f was ++ b ∷ []) ++ rest) is ∙ so_far

-- the assumptions of one part more
pub terms_more : (parts : List Contract) (i : ℕ) (names : List Name) (p : Contract) (done whole : List (List Row)) → i < length parts → p ≡ part_at parts i
    → done ++ map (assumptions_over names) (drop i parts) ≡ whole
    → (done ++ assumptions_over names p ∷ []) ++ map (assumptions_over names) (drop (i + 1) parts) ≡ whole
terms_more parts i names p done whole less is so_far =
    mapped_more (assumptions_over names) parts i p done whole less (is ∙ sym (part_read parts i p less)) so_far

-- the guarantees of a part are at least as long as a point over fewer names
pub guarantees_reach : (n : ℕ) (names : List Name) (p : Contract) → n ≤ length names → All (λ r. n ≤ length r.c) (guarantees_over names p)
guarantees_reach n names p less =
    All-weaker (λ (r : Row). length r.c ≡ length names) (λ (r : Row). n ≤ length r.c) (λ r is. subst (λ k. n ≤ k) (sym is) less)
    (guarantees_over names p) (guarantees_long names p)

-- the guarantees of all parts are at least as long as a point over the external inputs
pub all_reach : (n : ℕ) (parts : List Contract) → n ≡ length (external_inputs parts) → All (λ r. n ≤ length r.c) (all_guarantees parts)
all_reach n parts is =
    let both = length-append (external_inputs parts) (all_outputs parts) in
    All-weaker (λ (r : Row). length r.c ≡ length (names_of parts)) (λ (r : Row). n ≤ length r.c) (λ r fits. omega (arith, is, both, fits))
    (all_guarantees parts) (all_guarantees_long parts)

-- premises without rows, and these rows
pub premises_with : (x y : Point) (rows : List Row) (none all : Premises) → x ≡ y → none ≡ record { nominal = x; rows = [] }
    → all ≡ record { nominal = none.nominal; rows = with_between 0 rows none.rows } → all ≡ record { nominal = y; rows = rows }
premises_with x y rows none all same is more =
    more ∙ ap₂ (λ n rs. record { nominal = n; rows = rs }) (ap (λ (p : Premises). p.nominal) is ∙ same)
    (ap (λ (p : Premises). with_between 0 rows p.rows) is ∙ append-nil rows)
