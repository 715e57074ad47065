-- The names of a composition: they are different, and have every part's ports
use Rattle.std.proofs.Common.{◌≡◌, refl, Bool, true, false, not, List, [], ◌∷◌, filter, All}
use Rattle.std.proofs.lemmas.Cmp.{nat_list_eq_equiv}
use Rattle.std.proofs.lemmas.List.Elements.{All-nil, All-cons, All-weaker, All-append, All-contains, All-from_recursion, recursion_from_All}
use Rattle.std.specs.List.{list_any, IsDistinct}
use Rattle.std.specs.Str.{bytes_eq}
use Rattle.pa_ring.proofs.Lists.{All-from_contains, All-filter_where, All-from_filter, All-from_flat_map}
use Rattle.pa_math.proofs.Unions.{All-union, IsDistinct-union, IsDistinct-both, AreAmong-union, AreAmong-itself, list_any-left, list_any-right, distinct-nil}
use Rattle.pa_meaning.specs.Contracts.{Name, Contract, ports}
use Rattle.pa_meaning.specs.Composition.{is_among, all_inputs, all_outputs, external_inputs, names_of}
use Rattle.pa_meaning.proofs.PartRows.{FitsNames}

by_test : {X : Type 0} (t : Bool) → (t ≡ true → X) → (t ≡ false → X) → X
by_test true f g = f refl
by_test false f g = g refl

not_true : (b : Bool) → not b ≡ true → b ≡ false
not_true true h = absurd (cc)
not_true false h = refl

not_false : (b : Bool) → not b ≡ false → b ≡ true
not_false true h = refl
not_false false h = absurd (cc)

-- ---- external inputs and outputs
all_names : (P : Name → Type 0) (xs : List Name) → ((n : Name) → P n) → All P xs
all_names P [] h = All-nil P
all_names P (x ∷ xs) h = All-cons P x xs (h x) (all_names P xs h)

-- no two names of a composition are equal
pub names_distinct : (parts : List Contract) → IsDistinct bytes_eq (all_outputs parts) → IsDistinct bytes_eq (names_of parts)
names_distinct parts d =
    IsDistinct-both bytes_eq (external_inputs parts) (all_outputs parts)
    (IsDistinct-union bytes_eq nat_list_eq_equiv [] (filter free (all_inputs parts)) (distinct-nil bytes_eq)) d
    (All-union bytes_eq apart [] (filter free (all_inputs parts)) tt (recursion_from_All apart (filter free (all_inputs parts))
    (All-filter_where apart free (all_inputs parts) (all_names (λ n. free n ≡ true → apart n) (all_inputs parts)
    (λ n h. not_true (is_among (all_outputs parts) n) h)))))
  where
    free : Name → Bool
    free = λ n. not (is_among (all_outputs parts) n)

    apart : Name → Type 0
    apart = λ n. list_any (bytes_eq n) (all_outputs parts) ≡ false

-- the names have every part's inputs and outputs
abbrev IsThere : List Contract → Name → Type 0
IsThere parts n = list_any (bytes_eq n) (names_of parts) ≡ true

inputs_there : (parts : List Contract) → All (IsThere parts) (all_inputs parts)
inputs_there parts =
    All-weaker (λ n. free n ≡ true → external n) (IsThere parts) (λ n h. by_test (free n)
    (λ t. list_any-left (bytes_eq n) (external_inputs parts) (all_outputs parts) (h t))
    (λ f. list_any-right (bytes_eq n) (external_inputs parts) (all_outputs parts) (not_false (is_among (all_outputs parts) n) f)))
    (all_inputs parts)
    (All-from_filter external free (all_inputs parts) (All-from_recursion external (filter free (all_inputs parts))
    (AreAmong-union bytes_eq nat_list_eq_equiv.refl [] (filter free (all_inputs parts)))))
  where
    free : Name → Bool
    free = λ n. not (is_among (all_outputs parts) n)

    external : Name → Type 0
    external = λ n. list_any (bytes_eq n) (external_inputs parts) ≡ true

outputs_there : (parts : List Contract) → All (IsThere parts) (all_outputs parts)
outputs_there parts =
    All-weaker (λ n. list_any (bytes_eq n) (all_outputs parts) ≡ true) (IsThere parts)
    (λ n h. list_any-right (bytes_eq n) (external_inputs parts) (all_outputs parts) h) (all_outputs parts)
    (All-from_recursion (λ n. list_any (bytes_eq n) (all_outputs parts) ≡ true) (all_outputs parts)
    (AreAmong-itself bytes_eq nat_list_eq_equiv.refl (all_outputs parts)))

pub parts_fit : (parts : List Contract) → All (λ p. IsDistinct bytes_eq (ports p)) parts → All (FitsNames (names_of parts)) parts
parts_fit parts d = All-from_contains (FitsNames (names_of parts)) parts (λ p i. record {
  distinct = All-contains (λ p. IsDistinct bytes_eq (ports p)) parts p d i;
  among = recursion_from_All (IsThere parts) (ports p) (All-append (IsThere parts) p.inputs p.outputs
      (All-contains (λ p. All (IsThere parts) p.inputs) parts p (All-from_flat_map (IsThere parts) (λ p. p.inputs) parts (inputs_there parts)) i)
      (All-contains (λ p. All (IsThere parts) p.outputs) parts p (All-from_flat_map (IsThere parts) (λ p. p.outputs) parts (outputs_there parts)) i));
})
