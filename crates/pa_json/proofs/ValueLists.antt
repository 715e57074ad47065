-- Lists of names with their values.
use Rattle.std.proofs.Common.{◌≡◌, arith, ℤ, List, [], ◌∷◌, map, length, All, refl, sym, ap, ◌∙◌, subst}
use Rattle.std.proofs.lemmas.List.{length-map}
use Rattle.std.proofs.lemmas.List.Elements.{All-map}
use Rattle.pa_meaning.specs.Contracts.{Name}
use Rattle.pa_row.specs.Fractions.{IsFraction}
use Rattle.pa_contract.specs.Nominal.{IsNominal}

-- a list of no elements
pub nothing_left : {X : Type 0} (xs : List X) → length xs ≡ 0 → xs ≡ []
nothing_left [] is = refl
nothing_left (x ∷ xs) is = absurd (omega arith)

-- the values of pairs are as many as the names, and fractions where theirs are
pub nominal_of : (pairs : List (Name × (ℤ × ℤ))) (names : List Name) (values : List (ℤ × ℤ)) → All (λ pair. IsFraction pair.1) pairs
    → names ≡ map (λ pair. pair.0) pairs → values ≡ map (λ pair. pair.1) pairs → IsNominal (record { names = names; values = values })
nominal_of pairs names values fractions first second = record {
  each =
      ap length second ∙ length-map pairs (λ (pair : Name × (ℤ × ℤ)). pair.1)
      ∙ sym (length-map pairs (λ (pair : Name × (ℤ × ℤ)). pair.0)) ∙ ap length (sym first);
  fractions = subst (All IsFraction) (sym second) (All-map IsFraction (λ (pair : Name × (ℤ × ℤ)). pair.1) pairs fractions);
}
