-- Names that are eliminated, by the places of their columns.
use Rattle.std.proofs.Common.{◌≡◌, refl, sym, ap, subst, ◌∙◌, ℕ, zero, suc, pred, ◌<◌, Bool, true, false, ◌||◌, cond, List, [], ◌∷◌, length, arith}
use Rattle.std.specs.List.{list_any}
use Rattle.std.specs.Str.{bytes_eq}
use Rattle.pa_ring.specs.Sums.{without}
use Rattle.pa_meaning.specs.Rows.{Row}
use Rattle.pa_meaning.specs.Contracts.{Name}
use Rattle.pa_witness.specs.Steps.{Version, stepped}
use Rattle.pa_witness.specs.Thinning.{Dropped, thinned, ThinningHolds}
use Rattle.pa_witness.specs.Projection.{AreThere, place_of, projected, StepsHold}
use Rattle.pa_witness.specs.Columns.{projected_columns, ColumnStepsHold}

-- the places of these names, each in the list that is left when its turn comes
abbrev pub places_for : List Name → List Name → List ℕ
places_for names [] = []
places_for names (g ∷ gone) = place_of g names ∷ places_for (without (place_of g names) names) gone

pub length-without : {A : Type 0} (k : ℕ) (xs : List A) → k < length xs → length (without k xs) ≡ pred (length xs)
length-without k [] h = absurd (omega arith)
length-without zero (x ∷ xs) h = refl
length-without (suc k) (x ∷ []) h = absurd (omega arith)
length-without (suc k) (x ∷ y ∷ xs) h = ap suc (length-without k (y ∷ xs) (omega arith))

pub place_below : (g : Name) (names : List Name) → list_any (bytes_eq g) names ≡ true → place_of g names < length names
place_below g [] h = absurd (cc)
place_below g (n ∷ ns) h = by (bytes_eq g n) h (place_below g ns)
  where
    by : (b : Bool) → (b || list_any (bytes_eq g) ns) ≡ true → (list_any (bytes_eq g) ns ≡ true → place_of g ns < length ns)
        → cond b 0 (suc (place_of g ns)) < suc (length ns)
    by true h rest = omega arith
    by false h rest = let less = rest h in omega arith

pub one_less : (g : Name) (names : List Name) → list_any (bytes_eq g) names ≡ true → length (without (place_of g names) names) ≡ pred (length names)
one_less g names h = length-without (place_of g names) names (place_below g names h)

-- the rows that are left are those of the columns
pub projected_by_columns : (v : Version) (names : List Name) (rows : List Row) (gone : List Name) (steps : List (List Dropped)) → AreThere names gone
    → projected v names rows gone steps ≡ projected_columns v (length names) rows (places_for names gone) steps
projected_by_columns v names rows [] steps there = refl
projected_by_columns v names rows (g ∷ gone) [] there = refl
projected_by_columns v names rows (g ∷ gone) (drops ∷ steps) there =
    let left : List Name = without (place_of g names) names in
    projected_by_columns v left (thinned (length left) (stepped v (place_of g names) rows) drops) gone steps there.1
    ∙ ap (λ n. projected_columns v n (thinned n (stepped v (place_of g names) rows) drops) (places_for left gone) steps) (one_less g names there.0)

-- steps that hold for the columns hold for the names
pub steps_by_columns : (v : Version) (most : ℕ) (names : List Name) (rows : List Row) (gone : List Name) (steps : List (List Dropped)) → AreThere names gone
    → ColumnStepsHold v most (length names) rows (places_for names gone) steps → StepsHold v most names rows gone steps
steps_by_columns v most names rows [] [] there h = tt
steps_by_columns v most names rows [] (drops ∷ steps) there h = h
steps_by_columns v most names rows (g ∷ gone) [] there h = h
steps_by_columns v most names rows (g ∷ gone) (drops ∷ steps) there h =
    let left : List Name = without (place_of g names) names in
    let made : List Row = stepped v (place_of g names) rows in
    let fewer : pred (length names) ≡ length left = sym (one_less g names there.0) in (
      h.0,
      subst (λ n. ThinningHolds n made [] drops) fewer h.1,
      steps_by_columns v most left (thinned (length left) made drops) gone steps there.1
          (subst (λ n. ColumnStepsHold v most n (thinned n made drops) (places_for left gone) steps) fewer h.2),
    )
