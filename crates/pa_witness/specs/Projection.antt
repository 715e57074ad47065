-- Several names eliminated one after another, each list thinned.
use Rattle.std.specs.Prelude.{◌≡◌, ℕ, suc, ◌≤◌, true, List, [], ◌∷◌, length, if◌then◌else◌}
use Rattle.std.specs.List.{list_any}
use Rattle.std.specs.Str.{bytes_eq}
use Rattle.pa_ring.specs.Sums.{without}
use Rattle.pa_meaning.specs.Rows.{Row}
use Rattle.pa_meaning.specs.Contracts.{Name}
use Rattle.pa_witness.specs.Thinning.{Dropped, thinned, ThinningHolds}
use Rattle.pa_witness.specs.Steps.{Version, stepped, step_count}

-- the place of a name in a list; the list's length where it is not there
abbrev pub place_of : Name → List Name → ℕ
place_of name [] = 0
place_of name (n ∷ ns) = if bytes_eq name n then 0 else suc (place_of name ns)

-- the names that are left once these are gone
abbrev pub names_left : List Name → List Name → List Name
names_left names [] = names
names_left names (g ∷ gone) = names_left (without (place_of g names) names) gone

-- the names are different names of the list, each still there when its turn comes
abbrev pub AreThere : List Name → List Name → Type 0
AreThere names [] = Unit {0}
AreThere names (g ∷ gone) = (list_any (bytes_eq g) names ≡ true) × AreThere (without (place_of g names) names) gone

-- the rows over the names, with the column of each of these eliminated in order, and each list thinned by its drops
abbrev pub projected : Version → List Name → List Row → List Name → List (List Dropped) → List Row
projected v names rows [] steps = rows
projected v names rows (g ∷ gone) [] = rows
projected v names rows (g ∷ gone) (drops ∷ steps) =
    let left : List Name = without (place_of g names) names in
    projected v left (thinned (length left) (stepped v (place_of g names) rows) drops) gone steps

-- there is a step for each name, its number of rows is within the limit, and its drops hold
abbrev pub StepsHold : Version → ℕ → List Name → List Row → List Name → List (List Dropped) → Type 0
StepsHold v most names rows [] [] = Unit {0}
StepsHold v most names rows [] (drops ∷ steps) = ⊥
StepsHold v most names rows (g ∷ gone) [] = ⊥
StepsHold v most names rows (g ∷ gone) (drops ∷ steps) =
    let left : List Name = without (place_of g names) names in
    let made : List Row = stepped v (place_of g names) rows in
    (step_count v (place_of g names) rows ≤ most) × ThinningHolds (length left) made [] drops
    × StepsHold v most left (thinned (length left) made drops) gone steps
