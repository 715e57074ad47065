-- What the tests say of pieces is what holds as printed of whole answers.
use Rattle.std.proofs.Common.{◌≡◌, refl, sym, ap, ◌∙◌, subst, ℕ, zero, suc, ◌<◌, List, [], ◌∷◌, ◌++◌, length, map, get_or, not, ◌↔◌, arith}
use Rattle.std.proofs.lemmas.List.{length-map}
use Rattle.pa_meaning.specs.Rows.{Row, row_at}
use Rattle.pa_meaning.specs.Directions.{Stuck, Sticks}
use Rattle.pa_meaning.specs.Contracts.{Name, Contract, over_names}
use Rattle.pa_meaning.specs.Composition.{all_outputs, assumptions_over, guarantees_where, is_listed, part_at, stuck_row, IsPlaced, IsCircle}
use Rattle.pa_witness.specs.Thinning.{Dropped, cleaned, ThinningHolds}
use Rattle.pa_check.specs.Drops.{DropsStand}
use Rattle.pa_check.specs.StuckRows.{rows_at, AreStuck}

-- drops of a cleaned list, with a context behind it, hold where the thinning does
pub thinning_stands : (n : ℕ) (rows context : List Row) (drops : List Dropped) → DropsStand (cleaned n rows ++ context) (length (cleaned n rows)) drops
    ↔ ThinningHolds n rows context drops
thinning_stands n rows context drops = (
  λ h. record { ascending = h.ascending; placed = h.placed; shown = h.shown },
  λ h. record { ascending = h.ascending; placed = h.placed; shown = h.shown },
)

-- the assumptions of the parts over these names
abbrev assumed : List Name → List Contract → List (List Row)
assumed names parts = map (assumptions_over names) parts

rows_of_part : (names : List Name) (parts : List Contract) (i : ℕ) → rows_at (assumed names parts) i ≡ assumptions_over names (part_at parts i)
rows_of_part names [] i = refl
rows_of_part names (p ∷ parts) zero = refl
rows_of_part names (p ∷ parts) (suc i) = rows_of_part names parts i

rows_count : (names : List Name) (parts : List Contract) (i : ℕ) → length (rows_at (assumed names parts) i) ≡ length (part_at parts i).assumptions
rows_count names parts i = ap length (rows_of_part names parts i) ∙ length-map (part_at parts i).assumptions (over_names (part_at parts i).inputs names)

-- the guarantees of the parts that are not listed
abbrev unlisted : List Contract → List Stuck → List Row
unlisted parts stuck = guarantees_where (all_outputs parts) (λ i. not (is_listed stuck i)) 0 parts

-- rows that are stuck over the guarantees of the parts that are not listed are a circle
pub circle_stands : (parts : List Contract) (stuck : List Stuck) → AreStuck (unlisted parts stuck) (assumed (all_outputs parts) parts) stuck
    ↔ IsCircle parts stuck
circle_stands parts stuck = (to, from)
  where
    to : AreStuck (unlisted parts stuck) (assumed (all_outputs parts) parts) stuck → IsCircle parts stuck
    to h = record {
      some = h.some;
      ascending = h.ascending;
      placed = λ k d l. record {
        part = subst (λ n. (get_or stuck k d).part < n) (length-map parts (assumptions_over (all_outputs parts))) (h.parts_placed k d l);
        row = subst (λ n. (get_or stuck k d).row < n) (rows_count (all_outputs parts) parts (get_or stuck k d).part) (h.rows_placed k d l);
      };
      sticks = λ k d l. subst (λ rows. Sticks (get_or stuck k d).direction (unlisted parts stuck) (row_at rows (get_or stuck k d).row))
          (rows_of_part (all_outputs parts) parts (get_or stuck k d).part) (h.sticks k d l);
    }

    from : IsCircle parts stuck → AreStuck (unlisted parts stuck) (assumed (all_outputs parts) parts) stuck
    from h = record {
      some = h.some;
      ascending = h.ascending;
      parts_placed = λ k d l. subst (λ n. (get_or stuck k d).part < n) (sym (length-map parts (assumptions_over (all_outputs parts)))) (h.placed k d l).part;
      rows_placed = λ k d l. subst (λ n. (get_or stuck k d).row < n) (sym (rows_count (all_outputs parts) parts (get_or stuck k d).part)) (h.placed k d l).row;
      sticks = λ k d l. subst (λ rows. Sticks (get_or stuck k d).direction (unlisted parts stuck) (row_at rows (get_or stuck k d).row))
          (sym (rows_of_part (all_outputs parts) parts (get_or stuck k d).part)) (h.sticks k d l);
    }
