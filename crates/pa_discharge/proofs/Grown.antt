-- The premises grow by the guarantees of the parts that were discharged in the last round, each at its place.
use Rattle.std.proofs.Common.{◌≡◌, ◌∙◌, ap, ap₂, sym, refl, ℕ, ◌+◌, ◌<◌, ◌≤◌, true, false, List, [], ◌∷◌, ◌++◌, length, map, drop, take, arith}
use Rattle.std.proofs.Common.{Option, Some, None, Bool, nat_eq, append_assoc, length-append, slice_get}
use Rattle.std.specs.Prelude.{sum_by, if◌then◌else◌}
use Rattle.std.proofs.lemmas.List.{drop_all}
use Rattle.std.proofs.lemmas.List.Sums.{sum_by-cons}
use Rattle.pa_math.specs.Answers.{given}
use Rattle.pa_meaning.specs.Rows.{Row}
use Rattle.pa_meaning.specs.Contracts.{Name, Contract}
use Rattle.pa_meaning.specs.Composition.{guarantees_over, part_at}
use Rattle.pa_contract.specs.Merge.{row_count}
use Rattle.pa_contract.proofs.Steps.{drop-slice_get}
use Rattle.pa_shift.specs.Shifting.{with_between}
use Rattle.pa_parts.specs.Composing.{Ports, names_in}
use Rattle.pa_parts.proofs.Rows.{guarantees_count, parts_from}
use Rattle.pa_discharge.specs.Rounds.{Brought}
use Rattle.pa_discharge.specs.Discharging.{discharged_rows}
use Rattle.pa_discharge.specs.Seen.{Grown, after_part, before, with_guarantees}

-- after a list, others are put between it and the rest
between : {A : Type 0} (done others rest : List A) → with_between (length done) others (done ++ rest) ≡ (done ++ others) ++ rest
between done others rest =
    ap₂ (λ l r. l ++ others ++ r) (take_front done rest) (drop_front done rest)
  where
    take_front : {A : Type 0} (xs ys : List A) → take (length xs) (xs ++ ys) ≡ xs
    take_front [] ys = refl
    take_front (x ∷ xs) ys = ap (λ l. x ∷ l) (take_front xs ys)

    drop_front : {A : Type 0} (xs ys : List A) → drop (length xs) (xs ++ ys) ≡ ys
    drop_front [] ys = refl
    drop_front (x ∷ xs) ys = drop_front xs ys

module _ (names : List Name) (ps : List Contract) (round : ℕ) (bs : List (Option Brought)) where
  -- The rows that are done are those of the parts before this place. Behind them stand, of the parts from it on, those that were discharged before this
  -- round; and these parts have no more rows than there is room for.
  pub record IsGrowing (i : ℕ) (g : Grown) : Type 0 where
    pub done : List Row
    pub rows : g.premises.rows ≡ done ++ discharged_rows names (drop i ps) (map (before round) (drop i bs))
    pub whole : done ++ discharged_rows names (drop i ps) (drop i bs) ≡ discharged_rows names ps bs
    pub place : g.place ≡ length done
    pub few : g.place + sum_by row_count (drop i ps) ≤ 4096

  pub grown_start : (g : Grown) → g.place ≡ 0 → g.premises.rows ≡ discharged_rows names ps (map (before round) bs) → sum_by row_count ps ≤ 4096
      → IsGrowing 0 g
  grown_start g at rows few = record { done = []; rows = rows; whole = refl; place = at; few = omega (arith, at, few) }

  pub grown_all : (i : ℕ) (g : Grown) → length ps ≤ i → IsGrowing i g → g.premises.rows ≡ discharged_rows names ps bs
  grown_all i g past is =
      is.rows ∙ ap (λ rest. is.done ++ discharged_rows names rest (map (before round) (drop i bs))) (drop_all i ps past)
      ∙ sym (ap (λ rest. is.done ++ discharged_rows names rest (drop i bs)) (drop_all i ps past)) ∙ is.whole

  pub inside : (i : ℕ) (g : Grown) → IsGrowing i g → g.place ≤ length g.premises.rows
  inside i g is =
      let both = ap length is.rows ∙ length-append is.done (discharged_rows names (drop i ps) (map (before round) (drop i bs))) in
      omega (arith, both, is.place)

  module _ (i : ℕ) (less : i < length ps) (g : Grown) where
    sum_here : sum_by row_count (drop i ps) ≡ row_count (part_at ps i) + sum_by row_count (drop (i + 1) ps)
    sum_here = ap (sum_by row_count) (parts_from ps i less) ∙ sum_by-cons row_count (part_at ps i) (drop (i + 1) ps)

    -- with the guarantees of the part at this place there is room for the rows of the rest
    more_few : (p : Contract) → p ≡ part_at ps i → IsGrowing i g → g.place + length p.guarantees + sum_by row_count (drop (i + 1) ps) ≤ 4096
    more_few p is now =
        let sum = sum_here in
        let same : length p.guarantees ≡ length (part_at ps i).guarantees = ap (λ q. length q.guarantees) is in
        let few = now.few in
        omega (arith, sum, same, few)

    pub few_here : (p : Contract) → p ≡ part_at ps i → IsGrowing i g → g.place + length p.guarantees ≤ 4096
    few_here p is now = (let few = more_few p is now in omega (arith, few))

    module _ (ports : Ports) (in_names : names_in ports ≡ names) (p : Contract) (is : p ≡ part_at ps i) (now : IsGrowing i g) where
      abbrev gs : List Row
      gs = guarantees_over names (part_at ps i)

      abbrev rest : List Row
      rest = discharged_rows names (drop (i + 1) ps) (drop (i + 1) bs)

      abbrev rest_before : List Row
      rest_before = discharged_rows names (drop (i + 1) ps) (map (before round) (drop (i + 1) bs))

      more_place : g.place + length p.guarantees ≡ length (now.done ++ gs)
      more_place =
          let both = length-append now.done gs in
          let count = guarantees_count names (part_at ps i) in
          let same : length p.guarantees ≡ length (part_at ps i).guarantees = ap (λ q. length q.guarantees) is in
          let place = now.place in
          omega (arith, both, count, same, place)

      -- a part that is not discharged has no rows
      more_none : slice_get bs i ≡ Some None → IsGrowing (i + 1) g
      more_none at = record {
        done = now.done;
        rows = now.rows ∙ ap (λ r. now.done ++ r)
            (ap₂ (λ l r. discharged_rows names l (map (before round) r)) (parts_from ps i less) (drop-slice_get bs i None at));
        whole = sym (ap (λ r. now.done ++ r) (ap₂ (discharged_rows names) (parts_from ps i less) (drop-slice_get bs i None at))) ∙ now.whole;
        place = now.place;
        few = (let few = more_few p is now in omega (arith, few));
      }

      -- a part that is discharged has its rows now, and had them before where it was discharged in an earlier round
      more_some : (b : Brought) → slice_get bs i ≡ Some (Some b) → IsGrowing (i + 1) (after_part ports round p (Some b) g)
      more_some b at = by (nat_eq b.round round) (now.rows ∙ ap (λ r. now.done ++ r)
          (ap₂ (λ l r. discharged_rows names l (map (before round) r)) (parts_from ps i less) (drop-slice_get bs i (Some b) at)))
        where
          whole_here : (now.done ++ gs) ++ rest ≡ discharged_rows names ps bs
          whole_here = append_assoc now.done gs rest
              ∙ sym (ap (λ r. now.done ++ r) (ap₂ (discharged_rows names) (parts_from ps i less) (drop-slice_get bs i (Some b) at))) ∙ now.whole

          by : (t : Bool) → g.premises.rows ≡ now.done ++ (given [] (if t then None else Some b) (λ b. gs) ++ rest_before)
              → IsGrowing (i + 1) (record {
                premises = if t then with_guarantees ports p g else g.premises;
                place = g.place + length p.guarantees;
              })
          by true rows = record {
            done = now.done ++ gs;
            rows = ap₂ (λ k rs. with_between k (guarantees_over (names_in ports) p) rs) now.place rows
                ∙ ap (λ rs. with_between (length now.done) rs (now.done ++ rest_before)) (ap₂ guarantees_over in_names is)
                ∙ between now.done gs rest_before;
            whole = whole_here;
            place = more_place;
            few = more_few p is now;
          }
          by false rows = record {
            done = now.done ++ gs;
            rows = rows ∙ sym (append_assoc now.done gs rest_before);
            whole = whole_here;
            place = more_place;
            few = more_few p is now;
          }

      pub grown_more : (b : Option Brought) → slice_get bs i ≡ Some b → IsGrowing (i + 1) (after_part ports round p b g)
      grown_more None at = more_none at
      grown_more (Some b) at = more_some b at

-- the nominal point stays
pub nominal_stays : (ports : Ports) (round : ℕ) (p : Contract) (b : Option Brought) (g : Grown)
    → (after_part ports round p b g).premises.nominal ≡ g.premises.nominal
nominal_stays ports round p None g = refl
nominal_stays ports round p (Some b) g = by (nat_eq b.round round)
  where
    by : (t : Bool) → (if t then with_guarantees ports p g else g.premises).nominal ≡ g.premises.nominal
    by true = refl
    by false = refl
