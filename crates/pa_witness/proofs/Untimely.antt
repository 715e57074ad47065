-- A part that is tried in vain in each round before its own is not discharged before it.
use Rattle.std.proofs.Common.{◌≡◌, sym, subst, ℕ, zero, suc, ◌<◌, ◌≤◌, ◌⊎◌, inl, inr, true, nat_lt, lt-ltb, List, length, All, Contains, arith}
use Rattle.std.proofs.lemmas.List.{length-map}
use Rattle.std.proofs.lemmas.List.Elements.{All-weaker, All-contains}
use lib.IntN.{ℤ, pos}
use lib.Signed.{◌≤ℤ◌}
use Rattle.pa_ring.specs.Sums.{dot}
use Rattle.pa_meaning.specs.Rows.{Row, row_at}
use Rattle.pa_meaning.specs.Weights.{Weights}
use Rattle.pa_meaning.specs.Contracts.{Name, Contract, over_names}
use Rattle.pa_meaning.specs.Directions.{Sticks, Makes}
use Rattle.pa_meaning.specs.Composition.{assumptions_over, guarantees_over, part_at, all_outputs, AreGuaranteesOf, IsDischargedBefore, guarantees_where}
use Rattle.pa_meaning.proofs.Directions.{stuck_without_weights, chosen, at_row}

module _ (parts : List Contract) (round : ℕ → ℕ) where
  -- a direction sticks some assumption of the part over the guarantees of the parts of rounds before r
  pub record IsTriedInVain (r i : ℕ) : Type 0 where
    pub row : ℕ
    pub direction : List ℤ
    pub placed : row < length (part_at parts i).assumptions
    pub sticks : Sticks direction (guarantees_where (all_outputs parts) (λ j. nat_lt (round j) r) 0 parts)
        (row_at (assumptions_over (all_outputs parts) (part_at parts i)) row)

  earlier_or : (j r : ℕ) → (round j < r) ⊎ (r ≤ round j)
  earlier_or j r = grind arith

  abbrev IsFrom : ℕ → Row → Type 0
  IsFrom r g = (j : ℕ) × IsDischargedBefore parts r j × (j < length parts) × Contains (guarantees_over (all_outputs parts) (part_at parts j)) g

  level_from : (r : ℕ) → ((j : ℕ) → r ≤ round j → ¬ IsDischargedBefore parts r j) → (d : List ℤ)
      → All (λ g. dot g.c d ≤ℤ pos 0) (guarantees_where (all_outputs parts) (λ j. nat_lt (round j) r) 0 parts)
      → (g : Row) → IsFrom r g → dot g.c d ≤ℤ pos 0
  level_from r earlier d level g (j, before, there, within) = by (earlier_or j r)
    where
      by : (round j < r) ⊎ (r ≤ round j) → dot g.c d ≤ℤ pos 0
      by (inl less) = All-contains (λ g. dot g.c d ≤ℤ pos 0) (guarantees_over (all_outputs parts) (part_at parts j)) g
          (chosen (λ g. dot g.c d ≤ℤ pos 0) (all_outputs parts) (λ j. nat_lt (round j) r) 0 parts j there
          (subst (λ k. nat_lt (round k) r ≡ true) (omega arith) (lt-ltb (round j) r less)) level) within
      by (inr le) = absurd (earlier j le before)

  step : (r : ℕ) → ((j : ℕ) → r ≤ round j → ¬ IsDischargedBefore parts r j) → (i : ℕ) → r < round i → IsTriedInVain r i → ¬ IsDischargedBefore parts (suc r) i
  step r earlier i less tried (inl h) = earlier i (omega arith) h
  step r earlier i less tried (inr (there, all)) =
      let names : List Name = all_outputs parts in
      let p : Contract = part_at parts i in
      let long : length (assumptions_over names p) ≡ length p.assumptions = length-map p.assumptions (over_names p.inputs names) in
      let (rows, w, from, makes) =
      at_row (λ t. (rows : List Row) × (w : Weights) × AreGuaranteesOf parts (IsDischargedBefore parts r) rows × Makes w rows t) (assumptions_over names p)
      tried.row (subst (λ n. tried.row < n) (sym long) tried.placed) all in
      stuck_without_weights tried.direction rows (row_at (assumptions_over names p) tried.row) w (record {
        level = All-weaker (IsFrom r) (λ g. dot g.c tried.direction ≤ℤ pos 0) (level_from r earlier tried.direction tried.sticks.level) rows from;
        rises = tried.sticks.rises;
      }) makes

  -- No part is discharged before its round, where it is tried in vain in each round before it.
  pub not_before : ((r i : ℕ) → r < round i → IsTriedInVain r i) → (r i : ℕ) → r ≤ round i → ¬ IsDischargedBefore parts r i
  not_before tried zero i le = λ h. h
  not_before tried (suc r) i le = let earlier = not_before tried r in step r earlier i (omega arith) (tried r i (omega arith))
