-- Directions: where one sticks a row there are no weights, and the row can be broken.
use Rattle.std.proofs.Common.{◌≡◌, refl, sym, ap, subst, ◌∙◌, ℕ, zero, suc, ◌+◌, ◌<◌, inl, inr, Bool, true, false, not, ◌||◌, cond, eqb, List, [], ◌∷◌}
use Rattle.std.proofs.Common.{length, map, All, Contains, arith}
use Rattle.std.proofs.lemmas.Int.{ints}
use Rattle.std.proofs.lemmas.Bool.Decides.{Decides-eqb}
use Rattle.std.proofs.lemmas.List.Elements.{All-nil, All-cons, All-head, All-tail, All-weaker, All-contains}
use Rattle.std.proofs.lemmas.List.{length-map}
use Rattle.std.specs.List.{list_any, IsDistinct}
use Rattle.std.specs.Str.{bytes_eq}
use lib.IntN.{ℤ, pos, ◌+ℤ◌, ◌*ℤ◌}
use lib.Signed.{◌≤ℤ◌, ◌<ℤ◌}
use Rattle.pa_ring.specs.Sums.{dot, times}
use Rattle.pa_ring.proofs.Integers.{gap, ◌·◌, ◌∔◌, ◌⊙◌}
use Rattle.pa_ring.proofs.IntegerTactics.{by_le, by_ring, reads}
use Rattle.pa_ring.proofs.Lists.{All-from_contains, All-from_flat_map, All-from_map, All-append_left, All-append_right}
use Rattle.pa_ring.proofs.Sums.{dot-sum_of, dot-times, dot_same}
use Rattle.pa_math.specs.Lists.{AreAmong, AreApart}
use Rattle.pa_math.proofs.Unions.{IsDistinct-apart, IsDistinct-left, All-parts}
use Rattle.pa_meaning.specs.Rows.{Row, row_at}
use Rattle.pa_meaning.specs.Weights.{Weights, combined, NoneNegative}
use Rattle.pa_meaning.specs.Contracts.{Name, Contract, ports, Behaviour, Extends, coefficient_at, over_names, MeetsGuarantees}
use Rattle.pa_meaning.specs.Directions.{Sticks, Makes}
use Rattle.pa_meaning.specs.Composition.{assumptions_over, guarantees_over, part_at, all_outputs, external_inputs, names_of, AreGuaranteesOf}
use Rattle.pa_meaning.specs.Composition.{IsDischargedBefore, Stuck, stuck_row, IsPlaced, IsStuckForGood, is_listed, guarantees_where, IsCircle}
use Rattle.pa_meaning.specs.Composition.{IsBrokenSomewhere, AreNeverDischarged}
use Rattle.pa_meaning.proofs.Places.{coefficient_at-absent}
use Rattle.pa_meaning.proofs.PartRows.{FitsNames}
use Rattle.pa_meaning.proofs.CompositionPorts.{names_distinct, parts_fit}
use Rattle.pa_meaning.proofs.Moves.{moved, all_met_moved, broken_moved, slope_is, row_at-map, among_from}

-- ---- no weights
level_at : (rows : List Row) (d : List ℤ) (i : ℕ) → All (λ r. dot r.c d ≤ℤ pos 0) rows → dot (row_at rows i).c d ≤ℤ pos 0
level_at [] d i h = omega (arith, ints)
level_at (r ∷ rows) d zero h = All-head (λ r. dot r.c d ≤ℤ pos 0) r rows h
level_at (r ∷ rows) d (suc i) h = level_at rows d i (All-tail (λ r. dot r.c d ≤ℤ pos 0) r rows h)

combined_level : (parts : List (ℕ × ℤ)) (rows : List Row) (d : List ℤ) → NoneNegative parts → All (λ r. dot r.c d ≤ℤ pos 0) rows
    → dot (combined parts rows).c d ≤ℤ pos 0
combined_level [] rows d n h = omega (arith, ints)
combined_level (w ∷ ws) rows d n h =
    let now = level_at rows d w.0 h in
    let rest = combined_level ws rows d (All-tail (λ part. pos 0 ≤ℤ part.1) w ws n) h in
    let weight : pos 0 ≤ℤ w.1 = All-head (λ part. pos 0 ≤ℤ part.1) w ws n in
    rw (dot-sum_of (times w.1 (row_at rows w.0).c) (combined ws rows).c d, dot-times w.1 (row_at rows w.0).c d)
    (by_le (w.1 ∷ dot (row_at rows w.0).c d ∷ dot (combined ws rows).c d ∷ []) (weight · gap now ∔ gap rest) (search reads depth 40) tt)

-- Where a direction sticks a row, no weights make it.
pub stuck_without_weights : (d : List ℤ) (rows : List Row) (t : Row) (w : Weights) → Sticks d rows t → Makes w rows t → ⊥
stuck_without_weights d rows t w s m =
    let level = combined_level w.parts rows d m.weights s.level in
    let same : dot (combined w.parts rows).c d ≡ w.den *ℤ dot t.c d = dot_same (combined w.parts rows).c (times w.den t.c) d m.coefficients
    ∙ dot-times w.den t.c d in
    let up : pos 0 <ℤ (w.den *ℤ dot t.c d) = m.positive ⊙ s.rises in
    absurd (omega (arith, ints))

-- ---- rows along a direction over some names
-- a direction over these names, in a composition with these names
module _ (wider columns : List Name) (d : List ℤ) (dw : IsDistinct bytes_eq wider) (dc : IsDistinct bytes_eq columns) (ac : AreAmong bytes_eq columns wider)
  where
    abbrev along : Name → ℤ
    along = coefficient_at columns d

    module _ (names : List Name) (dn : IsDistinct bytes_eq names) (an : AreAmong bytes_eq names wider) where
      slope_over : (r : Row) → dot (over_names names columns r).c d ≡ dot r.c (map along names)
      slope_over r = slope_is wider names columns r.c d dw dn dc an ac

      -- rows that do not rise in the columns stay met
      pub level_over : (rows : List Row) → All (λ r. dot r.c d ≤ℤ pos 0) (map (over_names names columns) rows)
          → All (λ r. dot r.c (map along names) ≤ℤ pos 0) rows
      level_over rows h =
          All-weaker (λ r. dot (over_names names columns r).c d ≤ℤ pos 0) (λ r. dot r.c (map along names) ≤ℤ pos 0)
          (λ r k. subst (λ t. t ≤ℤ pos 0) (slope_over r) k) rows
          (All-from_map (λ r. dot r.c d ≤ℤ pos 0) (over_names names columns) rows h)

      pub rises_over : (rows : List Row) (i : ℕ) → i < length rows → pos 0 <ℤ dot (row_at (map (over_names names columns) rows) i).c d
          → pos 0 <ℤ dot (row_at rows i).c (map along names)
      rises_over rows i less h = subst (λ t. pos 0 <ℤ t) (ap (λ (r : Row). dot r.c d) (row_at-map (over_names names columns) rows i less)
          ∙ slope_over (row_at rows i)) h

-- names that the direction does not have stay as they are
pub stays : (columns : List Name) (d : List ℤ) (v : Behaviour) (k : ℤ) (names : List Name) → AreApart bytes_eq names columns
    → Extends names v (moved v k (coefficient_at columns d))
stays columns d v k [] h = All-nil (λ n. (v.value n +ℤ k *ℤ coefficient_at columns d n) *ℤ v.den ≡ v.value n *ℤ v.den)
stays columns d v k (n ∷ ns) h =
    let here : (v.value n +ℤ k *ℤ coefficient_at columns d n) *ℤ v.den ≡ v.value n *ℤ v.den =
    ap (λ t. (v.value n +ℤ k *ℤ t) *ℤ v.den) (coefficient_at-absent columns d n h.0) ∙ by_ring (v.value n ∷ k ∷ v.den ∷ []) (search reads depth 40) tt in
    All-cons (λ n. (v.value n +ℤ k *ℤ coefficient_at columns d n) *ℤ v.den ≡ v.value n *ℤ v.den) n ns here (stays columns d v k ns h.1)

-- ---- a composite's assumption without weights is final
pub at_part : (P : Contract → Type 0) (parts : List Contract) (i : ℕ) → i < length parts → All P parts → P (part_at parts i)
at_part P [] i h all = absurd (omega arith)
at_part P (p ∷ parts) zero h all = All-head P p parts all
at_part P (p ∷ parts) (suc i) h all = at_part P parts i (omega arith) (All-tail P p parts all)

module _ (parts : List Contract) (distinct : All (λ p. IsDistinct bytes_eq (ports p)) parts) (apart : IsDistinct bytes_eq (all_outputs parts)) where
  different : IsDistinct bytes_eq (names_of parts)
  different = names_distinct parts apart

  outputs_among : AreAmong bytes_eq (all_outputs parts) (names_of parts)
  outputs_among = (All-parts (λ n. list_any (bytes_eq n) (names_of parts) ≡ true) (external_inputs parts) (all_outputs parts)
      (among_from (names_of parts) (names_of parts) (λ n i. i))).1

  part_fit : (p : Contract) → Contains parts p → FitsNames (names_of parts) p
  part_fit p i = All-contains (FitsNames (names_of parts)) parts p (parts_fit parts distinct) i

  -- A direction that sticks an assumption over all guarantees leads from each behaviour that meets these to one that
  -- does so too and breaks the assumption.
  pub stuck_is_broken : (s : Stuck) → IsStuckForGood parts s → IsBrokenSomewhere parts s.part s.row
  stuck_is_broken s h v met =
      let p : Contract = part_at parts s.part in
      let fit : FitsNames (names_of parts) p = at_part (FitsNames (names_of parts)) parts s.part h.placed.part (parts_fit parts distinct) in
      let e : Name → ℤ = coefficient_at (all_outputs parts) s.direction in
      let rises = rises_over (names_of parts) (all_outputs parts) s.direction different apart outputs_among p.inputs
      (IsDistinct-left bytes_eq p.inputs p.outputs fit.distinct)
      (All-parts (λ n. list_any (bytes_eq n) (names_of parts) ≡ true) p.inputs p.outputs fit.among).0 p.assumptions s.row h.placed.row h.sticks.rises in
      let (k, up, broken) = broken_moved p.inputs (row_at p.assumptions s.row) v e rises in (
        moved v k e,
        stays (all_outputs parts) s.direction v k (external_inputs parts) (IsDistinct-apart bytes_eq (external_inputs parts) (all_outputs parts) different),
        All-from_contains (λ p. MeetsGuarantees p (moved v k e)) parts (λ p i.
            all_met_moved (ports p) p.guarantees v k e up
            (level_over (names_of parts) (all_outputs parts) s.direction different apart outputs_among (ports p) (part_fit p i).distinct
            (part_fit p i).among p.guarantees
            (All-contains (λ p. All (λ r. dot r.c s.direction ≤ℤ pos 0) (guarantees_over (all_outputs parts) p)) parts p
            (All-from_flat_map (λ r. dot r.c s.direction ≤ℤ pos 0) (guarantees_over (all_outputs parts)) parts h.sticks.level) i))
            (All-contains (λ p. MeetsGuarantees p v) parts p met i)),
        broken,
      )

-- ---- a circle is final
by_test : {X : Type 0} (t : Bool) → (t ≡ true → X) → (t ≡ false → X) → X
by_test true f g = f refl
by_test false f g = g refl

-- what holds of the chosen guarantees holds of those of each chosen part
pub chosen : (P : Row → Type 0) (names : List Name) (test : ℕ → Bool) (i : ℕ) (parts : List Contract) (j : ℕ) → j < length parts → test (i + j) ≡ true
    → All P (guarantees_where names test i parts) → All P (guarantees_over names (part_at parts j))
chosen P names test i [] j less t h = absurd (omega arith)
chosen P names test i (p ∷ parts) zero less t h =
    let here : test i ≡ true = subst (λ k. test k ≡ true) (omega arith) t in
    subst (λ b. All P (cond b (guarantees_over names p) [])) here (All-append_left P (cond (test i) (guarantees_over names p) [])
    (guarantees_where names test (suc i) parts) h)
chosen P names test i (p ∷ parts) (suc j) less t h =
    chosen P names test (suc i) parts j (omega arith) (subst (λ k. test k ≡ true) (omega arith) t)
    (All-append_right P (cond (test i) (guarantees_over names p) []) (guarantees_where names test (suc i) parts) h)

-- the listed part at a place
listed_part : (Q : ℕ → Type 0) (stuck : List Stuck) (i : ℕ) → is_listed stuck i ≡ true → All (λ s. Q s.part) stuck → Q i
listed_part Q [] i t h = absurd (cc)
listed_part Q (s ∷ stuck) i t h = by (eqb i s.part) refl t (listed_part Q stuck i)
  where
    by : (b : Bool) → eqb i s.part ≡ b → (b || is_listed stuck i) ≡ true → (is_listed stuck i ≡ true → All (λ s. Q s.part) stuck → Q i) → Q i
    by true e t rest = subst Q (sym ((Decides-eqb i s.part).0 e)) (All-head (λ (s : Stuck). Q s.part) s stuck h)
    by false e t rest = rest t (All-tail (λ (s : Stuck). Q s.part) s stuck h)

pub at_row : (P : Row → Type 0) (rows : List Row) (i : ℕ) → i < length rows → All P rows → P (row_at rows i)
at_row P [] i h all = absurd (omega arith)
at_row P (r ∷ rows) zero h all = All-head P r rows all
at_row P (r ∷ rows) (suc i) h all = at_row P rows i (omega arith) (All-tail P r rows all)

true_right : (a b : Bool) → b ≡ true → (a || b) ≡ true
true_right true b h = refl
true_right false b h = h

each_listed : (stuck : List Stuck) → All (λ s. is_listed stuck s.part ≡ true) stuck
each_listed [] = All-nil (λ (s : Stuck). is_listed [] s.part ≡ true)
each_listed (t ∷ stuck) =
    All-cons (λ (s : Stuck). is_listed (t ∷ stuck) s.part ≡ true) t stuck
    (ap (λ b. b || is_listed stuck t.part) ((Decides-eqb t.part t.part).1 refl))
    (All-weaker (λ (s : Stuck). is_listed stuck s.part ≡ true) (λ (s : Stuck). is_listed (t ∷ stuck) s.part ≡ true)
    (λ s h. true_right (eqb s.part t.part) (is_listed stuck s.part) h) stuck (each_listed stuck))

module _ (parts : List Contract) (stuck : List Stuck) (circle : IsCircle parts stuck) where
  abbrev SticksHere : Stuck → Type 0
  SticksHere s = Sticks s.direction (guarantees_where (all_outputs parts) (λ i. not (is_listed stuck i)) 0 parts) (stuck_row parts s)

  -- a guarantee of a part that is discharged before, as no listed part is
  level_from : (r : ℕ) → ((j : ℕ) → is_listed stuck j ≡ true → ¬ IsDischargedBefore parts r j) → (s : Stuck) → SticksHere s → (g : Row)
      → (j : ℕ) × IsDischargedBefore parts r j × (j < length parts) × Contains (guarantees_over (all_outputs parts) (part_at parts j)) g
      → dot g.c s.direction ≤ℤ pos 0
  level_from r earlier s sticks g (j, before, there, within) =
      by_test (is_listed stuck j)
      (λ t. absurd (earlier j t before))
      (λ f. All-contains (λ g. dot g.c s.direction ≤ℤ pos 0) (guarantees_over (all_outputs parts) (part_at parts j)) g
      (chosen (λ g. dot g.c s.direction ≤ℤ pos 0) (all_outputs parts) (λ i. not (is_listed stuck i)) 0 parts j there
      (subst (λ k. not (is_listed stuck k) ≡ true) (omega arith) (ap not f)) sticks.level) within)

  -- a listed part has no weights over parts that are not listed
  not_made : (r : ℕ) → ((j : ℕ) → is_listed stuck j ≡ true → ¬ IsDischargedBefore parts r j) → (s : Stuck) → Contains stuck s
      → ¬ IsDischargedBefore parts (suc r) s.part
  not_made r earlier s i (inl h) = earlier s.part (All-contains (λ s. is_listed stuck s.part ≡ true) stuck s (each_listed stuck) i) h
  not_made r earlier s i (inr (less, all)) =
      let names : List Name = all_outputs parts in
      let p : Contract = part_at parts s.part in
      let placed : IsPlaced parts s = All-contains (IsPlaced parts) stuck s circle.placed i in
      let sticks : SticksHere s = All-contains SticksHere stuck s circle.sticks i in
      let long : length (assumptions_over names p) ≡ length p.assumptions = length-map p.assumptions (over_names p.inputs names) in
      let (rows, w, from, makes) =
      at_row (λ t. (rows : List Row) × (w : Weights) × AreGuaranteesOf parts (IsDischargedBefore parts r) rows × Makes w rows t) (assumptions_over names p)
      s.row (subst (λ n. s.row < n) (sym long) placed.row) all in
      stuck_without_weights s.direction rows (stuck_row parts s) w (record {
        level = All-weaker (λ g. (j : ℕ) × IsDischargedBefore parts r j × (j < length parts)
            × Contains (guarantees_over (all_outputs parts) (part_at parts j)) g) (λ g. dot g.c s.direction ≤ℤ pos 0) (level_from r earlier s sticks) rows from;
        rises = sticks.rises;
      }) makes

  never : (r j : ℕ) → is_listed stuck j ≡ true → ¬ IsDischargedBefore parts r j
  never zero j t = λ h. h
  never (suc r) j t =
      let earlier = never r in
      listed_part (λ j. ¬ IsDischargedBefore parts (suc r) j) stuck j t
      (All-from_contains (λ s. ¬ IsDischargedBefore parts (suc r) s.part) stuck (λ s i. not_made r earlier s i))

  -- No part of a circle is discharged in any round.
  pub circle_is_final : AreNeverDischarged parts stuck
  circle_is_final = All-weaker (λ s. is_listed stuck s.part ≡ true) (λ s. (r : ℕ) → ¬ IsDischargedBefore parts r s.part) (λ s t r. never r s.part t) stuck
      (each_listed stuck)
